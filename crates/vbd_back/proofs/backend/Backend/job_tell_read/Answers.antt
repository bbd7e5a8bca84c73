use Rattle.std.proofs.Common.{◌∙◌, ap, subst}
use Rattle.back_jobs.specs.Part.{words_read}
use Rattle.blk_back.specs.Hands.{hands_of}
use Rattle.vbd_back.specs.Part.{job_steps, JobMovesEach}
use Rattle.vbd_back.specs.View.{View}
use Rattle.vbd_back.proofs.Parts.{many_came}
use Rattle.vbd_back.proofs.backend.Backend.job_tell_read.Goals as goal

pub invariant_of-self : goal.invariant_of-self
invariant_of-self c = (many_came c.self.inside.back c.job_tell_read.new.self c.args.number (words_read c.args.words.now) c.self.invariant c.job_tell_read.ensures.stepped c.job_tell_read.ensures.each).plain

pub returns-clause-stepped : goal.returns-clause-stepped
returns-clause-stepped c =
    (many_came c.self.inside.back c.job_tell_read.new.self c.args.number (words_read c.args.words.now) c.self.invariant c.job_tell_read.ensures.stepped c.job_tell_read.ensures.each).is
    ∙ ap (λ (v : View). job_steps v c.args.number (words_read c.args.words.now)) c.self.view_is

pub returns-clause-each : goal.returns-clause-each
returns-clause-each c =
    subst (λ (v : View). JobMovesEach v c.args.number (words_read c.args.words.now)) c.self.view_is
    (many_came c.self.inside.back c.job_tell_read.new.self c.args.number (words_read c.args.words.now) c.self.invariant c.job_tell_read.ensures.stepped c.job_tell_read.ensures.each).moves

pub returns-clause-hands : goal.returns-clause-hands
returns-clause-hands c =
    (many_came c.self.inside.back c.job_tell_read.new.self c.args.number (words_read c.args.words.now) c.self.invariant c.job_tell_read.ensures.stepped c.job_tell_read.ensures.each).hands
    ∙ ap (λ (v : View). hands_of v.ring) c.self.view_is
