use Rattle.std.proofs.Common.{◌≡◌, ◌∙◌, ap, subst, sym, length}
use Rattle.std.specs.Prelude.{None, is_some}
use Rattle.std.specs.Option.{IsSomeAnd}
use Rattle.back_jobs.specs.Jobs.{HeldJobs}
use Rattle.back_jobs.specs.Part.{part_of, IsReadPart, words_read}
use Rattle.blk_back.specs.Inside.{view_of}
use Rattle.blk_back.specs.View.{View}
use Rattle.blk_back.specs.Part.{job_part, job_steps_keeping, MovesEachKeeping}
use Rattle.blk_back.proofs.Parts.{going, steps_quiet, steps_move, steps_sound}
use Rattle.blk_back.proofs.back.Back.job_tell_read.Goals as goal

pub invariant_of-self : goal.invariant_of-self
invariant_of-self c = steps_sound (view_of c.self.inside) c.tell_read.new.self c.args.number (words_read c.args.words.now) c.tell_read.ensures.completed c.self.invariant

pub returns-clause-stepped : goal.returns-clause-stepped
returns-clause-stepped c =
    let v : View = view_of c.self.inside in
    let quiet : v.told ≡ None = ap (λ (w : View). w.told) c.self.view_is ∙ c.requires.told in
    steps_quiet v (record v { jobs = c.tell_read.new.self }) c.args.number (words_read c.args.words.now) quiet c.tell_read.ensures.effects (ap (λ (h : HeldJobs). record v { jobs = h }) c.tell_read.ensures.completed)
    ∙ ap (λ (w : View). job_steps_keeping w c.args.number (words_read c.args.words.now)) c.self.view_is

pub returns-clause-each : goal.returns-clause-each
returns-clause-each c =
    let v : View = view_of c.self.inside in
    let asked = subst (λ (w : View). IsSomeAnd (job_part w c.args.number) (λ part. IsReadPart part (length c.args.words.now))) (sym c.self.view_is) c.requires.part in
    let goes = going (is_some v.halted) (part_of v.jobs c.args.number) (λ part. IsReadPart part (length c.args.words.now)) asked in
    subst (λ (w : View). MovesEachKeeping w c.args.number (words_read c.args.words.now)) c.self.view_is
    (steps_move v c.args.number (words_read c.args.words.now) goes.0 c.tell_read.ensures.each)
