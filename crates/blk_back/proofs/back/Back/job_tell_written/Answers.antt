use Rattle.std.proofs.Common.{◌≡◌, ◌∙◌, ap, subst, sym}
use Rattle.std.specs.Prelude.{None, IsPermutation, is_some}
use Rattle.std.specs.Option.{IsSomeAnd}
use Rattle.back_jobs.specs.Jobs.{HeldJobs}
use Rattle.back_jobs.specs.Part.{part_of, IsWrittenPart, words_written}
use Rattle.blk_back.specs.Hands.{all_hands_of}
use Rattle.blk_back.specs.Inside.{view_of}
use Rattle.blk_back.specs.View.{View}
use Rattle.blk_back.specs.Part.{job_part, job_steps_keeping, MovesEachKeeping}
use Rattle.blk_back.proofs.Parts.{going, steps_quiet, steps_move, steps_sound, steps_entire}
use Rattle.blk_back.proofs.back.Back.job_tell_written.Goals as goal

pub invariant_of-self : goal.invariant_of-self
invariant_of-self c = steps_sound (view_of c.self.inside) c.tell_written.new.self c.args.number (words_written c.args.count) c.tell_written.ensures.completed c.self.invariant

pub returns-clause-stepped : goal.returns-clause-stepped
returns-clause-stepped c =
    let v : View = view_of c.self.inside in
    let quiet : v.told ≡ None = ap (λ (w : View). w.told) c.self.view_is ∙ c.requires.told in
    steps_quiet v (record v { jobs = c.tell_written.new.self }) c.args.number (words_written c.args.count) quiet c.tell_written.ensures.effects (ap (λ (h : HeldJobs). record v { jobs = h }) c.tell_written.ensures.completed)
    ∙ ap (λ (w : View). job_steps_keeping w c.args.number (words_written c.args.count)) c.self.view_is

pub returns-clause-each : goal.returns-clause-each
returns-clause-each c =
    let v : View = view_of c.self.inside in
    let asked = subst (λ (w : View). IsSomeAnd (job_part w c.args.number) (λ part. IsWrittenPart part c.args.count)) (sym c.self.view_is) c.requires.part in
    let goes = going (is_some v.halted) (part_of v.jobs c.args.number) (λ part. IsWrittenPart part c.args.count) asked in
    subst (λ (w : View). MovesEachKeeping w c.args.number (words_written c.args.count)) c.self.view_is
    (steps_move v c.args.number (words_written c.args.count) goes.0 c.tell_written.ensures.each)

pub returns-clause-hands : goal.returns-clause-hands
returns-clause-hands c =
    let v : View = view_of c.self.inside in
    subst (λ (w : View). IsPermutation (all_hands_of w) (all_hands_of (record v { jobs = c.tell_written.new.self }))) c.self.view_is
    (steps_entire v c.tell_written.new.self c.tell_written.ensures.hands)
