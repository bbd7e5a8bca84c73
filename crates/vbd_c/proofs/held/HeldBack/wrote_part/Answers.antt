use Rattle.std.proofs.Common.{◌≡◌, true, false, refl, ap, subst, sym, ◌∙◌, rules}
use Rattle.std.specs.Prelude.{is_some}
use Rattle.back_jobs.specs.Part.{words_written, IsWrittenPart}
use Rattle.vbd_back.specs.Keeping.{KeepingView}
use Rattle.vbd_c.specs.Inside.{view_of}
use Rattle.vbd_c.specs.Part.{part_of, takes, answered_each, part_answered, ArePartAnswered}
use Rattle.vbd_c.specs.View.{View}
use Rattle.vbd_c.proofs.PartMoves.{part_done, part_held, part_taken, write_allowed}
use Rattle.vbd_c.proofs.held.HeldBack.wrote_part.Goals.{After-job_tell_written}
use Rattle.vbd_c.proofs.held.HeldBack.wrote_part.Goals as goal

quiet : (c : After-job_tell_written) → is_some c.self.inside.told ≡ false
quiet c = sym c.is_some.ensures ∙ c.if-is_some.false

taken : (c : After-job_tell_written) → takes (part_of (view_of c.self.inside) c.args.job) true c.args.count ≡ true
taken c =
    let now : takes c.part.result true c.args.count ≡ true = search rules in
    subst (λ (v : View). takes (part_of v c.args.job) true c.args.count ≡ true) (sym c.self.view_is) (ap (λ o. takes o true c.args.count) (sym c.part.ensures.value) ∙ now)

done : (c : After-job_tell_written) → record (view_of c.self.inside) { back = c.job_tell_written.new.self } ≡ answered_each (view_of c.self.inside) c.args.job (words_written c.args.count)
done c =
    let v : View = view_of c.self.inside in
    part_done v (record v { back = c.job_tell_written.new.self }) c.args.job true c.args.count (words_written c.args.count) (quiet c) (taken c) (ap (λ (b : KeepingView). record v { back = b }) c.job_tell_written.ensures.stepped) c.job_tell_written.ensures.each

pub returns-clause-held : goal.returns-clause-held
returns-clause-held c =
    let w = (goal.at.returns-clause-held c).After-job_tell_written in
    let v : View = view_of c.self.inside in
    part_held v (record v { back = c.job_tell_written.new.self }) c.args.job true c.args.count (words_written c.args.count) (quiet w) (taken w) (done w)
    ∙ ap (λ (u : View). part_answered u c.args.job true c.args.count (words_written c.args.count)) c.self.view_is

pub returns-clause-answered : goal.returns-clause-answered
returns-clause-answered c =
    let w = (goal.at.returns-clause-answered c).After-job_tell_written in
    let v : View = view_of c.self.inside in
    let new : View = record v { back = c.job_tell_written.new.self } in
    subst (λ (u : View). ArePartAnswered u c.args.job (λ part. IsWrittenPart part c.args.count) (words_written c.args.count) new) c.self.view_is
    (part_taken v new c.args.job (λ part. IsWrittenPart part c.args.count) (words_written c.args.count) (write_allowed (part_of v c.args.job) c.args.count (taken w)) (done w) c.job_tell_written.ensures.hands refl)
