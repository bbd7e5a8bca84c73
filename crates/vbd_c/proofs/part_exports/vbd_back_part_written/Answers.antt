use Rattle.std.proofs.Common.{◌≡◌, ◌∙◌, ap, sym, subst}
use Rattle.std.specs.Prelude.{Option, Some}
use Rattle.back_jobs.specs.Part.{words_written, IsWrittenPart}
use Rattle.vbd_c.specs.Part.{PartAnsweredIn}
use Rattle.vbd_c.specs.View.{View}
use Rattle.vbd_c.proofs.part_exports.vbd_back_part_written.Goals as goal

pub returns-clause-answered : goal.returns-clause-answered
returns-clause-answered c =
    let before : c.args.back.now.place.held ≡ Some c.deref_mut.result.now = c.in-Some.ensures.taken ∙ ap (λ (v : View). Some v) (sym c.deref_mut.ensures.value) in
    subst (λ (o : Option View). PartAnsweredIn o c.args.job (λ part. IsWrittenPart part c.args.count) (words_written c.args.count) c.put.new.self.place.held) (sym before)
    (subst (λ (o : Option View). PartAnsweredIn (Some c.deref_mut.result.now) c.args.job (λ part. IsWrittenPart part c.args.count) (words_written c.args.count) o) (sym c.put.ensures) c.wrote_part-status.ensures.answered)
