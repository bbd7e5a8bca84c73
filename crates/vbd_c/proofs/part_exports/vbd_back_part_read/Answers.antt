use Rattle.std.proofs.Common.{◌≡◌, ◌∙◌, length, ap, sym, subst}
use Rattle.std.specs.Prelude.{Option, Some}
use Rattle.back_jobs.specs.Part.{words_read, IsReadPart}
use Rattle.vbd_c.specs.Part.{PartAnsweredIn}
use Rattle.vbd_c.specs.View.{View}
use Rattle.vbd_c.proofs.part_exports.vbd_back_part_read.Goals as goal

pub returns-clause-answered : goal.returns-clause-answered
returns-clause-answered c =
    let before : c.args.back.now.place.held ≡ Some c.deref_mut.result.now = c.in-Some.ensures.taken ∙ ap (λ (v : View). Some v) (sym c.deref_mut.ensures.value) in
    subst (λ (o : Option View). PartAnsweredIn o c.args.job (λ part. IsReadPart part (length c.args.words.now)) (words_read c.args.words.now) c.put.new.self.place.held) (sym before)
    (subst (λ (o : Option View). PartAnsweredIn (Some c.deref_mut.result.now) c.args.job (λ part. IsReadPart part (length c.args.words.now)) (words_read c.args.words.now) o) (sym c.put.ensures) c.read_part-status.ensures.answered)
