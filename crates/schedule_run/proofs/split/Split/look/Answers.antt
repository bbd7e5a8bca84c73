use Rattle.std.proofs.Common.{◌≡◌, ◌∷◌, [], refl, sym, ap, ◌∙◌, if◌then◌else◌}
use Rattle.schedule_text.specs.declared.line.Line.{Line}
use Rattle.schedule_text.specs.declared.line.Line.TheVariants.{Quiet, Busy}
use Rattle.vbd_model.specs.World.{is_quiet}
use Rattle.split_model.specs.Happening as ring
use Rattle.vbd_model.specs.Happening.{Looks}
use Rattle.vbd_model.proofs.Joining.{chosen_true, chosen_false}
use Rattle.schedule_run.proofs.Moving.{said_goes}
use Rattle.schedule_run.proofs.split.Split.look.Goals.{then-is_quiet, else-is_quiet}
use Rattle.schedule_run.proofs.split.Split.look.Goals as goal

pub returns : goal.returns
returns g c = λ disk.
    let line : c.if-is_quiet.line ≡ (if is_quiet c.args.self.now then Quiet else Busy) = elim c.if-is_quiet.branch [
      | then-is_quiet w ↦ chosen_true (is_quiet c.args.self.now) Quiet Busy c.if-is_quiet.line (sym c.is_quiet.ensures ∙ w.if-is_quiet.true) w.line-is
      | else-is_quiet w ↦ chosen_false (is_quiet c.args.self.now) Quiet Busy c.if-is_quiet.line (sym c.is_quiet.ensures ∙ w.if-is_quiet.false) w.line-is
    ] in
    said_goes (Looks (is_quiet c.args.self.now)) (ring.Looks (is_quiet c.args.self.now)) _ _ _ _ _ c.if-is_quiet.line refl refl refl (ap (λ (l : Line). l ∷ []) line) c.add.ensures
