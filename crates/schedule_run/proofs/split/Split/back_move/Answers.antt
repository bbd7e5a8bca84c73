use Rattle.std.proofs.Common.{◌≡◌, true, false, sym, ◌∙◌}
use Rattle.blk_base.specs.declared.parts.End.TheVariants.{Back}
use Rattle.hypervisor.specs.Act.{has_to_take}
use Rattle.vbd_back.specs.Ask.{is_waiting}
use Rattle.vbd_model.specs.World.{World, backend_of}
use Rattle.schedule_run.specs.Inside.{world_of}
use Rattle.schedule_run.proofs.Moving.{back_asleep, back_waits}
use Rattle.schedule_run.proofs.split.Split.back_move.Goals as goal

pub returns-then-not-has_to_take : goal.returns-then-not-has_to_take
returns-then-not-has_to_take g c =
    let w : World = world_of c.self.inside.front c.self.inside.back c.self.inside.under in
    let waits : is_waiting (backend_of w) ≡ true = sym c.waits.ensures ∙ c.if-waits.true in
    let none : has_to_take w.rings.under Back ≡ false = sym c.has_to_take.ensures ∙ c.if-not-has_to_take.true in
    rw (← c.self.view_is) (back_waits w _ _ c.self.invariant.1 (back_asleep w waits none))
