use Rattle.std.proofs.Common.{subst}
use Rattle.xenbus_state.specs.declared.stage.BackBusStage.{BackBusStage}
use Rattle.xenbus_state.specs.declared.stage.BackBusStage.TheVariants as stage
use Rattle.xenbus_state.specs.BackView.{start_of}
use Rattle.xenbus_state.specs.BackSound.{IsPlaced}
use Rattle.xenbus_state.specs.Runs.{back_after}
use Rattle.xenbus_state.proofs.BackTurns.{back_starts, back_runs}
use Rattle.xenbus_state.proofs.laws.a_halted_back_holds_nothing.Goals as goal

pub returns : goal.returns
returns c features disk turns lawful halts =
    let v = back_after turns (start_of features disk) in
    let sound = back_runs turns (start_of features disk) lawful (back_starts features disk) in
    let placed : IsPlaced stage.Halted v = subst (λ (s : BackBusStage). IsPlaced s v) halts sound.placed in
    (placed.1, placed.0)
