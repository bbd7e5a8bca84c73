-- A back that has begun nothing has not written Closed.
use Rattle.std.proofs.Common.{◌<◌, arith}
use Rattle.xenbus_state.specs.declared.state.BusState.{BusState}
use Rattle.xenbus_state.specs.declared.state.BusState.TheVariants as state
use Rattle.xenbus_state.specs.States.{state_number}
use Rattle.xenbus_state.specs.BackView.{BackView}
use Rattle.xenbus_state.specs.BackSound.{IsResting}

pub resting_early : (own : BusState) (v : BackView) → IsResting own v → state_number own < 6
resting_early state.InitWait v h = omega arith
resting_early state.Connected v h = omega arith
resting_early state.Closing v h = omega arith
resting_early state.Unknown v h = absurd h
resting_early state.Initialising v h = absurd h
resting_early state.Initialised v h = absurd h
resting_early state.Closed v h = absurd h
resting_early state.Reconfiguring v h = absurd h
resting_early state.Reconfigured v h = absurd h
