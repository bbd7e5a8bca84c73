-- What the back does on reading the state of an honest front.
use Rattle.std.proofs.Common.{◌≡◌, ◌≤◌, Bool, true, false, refl, arith}
use Rattle.std.specs.Prelude.{Some}
use Rattle.xenbus_state.specs.States.{state_number}
use Rattle.xenbus_state.specs.Tables.{back_action, front_gone}
use Rattle.xenbus_state.specs.declared.state.BusState.{BusState}
use Rattle.xenbus_state.specs.declared.state.BusState.TheVariants as state
use Rattle.xenbus_state.specs.declared.table.BackAction.{BackAction}
use Rattle.xenbus_state.specs.declared.table.BackAction.TheVariants as action
use Rattle.xenbus_state.specs.BackView.{BackView}
use Rattle.xenbus_state.specs.BackSound.{IsResting}
use Rattle.xenbus_state.specs.declared.stage.BackBusStage.TheVariants as stage
use Rattle.negotiation_laws.specs.Laws.{gone_halt}
use Rattle.negotiation_laws.proofs.Subjects.{IsFrontState, IsReady, SettledBack, serves}

-- when each action is taken
abbrev pub ActsFor : BackAction → (own fs : BusState) (unplugged : Bool) → Type 0
ActsFor action.Nothing own fs unplugged = SettledBack own fs
ActsFor action.Connect own fs unplugged = (own ≡ state.InitWait) × IsReady fs
ActsFor (action.Halt reason) own fs unplugged = (5 ≤ state_number fs) × (reason ≡ gone_halt unplugged fs)

gone_acts : (own fs : BusState) (unplugged : Bool) → 5 ≤ state_number fs → ActsFor (front_gone unplugged fs) own fs unplugged
gone_acts own fs true late = (late, refl)
gone_acts own fs false late = (late, refl)

-- each action is taken where it may be
pub back_acts : (fs own : BusState) (unplugged : Bool) (v : BackView) → IsFrontState fs → IsResting own v
    → (serves stage.ReadState own ≡ true → 3 ≤ state_number fs) → ActsFor (back_action own unplugged (Some fs)) own fs unplugged
back_acts state.Closing own unplugged v h rests serving = gone_acts own state.Closing unplugged (omega arith)
back_acts state.Closed own unplugged v h rests serving = gone_acts own state.Closed unplugged (omega arith)
back_acts state.Initialising state.InitWait unplugged v h rests serving = refl
back_acts state.Initialising state.Connected unplugged v h rests serving = absurd (let high = serving refl in omega arith)
back_acts state.Initialising state.Closing unplugged v h rests serving = absurd (let high = serving refl in omega arith)
back_acts state.Initialised state.InitWait unplugged v h rests serving = (refl, tt)
back_acts state.Initialised state.Connected unplugged v h rests serving = tt
back_acts state.Initialised state.Closing unplugged v h rests serving = tt
back_acts state.Connected state.InitWait unplugged v h rests serving = (refl, tt)
back_acts state.Connected state.Connected unplugged v h rests serving = tt
back_acts state.Connected state.Closing unplugged v h rests serving = tt
back_acts state.Initialising own unplugged v h rests serving = absurd rests
back_acts state.Initialised own unplugged v h rests serving = absurd rests
back_acts state.Connected own unplugged v h rests serving = absurd rests
back_acts fs own unplugged v h rests serving = absurd h
