-- What each end does on reading the other's state (`io/xenbus.h`, enum xenbus_state): tables over its own state and the state read. A text that says no state is `None`.
use Rattle.std.specs.Prelude.{◌≡◌, ℕ, Bool, true, false, ◌&&◌, if◌then◌else◌, Option, Some, None}
use Rattle.xenbus_state.specs.declared.state.BusState.{BusState}
use Rattle.xenbus_state.specs.declared.state.BusState.TheVariants.{Unknown, Initialising, InitWait, Initialised, Connected, Closing, Closed, Reconfiguring, Reconfigured}
use Rattle.xenbus_state.specs.declared.table.FrontAction.{FrontAction}
use Rattle.xenbus_state.specs.declared.table.FrontAction.TheVariants as front
use Rattle.xenbus_state.specs.declared.table.BackAction.{BackAction}
use Rattle.xenbus_state.specs.declared.table.BackAction.TheVariants as back
use Rattle.xenbus_state.specs.declared.table.BackHalt.TheVariants as halt

-- the back offers: the front publishes, unless it has gone past that
abbrev pub on_offer : BusState → FrontAction
on_offer Initialising = front.Publish
on_offer own = front.Nothing

-- the back is connected: so is the front, where it has published
abbrev pub on_connected : BusState → FrontAction
on_connected Initialised = front.Connect
on_connected own = front.Nothing

-- the back closes: so does the front, which connects first where requests are unfinished
abbrev pub on_closing : BusState → Bool → FrontAction
on_closing Initialised false = front.CloseAndConnect
on_closing own idle = front.Close

-- the back is gone: the front leaves, and is broken where requests are unfinished
abbrev pub on_gone : Bool → ℕ → FrontAction
on_gone true state = front.Leave
on_gone false state = front.Break state

-- A closing front without unfinished requests negotiates no more.
abbrev pub front_action : (own : BusState) (closing idle : Bool) (read : Option BusState) → FrontAction
front_action own closing idle (Some Initialising) = front.Nothing
front_action own closing idle (Some InitWait) = if closing && idle then front.Nothing else on_offer own
front_action own closing idle (Some Initialised) = front.Nothing
front_action own closing idle (Some Connected) = if closing && idle then front.Nothing else on_connected own
front_action own closing idle (Some Closing) = on_closing own idle
front_action own closing idle (Some Closed) = on_gone idle 6
front_action own closing idle (Some Unknown) = on_gone idle 0
front_action own closing idle (Some Reconfiguring) = front.Nothing
front_action own closing idle (Some Reconfigured) = front.Nothing
front_action own closing idle None = front.Break 9

-- the front publishes once in an epoch, and connects once
abbrev pub SuitsFront : BusState → FrontAction → Type 0
SuitsFront own front.Publish = own ≡ Initialising
SuitsFront own front.Connect = own ≡ Initialised
SuitsFront own front.CloseAndConnect = own ≡ Initialised
SuitsFront own action = Unit {0}

-- a back that was connected in this epoch, also one that says since that it closes
abbrev pub is_connected : BusState → Bool
is_connected Connected = true
is_connected Closing = true
is_connected own = false

abbrev pub bad_order : BusState → BackAction
bad_order state = back.Halt (halt.BadOrder state)

abbrev pub front_gone : Bool → BusState → BackAction
front_gone true state = back.Halt (halt.Unplugged state)
front_gone false state = back.Halt (halt.Gone state)

abbrev pub back_action : (own : BusState) (unplugged : Bool) (read : Option BusState) → BackAction
back_action own unplugged (Some Initialising) = if is_connected own then bad_order Initialising else back.Nothing
back_action own unplugged (Some InitWait) = bad_order InitWait
back_action own unplugged (Some Initialised) = if is_connected own then back.Nothing else back.Connect
back_action own unplugged (Some Connected) = if is_connected own then back.Nothing else back.Connect
back_action own unplugged (Some Closing) = front_gone unplugged Closing
back_action own unplugged (Some Closed) = front_gone unplugged Closed
back_action own unplugged (Some Unknown) = front_gone unplugged Unknown
back_action own unplugged (Some Reconfiguring) = bad_order Reconfiguring
back_action own unplugged (Some Reconfigured) = bad_order Reconfigured
back_action own unplugged None = back.Halt halt.BadState

-- a back connects once in an epoch
abbrev pub SuitsBack : BusState → BackAction → Type 0
SuitsBack own back.Connect = is_connected own ≡ false
SuitsBack own action = Unit {0}
