-- The states of both ends (`io/xenbus.h`, enum xenbus_state).
use Rattle.std.specs.Prelude.{ℕ, ◌==◌, if◌then◌else◌, List, Option, Some, None}
use Rattle.xenbus_state.specs.declared.state.BusState.{BusState}
use Rattle.xenbus_state.specs.declared.state.BusState.TheVariants.{Unknown, Initialising, InitWait, Initialised, Connected, Closing, Closed, Reconfiguring, Reconfigured}
use Rattle.xenbus_state.specs.Numbers.{number_of}

-- XenbusState*
abbrev pub state_number : BusState → ℕ
state_number Unknown = 0
state_number Initialising = 1
state_number InitWait = 2
state_number Initialised = 3
state_number Connected = 4
state_number Closing = 5
state_number Closed = 6
state_number Reconfiguring = 7
state_number Reconfigured = 8

abbrev pub state_of : ℕ → Option BusState
state_of n =
    if n == 0 then Some Unknown
    else (if n == 1 then Some Initialising
    else (if n == 2 then Some InitWait
    else (if n == 3 then Some Initialised
    else (if n == 4 then Some Connected
    else (if n == 5 then Some Closing
    else (if n == 6 then Some Closed
    else (if n == 7 then Some Reconfiguring
    else (if n == 8 then Some Reconfigured
    else None))))))))

abbrev pub state_of_number : Option ℕ → Option BusState
state_of_number None = None
state_of_number (Some n) = state_of n

-- what a state's key says; an absent key says Unknown
abbrev pub state_read : Option (List ℕ) → Option BusState
state_read None = Some Unknown
state_read (Some text) = state_of_number (number_of text)
