-- The event channels between the ends: the front's ports, and one pending mark for each end.
use Rattle.std.specs.Prelude.{◌≡◌, ℕ, ◌+◌, ◌-◌, Bool, true, false, nat_lt, if◌then◌else◌, List, [], ◌∷◌, ◌++◌, length, map, slice_index_or, slice_set}
use Rattle.std.specs.List.{list_any}
use Rattle.blk_base.specs.declared.parts.End.{End}
use Rattle.blk_base.specs.declared.parts.End.TheVariants.{Front, Back}
use Rattle.event_channel.specs.declared.channels.PortState.{PortState}
use Rattle.event_channel.specs.declared.channels.PortState.TheVariants.{Closed, Unbound, Bound}

-- how many ports were ever made, the states of those made since the last reset, oldest first, and the ends' pending marks
pub record ChannelState : Type 0 where
  pub made : ℕ
  pub ports : List PortState
  pub front_pending : Bool
  pub back_pending : Bool

abbrev pub fresh_channels : ChannelState
fresh_channels = record { made = 0; ports = []; front_pending = false; back_pending = false }

-- how many ports were made before the last reset: the next number is that of the first port in the list
abbrev pub made_before : ChannelState → ℕ
made_before c = c.made - length c.ports

abbrev pub place_of : ChannelState → ℕ → ℕ
place_of c port = port - made_before c - 1

-- the state of a port by its number: one that was never made, or vanished at a reset, is closed
abbrev pub state_of : ChannelState → ℕ → PortState
state_of c port = if nat_lt (made_before c) port then slice_index_or c.ports (place_of c port) Closed else Closed

-- the port waits to be bound
abbrev pub IsUnbound : ChannelState → ℕ → Type 0
IsUnbound c port = state_of c port ≡ Unbound

-- a new port, with the next number, waits to be bound
abbrev pub with_port : ChannelState → ChannelState
with_port c = record c { made = c.made + 1; ports = c.ports ++ Unbound ∷ [] }

-- a port is bound
abbrev pub bound : ChannelState → ℕ → ChannelState
bound c port = record c { ports = slice_set c.ports (place_of c port) Bound }

abbrev pub is_bound_port : PortState → Bool
is_bound_port Closed = false
is_bound_port Unbound = false
is_bound_port Bound = true

-- some port is bound, at both ends
abbrev pub is_bound : ChannelState → Bool
is_bound c = list_any is_bound_port c.ports

-- the end has an event to take
abbrev pub is_pending : ChannelState → End → Bool
is_pending c Front = c.front_pending
is_pending c Back = c.back_pending

-- an end sends: the other end has an event to take, where a port is bound
abbrev pub sent : ChannelState → End → ChannelState
sent c Front = record c { back_pending = if is_bound c then true else c.back_pending }
sent c Back = record c { front_pending = if is_bound c then true else c.front_pending }

-- an end takes its event, if there is one
abbrev pub taken : ChannelState → End → ChannelState
taken c Front = record c { front_pending = false }
taken c Back = record c { back_pending = false }

abbrev pub closed_port : PortState → PortState
closed_port port = Closed

abbrev pub unbound_port : PortState → PortState
unbound_port Closed = Closed
unbound_port Unbound = Unbound
unbound_port Bound = Unbound

-- An end closes its ports and drops its event, and no port is bound any more: the front's are closed for good, those that
-- the back was bound to wait to be bound again.
abbrev pub closed : ChannelState → End → ChannelState
closed c Front = record c { ports = map closed_port c.ports; front_pending = false }
closed c Back = record c { ports = map unbound_port c.ports; back_pending = false }

-- all ports and marks vanish, the numbers of ports go on
abbrev pub reset : ChannelState → ChannelState
reset c = record { made = c.made; ports = []; front_pending = false; back_pending = false }
