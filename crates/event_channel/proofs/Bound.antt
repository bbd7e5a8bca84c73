-- No port is bound after a close.
use Rattle.std.proofs.Common.{◌≡◌, ℕ, ◌≤◌, false, List, [], ◌∷◌, length, map, refl, sym, ap}
use Rattle.std.specs.List.{list_any, refill}
use Rattle.std.proofs.Math.ListN.{length-map}
use Rattle.event_channel.specs.declared.channels.PortState.{PortState}
use Rattle.event_channel.specs.declared.channels.PortState.TheVariants.{Closed, Unbound, Bound}
use Rattle.event_channel.specs.Channels.{is_bound_port, closed_port, unbound_port}

pub closed_bound : (ports : List PortState) → list_any is_bound_port (map closed_port ports) ≡ false
closed_bound [] = refl
closed_bound (port ∷ ports) = closed_bound ports

pub unbound_bound : (ports : List PortState) → list_any is_bound_port (map unbound_port ports) ≡ false
unbound_bound [] = refl
unbound_bound (Closed ∷ ports) = unbound_bound ports
unbound_bound (Unbound ∷ ports) = unbound_bound ports
unbound_bound (Bound ∷ ports) = unbound_bound ports

refilled : (f : PortState → PortState) (ports : List PortState) → refill (length ports) ports (map f ports) ≡ map f ports
refilled f [] = refl
refilled f (port ∷ ports) = ap (λ rest. f port ∷ rest) (refilled f ports)

-- each port was changed, and none is bound now
pub all_changed : (f : PortState → PortState) (ports seen now : List PortState) (made : ℕ) → length ports ≤ made → seen ≡ ports → now ≡ map f seen → list_any is_bound_port (map f ports) ≡ false → (length (refill (length ports) ports now) ≤ made) × (false ≡ list_any is_bound_port (refill (length ports) ports now))
all_changed f ports seen now made within same changed none = rw (changed, same, refilled f ports) (rw length-map within, sym none)
