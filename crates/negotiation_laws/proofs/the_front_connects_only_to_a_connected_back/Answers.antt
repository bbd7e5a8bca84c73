use Rattle.negotiation_laws.proofs.Found.{connected_after, back_connects_after}
use Rattle.negotiation_laws.proofs.Granting.{connects_to_connected, maps_after_grants, connected_granted}
use Rattle.negotiation_laws.proofs.Holding.{ring_outlasts}
use Rattle.negotiation_laws.proofs.the_front_connects_only_to_a_connected_back.Goals as goal

pub returns : goal.returns
returns c = record { front = connects_to_connected; later = connected_after; back = back_connects_after; maps = maps_after_grants; granted = connected_granted; outlasts = ring_outlasts }
