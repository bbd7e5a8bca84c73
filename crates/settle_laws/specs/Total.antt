-- What the whole machine has left to do: its ring, and the negotiation of both ends, a step of which may begin a stretch of at most 37 moves of the ring's ends.
use Rattle.std.specs.Prelude.{ℕ, ◌+◌, ◌*◌}
use Rattle.negotiation_laws.specs.Negotiation.{Negotiation}
use Rattle.negotiation_laws.specs.Left.{left}
use Rattle.pipeline_laws.specs.Pipeline.{Pipeline}
use Rattle.ring_settle_laws.specs.Left.{ring_left}
use Rattle.vbd_model.specs.World.{World}

-- both negotiations, over the keys under both ends
abbrev pub negotiation_of : World → Negotiation
negotiation_of w = record { front = w.front; back = w.back; keys = w.rings.under.keys }

abbrev pub step_price : ℕ
step_price = 38

abbrev pub total_left : World → Pipeline → ℕ
total_left w d = step_price * left (negotiation_of w) + ring_left w.rings d
