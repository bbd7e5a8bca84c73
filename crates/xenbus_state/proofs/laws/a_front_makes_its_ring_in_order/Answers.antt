use Rattle.xenbus_state.proofs.Starting.{starts_in_order}
use Rattle.xenbus_state.proofs.laws.a_front_makes_its_ring_in_order.Goals as goal

pub returns : goal.returns
returns c = starts_in_order
