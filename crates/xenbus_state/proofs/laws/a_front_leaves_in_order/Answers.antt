use Rattle.xenbus_state.proofs.Starting.{leaves_in_order}
use Rattle.xenbus_state.proofs.laws.a_front_leaves_in_order.Goals as goal

pub returns : goal.returns
returns c = leaves_in_order
