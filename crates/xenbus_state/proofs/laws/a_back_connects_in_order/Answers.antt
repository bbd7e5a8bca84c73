use Rattle.xenbus_state.proofs.Offering.{connects_in_order}
use Rattle.xenbus_state.proofs.laws.a_back_connects_in_order.Goals as goal

pub returns : goal.returns
returns c = connects_in_order
