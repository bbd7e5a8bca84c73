use Rattle.xenbus_state.proofs.Offering.{offers_in_order}
use Rattle.xenbus_state.proofs.laws.a_back_offers_in_order.Goals as goal

pub returns : goal.returns
returns c = offers_in_order
