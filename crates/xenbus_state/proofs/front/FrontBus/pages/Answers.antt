use Rattle.std.proofs.Common.{arith}
use Rattle.xenbus_state.proofs.Powers.{few_pages}
use Rattle.xenbus_state.proofs.front.FrontBus.pages.Goals as goal

pub returns-clause-within : goal.returns-clause-within
returns-clause-within c = let h = few_pages c.ring_order.result c.ring_order.ensures.within in omega arith
