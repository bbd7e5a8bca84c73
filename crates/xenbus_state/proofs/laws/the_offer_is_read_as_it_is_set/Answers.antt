use Rattle.xenbus_state.proofs.Agreement.{offer_again}
use Rattle.xenbus_state.proofs.laws.the_offer_is_read_as_it_is_set.Goals as goal

pub returns : goal.returns
returns c = offer_again
