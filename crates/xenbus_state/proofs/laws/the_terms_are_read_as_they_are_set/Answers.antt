use Rattle.xenbus_state.proofs.Agreement.{terms_again}
use Rattle.xenbus_state.proofs.laws.the_terms_are_read_as_they_are_set.Goals as goal

pub returns : goal.returns
returns c = terms_again
