use Rattle.xenbus_state.proofs.Agreement.{facts_again}
use Rattle.xenbus_state.proofs.laws.the_disk_is_read_as_it_is_set.Goals as goal

pub returns : goal.returns
returns c = facts_again
