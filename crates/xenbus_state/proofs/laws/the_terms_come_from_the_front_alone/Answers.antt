use Rattle.xenbus_state.proofs.Alone.{from_the_front_alone}
use Rattle.xenbus_state.proofs.laws.the_terms_come_from_the_front_alone.Goals as goal

pub returns : goal.returns
returns c = from_the_front_alone
