use Rattle.xenbus_state.proofs.Ports.{one_port}
use Rattle.xenbus_state.proofs.laws.a_front_asks_for_one_port.Goals as goal

pub returns : goal.returns
returns c v turns sound lawful = one_port turns v sound lawful
