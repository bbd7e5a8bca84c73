use Rattle.xenbus_state.proofs.FrontRuns.{front_states_rise}
use Rattle.xenbus_state.proofs.laws.the_states_of_the_front_rise.Goals as goal

pub returns : goal.returns
returns c v turns sound lawful = front_states_rise turns v sound lawful
