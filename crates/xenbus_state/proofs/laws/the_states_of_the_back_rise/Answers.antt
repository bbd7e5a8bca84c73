use Rattle.xenbus_state.specs.BackView.{start_of}
use Rattle.xenbus_state.proofs.BackTurns.{back_starts}
use Rattle.xenbus_state.proofs.BackRuns.{back_states_rise}
use Rattle.xenbus_state.proofs.laws.the_states_of_the_back_rise.Goals as goal

pub returns : goal.returns
returns c features disk turns lawful = back_states_rise turns (start_of features disk) (back_starts features disk) lawful
