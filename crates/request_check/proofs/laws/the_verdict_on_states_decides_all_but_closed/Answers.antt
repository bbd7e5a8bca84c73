use Rattle.request_check.proofs.Front.{state_decided}
use Rattle.request_check.proofs.laws.the_verdict_on_states_decides_all_but_closed.Goals as goal

pub returns : goal.returns
returns c = state_decided
