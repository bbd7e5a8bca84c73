use Rattle.vbd_laws.proofs.Quiet.{states_agree_at_quiet, rings_agreed}
use Rattle.vbd_laws.proofs.at_quiet_both_states_agree.Goals as goal

pub returns-clause-agree : goal.returns-clause-agree
returns-clause-agree c = states_agree_at_quiet

pub returns-clause-said : goal.returns-clause-said
returns-clause-said c = rings_agreed
