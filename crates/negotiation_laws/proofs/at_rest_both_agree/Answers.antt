use Rattle.negotiation_laws.proofs.Resting.{agree_at_rest}
use Rattle.negotiation_laws.proofs.Busy.{busy_fronts_connect}
use Rattle.negotiation_laws.proofs.Open.{only_a_close, connected_at_rest}
use Rattle.negotiation_laws.proofs.at_rest_both_agree.Goals as goal

pub returns : goal.returns
returns c = record { agree = agree_at_rest; closes = only_a_close; connected = connected_at_rest; busy = busy_fronts_connect }
