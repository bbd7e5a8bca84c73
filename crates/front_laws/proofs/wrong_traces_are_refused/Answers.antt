use Rattle.front_laws.proofs.Refused.{tellings_refused, touches_refused, untruths_refused, twice_refused}
use Rattle.front_laws.proofs.wrong_traces_are_refused.Goals as goal

pub returns : goal.returns
returns c = record { told = tellings_refused; touched = touches_refused; honest = untruths_refused; once = twice_refused }
