use Rattle.round_laws.proofs.Asking.{each_goes_on}
use Rattle.round_laws.proofs.jobs_go_on_as_the_calls_say.Goals as goal

pub returns : goal.returns
returns c = each_goes_on
