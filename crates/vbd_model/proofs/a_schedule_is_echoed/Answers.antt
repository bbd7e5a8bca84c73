use Rattle.vbd_model.proofs.Echo.{schedule_echo}
use Rattle.vbd_model.proofs.a_schedule_is_echoed.Goals as goal

pub returns : goal.returns
returns c order events w history narrow k = schedule_echo order events w history narrow k
