use Rattle.schedule_run.proofs.Begins.{run_begins}
use Rattle.schedule_run.proofs.laws.a_run_begins.Goals as goal

pub returns : goal.returns
returns c config disk r s served word took = run_begins config disk r s served word took
