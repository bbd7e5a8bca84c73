use Rattle.machine_pipeline.proofs.Runs.{is_run}
use Rattle.machine_pipeline.proofs.every_history_is_a_run_of_the_pipeline.Goals as goal

pub returns : goal.returns
returns c config history before now plain may long runs of = is_run config history before now plain may long runs of
