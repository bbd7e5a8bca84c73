use Rattle.request_check.proofs.Runs.{run_is_kept}
use Rattle.request_check.proofs.laws.a_run_of_the_plain_disk_keeps_the_rules.Goals as goal

pub returns : goal.returns
returns c = run_is_kept
