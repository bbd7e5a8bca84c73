use Rattle.request_check.proofs.Runs.{kept_is_run}
use Rattle.request_check.proofs.laws.a_report_that_keeps_the_rules_is_a_run_of_the_plain_disk.Goals as goal

pub returns : goal.returns
returns c = kept_is_run
