use Rattle.disk_laws.proofs.Reports.{reports_run, ended_reports_run}
use Rattle.disk_laws.proofs.every_report_is_a_run_of_the_plain_disk.Goals as goal

pub returns-clause-report : goal.returns-clause-report
returns-clause-report c config detail history a b plain may long runs of = reports_run config detail history a b plain may long runs of

pub returns-clause-ended : goal.returns-clause-ended
returns-clause-ended c config detail history a b plain may long runs of = ended_reports_run config detail history a b plain may long runs of
