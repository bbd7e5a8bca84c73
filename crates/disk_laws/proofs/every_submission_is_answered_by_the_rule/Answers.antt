use Rattle.disk_laws.proofs.Reports.{reports_answered, ended_answered}
use Rattle.disk_laws.proofs.every_submission_is_answered_by_the_rule.Goals as goal

pub returns-clause-report : goal.returns-clause-report
returns-clause-report c config detail history a b plain may long runs of = reports_answered config detail history a b plain may long runs of

pub returns-clause-ended : goal.returns-clause-ended
returns-clause-ended c config detail history a b plain may long runs of = ended_answered config detail history a b plain may long runs of
