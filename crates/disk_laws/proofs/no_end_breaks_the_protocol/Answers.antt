use Rattle.disk_laws.proofs.Reports.{reports_unbroken, ended_unbroken}
use Rattle.disk_laws.proofs.no_end_breaks_the_protocol.Goals as goal

pub returns-clause-report : goal.returns-clause-report
returns-clause-report c config detail history a b plain may long runs of = reports_unbroken config detail history a b plain may long runs of

pub returns-clause-ended : goal.returns-clause-ended
returns-clause-ended c config detail history a b plain may long runs of = ended_unbroken config detail history a b plain may long runs of
