use Rattle.disk_laws.proofs.Reports.{reports_states, ended_states}
use Rattle.disk_laws.proofs.the_front_connects_and_closes_in_order.Goals as goal

pub returns-clause-report : goal.returns-clause-report
returns-clause-report c config detail history a b plain may long runs of = reports_states config detail history a b plain may long runs of

pub returns-clause-ended : goal.returns-clause-ended
returns-clause-ended c config detail history a b plain may long runs of = ended_states config detail history a b plain may long runs of
