use Rattle.report_rules.proofs.Obeys.{obeys_before}
use Rattle.vbd_laws.specs.Breaks.{IsBreakAt}
use Rattle.vbd_laws.proofs.BreaksReport.{report_breaks, ended_breaks}
use Rattle.vbd_laws.proofs.the_front_is_broken_exactly_by_its_causes.Goals as goal

pub returns-clause-report : goal.returns-clause-report
returns-clause-report c config detail history are same = report_breaks config detail history are same

pub returns-clause-ended : goal.returns-clause-ended
returns-clause-ended c config detail history are same = ended_breaks config detail history are same

pub returns-clause-before : goal.returns-clause-before
returns-clause-before c first more are = obeys_before IsBreakAt first more are
