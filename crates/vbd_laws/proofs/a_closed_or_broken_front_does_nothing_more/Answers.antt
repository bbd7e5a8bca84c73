use Rattle.report_rules.proofs.Obeys.{obeys_before}
use Rattle.vbd_laws.specs.Breaks.{IsOverAt}
use Rattle.vbd_laws.proofs.BreaksReport.{report_over, ended_over}
use Rattle.vbd_laws.proofs.a_closed_or_broken_front_does_nothing_more.Goals as goal

pub returns-clause-report : goal.returns-clause-report
returns-clause-report c config detail history are same = report_over config detail history are same

pub returns-clause-ended : goal.returns-clause-ended
returns-clause-ended c config detail history are same = ended_over config detail history are same

pub returns-clause-before : goal.returns-clause-before
returns-clause-before c first more are = obeys_before IsOverAt first more are
