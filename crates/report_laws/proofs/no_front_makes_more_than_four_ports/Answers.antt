use Rattle.report_rules.proofs.Obeys.{obeys_before}
use Rattle.report_laws.specs.Ports.{IsFewPortsAt}
use Rattle.report_laws.proofs.FewPorts.{report_ports, ended_ports}
use Rattle.report_laws.proofs.no_front_makes_more_than_four_ports.Goals as goal

pub returns-clause-report : goal.returns-clause-report
returns-clause-report c config detail history = report_ports config detail history

pub returns-clause-ended : goal.returns-clause-ended
returns-clause-ended c config detail history = ended_ports config detail history

pub returns-clause-before : goal.returns-clause-before
returns-clause-before c report more obeys = obeys_before IsFewPortsAt report more obeys
