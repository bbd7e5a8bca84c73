use Rattle.report_rules.proofs.Obeys.{obeys_before}
use Rattle.report_laws.specs.Ready.{IsReadyAt}
use Rattle.report_laws.proofs.Ready.{report_ready, ended_ready}
use Rattle.report_laws.proofs.no_report_is_quiet_before_it_is_ready.Goals as goal

pub returns-clause-report : goal.returns-clause-report
returns-clause-report c config detail history may = report_ready config detail history may

pub returns-clause-ended : goal.returns-clause-ended
returns-clause-ended c config detail history may = ended_ready config detail history may

pub returns-clause-before : goal.returns-clause-before
returns-clause-before c report more obeys = obeys_before IsReadyAt report more obeys
