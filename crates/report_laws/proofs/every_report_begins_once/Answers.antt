use Rattle.report_laws.proofs.Begun.{report_begun, ended_begun, begun_before}
use Rattle.report_laws.proofs.every_report_begins_once.Goals as goal

pub returns-clause-report : goal.returns-clause-report
returns-clause-report c config detail history = report_begun config detail history

pub returns-clause-ended : goal.returns-clause-ended
returns-clause-ended c config detail history = ended_begun config detail history

pub returns-clause-before : goal.returns-clause-before
returns-clause-before c config detail report more begun = begun_before config detail report more begun
