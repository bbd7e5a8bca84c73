use Rattle.report_laws.proofs.Settled.{report_settled, ended_settled, settled_before}
use Rattle.report_laws.proofs.no_report_is_unsettled_where_settling_ends.Goals as goal

pub returns-clause-report : goal.returns-clause-report
returns-clause-report c = report_settled

pub returns-clause-ended : goal.returns-clause-ended
returns-clause-ended c = ended_settled

pub returns-clause-before : goal.returns-clause-before
returns-clause-before c = settled_before
