use Rattle.report_laws.proofs.Settled.{report_settled_keeping, ended_settled_keeping}
use Rattle.report_laws.proofs.keeping.no_report_is_unsettled_where_settling_ends_where_mappings_are_kept.Goals as goal

pub returns-clause-report : goal.returns-clause-report
returns-clause-report c = report_settled_keeping

pub returns-clause-ended : goal.returns-clause-ended
returns-clause-ended c = ended_settled_keeping
