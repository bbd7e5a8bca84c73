use Rattle.report_laws.proofs.Begun.{report_begun_keeping, ended_begun_keeping}
use Rattle.report_laws.proofs.keeping.every_report_begins_once_where_mappings_are_kept.Goals as goal

pub returns-clause-report : goal.returns-clause-report
returns-clause-report c = report_begun_keeping

pub returns-clause-ended : goal.returns-clause-ended
returns-clause-ended c = ended_begun_keeping
