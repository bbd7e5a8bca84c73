use Rattle.report_laws.proofs.Ready.{report_ready_keeping, ended_ready_keeping}
use Rattle.report_laws.proofs.keeping.no_report_is_quiet_before_it_is_ready_where_mappings_are_kept.Goals as goal

pub returns-clause-report : goal.returns-clause-report
returns-clause-report c = report_ready_keeping

pub returns-clause-ended : goal.returns-clause-ended
returns-clause-ended c = ended_ready_keeping
