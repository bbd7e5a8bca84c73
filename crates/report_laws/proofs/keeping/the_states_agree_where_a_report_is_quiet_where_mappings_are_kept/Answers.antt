use Rattle.report_laws.proofs.States.{report_agreed_keeping, ended_agreed_keeping}
use Rattle.report_laws.proofs.keeping.the_states_agree_where_a_report_is_quiet_where_mappings_are_kept.Goals as goal

pub returns-clause-report : goal.returns-clause-report
returns-clause-report c = report_agreed_keeping

pub returns-clause-ended : goal.returns-clause-ended
returns-clause-ended c = ended_agreed_keeping
