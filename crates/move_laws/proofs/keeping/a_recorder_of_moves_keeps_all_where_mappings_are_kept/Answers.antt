use Rattle.move_laws.proofs.Recorded.{lines_kept_keeping, report_kept_keeping, ended_kept_keeping}
use Rattle.move_laws.proofs.keeping.a_recorder_of_moves_keeps_all_where_mappings_are_kept.Goals as goal

pub returns-clause-lines : goal.returns-clause-lines
returns-clause-lines c history w = lines_kept_keeping history w

pub returns-clause-report : goal.returns-clause-report
returns-clause-report c config history = report_kept_keeping config history

pub returns-clause-ended : goal.returns-clause-ended
returns-clause-ended c config history = ended_kept_keeping config history
