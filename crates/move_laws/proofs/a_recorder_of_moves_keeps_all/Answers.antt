use Rattle.move_laws.proofs.Recorded.{lines_kept, report_kept, ended_kept}
use Rattle.move_laws.proofs.a_recorder_of_moves_keeps_all.Goals as goal

pub returns-clause-lines : goal.returns-clause-lines
returns-clause-lines c history w = lines_kept history w

pub returns-clause-report : goal.returns-clause-report
returns-clause-report c config history = report_kept config history

pub returns-clause-ended : goal.returns-clause-ended
returns-clause-ended c config history = ended_kept config history
