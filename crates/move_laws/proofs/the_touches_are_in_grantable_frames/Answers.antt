use Rattle.move_laws.proofs.Runs.{lines_obey, report_obeys, ended_obeys, grantable_of}
use Rattle.move_laws.proofs.the_touches_are_in_grantable_frames.Goals as goal

pub returns-clause-lines : goal.returns-clause-lines
returns-clause-lines c config history narrow = grantable_of _ (lines_obey config history narrow)

pub returns-clause-report : goal.returns-clause-report
returns-clause-report c config detail history narrow = grantable_of _ (report_obeys config detail history narrow)

pub returns-clause-ended : goal.returns-clause-ended
returns-clause-ended c config detail history narrow = grantable_of _ (ended_obeys config detail history narrow)
