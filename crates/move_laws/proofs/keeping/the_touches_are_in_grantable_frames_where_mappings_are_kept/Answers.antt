use Rattle.move_laws.proofs.Runs.{lines_obey_keeping, report_obeys_keeping, ended_obeys_keeping, grantable_of}
use Rattle.move_laws.proofs.keeping.the_touches_are_in_grantable_frames_where_mappings_are_kept.Goals as goal

pub returns-clause-lines : goal.returns-clause-lines
returns-clause-lines c config history narrow = grantable_of _ (lines_obey_keeping config history narrow)

pub returns-clause-report : goal.returns-clause-report
returns-clause-report c config detail history narrow = grantable_of _ (report_obeys_keeping config detail history narrow)

pub returns-clause-ended : goal.returns-clause-ended
returns-clause-ended c config detail history narrow = grantable_of _ (ended_obeys_keeping config detail history narrow)
