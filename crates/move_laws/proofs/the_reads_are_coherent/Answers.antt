use Rattle.move_laws.proofs.Runs.{lines_obey, report_obeys, ended_obeys, coherent_of}
use Rattle.move_laws.proofs.the_reads_are_coherent.Goals as goal

pub returns-clause-lines : goal.returns-clause-lines
returns-clause-lines c config history narrow = coherent_of _ (lines_obey config history narrow)

pub returns-clause-report : goal.returns-clause-report
returns-clause-report c config detail history narrow = coherent_of _ (report_obeys config detail history narrow)

pub returns-clause-ended : goal.returns-clause-ended
returns-clause-ended c config detail history narrow = coherent_of _ (ended_obeys config detail history narrow)
