use Rattle.ring_laws.proofs.Short.{few_reads}
use Rattle.ring_laws.proofs.JobRuns.{report_rules, ended_rules, data_of}
use Rattle.ring_laws.proofs.the_data_are_what_the_disk_gave.Goals as goal

pub returns-clause-report : goal.returns-clause-report
returns-clause-report c config detail history room few = data_of _ (report_rules config detail history room (few_reads config detail history few))

pub returns-clause-ended : goal.returns-clause-ended
returns-clause-ended c config detail history room few = data_of _ (ended_rules config detail history room (few_reads config detail history few))
