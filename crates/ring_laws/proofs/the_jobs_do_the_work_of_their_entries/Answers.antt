use Rattle.ring_laws.proofs.Short.{few_reads}
use Rattle.ring_laws.proofs.JobRuns.{report_rules, ended_rules, steps_of}
use Rattle.ring_laws.proofs.the_jobs_do_the_work_of_their_entries.Goals as goal

pub returns-clause-report : goal.returns-clause-report
returns-clause-report c config detail history room few = steps_of _ (report_rules config detail history room (few_reads config detail history few))

pub returns-clause-ended : goal.returns-clause-ended
returns-clause-ended c config detail history room few = steps_of _ (ended_rules config detail history room (few_reads config detail history few))
