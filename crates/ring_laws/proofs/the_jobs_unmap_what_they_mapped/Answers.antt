use Rattle.ring_laws.proofs.Short.{few_reads}
use Rattle.ring_laws.proofs.MakerRuns.{report_unmaps, ended_unmaps}
use Rattle.ring_laws.proofs.the_jobs_unmap_what_they_mapped.Goals as goal

pub returns-clause-report : goal.returns-clause-report
returns-clause-report c config detail history room few = report_unmaps config detail history room (few_reads config detail history few)

pub returns-clause-ended : goal.returns-clause-ended
returns-clause-ended c config detail history room few = ended_unmaps config detail history room (few_reads config detail history few)
