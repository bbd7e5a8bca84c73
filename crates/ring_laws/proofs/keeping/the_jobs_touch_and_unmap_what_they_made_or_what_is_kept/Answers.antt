use Rattle.ring_laws.proofs.HandedRuns.{report_handed, ended_handed}
use Rattle.ring_laws.proofs.keeping.the_jobs_touch_and_unmap_what_they_made_or_what_is_kept.Goals as goal

pub returns-clause-report : goal.returns-clause-report
returns-clause-report c config detail history = report_handed config detail history

pub returns-clause-ended : goal.returns-clause-ended
returns-clause-ended c config detail history = ended_handed config detail history
