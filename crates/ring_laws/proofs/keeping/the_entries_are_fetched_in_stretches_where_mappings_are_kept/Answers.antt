use Rattle.ring_laws.proofs.Runs.{report_keeps, ended_keeps}
use Rattle.ring_laws.proofs.keeping.the_entries_are_fetched_in_stretches_where_mappings_are_kept.Goals as goal

pub returns-clause-report : goal.returns-clause-report
returns-clause-report c config detail history = (report_keeps config detail history).stretches

pub returns-clause-ended : goal.returns-clause-ended
returns-clause-ended c config detail history = (ended_keeps config detail history).stretches
