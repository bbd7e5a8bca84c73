use Rattle.ring_laws.proofs.Runs.{report_keeps, ended_keeps}
use Rattle.ring_laws.proofs.keeping.the_layout_is_named_before_the_ring_is_mapped_where_mappings_are_kept.Goals as goal

pub returns-clause-report : goal.returns-clause-report
returns-clause-report c config detail history = (report_keeps config detail history).named

pub returns-clause-ended : goal.returns-clause-ended
returns-clause-ended c config detail history = (ended_keeps config detail history).named
