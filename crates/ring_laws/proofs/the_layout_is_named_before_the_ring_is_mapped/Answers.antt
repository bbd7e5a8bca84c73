use Rattle.ring_laws.proofs.Runs.{report_rings, ended_rings}
use Rattle.ring_laws.proofs.the_layout_is_named_before_the_ring_is_mapped.Goals as goal

pub returns-clause-report : goal.returns-clause-report
returns-clause-report c config detail history = (report_rings config detail history).named

pub returns-clause-ended : goal.returns-clause-ended
returns-clause-ended c config detail history = (ended_rings config detail history).named
