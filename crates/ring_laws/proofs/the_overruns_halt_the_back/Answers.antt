use Rattle.ring_laws.proofs.Runs.{report_rings, ended_rings}
use Rattle.ring_laws.proofs.the_overruns_halt_the_back.Goals as goal

pub returns-clause-report : goal.returns-clause-report
returns-clause-report c config detail history = (report_rings config detail history).overruns

pub returns-clause-ended : goal.returns-clause-ended
returns-clause-ended c config detail history = (ended_rings config detail history).overruns
