use Rattle.ring_laws.proofs.Short.{few_reads}
use Rattle.ring_laws.proofs.JobRuns.{report_rules, ended_rules, effects_of}
use Rattle.ring_laws.proofs.the_effects_stand_after_their_moves.Goals as goal

pub returns-clause-report : goal.returns-clause-report
returns-clause-report c config detail history room few = effects_of _ (report_rules config detail history room (few_reads config detail history few))

pub returns-clause-ended : goal.returns-clause-ended
returns-clause-ended c config detail history room few = effects_of _ (ended_rules config detail history room (few_reads config detail history few))
