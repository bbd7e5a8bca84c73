use Rattle.ring_laws.proofs.Short.{few_reads}
use Rattle.ring_laws.proofs.ReplyRuns.{report_replies, ended_replies}
use Rattle.ring_laws.proofs.the_replies_are_those_of_the_work.Goals as goal

pub returns-clause-report : goal.returns-clause-report
returns-clause-report c config detail history room few = report_replies config detail history room (few_reads config detail history few)

pub returns-clause-ended : goal.returns-clause-ended
returns-clause-ended c config detail history room few = ended_replies config detail history room (few_reads config detail history few)
