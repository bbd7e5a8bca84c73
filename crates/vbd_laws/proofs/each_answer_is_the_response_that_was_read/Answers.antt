use Rattle.report_rules.proofs.Obeys.{obeys_before}
use Rattle.vbd_laws.specs.AnswersRead.{IsReadAt}
use Rattle.vbd_laws.proofs.BreaksReport.{report_reads, ended_reads}
use Rattle.vbd_laws.proofs.each_answer_is_the_response_that_was_read.Goals as goal

pub returns-clause-report : goal.returns-clause-report
returns-clause-report c config detail history are same = report_reads config detail history are same

pub returns-clause-ended : goal.returns-clause-ended
returns-clause-ended c config detail history are same = ended_reads config detail history are same

pub returns-clause-before : goal.returns-clause-before
returns-clause-before c first more are = obeys_before IsReadAt first more are
