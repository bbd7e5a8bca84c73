use Rattle.move_laws.proofs.Dumped.{report_dumped, ended_dumped}
use Rattle.move_laws.proofs.the_dumps_show_every_word.Goals as goal

pub returns-clause-report : goal.returns-clause-report
returns-clause-report c config detail history narrow wished = report_dumped config detail history narrow wished

pub returns-clause-ended : goal.returns-clause-ended
returns-clause-ended c config detail history narrow wished = ended_dumped config detail history narrow wished
