use Rattle.move_laws.proofs.Dumped.{report_dumped_keeping, ended_dumped_keeping}
use Rattle.move_laws.proofs.keeping.the_dumps_show_every_word_where_mappings_are_kept.Goals as goal

pub returns-clause-report : goal.returns-clause-report
returns-clause-report c config detail history narrow wished = report_dumped_keeping config detail history narrow wished

pub returns-clause-ended : goal.returns-clause-ended
returns-clause-ended c config detail history narrow wished = ended_dumped_keeping config detail history narrow wished
