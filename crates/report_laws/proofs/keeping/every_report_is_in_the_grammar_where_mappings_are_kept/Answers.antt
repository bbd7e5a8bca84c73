use Rattle.report_laws.proofs.Numbers.{short_numbers}
use Rattle.report_laws.proofs.Grammar.{report_grammar_keeping, ended_grammar_keeping}
use Rattle.report_laws.proofs.keeping.every_report_is_in_the_grammar_where_mappings_are_kept.Goals as goal

pub returns-clause-report : goal.returns-clause-report
returns-clause-report c config detail history options may short = report_grammar_keeping config detail history options may (short_numbers config detail history short)

pub returns-clause-ended : goal.returns-clause-ended
returns-clause-ended c config detail history options may short = ended_grammar_keeping config detail history options may (short_numbers config detail history short)
