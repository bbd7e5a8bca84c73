use Rattle.report_laws.proofs.Grammar.{short_report, short_ended}
use Rattle.report_laws.proofs.Texts.{grammar_before}
use Rattle.report_laws.proofs.every_report_is_in_the_grammar.Goals as goal

pub returns-clause-report : goal.returns-clause-report
returns-clause-report c config detail history options may short = short_report config detail history options may short

pub returns-clause-ended : goal.returns-clause-ended
returns-clause-ended c config detail history options may short = short_ended config detail history options may short

pub returns-clause-before : goal.returns-clause-before
returns-clause-before c report more h = grammar_before report more h
