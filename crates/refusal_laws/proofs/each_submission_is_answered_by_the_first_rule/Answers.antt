use Rattle.report_rules.proofs.Obeys.{obeys_before}
use Rattle.refusal_laws.specs.Ruled.{IsRuledAt}
use Rattle.refusal_laws.proofs.Laws.{report_ruled, ended_ruled}
use Rattle.refusal_laws.proofs.each_submission_is_answered_by_the_first_rule.Goals as goal

pub returns-clause-report : goal.returns-clause-report
returns-clause-report c config detail history are possible = report_ruled config detail history are possible

pub returns-clause-ended : goal.returns-clause-ended
returns-clause-ended c config detail history are possible = ended_ruled config detail history are possible

pub returns-clause-before : goal.returns-clause-before
returns-clause-before c submissions first more are = obeys_before (IsRuledAt submissions) first more are
