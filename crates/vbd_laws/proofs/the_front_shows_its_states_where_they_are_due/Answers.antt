use Rattle.report_rules.proofs.Obeys.{obeys_before}
use Rattle.vbd_laws.specs.StateLines.{IsStateLineAt}
use Rattle.vbd_laws.proofs.StateLines.{report_states, ended_states, closing_comes}
use Rattle.vbd_laws.proofs.the_front_shows_its_states_where_they_are_due.Goals as goal

pub returns-clause-report : goal.returns-clause-report
returns-clause-report c config detail history few same = report_states config detail history few same

pub returns-clause-ended : goal.returns-clause-ended
returns-clause-ended c config detail history few same = ended_states config detail history few same

pub returns-clause-comes : goal.returns-clause-comes
returns-clause-comes c config history h few = closing_comes config history h few

pub returns-clause-before : goal.returns-clause-before
returns-clause-before c first more are = obeys_before IsStateLineAt first more are
