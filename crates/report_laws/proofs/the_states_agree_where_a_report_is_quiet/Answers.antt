use Rattle.report_rules.proofs.Obeys.{obeys_before}
use Rattle.report_laws.specs.States.{IsAgreedAt}
use Rattle.report_laws.proofs.States.{report_agreed, ended_agreed}
use Rattle.report_laws.proofs.the_states_agree_where_a_report_is_quiet.Goals as goal

pub returns-clause-report : goal.returns-clause-report
returns-clause-report c config history agreed = report_agreed config history agreed

pub returns-clause-ended : goal.returns-clause-ended
returns-clause-ended c config history agreed = ended_agreed config history agreed

pub returns-clause-before : goal.returns-clause-before
returns-clause-before c report more obeys = obeys_before IsAgreedAt report more obeys
