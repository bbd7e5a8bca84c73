use Rattle.report_rules.proofs.Obeys.{obeys_before}
use Rattle.vbd_laws.specs.Halts.{IsHaltAt}
use Rattle.vbd_laws.proofs.Halts.{report_halts, ended_halts, halts_worded}
use Rattle.vbd_laws.proofs.the_back_halts_exactly_by_its_causes.Goals as goal

pub returns-clause-report : goal.returns-clause-report
returns-clause-report c config detail history few same = report_halts config detail history few same

pub returns-clause-ended : goal.returns-clause-ended
returns-clause-ended c config detail history few same = ended_halts config detail history few same

pub returns-clause-worded : goal.returns-clause-worded
returns-clause-worded c config history h few = halts_worded config history h few

pub returns-clause-before : goal.returns-clause-before
returns-clause-before c first more are = obeys_before IsHaltAt first more are
