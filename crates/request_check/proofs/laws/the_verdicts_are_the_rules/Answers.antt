use Rattle.request_check.proofs.EachRule.{verdicts}
use Rattle.request_check.proofs.laws.the_verdicts_are_the_rules.Goals as goal

pub returns : goal.returns
returns c = verdicts
