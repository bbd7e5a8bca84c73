use Rattle.memory_check.specs.State.{state_after}
use Rattle.memory_check.proofs.Told.{sees_all}
use Rattle.memory_check.proofs.Decided.{touches_decided}
use Rattle.memory_check.proofs.laws.the_verdict_on_touches_is_the_rule.Goals as goal

pub returns : goal.returns
returns c before line obeys = touches_decided before line (state_after before) (sees_all before obeys)
