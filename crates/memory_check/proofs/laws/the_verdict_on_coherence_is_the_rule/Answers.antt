use Rattle.memory_check.specs.State.{state_after}
use Rattle.memory_check.proofs.Told.{sees_all}
use Rattle.memory_check.proofs.Decided.{coherence_decided}
use Rattle.memory_check.proofs.laws.the_verdict_on_coherence_is_the_rule.Goals as goal

pub returns : goal.returns
returns c before line obeys = coherence_decided before line (state_after before) (sees_all before obeys)
