use Rattle.memory_check.proofs.Told.{sees_all}
use Rattle.memory_check.proofs.laws.the_value_is_told.Goals as goal

pub returns : goal.returns
returns c before obeys frame word = (sees_all before obeys).values frame word
