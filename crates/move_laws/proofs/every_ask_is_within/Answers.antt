use Rattle.move_laws.proofs.Always.{always_within}
use Rattle.move_laws.proofs.every_ask_is_within.Goals as goal

pub returns : goal.returns
returns c config history narrow = always_within config history narrow
