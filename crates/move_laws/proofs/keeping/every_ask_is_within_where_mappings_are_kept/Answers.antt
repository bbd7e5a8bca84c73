use Rattle.move_laws.proofs.Always.{always_within_keeping}
use Rattle.move_laws.proofs.keeping.every_ask_is_within_where_mappings_are_kept.Goals as goal

pub returns : goal.returns
returns c config history narrow = always_within_keeping config history narrow
