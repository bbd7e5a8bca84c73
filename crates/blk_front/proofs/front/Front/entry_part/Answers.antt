use Rattle.std.proofs.Common.{rules}
use Rattle.std.specs.Prelude.{Some}
use Rattle.blk_front.proofs.EntrySteps.{entry_asks}
use Rattle.blk_front.proofs.front.Front.entry_part.Goals as goal

pub returns-in-Slot-clause-asked : goal.returns-in-Slot-clause-asked
returns-in-Slot-clause-asked c = entry_asks c.args.self.now (Some c.entry_from.result) (search rules)
