use Rattle.std.proofs.Common.{rules}
use Rattle.blk_front.proofs.PartSteps.{part_asks}
use Rattle.blk_front.proofs.front.Front.sector_part.Goals as goal

pub returns-in-Loop-clause-asked : goal.returns-in-Loop-clause-asked
returns-in-Loop-clause-asked c = part_asks _ _ (search rules)

pub returns-in-Data-clause-asked : goal.returns-in-Data-clause-asked
returns-in-Data-clause-asked c = part_asks _ _ (search rules)

pub returns-in-ReadData-clause-asked : goal.returns-in-ReadData-clause-asked
returns-in-ReadData-clause-asked c = part_asks _ _ (search rules)
