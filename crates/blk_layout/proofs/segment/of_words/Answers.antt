use Rattle.std.proofs.Common.{arith}
use Rattle.blk_layout.proofs.ResponseLaid.{segment_stands}
use Rattle.blk_layout.proofs.segment.of_words.Goals as goal

pub returns-clause-stands : goal.returns-clause-stands
returns-clause-stands c = segment_stands c.args.gref c.args.sectors (omega arith)
