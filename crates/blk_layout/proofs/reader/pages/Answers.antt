use Rattle.std.proofs.Common.{arith}
use Rattle.blk_layout.proofs.Lists.{copied}
use Rattle.blk_layout.proofs.reader.pages.Goals as goal

pub returns : goal.returns
returns c = copied 8 c.loop-i.page-items c.args.words.now c.args.at c.loop-i-test.array_long (λ k lt. c.loop-i.invariant k (omega arith))
