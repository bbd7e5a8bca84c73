use Rattle.std.proofs.Common.{arith}
use Rattle.std.proofs.lemmas.Bool.Decides.{nat_tests}
use Rattle.blk_base.specs.declared.operation.Op.TheVariants.{Read, Write, Barrier, Flush}
use Rattle.segment_list.proofs.verdict.check.Goals as goal

pub returns-in-None : goal.returns-in-None
returns-in-None c =
    let read = c.in-None.ensures.unknown Read in
    let write = c.in-None.ensures.unknown Write in
    let barrier = c.in-None.ensures.unknown Barrier in
    let flush = c.in-None.ensures.unknown Flush in
    rw c.in-Direct.is (grind (arith, nat_tests, read, write, barrier, flush))
