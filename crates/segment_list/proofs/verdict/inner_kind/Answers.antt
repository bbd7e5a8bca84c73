use Rattle.std.proofs.Common.{◌≡◌, None, arith}
use Rattle.std.proofs.lemmas.Bool.Decides.{nat_tests}
use Rattle.blk_base.specs.declared.operation.Op.TheVariants.{Read, Write}
use Rattle.segment_list.specs.Verdict.{kind_within}
use Rattle.segment_list.proofs.verdict.inner_kind.Goals as goal

pub returns-in_err-from_code : goal.returns-in_err-from_code
returns-in_err-from_code c =
    let read = c.in_err-from_code.ensures.unknown Read in
    let write = c.in_err-from_code.ensures.unknown Write in
    let none : kind_within c.args.op ≡ None = grind (arith, nat_tests, read, write) in
    cc
