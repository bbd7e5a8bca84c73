use Rattle.std.proofs.Common.{◌*◌, ◌+◌, ◌-◌, arith}
use Rattle.std.proofs.lemmas.Grind.{common_steps}
use Rattle.report_rules.proofs.Copied.{no_segments, next_segment}
use Rattle.report_rules.proofs.work.copied.Goals as goal

pub loop-k-preserved : goal.loop-k-preserved
loop-k-preserved c =
    let next = next_segment c.args.indirect.now (2 * c.loop-k.k) (c.args.count - c.loop-k.k) (c.args.count - (c.loop-k.k + 1)) (omega arith) in
    grind (arith, common_steps, next)

pub returns : goal.returns
returns c = let none = no_segments c.args.indirect.now (2 * c.loop-k.k) in grind (arith, common_steps, none)
