use Rattle.std.proofs.Common.{arith}
use Rattle.report_rules.proofs.Fits.{used_fits}
use Rattle.report_rules.proofs.work.add_direct.Goals as goal

pub add_planned-requires : goal.add_planned-requires
add_planned-requires c =
    let s = c.requires.served in
    let fits = used_fits s.0 c.args.count s.1 s.2 s.3 c.args.segments.now c.args.info.now c.args.plan.now c.min-used.result c.requires.long (omega arith) s.4 in
    omega arith
