use Rattle.std.proofs.Common.{◌+◌, ◌%◌, arith}
use Rattle.std.proofs.lemmas.Grind.{common_steps}
use Rattle.blk_back.proofs.Sound.{started}
use Rattle.blk_back.proofs.back.Back.fetched.Goals as goal

pub invariant_of-self : goal.invariant_of-self
invariant_of-self c =
    let kept = started c.self.inside.jobs c.start.new.self ((c.self.inside.fetched + 1) % 18446744073709551616) c.read_request-request.result c.start.ensures.started c.self.invariant.few_kept in
    let few = kept.few in
    let cap = kept.cap in
    grind (arith, common_steps)
