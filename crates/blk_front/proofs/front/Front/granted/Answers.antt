use Rattle.blk_front.proofs.Grants.{granted_then}
use Rattle.blk_front.proofs.front.Front.granted.Goals as goal

pub returns : goal.returns
returns c = granted_then c.args.self.now c.keep.new.self c.grant_from.new.self c.in-Some.r.now c.args.place c.frame-frame.result c.in-Some.ensures.value c.frame-frame.ensures c.keep.ensures c.grant_from.ensures
