use Rattle.std.proofs.Common.{◌≡◌, fold, take}
use Rattle.blk_front.specs.Pool.{with_free}
use Rattle.blk_front.proofs.pool.Pool.free_all.Given as goal

-- the frames so far were given back
abbrev pub invariant-loop-frame : goal.invariant-loop-frame
invariant-loop-frame l = l.self ≡ fold with_free l.fn.self (take l.frame-index l.frames)
