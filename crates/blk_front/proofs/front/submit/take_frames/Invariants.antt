use Rattle.std.proofs.Common.{◌≡◌, ◌-◌, [], length}
use Rattle.blk_front.specs.Pool.{taking}
use Rattle.blk_front.proofs.front.submit.take_frames.Given as goal

-- what is left to take is taken from the pool as it is now
abbrev pub invariant-loop : goal.invariant-loop
invariant-loop l = record {
  taken : taking (l.needed - l.counter) l.pool l.frames.items ≡ taking l.fn.needed l.fn.pool [];
  count : length l.frames.items ≡ l.counter;
}
