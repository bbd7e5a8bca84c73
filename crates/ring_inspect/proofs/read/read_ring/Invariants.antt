use Rattle.std.proofs.Common.{◌+◌, ◌-◌, vec_len}
use Rattle.ring_inspect.proofs.Reading.{HasRead}
use Rattle.ring_inspect.proofs.read.read_ring.Given as goal

-- the bytes so far are the source's first ones
abbrev pub invariant-loop-chunk : goal.invariant-loop-chunk
invariant-loop-chunk g l = HasRead l.bytes.items (g.S.Source.seen l.fn.source) (g.S.Source.seen l.source)

abbrev pub decreases-loop-chunk : goal.decreases-loop-chunk
decreases-loop-chunk g l = l.size + 1 - vec_len l.bytes
