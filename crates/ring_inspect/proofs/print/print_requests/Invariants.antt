use Rattle.blk_io.specs.Outside.{TakesBytes}
use Rattle.ring_inspect.specs.Ring.{listed}
use Rattle.ring_inspect.proofs.print.print_requests.Given as goal

-- the requests so far are written
abbrev pub invariant-loop-i : goal.invariant-loop-i
invariant-loop-i g l = TakesBytes (listed l.shape l.bytes l.from l.i) (g.O.Sink.seen l.fn.sink) (g.O.Sink.seen l.sink)
