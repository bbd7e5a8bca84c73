use Rattle.std.proofs.Common.{take}
use Rattle.std.specs.List.{flat_map}
use Rattle.blk_io.specs.Outside.{TakesBytes}
use Rattle.ring_inspect.specs.Text.{segment_text}
use Rattle.ring_inspect.proofs.print.print_segments.Given as goal

-- the segments so far are written
abbrev pub invariant-loop-segment : goal.invariant-loop-segment
invariant-loop-segment g l = TakesBytes (flat_map segment_text (take l.segment-index l.segments)) (g.O.Sink.seen l.fn.sink) (g.O.Sink.seen l.sink)
