use Rattle.std.proofs.Common.{subst}
use Rattle.std.proofs.lemmas.Result.{err_from_is_err_and}
use Rattle.blk_io.specs.Outside.{TakesBytes, FailsWriting}
use Rattle.blk_layout.specs.declared.segment.Segment.{Segment}
use Rattle.ring_inspect.specs.Text.{segment_text}
use Rattle.ring_inspect.proofs.Pieces.{fails_among, takes_more}
use Rattle.ring_inspect.proofs.print.print_segments.Goals as goal

abbrev none : Segment
none = record { gref = 0; first = 0; last = 0 }

pub returns-in_err-print : goal.returns-in_err-print
returns-in_err-print g c =
    let stopped = err_from_is_err_and c.from_residual.result c.from_residual.ensures.1 in
    let part = subst (λ t. FailsWriting t (g.O.Sink.seen c.loop-segment.sink) (g.O.Sink.seen c.print.new.sink)) c.segment.ensures c.in_err-print.ensures in
    rw stopped.1 (fails_among segment_text c.args.segments.now c.loop-segment.segment-index none _ _ _ c.loop-segment-test.true c.loop-segment.invariant part)

pub loop-segment-preserved : goal.loop-segment-preserved
loop-segment-preserved g c =
    let piece = subst (λ t. TakesBytes t (g.O.Sink.seen c.loop-segment.sink) (g.O.Sink.seen c.print.new.sink)) c.segment.ensures c.in_ok-print.ensures in
    takes_more segment_text c.args.segments.now c.loop-segment.segment-index none _ _ _ c.loop-segment-test.true c.loop-segment.invariant piece
