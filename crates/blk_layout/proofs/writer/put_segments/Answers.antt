use Rattle.std.proofs.Common.{arith}
use Rattle.blk_layout.proofs.Lists.{length_so_far, one_more}
use Rattle.blk_layout.proofs.writer.put_segments.Goals as goal

pub push-requires : goal.push-requires
push-requires c =
    let few = length_so_far c.args.words.now.items c.loop-segment.words.items c.args.segments.now c.loop-segment.segment-index (omega arith) c.loop-segment.invariant in
    let told = c.told-segments in
    (omega arith, omega arith)

pub push-requires-in-loop-segment : goal.push-requires-in-loop-segment
push-requires-in-loop-segment c =
    let few = length_so_far c.args.words.now.items c.loop-segment.words.items c.args.segments.now c.loop-segment.segment-index (omega arith) c.loop-segment.invariant in
    let pushed = c.push.ensures.len in
    (omega arith, omega arith)

pub loop-segment-preserved : goal.loop-segment-preserved
loop-segment-preserved c = one_more c.args.words.now.items c.loop-segment.words.items c.push.new.self.items c.push-in-loop-segment.new.self.items c.segment_words.result c.args.segments.now c.loop-segment.segment-index _ (omega arith) c.loop-segment.invariant c.segment_words.ensures.value c.push.ensures.items c.push-in-loop-segment.ensures.items
