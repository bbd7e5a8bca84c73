use Rattle.std.proofs.Common.{◌+◌, ◌*◌, get_or, arith}
use Rattle.std.proofs.lemmas.List.{length-set}
use Rattle.blk_layout.specs.Entry.{segment_of}
use Rattle.blk_layout.proofs.Lists.{set_more, read_in_turn}
use Rattle.blk_layout.proofs.reader.segments.Goals as goal

pub loop-i-preserved : goal.loop-i-preserved
loop-i-preserved c = record {
  size = simp length-set c.loop-i.invariant.size;
  so_far = set_more c.loop-i.segments c.loop-i.i c.read_segment.result (λ k. segment_of (get_or c.args.words.now (c.args.at + 2 * k) 0) (get_or c.args.words.now (c.args.at + 2 * k + 1) 0)) (omega (arith, c.loop-i.invariant.size)) c.loop-i.invariant.so_far c.read_segment.ensures.value;
}

pub returns : goal.returns
returns c = read_in_turn 11 c.loop-i.segments c.args.words.now c.args.at c.loop-i.invariant.size (λ k d lt. c.loop-i.invariant.so_far k d (omega arith))
