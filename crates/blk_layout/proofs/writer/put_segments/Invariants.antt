use Rattle.std.proofs.Common.{◌≡◌, ◌++◌, take}
use Rattle.blk_layout.specs.Written.{segments_words}
use Rattle.blk_layout.proofs.writer.put_segments.Given as goal

-- the segments so far
abbrev pub invariant-loop-segment : goal.invariant-loop-segment
invariant-loop-segment l = l.words.items ≡ l.fn.words.items ++ segments_words (take l.segment-index l.segments)
