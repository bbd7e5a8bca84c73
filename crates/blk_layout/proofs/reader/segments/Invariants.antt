use Rattle.std.proofs.Common.{◌≡◌, ℕ, ◌+◌, ◌*◌, ◌<◌, get_or, slice_index_or, length}
use Rattle.blk_layout.specs.declared.segment.Segment.{Segment}
use Rattle.blk_layout.specs.Entry.{segment_of}
use Rattle.blk_layout.proofs.reader.segments.Given as goal

-- the segments so far are read from the words from the place on
abbrev pub invariant-loop-i : goal.invariant-loop-i
invariant-loop-i l = record {
  size : length l.segments ≡ 11;
  so_far : (k : ℕ) (d : Segment) → k < l.i → slice_index_or l.segments k d ≡ segment_of (get_or l.words (l.at + 2 * k) 0) (get_or l.words (l.at + 2 * k + 1) 0);
}
