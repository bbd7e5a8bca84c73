-- Segments that are read from words, one after another.
use Rattle.std.proofs.Common.{◌≡◌, ℕ, suc, ◌+◌, List, [], ◌∷◌, slice_index, refl}
use Rattle.blk_layout.specs.Entry.{segments_at, segment_of}

-- no segments
pub no_segments : (words : List ℕ) (at : ℕ) → segments_at words at 0 ≡ []
unfolding segments_at
no_segments words at = refl

pub one_segment : (words : List ℕ) (at n : ℕ) → segments_at words at (suc n) ≡ segment_of (slice_index words at) (slice_index words (at + 1)) ∷ segments_at words (at + 2) n
unfolding segments_at
one_segment words at n = refl

-- the first of some segments
pub next_segment : (words : List ℕ) (at count left : ℕ) → count ≡ suc left → segments_at words at count ≡ segment_of (slice_index words at) (slice_index words (at + 1)) ∷ segments_at words (at + 2) left
next_segment words at count left is = rw is (one_segment words at left)
