-- Frames that are marked, one bit for each, 64 in a word.
use Rattle.std.specs.Prelude.{ℕ, Bool, ◌/◌, ◌%◌, ◌==◌, List, slice_index}
use Rattle.std.specs.Int.{bit_at}

-- this frame is marked
abbrev pub is_marked : List ℕ → ℕ → Bool
is_marked marks frame = bit_at (slice_index marks (frame / 64)) (frame % 64) == 1
