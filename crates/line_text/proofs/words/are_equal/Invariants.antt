use Rattle.std.proofs.Common.{◌≡◌, ℕ, ◌<◌, get_or, length}
use Rattle.line_text.proofs.words.are_equal.Given as goal

abbrev pub invariant-loop-at : goal.invariant-loop-at
invariant-loop-at l = (length l.bytes ≡ length l.others) × ((k : ℕ) → k < l.at → get_or l.bytes k 0 ≡ get_or l.others k 0)
