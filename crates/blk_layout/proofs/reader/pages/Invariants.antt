use Rattle.std.proofs.Common.{◌≡◌, ℕ, ◌+◌, ◌<◌, get_or}
use Rattle.blk_layout.proofs.reader.pages.Given as goal

-- the pages so far are the words from the place on
abbrev pub invariant-loop-i : goal.invariant-loop-i
invariant-loop-i l = (k : ℕ) → k < l.i → get_or l.page-items k 0 ≡ get_or l.words (l.at + k) 0
