use Rattle.std.proofs.Common.{◌≡◌, ℕ, ◌<◌, get_or, eqb, false}
use Rattle.line_text.proofs.words.cut.Given as goal

abbrev pub invariant-loop-at : goal.invariant-loop-at
invariant-loop-at l = (k : ℕ) → k < l.at → eqb (get_or l.bytes k 0) 32 ≡ false
