use Rattle.std.proofs.Common.{sym, arith}
use Rattle.std.proofs.lemmas.Grind.{same_number_lists}
use Rattle.std.proofs.lemmas.Slice.Eq.{bytes_eq-Decides}
use Rattle.line_text.proofs.words.are_equal.Goals as goal

pub returns : goal.returns
returns c = sym ((bytes_eq-Decides _ _).1 (same_number_lists _ _ c.loop-at.invariant.0 (λ k lt. c.loop-at.invariant.1 k (omega (arith, c.loop-at.auto.at-end)))))
