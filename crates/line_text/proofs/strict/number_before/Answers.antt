use Rattle.std.proofs.Common.{◌<◌, arith, refl}
use Rattle.std.proofs.lemmas.Bool.Decides.{nat_tests}
use Rattle.line_text.proofs.Digits.{digit_more}
use Rattle.line_text.proofs.strict.number_before.Goals as goal
use Rattle.line_text.proofs.strict.number_before.Goals.{then-at-gt0-2, else-at-gt0-2}

pub loop-at-preserved : goal.loop-at-preserved
loop-at-preserved c =
    let first : 0 < c.loop-at.at → 0 < c.loop-at.number = λ some. elim c.if-at-gt0-2.branch [ then-at-gt0-2 w ↦ grind (arith, nat_tests) | else-at-gt0-2 w ↦ grind (arith, nat_tests) ] in (
      λ e. absurd (omega arith),
      λ lt. rw c.from.ensures (digit_more _ _ _ _ (omega arith) refl (omega arith) (omega arith) (omega arith) c.loop-at.invariant.0 c.loop-at.invariant.1 first),
    )
