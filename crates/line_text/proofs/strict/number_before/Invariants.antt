use Rattle.std.proofs.Common.{◌≡◌, ◌<◌, take, decimal}
use Rattle.line_text.proofs.strict.number_before.Given as goal

abbrev pub invariant-loop-at : goal.invariant-loop-at
invariant-loop-at l = (l.at ≡ 0 → l.number ≡ 0) × (0 < l.at → take l.at l.text ≡ decimal l.number)
