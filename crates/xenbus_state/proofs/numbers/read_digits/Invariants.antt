use Rattle.std.proofs.Common.{◌≡◌, ◌≤◌, drop}
use Rattle.xenbus_state.specs.Numbers.{number_after}
use Rattle.xenbus_state.proofs.numbers.read_digits.Given as goal

abbrev pub invariant-loop-digit : goal.invariant-loop-digit
invariant-loop-digit l = (number_after l.limit l.number (drop l.digit-index l.digits) ≡ number_after l.limit 0 l.digits) × (l.number ≤ l.limit)
