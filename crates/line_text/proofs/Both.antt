-- A test of two parts.
use Rattle.std.proofs.Common.{◌≡◌, Bool, true, false, refl, ◌&&◌}

pub both_true : (a b : Bool) → (a && b) ≡ true → (a ≡ true) × (b ≡ true)
both_true true true e = (refl, refl)
both_true true false e = absurd cc
both_true false b e = absurd cc
