-- The distance of two indices is the only number that leads from one to the other.
use Rattle.std.proofs.Common.{◌≡◌, ℕ, ◌^◌, ◌<◌, arith}
use Rattle.blk_base.specs.Distance.{IsDistance, distance_of}

pub distance_of-leads : (a b : ℕ) → a < 2 ^ 32 → b < 2 ^ 32 → IsDistance a b (distance_of a b)
distance_of-leads a b fits_a fits_b = record { below = omega arith; leads = omega arith }

pub IsDistance-only : (a b d : ℕ) → a < 2 ^ 32 → IsDistance a b d → d ≡ distance_of a b
IsDistance-only a b d fits is = let below = is.below in let leads = is.leads in omega arith
