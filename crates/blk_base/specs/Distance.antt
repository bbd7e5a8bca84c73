-- How far one ring index is ahead of another (`io/ring.h`: the difference of two RING_IDX, which wrap at 32 bits).
use Rattle.std.specs.Prelude.{◌≡◌, ℕ, ◌+◌, ◌-◌, ◌%◌, ◌^◌, ◌<◌}

-- d is the number below 2 ^ 32 that leads from a to b, wrapping
pub record IsDistance (a b d : ℕ) : Type 0 where
  pub below : d < 2 ^ 32
  pub leads : (a + d) % 2 ^ 32 ≡ b

-- the distance of two indices below 2 ^ 32
abbrev pub distance_of : ℕ → ℕ → ℕ
distance_of a b = (b + (2 ^ 32 - a)) % 2 ^ 32
