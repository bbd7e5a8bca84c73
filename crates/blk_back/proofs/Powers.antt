-- A ring has 1 to 16 pages.
use Rattle.std.proofs.Common.{◌≡◌, ℕ, ◌*◌, ◌%◌, ◌^◌, ◌<◌, ◌≤◌, arith}
use Rattle.std.proofs.lemmas.Nat.{pow_pos}
use Rattle.blk_base.specs.Distance.{distance_of}
use Rattle.std.proofs.Math.Nat.{pow-le-pow_right}

pub some_pages : (order : ℕ) → 0 < 2 ^ order
some_pages order = pow_pos order

pub few_pages : (order : ℕ) → order ≤ 4 → 2 ^ order ≤ 16
few_pages order small = let below : 2 ^ order ≤ 2 ^ 4 = pow-le-pow_right (omega arith) small in below

-- the shift that makes it loses nothing
pub pages_whole : (order : ℕ) → order ≤ 4 → 1 * 2 ^ order % 2 ^ 64 ≡ 2 ^ order
pages_whole order small = let below = few_pages order small in omega arith

-- an index is at no distance from itself
pub no_distance : (index : ℕ) → index < 2 ^ 32 → distance_of index index ≡ 0
no_distance index small = omega arith
