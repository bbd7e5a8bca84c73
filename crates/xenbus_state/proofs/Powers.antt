-- A ring has at most 16 pages.
use Rattle.std.proofs.Common.{ℕ, ◌^◌, ◌≤◌, arith}
use Rattle.std.proofs.Math.Nat.{pow-le-pow_right}

pub few_pages : (order : ℕ) → order ≤ 4 → 2 ^ order ≤ 16
few_pages order le = pow-le-pow_right (omega arith) le
