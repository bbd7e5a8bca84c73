-- How many entries a ring has.
use Rattle.std.proofs.Common.{◌≡◌, ℕ, ◌+◌, ◌-◌, ◌*◌, ◌^◌, ◌%◌, ◌<◌, ◌≤◌, bit_and, sym, arith, inl, inr}
use Rattle.std.proofs.lemmas.Nat.{pow-add, pow_pos, and_mask}
use Rattle.std.proofs.lemmas.Bool.{cases_lt}
use Rattle.std.proofs.Math.Nat.{pow-le-pow_right, mul-le-mul_left}
use Rattle.blk_base.specs.declared.operation.Abi.{Abi}
use Rattle.blk_base.specs.declared.operation.Abi.TheVariants.{X64, X32}
use Rattle.ring_words.specs.Shape.{IsRingSize, entries_of}

entries_power : (order : ℕ) → entries_of order ≡ 2 ^ (5 + order)
entries_power order = sym (pow-add 2 5 order)

-- a power of two whose entries have room is below 64 times the pages
too_many : (size pages power : ℕ) → 108 ≤ size → 0 < pages → 64 + power * size ≤ 4096 * pages → power < 64 * pages
too_many size pages power big some room =
    let least : power * 108 ≤ power * size = mul-le-mul_left power big in omega arith

greatest : (size order m : ℕ) → 108 ≤ size → 64 + 2 ^ m * size ≤ 4096 * 2 ^ order → 2 ^ m ≤ entries_of order
greatest size order m big room =
    let few : 2 ^ m < 64 * 2 ^ order = too_many size (2 ^ order) (2 ^ m) big (pow_pos order) room in
    elim (cases_lt (5 + order) m) [
      | inl above ↦
          let much : 2 ^ (6 + order) ≤ 2 ^ m = pow-le-pow_right (omega arith) (omega arith) in
          let same : 2 ^ (6 + order) ≡ 64 * 2 ^ order = pow-add 2 6 order in
          absurd (omega arith)
      | inr below ↦ rw (entries_power order) (pow-le-pow_right (omega arith) below)
    ]

-- 32 times 2 ^ order is that number
pub ring_size : (abi : Abi) (order : ℕ) → IsRingSize abi order (entries_of order)
ring_size X64 order = record {
  power = (5 + order, entries_power order);
  fits = let h = pow_pos order in omega arith;
  greatest = λ m. greatest 112 order m (omega arith);
}
ring_size X32 order = record {
  power = (5 + order, entries_power order);
  fits = let h = pow_pos order in omega arith;
  greatest = λ m. greatest 108 order m (omega arith);
}

-- the mask of the entries takes an index to its place
pub and_entries : (order k : ℕ) → bit_and k (entries_of order - 1) ≡ k % entries_of order
and_entries order k = rw (entries_power order) (and_mask k (5 + order))

-- the shift that makes it loses nothing
pub entries_whole : (order : ℕ) → order ≤ 4 → 32 * 2 ^ order % 4294967296 ≡ entries_of order
entries_whole order small =
    let below : 2 ^ order ≤ 2 ^ 4 = pow-le-pow_right (omega arith) small in omega arith
