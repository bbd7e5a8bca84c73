-- Rings of 1 to 16 pages, and the entries of both layouts.
use Rattle.std.proofs.Common.{ℕ, ◌^◌, ◌≤◌, arith}
use Rattle.std.proofs.Math.Nat.{pow-le-pow_right}
use Rattle.blk_base.specs.declared.operation.Abi.{Abi}
use Rattle.blk_base.specs.declared.operation.Abi.TheVariants.{X64, X32}
use Rattle.ring_words.specs.Shape.{entries_of, entry_words_of}

pub few_pages : (order : ℕ) → order ≤ 4 → 2 ^ order ≤ 16
few_pages order le = pow-le-pow_right (omega arith) le

-- a slot has room for the three words of a response
pub wide_entries : (abi : Abi) → 3 ≤ entry_words_of abi
wide_entries X64 = omega arith
wide_entries X32 = omega arith

-- a ring of no more pages has no more entries
pub fewer_entries : (order wished : ℕ) → order ≤ wished → entries_of order ≤ entries_of wished
fewer_entries order wished le = let powers : 2 ^ order ≤ 2 ^ wished = pow-le-pow_right (omega arith) le in omega arith
