-- Where the words of an entry lie: in a page that the ring has.
use Rattle.std.proofs.Common.{ℕ, ◌+◌, ◌*◌, ◌/◌, ◌%◌, ◌^◌, ◌<◌, arith}
use Rattle.std.proofs.lemmas.Nat.{pow_pos, mod_below}
use Rattle.blk_base.specs.declared.operation.Abi.{Abi}
use Rattle.blk_base.specs.declared.operation.Abi.TheVariants.{X64, X32}
use Rattle.ring_words.specs.Shape.{Shape, entries_of, entry_words_of, slot_word_of}

within : (abi : Abi) (pages slot i : ℕ) → 0 < pages → slot < 32 * pages → i < entry_words_of abi → (16 + slot * entry_words_of abi + i) / 1024 < pages
within X64 pages slot i some below inside = omega arith
within X32 pages slot i some below inside = omega arith

pub slot_within : (s : Shape) (k i : ℕ) → i < entry_words_of s.abi → (slot_word_of s k i).0 < 2 ^ s.order
slot_within s k i inside =
    let some = pow_pos s.order in
    let below : k % entries_of s.order < entries_of s.order = mod_below k (entries_of s.order) (omega arith) in
    within s.abi (2 ^ s.order) (k % entries_of s.order) i some below inside

-- each layout's entry has room for a response
pub response_fits : (abi : Abi) (i : ℕ) → i < 3 → i < entry_words_of abi
response_fits X64 i few = omega arith
response_fits X32 i few = omega arith
