-- How many entries a ring has, and where they lie (`io/ring.h`: __RING_SIZE, RING_GET_REQUEST; `io/blkif.h`: the entries).
use Rattle.std.specs.Prelude.{◌≡◌, ℕ, ◌+◌, ◌*◌, ◌/◌, ◌%◌, ◌^◌, ◌≤◌}
use Rattle.blk_base.specs.declared.operation.Abi.{Abi}
use Rattle.blk_base.specs.declared.operation.Abi.TheVariants.{X64, X32}

-- the shape of a ring of 2 ^ order pages
pub record Shape : Type 0 where
  pub abi : Abi
  pub order : ℕ

-- the words of an entry (sizeof of the union of request and response, in words of 4 bytes)
abbrev pub entry_words_of : Abi → ℕ
entry_words_of X64 = 28
entry_words_of X32 = 27

-- the entries of a ring of 2 ^ order pages: see IsRingSize for what this number is
abbrev pub entries_of : ℕ → ℕ
entries_of order = 32 * 2 ^ order

-- __RING_SIZE: the greatest power of two of entries that the pages have room for, after the 64 bytes of the indices
pub record IsRingSize (abi : Abi) (order entries : ℕ) : Type 0 where
  pub power : (m : ℕ) × (entries ≡ 2 ^ m)
  pub fits : 64 + entries * (4 * entry_words_of abi) ≤ 4096 * 2 ^ order
  pub greatest : (m : ℕ) → 64 + 2 ^ m * (4 * entry_words_of abi) ≤ 4096 * 2 ^ order → 2 ^ m ≤ entries

-- RING_GET_REQUEST: word i of the entry of index k, counted from the first word of the ring, whose entries begin at byte 64
abbrev pub ring_word_of : Shape → ℕ → ℕ → ℕ
ring_word_of s k i = 16 + k % entries_of s.order * entry_words_of s.abi + i

-- the same word, by the page that it lies in, counted from the ring's first, and its place there
abbrev pub slot_word_of : Shape → ℕ → ℕ → ℕ × ℕ
slot_word_of s k i = (ring_word_of s k i / 1024, ring_word_of s k i % 1024)
