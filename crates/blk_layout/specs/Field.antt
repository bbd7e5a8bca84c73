-- Fields that lie in words: which bits of which word a value is.
use Rattle.std.specs.Prelude.{◌≡◌, ℕ, zero, suc, ◌+◌, ◌*◌, ◌/◌, ◌%◌, ◌^◌, ◌<◌, List, [], ◌∷◌, slice_index, if◌then◌else◌, ◌==◌}
use Rattle.std.specs.Int.{bit_at}

-- a value in the bits of a word from `low` on, `width` of them
pub record Field : Type 0 where
  pub word : ℕ
  pub low : ℕ
  pub width : ℕ
  pub value : ℕ

abbrev pub bits : ℕ → ℕ → ℕ → ℕ → Field
bits word low width value = record { word = word; low = low; width = width; value = value }

-- a field of 64 bits takes two words, the low one first
abbrev pub two_words : ℕ → ℕ → List Field
two_words word value = bits word 0 32 (value % 2 ^ 32) ∷ bits (word + 1) 0 32 (value / 2 ^ 32) ∷ []

-- bit low + k of the word is bit k of the value, which has no more bits
pub record IsBits (word low width value : ℕ) : Type 0 where
  pub fits : value < 2 ^ width
  pub same : (k : ℕ) → k < width → bit_at word (low + k) ≡ bit_at value k

-- in these words each field's bits are its value
abbrev pub StandFor : List ℕ → List Field → Type 0
StandFor words [] = Unit {0}
StandFor words (f ∷ fields) = IsBits (slice_index words f.word) f.low f.width f.value × StandFor words fields

-- a written word: the fields that lie in it, each at its bits, and 0 in all other bits
abbrev pub written_word : List Field → ℕ → ℕ
written_word [] word = 0
written_word (f ∷ fields) word = if f.word == word then f.value * 2 ^ f.low + written_word fields word else written_word fields word

-- `count` written words from this one on
abbrev pub written_from : List Field → ℕ → ℕ → List ℕ
written_from fields word zero = []
written_from fields word (suc count) = written_word fields word ∷ written_from fields (word + 1) count
