-- A sector's 128 words as text.
use Rattle.std.specs.Prelude.{◌≡◌, ℕ, ◌<◌, All, ◌+◌, ◌*◌, ◌/◌, ◌%◌, ◌^◌, List, [], ◌∷◌, ◌++◌, ◌==◌, codes, replicate, length, slice_index, if◌then◌else◌, Bool}
use Rattle.std.specs.List.{list_all, flat_map}
use Rattle.std.specs.Str.{bytes_eq}
use Rattle.line_text.specs.Numbers.{glyph, hex8, hex_of, digit_of}
use Rattle.line_text.specs.Words.{first_of}

-- 128 words of 32 bits
pub record IsSector (words : List ℕ) : Type 0 where
  pub size : length words ≡ 128
  pub fits : All (λ w. w < 2 ^ 32) words

-- a byte as 2 lower-case hexadecimal digits
abbrev pub hex2 : ℕ → List ℕ
hex2 b = glyph (b / 16) ∷ glyph (b % 16) ∷ []

-- the four bytes of a word, the lowest first, each as 2 digits
abbrev pub word_digits : ℕ → List ℕ
word_digits w = hex2 (w % 2 ^ 8) ++ hex2 (w / 2 ^ 8 % 2 ^ 8) ++ hex2 (w / 2 ^ 16 % 2 ^ 8) ++ hex2 (w / 2 ^ 24)

-- the bytes of the words in order
unfoldable pub byte_digits : List ℕ → List ℕ
byte_digits words = flat_map word_digits words

-- whether all words are this one
unfoldable pub are_all : ℕ → List ℕ → Bool
are_all w words = list_all (λ v. v == w) words

-- what a sector holds: `fill` and a word where all its words are that one, else all its bytes
unfoldable pub sector_words : List ℕ → List (List ℕ)
sector_words words =
    if are_all (slice_index words 0) words
    then codes "fill" ∷ hex8 (slice_index words 0) ∷ []
    else byte_digits words ∷ []

-- the byte that two digits say
abbrev pub byte_of : ℕ → ℕ → ℕ
byte_of high low = digit_of high % 16 * 16 + digit_of low % 16

-- the word that eight digits say, from this one on: its four bytes, the lowest first
abbrev pub digits_word : List ℕ → ℕ → ℕ
digits_word digits at =
    byte_of (slice_index digits at) (slice_index digits (at + 1))
    + 2 ^ 8 * byte_of (slice_index digits (at + 2)) (slice_index digits (at + 3))
    + 2 ^ 16 * byte_of (slice_index digits (at + 4)) (slice_index digits (at + 5))
    + 2 ^ 24 * byte_of (slice_index digits (at + 6)) (slice_index digits (at + 7))

-- the words that digits say
unfoldable pub words_of_digits : List ℕ → List ℕ
words_of_digits (a ∷ b ∷ c ∷ d ∷ e ∷ f ∷ g ∷ h ∷ digits) = (byte_of a b + 2 ^ 8 * byte_of c d + 2 ^ 16 * byte_of e f + 2 ^ 24 * byte_of g h) ∷ words_of_digits digits
words_of_digits digits = []

-- the sector that a word says by its bytes; no digits, or too few, say zeros
unfoldable pub digits_sector : List ℕ → List ℕ
digits_sector word = if length word == 1024 then words_of_digits word else replicate 128 0

-- the sector that a word and those after it say
unfoldable pub sector_of : List ℕ → List (List ℕ) → List ℕ
sector_of first words =
    if bytes_eq first (codes "fill")
    then replicate 128 (hex_of (first_of words))
    else digits_sector first
