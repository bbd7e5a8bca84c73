-- What a word's digits say.
use Rattle.std.specs.Prelude.{ℕ, ◌+◌, ◌-◌, ◌*◌, ◌/◌, ◌%◌, ◌^◌, List, [], ◌∷◌, ◌==◌, nat_lt, if◌then◌else◌, ℤ, pos, neg_ℤ, min, fold}

-- the number of 64 bits that decimal digits say, from the left
abbrev pub number_step : ℕ → ℕ → ℕ
number_step n c = ((n * 10) % 2 ^ 64 + (c - 48)) % 2 ^ 64

unfoldable pub number_of : List ℕ → ℕ
number_of word = fold number_step 0 word

-- the value of a lower-case hexadecimal digit
abbrev pub digit_of : ℕ → ℕ
digit_of c = if nat_lt c 97 then c - 48 else c - 87

abbrev pub hex_step : ℕ → ℕ → ℕ
hex_step n c = ((n * 16) % 2 ^ 32 + digit_of c) % 2 ^ 32

unfoldable pub hex_of : List ℕ → ℕ
hex_of word = fold hex_step 0 word

-- the signed number of 32 bits
abbrev pub signed_of : List ℕ → ℤ
signed_of [] = pos (min (number_of [] % 2 ^ 32) (2 ^ 31 - 1))
signed_of (c ∷ cs) = if c == 45 then neg_ℤ (pos (min (number_of cs % 2 ^ 32) (2 ^ 31))) else pos (min (number_of (c ∷ cs) % 2 ^ 32) (2 ^ 31 - 1))

-- a hexadecimal digit
abbrev pub glyph : ℕ → ℕ
glyph d = if nat_lt d 10 then 48 + d else 87 + d

-- a word as 8 lower-case hexadecimal digits
unfoldable pub hex8 : ℕ → List ℕ
hex8 w = glyph (w / 2 ^ 28) ∷ glyph (w / 2 ^ 24 % 16) ∷ glyph (w / 2 ^ 20 % 16) ∷ glyph (w / 2 ^ 16 % 16) ∷ glyph (w / 2 ^ 12 % 16) ∷ glyph (w / 2 ^ 8 % 16) ∷ glyph (w / 16 % 16) ∷ glyph (w % 16) ∷ []
