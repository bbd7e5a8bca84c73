-- The text of a line of the grammar has no line feed: each byte of it is a space or above.
use Rattle.std.proofs.Common.{◌≡◌, ℕ, ◌/◌, ◌%◌, ◌^◌, Bool, true, false, List, [], ◌∷◌, ◌++◌, refl, decimal, arith}
use Rattle.std.specs.Prelude.{nat_lt, slice_index, codes, if◌then◌else◌}
use Rattle.std.specs.List.{list_all}
use Rattle.std.proofs.lemmas.Bool.Decides.{nat_tests}
use Rattle.line_text.proofs.Both.{both_true}
use Rattle.line_text.specs.Words.{joined, spaced}
use Rattle.line_text.specs.Numbers.{glyph, hex8}
use Rattle.line_text.specs.Sector.{are_all, byte_digits, hex2, word_digits, sector_words}
use Rattle.schedule_text.specs.declared.line.Line.{Line}
use Rattle.schedule_text.specs.declared.line.Line.TheVariants as lines
use Rattle.schedule_text.specs.Line.{words_of, text_of}
use Rattle.schedule_text.specs.Range.{IsInRange}
use Rattle.schedule_text.proofs.NarrowWords.{all_weaker, is_above, is_narrow, above_of, narrow_decimal, narrow_hex, small}
use Rattle.schedule_text.proofs.Narrow.{narrow_line}

abbrev pub is_inline : List ℕ → Bool
is_inline bytes = list_all (λ b. nat_lt 31 b) bytes

abbrev AreInline : List (List ℕ) → Type 0
AreInline words = list_all is_inline words ≡ true

inline_append : (a b : List ℕ) → is_inline a ≡ true → is_inline b ≡ true → is_inline (a ++ b) ≡ true
inline_append [] b p q = q
inline_append (x ∷ a) b p q = let both = both_true (nat_lt 31 x) (is_inline a) p in rw (both.0, inline_append a b both.1 q) refl

above_inline : (b : ℕ) → is_above b ≡ true → nat_lt 31 b ≡ true
above_inline b above = grind (arith, nat_tests)

inline_narrow : (word : List ℕ) → is_narrow word ≡ true → is_inline word ≡ true
inline_narrow word narrow = all_weaker is_above (λ b. nat_lt 31 b) above_inline word (above_of word narrow)

inline_glyph : (d : ℕ) → nat_lt 31 (glyph d) ≡ true
inline_glyph d = grind (arith, nat_tests)

inline_hex2 : (b : ℕ) → is_inline (hex2 b) ≡ true
inline_hex2 b = rw (inline_glyph (b / 16), inline_glyph (b % 16)) refl

inline_word : (w : ℕ) → is_inline (word_digits w) ≡ true
inline_word w =
    inline_append (hex2 (w % 2 ^ 8)) (hex2 (w / 2 ^ 8 % 2 ^ 8) ++ hex2 (w / 2 ^ 16 % 2 ^ 8) ++ hex2 (w / 2 ^ 24)) (inline_hex2 (w % 2 ^ 8))
    (inline_append (hex2 (w / 2 ^ 8 % 2 ^ 8)) (hex2 (w / 2 ^ 16 % 2 ^ 8) ++ hex2 (w / 2 ^ 24)) (inline_hex2 (w / 2 ^ 8 % 2 ^ 8))
    (inline_append (hex2 (w / 2 ^ 16 % 2 ^ 8)) (hex2 (w / 2 ^ 24)) (inline_hex2 (w / 2 ^ 16 % 2 ^ 8)) (inline_hex2 (w / 2 ^ 24))))

inline_bytes : (words : List ℕ) → is_inline (byte_digits words) ≡ true
unfolding byte_digits
inline_bytes [] = refl
inline_bytes (w ∷ words) = inline_append (word_digits w) (byte_digits words) (inline_word w) (inline_bytes words)

inline_sector : (words : List ℕ) → AreInline (sector_words words)
unfolding sector_words
inline_sector words = by_test (are_all (slice_index words 0) words)
  where
    by_test : (b : Bool) → AreInline (if b then codes "fill" ∷ hex8 (slice_index words 0) ∷ [] else byte_digits words ∷ [])
    by_test true = rw (inline_narrow (hex8 (slice_index words 0)) (narrow_hex (slice_index words 0))) refl
    by_test false = rw (inline_bytes words) refl

inline_line : (line : Line) → IsInRange line → AreInline (words_of line)
inline_line (lines.EffectRead id index words) h = rw (inline_narrow (decimal id) (narrow_decimal id h.widths.0), inline_narrow (decimal index) (small index h.widths.1), inline_sector words) refl
inline_line (lines.Data id index words) h = rw (inline_narrow (decimal id) (narrow_decimal id h.widths.0), inline_narrow (decimal index) (small index h.widths.1), inline_sector words) refl
inline_line line h = all_weaker is_narrow is_inline inline_narrow (words_of line) (narrow_line line h refl)

inline_spaced : (words : List (List ℕ)) → AreInline words → is_inline (spaced words) ≡ true
inline_spaced [] e = refl
inline_spaced (w ∷ words) e = let both = both_true (is_inline w) (list_all is_inline words) e in inline_append w (spaced words) both.0 (inline_spaced words both.1)

inline_joined : (words : List (List ℕ)) → AreInline words → is_inline (joined words) ≡ true
inline_joined [] e = refl
inline_joined (w ∷ words) e = let both = both_true (is_inline w) (list_all is_inline words) e in inline_append w (spaced words) both.0 (inline_spaced words both.1)

pub inline_of : (line : Line) → IsInRange line → is_inline (text_of line) ≡ true
inline_of line h = inline_joined (words_of line) (inline_line line h)
