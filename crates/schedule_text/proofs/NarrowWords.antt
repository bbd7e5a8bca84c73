-- Words of a line: at most 80 bytes, each above a space.
use Rattle.std.proofs.Common.{◌≡◌, ℕ, suc, ◌<◌, ◌≤◌, ◌^◌, ◌/◌, ◌%◌, Bool, true, List, [], ◌∷◌, ◌&&◌, length, get_or, refl, ℤ, pos, negsuc, decimal, arith}
use Rattle.std.specs.List.{list_all}
use Rattle.std.specs.Fmt.{signed_decimal}
use Rattle.std.specs.Prelude.{FitsSigned, nat_le, nat_lt, ◌==◌, slice_index}
use Rattle.std.specs.Int.{w32}
use Rattle.std.proofs.lemmas.Bool.Decides.{nat_tests}
use Rattle.std.proofs.lemmas.Fmt.{decimal_is_IsNumeral, length-decimal-le, length_signed_le}
use Rattle.std.proofs.lemmas.List.{get_or_default}
use Rattle.std.proofs.lemmas.List.Sums.{list_all-from_AllPass}
use Rattle.std.proofs.lemmas.Str.Parse.{digit_at}
use Rattle.line_text.proofs.Both.{both_true}
use Rattle.line_text.specs.Texts.{is_key_name, is_key_text, is_key_path, is_text_of, is_name_byte, is_graphic}
use Rattle.line_text.specs.Numbers.{glyph, hex8}

-- where each passes one test, and another whenever this one
pub all_weaker : {X : Type 0} (p q : X → Bool) → ((x : X) → p x ≡ true → q x ≡ true) → (xs : List X) → list_all p xs ≡ true → list_all q xs ≡ true
all_weaker p q weaker [] e = refl
all_weaker p q weaker (x ∷ xs) e = let both = both_true (p x) (list_all p xs) e in rw (weaker x both.0, all_weaker p q weaker xs both.1) refl

abbrev pub is_above : ℕ → Bool
is_above b = nat_lt 32 b

abbrev pub is_narrow : List ℕ → Bool
is_narrow word = nat_le (length word) 80 && list_all is_above word

abbrev pub AreNarrow : List (List ℕ) → Type 0
AreNarrow words = list_all is_narrow words ≡ true

narrow : (word : List ℕ) → length word ≤ 80 → list_all is_above word ≡ true → is_narrow word ≡ true
narrow word short above = let a : nat_le (length word) 80 ≡ true = grind (arith, nat_tests) in rw (a, above) refl

pub above_of : (word : List ℕ) → is_narrow word ≡ true → list_all is_above word ≡ true
above_of word e = (both_true (nat_le (length word) 80) (list_all is_above word) e).1

pub within_80 : (word : List ℕ) → is_narrow word ≡ true → length word ≤ 80
within_80 word e = let short = (both_true (nat_le (length word) 80) (list_all is_above word) e).0 in grind (arith, nat_tests)

above_digits : (ds : List ℕ) → ((i : ℕ) → i < length ds → 48 ≤ get_or ds i 0) → list_all is_above ds ≡ true
above_digits ds h = list_all-from_AllPass is_above ds (λ k d lt. let digit : 48 ≤ get_or ds k 0 = h k lt in rw (get_or_default ds k d 0 lt) (grind (arith, nat_tests)))

above_decimal : (n : ℕ) → n < 2 ^ 64 → list_all is_above (decimal n) ≡ true
above_decimal n fits = above_digits (decimal n) (λ i lt. (digit_at (decimal n) i (decimal_is_IsNumeral n fits).0.1 lt).0)

pub narrow_decimal : (n : ℕ) → n < 2 ^ 64 → is_narrow (decimal n) ≡ true
narrow_decimal n fits = let short = length-decimal-le 20 n (omega arith) (omega arith) fits in narrow (decimal n) (omega arith) (above_decimal n fits)

pub small : (n : ℕ) → n < 2 ^ 32 → is_narrow (decimal n) ≡ true
small n fits = narrow_decimal n (omega arith)

above_signed : (z : ℤ) → FitsSigned w32 z → list_all is_above (signed_decimal z) ≡ true
above_signed (pos n) fits = above_decimal n (omega arith)
above_signed (negsuc n) fits = rw (above_decimal (suc n) (omega arith)) refl

pub narrow_signed : (z : ℤ) → FitsSigned w32 z → is_narrow (signed_decimal z) ≡ true
narrow_signed z fits = let short = length_signed_le 10 z (omega arith) (omega arith) in narrow (signed_decimal z) (omega arith) (above_signed z fits)

above_glyph : (d : ℕ) → nat_lt 32 (glyph d) ≡ true
above_glyph d = grind (arith, nat_tests)

pub narrow_hex : (w : ℕ) → is_narrow (hex8 w) ≡ true
unfolding hex8
narrow_hex w =
    rw (above_glyph (w / 2 ^ 28), above_glyph (w / 2 ^ 24 % 16), above_glyph (w / 2 ^ 20 % 16), above_glyph (w / 2 ^ 16 % 16), above_glyph (w / 2 ^ 12 % 16), above_glyph (w / 2 ^ 8 % 16), above_glyph (w / 16 % 16), above_glyph (w % 16)) refl

name_above : (b : ℕ) → is_name_byte b ≡ true → is_above b ≡ true
name_above b e = grind (arith, nat_tests)

graphic_above : (b : ℕ) → is_graphic b ≡ true → is_above b ≡ true
graphic_above b e = grind (arith, nat_tests)

text_within : (passes : ℕ → Bool) (most bound : ℕ) (bytes : List ℕ) → is_text_of passes most bytes ≡ true → most ≤ bound → length bytes ≤ bound
text_within passes most bound bytes e fits =
    let a = both_true (nat_lt 0 (length bytes) && nat_le (length bytes) most) (list_all passes bytes) e in
    let b = (both_true (nat_lt 0 (length bytes)) (nat_le (length bytes) most) a.0).1 in
    grind (arith, nat_tests)

text_above : (passes : ℕ → Bool) (most : ℕ) → ((b : ℕ) → passes b ≡ true → is_above b ≡ true) → (bytes : List ℕ) → is_text_of passes most bytes ≡ true → list_all is_above bytes ≡ true
text_above passes most above bytes e = all_weaker passes is_above above bytes (both_true _ (list_all passes bytes) e).1

pub narrow_name : (bytes : List ℕ) → is_key_name bytes ≡ true → is_narrow bytes ≡ true
unfolding is_key_name
narrow_name bytes e = narrow bytes (text_within is_name_byte 32 80 bytes e (omega arith)) (text_above is_name_byte 32 name_above bytes e)

pub narrow_text : (bytes : List ℕ) → is_key_text bytes ≡ true → is_narrow bytes ≡ true
unfolding is_key_text
narrow_text bytes e = narrow bytes (text_within is_graphic 64 80 bytes e (omega arith)) (text_above is_graphic 64 graphic_above bytes e)

pub narrow_equals : (bytes : List ℕ) → is_key_text bytes ≡ true → is_narrow (61 ∷ bytes) ≡ true
unfolding is_key_text
narrow_equals bytes e = let short = text_within is_graphic 64 64 bytes e (omega arith) in narrow (61 ∷ bytes) (omega arith) (text_above is_graphic 64 graphic_above bytes e)

pub narrow_path : (bytes : List ℕ) → is_key_path bytes ≡ true → is_narrow bytes ≡ true
unfolding is_key_path
narrow_path bytes e =
    let is = (both_true (is_text_of is_graphic 80 bytes) (slice_index bytes 0 == 47) e).0 in
    narrow bytes (text_within is_graphic 80 80 bytes is (omega arith)) (text_above is_graphic 80 graphic_above bytes is)
