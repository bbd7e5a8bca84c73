-- Names, paths and texts.
use Rattle.std.proofs.Common.{◌≡◌, ℕ, ◌<◌, ◌≤◌, Bool, true, false, List, [], ◌∷◌, length, refl, arith, ◌&&◌, ltb, leb}
use Rattle.std.specs.Prelude.{IsAscii}
use Rattle.std.specs.List.{list_all}
use Rattle.std.proofs.lemmas.Bool.Decides.{nat_tests}
use Rattle.std.proofs.lemmas.List.Sums.{AllPass-from_list_all}
use Rattle.std.proofs.lemmas.Str.Ascii.{IsAscii-from_all}
use Rattle.line_text.proofs.Both.{both_true}
use Rattle.line_text.specs.Words.{is_space, HasNoSpace}
use Rattle.line_text.specs.Texts.{is_graphic, is_name_byte, is_text_of, is_key_name, is_key_text, is_key_path, text_in}

graphic_below : (b : ℕ) → is_graphic b ≡ true → b < 128
graphic_below b e = grind (arith, nat_tests)

graphic_is_no_space : (b : ℕ) → is_graphic b ≡ true → is_space b ≡ false
graphic_is_no_space b e = grind (arith, nat_tests)

name_is_graphic : (b : ℕ) → is_name_byte b ≡ true → is_graphic b ≡ true
name_is_graphic b e = grind (arith, nat_tests)

pub graphic_ascii : (bs : List ℕ) → list_all is_graphic bs ≡ true → IsAscii bs
graphic_ascii bs e = IsAscii-from_all bs (λ k d lt. graphic_below _ (AllPass-from_list_all is_graphic bs e k d lt))

graphic_no_space : (bs : List ℕ) → list_all is_graphic bs ≡ true → HasNoSpace bs
graphic_no_space bs e = λ k d lt. graphic_is_no_space _ (AllPass-from_list_all is_graphic bs e k d lt)

-- what a test of a text says
pub record Passes (passes : ℕ → Bool) (most : ℕ) (bytes : List ℕ) : Type 0 where
  pub some : 0 < length bytes
  pub short : length bytes ≤ most
  pub each : list_all passes bytes ≡ true

passes_from_test : (passes : ℕ → Bool) (most : ℕ) (bytes : List ℕ) → is_text_of passes most bytes ≡ true → Passes passes most bytes
passes_from_test passes most bytes e =
    let a = both_true (ltb 0 (length bytes) && leb (length bytes) most) (list_all passes bytes) e in
    let b = both_true (ltb 0 (length bytes)) (leb (length bytes) most) a.0 in
    record { some = grind (arith, nat_tests, b.0); short = grind (arith, nat_tests, b.1); each = a.1 }

names_are_graphic : (bytes : List ℕ) → list_all is_name_byte bytes ≡ true → list_all is_graphic bytes ≡ true
names_are_graphic [] e = refl
names_are_graphic (b ∷ bs) e =
    let both = both_true (is_name_byte b) (list_all is_name_byte bs) e in
    rw (name_is_graphic b both.0, names_are_graphic bs both.1) refl

text_again : (most : ℕ) (bytes : List ℕ) → Passes is_graphic most bytes → text_in most bytes ≡ bytes
unfolding text_in
text_again most bytes p =
    let short : leb (length bytes) most ≡ true = grind (arith, nat_tests, p.short) in
    rw (short, p.each) refl

-- a text that passes is read again as it is, and has no space
pub record ReadsAgain (most : ℕ) (bytes : List ℕ) : Type 0 where
  pub again : text_in most bytes ≡ bytes
  pub some : 0 < length bytes
  pub no_space : HasNoSpace bytes

reads_again : (most : ℕ) (bytes : List ℕ) → Passes is_graphic most bytes → ReadsAgain most bytes
reads_again most bytes p = record { again = text_again most bytes p; some = p.some; no_space = graphic_no_space bytes p.each }

pub name_again : (bytes : List ℕ) → is_key_name bytes ≡ true → ReadsAgain 32 bytes
unfolding is_key_name
name_again bytes e =
    let p = passes_from_test is_name_byte 32 bytes e in
    reads_again 32 bytes (record { some = p.some; short = p.short; each = names_are_graphic bytes p.each })

pub key_text_again : (bytes : List ℕ) → is_key_text bytes ≡ true → ReadsAgain 64 bytes
unfolding is_key_text
key_text_again bytes e = reads_again 64 bytes (passes_from_test is_graphic 64 bytes e)

pub path_again : (bytes : List ℕ) → is_key_path bytes ≡ true → ReadsAgain 80 bytes
unfolding is_key_path
path_again bytes e = reads_again 80 bytes (passes_from_test is_graphic 80 bytes (both_true (is_text_of is_graphic 80 bytes) _ e).0)
