-- Words without a line feed.
use Rattle.std.proofs.Common.{◌≡◌, ◌≢◌, ℕ, ◌<◌, ◌≤◌, ◌^◌, true, not, ◌==◌, List, [], ◌∷◌, ◌++◌, length, get_or, decimal, arith}
use Rattle.std.specs.Prelude.{All}
use Rattle.std.specs.List.{list_all, AllByRecursion}
use Rattle.std.proofs.lemmas.Bool.Decides.{nat_tests}
use Rattle.std.proofs.lemmas.Fmt.{decimal_is_IsNumeral}
use Rattle.std.proofs.lemmas.Str.Parse.{digit_at}
use Rattle.std.proofs.lemmas.List.{get_or_default}
use Rattle.std.proofs.lemmas.List.Elements.{All-from_recursion, All-nil, All-cons, All-append}
use Rattle.std.proofs.lemmas.List.Sums.{AllPass-from_list_all}
use Rattle.line_text.specs.Words.{joined, spaced}
use Rattle.line_text.specs.Numbers.{glyph, hex8}

abbrev pub IsUnbroken : List ℕ → Type 0
IsUnbroken word = All (λ (b : ℕ). b ≢ 10) word

other_byte : (b : ℕ) → not (b == 10) ≡ true → b ≢ 10
other_byte b e = λ same. grind (arith, nat_tests)

-- a word that is written out
pub literal : (word : List ℕ) → list_all (λ b. not (b == 10)) word ≡ true → IsUnbroken word
literal word e = λ k d lt. other_byte _ (AllPass-from_list_all (λ b. not (b == 10)) word e k d lt)

digits : (ds : List ℕ) → ((i : ℕ) → i < length ds → 48 ≤ get_or ds i 0) → IsUnbroken ds
digits ds h = λ k d lt. let digit : 48 ≤ get_or ds k 0 = h k lt in rw (get_or_default ds k d 0 lt) (λ e. omega arith)

pub decimal_unbroken : (n : ℕ) → n < 2 ^ 64 → IsUnbroken (decimal n)
decimal_unbroken n fits = digits (decimal n) (λ i lt. (digit_at (decimal n) i (decimal_is_IsNumeral n fits).0.1 lt).0)

glyph_other : (d : ℕ) → glyph d ≢ 10
glyph_other d = λ e. grind (arith, nat_tests)

pub hex8_unbroken : (w : ℕ) → IsUnbroken (hex8 w)
unfolding hex8
hex8_unbroken w =
    All-from_recursion (λ (b : ℕ). b ≢ 10) (hex8 w)
    (glyph_other _, (glyph_other _, (glyph_other _, (glyph_other _, (glyph_other _, (glyph_other _, (glyph_other _, (glyph_other _, tt))))))))

spaced_unbroken : (words : List (List ℕ)) → AllByRecursion IsUnbroken words → IsUnbroken (spaced words)
spaced_unbroken [] h = All-nil (λ (b : ℕ). b ≢ 10)
spaced_unbroken (w ∷ ws) h =
    All-cons (λ (b : ℕ). b ≢ 10) 32 (w ++ spaced ws) (λ e. omega arith) (All-append (λ (b : ℕ). b ≢ 10) w (spaced ws) h.0 (spaced_unbroken ws h.1))

-- words with single spaces between them
pub joined_unbroken : (words : List (List ℕ)) → AllByRecursion IsUnbroken words → IsUnbroken (joined words)
joined_unbroken [] h = All-nil (λ (b : ℕ). b ≢ 10)
joined_unbroken (w ∷ ws) h = All-append (λ (b : ℕ). b ≢ 10) w (spaced ws) h.0 (spaced_unbroken ws h.1)
