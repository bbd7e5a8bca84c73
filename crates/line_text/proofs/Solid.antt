-- Words without a space, by a test that computes.
use Rattle.std.proofs.Common.{◌≡◌, ℕ, ◌<◌, ◌^◌, Bool, true, false, List, [], ◌∷◌, refl, ap, ℤ, decimal}
use Rattle.std.specs.Prelude.{not, FitsSigned}
use Rattle.std.specs.Fmt.{signed_decimal}
use Rattle.std.specs.Int.{w32}
use Rattle.std.specs.List.{list_all, AllByRecursion}
use Rattle.std.proofs.lemmas.List.Sums.{AllPass-from_list_all, list_all-from_AllPass}
use Rattle.line_text.proofs.Both.{both_true}
use Rattle.line_text.specs.Words.{is_space, HasNoSpace, words_in, joined}
use Rattle.line_text.specs.Numbers.{hex8}
use Rattle.line_text.specs.Sector.{IsSector, sector_words}
use Rattle.line_text.proofs.WordLemmas.{words_in-joined}
use Rattle.line_text.proofs.Again.{decimal_no_space, hex8_no_space, signed_no_space}
use Rattle.line_text.proofs.SectorAgain.{sector_no_space}

-- whether a word has no space
abbrev pub is_solid : List ℕ → Bool
is_solid word = list_all (λ b. not (is_space b)) word

not_true : (b : Bool) → not b ≡ true → b ≡ false
not_true true e = absurd cc
not_true false e = refl

no_space : (word : List ℕ) → is_solid word ≡ true → HasNoSpace word
no_space word e = λ k d lt. not_true _ (AllPass-from_list_all (λ b. not (is_space b)) word e k d lt)

pub solid : (word : List ℕ) → HasNoSpace word → is_solid word ≡ true
solid word h = list_all-from_AllPass (λ b. not (is_space b)) word (λ k d lt. ap not (h k d lt))

all_no_space : (words : List (List ℕ)) → list_all is_solid words ≡ true → AllByRecursion HasNoSpace words
all_no_space [] e = tt
all_no_space (w ∷ ws) e = let both = both_true (is_solid w) (list_all is_solid ws) e in (no_space w both.0, all_no_space ws both.1)

all_solid : (words : List (List ℕ)) → AllByRecursion HasNoSpace words → list_all is_solid words ≡ true
all_solid [] h = refl
all_solid (w ∷ ws) h = rw (solid w h.0, all_solid ws h.1) refl

-- solid words, with single spaces between them, are read again
pub solid_again : (w : List ℕ) (ws : List (List ℕ)) → list_all is_solid (w ∷ ws) ≡ true → words_in (joined (w ∷ ws)) ≡ w ∷ ws
solid_again w ws e = let h = all_no_space (w ∷ ws) e in words_in-joined w ws h.0 h.1

pub solid_decimal : (n : ℕ) → n < 2 ^ 64 → is_solid (decimal n) ≡ true
solid_decimal n fits = solid (decimal n) (decimal_no_space n fits)

pub solid_hex : (w : ℕ) → is_solid (hex8 w) ≡ true
solid_hex w = solid (hex8 w) (hex8_no_space w)

pub solid_signed : (z : ℤ) → FitsSigned w32 z → is_solid (signed_decimal z) ≡ true
solid_signed z fits = solid (signed_decimal z) (signed_no_space z fits)

pub solid_sector : (words : List ℕ) → IsSector words → list_all is_solid (sector_words words) ≡ true
solid_sector words is = all_solid (sector_words words) (sector_no_space words is)
