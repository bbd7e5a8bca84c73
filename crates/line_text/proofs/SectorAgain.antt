-- A sector that was written is read again.
use Rattle.std.proofs.Common.{◌≡◌, ℕ, ◌*◌, ◌/◌, ◌%◌, ◌^◌, ◌<◌, Bool, true, false, eqb, List, [], ◌∷◌, ◌++◌, length, sym, ap, ◌∙◌, inl, inr, arith, refl, eq-eqb, ◌⊎◌}
use Rattle.std.specs.Prelude.{codes, slice_index, replicate}
use Rattle.std.specs.List.{list_all, AllByRecursion}
use Rattle.std.specs.Str.{bytes_eq}
use Rattle.std.proofs.lemmas.List.Concat.{flat_map-cons}
use Rattle.std.proofs.lemmas.List.{length-append}
use Rattle.std.proofs.lemmas.List.Elements.{All-from_recursion, recursion_from_All, All-append}
use Rattle.std.proofs.lemmas.Bool.{eqb-true}
use Rattle.std.proofs.lemmas.Slice.Eq.{bytes_eq-Decides}
use Rattle.line_text.proofs.Both.{both_true}
use Rattle.line_text.specs.Words.{is_space, HasNoSpace, first_of, later}
use Rattle.line_text.specs.Numbers.{glyph, hex8}
use Rattle.line_text.specs.Sector.{byte_digits, word_digits, byte_of, words_of_digits, are_all, sector_words, digits_sector, sector_of, IsSector}
use Rattle.line_text.proofs.Again.{glyph_again, glyph_no_space, hex_again, hex8_no_space}

abbrev pub AreWords : List ℕ → Type 0
AreWords words = AllByRecursion (λ w. w < 2 ^ 32) words

byte_digits_cons : (w : ℕ) (ws : List ℕ) → byte_digits (w ∷ ws) ≡ word_digits w ++ byte_digits ws
unfolding byte_digits
byte_digits_cons w ws = flat_map-cons word_digits w ws

byte_digits_none : byte_digits [] ≡ []
unfolding byte_digits
byte_digits_none = refl

byte_again : (b : ℕ) → b < 2 ^ 8 → byte_of (glyph (b / 16)) (glyph (b % 16)) ≡ b
byte_again b fits = rw (glyph_again (b / 16) (omega arith), glyph_again (b % 16) (omega arith)) (omega arith)

word_again : (w : ℕ) (rest : List ℕ) → w < 2 ^ 32 → words_of_digits (word_digits w ++ rest) ≡ w ∷ words_of_digits rest
unfolding words_of_digits
word_again w rest fits =
    rw (byte_again (w % 2 ^ 8) (omega arith), byte_again (w / 2 ^ 8 % 2 ^ 8) (omega arith), byte_again (w / 2 ^ 16 % 2 ^ 8) (omega arith), byte_again (w / 2 ^ 24) (omega arith))
    (ap (λ (v : ℕ). v ∷ words_of_digits rest) (omega arith))

words_again : (ws : List ℕ) → AreWords ws → words_of_digits (byte_digits ws) ≡ ws
unfolding words_of_digits
words_again [] fits = ap words_of_digits byte_digits_none
words_again (w ∷ ws) fits = ap words_of_digits (byte_digits_cons w ws) ∙ word_again w (byte_digits ws) fits.0 ∙ ap (λ (x : List ℕ). w ∷ x) (words_again ws fits.1)

length-byte_digits : (ws : List ℕ) → length (byte_digits ws) ≡ 8 * length ws
length-byte_digits [] = ap length byte_digits_none
length-byte_digits (w ∷ ws) = ap length (byte_digits_cons w ws) ∙ length-append (word_digits w) (byte_digits ws) ∙ omega (arith, length-byte_digits ws)

digits_again : (ws : List ℕ) → length ws ≡ 128 → AreWords ws → digits_sector (byte_digits ws) ≡ ws
unfolding digits_sector
digits_again ws len fits =
    let full : length (byte_digits ws) ≡ 1024 = omega (arith, length-byte_digits ws) in
    rw (eq-eqb (length (byte_digits ws)) 1024 full) (words_again ws fits)

is_false : (b : Bool) → (b ≡ true → ⊥) → b ≡ false
is_false true h = absurd (h refl)
is_false false h = refl

not_fill : (ws : List ℕ) → length ws ≡ 128 → bytes_eq (byte_digits ws) (codes "fill") ≡ false
not_fill ws len =
    is_false (bytes_eq (byte_digits ws) (codes "fill"))
    (λ e. let same = (bytes_eq-Decides (byte_digits ws) (codes "fill")).0 e in
    let four : length (byte_digits ws) ≡ 4 = ap length same in
    omega (arith, length-byte_digits ws))

filled : (w : ℕ) (ws : List ℕ) → list_all (λ v. eqb v w) ws ≡ true → ws ≡ replicate (length ws) w
filled w [] e = refl
filled w (v ∷ ws) e =
    let both = both_true (eqb v w) (list_all (λ u. eqb u w) ws) e in
    rw (eqb-true v w both.0, ← filled w ws both.1) refl

byte_digits_no_space : (ws : List ℕ) → HasNoSpace (byte_digits ws)
byte_digits_no_space [] = rw byte_digits_none (All-from_recursion (λ b. is_space b ≡ false) [] tt)
byte_digits_no_space (w ∷ ws) = rw (byte_digits_cons w ws) (All-append (λ b. is_space b ≡ false) (word_digits w) (byte_digits ws) (All-from_recursion (λ b. is_space b ≡ false) (word_digits w) (glyph_no_space _, (glyph_no_space _, (glyph_no_space _, (glyph_no_space _, (glyph_no_space _, (glyph_no_space _, (glyph_no_space _, (glyph_no_space _, tt))))))))) (byte_digits_no_space ws))

yes_or_no : (b : Bool) → (b ≡ true) ⊎ (b ≡ false)
yes_or_no true = inl refl
yes_or_no false = inr refl

-- the two texts of a sector
pub data Shape (ws : List ℕ) : Type 0 where
  fill : sector_words ws ≡ codes "fill" ∷ hex8 (slice_index ws 0) ∷ [] → ws ≡ replicate 128 (slice_index ws 0) → Shape ws
  digits : sector_words ws ≡ byte_digits ws ∷ [] → Shape ws

pub shape_of : (ws : List ℕ) → length ws ≡ 128 → Shape ws
unfolding sector_words are_all
shape_of ws len =
    elim (yes_or_no (list_all (λ v. eqb v (slice_index ws 0)) ws)) [
      | inl e ↦ fill (rw e refl) (filled (slice_index ws 0) ws e ∙ ap (λ (n : ℕ). replicate n (slice_index ws 0)) len)
      | inr e ↦ digits (rw e refl)
    ]

first_fits : (ws : List ℕ) → AreWords ws → slice_index ws 0 < 2 ^ 32
first_fits [] fits = omega arith
first_fits (w ∷ ws) fits = fits.0

-- a sector's words are read again
pub sector_again : (ws : List ℕ) → IsSector ws → sector_of (first_of (sector_words ws)) (later (sector_words ws)) ≡ ws
unfolding sector_of
sector_again ws is =
    let len = is.size in
    let fits = recursion_from_All (λ w. w < 2 ^ 32) ws is.fits in
    elim (shape_of ws len) [
      | fill text same ↦ rw (text, hex_again (slice_index ws 0) (first_fits ws fits)) (sym same)
      | digits text ↦ rw (text, not_fill ws len) (digits_again ws len fits)
    ]

pub sector_no_space : (ws : List ℕ) → IsSector ws → AllByRecursion HasNoSpace (sector_words ws)
sector_no_space ws is =
    elim (shape_of ws is.size) [
      | fill text same ↦ rw text (All-from_recursion (λ b. is_space b ≡ false) (codes "fill") (refl, (refl, (refl, (refl, tt)))), (hex8_no_space _, tt))
      | digits text ↦ rw text (byte_digits_no_space ws, tt)
    ]

-- the words after one before a sector's are the sector's, and the first of them isn't empty
pub sector_after : (w : List ℕ) (ws : List ℕ) → IsSector ws → (later (w ∷ sector_words ws) ≡ sector_words ws) × (eqb (length (first_of (sector_words ws))) 0 ≡ false)
sector_after w ws is =
    elim (shape_of ws is.size) [
      | fill text same ↦ rw text (refl, refl)
      | digits text ↦ let full : length (byte_digits ws) ≡ 1024 = omega (arith, length-byte_digits ws, is.size) in rw (text, full) (refl, refl)
    ]
