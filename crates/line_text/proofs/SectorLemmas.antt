-- A sector's digits.
use Rattle.std.proofs.Common.{◌≡◌, ℕ, ◌+◌, ◌*◌, ◌<◌, ◌≤◌, true, false, List, [], ◌∷◌, ◌++◌, length, get_or, take, drop, sym, ap, ◌∙◌, arith, refl, add-zero, eq-eqb, append_assoc}
use Rattle.std.specs.Prelude.{codes, slice_index}
use Rattle.std.proofs.lemmas.List.{take_more, append-nil, drop_all}
use Rattle.std.proofs.lemmas.List.Concat.{flat_map-cons, flat_map-append}
use Rattle.std.proofs.Math.ListN.{set}
use Rattle.std.proofs.lemmas.List.{get_or-drop, drop-drop, length-drop, take_all}
use Rattle.std.proofs.lemmas.Grind.{take-set_at}
use Rattle.line_text.specs.Words.{spaced}
use Rattle.line_text.specs.Numbers.{hex8}
use Rattle.line_text.specs.Sector.{byte_digits, word_digits, are_all, sector_words, digits_word, words_of_digits, digits_sector}

pub byte_digits_none : byte_digits [] ≡ []
unfolding byte_digits
byte_digits_none = refl

byte_digits_one : (w : ℕ) → byte_digits (w ∷ []) ≡ word_digits w
unfolding byte_digits
byte_digits_one w = flat_map-cons word_digits w [] ∙ append-nil (word_digits w)

pub byte_digits_more : (words : List ℕ) (i : ℕ) → i < length words → byte_digits (take (i + 1) words) ≡ byte_digits (take i words) ++ word_digits (get_or words i 0)
unfolding byte_digits
byte_digits_more words i lt = ap byte_digits (take_more words i 0 lt) ∙ flat_map-append word_digits (take i words) (get_or words i 0 ∷ []) ∙ ap (λ (d : List ℕ). byte_digits (take i words) ++ d) (byte_digits_one (get_or words i 0))

pub spaced_fill : (words : List ℕ) → are_all (slice_index words 0) words ≡ true → spaced (sector_words words) ≡ (32 ∷ codes "fill") ++ 32 ∷ hex8 (slice_index words 0)
unfolding sector_words hex8
spaced_fill words e = rw e refl

pub spaced_digits : (words : List ℕ) → are_all (slice_index words 0) words ≡ false → spaced (sector_words words) ≡ 32 ∷ byte_digits words
unfolding sector_words
spaced_digits words e = rw e (ap (λ (x : List ℕ). 32 ∷ x) (append-nil (byte_digits words)))

-- the word of the first eight digits, and the rest's
words_of_digits_step : (ds : List ℕ) → 8 ≤ length ds → words_of_digits ds ≡ digits_word ds 0 ∷ words_of_digits (drop 8 ds)
unfolding words_of_digits
words_of_digits_step (a ∷ b ∷ c ∷ d ∷ e ∷ f ∷ g ∷ h ∷ ds) le = refl
words_of_digits_step (a ∷ b ∷ c ∷ d ∷ e ∷ f ∷ g ∷ []) le = absurd (omega arith)
words_of_digits_step (a ∷ b ∷ c ∷ d ∷ e ∷ f ∷ []) le = absurd (omega arith)
words_of_digits_step (a ∷ b ∷ c ∷ d ∷ e ∷ []) le = absurd (omega arith)
words_of_digits_step (a ∷ b ∷ c ∷ d ∷ []) le = absurd (omega arith)
words_of_digits_step (a ∷ b ∷ c ∷ []) le = absurd (omega arith)
words_of_digits_step (a ∷ b ∷ []) le = absurd (omega arith)
words_of_digits_step (a ∷ []) le = absurd (omega arith)
words_of_digits_step [] le = absurd (omega arith)

-- one word more of a sector
pub from_digits_more : (ds ws : List ℕ) (i v : ℕ) → i < length ws → i * 8 + 8 ≤ length ds
    → v ≡ digits_word ds (i * 8)
    → take i ws ++ words_of_digits (drop (i * 8) ds) ≡ words_of_digits ds
    → take (i + 1) (set ws i v) ++ words_of_digits (drop ((i + 1) * 8) ds) ≡ words_of_digits ds
from_digits_more ds ws i v lt room e so_far =
    let step = words_of_digits_step (drop (i * 8) ds) (omega (arith, length-drop (i * 8) ds)) in
    let at : (k : ℕ) → get_or (drop (i * 8) ds) k 0 ≡ get_or ds (i * 8 + k) 0 = λ k. get_or-drop (i * 8) ds k 0 in
    let read = rw (at 0, at 1, at 2, at 3, at 4, at 5, at 6, at 7, add-zero, ← e, drop-drop) at step in
    let next : (i + 1) * 8 ≡ i * 8 + 8 = omega arith in
    rw (take-set_at ws i (i + 1) v refl lt, next) (append_assoc (take i ws) (v ∷ []) (words_of_digits (drop (i * 8 + 8) ds)) ∙ ap (λ (x : List ℕ). take i ws ++ x) (sym read) ∙ so_far)

words_of_digits_none : words_of_digits [] ≡ []
unfolding words_of_digits
words_of_digits_none = refl

pub from_digits_all : (ds ws : List ℕ) (i : ℕ) → i ≡ 128 → length ws ≡ 128 → length ds ≡ 1024
    → take i ws ++ words_of_digits (drop (i * 8) ds) ≡ words_of_digits ds → ws ≡ digits_sector ds
unfolding digits_sector
from_digits_all ds ws i all len size so_far =
    rw (eq-eqb (length ds) 1024 size) (rw (take_all i ws (omega arith), drop_all (i * 8) ds (omega arith), words_of_digits_none, append-nil) at so_far)
