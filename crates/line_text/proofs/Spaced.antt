-- The digits of a number at the end of a buffer, with a space before them.
use Rattle.std.proofs.Common.{◌≡◌, ℕ, ◌+◌, ◌-◌, ◌≤◌, List, [], ◌∷◌, ◌++◌, length, drop, take, set, ap, ◌∙◌, arith, take_all, append-nil}
use Rattle.std.proofs.lemmas.List.{drop-set, drop_all}
use Rattle.std.proofs.lemmas.Str.Ascii.{IsAscii-nil, IsAscii-cons}
use Rattle.std.specs.Prelude.{map, slice_index, IsAscii}

pub spaced : (old new digits : List ℕ) (first size : ℕ) → length old ≡ size → length new ≡ size → 1 ≤ first → first + length digits ≡ size
    → drop first new ≡ digits ++ drop size old
    → take (size - (first - 1)) (drop (first - 1) (set new (first - 1) 32)) ≡ 32 ∷ digits
spaced old new digits first size all_old all_new some whole written =
    let next : first - 1 + 1 ≡ first = omega arith in
    let end : drop (first - 1) (set new (first - 1) 32) ≡ 32 ∷ digits =
    drop-set new (first - 1) 32 (omega arith)
    ∙ ap (λ (l : List ℕ). 32 ∷ l) (ap (λ (n : ℕ). drop n new) next ∙ (written ∙ (ap (λ (l : List ℕ). digits ++ l) (drop_all size old (omega arith)) ∙ append-nil digits))) in
    ap (take (size - (first - 1))) end ∙ take_all (size - (first - 1)) (32 ∷ digits) (omega arith)

-- a space put before digits and what follows them
pub space_before : (new rest digits : List ℕ) (first : ℕ) → 1 ≤ first → first ≤ length new → drop first new ≡ digits ++ rest
    → drop (first - 1) (set new (first - 1) 32) ≡ 32 ∷ (digits ++ rest)
space_before new rest digits first some within written =
    let next : first - 1 + 1 ≡ first = omega arith in
    drop-set new (first - 1) 32 (omega arith) ∙ ap (λ (l : List ℕ). 32 ∷ l) (ap (λ (n : ℕ). drop n new) next ∙ written)

-- bytes that are picked from ASCII text are ASCII text
pub picked : (d : List ℕ) → IsAscii d → (places : List ℕ) → IsAscii (map (slice_index d) places)
picked d all [] = IsAscii-nil
picked d all (k ∷ places) = IsAscii-cons (slice_index d k) (map (slice_index d) places) (all k) (picked d all places)
