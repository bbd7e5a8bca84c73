-- Looking up, adding and taking out by number, in a list of live mappings whose numbers ascend.
use Rattle.std.proofs.Common.{◌≡◌, ◌≢◌, ℕ, zero, suc, ◌<◌, ◌≤◌, ◌==◌, Bool, true, false, List, [], ◌∷◌, ◌++◌, length, get_or, Some, None, refl, arith}
use Rattle.std.specs.List.{remove}
use Rattle.std.proofs.lemmas.Bool.Decides.{nat_tests}
use Rattle.grant_table.specs.declared.held.Held.{Held}
use Rattle.grant_table.specs.Table.{held_of, without}
use Rattle.grant_table.specs.Sound.{IsAscending, nothing_held}

-- the number of the mapping at a place
abbrev pub number_at : List Held → ℕ → ℕ
number_at live i = let held = get_or live i nothing_held in held.mapping.number

-- all numbers are above low
pub above_low : (low : ℕ) (live : List Held) (i : ℕ) → IsAscending low live → i < length live → low < number_at live i
above_low low [] i up within = absurd (omega arith)
above_low low (held ∷ live) zero up within = up.0
above_low low (held ∷ live) (suc i) up within =
    let first = up.0 in
    let rest = above_low held.mapping.number live i up.1 (omega arith) in
    omega arith

-- a later place has a greater number
pub ascends : (low : ℕ) (live : List Held) → IsAscending low live → (i j : ℕ) → i < j → j < length live → number_at live i < number_at live j
ascends low [] up i j before within = absurd (omega arith)
ascends low (held ∷ live) up i zero before within = absurd (omega arith)
ascends low (held ∷ live) up zero (suc j) before within = above_low held.mapping.number live j up.1 (omega arith)
ascends low (held ∷ live) up (suc i) (suc j) before within = ascends held.mapping.number live up.1 i j (omega arith) (omega arith)

-- the mapping at a place is found by its number
pub held_of-number_at : (low : ℕ) (live : List Held) (i : ℕ) → IsAscending low live → i < length live → held_of (number_at live i) live ≡ Some (get_or live i nothing_held)
held_of-number_at low [] i up within = absurd (omega arith)
held_of-number_at low (held ∷ live) zero up within = grind (arith, nat_tests)
held_of-number_at low (held ∷ live) (suc i) up within =
    let later = above_low held.mapping.number live i up.1 (omega arith) in
    let found = held_of-number_at held.mapping.number live i up.1 (omega arith) in
    grind (arith, nat_tests)

-- a number that no mapping has is not found
pub held_of_absent : (number : ℕ) (live : List Held) → ((i : ℕ) → i < length live → number_at live i ≢ number) → held_of number live ≡ None
held_of_absent number [] absent = refl
held_of_absent number (held ∷ live) absent =
    let first = absent 0 (omega arith) in
    let later = held_of_absent number live (λ i lt. absent (suc i) (omega arith)) in
    grind (arith, nat_tests)

-- where no number is the one taken out, nothing is
without_none : (number low : ℕ) (live : List Held) → IsAscending low live → number ≤ low → without number live ≡ live
without_none number low [] up le = refl
without_none number low (held ∷ live) up le =
    let first = up.0 in
    let rest = without_none number held.mapping.number live up.1 (omega arith) in
    grind (arith, nat_tests)

-- taking a number out removes its place
pub without-number_at : (low : ℕ) (live : List Held) (i : ℕ) → IsAscending low live → i < length live → without (number_at live i) live ≡ remove live i
without-number_at low [] i up within = absurd (omega arith)
without-number_at low (held ∷ live) zero up within =
    let rest = without_none held.mapping.number held.mapping.number live up.1 (omega arith) in
    grind (arith, nat_tests)
without-number_at low (held ∷ live) (suc i) up within =
    let later = above_low held.mapping.number live i up.1 (omega arith) in
    let rest = without-number_at held.mapping.number live i up.1 (omega arith) in
    grind (arith, nat_tests)

weaker : (low high : ℕ) (live : List Held) → low ≤ high → IsAscending high live → IsAscending low live
weaker low high [] le up = tt
weaker low high (held ∷ live) le up = (let first = up.0 in omega arith, up.1)

-- the numbers still ascend once one is taken out
pub IsAscending-without : (number low : ℕ) (live : List Held) → IsAscending low live → IsAscending low (without number live)
IsAscending-without number low [] up = tt
IsAscending-without number low (held ∷ live) up = by_test (held.mapping.number == number) refl (IsAscending-without number held.mapping.number live up.1)
  where
    by_test : (same : Bool) → (held.mapping.number == number) ≡ same → IsAscending held.mapping.number (without number live) → IsAscending low (without number (held ∷ live))
    by_test true e later = rw e (weaker low held.mapping.number _ (let first = up.0 in omega arith) later)
    by_test false e later = rw e (up.0, later)

-- and once a greater one is added
pub IsAscending-append : (low : ℕ) (live : List Held) (next : Held) → IsAscending low live → low < next.mapping.number → ((i : ℕ) → i < length live → number_at live i < next.mapping.number) → IsAscending low (live ++ next ∷ [])
IsAscending-append low [] next up above below = (above, tt)
IsAscending-append low (held ∷ live) next up above below =
    (up.0, IsAscending-append held.mapping.number live next up.1 (below 0 (omega arith)) (λ i lt. below (suc i) (omega arith)))
