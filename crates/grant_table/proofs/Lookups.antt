-- What is found by a number after a mapping was added or taken out, for whoever follows a grant table over many calls.
use Rattle.std.proofs.Common.{◌≡◌, ◌≢◌, ℕ, ◌==◌, Bool, true, false, List, [], ◌∷◌, ◌++◌, Some, None, refl, arith}
use Rattle.std.proofs.lemmas.Bool.Decides.{nat_tests}
use Rattle.grant_table.specs.declared.held.Held.{Held}
use Rattle.grant_table.specs.Table.{held_of, without}

-- what is found has the number
pub number_found : (number : ℕ) (live : List Held) (found : Held) → held_of number live ≡ Some found → found.mapping.number ≡ number
number_found number [] found e = cc
number_found number (held ∷ live) found e = by_test (held.mapping.number == number) refl (number_found number live found)
  where
    by_test : (same : Bool) → (held.mapping.number == number) ≡ same → (held_of number live ≡ Some found → found.mapping.number ≡ number) → found.mapping.number ≡ number
    by_test true t later =
        let first : Some held ≡ Some found = rw t at e in
        let same : held ≡ found = cc in
        rw (← same) (grind (arith, nat_tests))
    by_test false t later = later (rw t at e)

-- a mapping that is added under a new number is found
pub held_of-append_new : (live : List Held) (next : Held) → held_of next.mapping.number live ≡ None → held_of next.mapping.number (live ++ next ∷ []) ≡ Some next
held_of-append_new [] next none = grind (arith, nat_tests)
held_of-append_new (held ∷ live) next none = by_test (held.mapping.number == next.mapping.number) refl (held_of-append_new live next)
  where
    by_test : (same : Bool) → (held.mapping.number == next.mapping.number) ≡ same → (held_of next.mapping.number live ≡ None → held_of next.mapping.number (live ++ next ∷ []) ≡ Some next) → held_of next.mapping.number ((held ∷ live) ++ next ∷ []) ≡ Some next
    by_test true t later = let clash : Some held ≡ None = rw t at none in cc
    by_test false t later = rw t (later (rw t at none))

-- every other number finds what it found
pub held_of-append_other : (number : ℕ) (live : List Held) (next : Held) → next.mapping.number ≢ number → held_of number (live ++ next ∷ []) ≡ held_of number live
held_of-append_other number [] next other = grind (arith, nat_tests)
held_of-append_other number (held ∷ live) next other =
    let later = held_of-append_other number live next other in
    by_test (held.mapping.number == number) refl later
  where
    by_test : (same : Bool) → (held.mapping.number == number) ≡ same → held_of number (live ++ next ∷ []) ≡ held_of number live → held_of number ((held ∷ live) ++ next ∷ []) ≡ held_of number (held ∷ live)
    by_test true t later = rw t refl
    by_test false t later = rw t later

-- a number that is taken out is not found
pub held_of-without_same : (number : ℕ) (live : List Held) → held_of number (without number live) ≡ None
held_of-without_same number [] = refl
held_of-without_same number (held ∷ live) = by_test (held.mapping.number == number) refl (held_of-without_same number live)
  where
    by_test : (same : Bool) → (held.mapping.number == number) ≡ same → held_of number (without number live) ≡ None → held_of number (without number (held ∷ live)) ≡ None
    by_test true t later = rw t later
    by_test false t later = rw (t, t) later

-- every other number finds what it found
pub held_of-without_other : (number taken : ℕ) (live : List Held) → number ≢ taken → held_of number (without taken live) ≡ held_of number live
held_of-without_other number taken [] other = refl
held_of-without_other number taken (held ∷ live) other = by_test (held.mapping.number == taken) refl (held_of-without_other number taken live other)
  where
    by_test : (same : Bool) → (held.mapping.number == taken) ≡ same → held_of number (without taken live) ≡ held_of number live → held_of number (without taken (held ∷ live)) ≡ held_of number (held ∷ live)
    by_test true t later =
        let differs : (held.mapping.number == number) ≡ false = grind (arith, nat_tests) in
        rw (t, differs) later
    by_test false t later = rw t (by_other (held.mapping.number == number) refl)
      where
        by_other : (same : Bool) → (held.mapping.number == number) ≡ same → held_of number (held ∷ without taken live) ≡ held_of number (held ∷ live)
        by_other true u = rw u refl
        by_other false u = rw u later
