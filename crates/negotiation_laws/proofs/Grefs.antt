-- The references of a ring's pages, one after the other.
use Rattle.std.proofs.Common.{◌≡◌, ◌∙◌, sym, subst, ap, ℕ, zero, suc, ◌+◌, List, [], ◌∷◌, ◌++◌, map, length, refl, arith}
use Rattle.xenbus_state.specs.Values.{ring_gref}
use Rattle.xenbus_state.specs.Orders.{numbers_from}
use Rattle.negotiation_laws.specs.Laws.{grefs_of}

-- the references of the pages up to this one
pub numbers_push : (count first : ℕ) → numbers_from first count ++ (first + count) ∷ [] ≡ numbers_from first (count + 1)
numbers_push zero first = let same : first + 0 ≡ first = omega arith in rw same refl
numbers_push (suc count) first =
    let more : first + suc count ≡ (first + 1) + count = omega arith in
    let later = numbers_push count (first + 1) in
    let next : suc count + 1 ≡ suc (count + 1) = omega arith in
    rw (more, next) (ap (λ (rest : List ℕ). first ∷ rest) later)

pub grefs_push : (count : ℕ) (grefs : List ℕ) → grefs ≡ grefs_of count → grefs ++ ring_gref count ∷ [] ≡ grefs_of (count + 1)
grefs_push count grefs e =
    let all : map ring_gref (numbers_from 0 count) ++ ring_gref count ∷ [] ≡ map ring_gref (numbers_from 0 count ++ count ∷ []) = sym (map_push (numbers_from 0 count) count) in
    let zero_on : 0 + count ≡ count = omega arith in
    let pushed : numbers_from 0 count ++ count ∷ [] ≡ numbers_from 0 (count + 1) = subst (λ (m : ℕ). numbers_from 0 count ++ m ∷ [] ≡ numbers_from 0 (count + 1)) zero_on (numbers_push count 0) in
    ap (λ (xs : List ℕ). xs ++ ring_gref count ∷ []) e ∙ all ∙ ap (map ring_gref) pushed
  where
    map_push : (xs : List ℕ) (x : ℕ) → map ring_gref (xs ++ x ∷ []) ≡ map ring_gref xs ++ ring_gref x ∷ []
    map_push [] x = refl
    map_push (y ∷ xs) x = ap (λ (rest : List ℕ). ring_gref y ∷ rest) (map_push xs x)

pub no_grefs : (grefs : List ℕ) → length grefs ≡ 0 → grefs ≡ []
no_grefs [] e = refl
no_grefs (g ∷ grefs) e = absurd (omega arith)
