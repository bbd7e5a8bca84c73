-- Lists without one of their elements, and their first elements.
use Rattle.std.proofs.Common.{◌≡◌, ◌≢◌, ℕ, zero, suc, ◌+◌, ◌<◌, ◌≤◌, ◌⊎◌, inl, inr, Bool, true, cond, List, [], ◌∷◌, length, take, refl, ap, sym, ◌∙◌, arith}
use Rattle.std.specs.Prelude.{Some, slice_get, position, count_by, remove, nat_lt}
use Rattle.std.specs.List.{position_or_len}
use Rattle.std.proofs.lemmas.Option.{none-some, same_Some, slice_get_within}
use Rattle.std.proofs.lemmas.List.Sums.{sum_by-cons}
use Rattle.std.proofs.lemmas.Bool.Decides.{nat_tests}
use Rattle.std.proofs.lemmas.Bool.{cases_Bool}

nothing_left : {X : Type 0} (p : ℕ) → remove {X = X} [] p ≡ []
nothing_left zero = refl
nothing_left (suc p) = refl

nothing_taken : {X : Type 0} (n : ℕ) → take {A = X} n [] ≡ []
nothing_taken zero = refl
nothing_taken (suc n) = refl

-- an element that is left was one at another place
pub removed_was : {X : Type 0} (xs : List X) (p i : ℕ) (y : X) → slice_get (remove xs p) i ≡ Some y → (j : ℕ) × (j ≢ p) × (slice_get xs j ≡ Some y) × (((i < p) × (j ≡ i)) ⊎ ((p ≤ i) × (j ≡ i + 1)))
removed_was {X} [] p i y e = absurd (none-some y (sym (ap (λ (xs : List X). slice_get xs i) (nothing_left p)) ∙ e))
removed_was (x ∷ xs) zero i y e = (suc i, omega arith, e, inr (omega arith, omega arith))
removed_was (x ∷ xs) (suc p) zero y e = (zero, omega arith, e, inl (omega arith, refl))
removed_was (x ∷ xs) (suc p) (suc i) y e =
    let rest = removed_was xs p i y e in
    (suc rest.0, (λ same. rest.1 (omega arith)), rest.2, elim rest.3 [ inl h ↦ inl (omega (arith, h.0), omega (arith, h.1)) | inr h ↦ inr (omega (arith, h.0), omega (arith, h.1)) ])

pub removed_has : {X : Type 0} (xs : List X) (p j : ℕ) (y : X) → slice_get xs j ≡ Some y → j ≢ p → (i : ℕ) × (slice_get (remove xs p) i ≡ Some y)
removed_has [] p j y e apart = absurd (none-some y e)
removed_has (x ∷ xs) zero zero y e apart = absurd (apart refl)
removed_has (x ∷ xs) zero (suc j) y e apart = (j, e)
removed_has (x ∷ xs) (suc p) zero y e apart = (zero, e)
removed_has (x ∷ xs) (suc p) (suc j) y e apart =
    let rest = removed_has xs p j y e (λ same. apart (ap suc same)) in
    (suc rest.0, rest.1)

pub removed_after : {X : Type 0} (xs : List X) (p i : ℕ) → p ≤ i → slice_get (remove xs p) i ≡ slice_get xs (suc i)
removed_after {X} [] p i le = ap (λ (xs : List X). slice_get xs i) (nothing_left p)
removed_after (x ∷ xs) zero i le = refl
removed_after (x ∷ xs) (suc p) zero le = absurd (omega arith)
removed_after (x ∷ xs) (suc p) (suc i) le = removed_after xs p i (omega arith)

pub count_removed : {X : Type 0} (test : X → Bool) (xs : List X) (p : ℕ) (x : X) → slice_get xs p ≡ Some x → count_by test xs ≡ count_by test (remove xs p) + cond (test x) 1 0
count_removed test [] p x e = absurd (none-some x e)
count_removed {X} test (y ∷ xs) zero x e =
    let one = sum_by-cons (λ (z : X). cond (test z) 1 0) y xs in
    let same : ◌≡◌ {A = ℕ} (cond (test y) 1 0) (cond (test x) 1 0) = ap (λ (z : X). cond (test z) 1 0) (same_Some y x e) in
    let rest : remove (y ∷ xs) zero ≡ xs = refl in
    rw rest (omega arith)
count_removed {X} test (y ∷ xs) (suc p) x e =
    let one = sum_by-cons (λ (z : X). cond (test z) 1 0) y xs in
    let two = sum_by-cons (λ (z : X). cond (test z) 1 0) y (remove xs p) in
    let rest = count_removed test xs p x e in
    omega arith

-- the first elements are those at the first places
pub taken_was : {X : Type 0} (n : ℕ) (xs : List X) (i : ℕ) (y : X) → slice_get (take n xs) i ≡ Some y → (i < n) × (slice_get xs i ≡ Some y)
taken_was {X} n [] i y e = absurd (none-some y (sym (ap (λ (xs : List X). slice_get xs i) (nothing_taken n)) ∙ e))
taken_was zero (x ∷ xs) i y e = absurd (none-some y e)
taken_was (suc n) (x ∷ xs) zero y e = (omega arith, e)
taken_was (suc n) (x ∷ xs) (suc i) y e = let rest = taken_was n xs i y e in (omega (arith, rest.0), rest.1)

pub taken_has : {X : Type 0} (n : ℕ) (xs : List X) (i : ℕ) (y : X) → slice_get xs i ≡ Some y → i < n → slice_get (take n xs) i ≡ Some y
taken_has n [] i y e lt = absurd (none-some y e)
taken_has zero (x ∷ xs) i y e lt = absurd (omega arith)
taken_has (suc n) (x ∷ xs) zero y e lt = e
taken_has (suc n) (x ∷ xs) (suc i) y e lt = taken_has n xs i y e (omega arith)

-- a test that some element passes finds a place
first_before : {X : Type 0} (test : X → Bool) (xs : List X) (i : ℕ) (x : X) → slice_get xs i ≡ Some x → test x ≡ true → position_or_len test xs ≤ i
first_before test [] i x e t = absurd (none-some x e)
first_before test (y ∷ xs) zero x e t = rw (ap test (same_Some y x e) ∙ t) (omega arith)
first_before test (y ∷ xs) (suc i) x e t =
    let later = first_before test xs i x e t in
    elim (cases_Bool (test y)) [ inl u ↦ rw u (omega arith) | inr u ↦ rw u (omega arith) ]

pub found_somewhere : {X : Type 0} (test : X → Bool) (xs : List X) (i : ℕ) (x : X) → slice_get xs i ≡ Some x → test x ≡ true → (k : ℕ) × (position test xs ≡ Some k)
found_somewhere test xs i x e t =
    let lt : nat_lt (position_or_len test xs) (length xs) ≡ true = grind (arith, nat_tests, slice_get_within xs i x e, first_before test xs i x e t) in
    (position_or_len test xs, rw lt refl)
