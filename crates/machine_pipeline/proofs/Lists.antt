-- Places of lists, and counts over them.
use Rattle.std.proofs.Common.{◌≡◌, ◌≢◌, ℕ, zero, suc, ◌+◌, ◌<◌, ◌≤◌, ◌⊎◌, inl, inr, Bool, true, false, cond, List, [], ◌∷◌, ◌++◌, length, refl, ap, sym, ◌∙◌, subst, arith}
use Rattle.std.specs.Prelude.{take, All, AllPairs, Option, Some, None, slice_get, slice_set, slice_index_or, position, count_by, sum_by, slice_index, replicate}
use Rattle.std.specs.List.{list_any}
pub use Rattle.pipeline_laws.proofs.Lists.{all_at, get_set_here, get_set_other, get_last}
use Rattle.std.proofs.lemmas.Option.{none-some, same_Some, slice_get_within, get_or_from_slice_get, slice_get-get_or, slice_get_read}
use Rattle.std.proofs.lemmas.List.Quantifiers.{position-Some}
use Rattle.std.proofs.lemmas.List.Sums.{sum_by-cons, sum_by-set, get_or-le-sum_by, sum_by_more_le}
use Rattle.std.proofs.lemmas.List.{same_lists, get_or_default, get_or-replicate, length-replicate, get_or-take, length-take}
pub use Rattle.std.proofs.lemmas.Map.Keys.{any_passes_from_place as any_at}
use Rattle.std.proofs.lemmas.Bool.{cases_eq, cases_lt}
pub use Rattle.std.proofs.lemmas.Bool.{eq-eqb as same_number, ltb-true as less_number}
use Rattle.std.proofs.lemmas.List.Folds.{Any-from_list_any}

-- what holds at each place holds of all
pub all_from : {X : Type 0} (P : X → Type 0) (xs : List X) → ((i : ℕ) (x : X) → slice_get xs i ≡ Some x → P x) → All P xs
all_from P xs each k d lt = each k (slice_index_or xs k d) (slice_get-get_or xs k d lt)

pub pair_at : {X : Type 0} (R : X → X → Type 0) (xs : List X) (i j : ℕ) (x y : X) → AllPairs R xs → i < j → slice_get xs i ≡ Some x → slice_get xs j ≡ Some y → R x y
pair_at R xs i j x y pairs lt first second =
    let within = slice_get_within xs j y second in
    subst (λ z. R z y) (get_or_from_slice_get xs i x y first) (subst (λ z. R (slice_index_or xs i y) z) (get_or_from_slice_get xs j y y second) (pairs i j y lt within))

-- the place that a test finds
pub found_at : {X : Type 0} (p : X → Bool) (xs : List X) (i : ℕ) → position p xs ≡ Some i → (x : X) × (slice_get xs i ≡ Some x) × (p x ≡ true)
found_at {X} p [] i e = absurd (none-some i e)
found_at {X} p (y ∷ xs) i e =
    let found = position-Some p (y ∷ xs) i y e in
    (slice_index_or (y ∷ xs) i y, slice_get-get_or (y ∷ xs) i y found.0, found.1)

pub place_of_any : {X : Type 0} (p : X → Bool) (xs : List X) → list_any p xs ≡ true → (i : ℕ) × (x : X) × (slice_get xs i ≡ Some x) × (p x ≡ true)
place_of_any p xs e =
    let any = Any-from_list_any p xs e in
    (any.0, any.1, slice_get_read xs (length xs) any.0 any.1 refl any.2 (sym any.3), any.4)

-- what one element and two elements add to a sum
pub sum_one : {X : Type 0} (f : X → ℕ) (xs : List X) (i : ℕ) (x : X) → slice_get xs i ≡ Some x → f x ≤ sum_by f xs
sum_one f xs i x e = omega (arith, get_or-le-sum_by f xs i x (slice_get_within xs i x e), ap f (get_or_from_slice_get xs i x x e))

pub sum_two : {X : Type 0} (f : X → ℕ) (xs : List X) (i j : ℕ) (x y : X) → i ≢ j → slice_get xs i ≡ Some x → slice_get xs j ≡ Some y → f x + f y ≤ sum_by f xs
sum_two {X} f xs i j x y other e g = elim (cases_lt i j) [ inl lt ↦ in_order i j x y lt e g | inr le ↦ omega (arith, in_order j i y x (omega arith) g e) ]
  where
    in_order : (i j : ℕ) (x y : X) → i < j → slice_get xs i ≡ Some x → slice_get xs j ≡ Some y → f x + f y ≤ sum_by f xs
    in_order i j x y lt e g =
        let within = slice_get_within xs j y g in
        let first = ap f (get_or-take j xs i x lt ∙ get_or_from_slice_get xs i x x e) in
        omega (arith, get_or-le-sum_by f (take j xs) i x (omega (arith, length-take j xs)), first, sum_by_more_le f xs j y within, ap f (get_or_from_slice_get xs j y y g))

-- two places that pass are counted twice
pub count_one : {X : Type 0} (p : X → Bool) (xs : List X) (i : ℕ) (x : X) → slice_get xs i ≡ Some x → p x ≡ true → 1 ≤ count_by p xs
count_one {X} p xs i x e t = subst (λ (b : Bool). cond b 1 0 ≤ count_by p xs) t (sum_one (λ (z : X). cond (p z) 1 0) xs i x e)

pub count_two : {X : Type 0} (p : X → Bool) (xs : List X) (i j : ℕ) (x y : X) → i ≢ j → slice_get xs i ≡ Some x → slice_get xs j ≡ Some y → p x ≡ true → p y ≡ true → 2 ≤ count_by p xs
count_two {X} p xs i j x y other e f t u =
    subst (λ (b : Bool). cond b 1 0 + 1 ≤ count_by p xs) t (subst (λ (b : Bool). cond (p x) 1 0 + cond b 1 0 ≤ count_by p xs) u (sum_two (λ (z : X). cond (p z) 1 0) xs i j x y other e f))

pub sum_none : {X : Type 0} (f : X → ℕ) (xs : List X) → ((i : ℕ) (x : X) → slice_get xs i ≡ Some x → f x ≡ 0) → sum_by f xs ≡ 0
sum_none f [] none = refl
sum_none f (y ∷ xs) none = omega (arith, sum_none f xs (λ i x e. none (suc i) x e), none zero y refl, sum_by-cons f y xs)

pub count_none : {X : Type 0} (p : X → Bool) (xs : List X) → ((i : ℕ) (x : X) → slice_get xs i ≡ Some x → p x ≡ false) → count_by p xs ≡ 0
count_none {X} p xs none = sum_none (λ (z : X). cond (p z) 1 0) xs (λ i x e. rw (none i x e) refl)

-- a place that is set twice has the last value
pub set_again : {X : Type 0} (xs : List X) (i : ℕ) (x y : X) → slice_set (slice_set xs i x) i y ≡ slice_set xs i y
set_again (z ∷ xs) (suc i) x y = rw (set_again xs i x y) refl
set_again xs i x y = refl

-- an element before others that are added
pub get_append : {X : Type 0} (xs ys : List X) (i : ℕ) (x : X) → slice_get xs i ≡ Some x → slice_get (xs ++ ys) i ≡ Some x
get_append [] ys i x e = absurd (none-some x e)
get_append (z ∷ xs) ys zero x e = e
get_append (z ∷ xs) ys (suc i) x e = get_append xs ys i x e

-- a sum once one element is set anew, and how many pass
pub sum_set : {X : Type 0} (f : X → ℕ) (xs : List X) (i : ℕ) (x y : X) → slice_get xs i ≡ Some x → sum_by f (slice_set xs i y) + f x ≡ sum_by f xs + f y
sum_set f xs i x y e = omega (arith, sum_by-set f xs i y x (slice_get_within xs i x e), ap f (get_or_from_slice_get xs i x x e))

pub count_set : {X : Type 0} (p : X → Bool) (xs : List X) (i : ℕ) (x y : X) → slice_get xs i ≡ Some x → count_by p (slice_set xs i y) + cond (p x) 1 0 ≡ count_by p xs + cond (p y) 1 0
count_set {X} p xs i x y e = sum_set (λ (z : X). cond (p z) 1 0) xs i x y e

pub pairs_from : {X : Type 0} (R : X → X → Type 0) (xs : List X) → ((i j : ℕ) (x y : X) → i < j → slice_get xs i ≡ Some x → slice_get xs j ≡ Some y → R x y) → AllPairs R xs
pairs_from R xs each i j d lt within = each i j (slice_index_or xs i d) (slice_index_or xs j d) lt (slice_get-get_or xs i d (omega arith)) (slice_get-get_or xs j d within)

-- what holds of each pair holds of the first and each other, and of each pair of the others
pub pairs_head : {X : Type 0} (R : X → X → Type 0) (x : X) (xs : List X) → AllPairs R (x ∷ xs) → All (R x) xs
pairs_head R x xs pairs j d lt = pairs 0 (suc j) d (omega arith) (omega arith)

pub pairs_tail : {X : Type 0} (R : X → X → Type 0) (x : X) (xs : List X) → AllPairs R (x ∷ xs) → AllPairs R xs
pairs_tail R x xs pairs i j d lt within = pairs (suc i) (suc j) d (omega arith) (omega arith)

-- what stands at a place once one element is set anew: the new one, or what stood there
pub set_was : {X : Type 0} (xs : List X) (p i : ℕ) (x x' y : X) → slice_get xs p ≡ Some x → slice_get (slice_set xs p x') i ≡ Some y → ((i ≡ p) × (y ≡ x')) ⊎ ((i ≢ p) × (slice_get xs i ≡ Some y))
set_was xs p i x x' y here e = elim (cases_eq i p) [
  | inl same ↦ inl (same, same_Some y x' (sym e ∙ (ap (slice_get (slice_set xs p x')) same ∙ get_set_here xs p x x' here)))
  | inr apart ↦ inr (apart, sym (get_set_other xs p i x' (λ s. apart (sym s))) ∙ e)
]

-- two lists of numbers as long as each other, with the same numbers, are one
pub same_words : (xs ys : List ℕ) → length xs ≡ length ys → ((i : ℕ) → i < length xs → slice_index xs i ≡ slice_index ys i) → xs ≡ ys
same_words xs ys long same = same_lists xs ys long (λ k d lt. get_or_default xs k d 0 lt ∙ (same k lt ∙ get_or_default ys k 0 d (omega arith)))

-- so many numbers, all the same
pub all_same : (n : ℕ) (xs : List ℕ) (x : ℕ) → length xs ≡ n → ((i : ℕ) → i < n → slice_index xs i ≡ x) → xs ≡ replicate n x
all_same n xs x long each = same_words xs (replicate n x) (long ∙ sym (length-replicate n x)) (λ i lt. each i (omega arith) ∙ sym (get_or-replicate n i x 0 (omega arith)))

pub get_within : {X : Type 0} (xs : List X) (i : ℕ) → i < length xs → (x : X) × (slice_get xs i ≡ Some x)
get_within [] i lt = absurd (omega arith)
get_within (x ∷ xs) i lt = (slice_index_or (x ∷ xs) i x, slice_get-get_or (x ∷ xs) i x lt)

-- nothing, or something
pub none_or_some : {X : Type 0} (o : Option X) → (o ≡ None) ⊎ ((x : X) × (o ≡ Some x))
none_or_some None = inl refl
none_or_some (Some x) = inr (x, refl)
