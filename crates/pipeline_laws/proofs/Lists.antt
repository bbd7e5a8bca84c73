-- Places of lists, and what holds at each of them.
use Rattle.std.proofs.Common.{◌≡◌, ◌≢◌, ℕ, zero, suc, ◌<◌, ◌⊎◌, inl, inr, List, [], ◌∷◌, ◌++◌, length, map, take, refl, ap, sym, ◌∙◌, subst, arith}
use Rattle.std.specs.Prelude.{All, Some, slice_get, slice_set}
use Rattle.std.proofs.lemmas.Option.{none-some, same_Some, slice_get_within, get_or_from_slice_get}

-- what holds at each place of a list
abbrev pub Each : {X : Type 0} → (ℕ → X → Type 0) → List X → Type 0
Each {X} P xs = (k : ℕ) (x : X) → slice_get xs k ≡ Some x → P k x

-- one place is set anew
pub each_set : {X : Type 0} (P Q : ℕ → X → Type 0) (xs : List X) (i : ℕ) (x : X) → Q i x → ((k : ℕ) (y : X) → k ≢ i → slice_get xs k ≡ Some y → P k y → Q k y) → Each P xs → Each Q (slice_set xs i x)
each_set P Q [] i x new old each k y e = absurd (none-some y e)
each_set P Q (z ∷ xs) zero x new old each zero y e = subst (Q zero) (same_Some x y e) new
each_set P Q (z ∷ xs) zero x new old each (suc k) y e = old (suc k) y (λ s. absurd (omega (arith, s))) e (each (suc k) y e)
each_set P Q (z ∷ xs) (suc i) x new old each zero y e = old zero y (λ s. absurd (omega (arith, s))) e (each zero y e)
each_set P Q (z ∷ xs) (suc i) x new old each (suc k) y e =
    each_set (λ j. P (suc j)) (λ j. Q (suc j)) xs i x new (λ j w other at h. old (suc j) w (λ s. other (omega (arith, s))) at h) (λ j w at. each (suc j) w at) k y e

-- one place is set anew, and the others keep what they had
pub each_kept : {X : Type 0} (P : ℕ → X → Type 0) (xs : List X) (i : ℕ) (x : X) → P i x → Each P xs → Each P (slice_set xs i x)
each_kept P xs i x new each = each_set P P xs i x new (λ k y other e h. h) each

-- one place more
pub each_more : {X : Type 0} (P Q : ℕ → X → Type 0) (xs : List X) (x : X) → Q (length xs) x → ((k : ℕ) (y : X) → slice_get xs k ≡ Some y → P k y → Q k y) → Each P xs → Each Q (xs ++ x ∷ [])
each_more P Q [] x new old each zero y e = subst (Q zero) (same_Some x y e) new
each_more P Q [] x new old each (suc k) y e = absurd (none-some y e)
each_more P Q (z ∷ xs) x new old each zero y e = old zero y e (each zero y e)
each_more P Q (z ∷ xs) x new old each (suc k) y e =
    each_more (λ j. P (suc j)) (λ j. Q (suc j)) xs x new (λ j w at h. old (suc j) w at h) (λ j w at. each (suc j) w at) k y e

-- all places change alike
pub each_map : {X : Type 0} (f : X → X) (P Q : ℕ → X → Type 0) (xs : List X) → ((k : ℕ) (y : X) → P k y → Q k (f y)) → Each P xs → Each Q (map f xs)
each_map f P Q [] all each k y e = absurd (none-some y e)
each_map f P Q (z ∷ xs) all each zero y e = subst (Q zero) (same_Some (f z) y e) (all zero z (each zero z refl))
each_map f P Q (z ∷ xs) all each (suc k) y e = each_map f (λ j. P (suc j)) (λ j. Q (suc j)) xs (λ j w h. all (suc j) w h) (λ j w at. each (suc j) w at) k y e

-- the front part of a list
pub each_front : {X Y : Type 0} (f : X → Y) (Q : ℕ → Y → Type 0) (n : ℕ) (xs : List X) → ((k : ℕ) (x : X) → k < n → slice_get xs k ≡ Some x → Q k (f x)) → Each Q (take n (map f xs))
each_front f Q zero xs all k y e = absurd (none-some y e)
each_front f Q (suc n) [] all k y e = absurd (none-some y e)
each_front f Q (suc n) (x ∷ xs) all zero y e = subst (Q zero) (same_Some (f x) y e) (all zero x (omega arith) refl)
each_front f Q (suc n) (x ∷ xs) all (suc k) y e = each_front f (λ j. Q (suc j)) n xs (λ j w lt at. all (suc j) w (omega arith) at) k y e

pub get_set_here : {X : Type 0} (xs : List X) (i : ℕ) (x y : X) → slice_get xs i ≡ Some x → slice_get (slice_set xs i y) i ≡ Some y
get_set_here [] i x y e = absurd (none-some x e)
get_set_here (z ∷ xs) zero x y e = refl
get_set_here (z ∷ xs) (suc i) x y e = get_set_here xs i x y e

pub get_set_other : {X : Type 0} (xs : List X) (i j : ℕ) (y : X) → i ≢ j → slice_get (slice_set xs i y) j ≡ slice_get xs j
get_set_other [] i j y other = refl
get_set_other (z ∷ xs) zero zero y other = absurd (other refl)
get_set_other (z ∷ xs) zero (suc j) y other = refl
get_set_other (z ∷ xs) (suc i) zero y other = refl
get_set_other (z ∷ xs) (suc i) (suc j) y other = get_set_other xs i j y (λ e. other (ap suc e))

pub get_set_within : {X : Type 0} (xs : List X) (i : ℕ) (y : X) → i < length xs → slice_get (slice_set xs i y) i ≡ Some y
get_set_within [] i y lt = absurd (omega arith)
get_set_within (x ∷ xs) zero y lt = refl
get_set_within (x ∷ xs) (suc i) y lt = get_set_within xs i y (omega arith)

pub get_more : {X : Type 0} (xs : List X) (x : X) (i : ℕ) (y : X) → slice_get xs i ≡ Some y → slice_get (xs ++ x ∷ []) i ≡ Some y
get_more [] x i y e = absurd (none-some y e)
get_more (z ∷ xs) x zero y e = e
get_more (z ∷ xs) x (suc i) y e = get_more xs x i y e

pub get_last : {X : Type 0} (xs : List X) (y : X) → slice_get (xs ++ y ∷ []) (length xs) ≡ Some y
get_last [] y = refl
get_last (z ∷ xs) y = get_last xs y

pub get_map : {X Y : Type 0} (f : X → Y) (xs : List X) (k : ℕ) (x : X) → slice_get xs k ≡ Some x → slice_get (map f xs) k ≡ Some (f x)
get_map f [] k x e = absurd (none-some x e)
get_map f (z ∷ xs) zero x e = ap (λ w. Some (f w)) (same_Some z x e)
get_map f (z ∷ xs) (suc k) x e = get_map f xs k x e

pub set_map : {X Y : Type 0} (f : X → Y) (xs : List X) (k : ℕ) (x : X) → slice_set (map f xs) k (f x) ≡ map f (slice_set xs k x)
set_map f [] k x = refl
set_map f (z ∷ xs) zero x = refl
set_map f (z ∷ xs) (suc k) x = ap (λ ys. f z ∷ ys) (set_map f xs k x)

-- an element set to one that shows the same
pub set_same : {X Y : Type 0} (f : X → Y) (xs : List X) (k : ℕ) (x y : X) → slice_get xs k ≡ Some x → f y ≡ f x → map f (slice_set xs k y) ≡ map f xs
set_same f [] k x y e same = refl
set_same f (z ∷ xs) zero x y e same = ap (λ w. w ∷ map f xs) (same ∙ ap f (sym (same_Some z x e)))
set_same f (z ∷ xs) (suc k) x y e same = ap (λ ys. f z ∷ ys) (set_same f xs k x y e same)

pub map_more : {X Y : Type 0} (f : X → Y) (xs : List X) (x : X) → map f (xs ++ x ∷ []) ≡ map f xs ++ f x ∷ []
map_more f [] x = refl
map_more f (z ∷ xs) x = ap (λ ys. f z ∷ ys) (map_more f xs x)

pub map_twice : {X Y : Type 0} (f : X → Y) (g : Y → Y) (h : X → X) (xs : List X) → ((x : X) → g (f x) ≡ f (h x)) → map g (map f xs) ≡ map f (map h xs)
map_twice f g h [] same = refl
map_twice f g h (x ∷ xs) same = rw (same x, map_twice f g h xs same) refl

-- an element of a list with one more
pub last_or : {X : Type 0} (xs : List X) (x y : X) (i : ℕ) → slice_get (xs ++ x ∷ []) i ≡ Some y → ((i ≡ length xs) × (y ≡ x)) ⊎ ((i < length xs) × (slice_get xs i ≡ Some y))
last_or [] x y zero e = inl (refl, sym (same_Some x y e))
last_or [] x y (suc i) e = absurd (none-some y e)
last_or (z ∷ xs) x y zero e = inr (omega arith, e)
last_or (z ∷ xs) x y (suc i) e = elim (last_or xs x y i e) [
  | inl h ↦ inl (ap suc h.0, h.1)
  | inr h ↦ inr (omega arith, h.1)
]

-- what holds of all holds at each place
pub all_at : {X : Type 0} (P : X → Type 0) (xs : List X) (i : ℕ) (x : X) → All P xs → slice_get xs i ≡ Some x → P x
all_at P xs i x all e =
    let within = slice_get_within xs i x e in
    subst P (get_or_from_slice_get xs i x x e) (all i x within)
