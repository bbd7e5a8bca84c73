-- Lists and what is counted and gathered of them, where functions agree; what holds of each of their items, and different numbers.
use Rattle.std.proofs.Common.{◌≡◌, ◌≢◌, ℕ, ◌+◌, ◌<◌, ◌||◌, Bool, true, false, cond, List, [], ◌∷◌, ◌++◌, map, count_by, refl, ap, ◌∙◌, arith}
use Rattle.std.specs.Prelude.{fold, Option, None}
use Rattle.std.specs.List.{AllByRecursion, list_any, filter_map, cons_option}
use Rattle.std.proofs.lemmas.List.Sums.{sum_by-cons, sum_by-append}

pub fold_same : {X : Type 0} (f g : ℕ → X → ℕ) → ((n : ℕ) (x : X) → f n x ≡ g n x) → (xs : List X) (n : ℕ) → fold f n xs ≡ fold g n xs
fold_same f g same [] n = refl
fold_same f g same (x ∷ xs) n = ap (λ (m : ℕ). fold f m xs) (same n x) ∙ fold_same f g same xs (g n x)

pub count_same : {X : Type 0} (p q : X → Bool) → ((x : X) → p x ≡ q x) → (xs : List X) → count_by p xs ≡ count_by q xs
count_same p q same [] = refl
count_same {X} p q same (x ∷ xs) =
    let one = sum_by-cons (λ (y : X). cond (p y) 1 0) x xs in
    let other = sum_by-cons (λ (y : X). cond (q y) 1 0) x xs in
    let here : ◌≡◌ {A = ℕ} (cond (p x) 1 0) (cond (q x) 1 0) = ap (λ (b : Bool). cond b 1 0) (same x) in
    let rest = count_same p q same xs in
    omega arith

-- one more is counted where it passes
pub count_more : {X : Type 0} (p : X → Bool) (xs : List X) (x : X) → count_by p (xs ++ x ∷ []) ≡ count_by p xs + cond (p x) 1 0
count_more {X} p xs x =
    let both = sum_by-append (λ (y : X). cond (p y) 1 0) xs (x ∷ []) in
    let one = sum_by-cons (λ (y : X). cond (p y) 1 0) x [] in
    omega arith

pub or_false : (b : Bool) → (b || false) ≡ b
or_false true = refl
or_false false = refl

pub either_false : (a b : Bool) → (a || b) ≡ false → (a ≡ false) × (b ≡ false)
either_false true b e = (e, cc)
either_false false b e = (refl, e)

-- items that a function passes over leave its value
pub fold_none : {S X : Type 0} (f : S → X → S) (moves : X → Bool) → ((n : S) (x : X) → moves x ≡ false → f n x ≡ n) → (xs : List X) (n : S) → list_any moves xs ≡ false → fold f n xs ≡ n
fold_none f moves still [] n none = refl
fold_none {S} {X} f moves still (x ∷ xs) n none =
    let both : (moves x ≡ false) × (list_any moves xs ≡ false) = either_false (moves x) (list_any moves xs) none in
    ap (λ (m : S). fold f m xs) (still n x both.0) ∙ fold_none f moves still xs n both.1

pub count_none : {X : Type 0} (p moves : X → Bool) → ((x : X) → moves x ≡ false → p x ≡ false) → (xs : List X) → list_any moves xs ≡ false → count_by p xs ≡ 0
count_none p moves still [] none = refl
count_none {X} p moves still (x ∷ xs) none =
    let both : (moves x ≡ false) × (list_any moves xs ≡ false) = either_false (moves x) (list_any moves xs) none in
    let one = sum_by-cons (λ (y : X). cond (p y) 1 0) x xs in
    let here : ◌≡◌ {A = ℕ} (cond (p x) 1 0) 0 = ap (λ (b : Bool). cond b 1 0) (still x both.0) in
    let rest = count_none p moves still xs both.1 in
    omega arith

pub gathered_same : {X Y : Type 0} (f g : X → Option Y) → ((x : X) → f x ≡ g x) → (xs : List X) → filter_map f xs ≡ filter_map g xs
gathered_same f g same [] = refl
gathered_same {X} {Y} f g same (x ∷ xs) = ap (λ (y : Option Y). cons_option y (filter_map f xs)) (same x) ∙ ap (λ (ys : List Y). cons_option (g x) ys) (gathered_same f g same xs)

pub gathered_none : {X Y : Type 0} (f : X → Option Y) (moves : X → Bool) → ((x : X) → moves x ≡ false → f x ≡ None) → (xs : List X) → list_any moves xs ≡ false → filter_map f xs ≡ []
gathered_none f moves still [] none = refl
gathered_none {X} {Y} f moves still (x ∷ xs) none =
    let both : (moves x ≡ false) × (list_any moves xs ≡ false) = either_false (moves x) (list_any moves xs) none in
    ap (λ (y : Option Y). cons_option y (filter_map f xs)) (still x both.0) ∙ gathered_none f moves still xs both.1

-- parts of a list of which all holds
pub all_first : {X : Type 0} (P : X → Type 0) (xs ys : List X) → AllByRecursion P (xs ++ ys) → AllByRecursion P xs
all_first P [] ys all = tt
all_first P (x ∷ xs) ys all = (all.0, all_first P xs ys all.1)

pub all_second : {X : Type 0} (P : X → Type 0) (xs ys : List X) → AllByRecursion P (xs ++ ys) → AllByRecursion P ys
all_second P [] ys all = all
all_second P (x ∷ xs) ys all = all_second P xs ys all.1

pub all_both : {X : Type 0} (P : X → Type 0) (xs ys : List X) → AllByRecursion P xs → AllByRecursion P ys → AllByRecursion P (xs ++ ys)
all_both P [] ys p q = q
all_both P (x ∷ xs) ys p q = (p.0, all_both P xs ys p.1 q)

pub all_more : {X : Type 0} (P Q : X → Type 0) (xs : List X) → ((x : X) → P x → Q x) → AllByRecursion P xs → AllByRecursion Q xs
all_more P Q [] f all = tt
all_more P Q (x ∷ xs) f all = (f x all.0, all_more P Q xs f all.1)

pub all_pairs : {X : Type 0} (P Q R : X → Type 0) (xs : List X) → ((x : X) → P x → Q x → R x) → AllByRecursion P xs → AllByRecursion Q xs → AllByRecursion R xs
all_pairs P Q R [] f p q = tt
all_pairs P Q R (x ∷ xs) f p q = (f x p.0 q.0, all_pairs P Q R xs f p.1 q.1)

pub all_of_map : {X Y : Type 0} (P : Y → Type 0) (f : X → Y) (xs : List X) → AllByRecursion P (map f xs) → AllByRecursion (λ (x : X). P (f x)) xs
all_of_map P f [] all = tt
all_of_map P f (x ∷ xs) all = (all.0, all_of_map P f xs all.1)

-- no number twice
abbrev pub AreApart : List ℕ → Type 0
AreApart [] = Unit {0}
AreApart (n ∷ ns) = AllByRecursion (λ (m : ℕ). m ≢ n) ns × AreApart ns

-- a higher one after them
pub apart_push : (xs : List ℕ) (n : ℕ) → AreApart xs → AllByRecursion (λ (m : ℕ). m < n) xs → AreApart (xs ++ n ∷ [])
apart_push [] n apart low = (tt, tt)
apart_push (x ∷ xs) n apart low = (all_both (λ (m : ℕ). m ≢ x) xs (n ∷ []) apart.0 (λ e. above x n low.0 e, tt), apart_push xs n apart.1 low.1)
  where
    above : (a b : ℕ) → a < b → b ≡ a → ⊥
    above a b lt e = omega arith
