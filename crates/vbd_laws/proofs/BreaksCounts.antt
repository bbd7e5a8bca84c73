-- How often a number is among ids and among requests, as one comes, is answered, or is taken from its place.
use Rattle.std.proofs.Common.{◌≡◌, ◌≢◌, ℕ, zero, suc, ◌+◌, ◌-◌, ◌<◌, ◌==◌, Bool, ◌||◌, true, false, not, cond, List, [], ◌∷◌, ◌++◌, length, take, refl, sym, ap, ◌∙◌, subst, arith}
use Rattle.std.specs.Prelude.{Option, Some, None, slice_get, nat_lt, count_by, remove}
use Rattle.std.proofs.lemmas.Option.{none-some, same_Some}
use Rattle.std.proofs.lemmas.Bool.Decides.{nat_tests}
use Rattle.std.proofs.lemmas.List.Sums.{sum_by-cons, sum_by_push}
use Rattle.blk_front.specs.declared.request.Request.{Request}
use Rattle.vbd_laws.specs.Breaks.{without, is_among}

-- how often a number is among ids, and among requests
abbrev pub count_id : ℕ → List ℕ → ℕ
count_id n ids = count_by (λ (id : ℕ). id == n) ids

abbrev pub count_number : ℕ → List Request → ℕ
count_number n requests = count_by (λ (r : Request). r.number == n) requests

abbrev pub one_number : ℕ → Option Request → ℕ
one_number n None = 0
one_number n (Some r) = cond (r.number == n) 1 0

pub same_number : (a b : ℕ) → a ≡ b → (a == b) ≡ true
same_number a b e = grind (arith, nat_tests)

pub other_number : (a b : ℕ) → a ≢ b → (a == b) ≡ false
other_number a b e = grind (arith, nat_tests)

pub id_more : (n id : ℕ) (ids : List ℕ) → count_id n (ids ++ id ∷ []) ≡ count_id n ids + cond (id == n) 1 0
id_more n id ids = sum_by_push (λ (k : ℕ). cond (k == n) 1 0) ids id

-- an answered id is among them no more, and the others are as they were
pub without_it : (id : ℕ) (ids : List ℕ) → count_id id (without id ids) ≡ 0
without_it id [] = refl
without_it id (k ∷ ids) = by_test (k == id) refl (without_it id ids)
  where
    by_test : (b : Bool) → (k == id) ≡ b → count_id id (without id ids) ≡ 0 → count_id id (cond (not b) (k ∷ without id ids) (without id ids)) ≡ 0
    by_test true e rest = rest
    by_test false e rest =
        let one = sum_by-cons (λ (m : ℕ). cond (m == id) 1 0) k (without id ids) in
        let none : ◌≡◌ {A = ℕ} (cond (k == id) 1 0) 0 = ap (λ (b : Bool). cond b 1 0) e in
        omega arith

pub without_others : (n id : ℕ) (ids : List ℕ) → id ≢ n → count_id n (without id ids) ≡ count_id n ids
without_others n id [] apart = refl
without_others n id (k ∷ ids) apart = by_test (k == id) refl (without_others n id ids apart)
  where
    all : count_id n (k ∷ ids) ≡ cond (k == n) 1 0 + count_id n ids
    all = sum_by-cons (λ (m : ℕ). cond (m == n) 1 0) k ids

    by_test : (b : Bool) → (k == id) ≡ b → count_id n (without id ids) ≡ count_id n ids → count_id n (cond (not b) (k ∷ without id ids) (without id ids)) ≡ count_id n (k ∷ ids)
    by_test true e less =
        let same : k ≡ id = grind (arith, nat_tests) in
        let other : k ≢ n = λ it. apart (sym same ∙ it) in
        let none : ◌≡◌ {A = ℕ} (cond (k == n) 1 0) 0 = ap (λ (b : Bool). cond b 1 0) (other_number k n other) in
        let these = all in
        omega arith
    by_test false e less =
        let one = sum_by-cons (λ (m : ℕ). cond (m == n) 1 0) k (without id ids) in
        let these = all in
        omega arith

positive : (m : ℕ) → nat_lt 0 (1 + m) ≡ true
positive m = grind (arith, nat_tests)

nothing : (m : ℕ) → 0 + m ≡ m
nothing m = omega arith

-- whether an id is among them
pub among_count : (id : ℕ) (ids : List ℕ) → is_among id ids ≡ nat_lt 0 (count_id id ids)
among_count id [] = refl
among_count id (k ∷ ids) = by_test (k == id) refl (among_count id ids)
  where
    all : count_id id (k ∷ ids) ≡ cond (k == id) 1 0 + count_id id ids
    all = sum_by-cons (λ (m : ℕ). cond (m == id) 1 0) k ids

    by_test : (b : Bool) → (k == id) ≡ b → is_among id ids ≡ nat_lt 0 (count_id id ids) → is_among id (k ∷ ids) ≡ nat_lt 0 (count_id id (k ∷ ids))
    by_test true e rest =
        let one : ◌≡◌ {A = ℕ} (cond (k == id) 1 0) 1 = ap (λ (b : Bool). cond b 1 0) e in
        let some : count_id id (k ∷ ids) ≡ 1 + count_id id ids = all ∙ ap (λ (m : ℕ). m + count_id id ids) one in
        ap (λ (b : Bool). b || is_among id ids) e ∙ sym (ap (nat_lt 0) some ∙ positive (count_id id ids))
    by_test false e rest =
        let none : ◌≡◌ {A = ℕ} (cond (k == id) 1 0) 0 = ap (λ (b : Bool). cond b 1 0) e in
        let same : count_id id (k ∷ ids) ≡ count_id id ids = all ∙ (ap (λ (m : ℕ). m + count_id id ids) none ∙ nothing (count_id id ids)) in
        ap (λ (b : Bool). b || is_among id ids) e ∙ (rest ∙ sym (ap (nat_lt 0) same))

pub nothing_taken : (m : ℕ) → take {A = Request} m [] ≡ []
nothing_taken zero = refl
nothing_taken (suc m) = refl

-- the first of them, of which one is removed, and of which there is one more
pub count_taken : {X : Type 0} (p : X → Bool) (k i : ℕ) (xs : List X) (x : X) → slice_get xs i ≡ Some x → i < k → count_by p (take (k - 1) (remove xs i)) + cond (p x) 1 0 ≡ count_by p (take k xs)
count_taken p k i [] x e lt = absurd (none-some x e)
count_taken p zero i (y ∷ xs) x e lt = absurd (omega arith)
count_taken {X} p (suc k) zero (y ∷ xs) x e lt =
    let one = sum_by-cons (λ (z : X). cond (p z) 1 0) y (take k xs) in
    let same : ◌≡◌ {A = ℕ} (cond (p y) 1 0) (cond (p x) 1 0) = ap (λ (z : X). cond (p z) 1 0) (same_Some y x e) in
    let less : suc k - 1 ≡ k = omega arith in
    rw less (omega arith)
count_taken {X} p (suc zero) (suc i) (y ∷ xs) x e lt = absurd (omega arith)
count_taken {X} p (suc (suc k)) (suc i) (y ∷ xs) x e lt =
    let one = sum_by-cons (λ (z : X). cond (p z) 1 0) y (take (suc k) xs) in
    let two = sum_by-cons (λ (z : X). cond (p z) 1 0) y (take k (remove xs i)) in
    let less : suc (suc k) - 1 ≡ suc k = omega arith in
    let fewer : suc k - 1 ≡ k = omega arith in
    let rest = count_taken p (suc k) i xs x e (omega arith) in
    let rest_is : count_by p (take k (remove xs i)) + cond (p x) 1 0 ≡ count_by p (take (suc k) xs) = subst (λ (m : ℕ). count_by p (take m (remove xs i)) + cond (p x) 1 0 ≡ count_by p (take (suc k) xs)) fewer rest in
    rw less (omega arith)

pub count_longer : {X : Type 0} (p : X → Bool) (k : ℕ) (xs : List X) (x : X) → slice_get xs k ≡ Some x → count_by p (take (k + 1) xs) ≡ count_by p (take k xs) + cond (p x) 1 0
count_longer p k [] x e = absurd (none-some x e)
count_longer {X} p zero (y ∷ xs) x e =
    let one = sum_by-cons (λ (z : X). cond (p z) 1 0) y (take 0 xs) in
    let same : ◌≡◌ {A = ℕ} (cond (p y) 1 0) (cond (p x) 1 0) = ap (λ (z : X). cond (p z) 1 0) (same_Some y x e) in
    let more : ◌≡◌ {A = ℕ} (0 + 1) 1 = refl in
    rw more (omega arith)
count_longer {X} p (suc k) (y ∷ xs) x e =
    let one = sum_by-cons (λ (z : X). cond (p z) 1 0) y (take (k + 1) xs) in
    let two = sum_by-cons (λ (z : X). cond (p z) 1 0) y (take k xs) in
    let rest = count_longer p k xs x e in
    let more : suc k + 1 ≡ suc (k + 1) = omega arith in
    rw more (omega arith)

-- the two places where a count is nothing at once
pub none_left : (ids : List ℕ) (requests : List Request) → ((n : ℕ) → count_id n ids ≡ count_number n requests) → (length ids == 0) ≡ (length requests == 0)
none_left [] [] same = refl
none_left [] (r ∷ requests) same =
    let one = sum_by-cons (λ (x : Request). cond (x.number == r.number) 1 0) r requests in
    let own : ◌≡◌ {A = ℕ} (cond (r.number == r.number) 1 0) 1 = ap (λ (b : Bool). cond b 1 0) (same_number r.number r.number refl) in
    let none : ◌≡◌ {A = ℕ} 0 (count_number r.number (r ∷ requests)) = same r.number in
    absurd (omega arith)
none_left (id ∷ ids) [] same =
    let one = sum_by-cons (λ (x : ℕ). cond (x == id) 1 0) id ids in
    let own : ◌≡◌ {A = ℕ} (cond (id == id) 1 0) 1 = ap (λ (b : Bool). cond b 1 0) (same_number id id refl) in
    let none : ◌≡◌ {A = ℕ} (count_id id (id ∷ ids)) 0 = same id in
    absurd (omega arith)
none_left (id ∷ ids) (r ∷ requests) same = some_both (length ids) (length requests)
  where
    some_both : (a b : ℕ) → (suc a == 0) ≡ (suc b == 0)
    some_both a b = other_number (suc a) 0 (λ same. absurd (omega arith)) ∙ sym (other_number (suc b) 0 (λ same. absurd (omega arith)))
