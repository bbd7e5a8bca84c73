-- The mappings that a report knows, where they are those that live.
use Rattle.std.proofs.Common.{◌≡◌, ℕ, ◌+◌, ◌==◌, ◌&&◌, not, Bool, true, false, cond, List, [], ◌∷◌, map, filter, count_by, refl, ap, ◌∙◌, arith}
use Rattle.std.specs.Prelude.{option_map}
use Rattle.std.proofs.lemmas.Bool.Decides.{nat_tests}
use Rattle.std.proofs.lemmas.List.Sums.{sum_by-cons}
use Rattle.grant_table.specs.declared.held.Held.{Held}
use Rattle.grant_table.specs.Entry.{is_for_writing}
use Rattle.grant_table.specs.Table.{held_of, without, mappings_of, writers_of}
use Rattle.report_rules.specs.declared.standing.Standing.{Standing}
use Rattle.report_rules.specs.Standing.{numbered, others_of, other_writers_of}
use Rattle.move_laws.specs.Tells.{standing_of}

pub filter_none : {X : Type 0} (xs : List X) → filter (λ (x : X). true) xs ≡ xs
filter_none [] = refl
filter_none (x ∷ xs) = ap (λ ys. x ∷ ys) (filter_none xs)

filter_map_by : {X Y : Type 0} (f : X → Y) (p : Y → Bool) (x : X) (xs : List X) (b : Bool) → p (f x) ≡ b → filter p (map f xs) ≡ map f (filter (λ (y : X). p (f y)) xs) → filter p (map f (x ∷ xs)) ≡ map f (filter (λ (y : X). p (f y)) (x ∷ xs))
filter_map_by f p x xs true t rest = rw (t, rest) refl
filter_map_by f p x xs false t rest = rw (t, rest) refl

filter_map : {X Y : Type 0} (f : X → Y) (p : Y → Bool) (xs : List X) → filter p (map f xs) ≡ map f (filter (λ (y : X). p (f y)) xs)
filter_map f p [] = refl
filter_map f p (x ∷ xs) = filter_map_by f p x xs (p (f x)) refl (filter_map f p xs)

pub filter_same : {X : Type 0} (p q : X → Bool) → ((x : X) → p x ≡ q x) → (xs : List X) → filter p xs ≡ filter q xs
filter_same p q same [] = refl
filter_same p q same (x ∷ xs) = rw (same x, filter_same p q same xs) refl

count_same : {X : Type 0} (p q : X → Bool) → ((x : X) → p x ≡ q x) → (xs : List X) → count_by p xs ≡ count_by q xs
count_same p q same [] = refl
count_same {X} p q same (x ∷ xs) =
    let one = sum_by-cons (λ (y : X). cond (p y) 1 0) x xs in
    let other = sum_by-cons (λ (y : X). cond (q y) 1 0) x xs in
    let here : ◌≡◌ {A = ℕ} (cond (p x) 1 0) (cond (q x) 1 0) = rw (same x) refl in
    let rest = count_same p q same xs in
    omega arith

count_map : {X Y : Type 0} (f : X → Y) (p : Y → Bool) (xs : List X) → count_by p (map f xs) ≡ count_by (λ (x : X). p (f x)) xs
count_map f p [] = refl
count_map {X} {Y} f p (x ∷ xs) =
    let one = sum_by-cons (λ (y : Y). cond (p y) 1 0) (f x) (map f xs) in
    let other = sum_by-cons (λ (y : X). cond (p (f y)) 1 0) x xs in
    let rest = count_map f p xs in
    omega arith

count_filter : {X : Type 0} (p q : X → Bool) (xs : List X) → count_by (λ (x : X). p x && q x) xs ≡ count_by p (filter q xs)
count_filter p q [] = refl
count_filter {X} p q (x ∷ xs) = sum_by-cons (λ (y : X). cond (p y && q y) 1 0) x xs ∙ (ap (λ (n : ℕ). cond (p x && q x) 1 0 + n) (count_filter p q xs) ∙ by_tests (p x) (q x) refl (filter q xs))
  where
    by_tests : (a b : Bool) → p x ≡ a → (ys : List X) → cond (a && b) 1 0 + count_by p ys ≡ count_by p (cond b (x ∷ ys) ys)
    by_tests true true e ys =
        let one = sum_by-cons (λ (y : X). cond (p y) 1 0) x ys in
        let here : ◌≡◌ {A = ℕ} (cond (p x) 1 0) 1 = rw e refl in
        let all : 1 + count_by p ys ≡ count_by p (x ∷ ys) = omega arith in all
    by_tests false true e ys =
        let one = sum_by-cons (λ (y : X). cond (p y) 1 0) x ys in
        let here : ◌≡◌ {A = ℕ} (cond (p x) 1 0) 0 = rw e refl in
        let all : 0 + count_by p ys ≡ count_by p (x ∷ ys) = omega arith in all
    by_tests true false e ys = let all : 0 + count_by p ys ≡ count_by p ys = omega arith in all
    by_tests false false e ys = let all : 0 + count_by p ys ≡ count_by p ys = omega arith in all

and_assoc : (a b c : Bool) → (a && b && c) ≡ ((a && b) && c)
and_assoc true b c = refl
and_assoc false b c = refl

-- the mapping of a number
pub numbered_live : (number : ℕ) (live : List Held) → numbered number (map standing_of live) ≡ option_map standing_of (held_of number live)
numbered_live number [] = refl
numbered_live number (h ∷ live) = by_test (h.mapping.number == number) refl (numbered_live number live)
  where
    by_test : (same : Bool) → (h.mapping.number == number) ≡ same → numbered number (map standing_of live) ≡ option_map standing_of (held_of number live) → numbered number (map standing_of (h ∷ live)) ≡ option_map standing_of (held_of number (h ∷ live))
    by_test true t rest = rw t refl
    by_test false t rest = rw t rest

turned : (a b : ℕ) → not (a == b) ≡ not (b == a)
turned a b = grind (arith, nat_tests)

-- the mappings but for one
pub without_live : (number : ℕ) (live : List Held) → filter (λ (s : Standing). not (number == s.number)) (map standing_of live) ≡ map standing_of (without number live)
without_live number live =
    filter_map standing_of (λ (s : Standing). not (number == s.number)) live
    ∙ ap (map standing_of) (filter_same (λ (h : Held). not (number == h.mapping.number)) (λ (h : Held). not (h.mapping.number == number)) (λ h. turned number h.mapping.number) live)

pub others_live : (gref number : ℕ) (live : List Held) → others_of gref number (map standing_of live) ≡ mappings_of gref (without number live)
others_live gref number live =
    count_map standing_of (λ (s : Standing). (s.gref == gref) && not (s.number == number)) live
    ∙ count_filter (λ (h : Held). h.mapping.gref == gref) (λ (h : Held). not (h.mapping.number == number)) live

pub writers_live : (gref number : ℕ) (live : List Held) → other_writers_of gref number (map standing_of live) ≡ writers_of gref (without number live)
writers_live gref number live =
    count_map standing_of (λ (s : Standing). (s.gref == gref) && is_for_writing s.mode && not (s.number == number)) live
    ∙ (count_same (λ (h : Held). (h.mapping.gref == gref) && is_for_writing h.mapping.mode && not (h.mapping.number == number)) (λ (h : Held). ((h.mapping.gref == gref) && is_for_writing h.mapping.mode) && not (h.mapping.number == number)) (λ h. and_assoc (h.mapping.gref == gref) (is_for_writing h.mapping.mode) (not (h.mapping.number == number))) live
    ∙ count_filter (λ (h : Held). (h.mapping.gref == gref) && is_for_writing h.mapping.mode) (λ (h : Held). not (h.mapping.number == number)) live)
