-- The mappings that stand in a state: each stands once, under its number; and how many of them pass a test.
use Rattle.std.proofs.Common.{◌≡◌, ℕ, ◌+◌, ◌==◌, ◌&&◌, not, Bool, true, false, cond, List, [], ◌∷◌, ◌++◌, filter, count_by, refl, ap, sym, ◌∙◌, subst, arith}
use Rattle.std.specs.Prelude.{Option, Some, None}
use Rattle.std.specs.declared.cmp.Ordering.{Ordering}
use Rattle.std.specs.declared.cmp.Ordering.TheVariants.{Less, Equal, Greater}
use Rattle.std.specs.Map.{remove_entry, values_of}
use Rattle.std.specs.BTreeMap.{is_at, insert_entry}
use Rattle.std.specs.Ordering.{nat_cmp}
use Rattle.std.proofs.lemmas.Bool.Decides.{nat_tests}
use Rattle.std.proofs.lemmas.List.Sums.{sum_by-cons, sum_by-append}
use Rattle.std.proofs.lemmas.Map.Lookups.{exact_unsigned}
use Rattle.report_rules.specs.declared.standing.Standing.{Standing}
use Rattle.report_rules.specs.Standing.{numbered}
use Rattle.memory_check.specs.State.{standing_at}
use Rattle.memory_check.proofs.Lookups.{at_number, lookup_inserted, still_absent}

-- each mapping stands under its number, and under no other entry of that number
abbrev pub AreApart : List (ℕ × Standing) → Type 0
AreApart [] = Unit {0}
AreApart (e ∷ es) = (e.1.number ≡ e.0) × (standing_at es e.0 ≡ None) × AreApart es

same_at : (k n : ℕ) → is_at (nat_cmp k) n ≡ true → n ≡ k
same_at k n t = let e : (n == k) ≡ true = sym (at_number k n) ∙ t in grind (arith, nat_tests)

other_at : (k n : ℕ) → is_at (nat_cmp k) n ≡ false → (n == k) ≡ false
other_at k n t = sym (at_number k n) ∙ t

other_by_order : (k n : ℕ) → nat_cmp k n ≡ Greater → is_at (nat_cmp n) k ≡ false
other_by_order k n is = grind (arith, nat_tests)

equal_by_order : (k n : ℕ) → nat_cmp k n ≡ Equal → is_at (nat_cmp k) n ≡ true
equal_by_order k n is = rw is refl

-- ---- counting
pub count_cons : {X : Type 0} (p : X → Bool) (x : X) (xs : List X) → count_by p (x ∷ xs) ≡ cond (p x) 1 0 + count_by p xs
count_cons p x xs = sum_by-cons (λ y. cond (p y) 1 0) x xs

-- one more is counted where it passes
pub count_more : {X : Type 0} (p : X → Bool) (xs : List X) (x : X) → count_by p (xs ++ x ∷ []) ≡ count_by p xs + cond (p x) 1 0
count_more {X} p xs x =
    let both = sum_by-append (λ (y : X). cond (p y) 1 0) xs (x ∷ []) in
    let one = sum_by-cons (λ (y : X). cond (p y) 1 0) x [] in
    omega arith

pub count_filter : {X : Type 0} (p q : X → Bool) (xs : List X) → count_by (λ (x : X). p x && q x) xs ≡ count_by p (filter q xs)
count_filter p q [] = refl
count_filter {X} p q (x ∷ xs) = count_cons {X = X} (λ (y : X). p y && q y) x xs ∙ (ap (λ (n : ℕ). cond (p x && q x) 1 0 + n) (count_filter p q xs) ∙ by_tests (p x) (q x) refl (filter q xs))
  where
    by_tests : (a b : Bool) → p x ≡ a → (ys : List X) → cond (a && b) 1 0 + count_by p ys ≡ count_by p (cond b (x ∷ ys) ys)
    by_tests true true e ys =
        let one = count_cons p x ys in
        let here : ◌≡◌ {A = ℕ} (cond (p x) 1 0) 1 = rw e refl in
        let all : 1 + count_by p ys ≡ count_by p (x ∷ ys) = omega arith in all
    by_tests false true e ys =
        let one = count_cons p x ys in
        let here : ◌≡◌ {A = ℕ} (cond (p x) 1 0) 0 = rw e refl in
        let all : 0 + count_by p ys ≡ count_by p (x ∷ ys) = omega arith in all
    by_tests true false e ys = let all : 0 + count_by p ys ≡ count_by p ys = omega arith in all
    by_tests false false e ys = let all : 0 + count_by p ys ≡ count_by p ys = omega arith in all

-- nothing is found of none
none_either : {X : Type 0} (b : Bool) → ◌≡◌ {A = Option X} None (cond b None None)
none_either true = refl
none_either false = refl

-- ---- a mapping that is put in
pub apart_inserted : (k : ℕ) (v : Standing) (es : List (ℕ × Standing)) → v.number ≡ k → standing_at es k ≡ None → AreApart es → AreApart (insert_entry nat_cmp es k v)
apart_inserted k v [] named none apart = (named, refl, tt)
apart_inserted k v (e ∷ es) named none apart = by_order (nat_cmp k e.0) refl (λ h. apart_inserted k v es named h apart.2)
  where
    by_order : (o : Ordering) → nat_cmp k e.0 ≡ o → (standing_at es k ≡ None → AreApart (insert_entry nat_cmp es k v)) → AreApart (insert_entry nat_cmp (e ∷ es) k v)
    by_order Less is rest = rw is (named, none, apart)
    by_order Equal is rest = absurd (let h : Some e.1 ≡ None = rw (equal_by_order k e.0 is) at none in cc)
    by_order Greater is rest =
        let later : standing_at es k ≡ None = rw is at none in
        let still : standing_at (insert_entry nat_cmp es k v) e.0 ≡ None = lookup_inserted nat_cmp exact_unsigned k v e.0 es ∙ rw (other_by_order k e.0 is) apart.1 in
        rw is (apart.0, still, rest later)

pub count_inserted : (p : Standing → Bool) (k : ℕ) (v : Standing) (es : List (ℕ × Standing)) → standing_at es k ≡ None → count_by p (values_of (insert_entry nat_cmp es k v)) ≡ count_by p (values_of es) + cond (p v) 1 0
count_inserted p k v [] none = let one = count_cons p v [] in omega arith
count_inserted p k v (e ∷ es) none = by_order (nat_cmp k e.0) refl (count_inserted p k v es)
  where
    by_order : (o : Ordering) → nat_cmp k e.0 ≡ o → (standing_at es k ≡ None → count_by p (values_of (insert_entry nat_cmp es k v)) ≡ count_by p (values_of es) + cond (p v) 1 0) → count_by p (values_of (insert_entry nat_cmp (e ∷ es) k v)) ≡ count_by p (values_of (e ∷ es)) + cond (p v) 1 0
    by_order Less is rest = rw is (let one = count_cons p v (values_of (e ∷ es)) in omega arith)
    by_order Equal is rest = absurd (let h : Some e.1 ≡ None = rw (equal_by_order k e.0 is) at none in cc)
    by_order Greater is rest =
        let later : standing_at es k ≡ None = rw is at none in
        let more = rest later in
        let one = count_cons p e.1 (values_of (insert_entry nat_cmp es k v)) in
        let other = count_cons p e.1 (values_of es) in
        rw is (omega arith)

-- ---- a mapping that is taken out
pub apart_removed : (k : ℕ) (es : List (ℕ × Standing)) → AreApart es → AreApart (remove_entry (is_at (nat_cmp k)) es)
apart_removed k [] apart = tt
apart_removed k (e ∷ es) apart = by_test (is_at (nat_cmp k) e.0) refl (apart_removed k es apart.2)
  where
    by_test : (b : Bool) → is_at (nat_cmp k) e.0 ≡ b → AreApart (remove_entry (is_at (nat_cmp k)) es) → AreApart (remove_entry (is_at (nat_cmp k)) (e ∷ es))
    by_test true t rest = rw t apart.2
    by_test false t rest = rw t (apart.0, still_absent (is_at (nat_cmp k)) (is_at (nat_cmp e.0)) es apart.1, rest)

-- the mapping of each number after one was taken out
pub found_after_removal : (k n : ℕ) (es : List (ℕ × Standing)) → AreApart es → standing_at (remove_entry (is_at (nat_cmp k)) es) n ≡ cond (k == n) None (standing_at es n)
found_after_removal k n [] apart = none_either (k == n)
found_after_removal k n (e ∷ es) apart = by_tests (is_at (nat_cmp k) e.0) (is_at (nat_cmp n) e.0) (k == n) refl refl refl (found_after_removal k n es apart.2)
  where
    by_tests : (a b c : Bool) → is_at (nat_cmp k) e.0 ≡ a → is_at (nat_cmp n) e.0 ≡ b → (k == n) ≡ c → standing_at (remove_entry (is_at (nat_cmp k)) es) n ≡ cond (k == n) None (standing_at es n) → standing_at (remove_entry (is_at (nat_cmp k)) (e ∷ es)) n ≡ cond (k == n) None (standing_at (e ∷ es) n)
    by_tests true b true s t u rest =
        let one : e.0 ≡ k = same_at k e.0 s in
        let two : k ≡ n = grind (arith, nat_tests) in
        let gone : standing_at es n ≡ None = subst (λ (m : ℕ). standing_at es m ≡ None) (one ∙ two) apart.1 in
        rw (s, u) gone
    by_tests true true false s t u rest =
        let one : e.0 ≡ k = same_at k e.0 s in
        let two : e.0 ≡ n = same_at n e.0 t in
        absurd (grind (arith, nat_tests))
    by_tests true false false s t u rest = rw (s, u, t) refl
    by_tests false true true s t u rest =
        let one : (e.0 == k) ≡ false = other_at k e.0 s in
        let two : e.0 ≡ n = same_at n e.0 t in
        absurd (grind (arith, nat_tests))
    by_tests false false true s t u rest = rw (s, u, t) (rest ∙ rw u refl)
    by_tests false true false s t u rest = rw (s, u, t) refl
    by_tests false false false s t u rest = rw (s, u, t) (rest ∙ rw u refl)

turned : (k n : ℕ) (b : Bool) → (n == k) ≡ b → (k == n) ≡ b
turned k n b e = grind (arith, nat_tests)

-- a mapping of another number is counted as without the test, and one of the number is not
count_but : (p : Standing → Bool) (k : ℕ) (s : Standing) (ss : List Standing) (same : Bool) → (k == s.number) ≡ same
    → count_by (λ (x : Standing). p x && not (k == x.number)) (s ∷ ss) ≡ cond same 0 (cond (p s) 1 0) + count_by (λ (x : Standing). p x && not (k == x.number)) ss
count_but p k s ss same is =
    let one = count_cons (λ (x : Standing). p x && not (k == x.number)) s ss in
    let here : ◌≡◌ {A = ℕ} (cond (p s && not (k == s.number)) 1 0) (cond same 0 (cond (p s) 1 0)) = rw is (by_tests (p s) same) in
    omega arith
  where
    by_tests : (a b : Bool) → ◌≡◌ {A = ℕ} (cond (a && not b) 1 0) (cond b 0 (cond a 1 0))
    by_tests true true = refl
    by_tests false true = refl
    by_tests true false = refl
    by_tests false false = refl

-- no mapping but those of another number are counted where none of the number stands
pub count_absent : (p : Standing → Bool) (k : ℕ) (es : List (ℕ × Standing)) → AreApart es → standing_at es k ≡ None → count_by (λ (s : Standing). p s && not (k == s.number)) (values_of es) ≡ count_by p (values_of es)
count_absent p k [] apart none = refl
count_absent p k (e ∷ es) apart none = by_test (is_at (nat_cmp k) e.0) refl (count_absent p k es apart.2)
  where
    by_test : (b : Bool) → is_at (nat_cmp k) e.0 ≡ b → (standing_at es k ≡ None → count_by (λ (s : Standing). p s && not (k == s.number)) (values_of es) ≡ count_by p (values_of es)) → count_by (λ (s : Standing). p s && not (k == s.number)) (values_of (e ∷ es)) ≡ count_by p (values_of (e ∷ es))
    by_test true t rest = absurd (let h : Some e.1 ≡ None = rw t at none in cc)
    by_test false t rest =
        let more = rest (rw t at none) in
        let one = count_but p k e.1 (values_of es) false (rw apart.0 (turned k e.0 false (other_at k e.0 t))) in
        let other = count_cons p e.1 (values_of es) in
        omega arith

pub count_removed : (p : Standing → Bool) (k : ℕ) (es : List (ℕ × Standing)) → AreApart es → count_by p (values_of (remove_entry (is_at (nat_cmp k)) es)) ≡ count_by (λ (s : Standing). p s && not (k == s.number)) (values_of es)
count_removed p k [] apart = refl
count_removed p k (e ∷ es) apart = by_test (is_at (nat_cmp k) e.0) refl (count_removed p k es apart.2)
  where
    by_test : (b : Bool) → is_at (nat_cmp k) e.0 ≡ b → count_by p (values_of (remove_entry (is_at (nat_cmp k)) es)) ≡ count_by (λ (s : Standing). p s && not (k == s.number)) (values_of es) → count_by p (values_of (remove_entry (is_at (nat_cmp k)) (e ∷ es))) ≡ count_by (λ (s : Standing). p s && not (k == s.number)) (values_of (e ∷ es))
    by_test true t rest =
        let same : e.0 ≡ k = same_at k e.0 t in
        let left = count_absent p k es apart.2 (subst (λ (m : ℕ). standing_at es m ≡ None) same apart.1) in
        let one = count_but p k e.1 (values_of es) true (rw (apart.0, same) (grind (arith, nat_tests))) in
        rw t (omega arith)
    by_test false t rest =
        let one = count_but p k e.1 (values_of es) false (rw apart.0 (turned k e.0 false (other_at k e.0 t))) in
        let other = count_cons p e.1 (values_of (remove_entry (is_at (nat_cmp k)) es)) in
        rw t (omega arith)

-- ---- the list of the mappings that stand
pub numbered_more : (n : ℕ) (made : Standing) (standing : List Standing) → numbered made.number standing ≡ None → numbered n (standing ++ made ∷ []) ≡ cond (made.number == n) (Some made) (numbered n standing)
numbered_more n made [] none = refl
numbered_more n made (s ∷ standing) none = by_tests (s.number == made.number) (s.number == n) (made.number == n) refl refl refl (numbered_more n made standing)
  where
    by_tests : (a b c : Bool) → (s.number == made.number) ≡ a → (s.number == n) ≡ b → (made.number == n) ≡ c → (numbered made.number standing ≡ None → numbered n (standing ++ made ∷ []) ≡ cond (made.number == n) (Some made) (numbered n standing)) → numbered n (s ∷ standing ++ made ∷ []) ≡ cond (made.number == n) (Some made) (numbered n (s ∷ standing))
    by_tests true b c p q r rest = absurd (let h : Some s ≡ None = rw p at none in cc)
    by_tests false true true p q r rest = absurd (grind (arith, nat_tests))
    by_tests false true false p q r rest = rw (q, r) refl
    by_tests false false c p q r rest =
        let later : numbered made.number standing ≡ None = rw p at none in
        rw (q, rest later) refl

-- the mapping of a number has it
pub number_of_found : (n : ℕ) (standing : List Standing) (s : Standing) → numbered n standing ≡ Some s → s.number ≡ n
number_of_found n [] s is = absurd (cc)
number_of_found n (x ∷ standing) s is = by_test (x.number == n) refl (number_of_found n standing s)
  where
    by_test : (b : Bool) → (x.number == n) ≡ b → (numbered n standing ≡ Some s → s.number ≡ n) → s.number ≡ n
    by_test true t rest =
        let found : Some x ≡ Some s = rw t at is in
        let same : x ≡ s = cc in
        ap (λ (y : Standing). y.number) (sym same) ∙ (grind (arith, nat_tests))
    by_test false t rest = rest (rw t at is)

pub numbered_filter : (k n : ℕ) (standing : List Standing) → numbered n (filter (λ (s : Standing). not (k == s.number)) standing) ≡ cond (k == n) None (numbered n standing)
numbered_filter k n [] = none_either (k == n)
numbered_filter k n (s ∷ standing) = by_tests (k == s.number) (s.number == n) (k == n) refl refl refl (numbered_filter k n standing)
  where
    by_tests : (a b c : Bool) → (k == s.number) ≡ a → (s.number == n) ≡ b → (k == n) ≡ c → numbered n (filter (λ (x : Standing). not (k == x.number)) standing) ≡ cond (k == n) None (numbered n standing) → numbered n (filter (λ (x : Standing). not (k == x.number)) (s ∷ standing)) ≡ cond (k == n) None (numbered n (s ∷ standing))
    by_tests true b true p q r rest = rw p (rest ∙ rw r refl)
    by_tests true true false p q r rest = absurd (grind (arith, nat_tests))
    by_tests true false false p q r rest = rw (p, q) rest
    by_tests false true true p q r rest = absurd (grind (arith, nat_tests))
    by_tests false true false p q r rest = rw (p, q, r) refl
    by_tests false false c p q r rest = rw (p, q) rest

-- a filter by a number of which no mapping stands takes out none
pub filter_absent : (k : ℕ) (standing : List Standing) → numbered k standing ≡ None → filter (λ (s : Standing). not (k == s.number)) standing ≡ standing
filter_absent k [] none = refl
filter_absent k (s ∷ standing) none = by_test (s.number == k) refl (filter_absent k standing)
  where
    by_test : (b : Bool) → (s.number == k) ≡ b → (numbered k standing ≡ None → filter (λ (x : Standing). not (k == x.number)) standing ≡ standing) → filter (λ (x : Standing). not (k == x.number)) (s ∷ standing) ≡ s ∷ standing
    by_test true t rest = absurd (let h : Some s ≡ None = rw t at none in cc)
    by_test false t rest =
        let far : (k == s.number) ≡ false = turned k s.number false t in
        let later : numbered k standing ≡ None = rw t at none in
        rw far (ap (λ (xs : List Standing). s ∷ xs) (rest later))

pub filter_all : {X : Type 0} (xs : List X) → filter (λ (x : X). true) xs ≡ xs
filter_all [] = refl
filter_all (x ∷ xs) = ap (λ ys. x ∷ ys) (filter_all xs)
