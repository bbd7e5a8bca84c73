-- What a look-up finds after an entry was put in or taken out.
use Rattle.std.proofs.Common.{◌≡◌, ℕ, ◌==◌, ◌||◌, ◌&&◌, Bool, true, false, cond, List, [], ◌∷◌, refl, subst, arith}
use Rattle.std.specs.Prelude.{Option, Some, None}
use Rattle.std.specs.declared.cmp.Ordering.{Ordering}
use Rattle.std.specs.declared.cmp.Ordering.TheVariants.{Less, Equal, Greater}
use Rattle.std.specs.List.{list_any}
use Rattle.std.specs.Map.{lookup, remove_entry}
use Rattle.std.specs.BTreeMap.{is_at, insert_entry}
use Rattle.std.specs.BTreeSet.{insert_key}
use Rattle.std.specs.Ordering.{nat_cmp, is_eq, ordering_then}
use Rattle.std.proofs.lemmas.Bool.Decides.{nat_tests}
use Rattle.std.proofs.lemmas.Map.Lookups.{CmpEqualImpliesEq, exact_unsigned, exact_pairs}
use Rattle.memory_check.specs.Words.{cell_cmp}

pub exact_cells : CmpEqualImpliesEq cell_cmp
exact_cells = exact_pairs nat_cmp nat_cmp exact_unsigned exact_unsigned

-- a query for a number is at that number
pub at_number : (n k : ℕ) → is_at (nat_cmp n) k ≡ (k == n)
at_number n k = grind (arith, nat_tests)

cell_by : (f g : ℕ) (o : Ordering) (b : Bool) → o ≡ nat_cmp f g → b ≡ (g == f) → (w x : ℕ) → is_eq (ordering_then o (nat_cmp w x)) ≡ (b && (x == w))
cell_by f g Less true o b w x = absurd (grind (arith, nat_tests))
cell_by f g Less false o b w x = refl
cell_by f g Equal true o b w x = at_number w x
cell_by f g Equal false o b w x = absurd (grind (arith, nat_tests))
cell_by f g Greater true o b w x = absurd (grind (arith, nat_tests))
cell_by f g Greater false o b w x = refl

-- a query for a word is at that word
pub at_cell : (f w g x : ℕ) → is_at (cell_cmp (f, w)) (g, x) ≡ ((g == f) && (x == w))
at_cell f w g x = cell_by f g (nat_cmp f g) (g == f) refl refl w x

equal_at : (o : Ordering) → is_eq o ≡ true → o ≡ Equal
equal_at Less e = absurd (cc)
equal_at Equal e = refl
equal_at Greater e = absurd (cc)

same_test : {X : Type 0} (b : Bool) (x y : X) (o : Option X) → cond b (Some x) o ≡ cond b (Some x) (cond b (Some y) o)
same_test true x y o = refl
same_test false x y o = refl

swapped : {X : Type 0} (a b : Bool) (x y : X) (o : Option X) → (a ≡ true → b ≡ true → ⊥) → cond a (Some x) (cond b (Some y) o) ≡ cond b (Some y) (cond a (Some x) o)
swapped true true x y o apart = absurd (apart refl refl)
swapped true false x y o apart = refl
swapped false true x y o apart = refl
swapped false false x y o apart = refl

-- after an entry was put in
pub lookup_inserted : {K X : Type 0} (R : K → K → Ordering) → CmpEqualImpliesEq R → (k : K) (v : X) (q : K) (es : List (K × X)) → lookup (is_at (R q)) (insert_entry R es k v) ≡ cond (is_at (R q) k) (Some v) (lookup (is_at (R q)) es)
lookup_inserted R exact k v q [] = refl
lookup_inserted {K} {X} R exact k v q (e ∷ es) = by_order (R k e.0) refl (lookup_inserted R exact k v q es)
  where
    by_order : (o : Ordering) → R k e.0 ≡ o → lookup (is_at (R q)) (insert_entry R es k v) ≡ cond (is_at (R q) k) (Some v) (lookup (is_at (R q)) es) → lookup (is_at (R q)) (insert_entry R (e ∷ es) k v) ≡ cond (is_at (R q) k) (Some v) (lookup (is_at (R q)) (e ∷ es))
    by_order Less is rest = rw is refl
    by_order Equal is rest =
        let same : k ≡ e.0 = exact k e.0 is in
        rw (is, same) (same_test (is_at (R q) e.0) v e.1 (lookup (is_at (R q)) es))
    by_order Greater is rest =
        let apart : is_at (R q) e.0 ≡ true → is_at (R q) k ≡ true → ⊥ = λ s t.
        (let at_k : q ≡ k = exact q k (equal_at (R q k) t) in
        let at_e : R q e.0 ≡ Equal = equal_at (R q e.0) s in
        let both : R k e.0 ≡ Equal = subst (λ (x : K). R x e.0 ≡ Equal) at_k at_e in
        cc) in
        rw (is, rest) (swapped (is_at (R q) e.0) (is_at (R q) k) e.1 v (lookup (is_at (R q)) es) apart)

-- what isn't found isn't found after an entry was taken out
pub still_absent : {K X : Type 0} (other test : K → Bool) (es : List (K × X)) → lookup test es ≡ None → lookup test (remove_entry other es) ≡ None
still_absent other test [] none = refl
still_absent {K} {X} other test (e ∷ es) none = by_tests (other e.0) (test e.0) refl refl (still_absent other test es)
  where
    by_tests : (a b : Bool) → other e.0 ≡ a → test e.0 ≡ b → (lookup test es ≡ None → lookup test (remove_entry other es) ≡ None) → lookup test (remove_entry other (e ∷ es)) ≡ None
    by_tests a true s t rest = absurd (let h : Some e.1 ≡ None = rw t at none in cc)
    by_tests true false s t rest = rw s (rw t at none)
    by_tests false false s t rest = rw (s, t) (rest (rw t at none))

-- the numbers of a set, with one more
pub any_inserted : (k q : ℕ) (ks : List ℕ) → list_any (is_at (nat_cmp q)) (insert_key nat_cmp ks k) ≡ (list_any (is_at (nat_cmp q)) ks || is_at (nat_cmp q) k)
any_inserted k q [] = or_none (is_at (nat_cmp q) k)
  where
    or_none : (b : Bool) → (b || false) ≡ b
    or_none true = refl
    or_none false = refl
any_inserted k q (x ∷ xs) = by_order (nat_cmp k x) refl (any_inserted k q xs)
  where
    turned : (a b : Bool) → (a || b) ≡ (b || a)
    turned true true = refl
    turned true false = refl
    turned false true = refl
    turned false false = refl

    again : (a b : Bool) → (a || b) ≡ ((a || b) || a)
    again true b = refl
    again false true = refl
    again false false = refl

    assoc : (a b c : Bool) → (a || (b || c)) ≡ ((a || b) || c)
    assoc true b c = refl
    assoc false b c = refl

    by_order : (o : Ordering) → nat_cmp k x ≡ o → list_any (is_at (nat_cmp q)) (insert_key nat_cmp xs k) ≡ (list_any (is_at (nat_cmp q)) xs || is_at (nat_cmp q) k) → list_any (is_at (nat_cmp q)) (insert_key nat_cmp (x ∷ xs) k) ≡ (list_any (is_at (nat_cmp q)) (x ∷ xs) || is_at (nat_cmp q) k)
    by_order Less is rest = rw is (turned (is_at (nat_cmp q) k) (is_at (nat_cmp q) x || list_any (is_at (nat_cmp q)) xs))
    by_order Equal is rest =
        let same : k ≡ x = exact_unsigned k x is in
        rw (is, same) (again (is_at (nat_cmp q) x) (list_any (is_at (nat_cmp q)) xs))
    by_order Greater is rest = rw (is, rest) (assoc (is_at (nat_cmp q) x) (list_any (is_at (nat_cmp q)) xs) (is_at (nat_cmp q) k))
