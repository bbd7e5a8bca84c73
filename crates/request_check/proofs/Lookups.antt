-- What maps and sets by numbers hold after one more entry, one less, or another value.
use Rattle.std.proofs.Common.{◌≡◌, ℕ, ◌+◌, ◌||◌, Bool, true, false, cond, List, [], ◌∷◌, length, refl, ap, sym, ◌∙◌, arith}
use Rattle.std.specs.Prelude.{Option, Some, None}
use Rattle.std.specs.declared.cmp.Ordering.{Ordering}
use Rattle.std.specs.declared.cmp.Ordering.TheVariants.{Less, Equal, Greater}
use Rattle.std.specs.List.{list_any}
use Rattle.std.specs.Map.{lookup, set_value, remove_entry}
use Rattle.std.specs.BTreeMap.{is_at, insert_entry}
use Rattle.std.specs.BTreeSet.{insert_key}
use Rattle.std.specs.Ordering.{nat_cmp}
use Rattle.std.proofs.lemmas.Bool.Decides.{nat_tests}
use Rattle.std.proofs.lemmas.Map.Lookups.{exact_unsigned}
use Rattle.request_check.specs.Entries.{entry_at, with_entry, with_entry_by}

-- a query for a number is at that number, and at no other
pub at_same : (k : ℕ) → is_at (nat_cmp k) k ≡ true
at_same k = grind (arith, nat_tests)

pub at_other : (q k : ℕ) → (q ≡ k → ⊥) → is_at (nat_cmp q) k ≡ false
at_other q k apart = grind (arith, nat_tests)

-- ---- an entry put in
pub inserted_same : {X : Type 0} (es : List (ℕ × X)) (k : ℕ) (v : X) → lookup (is_at (nat_cmp k)) (insert_entry nat_cmp es k v) ≡ Some v
inserted_same [] k v = rw (at_same k) refl
inserted_same {X} (e ∷ es) k v = by_order (nat_cmp k e.0) refl (inserted_same es k v)
  where
    by_order : (o : Ordering) → nat_cmp k e.0 ≡ o → lookup (is_at (nat_cmp k)) (insert_entry nat_cmp es k v) ≡ Some v → lookup (is_at (nat_cmp k)) (insert_entry nat_cmp (e ∷ es) k v) ≡ Some v
    by_order Less is rest = rw is (rw (at_same k) refl)
    by_order Equal is rest = rw (is, is) refl
    by_order Greater is rest = rw (is, is) rest

pub inserted_other : {X : Type 0} (es : List (ℕ × X)) (k q : ℕ) (v : X) → (q ≡ k → ⊥) → lookup (is_at (nat_cmp q)) (insert_entry nat_cmp es k v) ≡ lookup (is_at (nat_cmp q)) es
inserted_other [] k q v apart = rw (at_other q k apart) refl
inserted_other {X} (e ∷ es) k q v apart = by_order (nat_cmp k e.0) refl (inserted_other es k q v apart)
  where
    by_order : (o : Ordering) → nat_cmp k e.0 ≡ o → lookup (is_at (nat_cmp q)) (insert_entry nat_cmp es k v) ≡ lookup (is_at (nat_cmp q)) es → lookup (is_at (nat_cmp q)) (insert_entry nat_cmp (e ∷ es) k v) ≡ lookup (is_at (nat_cmp q)) (e ∷ es)
    by_order Less is rest = rw is (rw (at_other q k apart) refl)
    by_order Equal is rest =
        let same : k ≡ e.0 = exact_unsigned k e.0 is in
        let far : q ≡ e.0 → ⊥ = λ t. apart (t ∙ sym same) in
        rw is (rw (at_other q e.0 far) refl)
    by_order Greater is rest = rw is (ap (λ (o : Option X). cond (is_at (nat_cmp q) e.0) (Some e.1) o) rest)

-- ---- another value
pub set_same : {X : Type 0} (es : List (ℕ × X)) (k : ℕ) (old v : X) → lookup (is_at (nat_cmp k)) es ≡ Some old → lookup (is_at (nat_cmp k)) (set_value (is_at (nat_cmp k)) es v) ≡ Some v
set_same [] k old v found = absurd (cc)
set_same {X} (e ∷ es) k old v found = by_test (is_at (nat_cmp k) e.0) refl (set_same es k old v)
  where
    by_test : (b : Bool) → is_at (nat_cmp k) e.0 ≡ b → (lookup (is_at (nat_cmp k)) es ≡ Some old → lookup (is_at (nat_cmp k)) (set_value (is_at (nat_cmp k)) es v) ≡ Some v) → lookup (is_at (nat_cmp k)) (set_value (is_at (nat_cmp k)) (e ∷ es) v) ≡ Some v
    by_test true is rest = rw (is, is) refl
    by_test false is rest = rw (is, is) (rest (rw is at found))

pub set_other : {X : Type 0} (es : List (ℕ × X)) (k q : ℕ) (v : X) → (q ≡ k → ⊥) → lookup (is_at (nat_cmp q)) (set_value (is_at (nat_cmp k)) es v) ≡ lookup (is_at (nat_cmp q)) es
set_other [] k q v apart = refl
set_other {X} (e ∷ es) k q v apart = by_order (nat_cmp k e.0) refl (set_other es k q v apart)
  where
    by_order : (o : Ordering) → nat_cmp k e.0 ≡ o → lookup (is_at (nat_cmp q)) (set_value (is_at (nat_cmp k)) es v) ≡ lookup (is_at (nat_cmp q)) es → lookup (is_at (nat_cmp q)) (set_value (is_at (nat_cmp k)) (e ∷ es) v) ≡ lookup (is_at (nat_cmp q)) (e ∷ es)
    by_order Less is rest = rw is (ap (λ (o : Option X). cond (is_at (nat_cmp q) e.0) (Some e.1) o) rest)
    by_order Equal is rest =
        let same : k ≡ e.0 = exact_unsigned k e.0 is in
        let far : q ≡ e.0 → ⊥ = λ t. apart (t ∙ sym same) in
        rw is (rw (at_other q e.0 far) refl)
    by_order Greater is rest = rw is (ap (λ (o : Option X). cond (is_at (nat_cmp q) e.0) (Some e.1) o) rest)

entry_same_by : {X : Type 0} (es : List (ℕ × X)) (k : ℕ) (v : X) (o : Option X) → entry_at es k ≡ o → entry_at (with_entry_by es k v o) k ≡ Some v
entry_same_by es k v None is = inserted_same es k v
entry_same_by es k v (Some old) is = set_same es k old v is

entry_other_by : {X : Type 0} (es : List (ℕ × X)) (k q : ℕ) (v : X) (o : Option X) → (q ≡ k → ⊥) → entry_at (with_entry_by es k v o) q ≡ entry_at es q
entry_other_by es k q v None apart = inserted_other es k q v apart
entry_other_by es k q v (Some old) apart = set_other es k q v apart

pub entry_same : {X : Type 0} (es : List (ℕ × X)) (k : ℕ) (v : X) → entry_at (with_entry es k v) k ≡ Some v
entry_same es k v = entry_same_by es k v (entry_at es k) refl

pub entry_other : {X : Type 0} (es : List (ℕ × X)) (k q : ℕ) (v : X) → (q ≡ k → ⊥) → entry_at (with_entry es k v) q ≡ entry_at es q
entry_other es k q v apart = entry_other_by es k q v (entry_at es k) apart

-- ---- one entry less
pub removed_other : {X : Type 0} (es : List (ℕ × X)) (k q : ℕ) → (q ≡ k → ⊥) → lookup (is_at (nat_cmp q)) (remove_entry (is_at (nat_cmp k)) es) ≡ lookup (is_at (nat_cmp q)) es
removed_other [] k q apart = refl
removed_other {X} (e ∷ es) k q apart = by_order (nat_cmp k e.0) refl (removed_other es k q apart)
  where
    by_order : (o : Ordering) → nat_cmp k e.0 ≡ o → lookup (is_at (nat_cmp q)) (remove_entry (is_at (nat_cmp k)) es) ≡ lookup (is_at (nat_cmp q)) es → lookup (is_at (nat_cmp q)) (remove_entry (is_at (nat_cmp k)) (e ∷ es)) ≡ lookup (is_at (nat_cmp q)) (e ∷ es)
    by_order Less is rest = rw is (ap (λ (o : Option X). cond (is_at (nat_cmp q) e.0) (Some e.1) o) rest)
    by_order Equal is rest =
        let same : k ≡ e.0 = exact_unsigned k e.0 is in
        let far : q ≡ e.0 → ⊥ = λ t. apart (t ∙ sym same) in
        rw is (rw (at_other q e.0 far) refl)
    by_order Greater is rest = rw is (ap (λ (o : Option X). cond (is_at (nat_cmp q) e.0) (Some e.1) o) rest)

-- ---- a number more in a set
pub any_same : (ks : List ℕ) (k : ℕ) → list_any (is_at (nat_cmp k)) (insert_key nat_cmp ks k) ≡ true
any_same [] k = rw (at_same k) refl
any_same (x ∷ ks) k = by_order (nat_cmp k x) refl (any_same ks k)
  where
    by_order : (o : Ordering) → nat_cmp k x ≡ o → list_any (is_at (nat_cmp k)) (insert_key nat_cmp ks k) ≡ true → list_any (is_at (nat_cmp k)) (insert_key nat_cmp (x ∷ ks) k) ≡ true
    by_order Less is rest = rw is (rw (at_same k) refl)
    by_order Equal is rest = rw (is, is) refl
    by_order Greater is rest = rw (is, is) rest

pub any_other : (ks : List ℕ) (k q : ℕ) → (q ≡ k → ⊥) → list_any (is_at (nat_cmp q)) (insert_key nat_cmp ks k) ≡ list_any (is_at (nat_cmp q)) ks
any_other [] k q apart = rw (at_other q k apart) refl
any_other (x ∷ ks) k q apart = by_order (nat_cmp k x) refl (any_other ks k q apart)
  where
    by_order : (o : Ordering) → nat_cmp k x ≡ o → list_any (is_at (nat_cmp q)) (insert_key nat_cmp ks k) ≡ list_any (is_at (nat_cmp q)) ks → list_any (is_at (nat_cmp q)) (insert_key nat_cmp (x ∷ ks) k) ≡ list_any (is_at (nat_cmp q)) (x ∷ ks)
    by_order Less is rest = rw is (rw (at_other q k apart) refl)
    by_order Equal is rest = rw is refl
    by_order Greater is rest = rw is (ap (λ (b : Bool). is_at (nat_cmp q) x || b) rest)

pub length_inserted : (ks : List ℕ) (k : ℕ) → list_any (is_at (nat_cmp k)) ks ≡ false → length (insert_key nat_cmp ks k) ≡ length ks + 1
length_inserted [] k none = refl
length_inserted (x ∷ ks) k none = by_order (nat_cmp k x) refl (length_inserted ks k)
  where
    by_order : (o : Ordering) → nat_cmp k x ≡ o → (list_any (is_at (nat_cmp k)) ks ≡ false → length (insert_key nat_cmp ks k) ≡ length ks + 1) → length (insert_key nat_cmp (x ∷ ks) k) ≡ length (x ∷ ks) + 1
    by_order Less is rest = rw is (omega arith)
    by_order Equal is rest = absurd (let h : true ≡ false = rw is at none in cc)
    by_order Greater is rest =
        let one : length (insert_key nat_cmp ks k) ≡ length ks + 1 = rest (rw is at none) in
        rw is (omega arith)
