-- Entries under numbers that rise: what a look-up finds, and what a test of all entries says, after one was put in, set or taken out.
use Rattle.std.proofs.Common.{◌≡◌, ℕ, ◌+◌, ◌<◌, ◌≤◌, ◌==◌, ◌&&◌, ◌||◌, not, Bool, true, false, cond, List, [], ◌∷◌, refl, ap, sym, ◌∙◌, arith}
use Rattle.std.specs.Prelude.{find, Option, Some, None}
use Rattle.std.specs.declared.cmp.Ordering.{Ordering}
use Rattle.std.specs.declared.cmp.Ordering.TheVariants.{Less, Equal, Greater}
use Rattle.std.specs.List.{list_any}
use Rattle.std.specs.Map.{lookup, remove_entry, set_value, values_of}
use Rattle.std.specs.BTreeMap.{is_at, insert_entry}
use Rattle.std.specs.Ordering.{nat_cmp}
use Rattle.std.proofs.lemmas.Bool.Decides.{nat_tests}
use Rattle.std.proofs.lemmas.Map.Lookups.{exact_unsigned}
use Rattle.memory_check.proofs.Lookups.{at_number, lookup_inserted}

-- the keys rise, from this number on
abbrev pub AreRising : {X : Type 0} → ℕ → List (ℕ × X) → Type 0
AreRising low [] = Unit {0}
AreRising low (e ∷ es) = (low ≤ e.0) × AreRising (e.0 + 1) es

-- the value of a key
abbrev pub found : {X : Type 0} → List (ℕ × X) → ℕ → Option X
found es k = lookup (is_at (nat_cmp k)) es

pub rising_from : {X : Type 0} (low low' : ℕ) (es : List (ℕ × X)) → AreRising low es → low' ≤ low → AreRising low' es
rising_from low low' [] r le = tt
rising_from low low' (e ∷ es) r le = (omega (arith, r.0), r.1)

pub absent_below : {X : Type 0} (low k : ℕ) (es : List (ℕ × X)) → AreRising low es → k < low → found es k ≡ None
absent_below low k [] r lt = refl
absent_below {X} low k (e ∷ es) r lt =
    let other : (e.0 == k) ≡ false = grind (arith, nat_tests, r.0) in
    rw (at_number k e.0, other) (absent_below (e.0 + 1) k es r.1 (omega (arith, r.0)))

-- ---- an entry is put in
pub rising_inserted : {X : Type 0} (low k : ℕ) (v : X) (es : List (ℕ × X)) → AreRising low es → low ≤ k → AreRising low (insert_entry nat_cmp es k v)
rising_inserted low k v [] r le = (le, tt)
rising_inserted {X} low k v (e ∷ es) r le = by_order (nat_cmp k e.0) refl (rising_inserted (e.0 + 1) k v es r.1)
  where
    by_order : (o : Ordering) → nat_cmp k e.0 ≡ o → (e.0 + 1 ≤ k → AreRising (e.0 + 1) (insert_entry nat_cmp es k v)) → AreRising low (insert_entry nat_cmp (e ∷ es) k v)
    by_order Less is rest = rw is (le, (grind (arith, nat_tests), r.1))
    by_order Equal is rest = rw is (r.0, r.1)
    by_order Greater is rest = rw is (r.0, rest (grind (arith, nat_tests)))

pub found_inserted : {X : Type 0} (k q : ℕ) (v : X) (es : List (ℕ × X)) → found (insert_entry nat_cmp es k v) q ≡ cond (k == q) (Some v) (found es q)
found_inserted k q v es = lookup_inserted nat_cmp exact_unsigned k v q es ∙ rw (at_number q k) refl

-- a test of all entries, where the key is new
any_left : (a b c : Bool) → (a || (b || c)) ≡ (b || (a || c))
any_left true true c = refl
any_left true false c = refl
any_left false true c = refl
any_left false false c = refl

pub any_inserted : {X : Type 0} (p : ℕ → X → Bool) (k : ℕ) (v : X) (es : List (ℕ × X)) → found es k ≡ None → list_any (λ (e : ℕ × X). p e.0 e.1) (insert_entry nat_cmp es k v) ≡ (p k v || list_any (λ (e : ℕ × X). p e.0 e.1) es)
any_inserted p k v [] none = refl
any_inserted {X} p k v (e ∷ es) none = by_order (nat_cmp k e.0) refl (any_inserted p k v es)
  where
    by_order : (o : Ordering) → nat_cmp k e.0 ≡ o → (found es k ≡ None → list_any (λ (x : ℕ × X). p x.0 x.1) (insert_entry nat_cmp es k v) ≡ (p k v || list_any (λ (x : ℕ × X). p x.0 x.1) es))
        → list_any (λ (x : ℕ × X). p x.0 x.1) (insert_entry nat_cmp (e ∷ es) k v) ≡ (p k v || list_any (λ (x : ℕ × X). p x.0 x.1) (e ∷ es))
    by_order Less is rest = rw is refl
    by_order Equal is rest = absurd (let h : Some e.1 ≡ None = rw is at none in cc)
    by_order Greater is rest =
        let later : found es k ≡ None = rw is at none in
        rw is (ap (λ (b : Bool). p e.0 e.1 || b) (rest later) ∙ any_left (p e.0 e.1) (p k v) (list_any (λ (x : ℕ × X). p x.0 x.1) es))

-- ---- an entry is set
pub rising_set : {X : Type 0} (low k : ℕ) (v : X) (es : List (ℕ × X)) → AreRising low es → AreRising low (set_value (is_at (nat_cmp k)) es v)
rising_set low k v [] r = tt
rising_set {X} low k v (e ∷ es) r = by_test (is_at (nat_cmp k) e.0) refl (rising_set (e.0 + 1) k v es r.1)
  where
    by_test : (b : Bool) → is_at (nat_cmp k) e.0 ≡ b → AreRising (e.0 + 1) (set_value (is_at (nat_cmp k)) es v) → AreRising low (set_value (is_at (nat_cmp k)) (e ∷ es) v)
    by_test true t rest = rw t r
    by_test false t rest = rw t (r.0, rest)

pub found_set : {X : Type 0} (k q : ℕ) (o v : X) (es : List (ℕ × X)) → found es k ≡ Some o → found (set_value (is_at (nat_cmp k)) es v) q ≡ cond (k == q) (Some v) (found es q)
found_set k q o v [] is = absurd (cc)
found_set {X} k q o v (e ∷ es) is = by_tests (e.0 == k) (e.0 == q) (k == q) refl refl refl (found_set k q o v es)
  where
    by_tests : (a b c : Bool) → (e.0 == k) ≡ a → (e.0 == q) ≡ b → (k == q) ≡ c → (found es k ≡ Some o → found (set_value (is_at (nat_cmp k)) es v) q ≡ cond (k == q) (Some v) (found es q))
        → found (set_value (is_at (nat_cmp k)) (e ∷ es) v) q ≡ cond (k == q) (Some v) (found (e ∷ es) q)
    by_tests true true true s t u rest = rw (at_number k e.0, s, at_number q e.0, t, u) refl
    by_tests true true false s t u rest = absurd (grind (arith, nat_tests))
    by_tests true false true s t u rest = absurd (grind (arith, nat_tests))
    by_tests true false false s t u rest = rw (at_number k e.0, s, at_number q e.0, t, u) refl
    by_tests false true true s t u rest = absurd (grind (arith, nat_tests))
    by_tests false true false s t u rest = rw (at_number k e.0, s, at_number q e.0, t, u) refl
    by_tests false false c s t u rest =
        let later : found es k ≡ Some o = rw (at_number k e.0, s) at is in
        rw (at_number k e.0, s, at_number q e.0, t) (rest later)

-- ---- an entry is taken out
pub rising_removed : {X : Type 0} (low k : ℕ) (es : List (ℕ × X)) → AreRising low es → AreRising low (remove_entry (is_at (nat_cmp k)) es)
rising_removed low k [] r = tt
rising_removed {X} low k (e ∷ es) r = by_test (is_at (nat_cmp k) e.0) refl (rising_removed (e.0 + 1) k es r.1)
  where
    by_test : (b : Bool) → is_at (nat_cmp k) e.0 ≡ b → AreRising (e.0 + 1) (remove_entry (is_at (nat_cmp k)) es) → AreRising low (remove_entry (is_at (nat_cmp k)) (e ∷ es))
    by_test true t rest = rw t (rising_from (e.0 + 1) low es r.1 (omega (arith, r.0)))
    by_test false t rest = rw t (r.0, rest)

pub found_removed : {X : Type 0} (low k q : ℕ) (es : List (ℕ × X)) → AreRising low es → found (remove_entry (is_at (nat_cmp k)) es) q ≡ cond (k == q) None (found es q)
found_removed {X} low k q [] r = none_by (k == q)
  where
    none_by : (b : Bool) → ◌≡◌ {A = Option X} None (cond b None None)
    none_by true = refl
    none_by false = refl
found_removed {X} low k q (e ∷ es) r = by_tests (e.0 == k) (e.0 == q) (k == q) refl refl refl (found_removed (e.0 + 1) k q es r.1)
  where
    by_tests : (a b c : Bool) → (e.0 == k) ≡ a → (e.0 == q) ≡ b → (k == q) ≡ c → found (remove_entry (is_at (nat_cmp k)) es) q ≡ cond (k == q) None (found es q)
        → found (remove_entry (is_at (nat_cmp k)) (e ∷ es)) q ≡ cond (k == q) None (found (e ∷ es) q)
    by_tests true true true s t u rest = rw (at_number k e.0, s, u) (absent_below (e.0 + 1) q es r.1 (grind (arith, nat_tests)))
    by_tests true true false s t u rest = absurd (grind (arith, nat_tests))
    by_tests true false true s t u rest = absurd (grind (arith, nat_tests))
    by_tests true false false s t u rest = rw (at_number k e.0, s, at_number q e.0, t, u) refl
    by_tests false true true s t u rest = absurd (grind (arith, nat_tests))
    by_tests false true false s t u rest = rw (at_number k e.0, s, at_number q e.0, t, u) refl
    by_tests false false c s t u rest = rw (at_number k e.0, s, at_number q e.0, t) rest

-- no entry has a key below the first
any_past : {X : Type 0} (p : ℕ → X → Bool) (low k : ℕ) (es : List (ℕ × X)) → AreRising low es → k < low → list_any (λ (e : ℕ × X). p e.0 e.1 && not (k == e.0)) es ≡ list_any (λ (e : ℕ × X). p e.0 e.1) es
any_past p low k [] r lt = refl
any_past {X} p low k (e ∷ es) r lt =
    let other : (k == e.0) ≡ false = grind (arith, nat_tests, r.0) in
    rw (other, any_past p (e.0 + 1) k es r.1 (omega (arith, r.0))) (ap (λ (b : Bool). b || list_any (λ (x : ℕ × X). p x.0 x.1) es) (and_yes (p e.0 e.1)))
  where
    and_yes : (b : Bool) → (b && true) ≡ b
    and_yes true = refl
    and_yes false = refl

pub any_removed : {X : Type 0} (p : ℕ → X → Bool) (low k : ℕ) (es : List (ℕ × X)) → AreRising low es → list_any (λ (e : ℕ × X). p e.0 e.1) (remove_entry (is_at (nat_cmp k)) es) ≡ list_any (λ (e : ℕ × X). p e.0 e.1 && not (k == e.0)) es
any_removed p low k [] r = refl
any_removed {X} p low k (e ∷ es) r = by_test (e.0 == k) refl (any_removed p (e.0 + 1) k es r.1)
  where
    and_no : (b c : Bool) → ((b && false) || c) ≡ c
    and_no true c = refl
    and_no false c = refl

    and_yes : (b : Bool) → (b && true) ≡ b
    and_yes true = refl
    and_yes false = refl

    by_test : (b : Bool) → (e.0 == k) ≡ b → list_any (λ (x : ℕ × X). p x.0 x.1) (remove_entry (is_at (nat_cmp k)) es) ≡ list_any (λ (x : ℕ × X). p x.0 x.1 && not (k == x.0)) es
        → list_any (λ (x : ℕ × X). p x.0 x.1) (remove_entry (is_at (nat_cmp k)) (e ∷ es)) ≡ list_any (λ (x : ℕ × X). p x.0 x.1 && not (k == x.0)) (e ∷ es)
    by_test true t rest =
        let same : (k == e.0) ≡ true = grind (arith, nat_tests) in
        rw (at_number k e.0, t, same) (sym (and_no (p e.0 e.1) (list_any (λ (x : ℕ × X). p x.0 x.1 && not (k == x.0)) es) ∙ any_past p (e.0 + 1) k es r.1 (grind (arith, nat_tests))))
    by_test false t rest =
        let other : (k == e.0) ≡ false = grind (arith, nat_tests) in
        rw (at_number k e.0, t, other, rest) (ap (λ (b : Bool). b || list_any (λ (x : ℕ × X). p x.0 x.1 && not (k == x.0)) es) (sym (and_yes (p e.0 e.1))))

-- the first value that passes a test lies under a key
pub record IsHeld {X : Type 0} (p : X → Bool) (es : List (ℕ × X)) (v : X) : Type 0 where
  pub key : ℕ
  pub is : found es key ≡ Some v
  pub passes : p v ≡ true

pub found_value : {X : Type 0} (p : X → Bool) (low : ℕ) (es : List (ℕ × X)) (v : X) → AreRising low es → find p (values_of es) ≡ Some v → IsHeld p es v
found_value p low [] v r is = absurd (cc)
found_value {X} p low (e ∷ es) v r is = by_test (p e.1) refl is (found_value p (e.0 + 1) es v r.1)
  where
    by_test : (b : Bool) → p e.1 ≡ b → cond b (Some e.1) (find p (values_of es)) ≡ Some v → (find p (values_of es) ≡ Some v → IsHeld p es v) → IsHeld p (e ∷ es) v
    by_test true t h rest =
        let same : e.1 ≡ v = cc in
        let here : (e.0 == e.0) ≡ true = grind (arith, nat_tests) in
        record { key = e.0; is = rw (at_number e.0 e.0, here) h; passes = ap p (sym same) ∙ t }
    by_test false t h rest =
        let later = rest h in
        record { key = later.key; is = past (e.0 == later.key) later.key refl later.is; passes = later.passes }
      where
        past : (c : Bool) (key : ℕ) → (e.0 == key) ≡ c → found es key ≡ Some v → found (e ∷ es) key ≡ Some v
        past true key s found = absurd (let gone = absent_below (e.0 + 1) key es r.1 (grind (arith, nat_tests)) in cc)
        past false key s found = rw (at_number key e.0, s) found
