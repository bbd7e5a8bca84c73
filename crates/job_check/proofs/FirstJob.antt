-- The first value that passes a test lies under the lowest number that does.
use Rattle.std.proofs.Common.{◌≡◌, ℕ, zero, suc, ◌+◌, ◌-◌, ◌<◌, ◌≤◌, ◌==◌, Bool, true, false, cond, if◌then◌else◌, List, [], ◌∷◌, refl, ap, sym, ◌∙◌, arith}
use Rattle.std.specs.Prelude.{find, Option, Some, None, is_some, option_map}
use Rattle.std.specs.List.{list_any}
use Rattle.std.specs.Map.{values_of}
use Rattle.std.proofs.lemmas.Bool.Decides.{nat_tests}
use Rattle.report_rules.specs.Stretch.{when}
use Rattle.report_rules.specs.Reply.{lowest}
use Rattle.report_rules.proofs.Lowest.{lowest_found}
use Rattle.memory_check.proofs.Lookups.{at_number}
use Rattle.job_check.proofs.Keyed.{AreRising, found, absent_below}

-- no value under a key passes
pub none_value : {X : Type 0} (p : X → Bool) (es : List (ℕ × X)) (k : ℕ) (v : X) → find p (values_of es) ≡ None → found es k ≡ Some v → p v ≡ false
none_value p [] k v none is = absurd (cc)
none_value {X} p (e ∷ es) k v none is = by_test (p e.1) refl none (e.0 == k) refl (none_value p es k v)
  where
    by_test : (b : Bool) → p e.1 ≡ b → cond b (Some e.1) (find p (values_of es)) ≡ None → (c : Bool) → (e.0 == k) ≡ c → (find p (values_of es) ≡ None → found es k ≡ Some v → p v ≡ false) → p v ≡ false
    by_test true t h c s rest = absurd (cc)
    by_test false t h true s rest =
        let here : Some e.1 ≡ Some v = rw (at_number k e.0, s) at is in
        let same : e.1 ≡ v = cc in
        ap p (sym same) ∙ t
    by_test false t h false s rest =
        let later : found es k ≡ Some v = rw (at_number k e.0, s) at is in
        rest h later

pub record IsFirst {X : Type 0} (p : X → Bool) (es : List (ℕ × X)) (v : X) : Type 0 where
  pub key : ℕ
  pub is : found es key ≡ Some v
  pub passes : p v ≡ true
  pub first : (k : ℕ) (w : X) → k < key → found es k ≡ Some w → p w ≡ false

pub first_value : {X : Type 0} (p : X → Bool) (low : ℕ) (es : List (ℕ × X)) (v : X) → AreRising low es → find p (values_of es) ≡ Some v → IsFirst p es v
first_value p low [] v r is = absurd (cc)
first_value {X} p low (e ∷ es) v r is = by_test (p e.1) refl is (first_value p (e.0 + 1) es v r.1)
  where
    by_test : (b : Bool) → p e.1 ≡ b → cond b (Some e.1) (find p (values_of es)) ≡ Some v → (find p (values_of es) ≡ Some v → IsFirst p es v) → IsFirst p (e ∷ es) v
    by_test true t h rest =
        let same : e.1 ≡ v = cc in
        let here : (e.0 == e.0) ≡ true = grind (arith, nat_tests) in
        let least : e.0 ≤ e.0 = omega arith in
        record {
          key = e.0;
          is = rw (at_number e.0 e.0, here) h;
          passes = ap p (sym same) ∙ t;
          first = λ k w lt is_w. absurd (let gone = absent_below e.0 k (e ∷ es) (least, r.1) lt in cc);
        }
    by_test false t h rest =
        let later = rest h in
        record { key = later.key; is = past (e.0 == later.key) later.key refl later.is; passes = later.passes; first = λ k w lt is_w. earlier (e.0 == k) k w lt refl is_w (later.first k w lt) }
      where
        past : (c : Bool) (key : ℕ) → (e.0 == key) ≡ c → found es key ≡ Some v → found (e ∷ es) key ≡ Some v
        past true key s found = absurd (let gone = absent_below (e.0 + 1) key es r.1 (grind (arith, nat_tests)) in cc)
        past false key s found = rw (at_number key e.0, s) found

        earlier : {m : ℕ} (c : Bool) (k : ℕ) (w : X) → k < m → (e.0 == k) ≡ c → found (e ∷ es) k ≡ Some w → (found es k ≡ Some w → p w ≡ false) → p w ≡ false
        earlier true k w lt s is_w old =
            let here : Some e.1 ≡ Some w = rw (at_number k e.0, s) at is_w in
            let same : e.1 ≡ w = cc in
            ap p (sym same) ∙ t
        earlier false k w lt s is_w old =
            let after : found es k ≡ Some w = rw (at_number k e.0, s) at is_w in
            old after

none_up : (p : ℕ → Bool) (n : ℕ) → ((k : ℕ) → k ≤ n → p k ≡ false) → lowest p n ≡ None
none_up p zero none = refl
none_up p (suc n) none =
    let before : lowest p n ≡ None = none_up p n (λ k le. none k (omega arith)) in
    ap (λ (o : Option ℕ). if is_some o then o else when (p (suc n)) (suc n)) before ∙ ap (λ (b : Bool). when b (suc n)) (none (suc n) (omega arith))

abbrev pub passes_at : {X : Type 0} → (X → Bool) → Option X → Bool
passes_at q None = false
passes_at q (Some v) = q v

passes_none : {X : Type 0} (q : X → Bool) (o : Option X) → ((v : X) → o ≡ Some v → q v ≡ false) → passes_at q o ≡ false
passes_none q None none = refl
passes_none q (Some v) none = none v refl

-- the lowest number that passes is that of the first value that does
pub lowest_is : {X : Type 0} (p : ℕ → Bool) (q : X → Bool) (number : X → ℕ) (es : List (ℕ × X)) (n : ℕ) → AreRising 0 es → ((k : ℕ) → p k ≡ passes_at q (found es k)) → ((k : ℕ) (v : X) → found es k ≡ Some v → q v ≡ true → (1 ≤ k) × (k ≤ n))
    → ((k : ℕ) (v : X) → found es k ≡ Some v → number v ≡ k) → lowest p n ≡ option_map number (find q (values_of es))
lowest_is {X} p q number es n rising same range named = by_found (find q (values_of es)) refl
  where
    at_key : (v : X) (f : IsFirst q es v) → (i : ℕ) → f.key ≡ i + 1 → lowest p n ≡ Some (i + 1)
    at_key v f i is =
        let within = range f.key v f.is f.passes in
        let below : (k : ℕ) → k ≤ i → p k ≡ false = λ k le. same k ∙ passes_none q (found es k) (λ w is_w. f.first k w (omega arith) is_w) in
        let here : p (i + 1) ≡ true = ap p (sym is) ∙ (same f.key ∙ (ap (passes_at q) f.is ∙ f.passes)) in
        lowest_found p i n (none_up p i below) here (omega (arith, within.1, is))

    by_found : (o : Option X) → find q (values_of es) ≡ o → lowest p n ≡ option_map number o
    by_found None e = none_up p n (λ k le. same k ∙ passes_none q (found es k) (λ w is_w. none_value q es k w e is_w))
    by_found (Some v) e =
        let f : IsFirst q es v = first_value q 0 es v rising e in
        let within = range f.key v f.is f.passes in
        let before : f.key ≡ f.key - 1 + 1 = omega (arith, within.0) in
        at_key v f (f.key - 1) before ∙ ap (λ (m : ℕ). Some m) (sym before ∙ sym (named f.key v f.is))

-- one passes where some value does
pub any_is : {X : Type 0} (q : X → Bool) (xs : List X) → list_any q xs ≡ is_some (find q xs)
any_is q [] = refl
any_is {X} q (x ∷ xs) = by_test (q x) refl (any_is q xs)
  where
    by_test : (b : Bool) → q x ≡ b → list_any q xs ≡ is_some (find q xs) → list_any q (x ∷ xs) ≡ is_some (find q (x ∷ xs))
    by_test true t rest = rw t refl
    by_test false t rest = rw t rest

pub some_map : {X : Type 0} (f : X → ℕ) (o : Option X) → is_some (option_map f o) ≡ is_some o
some_map f None = refl
some_map f (Some v) = refl
