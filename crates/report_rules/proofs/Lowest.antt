-- The lowest number that passes a test.
use Rattle.std.proofs.Common.{◌≡◌, ℕ, zero, suc, ◌+◌, ◌≤◌, Bool, true, false, if◌then◌else◌, refl, ap, sym, ◌∙◌, subst, arith}
use Rattle.std.specs.Prelude.{nat_le, Option, Some, None, is_some}
use Rattle.std.proofs.lemmas.Bool.Decides.{nat_tests}
use Rattle.report_rules.specs.Stretch.{when}
use Rattle.report_rules.specs.Reply.{lowest}

-- one number further, where none passed and where one did
fresh : (p : ℕ → Bool) (n : ℕ) (b : Bool) → lowest p n ≡ None → p (suc n) ≡ b → lowest p (suc n) ≡ when b (suc n)
fresh p n b none e = ap (λ (o : Option ℕ). if is_some o then o else when (p (suc n)) (suc n)) none ∙ ap (λ (c : Bool). when c (suc n)) e

stays : (p : ℕ → Bool) (n k : ℕ) → lowest p n ≡ Some k → lowest p (suc n) ≡ Some k
stays p n k e = ap (λ (o : Option ℕ). if is_some o then o else when (p (suc n)) (suc n)) e

pub lowest_found : (p : ℕ → Bool) (i n : ℕ) → lowest p i ≡ None → p (i + 1) ≡ true → i + 1 ≤ n → lowest p n ≡ Some (i + 1)
lowest_found p i zero none e within = absurd (omega arith)
lowest_found p i (suc n) none e within = by_test (nat_le (i + 1) n) refl (λ le. lowest_found p i n none e le)
  where
    next : i + 1 ≡ suc i
    next = omega arith

    by_test : (b : Bool) → nat_le (i + 1) n ≡ b → (i + 1 ≤ n → lowest p n ≡ Some (i + 1)) → lowest p (suc n) ≡ Some (i + 1)
    by_test true t before = stays p n (i + 1) (before (grind (arith, nat_tests)))
    by_test false t before =
        let same : n ≡ i = grind (arith, nat_tests) in
        ap (λ (m : ℕ). lowest p (suc m)) same ∙ (fresh p i true none (ap p (sym next) ∙ e) ∙ ap (λ (m : ℕ). Some m) (sym next))

-- what is found passes
pub record IsFound (p : ℕ → Bool) (n k : ℕ) : Type 0 where
  pub passes : p k ≡ true
  pub first : 1 ≤ k
  pub last : k ≤ n

pub lowest_passes : (p : ℕ → Bool) (n k : ℕ) → lowest p n ≡ Some k → IsFound p n k
lowest_passes p zero k e = absurd (cc)
lowest_passes p (suc n) k e = by_before (lowest p n) (p (suc n)) refl refl (λ f. lowest_passes p n k f)
  where
    same : (a b : ℕ) → Some a ≡ Some b → a ≡ b
    same a b h = cc

    by_before : (o : Option ℕ) (b : Bool) → lowest p n ≡ o → p (suc n) ≡ b → (lowest p n ≡ Some k → IsFound p n k) → IsFound p (suc n) k
    by_before (Some j) b o_is b_is before =
        let is : j ≡ k = same j k (sym (stays p n j o_is) ∙ e) in
        let f : IsFound p n k = before (o_is ∙ ap (λ (m : ℕ). Some m) is) in
        let last = f.last in
        record { passes = f.passes; first = f.first; last = omega arith }
    by_before None true o_is b_is before =
        let is : suc n ≡ k = same (suc n) k (sym (fresh p n true o_is b_is) ∙ e) in
        record { passes = subst (λ (m : ℕ). p m ≡ true) is b_is; first = omega arith; last = omega arith }
    by_before None false o_is b_is before =
        let none : lowest p (suc n) ≡ None = fresh p n false o_is b_is in
        absurd (cc)

-- where one passes, one is found
pub lowest_some : (p : ℕ → Bool) (n k : ℕ) → p k ≡ true → 1 ≤ k → k ≤ n → is_some (lowest p n) ≡ true
lowest_some p zero k passes first last = absurd (omega arith)
lowest_some p (suc n) k passes first last = by_before (lowest p n) (p (suc n)) refl refl (λ le. lowest_some p n k passes first le)
  where
    by_before : (o : Option ℕ) (b : Bool) → lowest p n ≡ o → p (suc n) ≡ b → (k ≤ n → is_some (lowest p n) ≡ true) → is_some (lowest p (suc n)) ≡ true
    by_before (Some j) b o_is b_is before = ap (λ (o : Option ℕ). is_some o) (stays p n j o_is)
    by_before None true o_is b_is before = ap (λ (o : Option ℕ). is_some o) (fresh p n true o_is b_is)
    by_before None false o_is b_is before = by_test (nat_le k n) refl before
      where
        by_test : (t : Bool) → nat_le k n ≡ t → (k ≤ n → is_some (lowest p n) ≡ true) → is_some (lowest p (suc n)) ≡ true
        by_test true t up = let some : is_some (lowest p n) ≡ true = up (grind (arith, nat_tests)) in let none : is_some (lowest p n) ≡ false = ap (λ (o : Option ℕ). is_some o) o_is in absurd (cc)
        by_test false t up =
            let same : k ≡ suc n = grind (arith, nat_tests) in
            let here : p (suc n) ≡ true = subst (λ (m : ℕ). p m ≡ true) same passes in
            absurd (cc)
