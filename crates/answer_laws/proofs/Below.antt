-- How many numbers below a bound pass a test.
use Rattle.std.proofs.Common.{◌≡◌, ◌≢◌, ℕ, zero, suc, ◌+◌, ◌<◌, ◌≤◌, ◌==◌, Bool, true, false, cond, refl, ap, ◌∙◌, arith}
use Rattle.std.proofs.lemmas.Bool.Decides.{nat_tests}

abbrev pub count_below : ℕ → (ℕ → Bool) → ℕ
count_below zero p = 0
count_below (suc n) p = count_below n p + cond (p n) 1 0

one_most : (b : Bool) → cond b 1 0 ≤ 1
one_most true = omega arith
one_most false = omega arith

most : (n : ℕ) (p : ℕ → Bool) → count_below n p ≤ n
most zero p = omega arith
most (suc n) p =
    let rest = most n p in
    let one = one_most (p n) in
    omega arith

pub below_none : (n : ℕ) (p : ℕ → Bool) → ((k : ℕ) → p k ≡ false) → count_below n p ≡ 0
below_none zero p none = refl
below_none (suc n) p none =
    let rest = below_none n p none in
    let one : ◌≡◌ {A = ℕ} (cond (p n) 1 0) 0 = ap (λ (b : Bool). cond b 1 0) (none n) in
    omega arith

pub below_same : (n : ℕ) (p q : ℕ → Bool) → ((k : ℕ) → q k ≡ p k) → count_below n q ≡ count_below n p
below_same zero p q same = refl
below_same (suc n) p q same =
    let rest = below_same n p q same in
    let one : ◌≡◌ {A = ℕ} (cond (q n) 1 0) (cond (p n) 1 0) = ap (λ (b : Bool). cond b 1 0) (same n) in
    omega arith

-- a number that fails the test
pub below_short : (n : ℕ) (p : ℕ → Bool) (k : ℕ) → k < n → p k ≡ false → count_below n p < n
below_short zero p k lt fails = absurd (omega arith)
below_short (suc n) p k lt fails = by_last (n == k) refl (λ less. below_short n p k less fails)
  where
    by_last : (b : Bool) → (n == k) ≡ b → (k < n → count_below n p < n) → count_below n p + cond (p n) 1 0 < suc n
    by_last true t further =
        let same : n ≡ k = grind (arith, nat_tests) in
        let one : ◌≡◌ {A = ℕ} (cond (p n) 1 0) 0 = ap (λ (b : Bool). cond b 1 0) (ap p same ∙ fails) in
        let rest = most n p in
        omega arith
    by_last false t further =
        let apart : n ≢ k = grind (arith, nat_tests) in
        let rest = further (omega arith) in
        let one = one_most (p n) in
        omega arith

below_kept : (n : ℕ) (p q : ℕ → Bool) (k : ℕ) → n ≤ k → ((j : ℕ) → j ≢ k → q j ≡ p j) → count_below n q ≡ count_below n p
below_kept zero p q k le others = refl
below_kept (suc n) p q k le others =
    let rest = below_kept n p q k (omega arith) others in
    let one : ◌≡◌ {A = ℕ} (cond (q n) 1 0) (cond (p n) 1 0) = ap (λ (b : Bool). cond b 1 0) (others n (omega arith)) in
    omega arith

-- one number more passes it
pub below_one : (n : ℕ) (p q : ℕ → Bool) (k : ℕ) → k < n → p k ≡ false → q k ≡ true → ((j : ℕ) → j ≢ k → q j ≡ p j) → count_below n q ≡ count_below n p + 1
below_one zero p q k lt fails passes others = absurd (omega arith)
below_one (suc n) p q k lt fails passes others = by_last (n == k) refl (λ less. below_one n p q k less fails passes others)
  where
    by_last : (b : Bool) → (n == k) ≡ b → (k < n → count_below n q ≡ count_below n p + 1) → count_below n q + cond (q n) 1 0 ≡ count_below n p + cond (p n) 1 0 + 1
    by_last true t further =
        let same : n ≡ k = grind (arith, nat_tests) in
        let old : ◌≡◌ {A = ℕ} (cond (p n) 1 0) 0 = ap (λ (b : Bool). cond b 1 0) (ap p same ∙ fails) in
        let new : ◌≡◌ {A = ℕ} (cond (q n) 1 0) 1 = ap (λ (b : Bool). cond b 1 0) (ap q same ∙ passes) in
        let rest = below_kept n p q k (omega arith) others in
        omega arith
    by_last false t further =
        let apart : n ≢ k = grind (arith, nat_tests) in
        let rest = further (omega arith) in
        let one : ◌≡◌ {A = ℕ} (cond (q n) 1 0) (cond (p n) 1 0) = ap (λ (b : Bool). cond b 1 0) (others n apart) in
        omega arith
