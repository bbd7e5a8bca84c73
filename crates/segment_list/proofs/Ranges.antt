-- Numbers one after another.
use Rattle.std.proofs.Common.{◌≡◌, ℕ, zero, suc, ◌+◌, ◌<◌, ◌∷◌, ◌++◌, map, refl, ap, ◌∙◌, arith}
use Rattle.std.specs.List.{range_with_len}

pub range_with_len-add : (a n m : ℕ) → range_with_len a (n + m) ≡ range_with_len a n ++ range_with_len (a + n) m
range_with_len-add a zero m =
    let start : a ≡ a + 0 = omega arith in
    let many : 0 + m ≡ m = omega arith in
    rw many (ap (λ b. range_with_len b m) start)
range_with_len-add a (suc n) m =
    let many : suc n + m ≡ suc (n + m) = omega arith in
    let start : a + 1 + n ≡ a + suc n = omega arith in
    rw many (ap (λ l. a ∷ l) (range_with_len-add (a + 1) n m ∙ ap (λ b. range_with_len (a + 1) n ++ range_with_len b m) start))

-- two functions that agree along two runs of numbers
pub map-ranges : {X : Type 0} (f g : ℕ → X) (a b n : ℕ) → ((i : ℕ) → i < n → f (a + i) ≡ g (b + i)) → map f (range_with_len a n) ≡ map g (range_with_len b n)
map-ranges f g a b zero agree = refl
map-ranges f g a b (suc n) agree =
    let a_is : a + 0 ≡ a = omega arith in
    let b_is : b + 0 ≡ b = omega arith in
    let here : f a ≡ g b = rw (a_is, b_is) at (agree 0 (omega arith)) in
    let there = map-ranges f g (a + 1) (b + 1) n (λ i lt.
    let a_on : a + suc i ≡ a + 1 + i = omega arith in
    let b_on : b + suc i ≡ b + 1 + i = omega arith in
    rw (a_on, b_on) at (agree (suc i) (omega arith))) in
    ap (λ x. x ∷ map f (range_with_len (a + 1) n)) here ∙ ap (λ l. g b ∷ l) there
