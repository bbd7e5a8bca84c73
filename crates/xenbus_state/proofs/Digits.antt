-- The numbers in keys are numerals, and a number that is set is read.
use Rattle.std.proofs.Common.{◌≡◌, ℕ, ◌+◌, ◌/◌, ◌%◌, ◌^◌, ◌<◌, ◌≤◌, ◌&&◌, nat_lt, nat_le, Bool, true, false, if◌then◌else◌, List, [], ◌∷◌, ◌++◌, length, arith, refl, ◌∙◌, decimal}
use Rattle.std.specs.Prelude.{fold, Some, None}
use Rattle.std.specs.List.{list_all}
use Rattle.std.proofs.lemmas.Bool.Decides.{nat_tests}
use Rattle.std.proofs.lemmas.List.Folds.{list_all-append}
use Rattle.std.proofs.lemmas.List.Sums.{fold_push}
use Rattle.std.proofs.lemmas.Fmt.{decimal_by_steps, decimal_nonempty, length-decimal-le}
use Rattle.xenbus_state.specs.Numbers.{is_digit, number_after, number_in, number_of, long_of}
use Rattle.xenbus_state.specs.Agreement.{digit_step, decimal_value, IsNumeral}

-- digits only raise the number before them
grows : (n : ℕ) (digits : List ℕ) → n ≤ fold digit_step n digits
grows n [] = omega arith
grows n (c ∷ digits) = let later = grows (digit_step n c) digits in omega arith

record Says (limit n : ℕ) (digits : List ℕ) (m : ℕ) : Type 0 where
  all : list_all is_digit digits ≡ true
  value : fold digit_step n digits ≡ m
  within : m ≤ limit

both : (a b : Bool) → (a && b) ≡ true → (a ≡ true) × (b ≡ true)
both true true e = (refl, refl)
both true false e = absurd (cc)
both false b e = absurd (cc)

reads : (limit n : ℕ) (digits : List ℕ) (m : ℕ) → n ≤ limit → number_after limit n digits ≡ Some m → Says limit n digits m
unfolding number_after
reads limit n [] m fits e = record { all = refl; value = cc; within = let same : n ≡ m = cc in omega arith }
reads limit n (c ∷ digits) m fits e = by_test (is_digit c && nat_le (digit_step n c) limit) refl e (λ low f. reads limit (digit_step n c) digits m low f)
  where
    by_test : (good : Bool) → (is_digit c && nat_le (digit_step n c) limit) ≡ good → (if good then number_after limit (digit_step n c) digits else None) ≡ Some m → (digit_step n c ≤ limit → number_after limit (digit_step n c) digits ≡ Some m → Says limit (digit_step n c) digits m) → Says limit n (c ∷ digits) m
    by_test true t e later =
        let parts = both (is_digit c) (nat_le (digit_step n c) limit) t in
        let low : digit_step n c ≤ limit = let h = parts.1 in grind (arith, nat_tests) in
        let says = later low e in
        record { all = rw parts.0 says.all; value = says.value; within = says.within }
    by_test false t e later = absurd (cc)

is_read : (limit n : ℕ) (digits : List ℕ) (m : ℕ) → list_all is_digit digits ≡ true → fold digit_step n digits ≡ m → m ≤ limit → number_after limit n digits ≡ Some m
unfolding number_after
is_read limit n [] m all value within = cc
is_read limit n (c ∷ digits) m all value within =
    let parts = both (is_digit c) (list_all is_digit digits) all in
    let later = is_read limit (digit_step n c) digits m parts.1 value within in
    let most = grows (digit_step n c) digits in
    let low : nat_le (digit_step n c) limit ≡ true = grind (arith, nat_tests) in
    rw (parts.0, low) later

pub numeral_read : (most limit n : ℕ) (text : List ℕ) → IsNumeral most limit text n → number_in most limit text ≡ Some n
unfolding number_in
numeral_read most limit n text h =
    let some : nat_lt 0 (length text) ≡ true = let low = h.some in grind (arith, nat_tests) in
    let few : nat_le (length text) most ≡ true = let low = h.few in grind (arith, nat_tests) in
    rw (some, few) (is_read limit 0 text n h.digits h.value h.within)

pub read_numeral : (most limit n : ℕ) (text : List ℕ) → number_in most limit text ≡ Some n → IsNumeral most limit text n
unfolding number_in
read_numeral most limit n text e = by_test (nat_lt 0 (length text) && nat_le (length text) most) refl e
  where
    by_test : (sized : Bool) → (nat_lt 0 (length text) && nat_le (length text) most) ≡ sized → (if sized then number_after limit 0 text else None) ≡ Some n → IsNumeral most limit text n
    by_test true t e =
        let parts = both (nat_lt 0 (length text)) (nat_le (length text) most) t in
        let says = reads limit 0 text n (omega arith) e in
        let low = parts.0 in
        let high = parts.1 in
        record { some = grind (arith, nat_tests); few = grind (arith, nat_tests); digits = says.all; value = says.value; within = says.within }
    by_test false t e = absurd (cc)

-- what is printed is read
record Prints (n : ℕ) (digits : List ℕ) : Type 0 where
  all : list_all is_digit digits ≡ true
  value : decimal_value digits ≡ n

a_digit : (d : ℕ) → d < 10 → is_digit (48 + d) ≡ true
a_digit d low = grind (arith, nat_tests)

one_digit : (n : ℕ) → n < 10 → Prints n ((48 + n) ∷ [])
one_digit n low = record { all = rw (a_digit n low) refl; value = omega arith }

more_digits : (n : ℕ) (ds : List ℕ) → 10 ≤ n → Prints (n / 10) ds → Prints n (ds ++ (48 + n % 10) ∷ [])
more_digits n ds le h =
    let last : is_digit (48 + n % 10) ≡ true = a_digit (n % 10) (omega arith) in
    record {
      all = list_all-append is_digit ds ((48 + n % 10) ∷ []) ∙ rw (h.all, last) refl;
      value = fold_push digit_step 0 ds (48 + n % 10) ∙ rw h.value (omega arith);
    }

prints : (n : ℕ) → n < 2 ^ 64 → Prints n (decimal n)
prints n fits = decimal_by_steps Prints one_digit more_digits n fits

pub number_again : (n : ℕ) → n < 2 ^ 32 → number_of (decimal n) ≡ Some n
number_again n fits =
    let shown = prints n (omega arith) in
    numeral_read 10 4294967295 n (decimal n) (record { some = decimal_nonempty n (omega arith); few = length-decimal-le 10 n (omega arith) (omega arith) (omega arith); digits = shown.all; value = shown.value; within = omega arith })

pub long_again : (n : ℕ) → n < 2 ^ 64 → long_of (decimal n) ≡ Some n
long_again n fits =
    let shown = prints n fits in
    numeral_read 20 18446744073709551615 n (decimal n) (record { some = decimal_nonempty n fits; few = length-decimal-le 20 n (omega arith) (omega arith) fits; digits = shown.all; value = shown.value; within = omega arith })
