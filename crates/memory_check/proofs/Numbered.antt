-- The numbers that mappings had, with one more.
use Rattle.std.proofs.Common.{◌≡◌, ℕ, ◌+◌, ◌<◌, ◌≤◌, ◌==◌, ◌&&◌, ◌||◌, nat_lt, nat_le, Bool, true, false, refl, ap, sym, ◌∙◌, arith}
use Rattle.std.proofs.lemmas.Bool.Decides.{nat_tests}
use Rattle.memory_check.specs.Numbers.{NumberSet, is_in_run, is_apart, has, wants_no_place, with_in_run, with_apart, with_number}
use Rattle.memory_check.proofs.Lookups.{at_number, any_inserted}

or_itself : (b c : Bool) → (c ≡ true → b ≡ true) → b ≡ (b || c)
or_itself true c f = refl
or_itself false true f = f refl
or_itself false false f = refl

moved : (a b c d : Bool) → a ≡ (b || d) → (a || c) ≡ ((b || c) || d)
moved a true c d e = rw e refl
moved a false true true e = rw e refl
moved a false true false e = rw e refl
moved a false false d e = rw e (flat d)
  where
    flat : (x : Bool) → (x || false) ≡ x
    flat true = refl
    flat false = refl

same_had : (numbers : NumberSet) (n m : ℕ) → has numbers n ≡ true → has numbers m ≡ (has numbers m || (n == m))
same_had numbers n m had = or_itself (has numbers m) (n == m) (λ t. let same : n ≡ m = grind (arith, nat_tests) in ap (has numbers) (sym same) ∙ had)

begun : (low high n m : ℕ) → high < low → (nat_le n m && nat_le m n) ≡ ((nat_le low m && nat_le m high) || (n == m))
begun low high n m empty = grind (arith, nat_tests)

longer : (low high n m : ℕ) → low ≤ high → n ≡ high + 1 → (nat_le low m && nat_le m n) ≡ ((nat_le low m && nat_le m high) || (n == m))
longer low high n m some next = grind (arith, nat_tests)

in_run : (numbers : NumberSet) (n m : ℕ) → (nat_lt numbers.high numbers.low || (n == numbers.high + 1)) ≡ true → has numbers n ≡ false → has (with_in_run numbers n) m ≡ (has numbers m || (n == m))
in_run numbers n m joins new = by_test (nat_lt numbers.high numbers.low) refl joins
  where
    by_test : (b : Bool) → nat_lt numbers.high numbers.low ≡ b → (b || (n == numbers.high + 1)) ≡ true → has (with_in_run numbers n) m ≡ (has numbers m || (n == m))
    by_test true t joins =
        let empty : numbers.high < numbers.low = grind (arith, nat_tests) in
        rw (new, t) (moved (nat_le n m && nat_le m n) (is_in_run numbers m) (is_apart numbers m) (n == m) (begun numbers.low numbers.high n m empty))
    by_test false t joins =
        let some : numbers.low ≤ numbers.high = grind (arith, nat_tests) in
        let next : n ≡ numbers.high + 1 = grind (arith, nat_tests) in
        rw (new, t) (moved (nat_le numbers.low m && nat_le m n) (is_in_run numbers m) (is_apart numbers m) (n == m) (longer numbers.low numbers.high n m some next))

assoc : (a b c d : Bool) → b ≡ (c || d) → (a || b) ≡ ((a || c) || d)
assoc true b c d e = refl
assoc false b c d e = e

pub number_more : (numbers : NumberSet) (n m : ℕ) → has (with_number numbers n) m ≡ (has numbers m || (n == m))
number_more numbers n m = by_tests (has numbers n) (nat_lt numbers.high numbers.low || (n == numbers.high + 1)) refl refl
  where
    by_tests : (a b : Bool) → has numbers n ≡ a → (nat_lt numbers.high numbers.low || (n == numbers.high + 1)) ≡ b → has (with_number numbers n) m ≡ (has numbers m || (n == m))
    by_tests true b s t = rw s (same_had numbers n m s)
    by_tests false true s t =
        let joins : wants_no_place numbers n ≡ true = rw (s, t) refl in
        rw joins (in_run numbers n m t s)
    by_tests false false s t =
        let apart : wants_no_place numbers n ≡ false = rw (s, t) refl in
        let more : is_apart (with_apart numbers n) m ≡ (is_apart numbers m || (n == m)) = any_inserted n m numbers.apart ∙ ap (λ (c : Bool). is_apart numbers m || c) (at_number m n) in
        rw apart (assoc (is_in_run numbers m) (is_apart (with_apart numbers n) m) (is_apart numbers m) (n == m) more)
