-- Pairs of a key and a value, that lie in two lists.
use Rattle.std.proofs.Common.{◌≡◌, ℕ, zero, suc, ◌+◌, ◌<◌, Bool, true, false, List, [], ◌∷◌, length, take, get_or, Option, Some, None, refl, ap, subst, arith}
use Rattle.std.specs.Prelude.{slice_get, remove}
use Rattle.std.specs.List.{zip, position_from}
use Rattle.std.specs.Map.{keys_of, values_of, lookup, remove_entry}

module _ {X : Type 0} where
  pub keys-zip : (ks : List ℕ) (xs : List X) → length ks ≡ length xs → keys_of (zip ks xs) ≡ ks
  keys-zip [] xs e = refl
  keys-zip (k ∷ ks) [] e = cc
  keys-zip (k ∷ ks) (x ∷ xs) e = ap (λ l. k ∷ l) (keys-zip ks xs cc)

  pub values-zip : (ks : List ℕ) (xs : List X) → length ks ≡ length xs → values_of (zip ks xs) ≡ xs
  values-zip [] [] e = refl
  values-zip [] (x ∷ xs) e = cc
  values-zip (k ∷ ks) [] e = cc
  values-zip (k ∷ ks) (x ∷ xs) e = ap (λ l. x ∷ l) (values-zip ks xs cc)

  pub length-zip : (ks : List ℕ) (xs : List X) → length ks ≡ length xs → length (zip ks xs) ≡ length ks
  length-zip [] xs e = refl
  length-zip (k ∷ ks) [] e = cc
  length-zip (k ∷ ks) (x ∷ xs) e = ap suc (length-zip ks xs cc)

  pub take-zip : (n : ℕ) (ks : List ℕ) (xs : List X) → take n (zip ks xs) ≡ zip (take n ks) (take n xs)
  take-zip zero ks xs = refl
  take-zip (suc n) [] xs = refl
  take-zip (suc n) (k ∷ ks) [] = refl
  take-zip (suc n) (k ∷ ks) (x ∷ xs) = ap (λ l. (k, x) ∷ l) (take-zip n ks xs)

  -- the value at a place
  abbrev pub second : Option (ℕ × X) → Option X
  second None = None
  second (Some e) = Some e.1

  pub second-get : (n : ℕ) (ks : List ℕ) (xs : List X) → length ks ≡ length xs → second (slice_get (zip ks xs) n) ≡ slice_get xs n
  second-get n [] [] e = refl
  second-get n [] (x ∷ xs) e = cc
  second-get n (k ∷ ks) [] e = cc
  second-get zero (k ∷ ks) (x ∷ xs) e = refl
  second-get (suc n) (k ∷ ks) (x ∷ xs) e = second-get n ks xs cc

  module _ (test : ℕ → Bool) where
    -- the first key that passes stands at n
    pub record IsFoundAt (ks : List ℕ) (xs : List X) (n : ℕ) : Type 0 where
      pub within : n < length ks
      pub value : (d : X) → lookup test (zip ks xs) ≡ Some (get_or xs n d)
      pub rest : remove_entry test (zip ks xs) ≡ zip (remove ks n) (remove xs n)

    here : (k : ℕ) (ks : List ℕ) (x : X) (xs : List X) → test k ≡ true → IsFoundAt (k ∷ ks) (x ∷ xs) 0
    here k ks x xs t = record { within = omega arith; value = λ d. rw t; rest = rw t }

    later : (k : ℕ) (ks : List ℕ) (x : X) (xs : List X) (n : ℕ) → test k ≡ false → IsFoundAt ks xs n → IsFoundAt (k ∷ ks) (x ∷ xs) (suc n)
    later k ks x xs n t f = record {
      within = let w = f.within in omega arith;
      value = λ d. rw t (f.value d);
      rest = rw t (ap (λ l. (k, x) ∷ l) f.rest);
    }

    pub found : (ks : List ℕ) (xs : List X) (from at : ℕ) → length ks ≡ length xs → position_from test from ks ≡ Some at → (n : ℕ) × (at ≡ from + n) × IsFoundAt ks xs n
    found [] xs from at e h = cc
    found (k ∷ ks) [] from at e h = cc
    found (k ∷ ks) (x ∷ xs) from at e h = (elim (test k) as (λ b. test k ≡ b → (n : ℕ) × (at ≡ from + n) × IsFoundAt (k ∷ ks) (x ∷ xs) n) [
      | true ↦ λ t. let same : from ≡ at = (let h' = rw t at h in cc) in (0, omega arith, here k ks x xs t)
      | false ↦ λ t. let on = found ks xs (from + 1) at (cc) (rw t at h) in let at_is = on.1 in (suc on.0, omega arith, later k ks x xs on.0 t on.2)
    ]) refl

    -- no key passes
    pub record IsMissed (ks : List ℕ) (xs : List X) : Type 0 where
      pub value : lookup test (zip ks xs) ≡ None
      pub rest : remove_entry test (zip ks xs) ≡ zip ks xs

    pub missed : (ks : List ℕ) (xs : List X) (from : ℕ) → position_from test from ks ≡ None → IsMissed ks xs
    missed [] xs from h = record { value = refl; rest = refl }
    missed (k ∷ ks) [] from h = record { value = refl; rest = refl }
    missed (k ∷ ks) (x ∷ xs) from h = (elim (test k) as (λ b. test k ≡ b → IsMissed (k ∷ ks) (x ∷ xs)) [
      | true ↦ λ t. let h' = rw t at h in cc
      | false ↦ λ t. let on = missed ks xs (from + 1) (rw t at h) in record { value = rw t on.value; rest = rw t (ap (λ l. (k, x) ∷ l) on.rest) }
    ]) refl

    pub found_first : (ks : List ℕ) (xs : List X) (at : ℕ) → length ks ≡ length xs → position_from test 0 ks ≡ Some at → IsFoundAt ks xs at
    found_first ks xs at e h = let f = found ks xs 0 at e h in subst (IsFoundAt ks xs) (let same : f.0 ≡ at = (let is = f.1 in omega arith) in same) f.2
