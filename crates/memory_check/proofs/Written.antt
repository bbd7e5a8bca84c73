-- The value of each word after one was written.
use Rattle.std.proofs.Common.{◌≡◌, ◌≢◌, ℕ, ◌+◌, ◌-◌, ◌*◌, ◌/◌, ◌%◌, ◌<◌, ◌≤◌, zero, suc, ◌==◌, ◌&&◌, nat_lt, Bool, true, false, cond, if◌then◌else◌, List, [], ◌∷◌, ◌++◌, length, replicate, slice_index, slice_set, refl, ap, sym, ◌∙◌, arith, length-append, get_or-set_other}
use Rattle.std.specs.Prelude.{Option, Some, unwrap_or}
use Rattle.std.specs.Map.{lookup}
use Rattle.std.specs.BTreeMap.{is_at}
use Rattle.std.proofs.lemmas.List.{length-replicate, get_or-replicate, get_or_past}
use Rattle.std.proofs.lemmas.Grind.{get_or-set_at}
use Rattle.std.proofs.lemmas.Bool.Decides.{nat_tests}
use Rattle.report_rules.specs.Value.{is_flags_of, after_write}
use Rattle.memory_check.specs.Words.{WordValues, cell_cmp, is_dense, place_of, put_at, word_in, with_word_in}
use Rattle.memory_check.specs.State.{State, word_at, with_word, flags_of, with_flags}
use Rattle.memory_check.proofs.Lookups.{lookup_inserted, exact_cells, at_cell}

zeros : (n j : ℕ) → slice_index (replicate n 0) j ≡ 0
zeros n j = by_test (nat_lt j n) refl
  where
    by_test : (b : Bool) → nat_lt j n ≡ b → slice_index (replicate n 0) j ≡ 0
    by_test true t = get_or-replicate n j 0 0 (grind (arith, nat_tests))
    by_test false t =
        let past : length (replicate n 0) ≤ j = rw length-replicate (grind (arith, nat_tests)) in
        get_or_past (replicate n 0) j 0 past

-- words of 0 after a list of words change none that is read
padded : (xs : List ℕ) (n j : ℕ) → slice_index (xs ++ replicate n 0) j ≡ slice_index xs j
padded [] n j = zeros n j
padded (x ∷ xs) n zero = refl
padded (x ∷ xs) n (suc j) = padded xs n j

put_read : (xs : List ℕ) (i j v : ℕ) → i < length xs → slice_index (slice_set xs i v) j ≡ (if i == j then v else slice_index xs j)
put_read xs i j v within = by_test (i == j) refl
  where
    by_test : (b : Bool) → (i == j) ≡ b → slice_index (slice_set xs i v) j ≡ (if b then v else slice_index xs j)
    by_test true t =
        let same : i ≡ j = grind (arith, nat_tests) in
        get_or-set_at xs i j v 0 (sym same) within
    by_test false t =
        let other : i ≢ j = grind (arith, nat_tests) in
        get_or-set_other xs i j v 0 (omega arith)

put_at_read : (xs : List ℕ) (i j v : ℕ) → slice_index (put_at xs i v) j ≡ (if i == j then v else slice_index xs j)
put_at_read xs i j v = by_test (nat_lt i (length xs)) refl
  where
    by_test : (b : Bool) → nat_lt i (length xs) ≡ b → slice_index (if b then slice_set xs i v else slice_set (xs ++ replicate (i + 1 - length xs) 0) i v) j ≡ (if i == j then v else slice_index xs j)
    by_test true t = put_read xs i j v (grind (arith, nat_tests))
    by_test false t =
        let short : length xs ≤ i = grind (arith, nat_tests) in
        let long = length-append xs (replicate (i + 1 - length xs) 0) in
        let zeros_long : length (replicate {A = ℕ} (i + 1 - length xs) 0) ≡ i + 1 - length xs = length-replicate (i + 1 - length xs) 0 in
        let within : i < length (xs ++ replicate (i + 1 - length xs) 0) = omega arith in
        put_read (xs ++ replicate (i + 1 - length xs) 0) i j v within ∙ ap (λ (n : ℕ). if i == j then v else n) (padded xs (i + 1 - length xs) j)

-- the places of two words are the same where the words are
same_place : (g x f w : ℕ) → is_dense g x ≡ true → is_dense f w ≡ true → (place_of g x == place_of f w) ≡ ((g == f) && (x == w))
same_place g x f w s t = by_tests (g == f) (x == w) refl refl (worded g x s) (worded f w t)
  where
    worded : (frame word : ℕ) → is_dense frame word ≡ true → word < 1024
    worded frame word d = grind (arith, nat_tests)

    by_tests : (a b : Bool) → (g == f) ≡ a → (x == w) ≡ b → x < 1024 → w < 1024 → (place_of g x == place_of f w) ≡ (a && b)
    by_tests true true p q low within =
        let same : place_of g x ≡ place_of f w = grind (arith, nat_tests) in
        rw same (grind (arith, nat_tests))
    by_tests true false p q low within =
        let other : x ≢ w = grind (arith, nat_tests) in
        let one : g ≡ f = grind (arith, nat_tests) in
        let apart : place_of g x ≢ place_of f w = omega arith in
        grind (arith, nat_tests)
    by_tests false b p q low within =
        let other : g ≢ f = grind (arith, nat_tests) in
        let apart : place_of g x ≢ place_of f w = omega arith in
        grind (arith, nat_tests)

-- two words of which one lies in the list are not the same
apart_cells : (g x f w : ℕ) (a b : Bool) → is_dense g x ≡ a → is_dense f w ≡ b → (a ≡ b → ⊥) → ((g == f) && (x == w)) ≡ false
apart_cells g x f w a b s t differ = by_tests (g == f) (x == w) refl refl
  where
    by_tests : (c d : Bool) → (g == f) ≡ c → (x == w) ≡ d → (c && d) ≡ false
    by_tests true true p q =
        let one : g ≡ f = grind (arith, nat_tests) in
        let other : x ≡ w = grind (arith, nat_tests) in
        let both : is_dense g x ≡ is_dense f w = rw (one, other) refl in
        absurd (differ (cc))
    by_tests true false p q = refl
    by_tests false d p q = refl

looked_up : (b : Bool) (v : ℕ) (o : Option ℕ) → unwrap_or (cond b (Some v) o) 0 ≡ (if b then v else unwrap_or o 0)
looked_up true v o = refl
looked_up false v o = refl

-- each word is as before, but for the one that was written
pub word_in_written : (words : WordValues) (g x v f w : ℕ) → word_in (with_word_in words g x v) f w ≡ (if (g == f) && (x == w) then v else word_in words f w)
word_in_written words g x v f w = by_tests (is_dense g x) (is_dense f w) refl refl
  where
    by_tests : (a b : Bool) → is_dense g x ≡ a → is_dense f w ≡ b → word_in (with_word_in words g x v) f w ≡ (if (g == f) && (x == w) then v else word_in words f w)
    by_tests true true s t =
        rw (s, t) (put_at_read words.dense (place_of g x) (place_of f w) v ∙ ap (λ (c : Bool). if c then v else slice_index words.dense (place_of f w)) (same_place g x f w s t))
    by_tests true false s t = rw (s, t, apart_cells g x f w true false s t (λ e. absurd (cc))) refl
    by_tests false true s t = rw (s, t, apart_cells g x f w false true s t (λ e. absurd (cc))) refl
    by_tests false false s t =
        rw (s, t) (ap (λ (o : Option ℕ). unwrap_or o 0) (lookup_inserted cell_cmp exact_cells (g, x) v (f, w) words.sparse)
        ∙ (looked_up (is_at (cell_cmp (f, w)) (g, x)) v (lookup (is_at (cell_cmp (f, w))) words.sparse)
        ∙ ap (λ (c : Bool). if c then v else unwrap_or (lookup (is_at (cell_cmp (f, w))) words.sparse) 0) (at_cell f w g x)))

apart_frames : (g x f w : ℕ) (a b : Bool) → nat_lt g 2 ≡ a → nat_lt f 2 ≡ b → (a ≡ b → ⊥) → ((g == f) && (x == w)) ≡ false
apart_frames g x f w a b s t differ = by_tests (g == f) refl
  where
    by_tests : (c : Bool) → (g == f) ≡ c → (c && (x == w)) ≡ false
    by_tests true p =
        let one : g ≡ f = grind (arith, nat_tests) in
        let both : nat_lt g 2 ≡ nat_lt f 2 = rw one refl in
        absurd (differ (cc))
    by_tests false p = refl

-- the same of a state
pub word_written : (state : State) (g x v f w : ℕ) → word_at (with_word state g x v) f w ≡ after_write (record { frame = f; word = w }) (word_at state f w) g x v
word_written state g x v f w = by_tests (nat_lt g 2) (nat_lt f 2) refl refl
  where
    by_tests : (a b : Bool) → nat_lt g 2 ≡ a → nat_lt f 2 ≡ b → word_at (with_word state g x v) f w ≡ after_write (record { frame = f; word = w }) (word_at state f w) g x v
    by_tests true true s t = rw (s, t) (word_in_written state.table g x v f w)
    by_tests true false s t = rw (s, t, apart_frames g x f w true false s t (λ e. absurd (cc))) refl
    by_tests false true s t = rw (s, t, apart_frames g x f w false true s t (λ e. absurd (cc))) refl
    by_tests false false s t = rw (s, t) (word_in_written state.pages g x v f w)

-- each word is as before, but for the flags of that reference's entry, which this was made of
pub flags_written : (state : State) (gref f w : ℕ) (made_of : ℕ → ℕ) → word_at (with_flags state gref (made_of (flags_of state gref))) f w ≡ (if is_flags_of (record { frame = f; word = w }) gref then made_of (word_at state f w) else word_at state f w)
flags_written state gref f w made_of =
    word_written state (gref / 512) (2 * (gref % 512)) (made_of (flags_of state gref)) f w ∙ by_tests (gref / 512 == f) (2 * (gref % 512) == w) refl refl
  where
    by_tests : (a b : Bool) → (gref / 512 == f) ≡ a → (2 * (gref % 512) == w) ≡ b → (if a && b then made_of (word_at state (gref / 512) (2 * (gref % 512))) else word_at state f w) ≡ (if a && b then made_of (word_at state f w) else word_at state f w)
    by_tests true true s t =
        let one : gref / 512 ≡ f = grind (arith, nat_tests) in
        let other : 2 * (gref % 512) ≡ w = grind (arith, nat_tests) in
        ap made_of (ap (λ (n : ℕ). word_at state n (2 * (gref % 512))) one ∙ ap (λ (n : ℕ). word_at state f n) other)
    by_tests true false s t = refl
    by_tests false b s t = refl

-- a word that is written leaves the mappings and the numbers
pub keeps_standing : (state : State) (g x v : ℕ) → (with_word state g x v).standing ≡ state.standing
keeps_standing state g x v = by_test (nat_lt g 2) refl
  where
    by_test : (b : Bool) → nat_lt g 2 ≡ b → (with_word state g x v).standing ≡ state.standing
    by_test true t = rw t refl
    by_test false t = rw t refl

pub keeps_numbers : (state : State) (g x v : ℕ) → (with_word state g x v).numbers ≡ state.numbers
keeps_numbers state g x v = by_test (nat_lt g 2) refl
  where
    by_test : (b : Bool) → nat_lt g 2 ≡ b → (with_word state g x v).numbers ≡ state.numbers
    by_test true t = rw t refl
    by_test false t = rw t refl
