-- The list of the steps of a task, and its step at each place.
use Rattle.std.proofs.Common.{◌≡◌, ℕ, zero, suc, ◌+◌, ◌-◌, ◌*◌, ◌/◌, ◌%◌, ◌<◌, ◌≤◌, ◌==◌, Bool, true, false, if◌then◌else◌, List, [], ◌∷◌, ◌++◌, length, map, drop, refl, ap, ◌∙◌, length-append, arith}
use Rattle.std.specs.Prelude.{slice_get, nat_lt, nat_le, Option, Some, None}
use Rattle.std.specs.List.{flat_map, range_with_len}
use Rattle.std.proofs.Math.Seq.{drop-nil}
use Rattle.std.proofs.lemmas.List.FromFn.{length-map-range_with_len}
use Rattle.std.proofs.lemmas.Option.{slice_get_past}
use Rattle.std.proofs.lemmas.Bool.Decides.{nat_tests}
use Rattle.report_rules.specs.declared.work.Task.{Task}
use Rattle.report_rules.specs.declared.work.Task.TheVariants as tasks
use Rattle.report_rules.specs.declared.step.Step.{Step}
use Rattle.report_rules.specs.declared.step.Step.TheVariants as steps
use Rattle.report_rules.specs.Step.{words_of_sector, stored, loaded, steps_in}
use Rattle.report_rules.specs.Walk.{step_at}

-- what stands at a place of a list that is made of parts
at_map : {X : Type 0} (f : ℕ → X) (a n i : ℕ) → i < n → slice_get (map f (range_with_len a n)) i ≡ Some (f (a + i))
at_map f a zero i lt = absurd (omega arith)
at_map f a (suc n) zero lt = let same : a + 0 ≡ a = omega arith in rw same refl
at_map f a (suc n) (suc i) lt = let same : a + suc i ≡ a + 1 + i = omega arith in rw same (at_map f (a + 1) n i (omega arith))

past_map : {X : Type 0} (f : ℕ → X) (a n i : ℕ) → n ≤ i → slice_get (map f (range_with_len a n)) i ≡ None
past_map f a n i le = let long = length-map-range_with_len f a n in slice_get_past (map f (range_with_len a n)) i (omega arith)

at_left : {X : Type 0} (xs ys : List X) (i : ℕ) → i < length xs → slice_get (xs ++ ys) i ≡ slice_get xs i
at_left [] ys i lt = absurd (omega arith)
at_left (x ∷ xs) ys zero lt = refl
at_left (x ∷ xs) ys (suc i) lt = at_left xs ys i (omega arith)

at_right : {X : Type 0} (xs ys : List X) (n j : ℕ) → length xs ≡ n → slice_get (xs ++ ys) (n + j) ≡ slice_get ys j
at_right [] ys n j long = let same : n + j ≡ j = omega arith in rw same refl
at_right (x ∷ xs) ys zero j long = absurd (omega arith)
at_right (x ∷ xs) ys (suc n) j long = let same : suc n + j ≡ suc (n + j) = omega arith in rw same (at_right xs ys n j (omega arith))

-- lists of 129 steps each, one after another
record AreSectors (f : ℕ → List Step) (step : ℕ → ℕ → Step) : Type 0 where
  long : (k : ℕ) → length (f k) ≡ 129
  each : (k j : ℕ) → j < 129 → slice_get (f k) j ≡ Some (step k j)

at_sector : (f : ℕ → List Step) (step : ℕ → ℕ → Step) → AreSectors f step → (k count i j m : ℕ) → m ≡ k + i → i < count → j < 129 → slice_get (flat_map f (range_with_len k count)) (129 * i + j) ≡ Some (step m j)
at_sector f step are k zero i j m is inside low = absurd (omega arith)
at_sector f step are k (suc n) zero j m is inside low =
    let long = are.long k in
    let here : 129 * 0 + j ≡ j = omega arith in
    let same : m ≡ k = omega arith in
    rw (here, same) (at_left (f k) (flat_map f (range_with_len (k + 1) n)) j (omega arith) ∙ are.each k j low)
at_sector f step are k (suc n) (suc i) j m is inside low =
    let there : 129 * suc i + j ≡ 129 + (129 * i + j) = omega arith in
    rw there (at_right (f k) (flat_map f (range_with_len (k + 1) n)) 129 (129 * i + j) (are.long k) ∙ at_sector f step are (k + 1) n i j m (omega arith) (omega arith) low)

sectors_long : (f : ℕ → List Step) (step : ℕ → ℕ → Step) → AreSectors f step → (k count : ℕ) → length (flat_map f (range_with_len k count)) ≡ 129 * count
sectors_long f step are k zero = refl
sectors_long f step are k (suc n) =
    let both = length-append (f k) (flat_map f (range_with_len (k + 1) n)) in
    let one = are.long k in
    let rest = sectors_long f step are (k + 1) n in
    omega arith

abbrev store_at : ℕ → ℕ → ℕ → ℕ → Step
store_at sector first k j = if nat_lt j 128 then steps.Read (128 * (first + k) + j) else steps.DiskWrite (sector + k)

abbrev load_at : ℕ → ℕ → ℕ → ℕ → Step
load_at sector first k j = if j == 0 then steps.DiskRead (sector + k) else steps.Write (128 * (first + k) + (j - 1))

are_stored : (sector first : ℕ) → AreSectors (stored sector first) (store_at sector first)
are_stored sector first = record { long = long; each = λ k j low. by_test k j (nat_lt j 128) refl low }
  where
    words : (k : ℕ) → length (map (λ (w : ℕ). steps.Read w) (words_of_sector first k)) ≡ 128
    words k = length-map-range_with_len (λ (w : ℕ). steps.Read w) (128 * (first + k)) 128

    long : (k : ℕ) → length (stored sector first k) ≡ 129
    long k =
        let both = length-append (map (λ (w : ℕ). steps.Read w) (words_of_sector first k)) (steps.DiskWrite (sector + k) ∷ []) in
        let many = words k in
        omega arith

    by_test : (k j : ℕ) (b : Bool) → nat_lt j 128 ≡ b → j < 129 → slice_get (stored sector first k) j ≡ Some (if b then steps.Read (128 * (first + k) + j) else steps.DiskWrite (sector + k))
    by_test k j true e low =
        let many = words k in
        let lt : j < 128 = grind (arith, nat_tests) in
        at_left (map (λ (w : ℕ). steps.Read w) (words_of_sector first k)) (steps.DiskWrite (sector + k) ∷ []) j (omega arith) ∙ at_map (λ (w : ℕ). steps.Read w) (128 * (first + k)) 128 j lt
    by_test k j false e low =
        let last : j ≡ 128 + 0 = grind (arith, nat_tests) in
        rw last (at_right (map (λ (w : ℕ). steps.Read w) (words_of_sector first k)) (steps.DiskWrite (sector + k) ∷ []) 128 0 (words k))

are_loaded : (sector first : ℕ) → AreSectors (loaded sector first) (load_at sector first)
are_loaded sector first = record { long = long; each = each }
  where
    long : (k : ℕ) → length (loaded sector first k) ≡ 129
    long k = let many = length-map-range_with_len (λ (w : ℕ). steps.Write w) (128 * (first + k)) 128 in omega arith

    each : (k j : ℕ) → j < 129 → slice_get (loaded sector first k) j ≡ Some (load_at sector first k j)
    each k zero low = refl
    each k (suc i) low =
        let some : (suc i == 0) ≡ false = grind (arith, nat_tests) in
        let before : suc i - 1 ≡ i = omega arith in
        rw (some, before) (at_map (λ (w : ℕ). steps.Write w) (128 * (first + k)) 128 i (omega arith))

some_if : {X : Type 0} (b : Bool) (x y : X) → Some (if b then x else y) ≡ (if b then Some x else Some y)
some_if true x y = refl
some_if false x y = refl

-- the step at a place, past the map, of a segment
at_segment : (f : ℕ → List Step) (step : ℕ → ℕ → Step) → AreSectors f step → (count q : ℕ) → slice_get (flat_map f (range_with_len 0 count)) q ≡ (if nat_le count (q / 129) then None else Some (step (q / 129) (q % 129)))
at_segment f step are count q = by_test (nat_le count (q / 129)) refl
  where
    by_test : (b : Bool) → nat_le count (q / 129) ≡ b → slice_get (flat_map f (range_with_len 0 count)) q ≡ (if b then None else Some (step (q / 129) (q % 129)))
    by_test true e =
        let long = sectors_long f step are 0 count in
        let past : count ≤ q / 129 = grind (arith, nat_tests) in
        slice_get_past (flat_map f (range_with_len 0 count)) q (omega arith)
    by_test false e =
        let inside : q / 129 < count = grind (arith, nat_tests) in
        let split : q ≡ 129 * (q / 129) + q % 129 = omega arith in
        ap (λ (n : ℕ). slice_get (flat_map f (range_with_len 0 count)) n) split ∙ at_sector f step are 0 count (q / 129) (q % 129) (q / 129) (omega arith) inside (omega arith)

-- the list of a task's steps has at each place the step of that place
pub at_place : (t : Task) (place : ℕ) → slice_get (steps_in t) place ≡ step_at t place
at_place (tasks.Page gref words) zero = refl
at_place (tasks.Page gref words) (suc q) =
    let some : (suc q == 0) ≡ false = grind (arith, nat_tests) in
    let before : suc q - 1 ≡ q = omega arith in
    rw (some, before) (by_test (nat_lt words (suc q)) refl)
  where
    by_test : (b : Bool) → nat_lt words (suc q) ≡ b → slice_get (map (λ (w : ℕ). steps.Read w) (range_with_len 0 words)) q ≡ (if b then None else Some (steps.Read q))
    by_test true e = let past : words ≤ q = grind (arith, nat_tests) in past_map (λ (w : ℕ). steps.Read w) 0 words q past
    by_test false e =
        let inside : q < words = grind (arith, nat_tests) in
        let same : 0 + q ≡ q = omega arith in
        at_map (λ (w : ℕ). steps.Read w) 0 words q inside ∙ ap (λ (n : ℕ). Some (steps.Read n)) same
at_place (tasks.Store gref mode sector first count) zero = refl
at_place (tasks.Store gref mode sector first count) (suc q) =
    let some : (suc q == 0) ≡ false = grind (arith, nat_tests) in
    let before : suc q - 1 ≡ q = omega arith in
    rw (some, before) (at_segment (stored sector first) (store_at sector first) (are_stored sector first) count q
    ∙ ap (λ (o : Option Step). if nat_le count (q / 129) then None else o) (some_if (nat_lt (q % 129) 128) (steps.Read (128 * (first + q / 129) + q % 129)) (steps.DiskWrite (sector + q / 129))))
at_place (tasks.Load gref sector first count) zero = refl
at_place (tasks.Load gref sector first count) (suc q) =
    let some : (suc q == 0) ≡ false = grind (arith, nat_tests) in
    let before : suc q - 1 ≡ q = omega arith in
    rw (some, before) (at_segment (loaded sector first) (load_at sector first) (are_loaded sector first) count q
    ∙ ap (λ (o : Option Step). if nat_le count (q / 129) then None else o) (some_if (q % 129 == 0) (steps.DiskRead (sector + q / 129)) (steps.Write (128 * (first + q / 129) + (q % 129 - 1)))))
at_place tasks.Flush zero = refl
at_place tasks.Flush (suc q) = let some : (suc q == 0) ≡ false = grind (arith, nat_tests) in rw some refl
at_place (tasks.Trim sector count) zero = refl
at_place (tasks.Trim sector count) (suc q) = let some : (suc q == 0) ≡ false = grind (arith, nat_tests) in rw some refl

pub drop_at : {X : Type 0} (xs : List X) (p : ℕ) (x : X) → slice_get xs p ≡ Some x → drop p xs ≡ x ∷ drop (suc p) xs
drop_at [] p x e = absurd (cc)
drop_at (y ∷ xs) zero x e = let same : y ≡ x = cc in ap (λ z. z ∷ xs) same
drop_at (y ∷ xs) (suc p) x e = drop_at xs p x e

pub drop_past : {X : Type 0} (xs : List X) (p : ℕ) → slice_get xs p ≡ None → drop p xs ≡ []
drop_past [] p e = drop-nil p
drop_past (x ∷ xs) zero e = absurd (cc)
drop_past (x ∷ xs) (suc p) e = drop_past xs p e
