-- Requests whose numbers ascend: what a binary search finds among them, one that is put among them, and how they go on ascending.
use Rattle.std.proofs.Common.{◌≡◌, ◌≢◌, ℕ, suc, ◌+◌, ◌<◌, ◌≤◌, Bool, true, false, cond, not, List, [], ◌∷◌, ◌++◌, length, get_or, take, Result, Ok, Err, refl, sym, ap, ◌∙◌, arith}
use Rattle.std.specs.Prelude.{Option, Some, None, unwrap_or, All, insert, position, remove, nat_lt, ◌==◌}
use Rattle.std.specs.Result.{result_ok}
use Rattle.std.specs.Ordering.{nat_cmp, ordering_index}
use Rattle.std.specs.List.{position_or_len}
use Rattle.std.specs.List.Sorted.{IsSearchInRange, IsBinarySearchResult, IsNonDecreasingBy}
use Rattle.std.proofs.lemmas.Bool.{cond_both, eq-eqb, ne_eqb, lt-ltb, le-ltb}
use Rattle.std.proofs.lemmas.Bool.Decides.{nat_tests}
use Rattle.std.proofs.lemmas.Cmp.{ranked}
use Rattle.std.proofs.lemmas.List.{get_or-take, length-take}
use Rattle.std.proofs.lemmas.List.Elements.{All-head, All-tail, All-cons, All-weaker}
use Rattle.std.proofs.lemmas.List.Kept.{AllPairs-cons}
use Rattle.std.proofs.lemmas.List.Quantifiers.{all_pairs_push, all_pairs_remove}
use Rattle.std.proofs.lemmas.List.Sums.{position_or_len_is, prefix_len-le-length}
use Rattle.resume_shadow.specs.Unfinished.{IsAscending, by_number, place_of}

module _ {T : Type 0} (number : T → ℕ) where
  -- the one with the number stands there
  stands : (l : List T) (d : T) (id place : ℕ) → IsAscending number l → place < length l → number (get_or l place d) ≡ id → Some place ≡ place_of number id l
  stands l d id place up within is =
      let test : T → Bool = λ r. number r == id in
      let there : position_or_len test l ≡ place = position_or_len_is test l place d (omega arith)
      (λ k below. let less = up k place d below within in ne_eqb (number (get_or l k d)) id (λ same. omega arith))
      (λ h. eq-eqb (number (get_or l place d)) id is) in
      rw (there, lt-ltb place (length l) within) refl

  -- none has the number
  stands_nowhere : (l : List T) (d : T) (id : ℕ) → ((k : ℕ) → k < length l → number (get_or l k d) ≢ id) → None ≡ place_of number id l
  stands_nowhere l d id others =
      let test : T → Bool = λ r. number r == id in
      let there : position_or_len test l ≡ length l = position_or_len_is test l (length l) d (omega arith)
      (λ k below. ne_eqb (number (get_or l k d)) id (others k below))
      (λ h. absurd (omega arith)) in
      rw (there, le-ltb (length l) (length l) (omega arith)) refl

  -- no number is above one after it
  comparisons_rise : (l : List T) (id : ℕ) → IsAscending number l → IsNonDecreasingBy (λ (r : T). ordering_index (nat_cmp (number r) id)) l
  comparisons_rise l id up i j d le within = grind (arith, nat_tests, up i j d, λ (same : i ≡ j). ap (λ k. number (get_or l k d)) same)

  -- a binary search by number ends where the one with the number stands, or finds that none has it
  pub searched : (l : List T) (id : ℕ) → IsAscending number l → (r : Result ℕ ℕ) → IsSearchInRange r (length l) → IsBinarySearchResult (λ (e : T). nat_cmp (number e) id) l r → result_ok r ≡ place_of number id l
  searched [] id up (Ok at) within equal = absurd (omega arith)
  searched [] id up (Err at) within parted = refl
  searched (e ∷ l) id up (Ok at) within equal = stands (e ∷ l) e id at up within (ranked _ id _ (sym (equal e)))
  searched (e ∷ l) id up (Err at) within parted =
      let parts = parted (comparisons_rise (e ∷ l) id up) in
      let below : (k : ℕ) → k < at → number (get_or (e ∷ l) k e) < id = λ k lt. ranked _ id _ (sym (parts.0 k e (omega arith) lt)) in
      let above : (k : ℕ) → at ≤ k → k < length (e ∷ l) → id < number (get_or (e ∷ l) k e) = λ k le lt. ranked _ id _ (sym (parts.1 k e le lt)) in
      stands_nowhere (e ∷ l) e id (λ k lt same. grind (arith, below k, above k))

  -- the first ones ascend too
  pub first_ascending : (l : List T) (n : ℕ) → IsAscending number l → IsAscending number (take n l)
  first_ascending l n up i j d lt within =
      let short = length-take n l in
      let i_is = get_or-take n l i d (omega arith) in
      let j_is = get_or-take n l j d (omega arith) in
      rw (i_is, j_is) (up i j d lt (omega arith))

  -- one with a number above all of them comes after them
  pub push_ascending : (l : List T) (r : T) → IsAscending number l → All (λ s. number s < number r) l → IsAscending number (l ++ r ∷ [])
  push_ascending l r up above = all_pairs_push (λ (s t : T). number s < number t) l r up above

  -- one is removed
  pub remove_ascending : (l : List T) (place : ℕ) → place < length l → IsAscending number l → IsAscending number (remove l place)
  remove_ascending l place within up = all_pairs_remove (λ (s t : T). number s < number t) l place within up

  -- where the first with a number above its own stands, or after all
  abbrev belongs : T → List T → ℕ
  belongs r l = position_or_len (λ s. nat_lt (number r) (number s)) l

  later : (n : ℕ) → 1 + n ≡ suc n
  later n = omega arith

  inserted_at : (b : Bool) (r s : T) (rest : List T) → insert rest (belongs r rest) r ≡ by_number number r rest →
      insert (s ∷ rest) (cond (not b) (1 + belongs r rest) 0) r ≡ cond b (r ∷ s ∷ rest) (s ∷ by_number number r rest)
  inserted_at true r s rest h = refl
  inserted_at false r s rest h = ap (λ k. insert (s ∷ rest) k r) (later (belongs r rest)) ∙ ap (λ l. s ∷ l) h

  inserted : (r : T) (l : List T) → insert l (belongs r l) r ≡ by_number number r l
  inserted r [] = refl
  inserted r (s ∷ rest) = inserted_at (nat_lt (number r) (number s)) r s rest (inserted r rest)

  -- the place that is found is where it belongs
  at_place : (b : Bool) (place n : ℕ) (found : Option ℕ) → nat_lt place n ≡ b → place ≤ n → found ≡ cond b (Some place) None → unwrap_or found n ≡ place
  at_place true place n found less le is = ap (λ (o : Option ℕ). unwrap_or o n) is
  at_place false place n found more le is = ap (λ (o : Option ℕ). unwrap_or o n) is ∙ grind (arith, nat_tests, more, le)

  pub placed : (r : T) (l : List T) (found : Option ℕ) → found ≡ position (λ s. nat_lt (number r) (number s)) l → insert l (unwrap_or found (length l)) r ≡ by_number number r l
  placed r l found is =
      let within : belongs r l ≤ length l = prefix_len-le-length (λ s. not (nat_lt (number r) (number s))) l in
      ap (λ place. insert l place r) (at_place (nat_lt (belongs r l) (length l)) (belongs r l) (length l) found refl within is) ∙ inserted r l

  -- what holds of it and of each of them holds of all
  pub all_by_number : (P : T → Type 0) (r : T) (l : List T) → P r → All P l → All P (by_number number r l)
  all_by_number P r [] h all = All-cons P r [] h all
  all_by_number P r (s ∷ rest) h all =
      cond_both (nat_lt (number r) (number s)) (r ∷ s ∷ rest) (s ∷ by_number number r rest) (All P)
      (λ _. All-cons P r (s ∷ rest) h all)
      (λ _. All-cons P s (by_number number r rest) (All-head P s rest all) (all_by_number P r rest h (All-tail P s rest all)))

  pub one_more : (r : T) (l : List T) → length (by_number number r l) ≡ suc (length l)
  one_more r [] = refl
  one_more r (s ∷ rest) = cond_both (nat_lt (number r) (number s)) (r ∷ s ∷ rest) (s ∷ by_number number r rest) (λ l. length l ≡ suc (suc (length rest))) (λ _. refl) (λ _. ap suc (one_more r rest))

  tail_ascending : (s : T) (rest : List T) → IsAscending number (s ∷ rest) → IsAscending number rest
  tail_ascending s rest up i j d lt within = up (suc i) (suc j) d (omega arith) (omega arith)

  head_ascending : (s : T) (rest : List T) → IsAscending number (s ∷ rest) → All (λ t. number s < number t) rest
  head_ascending s rest up k d within = up 0 (suc k) d (omega arith) (omega arith)

  -- numbers that ascend go on ascending, where none of them is its own
  pub ascending_by_number : (r : T) (l : List T) → IsAscending number l → All (λ s. number s ≢ number r) l → IsAscending number (by_number number r l)
  ascending_by_number r [] up other = λ i j d lt within. absurd (omega arith)
  ascending_by_number r (s ∷ rest) up other =
      let above : T → T → Type 0 = λ a b. number a < number b in
      let first : number s ≢ number r = All-head (λ t. number t ≢ number r) s rest other in
      cond_both (nat_lt (number r) (number s)) (r ∷ s ∷ rest) (s ∷ by_number number r rest) (IsAscending number)
      (λ less. let lower : number r < number s = grind (arith, nat_tests, less) in
      AllPairs-cons above r (s ∷ rest)
      (All-cons (above r) s rest lower (All-weaker (above s) (above r) (λ t h. omega arith) rest (head_ascending s rest up))) up)
      (λ more. let higher : number s < number r = grind (arith, nat_tests, more, first) in
      AllPairs-cons above s (by_number number r rest)
      (all_by_number (above s) r rest higher (head_ascending s rest up))
      (ascending_by_number r rest (tail_ascending s rest up) (All-tail (λ t. number t ≢ number r) s rest other)))
