-- Where the first of some jobs stands, as jobs come, are told answers and go.
use Rattle.std.proofs.Common.{◌≡◌, ℕ, zero, suc, ◌+◌, ◌<◌, ◌≤◌, Bool, true, false, cond, List, [], ◌∷◌, ◌++◌, length, take, refl, sym, ap, ◌∙◌, arith}
use Rattle.std.specs.Prelude.{Some, None, ◌≢◌, position, unwrap_or, not, ◌&&◌, ◌||◌, nat_lt, ◌==◌, if◌then◌else◌, slice_get, slice_set, slice_index_or, remove}
use Rattle.std.specs.List.{position_or_len, list_any}
use Rattle.std.proofs.lemmas.Bool.{false≢true}
use Rattle.std.proofs.lemmas.Bool.Decides.{nat_tests}
use Rattle.std.proofs.lemmas.List.Folds.{position_or_len_push}
use Rattle.std.proofs.lemmas.Option.{slice_get_within, get_or_from_slice_get}
use Rattle.back_jobs.specs.Work.{Work}
use Rattle.back_jobs.specs.Jobs.{is_done, is_ordered, is_barrier, holds_barriers, holds_all}
use Rattle.back_jobs.specs.Sound.{AreFirst, ordered_place, barrier_place}
use Rattle.back_jobs.specs.Order.{done_with, without}
use Rattle.back_jobs.proofs.Kept.{Facts, facts_of}

more_at : (b e : Bool) (n m : ℕ) → cond e (n + cond b 0 1) m ≡ (if e then (if b then n else n + 1) else m)
more_at true true n m = grind (arith)
more_at false true n m = refl
more_at b false n m = refl

-- one more job is held
pub first_more : (p : Work → Bool) (works : List Work) (t : Work) → position_or_len p (works ++ t ∷ []) ≡ done_with (position_or_len p works) (length works) (p t)
first_more p works t = position_or_len_push p works t ∙ more_at (p t) (position_or_len p works == length works) (length works) (position_or_len p works)

-- one is another now that passes as it did
pub first_set : (p : Work → Bool) (works : List Work) (i : ℕ) (y d : Work) → i < length works → p y ≡ p (slice_index_or works i d) → position_or_len p (slice_set works i y) ≡ position_or_len p works
first_set p [] i y d within same = absurd (omega arith)
first_set p (t ∷ works) zero y d within same = ap (λ (b : Bool). cond (not b) (1 + position_or_len p works) 0) same
first_set p (t ∷ works) (suc i) y d within same = ap (λ (n : ℕ). cond (not (p t)) (1 + n) 0) (first_set p works i y d (omega arith) same)

later_without : (n m i : ℕ) (b : Bool) → nat_lt i n ≡ b → m ≡ without n i → 1 + m ≡ without (1 + n) (suc i)
later_without n m i true test is = grind (arith, nat_tests)
later_without n m i false test is = grind (arith, nat_tests)

removed_at : (b : Bool) (n m i : ℕ) → m ≡ without n i → cond (not b) (1 + m) 0 ≡ without (cond (not b) (1 + n) 0) (suc i)
removed_at true n m i rest = grind (arith, nat_tests)
removed_at false n m i rest = later_without n m i (nat_lt i n) refl rest

-- one that doesn't pass is removed
pub first_removed : (p : Work → Bool) (works : List Work) (i : ℕ) (d : Work) → i < length works → p (slice_index_or works i d) ≡ false → position_or_len p (remove works i) ≡ without (position_or_len p works) i
first_removed p [] i d within fails = absurd (omega arith)
first_removed p (t ∷ works) zero d within fails = rw fails (grind (arith, nat_tests))
first_removed p (t ∷ works) (suc i) d within fails = removed_at (p t) (position_or_len p works) (position_or_len p (remove works i)) i (first_removed p works i d (omega arith) fails)

further : (n m : ℕ) → nat_lt (1 + n) (suc m) ≡ nat_lt n m
further n m = by_test (nat_lt n m) refl
  where
    by_test : (b : Bool) → nat_lt n m ≡ b → nat_lt (1 + n) (suc m) ≡ b
    by_test true test = grind (arith, nat_tests)
    by_test false test = grind (arith, nat_tests)

before_at : (b : Bool) (n place : ℕ) (rest : Bool) → nat_lt n place ≡ rest → nat_lt (cond (not b) (1 + n) 0) (suc place) ≡ (b || rest)
before_at true n place rest same = grind (arith, nat_tests)
before_at false n place rest same = further n place ∙ same

-- one that passes stands before a place
pub any_before : (p : Work → Bool) (works : List Work) (place : ℕ) → place ≤ length works → nat_lt (position_or_len p works) place ≡ list_any p (take place works)
any_before p works zero within = grind (arith, nat_tests)
any_before p [] (suc place) within = absurd (omega arith)
any_before p (t ∷ works) (suc place) within = before_at (p t) (position_or_len p works) place (list_any p (take place works)) (any_before p works place (omega arith))

place_within_at : (b : Bool) (n m : ℕ) → n ≤ m → cond b (1 + n) 0 ≤ suc m
place_within_at true n m h = omega arith
place_within_at false n m h = omega arith

place_within : (p : Work → Bool) (works : List Work) → position_or_len p works ≤ length works
place_within p [] = omega arith
place_within p (t ∷ works) = place_within_at (not (p t)) (position_or_len p works) (length works) (place_within p works)

or_len : (b : Bool) (n m : ℕ) → n ≤ m → nat_lt n m ≡ b → unwrap_or (cond b (Some n) None) m ≡ n
or_len true n m within test = refl
or_len false n m within test = grind (arith, nat_tests)

-- the place that is found, or how many there are
pub found_or_len : (p : Work → Bool) (works : List Work) → unwrap_or (position p works) (length works) ≡ position_or_len p works
found_or_len p works = or_len (nat_lt (position_or_len p works) (length works)) (position_or_len p works) (length works) (place_within p works) refl

-- a job that was told an answer is as ordered as before
told_ordered : (t u : Work) → facts_of u ≡ facts_of t → is_ordered u ≡ is_ordered t
told_ordered t u is = ap (λ (f : Facts). f.1 == 1 || f.1 == 2 || f.1 == 5) is

told_barrier : (t u : Work) → facts_of u ≡ facts_of t → is_barrier u ≡ is_barrier t
told_barrier t u is = ap (λ (f : Facts). f.1 == 2) is

over_here : (b c : Bool) (n : ℕ) → c ≡ false → cond (not b) (1 + n) 0 ≢ 0 → cond (not c) (1 + n) 0 ≡ cond (not b) (1 + n) 0
over_here true c n is other = absurd (other refl)
over_here false c n is other = ap (λ (b : Bool). cond (not b) (1 + n) 0) is

over_later : (b : Bool) (n m i : ℕ) → cond (not b) (1 + n) 0 ≢ suc i → (n ≢ i → m ≡ n) → cond (not b) (1 + m) 0 ≡ cond (not b) (1 + n) 0
over_later true n m i other rest = refl
over_later false n m i other rest = ap (λ k. 1 + k) (rest (λ e. other (omega (arith, e))))

-- one that isn't the first is another now that doesn't pass
first_over : (p : Work → Bool) (works : List Work) (i : ℕ) (y : Work) → i < length works → p y ≡ false → position_or_len p works ≢ i → position_or_len p (slice_set works i y) ≡ position_or_len p works
first_over p [] i y within fails other = absurd (omega arith)
first_over p (t ∷ works) zero y within fails other = over_here (p t) (p y) (position_or_len p works) fails other
first_over p (t ∷ works) (suc i) y within fails other = over_later (p t) (position_or_len p works) (position_or_len p (slice_set works i y)) i other (first_over p works i y (omega arith) fails)

no_more : (kind done : Bool) → done ≡ true → (kind && not done) ≡ false
no_more true done over = ap not over
no_more false done over = refl

equal_test : (a b : ℕ) → a ≡ b → (a == b) ≡ true
equal_test a b same = grind (arith, nat_tests)

-- what is known of the first one once a job is done: it is looked for anew where it was that job
after_end : (p : Work → Bool) (works : List Work) (place first now : ℕ) (u : Work) → place < length works → first ≡ position_or_len p works → p u ≡ false
    → now ≡ (if first == place then position_or_len p (slice_set works place u) else first) → now ≡ position_or_len p (slice_set works place u)
after_end p works place first now u within same fails told = by_test (first == place) refl told
  where
    by_test : (b : Bool) → (first == place) ≡ b → now ≡ (if b then position_or_len p (slice_set works place u) else first) → now ≡ position_or_len p (slice_set works place u)
    by_test true test is = is
    by_test false test is = is ∙ (same ∙ sym (first_over p works place u within fails (λ e. false≢true (sym test ∙ equal_test first place (same ∙ e)))))

-- a job that is told its last answer
pub ended_first : (works : List Work) (place : ℕ) (t u : Work) (ordered barrier now_ordered now_barrier : ℕ) → AreFirst ordered barrier works → slice_get works place ≡ Some t → is_done u ≡ true
    → now_ordered ≡ (if ordered == place then ordered_place (slice_set works place u) else ordered) → now_barrier ≡ (if barrier == place then barrier_place (slice_set works place u) else barrier)
    → AreFirst now_ordered now_barrier (slice_set works place u)
ended_first works place t u ordered barrier now_ordered now_barrier first here over of_ordered of_barrier =
    let within = slice_get_within works place t here in
    record {
      ordered_is = after_end holds_barriers works place ordered now_ordered u within first.ordered_is (no_more (is_ordered u) (is_done u) over) of_ordered;
      barrier_is = after_end holds_all works place barrier now_barrier u within first.barrier_is (no_more (is_barrier u) (is_done u) over) of_barrier;
    }

-- a job that is told an answer, and isn't done yet
pub told_first : (works : List Work) (place : ℕ) (t u : Work) (ordered barrier : ℕ) → AreFirst ordered barrier works → slice_get works place ≡ Some t → is_done t ≡ false → facts_of u ≡ facts_of t → is_done u ≡ false
    → AreFirst ordered barrier (slice_set works place u)
told_first works place t u ordered barrier first here before is after =
    let within = slice_get_within works place t here in
    let at = get_or_from_slice_get works place t t here in
    let done_same : is_done u ≡ is_done t = after ∙ sym before in
    record {
      ordered_is = first.ordered_is ∙ sym (first_set holds_barriers works place u t within (rw at (both (told_ordered t u is) done_same)));
      barrier_is = first.barrier_is ∙ sym (first_set holds_all works place u t within (rw at (both (told_barrier t u is) done_same)));
    }
  where
    both : {k l d e : Bool} → k ≡ l → d ≡ e → (k && not d) ≡ (l && not e)
    both p q = cc

-- one that is done is removed
pub removed_first : (works : List Work) (place : ℕ) (d : Work) (ordered barrier now_ordered now_barrier : ℕ) → place < length works → is_done (slice_index_or works place d) ≡ true → AreFirst ordered barrier works
    → now_ordered ≡ without ordered place → now_barrier ≡ without barrier place → AreFirst now_ordered now_barrier (remove works place)
removed_first works place d ordered barrier now_ordered now_barrier within over first of_ordered of_barrier = record {
  ordered_is = of_ordered ∙ (ap (λ n. without n place) first.ordered_is ∙ sym (first_removed holds_barriers works place d within (no_more (is_ordered t) (is_done t) over)));
  barrier_is = of_barrier ∙ (ap (λ n. without n place) first.barrier_is ∙ sym (first_removed holds_all works place d within (no_more (is_barrier t) (is_done t) over)));
}
  where
    t : Work
    t = slice_index_or works place d

-- one more is held
pub began_first : (works : List Work) (t : Work) (ordered barrier now_ordered now_barrier count : ℕ) (one_ordered one_barrier : Bool) → AreFirst ordered barrier works → count ≡ length works
    → one_ordered ≡ holds_barriers t → one_barrier ≡ holds_all t → now_ordered ≡ done_with ordered count one_ordered → now_barrier ≡ done_with barrier count one_barrier → AreFirst now_ordered now_barrier (works ++ t ∷ [])
began_first works t ordered barrier now_ordered now_barrier count one_ordered one_barrier first counted is_one is_two of_ordered of_barrier = record {
  ordered_is = of_ordered ∙ (ap (λ n. done_with n count one_ordered) first.ordered_is ∙ (ap (λ n. done_with (ordered_place works) n one_ordered) counted ∙ (ap (done_with (ordered_place works) (length works)) is_one ∙ sym (first_more holds_barriers works t))));
  barrier_is = of_barrier ∙ (ap (λ n. done_with n count one_barrier) first.barrier_is ∙ (ap (λ n. done_with (barrier_place works) n one_barrier) counted ∙ (ap (done_with (barrier_place works) (length works)) is_two ∙ sym (first_more holds_all works t))));
}
