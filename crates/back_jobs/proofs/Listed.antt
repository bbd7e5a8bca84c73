-- The numbers of the jobs that are done stay listed in their order, and say where the lowest of these jobs stands.
use Rattle.std.proofs.Common.{◌≡◌, ℕ, zero, suc, ◌+◌, ◌<◌, ◌≤◌, Bool, true, false, cond, List, [], ◌∷◌, ◌++◌, length, map, drop, refl, sym, ap, ◌∙◌, subst, arith}
use Rattle.std.specs.Prelude.{◌&&◌, Some, None, slice_index_or, slice_get, slice_set, not, nat_lt, ◌==◌, remove, if◌then◌else◌}
use Rattle.std.specs.List.{AllWithin, filter, insert}
use Rattle.std.specs.List.Sorted.{IsNonDecreasing, IsPartitionPoint}
use Rattle.std.proofs.lemmas.Bool.Decides.{nat_tests}
use Rattle.std.proofs.lemmas.Bool.{false≢true}
use Rattle.std.proofs.lemmas.Option.{none-some}
use Rattle.back_jobs.specs.Work.{Work}
use Rattle.back_jobs.specs.Jobs.{is_done}
use Rattle.back_jobs.specs.Sound.{AreAscending, done_place, done_numbers}
use Rattle.back_jobs.specs.Order.{IsFirstFrom, number_at, put}
use Rattle.back_jobs.proofs.Finding.{guessed, numbered, first_place}
use Rattle.back_jobs.proofs.Numbers.{Above, above_at}

-- the jobs that are done
abbrev Ended : List Work → List Work
Ended works = filter (λ (t : Work). is_done t) works

abbrev numbers_of : List Work → List ℕ
numbers_of works = map (λ (t : Work). t.number) works

below_test : (a b : ℕ) → a < b → nat_lt a b ≡ true
below_test a b h = grind (arith, nat_tests)

above_test : (a b : ℕ) → b ≤ a → nat_lt a b ≡ false
above_test a b h = grind (arith, nat_tests)

put_after_at : (b : Bool) (n m : ℕ) (ms : List ℕ) → nat_lt m n ≡ b → m < n → (if b then m ∷ put n ms else n ∷ m ∷ ms) ≡ m ∷ put n ms
put_after_at true n m ms test less = refl
put_after_at false n m ms test less = absurd (false≢true (sym test ∙ below_test m n less))

-- a number goes after a lower one
put_after : (n m : ℕ) (ms : List ℕ) → m < n → put n (m ∷ ms) ≡ m ∷ put n ms
put_after n m ms less = put_after_at (nat_lt m n) n m ms refl less

put_before_at : (b : Bool) (n m : ℕ) (ms : List ℕ) → nat_lt m n ≡ b → n ≤ m → (if b then m ∷ put n ms else n ∷ m ∷ ms) ≡ n ∷ m ∷ ms
put_before_at true n m ms test more = absurd (false≢true (sym (above_test m n more) ∙ test))
put_before_at false n m ms test more = refl

-- and before one that is no lower
put_before : (n m : ℕ) (ms : List ℕ) → n ≤ m → put n (m ∷ ms) ≡ n ∷ m ∷ ms
put_before n m ms more = put_before_at (nat_lt m n) n m ms refl more

-- it goes between the lower ones and the others
pub put_between : (ms : List ℕ) (n k : ℕ) → k ≤ length ms → AllWithin (λ m. m < n) ms 0 k → AllWithin (λ m. n ≤ m) ms k (length ms) → insert ms k n ≡ put n ms
put_between [] n zero within low high = refl
put_between [] n (suc k) within low high = absurd (omega arith)
put_between (m ∷ ms) n zero within low high = sym (put_before n m ms (high 0 m (omega arith) (omega arith)))
put_between (m ∷ ms) n (suc k) within low high =
    let later = put_between ms n k (omega arith) (λ j d from below. low (suc j) d (omega arith) (omega (arith, below))) (λ j d from below. high (suc j) d (omega (arith, from)) (omega (arith, below))) in
    ap (λ rest. m ∷ rest) later ∙ sym (put_after n m ms (low 0 m (omega arith) (omega arith)))

put_first_at : (b : Bool) (n : ℕ) (t : Work) (ended : List Work) → n < t.number → put n (numbers_of ended) ≡ n ∷ numbers_of ended → put n (numbers_of (cond b (t ∷ ended) ended)) ≡ n ∷ numbers_of (cond b (t ∷ ended) ended)
put_first_at true n t ended above rest = put_before n t.number (numbers_of ended) (omega arith)
put_first_at false n t ended above rest = rest

-- a number below those of all jobs goes first
put_first : (n : ℕ) (works : List Work) → Above n works → put n (done_numbers works) ≡ n ∷ done_numbers works
put_first n [] all = refl
put_first n (t ∷ works) all = put_first_at (is_done t) n t (Ended works) all.0 (put_first n works all.1)

-- the number of a job that is done is put, and that of another isn't
abbrev pub noted : Bool → ℕ → List ℕ → List ℕ
noted is_noted n ms = if is_noted then put n ms else ms

noted_first : (b c : Bool) (u t : Work) (ended : List Work) → c ≡ false → put u.number (numbers_of ended) ≡ u.number ∷ numbers_of ended → numbers_of (cond b (u ∷ ended) ended) ≡ noted b u.number (numbers_of (cond c (t ∷ ended) ended))
noted_first b true u t ended h first = absurd (false≢true (sym h))
noted_first true false u t ended h first = sym first
noted_first false false u t ended h first = refl

noted_later : (b c : Bool) (n : ℕ) (t : Work) (before after : List Work) → t.number < n → numbers_of after ≡ noted b n (numbers_of before) → numbers_of (cond c (t ∷ after) after) ≡ noted b n (numbers_of (cond c (t ∷ before) before))
noted_later b false n t before after less rest = rest
noted_later true true n t before after less rest = ap (λ ms. t.number ∷ ms) rest ∙ sym (put_after n t.number (numbers_of before) less)
noted_later false true n t before after less rest = ap (λ ms. t.number ∷ ms) rest

-- one that isn't done becomes what it is now, and keeps its number
pub told_listed : (works : List Work) (i : ℕ) (u d : Work) → AreAscending works → i < length works → is_done (slice_index_or works i d) ≡ false → u.number ≡ (slice_index_or works i d).number → done_numbers (slice_set works i u) ≡ noted (is_done u) u.number (done_numbers works)
told_listed [] i u d all within undone same = absurd (omega arith)
told_listed (t ∷ works) zero u d all within undone same = noted_first (is_done u) (is_done t) u t (Ended works) undone (put_first u.number works (subst (λ n. Above n works) (sym same) all.0))
told_listed (t ∷ works) (suc i) u d all within undone same =
    let below : t.number < u.number = subst (λ n. t.number < n) (sym same) (above_at t.number works i d all.0 (omega arith)) in
    noted_later (is_done u) (is_done t) u.number t (Ended works) (Ended (slice_set works i u)) below (told_listed works i u d all.1 (omega arith) undone same)

above_last : (n : ℕ) (works : List Work) (t : Work) → Above n (works ++ t ∷ []) → n < t.number
above_last n [] t all = all.0
above_last n (u ∷ works) t all = above_last n works t all.1

noted_alone : (b : Bool) (t : Work) → numbers_of (cond b (t ∷ []) []) ≡ noted b t.number []
noted_alone true t = refl
noted_alone false t = refl

-- one more job, with a number above the others
pub began_listed : (works : List Work) (t : Work) → AreAscending (works ++ t ∷ []) → done_numbers (works ++ t ∷ []) ≡ noted (is_done t) t.number (done_numbers works)
began_listed [] t all = noted_alone (is_done t) t
began_listed (u ∷ works) t all = noted_later (is_done t) (is_done u) t.number u (Ended works) (Ended (works ++ t ∷ [])) (above_last u.number works t all.0) (began_listed works t all.1)

after_one : (n : ℕ) → 1 + n ≡ suc n
after_one n = omega arith

removed_at : (b : Bool) (t : Work) (works : List Work) (n : ℕ) → b ≡ is_done t → done_numbers (remove works n) ≡ drop 1 (done_numbers works) → done_numbers (remove (t ∷ works) (cond (not b) (1 + n) 0)) ≡ drop 1 (numbers_of (cond b (t ∷ Ended works) (Ended works)))
removed_at true t works n test rest = refl
removed_at false t works n test rest = rw (after_one n, ← test) rest

-- the lowest that is done is removed
pub removed_listed : (works : List Work) → done_numbers (remove works (done_place works)) ≡ drop 1 (done_numbers works)
removed_listed [] = refl
removed_listed (t ∷ works) = removed_at (is_done t) t works (done_place works) refl (removed_listed works)

lowest_at : (b : Bool) (t : Work) (works : List Work) (n : ℕ) → (slice_get (done_numbers works) 0 ≡ Some n → number_at works (done_place works) ≡ Some n) → slice_get (numbers_of (cond b (t ∷ Ended works) (Ended works))) 0 ≡ Some n → number_at (t ∷ works) (cond (not b) (1 + done_place works) 0) ≡ Some n
lowest_at true t works n rest h = h
lowest_at false t works n rest h = rw (after_one (done_place works)) (rest h)

-- the first number listed is that of the lowest job that is done
lowest : (works : List Work) (n : ℕ) → slice_get (done_numbers works) 0 ≡ Some n → number_at works (done_place works) ≡ Some n
lowest [] n h = absurd (none-some n h)
lowest (t ∷ works) n h = lowest_at (is_done t) t works n (lowest works n) h

-- and finds that job
pub lowest_first : (works : List Work) (n place : ℕ) → AreAscending works → slice_get (done_numbers works) 0 ≡ Some n → IsFirstFrom n works place → place ≡ done_place works
lowest_first works n place all first here =
    first_place works n place (done_place works) here (guessed works n (done_place works) all (numbered works (done_place works) n (lowest works n first)))

none_at : (b : Bool) (t : Work) (ended : List Work) (n m : ℕ) → (slice_get (numbers_of ended) 0 ≡ None → n ≡ m) → slice_get (numbers_of (cond b (t ∷ ended) ended)) 0 ≡ None → suc n ≡ cond (not b) (1 + m) 0
none_at true t ended n m rest h = absurd (none-some t.number (sym h))
none_at false t ended n m rest h = omega (arith, rest h)

-- no number is listed where none is done
pub none_listed : (works : List Work) → slice_get (done_numbers works) 0 ≡ None → length works ≡ done_place works
none_listed [] h = refl
none_listed (t ∷ works) h = none_at (is_done t) t (Ended works) (length works) (done_place works) (none_listed works) h

listed_fits_at : (b : Bool) (t : Work) (ended : List Work) (n : ℕ) → length (numbers_of ended) ≤ n → length (numbers_of (cond b (t ∷ ended) ended)) ≤ suc n
listed_fits_at true t ended n rest = omega (arith, rest)
listed_fits_at false t ended n rest = omega (arith, rest)

-- no more are listed than are held
pub listed_fits : (works : List Work) → length (done_numbers works) ≤ length works
listed_fits [] = omega arith
listed_fits (t ∷ works) = listed_fits_at (is_done t) t (Ended works) (length works) (listed_fits works)

listed_fewer_at : (b : Bool) (t : Work) (ended : List Work) (n : ℕ) → length (numbers_of ended) < n → length (numbers_of (cond b (t ∷ ended) ended)) < suc n
listed_fewer_at true t ended n rest = omega (arith, rest)
listed_fewer_at false t ended n rest = omega (arith, rest)

undone_fits : (b : Bool) (t : Work) (ended : List Work) (n : ℕ) → b ≡ false → length (numbers_of ended) ≤ n → length (numbers_of (cond b (t ∷ ended) ended)) < suc n
undone_fits true t ended n h rest = absurd (false≢true (sym h))
undone_fits false t ended n h rest = omega (arith, rest)

-- and fewer where one isn't done
pub listed_fewer : (works : List Work) (i : ℕ) (d : Work) → i < length works → is_done (slice_index_or works i d) ≡ false → length (done_numbers works) < length works
listed_fewer [] i d within undone = absurd (omega arith)
listed_fewer (t ∷ works) zero d within undone = undone_fits (is_done t) t (Ended works) (length works) undone (listed_fits works)
listed_fewer (t ∷ works) (suc i) d within undone = listed_fewer_at (is_done t) t (Ended works) (length works) (listed_fewer works i d (omega arith) undone)

above_listed_at : (b : Bool) (n : ℕ) (t : Work) (ended : List Work) (j d : ℕ) → n < t.number → ((k : ℕ) → k < length (numbers_of ended) → n < slice_index_or (numbers_of ended) k d) → j < length (numbers_of (cond b (t ∷ ended) ended)) → n < slice_index_or (numbers_of (cond b (t ∷ ended) ended)) j d
above_listed_at true n t ended zero d this rest within = this
above_listed_at true n t ended (suc j) d this rest within = rest j (omega (arith, within))
above_listed_at false n t ended j d this rest within = rest j within

above_listed : (n : ℕ) (works : List Work) (j d : ℕ) → Above n works → j < length (done_numbers works) → n < slice_index_or (done_numbers works) j d
above_listed n [] j d all within = absurd (omega arith)
above_listed n (t ∷ works) j d all within = above_listed_at (is_done t) n t (Ended works) j d all.0 (λ k less. above_listed n works k d all.1 less) within

listed_rise_at : (b : Bool) (t : Work) (ended : List Work) (i j d : ℕ) → ((k : ℕ) → k < length (numbers_of ended) → t.number < slice_index_or (numbers_of ended) k d) → IsNonDecreasing (numbers_of ended) → i ≤ j → j < length (numbers_of (cond b (t ∷ ended) ended)) → slice_index_or (numbers_of (cond b (t ∷ ended) ended)) i d ≤ slice_index_or (numbers_of (cond b (t ∷ ended) ended)) j d
listed_rise_at false t ended i j d above rest less within = rest i j d less within
listed_rise_at true t ended zero zero d above rest less within = omega arith
listed_rise_at true t ended (suc i) zero d above rest less within = absurd (omega (arith, less))
listed_rise_at true t ended zero (suc j) d above rest less within = let later = above j (omega (arith, within)) in omega (arith, later)
listed_rise_at true t ended (suc i) (suc j) d above rest less within = rest i j d (omega (arith, less)) (omega (arith, within))

-- the numbers listed ascend
pub listed_rise : (works : List Work) → AreAscending works → IsNonDecreasing (done_numbers works)
listed_rise [] all i j d less within = absurd (omega arith)
listed_rise (t ∷ works) all i j d less within = listed_rise_at (is_done t) t (Ended works) i j d (λ k below. above_listed t.number works k d all.0 below) (listed_rise works all.1) less within

lower_number : (m n : ℕ) → nat_lt m n ≡ true → m < n
lower_number m n test = grind (arith, nat_tests)

upper_number : (m n : ℕ) → nat_lt m n ≡ false → n ≤ m
upper_number m n test = grind (arith, nat_tests)

-- a number that is put where a search by it ends
pub put_parted : (ms : List ℕ) (n k : ℕ) → k ≤ length ms → IsPartitionPoint (λ m. nat_lt m n ≡ true) (λ m. nat_lt m n ≡ false) ms k → insert ms k n ≡ put n ms
put_parted ms n k within parts = put_between ms n k within
    (λ j d low high. lower_number (slice_index_or ms j d) n (parts.0 j d low high))
    (λ j d low high. upper_number (slice_index_or ms j d) n (parts.1 j d low high))

-- what was listed, with what was noted, is what is listed now
pub noting : (b c : Bool) (n m : ℕ) (was listed now is : List ℕ) → b ≡ c → n ≡ m → was ≡ listed → now ≡ noted b n was → is ≡ noted c m listed → now ≡ is
noting b c n m was listed now is same number before noted_now noted_is = cc

-- numbers that still ascend did before
pub was_ascending : (was now above : Bool) → now ≡ (was && above) → now ≡ true → was ≡ true
was_ascending true now above test h = refl
was_ascending false now above test h = sym test ∙ h

-- what is kept of them serves to note one more
pub kept_rise : (works : List Work) (finished : List ℕ) → AreAscending works → finished ≡ done_numbers works → IsNonDecreasing finished
kept_rise works finished all same = subst (λ ms. IsNonDecreasing ms) (sym same) (listed_rise works all)

-- the number of the job that is removed is dropped
pub taken_listed : (works : List Work) (done : ℕ) (finished now : List ℕ) → done ≡ done_place works → finished ≡ done_numbers works → now ≡ drop 1 finished → now ≡ done_numbers (remove works done)
taken_listed works done finished now there same dropped = dropped ∙ (ap (drop 1) same ∙ (sym (removed_listed works) ∙ ap (λ place. done_numbers (remove works place)) (sym there)))

some_left : (n : ℕ) → (suc n == 0) ≡ false
some_left n = grind (arith, nat_tests)

-- no job is left
pub none_left : (works : List Work) (b : Bool) → b ≡ (length works == 0) → b ≡ true → works ≡ []
none_left [] b test h = refl
none_left (t ∷ works) b test h = absurd (false≢true (sym (some_left (length works)) ∙ (sym test ∙ h)))
