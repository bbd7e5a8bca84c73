-- Numbers that ascend go on ascending, and say where their jobs stand.
use Rattle.std.proofs.Common.{◌≡◌, ℕ, zero, suc, ◌-◌, ◌<◌, ◌≤◌, Bool, true, false, cond, List, [], ◌∷◌, ◌++◌, length, refl, sym, subst, arith}
use Rattle.std.specs.Prelude.{◌&&◌, slice_index_or, slice_get, slice_set, remove, is_some}
use Rattle.std.specs.List.{AllByRecursion}
use Rattle.std.proofs.lemmas.Bool.Decides.{nat_tests}
use Rattle.std.proofs.lemmas.Bool.{false≢true}
use Rattle.back_jobs.specs.Work.{Work}
use Rattle.back_jobs.specs.Jobs.{mapping_at, after_mapping}
use Rattle.back_jobs.specs.Sound.{AreAscending}
use Rattle.back_jobs.specs.Order.{is_above, is_above_last}

abbrev pub Above : ℕ → List Work → Type 0
Above n works = AllByRecursion (λ (u : Work). n < u.number) works

-- a number that is below those of all jobs is below each
pub above_at : (n : ℕ) (works : List Work) (j : ℕ) (d : Work) → Above n works → j < length works → n < (slice_index_or works j d).number
above_at n [] j d all within = absurd (omega arith)
above_at n (t ∷ works) zero d all within = all.0
above_at n (t ∷ works) (suc j) d all within = above_at n works j d all.1 (omega arith)

-- the numbers of two jobs stand as their places do
pub ascends : (works : List Work) (i j : ℕ) (d : Work) → AreAscending works → i < j → j < length works → (slice_index_or works i d).number < (slice_index_or works j d).number
ascends [] i j d all less within = absurd (omega arith)
ascends (t ∷ works) i zero d all less within = absurd (omega arith)
ascends (t ∷ works) zero (suc j) d all less within = above_at t.number works j d all.0 (omega arith)
ascends (t ∷ works) (suc i) (suc j) d all less within = ascends works i j d all.1 (omega arith) (omega arith)

above_later : (n m : ℕ) (works : List Work) → n < m → Above m works → Above n works
above_later n m [] less all = tt
above_later n m (t ∷ works) less all = (omega (arith, all.0), above_later n m works less all.1)

-- one more job, with a number above the last
above_push : (n : ℕ) (works : List Work) (t : Work) → Above n works → n < t.number → Above n (works ++ t ∷ [])
above_push n [] t all this = (this, tt)
above_push n (u ∷ works) t all this = (all.0, above_push n works t all.1 this)

last_below : (u : Work) (works : List Work) (n : ℕ) → AreAscending (u ∷ works) → is_above_last (slice_get (u ∷ works) (length works)) n ≡ true → u.number < n
last_below u [] n all test = grind (arith, nat_tests)
last_below u (w ∷ works) n all test = let later = last_below w works n all.1 test in omega (arith, later, all.0.0)

below_at : (u : Work) (works : List Work) (n k : ℕ) (d : Work) → AreAscending (u ∷ works) → is_above_last (slice_get (u ∷ works) (length works)) n ≡ true → k < length (u ∷ works) → (slice_index_or (u ∷ works) k d).number < n
below_at u works n zero d all test within = last_below u works n all test
below_at u [] n (suc k) d all test within = absurd (omega (arith, within))
below_at u (w ∷ works) n (suc k) d all test within = below_at w works n k d all.1 test (omega (arith, within))

push_ascending_at : (u : Work) (works : List Work) (t : Work) → AreAscending (u ∷ works) → is_above_last (slice_get (u ∷ works) (length works)) t.number ≡ true → AreAscending (u ∷ (works ++ t ∷ []))
push_ascending_at u [] t all test = ((last_below u [] t.number all test, tt), (tt, tt))
push_ascending_at u (w ∷ works) t all test = (above_push u.number (w ∷ works) t all.0 (last_below u (w ∷ works) t.number all test), push_ascending_at w works t all.1 test)

last_place : (u : Work) (works : List Work) → length (u ∷ works) - 1 ≡ length works
last_place u works = omega arith

-- all numbers are below one that is above the last
pub below_last : (works : List Work) (n k : ℕ) (d : Work) → AreAscending works → is_above works n ≡ true → k < length works → (slice_index_or works k d).number < n
below_last [] n k d all test within = absurd (omega (arith, within))
below_last (u ∷ works) n k d all test within = below_at u works n k d all (rw (last_place u works) at test) within

push_ascending : (works : List Work) (t : Work) → AreAscending works → is_above works t.number ≡ true → AreAscending (works ++ t ∷ [])
push_ascending [] t all test = (tt, tt)
push_ascending (u ∷ works) t all test = push_ascending_at u works t all (rw (last_place u works) at test)

-- one that may have been added
started_ascending : (was : Bool) (works : List Work) (t : Work) → (was ≡ true → AreAscending works) → (was && is_above works t.number) ≡ true → AreAscending (works ++ t ∷ [])
started_ascending true works t all test = push_ascending works t (all refl) test
started_ascending false works t all test = absurd (false≢true test)

pub began_ascending : (was now : Bool) (works seen : List Work) (t : Work) (number : ℕ) → (was ≡ true → AreAscending works) → seen ≡ works → t.number ≡ number → now ≡ (was && is_above seen number) → now ≡ true → AreAscending (works ++ t ∷ [])
began_ascending was now works seen t number all same numbered told test =
    let below : (was && is_above works t.number) ≡ true = cc in
    started_ascending was works t all below

-- one is removed
above_removed : (n : ℕ) (works : List Work) (i : ℕ) → Above n works → Above n (remove works i)
above_removed n [] zero all = tt
above_removed n [] (suc i) all = tt
above_removed n (t ∷ works) zero all = all.1
above_removed n (t ∷ works) (suc i) all = (all.0, above_removed n works i all.1)

pub removed_ascending : (works : List Work) (i : ℕ) → AreAscending works → AreAscending (remove works i)
removed_ascending [] zero all = tt
removed_ascending [] (suc i) all = tt
removed_ascending (t ∷ works) zero all = all.1
removed_ascending (t ∷ works) (suc i) all = (above_removed t.number works i all.0, removed_ascending works i all.1)

-- one is changed, and keeps its number
above_set : (n : ℕ) (works : List Work) (i : ℕ) (t d : Work) → t.number ≡ (slice_index_or works i d).number → Above n works → Above n (slice_set works i t)
above_set n [] i t d same all = tt
above_set n (u ∷ works) zero t d same all = (subst (λ m. n < m) (sym same) all.0, all.1)
above_set n (u ∷ works) (suc i) t d same all = (all.0, above_set n works i t d same all.1)

pub set_ascending : (works : List Work) (i : ℕ) (t d : Work) → t.number ≡ (slice_index_or works i d).number → AreAscending works → AreAscending (slice_set works i t)
set_ascending [] i t d same all = tt
set_ascending (u ∷ works) zero t d same all = (subst (λ m. Above m works) (sym same) all.0, all.1)
set_ascending (u ∷ works) (suc i) t d same all = (above_set u.number works i t d same all.0, set_ascending works i t d same all.1)

after_ascending_at : (b : Bool) (works : List Work) → AreAscending works → AreAscending (after_mapping works) → AreAscending (cond b works (after_mapping works))
after_ascending_at true works all less = all
after_ascending_at false works all less = less

-- the first ones are dropped
pub after_ascending : (works : List Work) → AreAscending works → AreAscending (after_mapping works)
after_ascending [] all = tt
after_ascending (t ∷ works) all = after_ascending_at (is_some (mapping_at t.stage)) works all.1 (after_ascending works all.1)

-- no number is above that of a later place
pub rises : (works : List Work) (i j : ℕ) (d : Work) → AreAscending works → i ≤ j → j < length works → (slice_index_or works i d).number ≤ (slice_index_or works j d).number
rises [] i j d all less within = absurd (omega arith)
rises (t ∷ works) zero zero d all less within = omega arith
rises (t ∷ works) (suc i) zero d all less within = absurd (omega arith)
rises (t ∷ works) zero (suc j) d all less within = let above = above_at t.number works j d all.0 (omega arith) in omega (arith, above)
rises (t ∷ works) (suc i) (suc j) d all less within = rises works i j d all.1 (omega arith) (omega arith)
