-- Where jobs stand whose numbers ascend.
use Rattle.std.proofs.Common.{◌≡◌, ℕ, zero, suc, ◌+◌, ◌<◌, ◌≤◌, ◌⊎◌, inl, inr, Bool, true, false, List, [], ◌∷◌, length, refl, sym, ap, ◌∙◌, subst, arith}
use Rattle.std.specs.Prelude.{Some, None, slice_index_or, slice_get, nat_lt, nat_le, ◌==◌}
use Rattle.std.specs.Option.{option_map}
use Rattle.std.specs.List.{position_or_len}
use Rattle.std.specs.List.Sorted.{IsPartitionedBy, IsPartitionPoint}
use Rattle.std.proofs.lemmas.Bool.Decides.{nat_tests}
use Rattle.std.proofs.lemmas.Option.{none-some, same_Some}
use Rattle.std.proofs.lemmas.List.Folds.{find_at}
use Rattle.std.proofs.lemmas.List.Sums.{position_or_len_is}
use Rattle.blk_base.specs.declared.operation.Status.TheVariants.{Error}
use Rattle.back_jobs.specs.declared.stage.JobStage.TheVariants as stage
use Rattle.back_jobs.specs.Work.{Work}
use Rattle.back_jobs.specs.Jobs.{place_of, next_in}
use Rattle.back_jobs.specs.Sound.{AreAscending}
use Rattle.back_jobs.specs.Order.{IsFirstFrom, IsNumberAt, number_at, is_above}
use Rattle.back_jobs.proofs.Done.{passes, none_passes}
use Rattle.back_jobs.proofs.Numbers.{ascends, rises, below_last}

-- some job
blank : Work
blank = record { number = 0; id = 0; op = 0; writes = false; size = 0; disk = 0; moved = 0; rest = []; pages = []; named = 0; within = 0; words = []; stage = stage.Done Error }

lower_test : (a b n : ℕ) → a ≤ b → nat_lt b n ≡ true → nat_lt a n ≡ true
lower_test a b n h test = grind (arith, nat_tests)

lower_fact : (a n : ℕ) → nat_lt a n ≡ true → a < n
lower_fact a n test = grind (arith, nat_tests)

upper_fact : (a n : ℕ) → nat_lt a n ≡ false → n ≤ a
upper_fact a n test = grind (arith, nat_tests)

same_test : (a n : ℕ) → a ≡ n → (a == n) ≡ true
same_test a n h = grind (arith, nat_tests)

low_test : (a n : ℕ) → a < n → (a == n) ≡ false
low_test a n h = grind (arith, nat_tests)

next_test : (n a : ℕ) → n + 1 ≤ a → nat_lt n a ≡ true
next_test n a h = grind (arith, nat_tests)

before_test : (n a : ℕ) → a < n + 1 → nat_lt n a ≡ false
before_test n a h = grind (arith, nat_tests)

-- jobs with numbers below this one come first
pub lower : (works : List Work) (n : ℕ) → AreAscending works → IsPartitionedBy (λ (t : Work). nat_lt t.number n) works
lower works n all i j d less within test = lower_test (slice_index_or works i d).number (slice_index_or works j d).number n (rises works i j d all less within) test

pub parted : (works : List Work) (n place : ℕ) → place ≤ length works → IsPartitionPoint (λ (t : Work). nat_lt t.number n ≡ true) (λ (t : Work). nat_lt t.number n ≡ false) works place → IsFirstFrom n works place
parted works n place within parts = (
  within,
  λ k d low high. lower_fact (slice_index_or works k d).number n (parts.0 k d low high),
  λ k d low high. upper_fact (slice_index_or works k d).number n (parts.1 k d low high),
)

not_above_test : (a b n : ℕ) → a ≤ b → nat_le b n ≡ true → nat_le a n ≡ true
not_above_test a b n h test = grind (arith, nat_tests)

not_above_fact : (a n : ℕ) → nat_le a n ≡ true → a < n + 1
not_above_fact a n test = grind (arith, nat_tests)

above_fact : (a n : ℕ) → nat_le a n ≡ false → n + 1 ≤ a
above_fact a n test = grind (arith, nat_tests)

-- so do those with numbers that aren't above it
pub not_above : (works : List Work) (n : ℕ) → AreAscending works → IsPartitionedBy (λ (t : Work). nat_le t.number n) works
not_above works n all i j d less within test = not_above_test (slice_index_or works i d).number (slice_index_or works j d).number n (rises works i j d all less within) test

pub parted_above : (works : List Work) (n place : ℕ) → place ≤ length works → IsPartitionPoint (λ (t : Work). nat_le t.number n ≡ true) (λ (t : Work). nat_le t.number n ≡ false) works place → IsFirstFrom (n + 1) works place
parted_above works n place within parts = (
  within,
  λ k d low high. not_above_fact (slice_index_or works k d).number n (parts.0 k d low high),
  λ k d low high. above_fact (slice_index_or works k d).number n (parts.1 k d low high),
)

at_place : (a b n : ℕ) → a < b → b ≡ n → a < n
at_place a b n h same = omega (arith, same)

from_place : (a b n : ℕ) → a ≤ b → a ≡ n → n ≤ b
from_place a b n h same = omega (arith, same)

-- the place of the job of that very number
pub guessed : (works : List Work) (n place : ℕ) → AreAscending works → IsNumberAt n works place → IsFirstFrom n works place
guessed works n place all here = (
  omega (arith, here.0),
  λ k d low high. at_place (slice_index_or works k d).number (slice_index_or works place d).number n (ascends works k place d all high here.0) (here.1 d),
  λ k d low high. from_place (slice_index_or works place d).number (slice_index_or works k d).number n (rises works place k d all low high) (here.1 d),
)

until_place : (a b n : ℕ) → a ≤ b → b ≡ n → a < n + 1
until_place a b n h same = omega (arith, same)

after_place : (a b n : ℕ) → a < b → a ≡ n → n + 1 ≤ b
after_place a b n h same = omega (arith, same)

-- the next place is that of the first number above
pub guessed_above : (works : List Work) (n place : ℕ) → AreAscending works → IsNumberAt n works place → IsFirstFrom (n + 1) works (place + 1)
guessed_above works n place all here = (
  omega (arith, here.0),
  λ k d low high. until_place (slice_index_or works k d).number (slice_index_or works place d).number n (rises works k place d all (omega (arith, high)) here.0) (here.1 d),
  λ k d low high. after_place (slice_index_or works place d).number (slice_index_or works k d).number n (ascends works place k d all (omega (arith, low)) high) (here.1 d),
)

-- the number that was found at a place
pub numbered : (works : List Work) (place m : ℕ) → number_at works place ≡ Some m → IsNumberAt m works place
numbered [] place m h = absurd (none-some m h)
numbered (t ∷ works) zero m h = (omega arith, λ d. same_Some t.number m h)
numbered (t ∷ works) (suc place) m h = let later = numbered works place m h in (omega (arith, later.0), later.1)

-- no number is from this one on
pub ends : (works : List Work) (n : ℕ) → AreAscending works → is_above works n ≡ true → IsFirstFrom n works (length works)
ends works n all test = (
  omega arith,
  λ k d low high. below_last works n k d all test high,
  λ k d low high. absurd (omega (arith, low, high)),
)

-- the first job has the number
pub placed_first : (works : List Work) (n : ℕ) → number_at works 0 ≡ Some n → place_of works n ≡ Some 0
placed_first [] n h = absurd (none-some n h)
placed_first (t ∷ works) n h =
    let eq : Work → Bool = λ u. u.number == n in
    passes eq (t ∷ works) 0 (sym (position_or_len_is eq (t ∷ works) 0 blank (omega arith)
    (λ k below. absurd (omega (arith, below)))
    (λ within. same_test t.number n (same_Some t.number n h)))) (omega arith)

past_end : (works : List Work) (place : ℕ) → number_at works place ≡ None → length works ≤ place
past_end [] place h = omega arith
past_end (t ∷ works) zero h = absurd (none-some t.number (sym h))
past_end (t ∷ works) (suc place) h = let later = past_end works place h in omega (arith, later)

-- the job of the number stands there
pub placed : (works : List Work) (n place : ℕ) → IsFirstFrom n works place → IsNumberAt n works place → place_of works n ≡ Some place
placed works n place first here =
    let eq : Work → Bool = λ u. u.number == n in
    passes eq works place (sym (position_or_len_is eq works place blank first.0
    (λ k below. low_test (slice_index_or works k blank).number n (first.1 k blank (omega arith) below))
    (λ h. same_test (slice_index_or works place blank).number n (here.1 blank)))) here.0

other_test : (a n : ℕ) → (a ≡ n → ⊥) → (a == n) ≡ false
other_test a n h = grind (arith, nat_tests)

-- no job has the number
unplaced : (works : List Work) (n : ℕ) → ((k : ℕ) → k < length works → (slice_index_or works k blank).number ≡ n → ⊥) → place_of works n ≡ None
unplaced works n others =
    let eq : Work → Bool = λ u. u.number == n in
    none_passes eq works (length works) (sym (position_or_len_is eq works (length works) blank (omega arith)
    (λ k below. other_test (slice_index_or works k blank).number n (others k below))
    (λ h. absurd (omega (arith, h))))) (omega arith)

lower_differs : (a n : ℕ) → a < n → a ≡ n → ⊥
lower_differs a n h same = omega (arith, same)

-- all are below it
pub placed_nowhere : (works : List Work) (n place : ℕ) → IsFirstFrom n works place → number_at works place ≡ None → place_of works n ≡ None
placed_nowhere works n place first none =
    let past = past_end works place none in
    unplaced works n (λ k below. lower_differs (slice_index_or works k blank).number n (first.1 k blank (omega arith) (omega (arith, past, below))))

-- one of the two is below the other
either_side : (k place : ℕ) (b : Bool) → nat_lt k place ≡ b → (k < place) ⊎ (place ≤ k)
either_side k place true h = inl (grind (arith, nat_tests))
either_side k place false h = inr (grind (arith, nat_tests))

apart : (a n : ℕ) → a < n → n ≤ a → ⊥
apart a n less more = omega (arith, less, more)

not_after : (works : List Work) (n p q : ℕ) → IsFirstFrom n works p → IsFirstFrom n works q → p ≤ q
not_after works n p q here there = elim (either_side q p (nat_lt q p) refl) as (λ x. p ≤ q) [
  | inl before ↦ absurd (apart (slice_index_or works q blank).number n (here.1 q blank (omega arith) before) (there.2 q blank (omega arith) (omega (arith, before, here.0))))
  | inr after ↦ after
]

-- only one place is that of the first number from this one on
pub first_place : (works : List Work) (n p q : ℕ) → IsFirstFrom n works p → IsFirstFrom n works q → p ≡ q
first_place works n p q here there =
    let up = not_after works n p q here there in
    let down = not_after works n q p there here in
    omega (arith, up, down)

higher_differs : (a b m n : ℕ) → b ≤ a → b ≡ m → n ≤ m → (m ≡ n → ⊥) → a ≡ n → ⊥
higher_differs a b m n h same low other there = other (omega (arith, same, there))

-- the first that isn't below it is above it
pub placed_between : (works : List Work) (n m place : ℕ) → AreAscending works → IsFirstFrom n works place → IsNumberAt m works place → (m ≡ n → ⊥) → place_of works n ≡ None
placed_between works n m place all first here other =
    let low : n ≤ m = subst (λ k. n ≤ k) (here.1 blank) (first.2 place blank (omega arith) here.0) in
    unplaced works n (λ k below. elim (either_side k place (nat_lt k place) refl) as (λ x. (slice_index_or works k blank).number ≡ n → ⊥) [
      | inl before ↦ lower_differs (slice_index_or works k blank).number n (first.1 k blank (omega arith) before)
      | inr after ↦ higher_differs (slice_index_or works k blank).number (slice_index_or works place blank).number m n (rises works place k blank all after below) (here.1 blank) low other
    ])

-- the first number above
pub next_at : (works : List Work) (n place : ℕ) → IsFirstFrom (n + 1) works place → next_in works n ≡ number_at works place
next_at works n place first =
    let gt : Work → Bool = λ u. nat_lt n u.number in
    let there : position_or_len gt works ≡ place = position_or_len_is gt works place blank first.0
    (λ k below. before_test n (slice_index_or works k blank).number (first.1 k blank (omega arith) below))
    (λ within. next_test n (slice_index_or works place blank).number (first.2 place blank (omega arith) within)) in
    ap (option_map (λ (t : Work). t.number)) (find_at gt works ∙ ap (slice_get works) there)
