-- The lowest job that is done stays known.
use Rattle.std.proofs.Common.{◌≡◌, ℕ, zero, suc, ◌+◌, ◌<◌, ◌≤◌, Bool, true, false, cond, List, [], ◌∷◌, ◌++◌, length, refl, sym, ap, ◌∙◌, arith}
use Rattle.std.specs.Prelude.{Some, None, slice_index_or, slice_get, slice_set, position, not, nat_lt, min, ◌==◌, if◌then◌else◌}
use Rattle.std.specs.List.{position_or_len}
use Rattle.std.proofs.lemmas.Bool.Decides.{nat_tests}
use Rattle.std.proofs.lemmas.Bool.{false≢true}
use Rattle.std.proofs.lemmas.Option.{slice_get_within, slice_get_read, get_or_from_slice_get, none-some, same_Some}
use Rattle.std.proofs.lemmas.List.Folds.{position_or_len_push}
use Rattle.blk_base.specs.declared.ask.BackAnswer.{BackAnswer}
use Rattle.back_jobs.specs.declared.stage.JobStage.{JobStage}
use Rattle.back_jobs.specs.declared.stage.JobStage.TheVariants as stage
use Rattle.back_jobs.specs.Work.{Work, ask_at, IsAnswer}
use Rattle.back_jobs.specs.Keeping.{ask_in, ask_with}
use Rattle.back_jobs.specs.Jobs.{work_at, is_done, is_done_at}
use Rattle.back_jobs.specs.Sound.{done_place}
use Rattle.back_jobs.specs.Order.{done_with}

one_more_at : (b e : Bool) (n m : ℕ) → cond e (n + cond b 0 1) m ≡ (if e then (if b then n else n + 1) else m)
one_more_at true true n m = grind (arith)
one_more_at false true n m = refl
one_more_at b false n m = refl

-- one more job is held
one_more : (works : List Work) (t : Work) → done_place (works ++ t ∷ []) ≡ done_with (done_place works) (length works) (is_done t)
one_more works t = position_or_len_push (λ (u : Work). is_done u) works t ∙ one_more_at (is_done t) (done_place works == length works) (length works) (done_place works)

pub began_done : (works : List Work) (t : Work) (done now count : ℕ) (b : Bool) → done ≡ done_place works → count ≡ length works → b ≡ is_done t → now ≡ done_with done count b → now ≡ done_place (works ++ t ∷ [])
began_done works t done now count b same counted test told =
    let more = one_more works t in
    cc

-- the place of the lowest once the job at this place is done, or not yet
abbrev pub done_after : ℕ → ℕ → Bool → ℕ
done_after done place true = min done place
done_after done place false = done

first_told : (b c : Bool) (n : ℕ) → c ≡ false → cond (not b) (1 + n) 0 ≡ done_after (cond (not c) (1 + n) 0) 0 b
first_told true true n h = grind (arith)
first_told true false n h = grind (arith)
first_told false true n h = absurd (false≢true (sym h))
first_told false false n h = refl

later_told : (b c : Bool) (n m i : ℕ) → m ≡ done_after n i b → cond (not c) (1 + m) 0 ≡ done_after (cond (not c) (1 + n) 0) (suc i) b
later_told true true n m i h = grind (arith)
later_told false true n m i h = refl
later_told true false n m i h = grind (arith)
later_told false false n m i h = ap (λ k. 1 + k) h

-- one that isn't done is told an answer
one_told : (works : List Work) (i : ℕ) (y d : Work) → i < length works → is_done (slice_index_or works i d) ≡ false → done_place (slice_set works i y) ≡ done_after (done_place works) i (is_done y)
one_told [] i y d within h = absurd (omega arith)
one_told (t ∷ works) zero y d within h = first_told (is_done y) (is_done t) (done_place works) h
one_told (t ∷ works) (suc i) y d within h = later_told (is_done y) (is_done t) (done_place works) (done_place (slice_set works i y)) i (one_told works i y d (omega arith) h)

undone_at : (s : JobStage) (t : Work) (a : BackAnswer) → IsAnswer (ask_at s t) a → is_done_at s ≡ false
undone_at (stage.Done status) t a h = absurd h
undone_at s t a h = refl

undone_with : (keeps : Bool) (s : JobStage) (t : Work) (a : BackAnswer) → IsAnswer (ask_with keeps s t) a → is_done_at s ≡ false
undone_with false s t a h = undone_at s t a h
undone_with true (stage.Done status) t a h = absurd h
undone_with true s t a h = refl

-- a job that is told an answer isn't done
pub undone : (keeps : Bool) (t : Work) (a : BackAnswer) → IsAnswer (ask_in keeps t) a → is_done t ≡ false
undone keeps t a h = undone_with keeps t.stage t a h

pub told_done : (works : List Work) (i : ℕ) (t y : Work) (done now : ℕ) (b : Bool) → slice_get works i ≡ Some t → is_done t ≡ false → done ≡ done_place works → b ≡ is_done y → now ≡ done_after done i b → now ≡ done_place (slice_set works i y)
told_done works i t y done now b here goes same test told =
    let within = slice_get_within works i t here in
    let at = get_or_from_slice_get works i t t here in
    let before : is_done (slice_index_or works i t) ≡ false = rw at goes in
    let told_so = one_told works i y t within before in
    cc

within_true : (a b : ℕ) → a < b → nat_lt a b ≡ true
within_true a b h = grind (arith, nat_tests)

past_false : (a b : ℕ) → b ≤ a → nat_lt a b ≡ false
past_false a b h = grind (arith, nat_tests)

place_true : (n : ℕ) (b : Bool) → b ≡ true → cond b (Some n) None ≡ Some n
place_true n true h = refl
place_true n false h = absurd (false≢true h)

place_false : (n : ℕ) (b : Bool) → b ≡ false → cond b (Some n) None ≡ None
place_false n true h = absurd (false≢true (sym h))
place_false n false h = refl

-- the first that passes stands at its place
pub passes : (p : Work → Bool) (works : List Work) (n : ℕ) → n ≡ position_or_len p works → n < length works → position p works ≡ Some n
passes p works n h within = rw (sym h) (place_true n (nat_lt n (length works)) (within_true n (length works) within))

-- none passes
pub none_passes : (p : Work → Bool) (works : List Work) (n : ℕ) → n ≡ position_or_len p works → length works ≤ n → position p works ≡ None
none_passes p works n h past = rw (sym h) (place_false n (nat_lt n (length works)) (past_false n (length works) past))

place_within_at : (b : Bool) (n m : ℕ) → n ≤ m → cond b (1 + n) 0 ≤ suc m
place_within_at true n m h = omega arith
place_within_at false n m h = omega arith

place_within : (works : List Work) → done_place works ≤ length works
place_within [] = omega arith
place_within (t ∷ works) = place_within_at (not (is_done t)) (done_place works) (length works) (place_within works)

some_place : (b : Bool) (n k : ℕ) → Some k ≡ cond b (Some n) None → k ≡ n
some_place true n k h = same_Some k n h
some_place false n k h = absurd (none-some k (sym h))

no_place : (b : Bool) (n m : ℕ) → n ≤ m → nat_lt n m ≡ b → None ≡ cond b (Some n) None → m ≡ n
no_place true n m within test h = absurd (none-some n h)
no_place false n m within test h = grind (arith, nat_tests)

-- the place that was found is that of the lowest that is done
pub found_done : (works : List Work) (k : ℕ) → Some k ≡ position (λ (t : Work). is_done t) works → k ≡ done_place works
found_done works k h = some_place (nat_lt (done_place works) (length works)) (done_place works) k h

pub none_done : (works : List Work) → None ≡ position (λ (t : Work). is_done t) works → length works ≡ done_place works
none_done works h = no_place (nat_lt (done_place works) (length works)) (done_place works) (length works) (place_within works) refl h

-- the job at that place is the lowest that is done
pub taken_done : (works : List Work) (done : ℕ) (t : Work) → done ≡ done_place works → done < length works → t ≡ slice_index_or works done t → work_at works (position (λ (u : Work). is_done u) works) ≡ Some t
taken_done works done t same within here =
    let at : slice_get works done ≡ Some t = slice_get_read works (length works) done t refl within here in
    ap (work_at works) (passes (λ (u : Work). is_done u) works done same within) ∙ at

-- and it is done
over_first : (works : List Work) (t d : Work) (b : Bool) → is_done t ≡ b → (done_place works < length works → is_done (slice_index_or works (done_place works) d) ≡ true)
    → cond (not b) (1 + done_place works) 0 < suc (length works) → is_done (slice_index_or (t ∷ works) (cond (not b) (1 + done_place works) 0) d) ≡ true
over_first works t d true test later within = test
over_first works t d false test later within =
    let next : 1 + done_place works ≡ suc (done_place works) = omega arith in
    ap (λ k. is_done (slice_index_or (t ∷ works) k d)) next ∙ later (omega arith)

over : (works : List Work) (d : Work) → done_place works < length works → is_done (slice_index_or works (done_place works) d) ≡ true
over [] d within = absurd (omega arith)
over (t ∷ works) d within = over_first works t d (is_done t) refl (over works d) within

pub taken_over : (works : List Work) (done : ℕ) (d : Work) → done ≡ done_place works → done < length works → is_done (slice_index_or works done d) ≡ true
taken_over works done d same within = rw same (over works d (rw (← same) within))
