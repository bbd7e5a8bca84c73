-- A job's move may come exactly where it takes the job to a place and nothing else is wrong with it.
use Rattle.std.proofs.Common.{◌≡◌, not, ◌&&◌, ◌||◌, if◌then◌else◌, Bool, true, false, refl, ap, sym, ◌∙◌}
use Rattle.std.specs.Prelude.{Option, Some, None, slice_get, option_and_then}
use Rattle.blk_base.specs.declared.moves.Move.{Move}
use Rattle.report_rules.specs.declared.work.Task.{Task}
use Rattle.report_rules.specs.declared.walk.Spot.{Spot}
use Rattle.report_rules.specs.Walk.{spot_in, spot_after, advanced, step_at, is_step_at, is_unmapped_step}
use Rattle.job_check.specs.Kept.{Kept}
use Rattle.job_check.specs.Open.{Open, is_through, is_next_of, is_next_at, may_step}

none_by : (refused first later through : Bool) (a b : Spot) → (if refused then None else (if first then Some a else (if later then Some b else None))) ≡ None
    → (not refused && (first || later) && through) ≡ false
none_by true first later through a b e = refl
none_by false true later through a b e = absurd (cc)
none_by false false true through a b e = absurd (cc)
none_by false false false through a b e = refl

some_by : (refused first later through : Bool) (a b q : Spot) → (if refused then None else (if first then Some a else (if later then Some b else None))) ≡ Some q
    → (not refused && (first || later) && through) ≡ through
some_by true first later through a b q e = absurd (cc)
some_by false true later through a b q e = refl
some_by false false true through a b q e = refl
some_by false false false through a b q e = absurd (cc)

none_of : (o : Open) (kept : Kept) (move : Move) (s : Spot) (t : Option Task) → (if s.refused then None else spot_in o.persistent s.done t s.place s.mapping move) ≡ None
    → is_next_of o kept s t move ≡ false
none_of o kept move s None e = refl
none_of o kept move s (Some task) e =
    none_by s.refused (is_step_at (step_at task s.place) move) (is_unmapped_step o.persistent task s.place move) (is_through kept task s move)
    (spot_after s.done task s.place s.mapping move) (spot_after s.done task 1 s.mapping move) e

none_at : (o : Open) (kept : Kept) (move : Move) (s : Option Spot) → option_and_then (advanced o.persistent o.tasks move) s ≡ None → is_next_at o kept s move ≡ false
none_at o kept move None e = refl
none_at o kept move (Some s) e = none_of o kept move s (slice_get o.tasks s.done) e

by_failed : (failed next : Bool) → next ≡ false → (not failed && next) ≡ false
by_failed true next e = refl
by_failed false next e = e

-- a move that takes a job nowhere may not come
pub none_is_no_step : (o : Open) (kept : Kept) (move : Move) → option_and_then (advanced o.persistent o.tasks move) o.spot ≡ None → may_step o kept move ≡ false
none_is_no_step o kept move e = by_failed o.failed (is_next_at o kept o.spot move) (none_at o kept move o.spot e)

lacking : (o : Open) (kept : Kept) (move : Move) (s : Spot) (t : Option Task) → t ≡ None → is_next_of o kept s t move ≡ false
lacking o kept move s None is = refl
lacking o kept move s (Some task) is = absurd (cc)

-- nor one where all tasks are done
pub done_is_no_step : (o : Open) (kept : Kept) (move : Move) (s : Spot) → o.spot ≡ Some s → slice_get o.tasks s.done ≡ None → may_step o kept move ≡ false
done_is_no_step o kept move s at none =
    by_failed o.failed (is_next_at o kept o.spot move) (ap (λ t. is_next_at o kept t move) at ∙ lacking o kept move s (slice_get o.tasks s.done) none)

some_of : (o : Open) (kept : Kept) (move : Move) (s q : Spot) (t : Option Task) (task : Task) → t ≡ Some task
    → (if s.refused then None else spot_in o.persistent s.done t s.place s.mapping move) ≡ Some q → is_next_of o kept s t move ≡ is_through kept task s move
some_of o kept move s q None task is e = absurd (cc)
some_of o kept move s q (Some t) task is e =
    some_by s.refused (is_step_at (step_at t s.place) move) (is_unmapped_step o.persistent t s.place move) (is_through kept t s move)
    (spot_after s.done t s.place s.mapping move) (spot_after s.done t 1 s.mapping move) q e ∙ same
  where
    same : is_through kept t s move ≡ is_through kept task s move
    same = cc

-- one that takes it to a place may, where the disk didn't fail and it goes through its mapping
pub some_is_a_step : (o : Open) (kept : Kept) (move : Move) (s q : Spot) (task : Task) → o.spot ≡ Some s → option_and_then (advanced o.persistent o.tasks move) o.spot ≡ Some q
    → slice_get o.tasks s.done ≡ Some task → may_step o kept move ≡ (not o.failed && is_through kept task s move)
some_is_a_step o kept move s q task at e lookup =
    let from : advanced o.persistent o.tasks move s ≡ Some q = ap (option_and_then (advanced o.persistent o.tasks move)) (sym at) ∙ e in
    ap (λ b. not o.failed && b) (ap (λ t. is_next_at o kept t move) at ∙ some_of o kept move s q (slice_get o.tasks s.done) task lookup from)
