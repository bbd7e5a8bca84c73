-- An open job is what the lines before say of it, and so a move of it is decided; a job that had its reply was at its end, and makes no step more.
use Rattle.std.proofs.Common.{◌≡◌, ℕ, ◌==◌, ◌&&◌, ◌||◌, not, Bool, true, false, if◌then◌else◌, List, length, refl, ap, sym, ◌∙◌, subst, arith}
use Rattle.std.specs.Prelude.{nat_le, slice_get, Option, Some, None, is_some, IfSome, IsSomeAnd}
use Rattle.std.specs.Bool.{Decides}
use Rattle.std.proofs.lemmas.Bool.Decides.{nat_tests, Decides-eqb, Decides-and, Decides-at, Decides-like}
use Rattle.std.proofs.lemmas.Option.{slice_get_past}
use Rattle.blk_base.specs.declared.operation.Status.{Status}
use Rattle.blk_base.specs.declared.operation.Status.TheVariants as status
use Rattle.blk_base.specs.declared.moves.Move.{Move}
use Rattle.schedule_text.specs.declared.line.Line.{Line}
use Rattle.report_rules.specs.declared.walk.Spot.{Spot}
use Rattle.report_rules.specs.declared.work.Task.{Task}
use Rattle.report_rules.specs.declared.job.Fetched.{Fetched}
use Rattle.report_rules.specs.Standing.{this_epoch}
use Rattle.report_rules.specs.Job.{fetched_of, disk_moves_of}
use Rattle.report_rules.specs.Step.{values_read, work_of}
use Rattle.report_rules.specs.Walk.{step_at, is_step_at, is_unmapped_step, walk_of, spot_of}
use Rattle.report_rules.specs.Steps.{gref_of, touched_by, failed_in, IsKeptFor, is_kept_for as kept_is_for, IsThrough, IsStepOf, IsNextStep}
use Rattle.report_rules.specs.Data.{words_from}
use Rattle.report_rules.specs.Reply.{end_of, words_with}
use Rattle.report_rules.proofs.Walked.{NextOf, next_of_step, step_decides}
use Rattle.job_check.specs.Kept.{Kept, is_kept_of}
use Rattle.job_check.specs.Open.{Open, is_same, is_taken, is_mapped, is_through, is_next, is_next_of, is_next_at, may_step, due}
use Rattle.job_check.proofs.Telling.{has_step}
use Rattle.job_check.proofs.Works.{IsWorked, tasks_are}
use Rattle.job_check.proofs.Mappings.{IsKeptTo, kept_of_decides, kept_for_is}

-- what was fetched for it
abbrev pub fetched_for : Open → Fetched
fetched_for o = record { request = o.request; disk = o.disk; persistent = o.persistent }

pub record IsJob (before : List Line) (k : ℕ) (o : Open) : Type 0 where
  pub number : o.number ≡ k
  pub fetched : fetched_of before k ≡ Some (fetched_for o)
  pub worked : IsWorked (values_read before k) o
  pub spot : o.spot ≡ walk_of o.persistent o.tasks k (this_epoch before)
  pub failed : o.failed ≡ failed_in k (this_epoch before)
  pub moved : o.moved ≡ disk_moves_of before k
  pub sector : o.sector ≡ words_from None k (this_epoch before)

-- ---- the mapping of a step
same_decides : (mapping touched : Option ℕ) → Decides (is_same mapping touched) (IfSome mapping (λ (mine : ℕ). IfSome touched (λ (number : ℕ). number ≡ mine)))
same_decides None touched = (λ e. tt, λ h. refl)
same_decides (Some mine) None = (λ e. tt, λ h. refl)
same_decides (Some mine) (Some number) = Decides-eqb number mine

taken_decides : (before : List Line) (kept : Kept) (gref : ℕ) (mapping touched : Option ℕ) → IsKeptTo before kept → Decides (is_taken kept gref mapping touched) (mapping ≡ None → IfSome touched (IsKeptFor before gref))
taken_decides before kept gref None None is = (λ e h. tt, λ h. refl)
taken_decides before kept gref None (Some number) is = Decides-like (is_kept_of kept gref number) (λ p h. p) (λ f. f refl) (kept_of_decides before kept gref number is)
taken_decides before kept gref (Some mine) touched is = (λ e h. absurd (cc), λ h. refl)

first_decides : (first mapped stands : Bool) → Decides (not first || mapped || stands) (first ≡ true → mapped ≡ false → stands ≡ true)
first_decides true true stands = (λ e f m. absurd (cc), λ h. refl)
first_decides true false true = (λ e f m. refl, λ h. refl)
first_decides true false false = (λ e f m. absurd (cc), λ h. h refl refl)
first_decides false mapped stands = (λ e f m. absurd (cc), λ h. refl)

mapped_decides : (before : List Line) (kept : Kept) (task : Task) (s : Spot) (move : Move) → IsKeptTo before kept
    → Decides (is_mapped kept task s move) ((s.place == 0) ≡ true → is_step_at (step_at task 0) move ≡ false → kept_is_for before (gref_of task) ≡ true)
mapped_decides before kept task s move is =
    Decides-at (is_mapped kept task s move) (not (s.place == 0) || is_step_at (step_at task 0) move || kept_is_for before (gref_of task))
    (ap (λ (b : Bool). not (s.place == 0) || is_step_at (step_at task 0) move || b) (kept_for_is before kept (gref_of task) is))
    (first_decides (s.place == 0) (is_step_at (step_at task 0) move) (kept_is_for before (gref_of task)))

through_decides : (before : List Line) (kept : Kept) (task : Task) (s : Spot) (move : Move) → IsKeptTo before kept → Decides (is_through kept task s move) (IsThrough before task s move)
through_decides before kept task s move is =
    let same = is_same s.mapping (touched_by move) in
    let taken = is_taken kept (gref_of task) s.mapping (touched_by move) in
    let mapped = is_mapped kept task s move in
    Decides-like ((same && taken) && mapped) (λ all. record { same = all.0.0; kept = all.0.1; stands = all.1 }) (λ t. ((t.same, t.kept), t.stands))
    (Decides-and (same && taken) mapped
    (Decides-and same taken (same_decides s.mapping (touched_by move)) (taken_decides before kept (gref_of task) s.mapping (touched_by move) is)) (mapped_decides before kept task s move is))

not_decides : (b : Bool) → Decides (not b) (b ≡ false)
not_decides true = (λ e. absurd (cc), λ e. absurd (cc))
not_decides false = (λ e. refl, λ e. refl)

true_decides : (b : Bool) → Decides b (b ≡ true)
true_decides b = (λ e. e, λ e. e)

next_decides : (before : List Line) (persistent : Bool) (kept : Kept) (s : Spot) (task : Task) (move : Move) → IsKeptTo before kept → Decides (is_next persistent kept s task move) (IsNextStep before persistent s move task)
next_decides before persistent kept s task move is =
    let step = is_step_at (step_at task s.place) move || is_unmapped_step persistent task s.place move in
    let through = is_through kept task s move in
    Decides-like ((not s.refused && step) && through) (λ all. record { unrefused = all.0.0; step = all.0.1; through = all.1 }) (λ n. ((n.unrefused, n.step), n.through))
    (Decides-and (not s.refused && step) through (Decides-and (not s.refused) step (not_decides s.refused) (true_decides step)) (through_decides before kept task s move is))

next_at_decides : (before : List Line) (o : Open) (kept : Kept) (spot : Option Spot) (move : Move) → IsKeptTo before kept → Decides (is_next_at o kept spot move) (NextOf before o.persistent o.tasks move spot)
next_at_decides before o kept None move is = (λ e. absurd (cc), λ h. absurd h)
next_at_decides before o kept (Some s) move is = by_task (slice_get o.tasks s.done)
  where
    by_task : (t : Option Task) → Decides (is_next_of o kept s t move) (IsSomeAnd t (IsNextStep before o.persistent s move))
    by_task None = (λ e. absurd (cc), λ h. absurd h)
    by_task (Some task) = next_decides before o.persistent kept s task move is

-- ---- a move of an open job
abbrev pub MayStep : List Line → ℕ → Move → Type 0
MayStep before k move = IsSomeAnd (fetched_of before k) (IsStepOf before k move)

pub step_in : (before : List Line) (k : ℕ) (move : Move) (o : Open) → IsJob before k o → MayStep before k move → IsStepOf before k move (fetched_for o)
step_in before k move o j may = subst (λ (f : Option Fetched). IsSomeAnd f (IsStepOf before k move)) j.fetched may

pub open_decides : (before : List Line) (kept : Kept) (k : ℕ) (o : Open) (move : Move) → IsKeptTo before kept → IsJob before k o → Decides (may_step o kept move) (MayStep before k move)
open_decides before kept k o move is j =
    Decides-like (may_step o kept move)
    (λ (step : IsStepOf before k move (fetched_for o)). subst (λ (f : Option Fetched). IsSomeAnd f (IsStepOf before k move)) (sym j.fetched) step) (step_in before k move o j)
    (by_failed o.failed refl)
  where
    by_failed : (b : Bool) → o.failed ≡ b → Decides (not b && is_next_at o kept o.spot move) (IsStepOf before k move (fetched_for o))
    by_failed true e = (λ h. absurd (cc), λ step. absurd (let whole = step.whole in let failed = j.failed in cc))
    by_failed false e =
        step_decides before k move (fetched_for o) (this_epoch before) o.tasks o.spot (is_next_at o kept o.spot move) refl (tasks_are (values_read before k) o j.worked) j.spot (sym j.failed ∙ e)
        (next_at_decides before o kept o.spot move is)

-- ---- a job that had its reply
-- the disk failed, a map was refused, or all tasks are done
abbrev pub is_over : Bool → ℕ → Option Spot → Bool
is_over failed tasks None = failed
is_over failed tasks (Some s) = failed || s.refused || nat_le tasks s.done

pub record IsGone (before : List Line) (k : ℕ) : Type 0 where
  pub over : IfSome (fetched_of before k) (λ (f : Fetched). is_over (failed_in k (this_epoch before)) (length (work_of before k f)) (spot_of before k f) ≡ true)
  pub idle : fetched_of before k ≡ None → has_step k (this_epoch before) ≡ false

over_stops : (before : List Line) (persistent failed : Bool) (work : List Task) (spot : Option Spot) (move : Move) → failed ≡ false → NextOf before persistent work move spot → is_over failed (length work) spot ≡ true → ⊥
over_stops before persistent failed work None move whole next over = absurd next
over_stops before persistent failed work (Some s) move whole next over = by_task (slice_get work s.done) refl next
  where
    by_tests : (t : Task) (a b c : Bool) → failed ≡ a → s.refused ≡ b → nat_le (length work) s.done ≡ c → (a || b || c) ≡ true → slice_get work s.done ≡ Some t → IsNextStep before persistent s move t → ⊥
    by_tests t true b c p q r h is n = absurd (cc)
    by_tests t false true c p q r h is n = absurd (let free = n.unrefused in cc)
    by_tests t false false true p q r h is n = absurd (let past = slice_get_past work s.done (grind (arith, nat_tests)) in cc)
    by_tests t false false false p q r h is n = absurd (cc)

    by_task : (t : Option Task) → slice_get work s.done ≡ t → IsSomeAnd t (IsNextStep before persistent s move) → ⊥
    by_task None is h = absurd h
    by_task (Some t) is h = by_tests t failed s.refused (nat_le (length work) s.done) refl refl refl over is h

-- a job at its end makes no step more
pub gone_stops : (before : List Line) (k : ℕ) (move : Move) → IsGone before k → MayStep before k move → ⊥
gone_stops before k move gone may = by_fetched (fetched_of before k) gone.over may
  where
    by_fetched : (o : Option Fetched) → IfSome o (λ (f : Fetched). is_over (failed_in k (this_epoch before)) (length (work_of before k f)) (spot_of before k f) ≡ true) → IsSomeAnd o (IsStepOf before k move) → ⊥
    by_fetched None over step = absurd step
    by_fetched (Some f) over step = over_stops before f.persistent (failed_in k (this_epoch before)) (work_of before k f) (spot_of before k f) move step.whole (next_of_step before k move f step) over

over_at_end : (failed : Bool) (tasks : ℕ) (served : Status) (spot : Option Spot) → is_some (end_of failed tasks served spot) ≡ true → is_over failed tasks spot ≡ true
over_at_end true tasks served None e = refl
over_at_end true tasks served (Some s) e = refl
over_at_end false tasks served None e = absurd (cc)
over_at_end false tasks served (Some s) e = by_tests s.refused (s.place == 0) (nat_le tasks s.done) e
  where
    by_tests : (a b c : Bool) → is_some (if a then Some status.Error else (if b && c then Some served else None)) ≡ true → (false || a || c) ≡ true
    by_tests true b c h = refl
    by_tests false true true h = refl
    by_tests false true false h = absurd (cc)
    by_tests false false c h = absurd (cc)

some_words : (o : Open) → is_some (due o) ≡ true → is_some (end_of o.failed (length o.tasks) o.served o.spot) ≡ true
some_words o e = by_end (end_of o.failed (length o.tasks) o.served o.spot) e
  where
    by_end : (s : Option Status) → is_some (words_with o.request s) ≡ true → is_some s ≡ true
    by_end None h = h
    by_end (Some s) h = refl

-- a job whose response is due is at its end
pub closed : (before : List Line) (k : ℕ) (o : Open) → IsJob before k o → is_some (due o) ≡ true → IsGone before k
closed before k o j e =
    let work : o.tasks ≡ work_of before k (fetched_for o) = tasks_are (values_read before k) o j.worked in
    let here : is_over (failed_in k (this_epoch before)) (length (work_of before k (fetched_for o))) (spot_of before k (fetched_for o)) ≡ true =
    ap (λ (b : Bool). is_over b (length (work_of before k (fetched_for o))) (spot_of before k (fetched_for o))) (sym j.failed)
    ∙ (ap (λ (w : List Task). is_over o.failed (length w) (walk_of o.persistent w k (this_epoch before))) (sym work)
    ∙ (ap (λ (s : Option Spot). is_over o.failed (length o.tasks) s) (sym j.spot)
    ∙ over_at_end o.failed (length o.tasks) o.served o.spot (some_words o e))) in
    record {
      over = subst (λ (f : Option Fetched). IfSome f (λ (g : Fetched). is_over (failed_in k (this_epoch before)) (length (work_of before k g)) (spot_of before k g) ≡ true)) (sym j.fetched) here;
      idle = λ none. absurd (let some = j.fetched in cc);
    }
