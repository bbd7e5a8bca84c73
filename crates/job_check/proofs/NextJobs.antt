-- What one line makes of a job, as far as its reply goes: whether it came to its end, and what response is due.
use Rattle.std.proofs.Common.{◌≡◌, ℕ, Bool, true, false, List, [], ◌∷◌, ◌++◌, length, refl, ap, sym, ◌∙◌}
use Rattle.std.specs.Prelude.{Option, Some, None, is_some}
use Rattle.blk_base.specs.declared.operation.Status.{Status}
use Rattle.blk_base.specs.declared.moves.Move.{Move}
use Rattle.blk_base.specs.declared.moves.Move.TheVariants as moves
use Rattle.schedule_text.specs.declared.line.Line.{Line}
use Rattle.schedule_text.specs.declared.line.Line.TheVariants as lines
use Rattle.report_rules.specs.declared.walk.Spot.{Spot}
use Rattle.report_rules.specs.declared.work.Task.{Task}
use Rattle.report_rules.specs.Standing.{this_epoch}
use Rattle.report_rules.specs.Job.{is_job, disk_mover, fetched_of}
use Rattle.report_rules.specs.Step.{stepper, values_read, work_of}
use Rattle.report_rules.specs.Walk.{walk_of, spot_of}
use Rattle.report_rules.specs.Steps.{failed_in}
use Rattle.report_rules.specs.Reply.{end_of, words_with, status_at_end, words_due, response_due, is_reply}
use Rattle.job_check.specs.Open.{Open, walked_by, due, end_told, moved_by, failed_by, stepped, with_fault, with_sector}
use Rattle.job_check.proofs.Telling.{last_mover, no_disk_move}
use Rattle.job_check.proofs.Works.{word_leaves, tasks_are, served_are}
use Rattle.job_check.proofs.Jobs.{fetched_for, IsJob, closed, gone_stops, MayStep}
use Rattle.job_check.proofs.Changes.{IsJobOf, change_of}

-- what is due by the lines before
pub due_is : (before : List Line) (k : ℕ) (o : Open) → IsJob before k o → due o ≡ response_due before k
due_is before k o j =
    ap (λ (s : Option Status). words_with o.request s) ends ∙ sym (ap (words_due before k) j.fetched)
  where
    work : o.tasks ≡ work_of before k (fetched_for o)
    work = tasks_are (values_read before k) o j.worked

    ends : end_of o.failed (length o.tasks) o.served o.spot ≡ status_at_end before k (fetched_for o)
    ends =
        ap (λ (b : Bool). end_of b (length o.tasks) o.served o.spot) j.failed
        ∙ (ap (λ (s : Option Spot). end_of (failed_in k (this_epoch before)) (length o.tasks) o.served s) j.spot
        ∙ (ap (λ (w : List Task). end_of (failed_in k (this_epoch before)) (length w) o.served (walk_of o.persistent w k (this_epoch before))) work
        ∙ ap (λ (s : Status). end_of (failed_in k (this_epoch before)) (length (work_of before k (fetched_for o))) s (spot_of before k (fetched_for o))) (served_are (values_read before k) o j.worked)))

-- a job whose response is due makes no step
pub due_stops : (before : List Line) (k : ℕ) (move : Move) (o : Open) → IsJob before k o → MayStep before k move → due o ≡ None
due_stops before k move o j may = by_due (due o) refl
  where
    by_due : (words : Option (List ℕ)) → due o ≡ words → words ≡ None
    by_due None e = refl
    by_due (Some w) e = absurd (gone_stops before k move (closed before k o j (ap (λ (x : Option (List ℕ)). is_some x) e)) may)

-- a job, if it is open, and in what it is changed by a line: it isn't fetched or had its reply; it stays; it makes a step; the disk fails it; it is opened; or it has its reply
pub data NextJob (before : List Line) (line : Line) (rows k : ℕ) (was is : Option Open) : Type 0 where
  closed_still : was ≡ None → is ≡ None → fetched_of (before ++ line ∷ []) k ≡ fetched_of before k → NextJob before line rows k was is
  carried : (o p : Open) → was ≡ Some o → is ≡ Some p → p.ended ≡ o.ended → due p ≡ due o → is_job k (disk_mover line) ≡ false → fetched_of (before ++ line ∷ []) k ≡ fetched_of before k → NextJob before line rows k was is
  goes_on : (o p : Open) → was ≡ Some o → is ≡ Some p → p.ended ≡ end_told o.ended rows (due p) → due o ≡ None → fetched_of (before ++ line ∷ []) k ≡ fetched_of before k → NextJob before line rows k was is
  fails : (o p : Open) → was ≡ Some o → is ≡ Some p → p.ended ≡ end_told o.ended rows (due p) → is_some (due p) ≡ true → is_job k (last_mover (this_epoch before)) ≡ true → is_job k (disk_mover line) ≡ false → fetched_of (before ++ line ∷ []) k ≡ fetched_of before k → NextJob before line rows k was is
  begins : (p : Open) → was ≡ None → is ≡ Some p → p.ended ≡ end_told None rows (due p) → fetched_of before k ≡ None → is_some (fetched_of (before ++ line ∷ []) k) ≡ true → NextJob before line rows k was is
  ends : (o : Open) → was ≡ Some o → is ≡ None → is_reply line ≡ true → fetched_of (before ++ line ∷ []) k ≡ fetched_of before k → NextJob before line rows k was is

-- ---- a job that stays
pub next_same : (before : List Line) (line : Line) (rows k : ℕ) (o : Option Open) → is_job k (stepper line) ≡ false → fetched_of (before ++ line ∷ []) k ≡ fetched_of before k → NextJob before line rows k o o
next_same before line rows k None other same = closed_still refl refl same
next_same before line rows k (Some o) other same = carried o o refl refl refl refl (no_disk_move k line other) same

-- ---- a step
word_ended : (o : Open) (move : Move) → (stepped o move).ended ≡ o.ended
word_ended o (moves.Read who number frame word value) = word_leaves (λ (x : Open). x.ended) (walked_by o (moves.Read who number frame word value)) value (λ r. refl) (λ r t s. refl)
word_ended o (moves.DiskRead k sector) = refl
word_ended o (moves.DiskWrite k sector) = refl
word_ended o (moves.DiskFlush k) = refl
word_ended o (moves.DiskTrim k sector count) = refl
word_ended o move = refl

pub next_moved : (before : List Line) (rows k : ℕ) (move : Move) (o : Option Open) → IsJobOf before k o → MayStep before k move → fetched_of (before ++ lines.Move move ∷ []) k ≡ fetched_of before k → NextJob before (lines.Move move) rows k o (change_of (moved_by rows move) o)
next_moved before rows k move None gone may same = absurd (gone_stops before k move gone may)
next_moved before rows k move (Some o) j may same =
    goes_on o (moved_by rows move o) refl refl (ap (λ (e : Option ℕ). end_told e rows (due (stepped o move))) (word_ended o move)) (due_stops before k move o j may) same

-- ---- an outcome
fault_due : (o : Open) → is_some (due (with_fault o)) ≡ true
fault_due o = refl

pub next_failed : (before : List Line) (id index rows k : ℕ) (o : Option Open) → is_job k (last_mover (this_epoch before)) ≡ true → fetched_of (before ++ lines.Fault id index ∷ []) k ≡ fetched_of before k → NextJob before (lines.Fault id index) rows k o (change_of (failed_by rows) o)
next_failed before id index rows k None own same = closed_still refl refl same
next_failed before id index rows k (Some o) own same = fails o (failed_by rows o) refl refl refl (fault_due o) own refl same

pub next_given : (before : List Line) (id index rows k : ℕ) (words : List ℕ) (o : Option Open) → fetched_of (before ++ lines.EffectRead id index words ∷ []) k ≡ fetched_of before k → NextJob before (lines.EffectRead id index words) rows k o (change_of (λ (x : Open). with_sector x words) o)
next_given before id index rows k words None same = closed_still refl refl same
next_given before id index rows k words (Some o) same = carried o (with_sector o words) refl refl refl refl refl same
