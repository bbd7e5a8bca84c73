-- What is kept of replies is what the lines before say of them.
use Rattle.std.proofs.Common.{◌≡◌, ℕ, ◌≤◌, ◌==◌, ◌&&◌, not, Bool, true, false, List, refl, ap, sym, ◌∙◌, subst}
use Rattle.std.specs.Prelude.{Option, Some, None, is_some}
use Rattle.std.specs.Map.{values_of}
use Rattle.schedule_text.specs.declared.line.Line.{Line}
use Rattle.report_rules.specs.declared.job.Fetched.{Fetched}
use Rattle.report_rules.specs.Published.{is_persistent as persistent_by}
use Rattle.report_rules.specs.Stretch.{entries_read}
use Rattle.report_rules.specs.Job.{fetched_of}
use Rattle.report_rules.specs.Made.{has_unmapped as has_unmapped_by}
use Rattle.report_rules.specs.Reply.{is_like, is_one_of, may_answer as may_answer_by, lines_before, response_due, words_due, job_for, job_replied, answered_in}
use Rattle.job_check.specs.Kept.{has_unmapped}
use Rattle.job_check.specs.Open.{Open, due, is_early, may_answer}
use Rattle.job_check.specs.Published.{Published, is_persistent}
use Rattle.job_check.specs.Replies.{Replies, answers, answered_by}
use Rattle.job_check.specs.State.{JobState, job_at, job_answered}
use Rattle.job_check.proofs.Mappings.{IsKeptTo, has_unmapped_is}
use Rattle.job_check.proofs.Publishing.{IsPublished}
use Rattle.job_check.proofs.Jobs.{IsJob}
use Rattle.job_check.proofs.Changes.{IsJobOf, AreJobs}
use Rattle.job_check.proofs.Sees.{Sees}
use Rattle.job_check.proofs.Written.{IsWritten}
use Rattle.job_check.proofs.FirstJob.{passes_at, lowest_is}
use Rattle.job_check.proofs.Rows.{Begun, lines_are, EndedBy}

pub record IsReplying (before : List Line) (s : JobState) : Type 0 where
  pub written : IsWritten before s.replies
  pub ended : (k : ℕ) (o : Open) → job_at s.jobs k ≡ Some o → EndedBy s.replies.rows o.ended (due o)
  pub answered : (k : ℕ) → is_one_of k (answered_in before) ≡ (is_some (fetched_of before k) && not (is_some (job_at s.jobs k)))
  pub begun : (s.replies.rows == 0) ≡ false → Begun before s.replies s.jobs

-- ---- a job that a row may answer
-- what was due before some rows, of the jobs that had no reply
pub record Starts (before early : List Line) (rows : ℕ) (jobs : List (ℕ × Open)) : Type 0 where
  pub unfetched : (k : ℕ) → fetched_of before k ≡ None → fetched_of early k ≡ None
  pub most : (k : ℕ) → is_some (fetched_of early k) ≡ true → (1 ≤ k) × (k ≤ entries_read early)
  pub due : (k : ℕ) (o : Open) → job_at jobs k ≡ Some o → is_early rows o.ended ≡ true → response_due early k ≡ due o
  pub late : (k : ℕ) (o : Open) → job_at jobs k ≡ Some o → is_early rows o.ended ≡ false → response_due early k ≡ None

pub starts_of : (before : List Line) (r : Replies) (jobs : List (ℕ × Open)) (b : Begun before r jobs) → Starts before b.early r.rows jobs
starts_of before r jobs b = record { unfetched = b.unfetched; most = b.most; due = λ k o here. (b.each k o here).due; late = λ k o here. (b.each k o here).late }

open_like : (early : List Line) (rows k last : ℕ) (row : List ℕ) (o : Open) → (is_early rows o.ended ≡ true → response_due early k ≡ due o) → (is_early rows o.ended ≡ false → response_due early k ≡ None) → is_like last row (response_due early k) ≡ may_answer rows last row o
open_like early rows k last row o is late = by_early (is_early rows o.ended) refl
  where
    by_early : (b : Bool) → is_early rows o.ended ≡ b → is_like last row (response_due early k) ≡ (b && is_like last row (due o))
    by_early true e = ap (is_like last row) (is e)
    by_early false e = ap (is_like last row) (late e)

-- by the rule, and by what is kept
pub may_same : (before early : List Line) (s : JobState) (rows last k : ℕ) (row : List ℕ) → IsReplying before s → Starts before early rows s.jobs → may_answer_by early (answered_in before) last row k ≡ passes_at (may_answer rows last row) (job_at s.jobs k)
may_same before early s rows last k row is starts = by_job (job_at s.jobs k) refl (fetched_of before k) refl (is.answered k)
  where
    by_job : (o : Option Open) → job_at s.jobs k ≡ o → (f : Option Fetched) → fetched_of before k ≡ f → is_one_of k (answered_in before) ≡ (is_some f && not (is_some o)) → (not (is_one_of k (answered_in before)) && is_like last row (response_due early k)) ≡ passes_at (may_answer rows last row) o
    by_job None here (Some f) at e = rw e refl
    by_job None here None at e = rw e (ap (λ (x : Option Fetched). is_like last row (words_due early k x)) (starts.unfetched k at))
    by_job (Some o) here (Some f) at e = rw e (open_like early rows k last row o (starts.due k o here) (starts.late k o here))
    by_job (Some o) here None at e = rw e (open_like early rows k last row o (starts.due k o here) (starts.late k o here))

due_fetched : (early : List Line) (k : ℕ) (f : Option Fetched) → is_some (words_due early k f) ≡ true → is_some f ≡ true
due_fetched early k None e = e
due_fetched early k (Some f) e = refl

like_due : (last : ℕ) (row : List ℕ) (words : Option (List ℕ)) → is_like last row words ≡ true → is_some words ≡ true
like_due last row None e = absurd (cc)
like_due last row (Some ws) e = refl

both_of : (a b : Bool) → (a && b) ≡ true → (a ≡ true) × (b ≡ true)
both_of true true e = (refl, refl)
both_of true false e = absurd (cc)
both_of false b e = absurd (cc)

-- a job that a row may answer was fetched before the row
pub may_range : (before early : List Line) (s : JobState) (rows last k : ℕ) (row : List ℕ) (o : Open) → Starts before early rows s.jobs → job_at s.jobs k ≡ Some o → may_answer rows last row o ≡ true → (1 ≤ k) × (k ≤ entries_read early)
may_range before early s rows last k row o starts here may =
    let both = both_of (is_early rows o.ended) (is_like last row (due o)) may in
    let some : is_some (response_due early k) ≡ true = ap (λ (ws : Option (List ℕ)). is_some ws) (starts.due k o here both.0) ∙ like_due last row (due o) both.1 in
    starts.most k (due_fetched early k (fetched_of early k) some)

-- ---- the job of a row that was pushed
persistent_is : (before : List Line) (p : Published) → IsPublished before p → is_persistent p ≡ persistent_by before
persistent_is before p is = rw is.keeping refl

gave_same : (before : List Line) (s : JobState) (k : ℕ) → IsKeptTo before s.kept → IsPublished before s.published → has_unmapped s.kept (is_persistent s.published) k ≡ has_unmapped_by before k
gave_same before s k kept is = ap (λ (b : Bool). has_unmapped s.kept b k) (persistent_is before s.published is) ∙ has_unmapped_is before s.kept (persistent_by before) k kept

answers_same : (before early : List Line) (s : JobState) (rows k : ℕ) (row : List ℕ) → Sees before s → IsReplying before s → Starts before early rows s.jobs
    → (may_answer_by early (answered_in before) 2 row k && has_unmapped_by before k) ≡ passes_at (answers s.kept (is_persistent s.published) rows row) (job_at s.jobs k)
answers_same before early s rows k row sees is starts =
    ap (λ (b : Bool). b && has_unmapped_by before k) (may_same before early s rows 2 k row is starts) ∙ by_job (job_at s.jobs k) (sees.seen.jobs.each k)
  where
    by_job : (o : Option Open) → IsJobOf before k o → (passes_at (may_answer rows 2 row) o && has_unmapped_by before k) ≡ passes_at (answers s.kept (is_persistent s.published) rows row) o
    by_job None gone = refl
    by_job (Some o) j = ap (λ (b : Bool). may_answer rows 2 row o && b) (sym (gave_same before s k sees.seen.mappings sees.published) ∙ ap (has_unmapped s.kept (is_persistent s.published)) (sym j.number))

pub numbers : (before : List Line) (s : JobState) (k : ℕ) (o : Open) → AreJobs before s.jobs → job_at s.jobs k ≡ Some o → o.number ≡ k
numbers before s k o are here = let j : IsJob before k o = subst (IsJobOf before k) here (are.each k) in j.number

pub replied_is : (before : List Line) (s : JobState) → Sees before s → IsReplying before s → job_replied before (answered_in before) ≡ job_answered s
replied_is before s sees is =
    ap (job_for before (lines_before before 4) (answered_in before)) (sym is.written.pushed)
    ∙ by_pushed s.replies.pushed refl
  where
    by_pushed : (pushed : Option (List ℕ)) → s.replies.pushed ≡ pushed → job_for before (lines_before before 4) (answered_in before) pushed ≡ answered_by s.kept (is_persistent s.published) s.replies.rows (values_of s.jobs) pushed
    by_pushed None e = refl
    by_pushed (Some row) e =
        let some : is_some s.replies.pushed ≡ true = ap (λ (o : Option (List ℕ)). is_some o) e in
        let b : Begun before s.replies s.jobs = is.begun (is.written.some some) in
        let starts : Starts before b.early s.replies.rows s.jobs = starts_of before s.replies s.jobs b in
        ap (λ (early : List Line). job_for before early (answered_in before) (Some row)) (lines_are before s.replies s.jobs 4 b (b.pushed some))
        ∙ lowest_is (λ (k : ℕ). may_answer_by b.early (answered_in before) 2 row k && has_unmapped_by before k) (answers s.kept (is_persistent s.published) s.replies.rows row) (λ (o : Open). o.number) s.jobs (entries_read b.early) sees.seen.jobs.rising
        (λ k. answers_same before b.early s s.replies.rows k row sees is starts)
        (λ k o here may. may_range before b.early s s.replies.rows 2 k row o starts here (both_of (may_answer s.replies.rows 2 row o) (has_unmapped s.kept (is_persistent s.published) o.number) may).0)
        (λ k o here. numbers before s k o sees.seen.jobs here)
