-- All jobs, where a line changes one of them, opens one, or ends one.
use Rattle.std.proofs.Common.{◌≡◌, ℕ, ◌==◌, Bool, true, false, cond, List, [], ◌∷◌, ◌++◌, refl, sym, subst, arith}
use Rattle.std.specs.Prelude.{Option, Some, None}
use Rattle.std.specs.Map.{remove_entry}
use Rattle.std.specs.BTreeMap.{is_at, insert_entry}
use Rattle.std.specs.Ordering.{nat_cmp}
use Rattle.std.proofs.lemmas.Bool.Decides.{nat_tests}
use Rattle.schedule_text.specs.declared.line.Line.{Line}
use Rattle.report_rules.specs.Standing.{is_epoch, this_epoch}
use Rattle.report_rules.specs.Job.{is_job, fetched_of}
use Rattle.report_rules.specs.Step.{stepper}
use Rattle.report_rules.specs.Steps.{is_fault}
use Rattle.report_rules.specs.Data.{words_in}
use Rattle.job_check.specs.Open.{Open}
use Rattle.job_check.specs.State.{job_at, changed}
use Rattle.job_check.proofs.Keyed.{AreRising, rising_inserted, found_inserted, rising_set, found_set, rising_removed, found_removed}
use Rattle.job_check.proofs.Telling.{last_mover}
use Rattle.job_check.proofs.Jobs.{IsJob, IsGone}
use Rattle.job_check.proofs.JobLines.{job_still, job_apart}
use Rattle.job_check.proofs.Followed.{gone_still}

-- the job of a number is open, or it had its reply or was not fetched
abbrev pub IsJobOf : List Line → ℕ → Option Open → Type 0
IsJobOf before k None = IsGone before k
IsJobOf before k (Some o) = IsJob before k o

pub record AreJobs (before : List Line) (jobs : List (ℕ × Open)) : Type 0 where
  pub rising : AreRising 0 jobs
  pub each : (k : ℕ) → IsJobOf before k (job_at jobs k)

-- ---- one job, where a line is none of its steps
pub of_still : (before : List Line) (line : Line) (k : ℕ) (o : Option Open) → is_epoch line ≡ false → is_job k (stepper line) ≡ false → fetched_of (before ++ line ∷ []) k ≡ fetched_of before k → is_fault line ≡ false → words_in line ≡ None
    → IsJobOf before k o → IsJobOf (before ++ line ∷ []) k o
of_still before line k None e other fetched fault words is = gone_still before line k e other fetched is
of_still before line k (Some o) e other fetched fault words is = job_still before line k o e other fetched is fault words

pub of_apart : (before : List Line) (line : Line) (k : ℕ) (o : Option Open) → is_epoch line ≡ false → is_job k (stepper line) ≡ false → fetched_of (before ++ line ∷ []) k ≡ fetched_of before k → is_job k (last_mover (this_epoch before)) ≡ false
    → IsJobOf before k o → IsJobOf (before ++ line ∷ []) k o
of_apart before line k None e other fetched apart is = gone_still before line k e other fetched is
of_apart before line k (Some o) e other fetched apart is = job_apart before line k o e other fetched is apart

-- ---- all of them
pub jobs_still : (before after : List Line) (jobs : List (ℕ × Open)) → AreJobs before jobs → ((k : ℕ) (o : Option Open) → IsJobOf before k o → IsJobOf after k o) → AreJobs after jobs
jobs_still before after jobs are still = record { rising = are.rising; each = λ k. still k (job_at jobs k) (are.each k) }

same_key : (j k : ℕ) → (j == k) ≡ true → j ≡ k
same_key j k e = grind (arith, nat_tests)

abbrev pub change_of : (Open → Open) → Option Open → Option Open
change_of change None = None
change_of change (Some o) = Some (change o)

-- what holds of each job, after one was changed, if it is open
pub changed_each : (P Q : ℕ → Option Open → Type 0) (jobs : List (ℕ × Open)) (j : ℕ) (change : Open → Open) → ((k : ℕ) → P k (job_at jobs k))
    → ((o : Option Open) → job_at jobs j ≡ o → P j o → Q j (change_of change o)) → ((k : ℕ) (o : Option Open) → (j == k) ≡ false → P k o → Q k o) → (k : ℕ) → Q k (job_at (changed change jobs j (job_at jobs j)) k)
changed_each P Q jobs j change each own others k = by_found (job_at jobs j) refl
  where
    none_at : (b : Bool) → (j == k) ≡ b → job_at jobs j ≡ None → Q k (job_at jobs k)
    none_at true e none =
        let here : Q j (job_at jobs j) = subst (Q j) (sym none) (own None none (subst (P j) none (each j))) in
        subst (λ (n : ℕ). Q n (job_at jobs n)) (same_key j k e) here
    none_at false e none = others k (job_at jobs k) e (each k)

    set_at : (o : Open) (b : Bool) → (j == k) ≡ b → job_at jobs j ≡ Some o → Q k (cond b (Some (change o)) (job_at jobs k))
    set_at o true e found = subst (λ (n : ℕ). Q n (Some (change o))) (same_key j k e) (own (Some o) found (subst (P j) found (each j)))
    set_at o false e found = others k (job_at jobs k) e (each k)

    by_found : (o : Option Open) → job_at jobs j ≡ o → Q k (job_at (changed change jobs j o) k)
    by_found None found = none_at (j == k) refl found
    by_found (Some o) found = subst (Q k) (sym (found_set j k o (change o) jobs found)) (set_at o (j == k) refl found)

-- after one was opened
pub opened_each : (P Q : ℕ → Option Open → Type 0) (jobs : List (ℕ × Open)) (j : ℕ) (o : Open) → ((k : ℕ) → P k (job_at jobs k)) → Q j (Some o) → ((k : ℕ) (p : Option Open) → (j == k) ≡ false → P k p → Q k p)
    → (k : ℕ) → Q k (job_at (insert_entry nat_cmp jobs j o) k)
opened_each P Q jobs j o each own others k = subst (Q k) (sym (found_inserted j k o jobs)) (at (j == k) refl)
  where
    at : (b : Bool) → (j == k) ≡ b → Q k (cond b (Some o) (job_at jobs k))
    at true e = subst (λ (n : ℕ). Q n (Some o)) (same_key j k e) own
    at false e = others k (job_at jobs k) e (each k)

-- after one had its reply
pub removed_each : (P Q : ℕ → Option Open → Type 0) (jobs : List (ℕ × Open)) (j : ℕ) → AreRising 0 jobs → ((k : ℕ) → P k (job_at jobs k)) → Q j None → ((k : ℕ) (p : Option Open) → (j == k) ≡ false → P k p → Q k p)
    → (k : ℕ) → Q k (job_at (remove_entry (is_at (nat_cmp j)) jobs) k)
removed_each P Q jobs j rising each own others k = subst (Q k) (sym (found_removed 0 j k jobs rising)) (at (j == k) refl)
  where
    at : (b : Bool) → (j == k) ≡ b → Q k (cond b None (job_at jobs k))
    at true e = subst (λ (n : ℕ). Q n None) (same_key j k e) own
    at false e = others k (job_at jobs k) e (each k)

pub jobs_changed : (before after : List Line) (jobs : List (ℕ × Open)) (j : ℕ) (change : Open → Open) → AreJobs before jobs
    → ((o : Option Open) → job_at jobs j ≡ o → IsJobOf before j o → IsJobOf after j (change_of change o)) → ((k : ℕ) (o : Option Open) → (j == k) ≡ false → IsJobOf before k o → IsJobOf after k o) → AreJobs after (changed change jobs j (job_at jobs j))
jobs_changed before after jobs j change are own others = record { rising = rising (job_at jobs j); each = changed_each (IsJobOf before) (IsJobOf after) jobs j change are.each own others }
  where
    rising : (o : Option Open) → AreRising 0 (changed change jobs j o)
    rising None = are.rising
    rising (Some o) = rising_set 0 j (change o) jobs are.rising

pub jobs_opened : (before after : List Line) (jobs : List (ℕ × Open)) (j : ℕ) (o : Open) → AreJobs before jobs → IsJob after j o → ((k : ℕ) (p : Option Open) → (j == k) ≡ false → IsJobOf before k p → IsJobOf after k p)
    → AreJobs after (insert_entry nat_cmp jobs j o)
jobs_opened before after jobs j o are own others = record { rising = rising_inserted 0 j o jobs are.rising (omega arith); each = opened_each (IsJobOf before) (IsJobOf after) jobs j o are.each own others }

pub jobs_removed : (before after : List Line) (jobs : List (ℕ × Open)) (j : ℕ) → AreJobs before jobs → IsGone after j → ((k : ℕ) (p : Option Open) → (j == k) ≡ false → IsJobOf before k p → IsJobOf after k p)
    → AreJobs after (remove_entry (is_at (nat_cmp j)) jobs)
jobs_removed before after jobs j are own others = record { rising = rising_removed 0 j jobs are.rising; each = removed_each (IsJobOf before) (IsJobOf after) jobs j are.rising are.each own others }
