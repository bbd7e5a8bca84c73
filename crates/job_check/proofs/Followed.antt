-- A job that was just fetched, and one that had its reply, one line further.
use Rattle.std.proofs.Common.{◌≡◌, ℕ, ◌&&◌, ◌||◌, Bool, true, false, List, [], ◌∷◌, ◌++◌, length, take, refl, ap, sym, ◌∙◌, subst, arith}
use Rattle.std.specs.Prelude.{Option, Some, None, IfSome}
use Rattle.std.proofs.lemmas.List.{take_all}
use Rattle.schedule_text.specs.declared.line.Line.{Line}
use Rattle.report_rules.specs.declared.walk.Spot.{Spot}
use Rattle.report_rules.specs.declared.work.Task.{Task}
use Rattle.report_rules.specs.declared.job.Fetched.{Fetched}
use Rattle.report_rules.specs.Standing.{is_epoch, this_epoch}
use Rattle.report_rules.specs.Work.{work_tasks}
use Rattle.report_rules.specs.Job.{is_job, fetched_of}
use Rattle.report_rules.specs.Step.{stepper, values_read, work_of}
use Rattle.report_rules.specs.Walk.{spot, walk_of, spot_of}
use Rattle.report_rules.specs.Steps.{is_fault, failed_in}
use Rattle.job_check.specs.Open.{Open, begun}
use Rattle.job_check.proofs.Telling.{longer, last_mover, has_step, step_more, idle_values, idle_walk, idle_failed, idle_words, idle_moves}
use Rattle.job_check.proofs.Works.{words_of}
use Rattle.job_check.proofs.Jobs.{IsJob, is_over, IsGone}
use Rattle.job_check.proofs.JobLines.{same_values, same_walk, failed_is}

-- ---- a job that is fetched in a line
no_step_yet : (before : List Line) (line : Line) (k : ℕ) → is_epoch line ≡ false → is_job k (stepper line) ≡ false → has_step k (this_epoch before) ≡ false → has_step k (this_epoch (before ++ line ∷ [])) ≡ false
no_step_yet before line k e other idle = ap (has_step k) (longer before line e) ∙ (step_more k (this_epoch before) line ∙ rw (idle, other) refl)

pub job_begun : (before : List Line) (line : Line) (k : ℕ) (f : Fetched) → is_epoch line ≡ false → is_job k (stepper line) ≡ false → has_step k (this_epoch before) ≡ false → fetched_of (before ++ line ∷ []) k ≡ Some f → IsJob (before ++ line ∷ []) k (begun k f)
job_begun before line k f e other idle fetched =
    let after : List Line = before ++ line ∷ [] in
    let none : has_step k (this_epoch after) ≡ false = no_step_yet before line k e other idle in
    let values : values_read after k ≡ [] = idle_values k (this_epoch after) none in
    record {
      number = refl;
      fetched = fetched;
      worked = record { read = sym (ap (take (words_of f.request)) values ∙ take_all (words_of f.request) [] (omega arith)); tasks = refl; served = refl };
      spot = sym (idle_walk f.persistent (work_tasks f.request f.disk f.persistent []) k (this_epoch after) (Some (spot 0 0 false None)) none);
      failed = sym (idle_failed k (this_epoch after) none);
      moved = sym (idle_moves k (this_epoch after) none);
      sector = sym (idle_words None k (this_epoch after) none);
    }

-- how many rows had begun changes nothing else
pub job_ended : (before : List Line) (k : ℕ) (o : Open) (ended : Option ℕ) → IsJob before k o → IsJob before k (record o { ended = ended })
job_ended before k o ended j = record {
  number = j.number;
  fetched = j.fetched;
  worked = record { read = j.worked.read; tasks = j.worked.tasks; served = j.worked.served };
  spot = j.spot;
  failed = j.failed;
  moved = j.moved;
  sector = j.sector;
}

-- ---- a job that had its reply
over_more : (failed more : Bool) (tasks : ℕ) (s : Option Spot) → is_over failed tasks s ≡ true → is_over (failed || more) tasks s ≡ true
over_more true more tasks None e = refl
over_more true more tasks (Some s) e = refl
over_more false more tasks None e = absurd (cc)
over_more false true tasks (Some s) e = refl
over_more false false tasks (Some s) e = e

pub gone_still : (before : List Line) (line : Line) (k : ℕ) → is_epoch line ≡ false → is_job k (stepper line) ≡ false → fetched_of (before ++ line ∷ []) k ≡ fetched_of before k → IsGone before k → IsGone (before ++ line ∷ []) k
gone_still before line k e other fetched gone =
    record {
      over = subst (λ (o : Option Fetched). IfSome o (λ (f : Fetched). is_over (failed_in k (this_epoch (before ++ line ∷ []))) (length (work_of (before ++ line ∷ []) k f)) (spot_of (before ++ line ∷ []) k f) ≡ true)) (sym fetched) (by_fetched (fetched_of before k) gone.over);
      idle = λ none. no_step_yet before line k e other (gone.idle (sym fetched ∙ none));
    }
  where
    one : (f : Fetched) → is_over (failed_in k (this_epoch before)) (length (work_of before k f)) (spot_of before k f) ≡ true → is_over (failed_in k (this_epoch (before ++ line ∷ []))) (length (work_of (before ++ line ∷ []) k f)) (spot_of (before ++ line ∷ []) k f) ≡ true
    one f over =
        let work : work_of (before ++ line ∷ []) k f ≡ work_of before k f = ap (work_tasks f.request f.disk f.persistent) (same_values before line k e other) in
        let walk : spot_of (before ++ line ∷ []) k f ≡ spot_of before k f =
        ap (λ (w : List Task). walk_of f.persistent w k (this_epoch (before ++ line ∷ []))) work ∙ same_walk before line k f.persistent (work_of before k f) e other in
        ap (λ (b : Bool). is_over b (length (work_of (before ++ line ∷ []) k f)) (spot_of (before ++ line ∷ []) k f)) (failed_is before line k e)
        ∙ (ap (λ (w : List Task). is_over (failed_in k (this_epoch before) || (is_job k (last_mover (this_epoch before)) && is_fault line)) (length w) (spot_of (before ++ line ∷ []) k f)) work
        ∙ (ap (λ (s : Option Spot). is_over (failed_in k (this_epoch before) || (is_job k (last_mover (this_epoch before)) && is_fault line)) (length (work_of before k f)) s) walk
        ∙ over_more (failed_in k (this_epoch before)) (is_job k (last_mover (this_epoch before)) && is_fault line) (length (work_of before k f)) (spot_of before k f) over))

    by_fetched : (o : Option Fetched) → IfSome o (λ (f : Fetched). is_over (failed_in k (this_epoch before)) (length (work_of before k f)) (spot_of before k f) ≡ true) → IfSome o (λ (f : Fetched). is_over (failed_in k (this_epoch (before ++ line ∷ []))) (length (work_of (before ++ line ∷ []) k f)) (spot_of (before ++ line ∷ []) k f) ≡ true)
    by_fetched None over = tt
    by_fetched (Some f) over = one f over

-- after an epoch, and before the first line
pub gone_anew : (before : List Line) (k : ℕ) → this_epoch before ≡ [] → fetched_of before k ≡ None → IsGone before k
gone_anew before k none unfetched = record {
  over = subst (λ (o : Option Fetched). IfSome o (λ (f : Fetched). is_over (failed_in k (this_epoch before)) (length (work_of before k f)) (spot_of before k f) ≡ true)) (sym unfetched) tt;
  idle = λ e. ap (has_step k) none;
}
