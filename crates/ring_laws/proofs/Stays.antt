-- What a job is due stays due: a job that is at its end makes no step more, by the rule of steps.
use Rattle.std.proofs.Common.{◌≡◌, ℕ, zero, suc, ◌<◌, ◌==◌, ◌&&◌, ◌||◌, Bool, true, false, if◌then◌else◌, List, [], ◌∷◌, ◌++◌, length, refl, ap, sym, ◌∙◌, subst, append_assoc, append-nil, arith}
use Rattle.std.specs.Prelude.{Option, Some, None, IfSome, IsSomeAnd, slice_get, nat_le}
use Rattle.std.specs.List.{filter_map, list_any}
use Rattle.std.proofs.lemmas.Bool.Decides.{nat_tests}
use Rattle.std.proofs.lemmas.List.Sums.{fold-append}
use Rattle.blk_base.specs.declared.ask.BackAnswer.{BackAnswer}
use Rattle.blk_base.specs.declared.ask.BackAnswer.TheVariants as answers
use Rattle.blk_base.specs.declared.operation.Status.{Status}
use Rattle.blk_base.specs.declared.moves.Move.{Move}
use Rattle.schedule_text.specs.declared.line.Line.{Line}
use Rattle.schedule_text.specs.declared.line.Line.TheVariants as lines
use Rattle.report_rules.specs.declared.walk.Spot.{Spot}
use Rattle.report_rules.specs.declared.work.Task.{Task}
use Rattle.report_rules.specs.declared.job.Fetched.{Fetched}
use Rattle.report_rules.specs.Obeys.{Obeys}
use Rattle.report_rules.specs.Standing.{is_epoch, this_epoch}
use Rattle.report_rules.specs.Work.{work_tasks, work_verdict, status_by}
use Rattle.report_rules.specs.Job.{is_job, fetched_of}
use Rattle.report_rules.specs.Step.{stepper, move_in, job_step, value_read, values_read, work_of}
use Rattle.report_rules.specs.Walk.{spot, walked, walk_of, spot_of}
use Rattle.report_rules.specs.Steps.{failed_in, IsNextStep, IsStepOf, IsStepAt}
use Rattle.report_rules.specs.Reply.{end_of, status_at_end, words_with, words_due, response_due}
use Rattle.report_rules.proofs.Walked.{next_of_step}
use Rattle.ring_laws.proofs.EntryWords.{fetched_stays}
use Rattle.blk_back.specs.declared.told.BackTold.{BackTold}
use Rattle.blk_back.specs.declared.told.BackTold.TheVariants as back_told
use Rattle.split_model.specs.Shown.{back_lines, effect_line}
use Rattle.ring_laws.proofs.Lists.{either_false, fold_none}
use Rattle.ring_laws.proofs.JobLines.{is_of, IsAside, read_aside, failed_same}
use Rattle.ring_laws.proofs.Bystanders.{IsRule}

-- a response that is due: what was fetched for the job, and how its work ended
record IsEnded (before : List Line) (k : ℕ) (words : List ℕ) : Type 0 where
  fetched : Fetched
  known : fetched_of before k ≡ Some fetched
  status : Status
  ended : status_at_end before k fetched ≡ Some status

ended_of : (before : List Line) (k : ℕ) (words : List ℕ) → response_due before k ≡ Some words → IsEnded before k words
ended_of before k words due = by_known (fetched_of before k) refl due
  where
    by_status : (f : Fetched) (o : Option Status) → fetched_of before k ≡ Some f → status_at_end before k f ≡ o → words_with f.request o ≡ Some words → IsEnded before k words
    by_status f None known ended e = absurd (cc)
    by_status f (Some s) known ended e = record { fetched = f; known = known; status = s; ended = ended }

    by_known : (o : Option Fetched) → fetched_of before k ≡ o → words_due before k o ≡ Some words → IsEnded before k words
    by_known None known e = absurd (cc)
    by_known (Some f) known e = by_status f (status_at_end before k f) known refl e

-- a task that is there has a place before the end
task_within : (work : List Task) (n : ℕ) (task : Task) → slice_get work n ≡ Some task → nat_le (length work) n ≡ false
task_within work n task e = let within = place work n task e in grind (arith, nat_tests)
  where
    place : (ws : List Task) (i : ℕ) (t : Task) → slice_get ws i ≡ Some t → i < length ws
    place [] i t e = absurd (cc)
    place (w ∷ ws) zero t e = omega arith
    place (w ∷ ws) (suc i) t e = let rest = place ws i t e in omega arith

-- no step is left to a job whose work ended
no_step : (before : List Line) (k : ℕ) (move : Move) (words : List ℕ) → response_due before k ≡ Some words → stepper (lines.Move move) ≡ Some k → IsStepAt before (lines.Move move) → ⊥
no_step before k move words due own step =
    let e : IsEnded before k words = ended_of before k words due in
    let f : Fetched = e.fetched in
    let asked : IsSomeAnd (fetched_of before k) (IsStepOf before k move) = subst (λ (o : Option ℕ). IfSome o (λ (j : ℕ). IsSomeAnd (fetched_of before j) (IsStepOf before j move))) own step in
    let s : IsStepOf before k move e.fetched = subst (λ (o : Option Fetched). IsSomeAnd o (IsStepOf before k move)) e.known asked in
    by_spot f (spot_of before k f) s.whole (next_of_step before k move f s) e.ended
  where
    by_end : (tasks : ℕ) (served status : Status) (x : Spot) → x.refused ≡ false → nat_le tasks x.done ≡ false → end_of false tasks served (Some x) ≡ Some status → ⊥
    by_end tasks served status x unrefused within ended = none_here (x.place == 0) served status (sym (rw (unrefused, within) refl) ∙ ended)
      where
        none_here : (b : Bool) (s t : Status) → (if b && false then Some s else None) ≡ Some t → ⊥
        none_here true s t e = cc
        none_here false s t e = cc

    by_task : (f : Fetched) (x : Spot) (task : Option Task) → slice_get (work_of before k f) x.done ≡ task → IsSomeAnd task (IsNextStep before f.persistent x move) → (served status : Status) → end_of false (length (work_of before k f)) served (Some x) ≡ Some status → ⊥
    by_task f x None found next served status ended = next
    by_task f x (Some task) found next served status ended = by_end (length (work_of before k f)) served status x next.unrefused (task_within (work_of before k f) x.done task found) ended

    by_spot : (f : Fetched) (o : Option Spot) → failed_in k (this_epoch before) ≡ false → IsSomeAnd o (λ x. IsSomeAnd (slice_get (work_of before k f) x.done) (IsNextStep before f.persistent x move))
        → {status : Status} → end_of (failed_in k (this_epoch before)) (length (work_of before k f)) (status_by (work_verdict f.request f.disk (values_read before k))) o ≡ Some status → ⊥
    by_spot f None whole next {status} ended = next
    by_spot f (Some x) whole next {status} ended =
        by_task f x (slice_get (work_of before k f) x.done) refl next (status_by (work_verdict f.request f.disk (values_read before k))) status
        (sym (ap (λ (b : Bool). end_of b (length (work_of before k f)) (status_by (work_verdict f.request f.disk (values_read before k))) (Some x)) whole) ∙ ended)

-- others' lines leave it
walk_still : (p : Bool) (work : List Task) (k : ℕ) (epoch ys : List Line) → list_any (is_of k) ys ≡ false → walk_of p work k (epoch ++ ys) ≡ walk_of p work k epoch
walk_still p work k epoch ys none =
    fold-append (λ s line. walked p work (job_step k line) s) (Some (spot 0 0 false None)) epoch ys
    ∙ fold_none (λ s line. walked p work (job_step k line) s) (is_of k) (λ s line e. ap (λ (b : Bool). walked p work (if b then move_in line else None) s) e) ys (walk_of p work k epoch) none

-- how its work ended, by the lines of the epoch
abbrev status_in : Fetched → ℕ → List Line → Option Status
status_in f k epoch =
    end_of (failed_in k epoch) (length (work_tasks f.request f.disk f.persistent (filter_map (value_read k) epoch))) (status_by (work_verdict f.request f.disk (filter_map (value_read k) epoch)))
    (walk_of f.persistent (work_tasks f.request f.disk f.persistent (filter_map (value_read k) epoch)) k epoch)

status_still : (f : Fetched) (k : ℕ) (epoch ys : List Line) → IsAside k ys → status_in f k (epoch ++ ys) ≡ status_in f k epoch
status_still f k epoch ys aside =
    ap (λ (vs : List ℕ). end_of (failed_in k (epoch ++ ys)) (length (work_tasks f.request f.disk f.persistent vs)) (status_by (work_verdict f.request f.disk vs)) (walk_of f.persistent (work_tasks f.request f.disk f.persistent vs) k (epoch ++ ys))) (read_aside k epoch ys aside.none)
    ∙ (ap (λ (b : Bool). end_of b (length work) served (walk_of f.persistent work k (epoch ++ ys))) (failed_same k epoch ys aside)
    ∙ ap (λ (x : Option Spot). end_of (failed_in k epoch) (length work) served x) (walk_still f.persistent work k epoch ys aside.none))
  where
    work : List Task
    work = work_tasks f.request f.disk f.persistent (filter_map (value_read k) epoch)

    served : Status
    served = status_by (work_verdict f.request f.disk (filter_map (value_read k) epoch))

fetched_known : (ys before : List Line) (k : ℕ) (f : Fetched) → list_any is_epoch ys ≡ false → fetched_of before k ≡ Some f → fetched_of (before ++ ys) k ≡ Some f
fetched_known [] before k f same known = ap (λ (ls : List Line). fetched_of ls k) (append-nil before) ∙ known
fetched_known (y ∷ ys) before k f same known =
    let both : (is_epoch y ≡ false) × (list_any is_epoch ys ≡ false) = either_false (is_epoch y) (list_any is_epoch ys) same in
    ap (λ (ls : List Line). fetched_of ls k) (sym (append_assoc before (y ∷ []) ys)) ∙ fetched_known ys (before ++ y ∷ []) k f both.1 (fetched_stays before y k f both.0 known)

-- lines that begin no epoch
pub record IsOn (before ys : List Line) : Type 0 where
  pub epoch : this_epoch (before ++ ys) ≡ this_epoch before ++ ys
  pub same : list_any is_epoch ys ≡ false

pub due_aside : (before ys : List Line) (k : ℕ) (words : List ℕ) → IsOn before ys → IsAside k ys → response_due before k ≡ Some words → response_due (before ++ ys) k ≡ Some words
due_aside before ys k words on aside due =
    let e : IsEnded before k words = ended_of before k words due in
    let f : Fetched = e.fetched in
    let known : fetched_of (before ++ ys) k ≡ Some e.fetched = fetched_known ys before k e.fetched on.same e.known in
    let status : status_at_end (before ++ ys) k e.fetched ≡ status_at_end before k e.fetched = ap (status_in e.fetched k) on.epoch ∙ status_still e.fetched k (this_epoch before) ys aside in
    ap (λ (o : Option Fetched). words_due (before ++ ys) k o) known
    ∙ (ap (λ (o : Option Status). words_with f.request o) status
    ∙ (sym (ap (λ (o : Option Fetched). words_due before k o) e.known) ∙ due))

-- the jobs that are at their end make no step in these lines
abbrev pub AreIdle : List Line → List Line → Type 0
AreIdle before ys = (k : ℕ) (words : List ℕ) → response_due before k ≡ Some words → IsAside k ys

-- the lines after a move are no steps
effect_unstepped : (k id index : ℕ) (a : BackAnswer) → is_of k (effect_line id index a) ≡ false
effect_unstepped k id index (answers.Sector words) = refl
effect_unstepped k id index a = refl

told_unstepped : (k : ℕ) (told : Option BackTold) (a : BackAnswer) → list_any (is_of k) (back_lines told a) ≡ false
told_unstepped k None a = refl
told_unstepped k (Some (back_told.Effect id index)) a = ap (λ (b : Bool). b || false) (effect_unstepped k id index a)
told_unstepped k (Some other) a = refl

-- a move of a job, and the lines after it, that obey the rules
pub move_idle : (before : List Line) (shown : Move) (told : Option BackTold) (a : BackAnswer) → Obeys IsRule (before ++ lines.Move shown ∷ back_lines told a) → AreIdle before (lines.Move shown ∷ back_lines told a)
move_idle before shown told a obeys k words due = by_test (is_of k (lines.Move shown)) refl
  where
    mine : (o : Option ℕ) → is_job k o ≡ true → o ≡ Some k
    mine None e = absurd (cc)
    mine (Some j) e = ap (λ (n : ℕ). Some n) (equal j e)
      where
        equal : (j : ℕ) → (j == k) ≡ true → j ≡ k
        equal j e = grind (arith, nat_tests)

    by_test : (b : Bool) → is_of k (lines.Move shown) ≡ b → IsAside k (lines.Move shown ∷ back_lines told a)
    by_test true e = absurd (no_step before k shown words due (mine (stepper (lines.Move shown)) e) (obeys before (back_lines told a) (lines.Move shown) refl).step)
    by_test false e = record { none = ap (λ (b : Bool). b || list_any (is_of k) (back_lines told a)) e ∙ told_unstepped k told a; calm = refl; silent = refl }
