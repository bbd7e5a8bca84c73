-- A job whose work is one call of the disk, a flush or a discard.
use Rattle.std.proofs.Common.{◌≡◌, ℕ, ◌||◌, Bool, true, false, List, [], ◌∷◌, ◌++◌, refl, ap, ◌∙◌}
use Rattle.std.specs.Prelude.{Option, Some, None, is_none, slice_get, option_and_then, IfSome}
use Rattle.std.specs.List.{list_any}
use Rattle.blk_base.specs.declared.operation.Status.TheVariants.{Okay, Error}
use Rattle.blk_base.specs.declared.moves.Move.{Move}
use Rattle.blk_base.specs.declared.moves.Move.TheVariants as moves
use Rattle.schedule_text.specs.declared.line.Line.{Line}
use Rattle.schedule_text.specs.declared.line.Line.TheVariants as lines
use Rattle.report_rules.specs.declared.walk.Spot.{Spot}
use Rattle.report_rules.specs.declared.work.Task.{Task}
use Rattle.report_rules.specs.declared.work.Task.TheVariants as tasks
use Rattle.report_rules.specs.Job.{is_job}
use Rattle.report_rules.specs.Step.{stepper, is_refusal}
use Rattle.report_rules.specs.Walk.{spot, step_at, is_step_at, advanced, walk_of}
use Rattle.report_rules.specs.Steps.{is_fault, touched_by}
use Rattle.back_jobs.specs.declared.stage.JobStage.TheVariants as stage
use Rattle.back_jobs.specs.Work.{Work}
use Rattle.ring_laws.proofs.TaskSteps.{advances}
use Rattle.ring_laws.proofs.JobLines.{is_of, is_disk_of, walk_own, failed_own, failed_then}
use Rattle.ring_laws.proofs.Places.{Alone, one_done, failed_end}
use Rattle.ring_laws.proofs.JobMoves.{itself}
use Rattle.ring_laws.proofs.JobSteps.{IsDataBy, Steps, takes, JobGoes, on_step}

-- the move is the one step of the task
pub record IsCall (k : ℕ) (epoch : List Line) (task : Task) (shown : Move) : Type 0 where
  pub own : stepper (lines.Move shown) ≡ Some k
  pub disk : is_disk_of k (lines.Move shown) ≡ true
  pub step : is_step_at (step_at task 0) shown ≡ true
  pub last : is_none (step_at task 1) ≡ true
  pub sound : is_refusal shown ≡ false
  pub bare : IfSome (touched_by shown) (λ (number : ℕ). ◌≡◌ {A = Option ℕ} None (Some number))
  pub moved : IsDataBy k epoch shown

pub flush_call : (k : ℕ) (epoch : List Line) → IsCall k epoch tasks.Flush (moves.DiskFlush k)
flush_call k epoch = record { own = refl; disk = itself k; step = refl; last = refl; sound = refl; bare = tt; moved = tt }

pub trim_call : (k sector count : ℕ) (epoch : List Line) → IsCall k epoch (tasks.Trim sector count) (moves.DiskTrim k sector count)
trim_call k sector count epoch = record { own = refl; disk = itself k; step = rw (itself sector, itself count) refl; last = refl; sound = refl; bare = tt; moved = tt }

call_taken : (work : List Task) (k : ℕ) (epoch : List Line) (task : Task) (moved : ℕ) (shown : Move) → Alone work k epoch task moved → IsCall k epoch task shown → option_and_then (advanced false work shown) (walk_of false work k epoch) ≡ Some (spot 1 0 false None)
call_taken work k epoch task moved shown w c =
    ap (λ (s : Option Spot). option_and_then (advanced false work shown) s) w.came
    ∙ (advances work 0 0 None task shown true (ap (λ (l : List Task). slice_get l 0) w.is) c.step c.last
    ∙ ap (λ (refused : Bool). Some (spot 1 0 refused None)) c.sound)

call_step : (work : List Task) (k : ℕ) (epoch : List Line) (task : Task) (moved : ℕ) (shown : Move) → Alone work k epoch task moved → IsCall k epoch task shown → Steps work k epoch shown
call_step work k epoch task moved shown w c = record { on = on_step work k epoch shown _ w.came w.whole (call_taken work k epoch task moved shown w c) c.bare; moved = c.moved }

-- it was done: the work is
pub call_done : (work : List Task) (k : ℕ) (epoch : List Line) (task : Task) (shown : Move) (line : Line) (t : Work) → Alone work k epoch task t.moved → IsCall k epoch task shown → is_fault line ≡ false → is_of k line ≡ false
    → JobGoes work k epoch shown (line ∷ []) (record t { stage = stage.Done Okay })
call_done work k epoch task shown line t w c fine other =
    let none : list_any (is_of k) (line ∷ []) ≡ false = ap (λ (b : Bool). b || false) other in
    let came = walk_own work k epoch (line ∷ []) shown (ap (λ (o : Option ℕ). is_job k o) c.own ∙ itself k) none ∙ call_taken work k epoch task t.moved shown w c in
    record {
      steps = takes c.own (call_step work k epoch task t.moved shown w c);
      at = one_done work k (epoch ++ lines.Move shown ∷ line ∷ []) task w.is (failed_own k epoch (line ∷ []) (lines.Move shown) refl fine none w.whole) came;
    }

-- the disk failed at it
pub call_broken : (work : List Task) (k : ℕ) (epoch : List Line) (task : Task) (shown : Move) (id index : ℕ) (t : Work) → Alone work k epoch task t.moved → IsCall k epoch task shown
    → JobGoes work k epoch shown (lines.Fault id index ∷ []) (record t { stage = stage.Done Error })
call_broken work k epoch task shown id index t w c = record {
  steps = takes c.own (call_step work k epoch task t.moved shown w c);
  at = failed_end work k (epoch ++ lines.Move shown ∷ lines.Fault id index ∷ []) (failed_then k epoch (lines.Move shown) (lines.Fault id index) c.disk refl refl);
}
