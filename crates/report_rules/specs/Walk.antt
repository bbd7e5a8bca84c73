-- How far a job came along the steps of its work, told move by move: this is how a reader tells the rule; `proofs/Walked.antt` says that it comes to the same.
use Rattle.std.specs.Prelude.{ℕ, ◌+◌, ◌-◌, ◌*◌, ◌/◌, ◌%◌, Bool, true, false, ◌&&◌, ◌==◌, nat_lt, nat_le, if◌then◌else◌, List, fold, slice_get, Option, Some, None, is_none, option_and_then}
use Rattle.blk_base.specs.declared.parts.Mode.TheVariants.{ReadOnly, ReadWrite}
use Rattle.blk_base.specs.declared.moves.Move.{Move}
use Rattle.blk_base.specs.declared.moves.Move.TheVariants as moves
use Rattle.schedule_text.specs.declared.line.Line.{Line}
use Rattle.report_rules.specs.declared.job.Fetched.{Fetched}
use Rattle.report_rules.specs.declared.work.Task.{Task}
use Rattle.report_rules.specs.declared.work.Task.TheVariants as tasks
use Rattle.report_rules.specs.declared.walk.Spot.{Spot}
use Rattle.report_rules.specs.declared.step.Step.{Step}
use Rattle.report_rules.specs.declared.step.Step.TheVariants as steps
use Rattle.report_rules.specs.Standing.{this_epoch}
use Rattle.report_rules.specs.Step.{is_step, is_refusal, job_step, work_of}

-- the steps of a task by their places: sector k of a write, from its step j
abbrev pub store_step : ℕ → ℕ → ℕ → ℕ → ℕ → Option Step
store_step sector first count k j =
    if nat_le count k then None
    else (if nat_lt j 128 then Some (steps.Read (128 * (first + k) + j)) else Some (steps.DiskWrite (sector + k)))

-- the same of a read
abbrev pub load_step : ℕ → ℕ → ℕ → ℕ → ℕ → Option Step
load_step sector first count k j =
    if nat_le count k then None
    else (if j == 0 then Some (steps.DiskRead (sector + k)) else Some (steps.Write (128 * (first + k) + (j - 1))))

-- the step at a place of a task, from 0; none past its end
abbrev pub step_at : Task → ℕ → Option Step
step_at (tasks.Page gref words) place = if place == 0 then Some (steps.Map gref ReadOnly) else (if nat_lt words place then None else Some (steps.Read (place - 1)))
step_at (tasks.Store gref mode sector first count) place = if place == 0 then Some (steps.Map gref mode) else store_step sector first count ((place - 1) / 129) ((place - 1) % 129)
step_at (tasks.Load gref sector first count) place = if place == 0 then Some (steps.Map gref ReadWrite) else load_step sector first count ((place - 1) / 129) ((place - 1) % 129)
step_at tasks.Flush place = if place == 0 then Some steps.Flush else None
step_at (tasks.Trim sector count) place = if place == 0 then Some (steps.Trim sector count) else None

abbrev pub is_step_at : Option Step → Move → Bool
is_step_at None move = false
is_step_at (Some step) move = is_step step move

-- a task on a frame of data that is mapped for writing, whose map may be missing under persistent grants
abbrev pub is_on_data : Task → Bool
is_on_data (tasks.Store gref ReadWrite sector first count) = true
is_on_data (tasks.Load gref sector first count) = true
is_on_data task = false

-- how far a job came: how many of its tasks are done, the place of its next step in the next one, whether a map of it was refused, and the mapping that this task goes through, as soon as one is named
abbrev pub spot : ℕ → ℕ → Bool → Option ℕ → Spot
spot done place refused mapping = record { done = done; place = place; refused = refused; mapping = mapping }

-- the mapping that a move names: the one that a map gives, or that is touched
abbrev pub mapping_after : Option ℕ → Move → Option ℕ
mapping_after mapping (moves.Map who gref mode number frame) = Some number
mapping_after mapping (moves.Read who number frame word value) = Some number
mapping_after mapping (moves.Write who number frame word value) = Some number
mapping_after mapping move = mapping

-- after the step at a place of a task
abbrev pub spot_after : ℕ → Task → ℕ → Option ℕ → Move → Spot
spot_after done task place mapping move =
    if is_none (step_at task (place + 1)) then spot (done + 1) 0 (is_refusal move) None
    else spot done (place + 1) (is_refusal move) (mapping_after mapping move)

-- a move is the step after the map of a task, and that map may be missing
abbrev pub is_unmapped_step : Bool → Task → ℕ → Move → Bool
is_unmapped_step persistent task place move = persistent && is_on_data task && (place == 0) && is_step_at (step_at task 1) move

abbrev pub spot_in : Bool → ℕ → Option Task → ℕ → Option ℕ → Move → Option Spot
spot_in persistent done None place mapping move = None
spot_in persistent done (Some task) place mapping move =
    if is_step_at (step_at task place) move then Some (spot_after done task place mapping move)
    else (if is_unmapped_step persistent task place move then Some (spot_after done task 1 mapping move)
    else None)

-- a move takes a job one step on; none where it isn't the next step, or a map was refused before
abbrev pub advanced : Bool → List Task → Move → Spot → Option Spot
advanced persistent work move s = if s.refused then None else spot_in persistent s.done (slice_get work s.done) s.place s.mapping move

abbrev pub walked : Bool → List Task → Option Move → Option Spot → Option Spot
walked persistent work None s = s
walked persistent work (Some move) s = option_and_then (advanced persistent work move) s

-- how far job k came by these lines; none where a move of it isn't its next step
abbrev pub walk_of : Bool → List Task → ℕ → List Line → Option Spot
walk_of persistent work k epoch = fold (λ (s : Option Spot) (line : Line). walked persistent work (job_step k line) s) (Some (spot 0 0 false None)) epoch

-- how far job k came in the work of its entry
abbrev pub spot_of : List Line → ℕ → Fetched → Option Spot
spot_of before k f = walk_of f.persistent (work_of before k f) k (this_epoch before)
