-- The steps of a job (`io/blkif.h`): apart from unmaps its moves are, one by one, the first ones of the steps of its work, those of its tasks one after another; the work is that of its entry as it was fetched. So no word of an indirect page or of data is read twice. Each segment is touched through one mapping.
use Rattle.std.specs.Prelude.{◌≡◌, ℕ, Bool, true, false, ◌&&◌, ◌||◌, ◌==◌, List, [], ◌∷◌, ◌++◌, slice_get, Option, Some, None, IfSome, IsSomeAnd}
use Rattle.std.specs.List.{list_any}
use Rattle.blk_base.specs.declared.moves.Move.{Move}
use Rattle.blk_base.specs.declared.moves.Move.TheVariants as moves
use Rattle.schedule_text.specs.declared.line.Line.{Line}
use Rattle.schedule_text.specs.declared.line.Line.TheVariants as lines
use Rattle.report_rules.specs.declared.standing.Standing.{Standing}
use Rattle.report_rules.specs.declared.job.Fetched.{Fetched}
use Rattle.report_rules.specs.declared.work.Task.{Task}
use Rattle.report_rules.specs.declared.work.Task.TheVariants as tasks
use Rattle.report_rules.specs.declared.walk.Spot.{Spot}
use Rattle.report_rules.specs.Obeys.{Obeys}
use Rattle.report_rules.specs.Standing.{this_epoch, numbered}
use Rattle.report_rules.specs.Job.{fetched_of, disk_mover, is_job}
use Rattle.report_rules.specs.Made.{kept_before}
use Rattle.report_rules.specs.Step.{steps_of, are_first_of, stepper, moves_of, work_of}
use Rattle.report_rules.specs.Walk.{step_at, is_step_at, is_unmapped_step, spot_of}

-- the reference whose frame a task touches
abbrev pub gref_of : Task → ℕ
gref_of (tasks.Page gref words) = gref
gref_of (tasks.Store gref mode sector first count) = gref
gref_of (tasks.Load gref sector first count) = gref
gref_of task = 0

-- the mapping that a move touches, if it touches one
abbrev pub touched_by : Move → Option ℕ
touched_by (moves.Read who number frame word value) = Some number
touched_by (moves.Write who number frame word value) = Some number
touched_by move = None

abbrev pub is_fault : Line → Bool
is_fault (lines.Fault id index) = true
is_fault line = false

-- the disk failed at a move of job k
abbrev pub begins_with_fault : List Line → Bool
begins_with_fault [] = false
begins_with_fault (line ∷ later) = is_fault line

abbrev pub failed_in : ℕ → List Line → Bool
failed_in k [] = false
failed_in k (line ∷ later) = (is_job k (disk_mover line) && begins_with_fault later) || failed_in k later

-- the mapping of a number is kept for a reference: a job made it in this epoch, and it stands, for writing
abbrev pub IsKeptFor : List Line → ℕ → ℕ → Type 0
IsKeptFor before gref number = IsSomeAnd (numbered number (kept_before before)) (λ m. m.gref ≡ gref)

-- one is kept for it
abbrev pub is_kept_for : List Line → ℕ → Bool
is_kept_for before gref = list_any (λ (m : Standing). m.gref == gref) (kept_before before)

-- the words of a frame are touched through the mapping that the map of the task gave; where that map is missing, through one and the same mapping that is kept for its reference, and one is kept when the step comes that would follow the map
pub record IsThrough (before : List Line) (task : Task) (s : Spot) (move : Move) : Type 0 where
  pub same : IfSome s.mapping (λ mine. IfSome (touched_by move) (λ number. number ≡ mine))
  pub kept : s.mapping ≡ None → IfSome (touched_by move) (IsKeptFor before (gref_of task))
  pub stands : (s.place == 0) ≡ true → is_step_at (step_at task 0) move ≡ false → is_kept_for before (gref_of task) ≡ true

-- with this move the moves of job k are, one by one, the first ones of the steps of the work of its entry; the move goes through the mapping of its task, and it doesn't follow a failure of the disk
pub record IsStepOf (before : List Line) (k : ℕ) (move : Move) (f : Fetched) : Type 0 where
  pub first : are_first_of f.persistent (moves_of k (this_epoch before) ++ move ∷ []) (steps_of (work_of before k f)) ≡ true
  pub through : IsSomeAnd (spot_of before k f) (λ s. IsSomeAnd (slice_get (work_of before k f) s.done) (λ task. IsThrough before task s move))
  pub whole : failed_in k (this_epoch before) ≡ false

-- each move of a job but an unmap is a step of its work
abbrev pub IsStepAt : List Line → Line → Type 0
IsStepAt before (lines.Move move) = IfSome (stepper (lines.Move move)) (λ k. IsSomeAnd (fetched_of before k) (IsStepOf before k move))
IsStepAt before line = Unit {0}

abbrev pub AreSteps : List Line → Type 0
AreSteps report = Obeys IsStepAt report

-- how a reader tells it, move by move: a move is the next step of a task, and none follows a refused map
pub record IsNextStep (before : List Line) (persistent : Bool) (s : Spot) (move : Move) (task : Task) : Type 0 where
  pub unrefused : s.refused ≡ false
  pub step : (is_step_at (step_at task s.place) move || is_unmapped_step persistent task s.place move) ≡ true
  pub through : IsThrough before task s move
