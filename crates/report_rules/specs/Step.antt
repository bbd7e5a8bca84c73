-- The steps of the work of an entry (`io/blkif.h`), one after another, and which moves of a job are, one by one, the first ones of them. Each move of a job is a step, but an unmap.
use Rattle.std.specs.Prelude.{ℕ, ◌+◌, ◌*◌, Bool, true, false, not, ◌&&◌, ◌==◌, if◌then◌else◌, List, [], ◌∷◌, ◌++◌, map, drop, Option, Some, None}
use Rattle.std.specs.List.{filter_map, flat_map, range_with_len}
use Rattle.blk_base.specs.declared.parts.Mode.{Mode}
use Rattle.blk_base.specs.declared.parts.Mode.TheVariants.{ReadOnly, ReadWrite}
use Rattle.blk_base.specs.declared.moves.Move.{Move}
use Rattle.blk_base.specs.declared.moves.Move.TheVariants as moves
use Rattle.grant_table.specs.Entry.{is_for_writing}
use Rattle.schedule_text.specs.declared.line.Line.{Line}
use Rattle.schedule_text.specs.declared.line.Line.TheVariants as lines
use Rattle.report_rules.specs.declared.job.Fetched.{Fetched}
use Rattle.report_rules.specs.declared.work.Task.{Task}
use Rattle.report_rules.specs.declared.work.Task.TheVariants as tasks
use Rattle.report_rules.specs.declared.step.Step.{Step}
use Rattle.report_rules.specs.declared.step.Step.TheVariants as steps
use Rattle.report_rules.specs.Standing.{this_epoch}
use Rattle.report_rules.specs.Work.{work_tasks}
use Rattle.report_rules.specs.Job.{disk_mover, is_job, back_mover_job, mover_job}

-- the 128 words of sector `first + k` of a frame
abbrev pub words_of_sector : ℕ → ℕ → List ℕ
words_of_sector first k = range_with_len (128 * (first + k)) 128

-- sector k of a write: its words are read, and then it is written to the disk
abbrev pub stored : ℕ → ℕ → ℕ → List Step
stored sector first k = map steps.Read (words_of_sector first k) ++ steps.DiskWrite (sector + k) ∷ []

-- sector k of a read: it is read from the disk, and then its words are written
abbrev pub loaded : ℕ → ℕ → ℕ → List Step
loaded sector first k = steps.DiskRead (sector + k) ∷ map steps.Write (words_of_sector first k)

-- the steps of a task: its frame is mapped, and then its words are moved, sector by sector
abbrev pub steps_in : Task → List Step
steps_in (tasks.Page gref words) = steps.Map gref ReadOnly ∷ map steps.Read (range_with_len 0 words)
steps_in (tasks.Store gref mode sector first count) = steps.Map gref mode ∷ flat_map (stored sector first) (range_with_len 0 count)
steps_in (tasks.Load gref sector first count) = steps.Map gref ReadWrite ∷ flat_map (loaded sector first) (range_with_len 0 count)
steps_in tasks.Flush = steps.Flush ∷ []
steps_in (tasks.Trim sector count) = steps.Trim sector count ∷ []

-- the steps of a work: those of its tasks, one after another
abbrev pub steps_of : List Task → List Step
steps_of work = flat_map steps_in work

abbrev pub is_mode : Mode → Mode → Bool
is_mode ReadOnly mode = not (is_for_writing mode)
is_mode ReadWrite mode = is_for_writing mode

-- a move is that step, whatever it was answered
abbrev pub is_step : Step → Move → Bool
is_step (steps.Map gref mode) (moves.Map who other asked number frame) = (other == gref) && is_mode mode asked
is_step (steps.Map gref mode) (moves.MapRefused who other asked status) = (other == gref) && is_mode mode asked
is_step (steps.Read word) (moves.Read who number frame other value) = other == word
is_step (steps.Write word) (moves.Write who number frame other value) = other == word
is_step (steps.DiskRead sector) (moves.DiskRead k other) = other == sector
is_step (steps.DiskWrite sector) (moves.DiskWrite k other) = other == sector
is_step steps.Flush (moves.DiskFlush k) = true
is_step (steps.Trim sector count) (moves.DiskTrim k other many) = (other == sector) && (many == count)
is_step step move = false

abbrev pub is_refusal : Move → Bool
is_refusal (moves.MapRefused who gref mode status) = true
is_refusal move = false

-- a step on a frame that was mapped
abbrev pub is_on_frame : Step → Bool
is_on_frame (steps.Read word) = true
is_on_frame (steps.Write word) = true
is_on_frame (steps.DiskRead sector) = true
is_on_frame (steps.DiskWrite sector) = true
is_on_frame step = false

-- a move is the first of these steps, and it is one on a frame
abbrev pub begins_on_frame : List Step → Move → Bool
begins_on_frame [] move = false
begins_on_frame (step ∷ later) move = is_on_frame step && is_step step move

-- under persistent grants the map of a frame for writing may be missing (`feature-persistent`)
abbrev pub may_be_missing : Bool → Step → Bool
may_be_missing persistent (steps.Map gref ReadWrite) = persistent
may_be_missing persistent step = false

-- a map that was refused leaves no step
abbrev pub left_by : Move → List Step → List Step
left_by move later = if is_refusal move then [] else later

-- these moves are, one by one, the first ones of these steps; where a map may be missing, the step on its frame may come in its place
abbrev pub are_first_of : Bool → List Move → List Step → Bool
are_first_of persistent [] left = true
are_first_of persistent (move ∷ later) [] = false
are_first_of persistent (move ∷ later) (step ∷ left) =
    if is_step step move then are_first_of persistent later (left_by move left)
    else (may_be_missing persistent step && begins_on_frame left move && are_first_of persistent later (left_by move (drop 1 left)))

-- the job whose move a line is, apart from unmaps
abbrev pub stepper : Line → Option ℕ
stepper (lines.Move (moves.Read who number frame word value)) = back_mover_job who
stepper (lines.Move (moves.Write who number frame word value)) = back_mover_job who
stepper (lines.Move (moves.Map who gref mode number frame)) = back_mover_job who
stepper (lines.Move (moves.MapRefused who gref mode status)) = back_mover_job who
stepper (lines.Move (moves.Fence who)) = mover_job who
stepper (lines.Move (moves.Send who)) = mover_job who
stepper (lines.Move (moves.ClosePort who)) = mover_job who
stepper (lines.Move (moves.Event who)) = mover_job who
stepper (lines.Move (moves.Watch who path)) = mover_job who
stepper (lines.Move (moves.Watched who path)) = mover_job who
stepper (lines.Move (moves.GetKey who path text)) = mover_job who
stepper (lines.Move (moves.SetKey who path text)) = mover_job who
stepper line = disk_mover line

abbrev pub move_in : Line → Option Move
move_in (lines.Move move) = Some move
move_in line = None

-- the move of job k that a line is, apart from its unmaps
abbrev pub job_step : ℕ → Line → Option Move
job_step k line = if is_job k (stepper line) then move_in line else None

-- the moves of job k in these lines, apart from unmaps
abbrev pub moves_of : ℕ → List Line → List Move
moves_of k epoch = filter_map (job_step k) epoch

-- what a read of job k showed
abbrev pub value_read : ℕ → Line → Option ℕ
value_read k (lines.Move (moves.Read who number frame word value)) = if is_job k (back_mover_job who) then Some value else None
value_read k line = None

-- the words that job k read in this epoch, of which the first are those of its indirect pages
abbrev pub values_read : List Line → ℕ → List ℕ
values_read before k = filter_map (value_read k) (this_epoch before)

-- the work of job k, as far as the words of its indirect pages that it read tell
abbrev pub work_of : List Line → ℕ → Fetched → List Task
work_of before k f = work_tasks f.request f.disk f.persistent (values_read before k)
