-- The pipeline: requests on their way to the disk and back (`io/blkif.h`, `io/ring.h`), and nothing of memory. It stands between the machine of shared words and the plain disk.
use Rattle.std.specs.Prelude.{ℕ, Bool, true, false, List, [], ◌∷◌, ◌++◌, length, map, slice_set, ◌+◌}
use Rattle.blk_base.specs.Options.{Options}
use Rattle.blk_base.specs.declared.config.Submission.{Submission}
use Rattle.schedule_text.specs.declared.line.Detail.{Detail}
use Rattle.blk_base.specs.declared.halt.Halt.{Halt}
use Rattle.blk_base.specs.declared.refusal.Refusal.{Refusal}
use Rattle.schedule_text.specs.declared.line.Line.{Line}
use Rattle.schedule_text.specs.declared.line.Line.TheVariants as lines
use Rattle.pipeline_laws.specs.Station.{Station, Waiting, Telling, Finished, PipelineRequest, submitted}
use Rattle.pipeline_laws.specs.Move.{Move, moved, move_lines}

-- whether the front is connected in this epoch, whether it began to close, and whether it is closed (`io/xenbus.h`)
pub record Front : Type 0 where
  pub connected : Bool
  pub closing : Bool
  pub closed : Bool

-- the options of the run, the front's state, and the requests, number 1 first
pub record Pipeline : Type 0 where
  pub options : Options
  pub front : Front
  pub requests : List PipelineRequest

abbrev pub pipeline_of : Options → Pipeline
pipeline_of options = record { options = options; front = record { connected = false; closing = false; closed = false }; requests = [] }

pub data Step : Type 0 where
  -- a submission is accepted, or refused
  Submits : (submission : Submission) → Step
  Refuses : (submission : Submission) (refusal : Refusal) → Step
  -- the request at this place of the list, as it stands, makes a move
  Moves : (k : ℕ) (x : PipelineRequest) (move : Move) → Step
  -- the front connects, begins to close, and is closed; the back leaves a front that is gone
  Connects : Step
  StartsToClose : Step
  Closes : Step
  Leaves : (why : Halt) → Step
  -- the guest is suspended and resumed
  Resumes : Step
  -- somebody looks, and nothing is left to do
  Rests : Step
  -- a line that tells nothing of a request
  Shows : (line : Line) → Step

-- in a new epoch each request whose answer wasn't told waits again
abbrev pub station_again : Station → Station
station_again (Telling next) = Telling next
station_again (Finished status) = Finished status
station_again station = Waiting

abbrev pub again : PipelineRequest → PipelineRequest
again x = record x { station = station_again x.station }

abbrev pub next : Pipeline → Step → Pipeline
next p (Submits submission) = record p { requests = p.requests ++ submitted submission ∷ [] }
next p (Refuses submission refusal) = p
next p (Moves k x move) = record p { requests = slice_set p.requests k (moved x move) }
next p Connects = record p { front = record p.front { connected = true } }
next p StartsToClose = record p { front = record p.front { closing = true } }
next p Closes = record p { front = record p.front { closed = true } }
next p (Leaves why) = p
next p Resumes = record p { front = record p.front { connected = false }; requests = map again p.requests }
next p Rests = p
next p (Shows line) = p

-- the lines of a step
abbrev pub step_lines : Pipeline → Step → List Line
step_lines p (Submits submission) = lines.Submit (length p.requests + 1) submission ∷ []
step_lines p (Refuses submission refusal) = lines.Refuse refusal ∷ []
step_lines p (Moves k x move) = move_lines k move
step_lines p Connects = lines.Ready ∷ []
step_lines p StartsToClose = lines.Closing ∷ []
step_lines p Closes = lines.Closed ∷ []
step_lines p (Leaves why) = lines.Halt why ∷ []
step_lines p Resumes = lines.Epoch ∷ []
step_lines p Rests = lines.Quiet ∷ []
step_lines p (Shows line) = line ∷ []

-- the pipeline after these steps
abbrev pub after_steps : List Step → Pipeline → Pipeline
after_steps [] p = p
after_steps (s ∷ steps) p = after_steps steps (next p s)

-- their lines
abbrev pub lines_of : List Step → Pipeline → List Line
lines_of [] p = []
lines_of (s ∷ steps) p = step_lines p s ++ lines_of steps (next p s)

-- the report of these steps from the start
abbrev pub report_of : Options → Detail → List Step → List Line
report_of options detail steps = lines.Begin options detail ∷ lines_of steps (pipeline_of options)
