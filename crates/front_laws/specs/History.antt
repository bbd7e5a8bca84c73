-- A front alone: what may happen to it, in any order, whoever answers its asks, and the trace of it.
use Rattle.std.specs.Prelude.{◌≡◌, List, [], ◌∷◌, ◌++◌, length, map, drop, Option, None, if◌then◌else◌}
use Rattle.blk_base.specs.declared.config.Submission.{Submission}
use Rattle.blk_base.specs.declared.ask.FrontAsk.{FrontAsk}
use Rattle.blk_base.specs.declared.ask.FrontAnswer.{FrontAnswer}
use Rattle.blk_front.specs.declared.request.Request.{Request}
use Rattle.blk_front.specs.declared.state.FrontState.{FrontState}
use Rattle.blk_front.specs.declared.told.Told.{Told}
use Rattle.blk_front.specs.View.{View}
use Rattle.blk_front.specs.Ask.{ask_of, IsAnswer}
use Rattle.blk_front.specs.Step.{step_of}
use Rattle.blk_front.specs.Submit.{submit_of}
use Rattle.blk_front.specs.State.{is_open, may_enter, enters}
use Rattle.blk_front.specs.Suspend.{suspended}

-- Its ask is answered; what it has to tell is taken; it is handed a submission; it is to enter a state; its domain was suspended and resumes. No other call changes a front.
pub data Happening : Type 0 where
  Answered : (answer : FrontAnswer) → Happening
  TakesTold : Happening
  Submits : (submission : Submission) → Happening
  Enters : (state : FrontState) → Happening
  Suspends : Happening

-- what a happening makes of the front
abbrev pub happened : Happening → View → View
happened (Answered answer) v = step_of v answer
happened TakesTold v = record v { told = None }
happened (Submits submission) v = (submit_of v submission).1
happened (Enters state) v = enters state v
happened Suspends v = suspended v

-- an answer is one of the ask's kind, with any value, and comes where nothing is left to be told
abbrev pub MayHappen : Happening → View → Type 0
MayHappen (Answered answer) v = IsAnswer (ask_of v) answer × (v.told ≡ None)
MayHappen h v = Unit {0}

-- the front after these happenings, and that each of them may happen
abbrev pub after : List Happening → View → View
after [] v = v
after (h ∷ happenings) v = after happenings (happened h v)

abbrev pub MayAllHappen : List Happening → View → Type 0
MayAllHappen [] v = Unit {0}
MayAllHappen (h ∷ happenings) v = MayHappen h v × MayAllHappen happenings (happened h v)

-- A line of the trace: an ask with its answer, and what the front has to tell then; a submission that it accepts, as the request with its number and its frames; a state that it enters; a suspend.
pub data Line : Type 0 where
  Asked : (ask : FrontAsk) (answer : FrontAnswer) (told : Option Told) → Line
  Submitted : (request : Request) → Line
  Entered : (state : FrontState) → Line
  Suspended : Line

-- an accepted submission is one request more; a state that it may not enter, and a suspend of a closed or broken front, change nothing
abbrev pub lines_of : Happening → View → List Line
lines_of (Answered answer) v = Asked (ask_of v) answer (step_of v answer).told ∷ []
lines_of TakesTold v = []
lines_of (Submits submission) v = map Submitted (drop (length v.requests) (submit_of v submission).1.requests)
lines_of (Enters state) v = if may_enter state v then Entered state ∷ [] else []
lines_of Suspends v = if is_open v.stage then Suspended ∷ [] else []

-- the trace of these happenings
abbrev pub trace_of : List Happening → View → List Line
trace_of [] v = []
trace_of (h ∷ happenings) v = lines_of h v ++ trace_of happenings (happened h v)
