-- The words that a job of the backend moves many at once of a sector, and its end of the ring of an entry: that many single asks and answers.
use Rattle.std.specs.Prelude.{ℕ, List, Option, None, fold}
use Rattle.blk_base.specs.declared.ask.BackAsk.{BackAsk}
use Rattle.blk_base.specs.declared.ask.BackAnswer.{BackAnswer}
use Rattle.back_jobs.specs.declared.part.SectorPart.{SectorPart}
use Rattle.back_jobs.specs.Part.{MovesEach}
use Rattle.blk_back.specs.Part as ring_part
use Rattle.vbd_back.specs.declared.turn.Turn.{Turn}
use Rattle.vbd_back.specs.declared.turn.Turn.TheVariants.{Ring}
use Rattle.vbd_back.specs.View.{View}
use Rattle.vbd_back.specs.Ask.{ask_of}
use Rattle.vbd_back.specs.Step.{step_of, job_ask_of, job_step}
use Rattle.vbd_back.specs.Turn.{turn_of}

-- the words that the job of a number asks for next, and what is to be written to them
abbrev pub job_part : View → ℕ → Option SectorPart
job_part v number = ring_part.job_part v.ring number

abbrev pub job_values : View → ℕ → List ℕ
job_values v number = ring_part.job_values v.ring number

-- what answers to the job of a number, one after another, make of the backend
abbrev pub job_steps : View → ℕ → List BackAnswer → View
job_steps v number answers = fold (λ (w : View) a. job_step w number a) v answers

-- what the job asks after them
abbrev pub job_asked : View → ℕ → List BackAnswer → BackAsk
job_asked v number answers = job_ask_of (job_steps v number answers) number

-- each of them is to a word that it asks for then
abbrev pub JobMovesEach : View → ℕ → List BackAnswer → Type 0
JobMovesEach v number answers = MovesEach (λ (w : View). job_ask_of w number) (λ (w : View) a. job_step w number a) v answers

-- the words of an entry that the ring's end copies next, while the negotiation asks for nothing
abbrev pub entry_part_by : Turn → View → Option SectorPart
entry_part_by Ring v = ring_part.entry_part v.ring
entry_part_by turn v = None

abbrev pub entry_part : View → Option SectorPart
entry_part v = entry_part_by (turn_of v) v

-- what answers to the backend itself, one after another, make of it, what it asks after them, and that each is to a word that it asks for then
abbrev pub steps_of : View → List BackAnswer → View
steps_of v answers = fold step_of v answers

abbrev pub asked_after : View → List BackAnswer → BackAsk
asked_after v answers = ask_of (steps_of v answers)

abbrev pub BackMovesEach : View → List BackAnswer → Type 0
BackMovesEach v answers = MovesEach ask_of step_of v answers
