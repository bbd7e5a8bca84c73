-- The words that a job of the back moves many at once of a sector, and the back itself of an entry: that many single asks and answers.
use Rattle.std.specs.Prelude.{ℕ, ◌+◌, ◌-◌, false, List, [], ◌++◌, length, fold, min, Option, Some, None, is_some, if◌then◌else◌}
use Rattle.blk_base.specs.declared.ask.BackAsk.{BackAsk}
use Rattle.blk_base.specs.declared.ask.BackAnswer.{BackAnswer}
use Rattle.ring_words.specs.Shape.{entry_words_of}
use Rattle.back_jobs.specs.declared.part.SectorPart.{SectorPart}
use Rattle.back_jobs.specs.Part.{part_of, part_values, MovesEach}
use Rattle.blk_back.specs.declared.stage.BackStage.{BackStage}
use Rattle.blk_back.specs.declared.stage.BackStage.TheVariants as stage
use Rattle.blk_back.specs.View.{View, slot_page, slot_word}
use Rattle.blk_back.specs.Ask.{ask_of}
use Rattle.blk_back.specs.Step.{job_ask_of, job_step}
use Rattle.blk_back.specs.Keeping.{step_keeping, job_ask_keeping, job_step_keeping}

-- the words that the job of a number asks for next; after a halt no job asks for any
abbrev pub job_part : View → ℕ → Option SectorPart
job_part v number = if is_some v.halted then None else part_of v.jobs number

-- what is to be written to them
abbrev pub job_values : View → ℕ → List ℕ
job_values v number = if is_some v.halted then [] else part_values v.jobs number

-- what answers to the job of a number, one after another, make of the back
abbrev pub job_steps_keeping : View → ℕ → List BackAnswer → View
job_steps_keeping v number answers = fold (λ (w : View) a. job_step_keeping w number a) v answers

-- what the job asks after them
abbrev pub job_asked_keeping : View → ℕ → List BackAnswer → BackAsk
job_asked_keeping v number answers = job_ask_keeping (job_steps_keeping v number answers) number

-- each of them is to a word that it asks for then
abbrev pub MovesEachKeeping : View → ℕ → List BackAnswer → Type 0
MovesEachKeeping v number answers = MovesEach (λ (w : View). job_ask_keeping w number) (λ (w : View) a. job_step_keeping w number a) v answers

-- so it is where no mapping may be kept
abbrev pub job_steps : View → ℕ → List BackAnswer → View
job_steps v number answers = fold (λ (w : View) a. job_step w number a) v answers

abbrev pub job_asked : View → ℕ → List BackAnswer → BackAsk
job_asked v number answers = job_ask_of (job_steps v number answers) number

abbrev pub JobMovesEach : View → ℕ → List BackAnswer → Type 0
JobMovesEach v number answers = MovesEach (λ (w : View). job_ask_of w number) (λ (w : View) a. job_step w number a) v answers

-- the words of the next entry from word k on, up to the last one of the entry, or of their page where the entry goes on in the next
abbrev pub entry_from : View → (k : ℕ) → SectorPart
entry_from v k =
    let word : ℕ = slot_word v.shape v.ring.indices.cons k in
    record { mapping = slot_page v v.ring.indices.cons k; word = word; count = min (entry_words_of v.shape.abi - k) (1024 - word); writes = false }

-- those that the back asks for next where it copies an entry whose first word it has
abbrev pub entry_part_at : BackStage → View → Option SectorPart
entry_part_at (stage.Fetch k) v = Some (entry_from v k)
entry_part_at s v = None

abbrev pub entry_part : View → Option SectorPart
entry_part v = if is_some v.halted then None else entry_part_at v.stage v

-- it copies these words of it, the first of which is word k, and not its last one
abbrev pub copied : View → (k : ℕ) → List ℕ → View
copied v k words = record v { ring = record v.ring { entry = v.ring.entry ++ words }; stage = stage.Fetch (k + length words) }

-- what answers to the back itself, one after another, make of it, what it asks after them, and that each is to a word that it asks for then
abbrev pub steps_keeping : View → List BackAnswer → View
steps_keeping v answers = fold step_keeping v answers

abbrev pub asked_keeping : View → List BackAnswer → BackAsk
asked_keeping v answers = ask_of (steps_keeping v answers)

abbrev pub BackMovesEachKeeping : View → List BackAnswer → Type 0
BackMovesEachKeeping v answers = MovesEach ask_of step_keeping v answers
