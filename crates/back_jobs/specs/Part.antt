-- The words of a sector that a job has read from its frame or written to it one after another, and many such moves at once: they are that many single asks and answers.
use Rattle.std.specs.Prelude.{◌≡◌, ℕ, ◌+◌, ◌-◌, ◌<◌, ◌≤◌, Bool, true, false, List, [], ◌∷◌, length, map, fold, drop, replicate, slice_index, Option, Some, None, Contains}
use Rattle.blk_base.specs.declared.parts.Mapping.{Mapping}
use Rattle.blk_base.specs.declared.parts.Mode.TheVariants.{ReadWrite}
use Rattle.blk_base.specs.declared.ask.BackAsk.{BackAsk}
use Rattle.blk_base.specs.declared.ask.BackAsk.TheVariants as ask
use Rattle.blk_base.specs.declared.ask.BackAnswer.{BackAnswer}
use Rattle.blk_base.specs.declared.ask.BackAnswer.TheVariants.{Done, Word}
use Rattle.persist_grants.specs.KeptMappings.{may_keep}
use Rattle.back_jobs.specs.declared.part.SectorPart.{SectorPart}
use Rattle.back_jobs.specs.declared.stage.JobStage.{JobStage}
use Rattle.back_jobs.specs.declared.stage.JobStage.TheVariants as stage
use Rattle.back_jobs.specs.Work.{Work, word_at, step_of}
use Rattle.back_jobs.specs.Jobs.{HeldJobs, place_of, work_of, effect_of}
use Rattle.back_jobs.specs.Keeping.{waits_in, ask_keeping, complete_keeping}

-- the words of a sector from the k-th on
abbrev pub part_from : Work → Mapping → (k : ℕ) → (writes : Bool) → SectorPart
part_from t m k writes = record { mapping = m; word = word_at t k; count = 128 - k; writes = writes }

-- those that a job asks for next: they are read on their way to the disk, and written on their way from it
abbrev pub part_at : JobStage → Work → Option SectorPart
part_at (stage.ReadWord m k) t = Some (part_from t m k false)
part_at (stage.WriteWord m k) t = Some (part_from t m k true)
part_at s t = None

-- a job that waits for another asks for none
abbrev pub part_in : Bool → Option Work → Option SectorPart
part_in held None = None
part_in true (Some t) = None
part_in false (Some t) = part_at t.stage t

-- those that the job of a number asks for next
abbrev pub part_of : HeldJobs → ℕ → Option SectorPart
part_of h number = part_in (waits_in (may_keep h.kept) h.works (place_of h.works number) (work_of h.works number)) (work_of h.works number)

-- what is to be written to them
abbrev pub values_at : JobStage → List ℕ → List ℕ
values_at (stage.WriteWord m k) words = drop k words
values_at s words = []

abbrev pub values_in : Option Work → List ℕ
values_in None = []
values_in (Some t) = values_at t.stage t.words

abbrev pub part_values : HeldJobs → ℕ → List ℕ
part_values h number = values_in (work_of h.works number)

-- there is a word, there are at most a sector's, and all lie in the page
abbrev pub IsWithinPage : SectorPart → Type 0
IsWithinPage part = (0 < part.count) × (part.count ≤ 128) × (part.word + part.count ≤ 1024)

-- the mapping is held, and what is written through was made for writing
abbrev pub NamesPart : List Mapping → SectorPart → Type 0
NamesPart held part = Contains held part.mapping × (part.writes ≡ true → part.mapping.mode ≡ ReadWrite)

-- so many words, or more, are read; or written
abbrev pub IsReadPart : SectorPart → ℕ → Type 0
IsReadPart part count = (part.writes ≡ false) × (count ≤ part.count)

abbrev pub IsWrittenPart : SectorPart → ℕ → Type 0
IsWrittenPart part count = (part.writes ≡ true) × (count ≤ part.count)

-- written, and more are left
abbrev pub IsPassedPart : SectorPart → ℕ → Type 0
IsPassedPart part count = (part.writes ≡ true) × (count < part.count)

-- the answers to reads that give these words, and to so many writes
abbrev pub words_read : List ℕ → List BackAnswer
words_read words = map (λ word. Word word) words

abbrev pub words_written : ℕ → List BackAnswer
words_written count = replicate count Done

-- what answers, one after another, make of a job
abbrev pub steps_of : Work → List BackAnswer → Work
steps_of t answers = fold step_of t answers

-- the job of a number is told answers, one after another
abbrev pub told_each : HeldJobs → ℕ → List BackAnswer → HeldJobs
told_each h number answers = fold (λ (g : HeldJobs) a. complete_keeping g number a) h answers

-- what it asks after them
abbrev pub asked_after : HeldJobs → ℕ → List BackAnswer → BackAsk
asked_after h number answers = ask_keeping (told_each h number answers) number

-- what is asked after answers (`asked`) is each word of a part in turn: one that is read, whatever was read before it, and one that is written, with its value
pub record AsksEach (part : SectorPart) (values : List ℕ) (asked : List BackAnswer → BackAsk) : Type 0 where
  pub reads : part.writes ≡ false → (words : List ℕ) → length words < part.count → asked (words_read words) ≡ ask.Read part.mapping (part.word + length words)
  pub writes : part.writes ≡ true → (j : ℕ) → j < part.count → asked (words_written j) ≡ ask.Write part.mapping (part.word + j) (slice_index values j)

-- a word was asked for, and this is the answer: the word that was read, or that it is written
abbrev pub MovesWord : BackAsk → BackAnswer → Type 0
MovesWord (ask.Read m word) (Word value) = Unit {0}
MovesWord (ask.Write m word value) Done = Unit {0}
MovesWord a answer = ⊥

-- each of these answers, one after another, is one to a word that is asked for then (`asked` is what is asked, `step` what an answer makes of it)
abbrev pub MovesEach : {S : Type 0} → (asked : S → BackAsk) → (step : S → BackAnswer → S) → S → List BackAnswer → Type 0
MovesEach asked step s [] = Unit {0}
MovesEach asked step s (a ∷ answers) = MovesWord (asked s) a × MovesEach asked step (step s a) answers

abbrev pub JobMovesEach : HeldJobs → ℕ → List BackAnswer → Type 0
JobMovesEach h number answers = MovesEach (λ (g : HeldJobs). ask_keeping g number) (λ (g : HeldJobs) a. complete_keeping g number a) h answers

-- none of them does anything to the request
abbrev pub HaveNoEffect : HeldJobs → ℕ → List BackAnswer → Type 0
HaveNoEffect h number [] = Unit {0}
HaveNoEffect h number (a ∷ answers) = (effect_of (work_of h.works number) a ≡ None) × HaveNoEffect (complete_keeping h number a) number answers
