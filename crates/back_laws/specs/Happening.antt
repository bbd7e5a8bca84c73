-- What may happen to a back, in any order: what its public calls do to it (`blk_back: Back`), with any answers that its asks allow, where it is attached with no mapping to keep.
use Rattle.std.specs.Prelude.{◌≡◌, ℕ, ◌^◌, ◌<◌, List, [], ◌∷◌, None}
use Rattle.blk_base.specs.declared.ask.BackAnswer.{BackAnswer}
use Rattle.blk_base.specs.declared.ask.BackAnswer.TheVariants as answer
use Rattle.ring_words.specs.Shape.{Shape}
use Rattle.back_jobs.specs.Work.{IsAnswer as IsJobAnswer}
use Rattle.blk_base.specs.declared.halt.Halt.{Halt}
use Rattle.blk_back.specs.View.{View}
use Rattle.blk_back.specs.Ask.{ask_of, IsAnswer}
use Rattle.blk_back.specs.Step.{step_of, job_ask_of, job_step, attaches, halts}

-- Its ask is answered (`tell`), or that of the job of a number (`job_tell`); what is to be told is taken (`take_told`); its negotiation has terms for it (`attach`), or has it halt (`halt`).
pub data Happening : Type 0 where
  Answers : (answer : BackAnswer) → Happening
  AnswersJob : (number : ℕ) (answer : BackAnswer) → Happening
  TakesTold : Happening
  Attaches : (shape : Shape) (grefs : List ℕ) (port : ℕ) → Happening
  Halts : (why : Halt) → Happening

-- what a happening makes of the back
abbrev pub happened : Happening → View → View
happened (Answers given) v = step_of v given
happened (AnswersJob number given) v = job_step v number given
happened TakesTold v = record v { told = None }
happened (Attaches shape grefs port) v = attaches shape grefs port v
happened (Halts why) v = halts why v

-- a word has 32 bits
abbrev pub IsNarrow : BackAnswer → Type 0
IsNarrow (answer.Word value) = value < 2 ^ 32
IsNarrow given = Unit {0}

-- an answer is one that the ask allows, whatever it says; and what the last one told was taken before
abbrev pub MayHappen : Happening → View → Type 0
MayHappen (Answers given) v = IsAnswer (ask_of v) given × (v.told ≡ None) × IsNarrow given
MayHappen (AnswersJob number given) v = IsJobAnswer (job_ask_of v number) given × (v.told ≡ None)
MayHappen h v = Unit {0}

-- the back after them
abbrev pub after : List Happening → View → View
after [] v = v
after (h ∷ hs) v = after hs (happened h v)

abbrev pub AllMayHappen : List Happening → View → Type 0
AllMayHappen [] v = Unit {0}
AllMayHappen (h ∷ hs) v = MayHappen h v × AllMayHappen hs (happened h v)
