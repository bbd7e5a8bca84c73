-- A back whose jobs keep mappings for later requests (`feature-persistent` of `io/blkif.h`): what may happen to it, in any order, with any answers that its asks allow; and what is true of every run.
use Rattle.std.specs.Prelude.{◌≡◌, ℕ, ◌≤◌, List, [], ◌∷◌, None, is_some, true, IsPermutation, length}
use Rattle.blk_base.specs.declared.parts.Mapping.{Mapping}
use Rattle.blk_base.specs.declared.ask.BackAnswer.{BackAnswer}
use Rattle.blk_base.specs.declared.halt.Halt.{Halt}
use Rattle.ring_words.specs.Shape.{Shape}
use Rattle.segment_list.specs.declared.verdict.DiskInfo.{DiskInfo}
use Rattle.back_jobs.specs.Work.{IsAnswer as IsJobAnswer}
use Rattle.back_jobs.specs.Hands.{Names, HandsKeep}
use Rattle.blk_back.specs.declared.stage.BackStage.{BackStage}
use Rattle.blk_back.specs.declared.stage.BackStage.TheVariants as stage
use Rattle.blk_back.specs.View.{View, new_of}
use Rattle.blk_back.specs.Ask.{ask_of, IsAnswer}
use Rattle.blk_back.specs.Step.{attaches}
use Rattle.blk_back.specs.Keeping.{step_keeping, job_ask_keeping, job_step_keeping, keeps, halts_keeping}
use Rattle.blk_back.specs.Hands.{hands_of, all_hands_of}
use Rattle.blk_back.specs.Sound.{IsCleared}

-- Its ask is answered (`tell`), or that of the job of a number (`job_tell`); what is to be told is taken (`take_told`); its negotiation has terms for it (`attach`), says how many mappings it may keep (`keep_at_most`), or has it halt (`halt`).
pub data KeptHappening : Type 0 where
  Answers : (answer : BackAnswer) → KeptHappening
  AnswersJob : (number : ℕ) (answer : BackAnswer) → KeptHappening
  TakesTold : KeptHappening
  Attaches : (shape : Shape) (grefs : List ℕ) (port : ℕ) → KeptHappening
  Keeps : (cap : ℕ) → KeptHappening
  Halts : (why : Halt) → KeptHappening

-- what a happening makes of the back
abbrev pub happened : KeptHappening → View → View
happened (Answers given) v = step_keeping v given
happened (AnswersJob number given) v = job_step_keeping v number given
happened TakesTold v = record v { told = None }
happened (Attaches shape grefs port) v = attaches shape grefs port v
happened (Keeps cap) v = keeps cap v
happened (Halts why) v = halts_keeping why v

-- an answer is one that the ask allows, whatever it says; and what the last one told was taken before
abbrev pub MayHappen : KeptHappening → View → Type 0
MayHappen (Answers given) v = IsAnswer (ask_of v) given × (v.told ≡ None)
MayHappen (AnswersJob number given) v = IsJobAnswer (job_ask_keeping v number) given × (v.told ≡ None)
MayHappen h v = Unit {0}

-- the back after them
abbrev pub after : List KeptHappening → View → View
after [] v = v
after (h ∷ hs) v = after hs (happened h v)

abbrev pub AllMayHappen : List KeptHappening → View → Type 0
AllMayHappen [] v = Unit {0}
AllMayHappen (h ∷ hs) v = MayHappen h v × AllMayHappen hs (happened h v)

-- a new back, of a ring of any first index and of any disk, and any happenings
pub record KeepingRun : Type 0 where
  pub start : ℕ
  pub info : DiskInfo
  pub happenings : List KeptHappening
  pub may : AllMayHappen happenings (new_of start info)

abbrev pub begins : KeepingRun → View
begins r = new_of r.start r.info

-- where it stands
abbrev pub now : KeepingRun → View
now r = after r.happenings (begins r)

-- as many mappings are kept as was said, which is at most 1000
abbrev pub KeepsFew : Type 0
KeepsFew = (r : KeepingRun) → (let v : View = now r in (length v.jobs.kept.entries ≤ v.jobs.kept.cap) × (v.jobs.kept.cap ≤ 1000))

-- what is held or kept after a happening: a mapping that was given came, one that was unmapped went, and no other did
abbrev pub HoldsAfter : KeptHappening → View → Type 0
HoldsAfter (Answers given) v = HandsKeep (ask_of v) given (all_hands_of v) (all_hands_of (happened (Answers given) v))
HoldsAfter (AnswersJob number given) v = HandsKeep (job_ask_keeping v number) given (all_hands_of v) (all_hands_of (happened (AnswersJob number given) v))
HoldsAfter h v = IsPermutation (all_hands_of v) (all_hands_of (happened h v))

abbrev pub LosesNone : Type 0
LosesNone = (r : KeepingRun) → (all_hands_of (begins r) ≡ []) × ((h : KeptHappening) → MayHappen h (now r) → HoldsAfter h (now r))

-- what it asks names only mappings in its hands, and words below 1024, and writes only through one that was made for writing; so does what each of its jobs asks, through a mapping that it made or took of those that are kept
abbrev pub NamesWhatItHolds : Type 0
NamesWhatItHolds = (r : KeepingRun) → Names (hands_of (now r)) (ask_of (now r))

abbrev pub JobsNameWhatIsHeld : Type 0
JobsNameWhatIsHeld = (r : KeepingRun) (number : ℕ) → Names (hands_of (now r)) (job_ask_keeping (now r) number)

-- a back that has halted, and is to do nothing more, holds and keeps none
abbrev pub LeavesNone : Type 0
LeavesNone = (r : KeepingRun) → (now r).stage ≡ stage.Halted → all_hands_of (now r) ≡ []

-- a back that has halted stays so, for the same cause, and its jobs ask for nothing
abbrev pub StaysHalted : Type 0
StaysHalted = (r : KeepingRun) (more : List KeptHappening) → is_some (now r).halted ≡ true → AllMayHappen more (now r) → (after more (now r)).halted ≡ (now r).halted

abbrev pub NoJobGoesOn : Type 0
NoJobGoesOn = (r : KeepingRun) (number : ℕ) (given : BackAnswer) → is_some (now r).halted ≡ true → IsJobAnswer (job_ask_keeping (now r) number) given → ⊥

-- once the port is closed no page of the ring is mapped
abbrev pub IsEmptied : BackStage → List Mapping → Type 0
IsEmptied stage.ClosePort pages = length pages ≡ 0
IsEmptied stage.Halted pages = length pages ≡ 0
IsEmptied s pages = Unit {0}

-- as many mappings are kept as may be, at most 1000; none is kept, and no job is held, before the port is bound and once all but the ring's pages are unmapped
pub record IsTidy (v : View) : Type 0 where
  pub few : length v.jobs.kept.entries ≤ v.jobs.kept.cap
  pub cap : v.jobs.kept.cap ≤ 1000
  pub cleared : IsCleared v.stage v.jobs
  pub emptied : IsEmptied v.stage v.pages
