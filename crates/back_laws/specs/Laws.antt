-- What is true of every run of a back, whatever it is answered.
use Rattle.std.specs.Prelude.{◌≡◌, ◌⊎◌, ℕ, ◌+◌, ◌<◌, ◌≤◌, List, [], length, is_some, true}
use Rattle.blk_base.specs.declared.ask.BackAnswer.{BackAnswer}
use Rattle.ring_words.specs.Shape.{entries_of}
use Rattle.back_jobs.specs.Work.{IsAnswer as IsJobAnswer}
use Rattle.back_jobs.specs.Hands.{Names, HandsAfter}
use Rattle.blk_back.specs.View.{View}
use Rattle.blk_back.specs.Ask.{ask_of, IsAnswer}
use Rattle.blk_back.specs.Step.{step_of, job_ask_of}
use Rattle.blk_back.specs.Hands.{hands_of}
use Rattle.back_laws.specs.BackLeft.{left_of, gained, IsShown}
use Rattle.back_laws.specs.Happening.{Happening, Answers, AnswersJob, happened, MayHappen, after, AllMayHappen}
use Rattle.back_laws.specs.Run.{BackRun, begins, now}
use Rattle.back_laws.specs.Activity.{Asked}
use Rattle.back_laws.specs.Ledger.{job_asks}
use Rattle.back_laws.specs.Life.{own_asks, called, Goes, HasHalted}

-- all that the back itself asked is its life up to now, or up to a halt by its cause; up to now its jobs are those of its requests
abbrev pub LivesSo : BackRun → Type 0
LivesSo r =
    let v : View = now r in let own : List Asked = own_asks r.happenings (begins r) in
    Goes r.start v.shape own v.halted v.jobs.info (job_asks r.happenings (begins r)) v.jobs.works ⊎ HasHalted r.start v.shape own (called r.happenings) v.halted

-- a back that has halted stays so, for the same cause, and its jobs ask for nothing
abbrev pub StaysHalted : Type 0
StaysHalted = (r : BackRun) (more : List Happening) → is_some (now r).halted ≡ true → AllMayHappen more (now r) → (after more (now r)).halted ≡ (now r).halted

abbrev pub NoJobGoesOn : Type 0
NoJobGoesOn = (r : BackRun) (number : ℕ) (given : BackAnswer) → is_some (now r).halted ≡ true → IsJobAnswer (job_ask_of (now r) number) given → ⊥

-- no more jobs are held than the ring has entries
abbrev pub HoldsFewJobs : Type 0
HoldsFewJobs = (r : BackRun) → (let v : View = now r in length v.jobs.works ≤ entries_of v.shape.order)

-- what it asks names only mappings that it holds, and words below 1024, and writes only through one that was made for writing; so does what each of its jobs asks
abbrev pub NamesWhatItHolds : Type 0
NamesWhatItHolds = (r : BackRun) → Names (hands_of (now r)) (ask_of (now r))

abbrev pub JobsNameWhatIsHeld : Type 0
JobsNameWhatIsHeld = (r : BackRun) (number : ℕ) → Names (hands_of (now r)) (job_ask_of (now r) number)

-- what is held after a happening: a mapping that was given came, one that was unmapped went, and no other did
abbrev pub HoldsAfter : Happening → View → Type 0
HoldsAfter (Answers given) v = HandsAfter (ask_of v) given (hands_of v) (hands_of (happened (Answers given) v))
HoldsAfter (AnswersJob number given) v = HandsAfter (job_ask_of v number) given (hands_of v) (hands_of (happened (AnswersJob number given) v))
HoldsAfter h v = hands_of (happened h v) ≡ hands_of v

abbrev pub HoldsWhatItWasGiven : Type 0
HoldsWhatItWasGiven = (r : BackRun) → (hands_of (begins r) ≡ []) × ((h : Happening) → MayHappen h (now r) → HoldsAfter h (now r))

-- each answer lowers what is left to it, but for what it shows
abbrev pub EachAnswerLowers : Type 0
EachAnswerLowers = (r : BackRun) (given : BackAnswer) → IsAnswer (ask_of (now r)) given → IsShown (now r).stage (now r) given
    → left_of (step_of (now r) given) < left_of (now r) + gained (now r).stage (now r) given
