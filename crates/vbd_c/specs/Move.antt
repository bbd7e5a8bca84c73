-- What a back that is held asks, and what an answer makes of it. Job 0 is the back itself.
use Rattle.std.specs.Prelude.{◌≡◌, ℕ, Bool, true, false, Option, Some, None, is_some, if◌then◌else◌, ◌==◌}
use Rattle.blk_base.specs.declared.ask.BackAsk.{BackAsk}
use Rattle.blk_base.specs.declared.ask.BackAnswer.{BackAnswer}
use Rattle.blk_back.specs.declared.told.BackTold.{BackTold}
use Rattle.blk_back.specs.Ask.{StaysInPage}
use Rattle.blk_back.specs.Hands.{all_hands_of}
use Rattle.back_jobs.specs.Hands.{HandsKeep}
use Rattle.back_jobs.specs.Sound.{StaysInPageAndDisk}
use Rattle.back_jobs.specs.Work as jobs
use Rattle.vbd_back.specs.Ask as back_asks
use Rattle.vbd_back.specs.Keeping.{KeepingView, step_keeping, job_ask_keeping, job_step_keeping, heard_keeping}
use Rattle.vbd_c.specs.declared.status.Status.{Status}
use Rattle.vbd_c.specs.declared.status.Status.TheVariants as status
use Rattle.vbd_c.specs.View.{View}
use Rattle.vbd_c.specs.Allowed.{back_allows, job_allows}

abbrev pub ask_of : View → ℕ → BackAsk
ask_of v job = if job == 0 then back_asks.ask_of v.back.ends else job_ask_keeping v.back job

-- an ask on memory names a word of a page, and a job's ask of the disk sectors that lie on it
abbrev pub StaysTo : (is_back : Bool) → View → BackAsk → Type 0
StaysTo true v a = StaysInPage a
StaysTo false v a = StaysInPageAndDisk v.back.ends.ring.jobs.info.sectors a

abbrev pub Stays : View → ℕ → BackAsk → Type 0
Stays v job a = StaysTo (job == 0) v a

-- an answer that the ask allows, in the words of the back and of its jobs
abbrev pub IsAllowedTo : (is_back : Bool) → View → ℕ → BackAnswer → Type 0
IsAllowedTo true v job a = back_asks.IsAnswer (back_asks.ask_of v.back.ends) a
IsAllowedTo false v job a = jobs.IsAnswer (job_ask_keeping v.back job) a

abbrev pub IsAllowed : View → ℕ → BackAnswer → Type 0
IsAllowed v job a = IsAllowedTo (job == 0) v job a

-- the same as a test
abbrev pub allows : View → ℕ → BackAnswer → Bool
allows v job a = if job == 0 then back_allows (back_asks.ask_of v.back.ends) a else job_allows (job_ask_keeping v.back job) a

-- one move of the back or of a job, with this answer
abbrev pub stepped : View → ℕ → BackAnswer → KeepingView
stepped v job a = if job == 0 then step_keeping v.back a else job_step_keeping v.back job a

-- what the move told is taken from the back, to be told to the program
abbrev pub told_by : KeepingView → View
told_by b = record { back = heard_keeping b; told = b.ends.ring.told }

abbrev pub moved : View → ℕ → BackAnswer → View
moved v job a = told_by (stepped v job a)

-- an answer that the ask doesn't allow changes nothing, and none is taken before what the last move told is
abbrev pub answered : View → ℕ → BackAnswer → View
answered v job a = if is_some v.told then v else (if allows v job a then moved v job a else v)

-- in the words of the back and of its jobs: what isn't allowed changes nothing, and what is, where nothing is left to tell, is one move with it, by which the mappings that they hold, with those that are kept, change as they must
pub record IsAnswered (v : View) (job : ℕ) (a : BackAnswer) (after : View) : Type 0 where
  pub refused : ¬ (IsAllowed v job a) → after ≡ v
  pub taken : v.told ≡ None → IsAllowed v job a → after ≡ moved v job a
  pub hands : v.told ≡ None → IsAllowed v job a → HandsKeep (ask_of v job) a (all_hands_of v.back.ends.ring) (all_hands_of after.back.ends.ring)

abbrev pub told_status : Option BackTold → Status
told_status None = status.Done
told_status (Some told) = status.Told

abbrev pub status_of : View → ℕ → BackAnswer → Status
status_of v job a =
    if is_some v.told then status.Untold
    else (if allows v job a then told_status (moved v job a).told else status.NotAllowed)

-- what was told is taken
abbrev pub heard : View → View
heard v = record v { told = None }

-- the back was asked to close
abbrev pub closed : KeepingView → View → View
closed b v = record v { back = b }
