-- What an answer, a submission or a call to close makes of a front that is held.
use Rattle.std.specs.Prelude.{◌≡◌, ℕ, Bool, false, ◌||◌, ◌⊎◌, None, Result, Ok, Err, is_some, if◌then◌else◌}
use Rattle.blk_base.specs.declared.ask.FrontAnswer.{FrontAnswer}
use Rattle.blk_base.specs.declared.config.Submission.{Submission}
use Rattle.blk_base.specs.declared.refusal.Refusal.{Refusal}
use Rattle.blk_front.specs.Submit.{submit_of}
use Rattle.vbd_front.specs.Ask.{IsAnswer}
use Rattle.vbd_front.specs.Keep.{KeepingView, ask_as, step_as, closes_as, with_ring}
use Rattle.vbd_c.specs.declared.status.Status.{Status}
use Rattle.vbd_c.specs.declared.status.Status.TheVariants as status
use Rattle.vbd_c.specs.Allowed.{front_allows}

-- something is left to tell
abbrev pub has_told : KeepingView → Bool
has_told v = is_some v.ends.ring.told || is_some v.ends.news

-- no more than one thing is, of the ring or of the negotiation
abbrev pub TellsOne : KeepingView → Type 0
TellsOne v = (v.ends.ring.told ≡ None) ⊎ (v.ends.news ≡ None)

abbrev pub told_status : KeepingView → Status
told_status v = if has_told v then status.Told else status.Done

-- an answer that the ask doesn't allow changes nothing, and none is taken before what is to be told is
abbrev pub answered : KeepingView → FrontAnswer → KeepingView
answered v a = if has_told v then v else (if front_allows (ask_as v) a then step_as v a else v)

abbrev pub status_of : KeepingView → FrontAnswer → Status
status_of v a =
    if has_told v then status.Untold
    else (if front_allows (ask_as v) a then told_status (step_as v a) else status.NotAllowed)

-- in the words of the front: what isn't allowed changes nothing, and what is, where nothing is left to tell, is one move with it
pub record IsAnswered (v : KeepingView) (a : FrontAnswer) (after : KeepingView) : Type 0 where
  pub refused : ¬ (IsAnswer (ask_as v) a) → after ≡ v
  pub taken : has_told v ≡ false → IsAnswer (ask_as v) a → after ≡ step_as v a

-- a submission is the ring's end's
abbrev pub submitted : KeepingView → Submission → KeepingView
submitted v s = with_ring v (submit_of v.ends.ring s).1

abbrev pub outcome_status : Result ℕ Refusal → Status
outcome_status (Ok number) = status.Done
outcome_status (Err why) = status.Refused why

abbrev pub submit_status : KeepingView → Submission → Status
submit_status v s = outcome_status (submit_of v.ends.ring s).0

-- the front is to close, unless something is left to tell
abbrev pub closed : KeepingView → KeepingView
closed v = if has_told v then v else closes_as v

abbrev pub close_status : KeepingView → Status
close_status v = if has_told v then status.Untold else told_status (closes_as v)
