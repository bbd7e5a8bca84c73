-- The moves that a host makes of a back and its jobs.
use Rattle.std.specs.Prelude.{◌≡◌, ℕ, Bool, true, false, ◌||◌, List, [], ◌∷◌, Option, Some, None}
use Rattle.blk_base.specs.declared.ask.BackAsk.{BackAsk}
use Rattle.blk_base.specs.declared.ask.BackAsk.TheVariants as ask
use Rattle.blk_base.specs.declared.ask.BackAnswer.{BackAnswer}
use Rattle.back_jobs.specs.Work.{IsAnswer as IsJobAnswer}
use Rattle.blk_back.specs.declared.told.BackTold.{BackTold}
use Rattle.blk_back.specs.View as ring
use Rattle.blk_back.specs.Ask.{is_wait}
use Rattle.back_laws.specs.Happening.{Happening, IsNarrow, after, AllMayHappen}
use Rattle.vbd_back.specs.View.{View, heard}
use Rattle.vbd_back.specs.Ask.{ask_of, is_waiting, IsAnswer as IsBackAnswer}
use Rattle.vbd_back.specs.Step.{step_of, job_ask_of, job_step, next_job_of}

-- what a host says of itself: what it may answer at an ask, or that nothing came for a back that waits, and what it may make of what it is told, each with itself before and after
abbrev pub Does : Type 0 → Type 1
Does H = H → BackAsk → Option BackAnswer → H → Type 0

abbrev pub Hears : Type 0 → Type 1
Hears H = H → BackTold → H → Type 0

-- the host was told what was to be told, if anything was
abbrev pub Heard : {H : Type 0} → Hears H → Option BackTold → H → H → Type 0
Heard hears None h k = k ≡ h
Heard hears (Some told) h k = hears h told k

-- what is done at an ask: the host did it and answered so, or did nothing
abbrev pub Did : {H : Type 0} → Does H → BackAsk → Option BackAnswer → H → H → Type 0
Did does a None h k = k ≡ h
Did does a (Some given) h k = does h a (Some given) k

-- the same for the back: where that waits the host looked whether anything came
abbrev pub DidForBack : {H : Type 0} → Does H → BackAsk → Option BackAnswer → H → H → Type 0
DidForBack does ask.Wait given h k = does h ask.Wait given k
DidForBack does a given h k = Did does a given h k

-- a host's part in a move: it heard what was told before, did what was asked, answered so, and heard what that told
pub record TakesPart {H : Type 0} (does : Does H) (hears : Hears H)
    (before : Option BackTold) (a : BackAsk) (given : BackAnswer) (told : Option BackTold) (h k : H) : Type 0 where
  pub asked : H
  pub answered : H
  pub heard_first : Heard hears before h asked
  pub done : does asked a (Some given) answered
  pub heard_then : Heard hears told answered k

-- the back moved, with an answer that its ask allows
pub record IsBackMove {H : Type 0} (does : Does H) (hears : Hears H) (v w : View) (h k : H) : Type 0 where
  pub answer : BackAnswer
  pub allowed : IsBackAnswer (ask_of (heard v)) answer
  pub narrow : IsNarrow answer
  pub moved : w ≡ heard (step_of (heard v) answer)
  pub host : TakesPart does hears v.ring.told (ask_of (heard v)) answer (step_of (heard v) answer).ring.told h k

-- the job of a number likewise
pub record IsJobMove {H : Type 0} (does : Does H) (hears : Hears H) (number : ℕ) (v w : View) (h k : H) : Type 0 where
  pub answer : BackAnswer
  pub allowed : IsJobAnswer (job_ask_of (heard v) number) answer
  pub moved : w ≡ heard (job_step (heard v) number answer)
  pub host : TakesPart does hears v.ring.told (job_ask_of (heard v) number) answer (job_step (heard v) number answer).ring.told h k

-- the back moved; or it waits, only what was told before was taken, and nothing came for it
abbrev pub MovesBack : {H : Type 0} → Does H → Hears H → (moved : Bool) → View → View → H → H → Type 0
MovesBack does hears true v w h k = IsBackMove does hears v w h k
MovesBack {H} does hears false v w h k =
    (is_waiting (heard v) ≡ true) × (w ≡ heard v) × ((then : H) × Heard hears v.ring.told h then × does then ask.Wait None k)

-- the job of a number moved; or it waits, and only what was told before was taken
abbrev pub MovesJob : {H : Type 0} → Does H → Hears H → (number : ℕ) (moved : Bool) → View → View → H → H → Type 0
MovesJob does hears number true v w h k = IsJobMove does hears number v w h k
MovesJob does hears number false v w h k = (is_wait (job_ask_of (heard v) number) ≡ true) × (w ≡ heard v) × Heard hears v.ring.told h k

-- each of these jobs, by number, had its turn: they are those held above the number `from`, up to the number `to`; and whether anything moved, then and before
abbrev pub HaveTurns : {H : Type 0} → Does H → Hears H → List ℕ → (from to : ℕ) (had has : Bool) → View → View → H → H → Type 0
HaveTurns does hears [] from to had has v w h k = (to ≡ from) × (has ≡ had) × (w ≡ v) × (k ≡ h)
HaveTurns {H} does hears (number ∷ numbers) from to had has v w h k =
    (moved : Bool) × (between : View) × (then : H) × (next_job_of v from ≡ Some number) × MovesJob does hears number moved v between h then
    × HaveTurns does hears numbers number to (had || moved) has between w then k

-- a round: the back's turn, then one of each job that is held, by number, after which no other is left; and whether anything moved
pub record IsRound {H : Type 0} (does : Does H) (hears : Hears H) (v w : View) (has : Bool) (h k : H) : Type 0 where
  pub moved : Bool
  pub between : View
  pub then : H
  pub back : MovesBack does hears moved v between h then
  pub numbers : List ℕ
  pub to : ℕ
  pub jobs : HaveTurns does hears numbers 0 to moved has between w then k
  pub none : next_job_of w to ≡ None

-- what becomes of the ring's end is a history of it, over which the laws of such an end are (`back_laws`)
abbrev pub IsRingHistory : ring.View → ring.View → Type 0
IsRingHistory r s = (hs : List Happening) × AllMayHappen hs r × (s ≡ after hs r)

abbrev pub IsHistory : View → View → Type 0
IsHistory v w = IsRingHistory v.ring w.ring
