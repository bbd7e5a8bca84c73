-- What is true of each end, whatever the other end's keys say.
use Rattle.std.specs.Prelude.{ℕ, ◌≡◌, ◌↔◌, Bool, true, false, List, Option, Some}
use Rattle.blk_base.specs.declared.ask.FrontAnswer.{FrontAnswer}
use Rattle.blk_base.specs.declared.ask.FrontAnswer.TheVariants as front_answer
use Rattle.blk_base.specs.declared.ask.BackAnswer.{BackAnswer}
use Rattle.blk_base.specs.declared.ask.BackAnswer.TheVariants as back_answer
use Rattle.xenbus_state.specs.declared.offer.Features.{Features}
use Rattle.xenbus_state.specs.declared.offer.DiskFacts.{DiskFacts}
use Rattle.xenbus_state.specs.declared.state.BusState.TheVariants as state
use Rattle.xenbus_state.specs.declared.stage.FrontBusStage.TheVariants as front_stage
use Rattle.xenbus_state.specs.declared.stage.BackBusStage.TheVariants as stage
use Rattle.xenbus_state.specs.declared.table.BackHalt.{BackHalt}
use Rattle.xenbus_state.specs.States.{state_read}
use Rattle.xenbus_state.specs.Tables.{front_action, back_action}
use Rattle.xenbus_state.specs.declared.front.FrontBusAsk.TheVariants as front_ask
use Rattle.xenbus_state.specs.declared.front.FrontNews.TheVariants as news
use Rattle.xenbus_state.specs.declared.back.BackBusAsk.TheVariants as back_ask
use Rattle.xenbus_state.specs.FrontView.{FrontView}
use Rattle.xenbus_state.specs.FrontAsk as front
use Rattle.xenbus_state.specs.FrontStep as front_step
use Rattle.xenbus_state.specs.FrontSound as front_sound
use Rattle.xenbus_state.specs.BackView as back_view
use Rattle.xenbus_state.specs.BackView.{BackView}
use Rattle.xenbus_state.specs.BackAsk as back
use Rattle.xenbus_state.specs.BackStep as back_step
use Rattle.xenbus_state.specs.BackSound.{IsSound, IsMapped, HoldsNothing}
use Rattle.xenbus_state.specs.Causes.{HaltsFor, BreaksFor, DoesFront, DoesBack, FrontMayWait, BackMayWait}
use Rattle.xenbus_state.specs.Runs.{FrontTurn, BackTurn, AreFrontTurns, AreBackTurns, back_after, front_asks, back_asks, FrontRises, BackRises}

-- In an epoch the states of each end rise, so each is written at most once. The front's epochs begin with its start or a suspend.
abbrev pub FrontStatesRise : Type 0
FrontStatesRise = (v : FrontView) (turns : List FrontTurn) → front_sound.IsSound v → AreFrontTurns turns v → FrontRises v.state (front_asks turns v)

abbrev pub BackStatesRise : Type 0
BackStatesRise = (features : Features) (disk : DiskFacts) (turns : List BackTurn) → let v = back_view.start_of features disk in AreBackTurns turns v → BackRises state.Initialising (back_asks turns v)

-- what the back has of the front's terms comes from its answers, and from nothing that it offers or has itself
abbrev pub TermsComeFromTheFront : Type 0
TermsComeFromTheFront = (f g : Features) (d e : DiskFacts) (turns : List BackTurn) → ((back_after turns (back_view.start_of f d)).terms ≡ (back_after turns (back_view.start_of g e)).terms) × ((back_after turns (back_view.start_of f d)).grefs ≡ (back_after turns (back_view.start_of g e)).grefs)

-- the back writes Connected only where all pages of the ring are mapped and the port is bound
abbrev pub ConnectsOnlyMapped : Type 0
ConnectsOnlyMapped = (features : Features) (disk : DiskFacts) (turns : List BackTurn) → let v = back_view.start_of features disk in AreBackTurns turns v → back.ask_of (back_after turns v) ≡ back_ask.SetState state.Connected → IsMapped (back_after turns v) × ((back_after turns v).bound ≡ true)

-- a back that has halted holds no mapping and no port, and its state is Closed
abbrev pub HaltedHoldsNothing : Type 0
HaltedHoldsNothing = (features : Features) (disk : DiskFacts) (turns : List BackTurn) → let v = back_view.start_of features disk in AreBackTurns turns v → (back_after turns v).stage ≡ stage.Halted → HoldsNothing (back_after turns v) × ((back_after turns v).state ≡ state.Closed)

-- the front tells that it is ready exactly where it has written Connected, and that it is closed where it has written Closed
pub record IsToldAfter (v : FrontView) (idle : Bool) (a : FrontAnswer) : Type 0 where
  pub ready : (front_step.news_of v idle a ≡ Some news.Ready) ↔ (front.ask_of v idle ≡ front_ask.SetState state.Connected)
  pub closed : (front_step.news_of v idle a ≡ Some news.Closed) ↔ (front.ask_of v idle ≡ front_ask.SetState state.Closed)
  pub closing : front_step.news_of v idle a ≡ Some news.Closing → (v.closing ≡ false) × ((front_step.step_of v idle a).closing ≡ true)

abbrev pub NewsFollows : Type 0
NewsFollows = (v : FrontView) (idle : Bool) (a : FrontAnswer) → front.IsAnswer (front.ask_of v idle) a → IsToldAfter v idle a

abbrev pub FrontObeys : Type 0
FrontObeys = (v : FrontView) (idle : Bool) (text : Option (List ℕ)) → v.stage ≡ front_stage.ReadState → DoesFront (front_action v.state v.closing idle (state_read text)) idle v (front_step.step_of v idle (front_answer.Key text)) (front_step.news_of v idle (front_answer.Key text))

abbrev pub BackObeys : Type 0
BackObeys = (v : BackView) (text : Option (List ℕ)) → v.stage ≡ stage.ReadState → back.says_closing v ≡ false → DoesBack (back_action v.state v.unplugged (state_read text)) (back_step.step_of v (back_answer.Key text)) (back_step.halt_of v (back_answer.Key text))

-- from a read of the other end's state, each end does what its table says
abbrev pub TablesAreObeyed : Type 0
TablesAreObeyed = FrontObeys × BackObeys

-- the back halts exactly where what it asked for was answered so, and for that reason
abbrev pub HaltsByCause : Type 0
HaltsByCause = (v : BackView) (a : BackAnswer) (reason : BackHalt) → back.IsAnswer (back.ask_of v) a → (back_step.halt_of v a ≡ Some reason) ↔ HaltsFor v (back.ask_of v) a reason

-- the front is broken exactly where what it asked for was answered so, and with that word
abbrev pub BreaksByCause : Type 0
BreaksByCause = (v : FrontView) (idle : Bool) (a : FrontAnswer) (word : ℕ) → front_sound.IsSound v → front.IsAnswer (front.ask_of v idle) a → (front_step.news_of v idle a ≡ Some (news.Broken word)) ↔ BreaksFor v idle (front.ask_of v idle) a word

abbrev pub FrontWaits : Type 0
FrontWaits = (v : FrontView) (idle : Bool) → (front.ask_of v idle ≡ front_ask.Wait) ↔ FrontMayWait v.stage v idle

abbrev pub BackWaits : Type 0
BackWaits = (v : BackView) → IsSound v → (back.ask_of v ≡ back_ask.Wait) ↔ BackMayWait v.stage v

-- each end waits in these cases alone
abbrev pub WaitsInTheseCases : Type 0
WaitsInTheseCases = FrontWaits × BackWaits
