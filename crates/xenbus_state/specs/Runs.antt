-- What happens to an end in one epoch, one thing after the other.
use Rattle.std.specs.Prelude.{ℕ, ◌<◌, Bool, List, [], ◌∷◌, ◌++◌}
use Rattle.blk_base.specs.declared.ask.FrontAnswer.{FrontAnswer}
use Rattle.blk_base.specs.declared.ask.BackAnswer.{BackAnswer}
use Rattle.xenbus_state.specs.declared.state.BusState.{BusState}
use Rattle.xenbus_state.specs.declared.front.FrontBusAsk.{FrontBusAsk}
use Rattle.xenbus_state.specs.declared.front.FrontBusAsk.TheVariants as front_ask
use Rattle.xenbus_state.specs.declared.back.BackBusAsk.{BackBusAsk}
use Rattle.xenbus_state.specs.declared.back.BackBusAsk.TheVariants as back_ask
use Rattle.xenbus_state.specs.States.{state_number}
use Rattle.xenbus_state.specs.FrontView.{FrontView, closed, broken}
use Rattle.xenbus_state.specs.FrontAsk as front
use Rattle.xenbus_state.specs.FrontStep as front_step
use Rattle.xenbus_state.specs.BackView.{BackView, unplugged, stopped}
use Rattle.xenbus_state.specs.BackAsk as back
use Rattle.xenbus_state.specs.BackStep as back_step

-- the front is told an answer while it is idle or not, is asked to close, or meets a word that breaks it
pub data FrontTurn : Type 0 where
  Told : (idle : Bool) (answer : FrontAnswer) → FrontTurn
  Closes : FrontTurn
  Breaks : (word : ℕ) → FrontTurn

-- the back is told an answer, is asked to close, or halts for a reason of its own
pub data BackTurn : Type 0 where
  Hears : (answer : BackAnswer) → BackTurn
  Unplugs : BackTurn
  Stops : BackTurn

abbrev pub front_turned : FrontTurn → FrontView → FrontView
front_turned (Told idle a) v = front_step.step_of v idle a
front_turned Closes v = closed v
front_turned (Breaks word) v = broken word v

abbrev pub back_turned : BackTurn → BackView → BackView
back_turned (Hears a) v = back_step.step_of v a
back_turned Unplugs v = unplugged v
back_turned Stops v = stopped v

-- an end is told what it asked for
abbrev pub IsFrontTurn : FrontTurn → FrontView → Type 0
IsFrontTurn (Told idle a) v = front.IsAnswer (front.ask_of v idle) a
IsFrontTurn turn v = Unit {0}

abbrev pub IsBackTurn : BackTurn → BackView → Type 0
IsBackTurn (Hears a) v = back.IsAnswer (back.ask_of v) a
IsBackTurn turn v = Unit {0}

abbrev pub AreFrontTurns : List FrontTurn → FrontView → Type 0
AreFrontTurns [] v = Unit {0}
AreFrontTurns (turn ∷ turns) v = IsFrontTurn turn v × AreFrontTurns turns (front_turned turn v)

abbrev pub AreBackTurns : List BackTurn → BackView → Type 0
AreBackTurns [] v = Unit {0}
AreBackTurns (turn ∷ turns) v = IsBackTurn turn v × AreBackTurns turns (back_turned turn v)

-- the end after them
abbrev pub front_after : List FrontTurn → FrontView → FrontView
front_after [] v = v
front_after (turn ∷ turns) v = front_after turns (front_turned turn v)

abbrev pub back_after : List BackTurn → BackView → BackView
back_after [] v = v
back_after (turn ∷ turns) v = back_after turns (back_turned turn v)

-- the asks that were answered, in order
abbrev pub front_asked : FrontTurn → FrontView → List FrontBusAsk
front_asked (Told idle a) v = front.ask_of v idle ∷ []
front_asked turn v = []

abbrev pub front_asks : List FrontTurn → FrontView → List FrontBusAsk
front_asks [] v = []
front_asks (turn ∷ turns) v = front_asked turn v ++ front_asks turns (front_turned turn v)

abbrev pub back_asked : BackTurn → BackView → List BackBusAsk
back_asked (Hears a) v = back.ask_of v ∷ []
back_asked turn v = []

abbrev pub back_asks : List BackTurn → BackView → List BackBusAsk
back_asks [] v = []
back_asks (turn ∷ turns) v = back_asked turn v ++ back_asks turns (back_turned turn v)

-- each state that is written is above those that were written before, of which the last is this one: so none is written twice
abbrev pub FrontRises : BusState → List FrontBusAsk → Type 0
FrontRises own [] = Unit {0}
FrontRises own (front_ask.SetState s ∷ asks) = (state_number own < state_number s) × FrontRises s asks
FrontRises own (ask ∷ asks) = FrontRises own asks

abbrev pub BackRises : BusState → List BackBusAsk → Type 0
BackRises own [] = Unit {0}
BackRises own (back_ask.SetState s ∷ asks) = (state_number own < state_number s) × BackRises s asks
BackRises own (ask ∷ asks) = BackRises own asks
