-- The front's end over what happens in an epoch.
use Rattle.std.proofs.Common.{sym, ap, ◌∙◌, subst, ◌||◌, ◌≡◌, ℕ, Bool, true, false, List, [], ◌∷◌, refl, if◌then◌else◌}
use Rattle.std.specs.Prelude.{Option, Some, None}
use Rattle.blk_base.specs.declared.ask.FrontAnswer.{FrontAnswer}
use Rattle.blk_base.specs.declared.ask.FrontAnswer.TheVariants as answer
use Rattle.xenbus_state.specs.declared.keys.BackKey.{BackKey}
use Rattle.xenbus_state.specs.declared.state.BusState.{BusState}
use Rattle.xenbus_state.specs.declared.stage.FrontBusStage.{FrontBusStage}
use Rattle.xenbus_state.specs.declared.stage.FrontBusStage.TheVariants as stage
use Rattle.xenbus_state.specs.declared.front.FrontBusAsk.{FrontBusAsk}
use Rattle.xenbus_state.specs.declared.front.FrontBusAsk.TheVariants as ask
use Rattle.xenbus_state.specs.declared.table.FrontAction.{FrontAction}
use Rattle.xenbus_state.specs.declared.table.FrontAction.TheVariants as action
use Rattle.xenbus_state.specs.States.{state_read}
use Rattle.xenbus_state.specs.Tables.{front_action}
use Rattle.xenbus_state.specs.Reading.{count_read, fact_read}
use Rattle.xenbus_state.specs.FrontView.{FrontView, closed, broken, is_broken}
use Rattle.xenbus_state.specs.FrontAsk.{due, ask_at, ask_of, IsAnswer}
use Rattle.xenbus_state.specs.FrontStep.{at, step_at, step_of, acted, feature_step, fact_step}
use Rattle.xenbus_state.specs.FrontSound.{IsSound, IsPlaced, HasPort, Rises}
use Rattle.xenbus_state.specs.Runs.{FrontTurn, Told, Closes, Breaks, front_turned, IsFrontTurn, AreFrontTurns, front_asks, FrontRises}
use Rattle.xenbus_state.proofs.FrontKeeps.{front_keeps, front_rises, ask_same}

-- the state that the front wrote last, once this ask is answered
unfoldable pub own_after : FrontBusAsk → BusState → BusState
own_after (ask.SetState s) own = s
own_after a own = own

acted_state : (act : FrontAction) (v : FrontView) → (acted act v).state ≡ v.state
acted_state action.Nothing v = refl
acted_state action.Publish v = refl
acted_state action.Connect v = refl
acted_state action.Close v = refl
acted_state action.CloseAndConnect v = refl
acted_state action.Leave v = refl
acted_state (action.Break word) v = refl

feature_state : (k : BackKey) (n : Option ℕ) (v : FrontView) → (feature_step k n v).state ≡ v.state
feature_state k None v = refl
feature_state k (Some n) v = refl

fact_state : (k : BackKey) (n : Option ℕ) (v : FrontView) → (fact_step k n v).state ≡ v.state
fact_state k None v = refl
fact_state k (Some n) v = refl

state_at : (s : FrontBusStage) (v : FrontView) (idle : Bool) (a : FrontAnswer) → IsAnswer (ask_at s v) a → (step_at s v idle a).state ≡ own_after (ask_at s v) v.state
unfolding own_after
state_at stage.ReadState v idle (answer.Key text) lawful = acted_state (front_action v.state v.closing idle (state_read text)) v
state_at (stage.ReadFeature k) v idle (answer.Key text) lawful = feature_state k (count_read text) v
state_at (stage.ReadFact k) v idle (answer.Key text) lawful = fact_state k (fact_read k text) v
state_at (stage.WriteState s) v idle answer.Done lawful = refl
state_at (stage.WriteState s) v idle answer.Event lawful = elim lawful [ ]
state_at (stage.WriteState s) v idle (answer.Watched path) lawful = elim lawful [ ]
state_at (stage.WriteState s) v idle (answer.Word word) lawful = elim lawful [ ]
state_at (stage.WriteState s) v idle (answer.Port port) lawful = elim lawful [ ]
state_at (stage.WriteState s) v idle (answer.Key text) lawful = elim lawful [ ]
state_at s v idle answer.Event lawful = refl
state_at s v idle (answer.Watched path) lawful = refl
state_at s v idle answer.Done lawful = refl
state_at s v idle (answer.Word word) lawful = refl
state_at s v idle (answer.Port port) lawful = refl
state_at s v idle (answer.Key text) lawful = refl

pub state_after : (v : FrontView) (idle : Bool) (a : FrontAnswer) → IsAnswer (ask_of v idle) a → (step_of v idle a).state ≡ own_after (ask_of v idle) v.state
state_after v idle a lawful =
    let w = at (due v idle) v in
    let same = ask_same (due v idle) (due v idle) v in
    let told = subst (λ (b : FrontBusAsk). IsAnswer b a) same lawful in
    state_at (due v idle) w idle a told ∙ ap (λ (b : FrontBusAsk). own_after b v.state) (sym same)

rises_more : (own : BusState) (a : FrontBusAsk) (asks : List FrontBusAsk) → Rises own a → FrontRises (own_after a own) asks → FrontRises own (a ∷ asks)
unfolding own_after
rises_more own (ask.SetState s) asks rises h = (rises, h)
rises_more own ask.Wait asks rises h = h
rises_more own ask.Watch asks rises h = h
rises_more own ask.GetState asks rises h = h
rises_more own (ask.GetKey key) asks rises h = h
rises_more own (ask.SetKey key value) asks rises h = h
rises_more own (ask.WriteRingWord word) asks rises h = h
rises_more own (ask.Grant page) asks rises h = h
rises_more own ask.NewPort asks rises h = h
rises_more own (ask.EndGrant page) asks rises h = h
rises_more own ask.EndOtherGrants asks rises h = h
rises_more own ask.ClosePort asks rises h = h

-- to be asked to close changes nothing that must be true
closing_sound : (s : FrontBusStage) (v : FrontView) (already : Bool) → v.stage ≡ s → IsPlaced s v → HasPort s v → IsSound v → IsSound (if already then v else record v { closing = true })
closing_sound s v true e placed port h = h
closing_sound s v false e placed port h = record {
  order = h.order;
  placed = subst (λ (t : FrontBusStage). IsPlaced t (record v { closing = true })) (sym e) (place s v placed);
  timely = h.timely;
  port = subst (λ (t : FrontBusStage). HasPort t (record v { closing = true })) (sym e) (has s v port);
}
  where
    place : (s : FrontBusStage) (v : FrontView) → IsPlaced s v → IsPlaced s (record v { closing = true })
    place (stage.ReadFeature k) v h = h
    place (stage.ReadFact k) v h = h
    place (stage.RingWord word) v h = h
    place (stage.Grant page) v h = h
    place (stage.EndGrant page) v h = h
    place s v h = tt

    has : (s : FrontBusStage) (v : FrontView) → HasPort s v → HasPort s (record v { closing = true })
    has (stage.Publish key) v h = h
    has s v h = tt

closed_state : (v : FrontView) → (closed v).state ≡ v.state
closed_state v = by_test (v.closing || is_broken v.stage)
  where
    by_test : (already : Bool) → (if already then v else record v { closing = true }).state ≡ v.state
    by_test true = refl
    by_test false = refl

pub front_turn_keeps : (turn : FrontTurn) (v : FrontView) → IsFrontTurn turn v → IsSound v → IsSound (front_turned turn v)
front_turn_keeps (Told idle a) v lawful h = front_keeps v idle a lawful h
front_turn_keeps Closes v lawful h = closing_sound v.stage v (v.closing || is_broken v.stage) refl h.placed h.port h
front_turn_keeps (Breaks word) v lawful h = record { order = h.order; placed = tt; timely = tt; port = tt }

pub front_states_rise : (turns : List FrontTurn) (v : FrontView) → IsSound v → AreFrontTurns turns v → FrontRises v.state (front_asks turns v)
front_states_rise [] v h lawful = tt
front_states_rise (Told idle a ∷ turns) v h lawful =
    let later = front_states_rise turns (step_of v idle a) (front_keeps v idle a lawful.0 h) lawful.1 in
    let own = state_after v idle a lawful.0 in
    rises_more v.state (ask_of v idle) (front_asks turns (step_of v idle a)) (front_rises v idle h) (subst (λ (s : BusState). FrontRises s (front_asks turns (step_of v idle a))) own later)
front_states_rise (Closes ∷ turns) v h lawful =
    let later = front_states_rise turns (closed v) (front_turn_keeps Closes v tt h) lawful.1 in
    subst (λ (s : BusState). FrontRises s (front_asks turns (closed v))) (closed_state v) later
front_states_rise (Breaks word ∷ turns) v h lawful = front_states_rise turns (broken word v) (front_turn_keeps (Breaks word) v tt h) lawful.1
