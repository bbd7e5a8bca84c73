-- The back's end over what happens in an epoch.
use Rattle.std.proofs.Common.{subst, ◌≡◌, ℕ, ◌==◌, Bool, true, false, List, [], ◌∷◌, refl, if◌then◌else◌}
use Rattle.std.specs.Prelude.{Option, Some, None}
use Rattle.std.specs.Option.{option_map}
use Rattle.blk_base.specs.declared.parts.Mapping.{Mapping}
use Rattle.blk_base.specs.declared.ask.BackAnswer.{BackAnswer}
use Rattle.blk_base.specs.declared.ask.BackAnswer.TheVariants as answer
use Rattle.xenbus_state.specs.declared.keys.FrontKey.{FrontKey}
use Rattle.xenbus_state.specs.declared.keys.FrontKey.TheVariants as key
use Rattle.xenbus_state.specs.declared.state.BusState.{BusState}
use Rattle.xenbus_state.specs.declared.state.BusState.TheVariants as state
use Rattle.xenbus_state.specs.declared.stage.BackBusStage.{BackBusStage}
use Rattle.xenbus_state.specs.declared.stage.BackBusStage.TheVariants as stage
use Rattle.xenbus_state.specs.declared.back.BackBusAsk.{BackBusAsk}
use Rattle.xenbus_state.specs.declared.back.BackBusAsk.TheVariants as ask
use Rattle.xenbus_state.specs.declared.table.BackAction.{BackAction}
use Rattle.xenbus_state.specs.declared.table.BackAction.TheVariants as action
use Rattle.xenbus_state.specs.States.{state_read}
use Rattle.xenbus_state.specs.Numbers.{number_of}
use Rattle.xenbus_state.specs.Reading.{count_read}
use Rattle.xenbus_state.specs.Programs.{after_page}
use Rattle.xenbus_state.specs.Tables.{back_action}
use Rattle.xenbus_state.specs.BackView.{BackView, unplugged, stopped, halted, is_halting}
use Rattle.xenbus_state.specs.BackAsk.{says_closing, unmap_ask, ask_at, ask_of, IsAnswer}
use Rattle.xenbus_state.specs.BackReading.{key_read, order_of, layout_read, with_order, with_gref, with_port, with_layout, with_persistent}
use Rattle.xenbus_state.specs.BackStep.{step_at, step_of, acted, kept_or_halted}
use Rattle.xenbus_state.specs.BackSound.{IsSound, Rises}
use Rattle.xenbus_state.specs.Runs.{BackTurn, Hears, Unplugs, Stops, AreBackTurns, back_asks, BackRises}
use Rattle.xenbus_state.proofs.BackKeeps.{back_keeps}
use Rattle.xenbus_state.proofs.BackTurns.{back_rises, back_turn_keeps}

-- the state that the back wrote last, once this ask is answered
own_after : BackBusAsk → BusState → BusState
own_after (ask.SetState s) own = s
own_after a own = own

acted_state : (act : BackAction) (v : BackView) → (acted act v).state ≡ v.state
acted_state action.Nothing v = refl
acted_state action.Connect v = refl
acted_state (action.Halt reason) v = refl

-- what a key says leaves the state
leaves : {A : Type 0} (f : A → BackView) (n : Option A) (v : BackView) → ((x : A) → (f x).state ≡ v.state) → (kept_or_halted (option_map f n) v).state ≡ v.state
leaves f None v h = refl
leaves f (Some x) v h = h x

order_state : (n : Option ℕ) (v : BackView) → (kept_or_halted (option_map (with_order v (key.RingRefOf 0)) n) v).state ≡ v.state
order_state n v = leaves (with_order v (key.RingRefOf 0)) n v (λ x. refl)

only_page_state : (single : Bool) (v : BackView) → (kept_or_halted (if single then Some (record v { stage = stage.ReadKey key.RingRef }) else None) v).state ≡ v.state
only_page_state true v = refl
only_page_state false v = refl

key_state : (k : FrontKey) (text : Option (List ℕ)) (v : BackView) → (kept_or_halted (key_read k text v) v).state ≡ v.state
key_state key.RingPageOrder None v = refl
key_state key.RingPageOrder (Some text) v = order_state (order_of (number_of text)) v
key_state (key.RingRefOf page) None v = only_page_state (v.terms.order == 0) v
key_state (key.RingRefOf page) (Some text) v = leaves (with_gref v (after_page v.terms.order page)) (number_of text) v (λ x. refl)
key_state key.RingRef None v = refl
key_state key.RingRef (Some text) v = leaves (with_gref v key.EventChannel) (number_of text) v (λ x. refl)
key_state key.EventChannel None v = refl
key_state key.EventChannel (Some text) v = leaves (with_port v) (number_of text) v (λ x. refl)
key_state key.Protocol text v = leaves (with_layout v) (layout_read text) v (λ x. refl)
key_state key.FeaturePersistent text v = leaves (with_persistent v) (count_read text) v (λ x. refl)

unmap_state : (pages : List Mapping) (own : BusState) → own ≡ own_after (unmap_ask pages) own
unfolding own_after
unmap_state [] own = refl
unmap_state (page ∷ pages) own = refl

state_at : (s : BackBusStage) (v : BackView) (a : BackAnswer) → IsAnswer (ask_at s v) a → (step_at s v a).state ≡ own_after (ask_at s v) v.state
unfolding own_after
state_at stage.ReadState v (answer.Key text) lawful = acted_state (back_action v.state v.unplugged (state_read text)) v
state_at (stage.ReadKey k) v (answer.Key text) lawful = key_state k text v
state_at (stage.WriteState s) v answer.Done lawful = refl
state_at (stage.WriteState s) v answer.Event lawful = elim lawful [ ]
state_at (stage.WriteState s) v (answer.Watched path) lawful = elim lawful [ ]
state_at (stage.WriteState s) v (answer.Word word) lawful = elim lawful [ ]
state_at (stage.WriteState s) v (answer.Mapped page) lawful = elim lawful [ ]
state_at (stage.WriteState s) v (answer.MapRefused status) lawful = elim lawful [ ]
state_at (stage.WriteState s) v answer.BindRefused lawful = elim lawful [ ]
state_at (stage.WriteState s) v (answer.Key text) lawful = elim lawful [ ]
state_at (stage.WriteState s) v (answer.Sector words) lawful = elim lawful [ ]
state_at (stage.WriteState s) v answer.DiskFailed lawful = elim lawful [ ]
state_at stage.UnmapPage v answer.Done lawful = unmap_state v.pages v.state
state_at stage.UnmapPage v answer.Event lawful = unmap_state v.pages v.state
state_at stage.UnmapPage v (answer.Watched path) lawful = unmap_state v.pages v.state
state_at stage.UnmapPage v (answer.Word word) lawful = unmap_state v.pages v.state
state_at stage.UnmapPage v (answer.Mapped page) lawful = unmap_state v.pages v.state
state_at stage.UnmapPage v (answer.MapRefused status) lawful = unmap_state v.pages v.state
state_at stage.UnmapPage v answer.BindRefused lawful = unmap_state v.pages v.state
state_at stage.UnmapPage v (answer.Key text) lawful = unmap_state v.pages v.state
state_at stage.UnmapPage v (answer.Sector words) lawful = unmap_state v.pages v.state
state_at stage.UnmapPage v answer.DiskFailed lawful = unmap_state v.pages v.state
state_at s v answer.Event lawful = refl
state_at s v (answer.Watched path) lawful = refl
state_at s v answer.Done lawful = refl
state_at s v (answer.Word word) lawful = refl
state_at s v (answer.Mapped page) lawful = refl
state_at s v (answer.MapRefused status) lawful = refl
state_at s v answer.BindRefused lawful = refl
state_at s v (answer.Key text) lawful = refl
state_at s v (answer.Sector words) lawful = refl
state_at s v answer.DiskFailed lawful = refl

state_after : (v : BackView) (a : BackAnswer) → IsAnswer (ask_of v) a → (step_of v a).state ≡ own_after (ask_of v) v.state
unfolding own_after
state_after v a = by_test (says_closing v)
  where
    by_test : (says : Bool) → IsAnswer (if says then ask.SetState state.Closing else ask_at v.stage v) a → (if says then record v { state = state.Closing } else step_at v.stage v a).state ≡ own_after (if says then ask.SetState state.Closing else ask_at v.stage v) v.state
    by_test true lawful = refl
    by_test false lawful = state_at v.stage v a lawful

rises_more : (own : BusState) (a : BackBusAsk) (asks : List BackBusAsk) → Rises own a → BackRises (own_after a own) asks → BackRises own (a ∷ asks)
unfolding own_after
rises_more own (ask.SetState s) asks rises h = (rises, h)
rises_more own ask.Wait asks rises h = h
rises_more own ask.Watch asks rises h = h
rises_more own ask.GetState asks rises h = h
rises_more own (ask.GetKey key) asks rises h = h
rises_more own (ask.SetKey key value) asks rises h = h
rises_more own (ask.Map gref) asks rises h = h
rises_more own (ask.Bind port) asks rises h = h
rises_more own ask.UnmapOthers asks rises h = h
rises_more own (ask.Unmap page) asks rises h = h
rises_more own ask.ClosePort asks rises h = h

same_state : (changes : Bool) (v w : BackView) → w.state ≡ v.state → (if changes then v else w).state ≡ v.state
same_state true v w e = refl
same_state false v w e = e

pub back_states_rise : (turns : List BackTurn) (v : BackView) → IsSound v → AreBackTurns turns v → BackRises v.state (back_asks turns v)
back_states_rise [] v h lawful = tt
back_states_rise (Hears a ∷ turns) v h lawful =
    let later = back_states_rise turns (step_of v a) (back_keeps v a lawful.0 h) lawful.1 in
    let own = state_after v a lawful.0 in
    rises_more v.state (ask_of v) (back_asks turns (step_of v a)) (back_rises v h) (subst (λ (s : BusState). BackRises s (back_asks turns (step_of v a))) own later)
back_states_rise (Unplugs ∷ turns) v h lawful =
    let later = back_states_rise turns (unplugged v) (back_turn_keeps Unplugs v tt h) lawful.1 in
    subst (λ (s : BusState). BackRises s (back_asks turns (unplugged v))) (same_state (is_halting v.stage) v (record v { unplugged = true }) refl) later
back_states_rise (Stops ∷ turns) v h lawful =
    let later = back_states_rise turns (stopped v) (back_turn_keeps Stops v tt h) lawful.1 in
    subst (λ (s : BusState). BackRises s (back_asks turns (stopped v))) (same_state (is_halting v.stage) v (halted v) refl) later
