-- A front asks for one port at most in an epoch.
use Rattle.std.proofs.Common.{◌≡◌, ◌∙◌, sym, subst, ℕ, ◌+◌, ◌<◌, ◌≤◌, ◌&&◌, ◌||◌, Bool, true, false, List, [], ◌∷◌, refl, arith, if◌then◌else◌, count_by}
use Rattle.std.specs.Prelude.{Option, Some, None}
use Rattle.std.proofs.lemmas.List.Sums.{sum_by-cons}
use Rattle.blk_base.specs.declared.ask.FrontAnswer.{FrontAnswer}
use Rattle.blk_base.specs.declared.ask.FrontAnswer.TheVariants as answer
use Rattle.xenbus_state.specs.declared.keys.FrontKey.{FrontKey}
use Rattle.xenbus_state.specs.declared.state.BusState.{BusState}
use Rattle.xenbus_state.specs.declared.state.BusState.TheVariants as state
use Rattle.xenbus_state.specs.declared.stage.FrontBusStage.{FrontBusStage}
use Rattle.xenbus_state.specs.declared.stage.FrontBusStage.TheVariants as stage
use Rattle.xenbus_state.specs.declared.front.FrontBusAsk.{FrontBusAsk}
use Rattle.xenbus_state.specs.declared.front.FrontBusAsk.TheVariants as ask
use Rattle.xenbus_state.specs.States.{state_number}
use Rattle.xenbus_state.specs.Programs.{next_published}
use Rattle.xenbus_state.specs.FrontView.{FrontView, ring_order, closed, broken, is_broken}
use Rattle.xenbus_state.specs.FrontAsk.{due_at, leaving, closing_stage, ask_at, ask_of, IsAnswer}
use Rattle.xenbus_state.specs.FrontStep.{at, step_at, step_of, after_published}
use Rattle.xenbus_state.specs.FrontSound.{IsSound, IsTimely, Rises}
use Rattle.xenbus_state.specs.Runs.{FrontTurn, Told, Closes, Breaks, AreFrontTurns, front_asks}
use Rattle.xenbus_state.specs.Orders.{is_new_port}
use Rattle.xenbus_state.proofs.FrontKeeps.{front_keeps, front_rises}
use Rattle.xenbus_state.proofs.FrontRuns.{own_after, state_after, front_turn_keeps}

-- the port was asked for
IsPast : FrontBusStage → BusState → Type 0
IsPast (stage.Publish k) own = Unit {0}
IsPast (stage.WriteState state.Initialised) own = Unit {0}
IsPast (stage.Broken word) own = Unit {0}
IsPast s own = 1 < state_number own

past_from : (s : FrontBusStage) (own : BusState) → 1 < state_number own → IsPast s own
unfolding IsPast
past_from (stage.Publish k) own h = tt
past_from (stage.WriteState state.Initialised) own h = tt
past_from (stage.Broken word) own h = tt
past_from s own h = h

-- nothing that is due asks for a port
leaving_asks : (gone : Bool) (port : Option ℕ) (v : FrontView) → is_new_port (ask_at (leaving gone port) v) ≡ false
leaving_asks false port v = refl
leaving_asks true (Some port) v = refl
leaving_asks true None v = refl

closing_asks : (own : BusState) (v : FrontView) → is_new_port (ask_at (closing_stage own v) v) ≡ false
closing_asks state.Closing v = leaving_asks v.gone v.port v
closing_asks own v = refl

resting_asks : (closes : Bool) (v : FrontView) → is_new_port (ask_at (if closes then closing_stage v.state v else stage.Rest) v) ≡ false
resting_asks true v = closing_asks v.state v
resting_asks false v = refl

too_low : (own : BusState) → own ≡ state.Initialising → 1 < state_number own → ⊥
too_low own e h = let low : 1 < 1 = subst (λ (s : BusState). 1 < state_number s) e h in omega arith

asks_at : (s : FrontBusStage) (v : FrontView) (idle : Bool) → IsTimely s v.state → IsPast s v.state → is_new_port (ask_at (due_at s v idle) v) ≡ false
unfolding IsPast
asks_at stage.NewPort v idle timely past = absurd (too_low v.state timely past)
asks_at stage.Rest v idle timely past = resting_asks (v.closing && idle) v
asks_at s v idle timely past = refl

asks_no_port : (v : FrontView) (idle : Bool) → IsSound v → IsPast v.stage v.state → is_new_port (ask_of v idle) ≡ false
asks_no_port v idle h past = asks_at v.stage v idle h.timely past

-- a state above Initialising stays above it
higher : (own : BusState) (a : FrontBusAsk) → Rises own a → 1 < state_number own → 1 < state_number (own_after a own)
unfolding own_after
higher own (ask.SetState s) rises h = omega arith
higher own ask.Wait rises h = h
higher own ask.Watch rises h = h
higher own ask.GetState rises h = h
higher own (ask.GetKey key) rises h = h
higher own (ask.SetKey key value) rises h = h
higher own (ask.WriteRingWord word) rises h = h
higher own (ask.Grant page) rises h = h
higher own ask.NewPort rises h = h
higher own (ask.EndGrant page) rises h = h
higher own ask.EndOtherGrants rises h = h
higher own ask.ClosePort rises h = h

stays_high : (v : FrontView) (idle : Bool) (a : FrontAnswer) → IsSound v → IsAnswer (ask_of v idle) a → 1 < state_number v.state → IsPast (step_of v idle a).stage (step_of v idle a).state
stays_high v idle a h lawful high =
    let more = higher v.state (ask_of v idle) (front_rises v idle h) high in
    past_from (step_of v idle a).stage (step_of v idle a).state (subst (λ (s : BusState). 1 < state_number s) (sym (state_after v idle a lawful)) more)

-- the front once it was told an answer at this stage
told_at : FrontBusStage → FrontView → Bool → FrontAnswer → FrontView
told_at s v idle a = step_at (due_at s v idle) (at (due_at s v idle) v) idle a

published_past : (next : Option FrontKey) (own : BusState) → IsPast (after_published next) own
unfolding IsPast
published_past None own = tt
published_past (Some k) own = tt

publish_past : (k : FrontKey) (v : FrontView) (idle : Bool) (a : FrontAnswer) → IsAnswer (ask_at (stage.Publish k) v) a → IsPast (told_at (stage.Publish k) v idle a).stage (told_at (stage.Publish k) v idle a).state
unfolding told_at
publish_past k v idle answer.Done lawful = published_past (next_published (ring_order v) k) v.state
publish_past k v idle answer.Event lawful = elim lawful [ ]
publish_past k v idle (answer.Watched path) lawful = elim lawful [ ]
publish_past k v idle (answer.Word word) lawful = elim lawful [ ]
publish_past k v idle (answer.Port port) lawful = elim lawful [ ]
publish_past k v idle (answer.Key text) lawful = elim lawful [ ]

write_past : (v : FrontView) (idle : Bool) (a : FrontAnswer) → IsAnswer (ask_at (stage.WriteState state.Initialised) v) a → IsPast (told_at (stage.WriteState state.Initialised) v idle a).stage (told_at (stage.WriteState state.Initialised) v idle a).state
unfolding told_at IsPast
write_past v idle answer.Done lawful = omega arith
write_past v idle answer.Event lawful = elim lawful [ ]
write_past v idle (answer.Watched path) lawful = elim lawful [ ]
write_past v idle (answer.Word word) lawful = elim lawful [ ]
write_past v idle (answer.Port port) lawful = elim lawful [ ]
write_past v idle (answer.Key text) lawful = elim lawful [ ]

broken_past : (word : ℕ) (v : FrontView) (idle : Bool) (a : FrontAnswer) → IsAnswer (ask_at (stage.Broken word) v) a → IsPast (told_at (stage.Broken word) v idle a).stage (told_at (stage.Broken word) v idle a).state
unfolding told_at IsPast
broken_past word v idle answer.Event lawful = tt
broken_past word v idle (answer.Watched path) lawful = tt
broken_past word v idle answer.Done lawful = elim lawful [ ]
broken_past word v idle (answer.Word w) lawful = elim lawful [ ]
broken_past word v idle (answer.Port port) lawful = elim lawful [ ]
broken_past word v idle (answer.Key text) lawful = elim lawful [ ]

past_by : (s : FrontBusStage) (v : FrontView) (idle : Bool) (a : FrontAnswer) → v.stage ≡ s → IsSound v → IsAnswer (ask_of v idle) a → IsAnswer (ask_at (due_at s v idle) v) a → IsPast s v.state → IsPast (told_at v.stage v idle a).stage (told_at v.stage v idle a).state
unfolding IsPast told_at
past_by (stage.Publish k) v idle a e h lawful same past = subst (λ (t : FrontBusStage). IsPast (told_at t v idle a).stage (told_at t v idle a).state) (sym e) (publish_past k v idle a same)
past_by (stage.WriteState state.Initialised) v idle a e h lawful same past = subst (λ (t : FrontBusStage). IsPast (told_at t v idle a).stage (told_at t v idle a).state) (sym e) (write_past v idle a same)
past_by (stage.Broken word) v idle a e h lawful same past = subst (λ (t : FrontBusStage). IsPast (told_at t v idle a).stage (told_at t v idle a).state) (sym e) (broken_past word v idle a same)
past_by s v idle a e h lawful same past = stays_high v idle a h lawful past

stays_past : (v : FrontView) (idle : Bool) (a : FrontAnswer) → IsSound v → IsAnswer (ask_of v idle) a → IsPast v.stage v.state → IsPast (step_of v idle a).stage (step_of v idle a).state
unfolding told_at
stays_past v idle a h lawful past = past_by v.stage v idle a refl h lawful lawful past

-- once the port was asked for, the publishing begins
new_port_at : (s : FrontBusStage) (v : FrontView) (idle : Bool) (a : FrontAnswer) → is_new_port (ask_at (due_at s v idle) v) ≡ true → IsAnswer (ask_at (due_at s v idle) v) a → IsPast (told_at s v idle a).stage (told_at s v idle a).state
unfolding told_at IsPast
new_port_at stage.NewPort v idle (answer.Port port) asks lawful = tt
new_port_at stage.NewPort v idle answer.Event asks lawful = elim lawful [ ]
new_port_at stage.NewPort v idle (answer.Watched path) asks lawful = elim lawful [ ]
new_port_at stage.NewPort v idle answer.Done asks lawful = elim lawful [ ]
new_port_at stage.NewPort v idle (answer.Word word) asks lawful = elim lawful [ ]
new_port_at stage.NewPort v idle (answer.Key text) asks lawful = elim lawful [ ]
new_port_at stage.Rest v idle a asks lawful = let no = resting_asks (v.closing && idle) v in absurd (cc)
new_port_at s v idle a asks lawful = absurd (cc)

begins_past : (v : FrontView) (idle : Bool) (a : FrontAnswer) → is_new_port (ask_of v idle) ≡ true → IsAnswer (ask_of v idle) a → IsPast (step_of v idle a).stage (step_of v idle a).state
unfolding told_at
begins_past v idle a asks lawful = new_port_at v.stage v idle a asks lawful

-- to be asked to close leaves the stage and the state
closed_past : (already : Bool) (v : FrontView) → IsPast v.stage v.state → IsPast (if already then v else record v { closing = true }).stage (if already then v else record v { closing = true }).state
closed_past true v past = past
closed_past false v past = past

-- an ask counts where it asks for a port
counted : (a : FrontBusAsk) (asks : List FrontBusAsk) (is : Bool) → is_new_port a ≡ is → count_by is_new_port (a ∷ asks) ≡ (if is then 1 else 0) + count_by is_new_port asks
counted a asks is e = sum_by-cons (λ (b : FrontBusAsk). if is_new_port b then 1 else 0) a asks ∙ rw e refl

broke_past : (word : ℕ) (own : BusState) → IsPast (stage.Broken word) own
unfolding IsPast
broke_past word own = tt

none_more : (turns : List FrontTurn) (v : FrontView) → IsSound v → IsPast v.stage v.state → AreFrontTurns turns v → count_by is_new_port (front_asks turns v) ≡ 0
none_more [] v h past lawful = refl
none_more (Told idle a ∷ turns) v h past lawful =
    let no = asks_no_port v idle h past in
    let later = none_more turns (step_of v idle a) (front_keeps v idle a lawful.0 h) (stays_past v idle a h lawful.0 past) lawful.1 in
    counted (ask_of v idle) (front_asks turns (step_of v idle a)) false no ∙ rw later refl
none_more (Closes ∷ turns) v h past lawful = none_more turns (closed v) (front_turn_keeps Closes v tt h) (closed_past (v.closing || is_broken v.stage) v past) lawful.1
none_more (Breaks word ∷ turns) v h past lawful = none_more turns (broken word v) (front_turn_keeps (Breaks word) v tt h) (broke_past word v.state) lawful.1

pub one_port : (turns : List FrontTurn) (v : FrontView) → IsSound v → AreFrontTurns turns v → count_by is_new_port (front_asks turns v) ≤ 1
one_port [] v h lawful = omega arith
one_port (Told idle a ∷ turns) v h lawful = by_test (is_new_port (ask_of v idle)) refl (one_port turns (step_of v idle a) (front_keeps v idle a lawful.0 h) lawful.1)
  where
    by_test : (asks : Bool) → is_new_port (ask_of v idle) ≡ asks → count_by is_new_port (front_asks turns (step_of v idle a)) ≤ 1 → count_by is_new_port (ask_of v idle ∷ front_asks turns (step_of v idle a)) ≤ 1
    by_test true e later =
        let none = none_more turns (step_of v idle a) (front_keeps v idle a lawful.0 h) (begins_past v idle a e lawful.0) lawful.1 in
        rw (counted (ask_of v idle) (front_asks turns (step_of v idle a)) true e) (omega arith)
    by_test false e later = rw (counted (ask_of v idle) (front_asks turns (step_of v idle a)) false e) (omega arith)
one_port (Closes ∷ turns) v h lawful = one_port turns (closed v) (front_turn_keeps Closes v tt h) lawful.1
one_port (Breaks word ∷ turns) v h lawful = one_port turns (broken word v) (front_turn_keeps (Breaks word) v tt h) lawful.1
