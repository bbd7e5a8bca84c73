-- What is true of the back's end stays true, whatever it is told.
use Rattle.std.proofs.Common.{sym, subst, ◌≡◌, ℕ, ◌+◌, ◌^◌, ◌<◌, ◌≤◌, ◌==◌, nat_lt, nat_le, Bool, true, false, List, [], ◌∷◌, ◌++◌, length, arith, refl, if◌then◌else◌, length-append}
use Rattle.std.specs.Prelude.{Option, Some, None}
use Rattle.std.specs.Option.{option_map}
use Rattle.std.proofs.lemmas.Bool.Decides.{nat_tests}
use Rattle.std.proofs.lemmas.Nat.{pow_pos}
use Rattle.blk_base.specs.declared.operation.Abi.{Abi}
use Rattle.blk_base.specs.declared.parts.Mapping.{Mapping}
use Rattle.blk_base.specs.declared.ask.BackAnswer.{BackAnswer}
use Rattle.blk_base.specs.declared.ask.BackAnswer.TheVariants as answer
use Rattle.xenbus_state.specs.declared.keys.FrontKey.{FrontKey}
use Rattle.xenbus_state.specs.declared.keys.FrontKey.TheVariants as key
use Rattle.xenbus_state.specs.declared.keys.BackKey.{BackKey}
use Rattle.xenbus_state.specs.declared.state.BusState.{BusState}
use Rattle.xenbus_state.specs.declared.state.BusState.TheVariants as state
use Rattle.xenbus_state.specs.declared.stage.BackBusStage.{BackBusStage}
use Rattle.xenbus_state.specs.declared.stage.BackBusStage.TheVariants as stage
use Rattle.xenbus_state.specs.declared.table.BackAction.{BackAction}
use Rattle.xenbus_state.specs.declared.table.BackAction.TheVariants as action
use Rattle.xenbus_state.specs.declared.back.BackBusAsk.TheVariants as ask
use Rattle.xenbus_state.specs.States.{state_number, state_read}
use Rattle.xenbus_state.specs.Numbers.{number_of}
use Rattle.xenbus_state.specs.Tables.{back_action, front_gone, bad_order, is_connected, SuitsBack}
use Rattle.xenbus_state.specs.Programs.{next_feature, next_fact, after_page}
use Rattle.xenbus_state.specs.Reading.{count_read}
use Rattle.xenbus_state.specs.BackView.{BackView, halted, unplugged}
use Rattle.xenbus_state.specs.BackAsk.{says_closing, says_closing_at, ask_at, ask_of, IsAnswer}
use Rattle.xenbus_state.specs.BackReading.{key_read, order_of, layout_read, with_order, with_gref, with_port, with_layout, with_persistent}
use Rattle.xenbus_state.specs.BackStep.{at, step_at, step_of, acted, kept_or_halted, mapped, after_state, last_state, unmapping_next, other_pages, after_feature, after_fact}
use Rattle.xenbus_state.specs.BackSound.{IsSound, IsPlaced, IsFresh, IsMapped, HoldsNothing, IsResting, IsWriting, IsReading}
use Rattle.xenbus_state.proofs.Early.{resting_early}

-- the table suits the back's own state
initialised_suits : (own : BusState) (connected : Bool) → is_connected own ≡ connected → SuitsBack own (if connected then action.Nothing else action.Connect)
initialised_suits own true e = tt
initialised_suits own false e = e

initialising_suits : (own : BusState) (connected : Bool) → SuitsBack own (if connected then bad_order state.Initialising else action.Nothing)
initialising_suits own true = tt
initialising_suits own false = tt

gone_suits : (own : BusState) (unplugged : Bool) (s : BusState) → SuitsBack own (front_gone unplugged s)
gone_suits own true s = tt
gone_suits own false s = tt

pub action_suits : (own : BusState) (unplugged : Bool) (read : Option BusState) → SuitsBack own (back_action own unplugged read)
action_suits own unplugged (Some state.Initialising) = initialising_suits own (is_connected own)
action_suits own unplugged (Some state.InitWait) = tt
action_suits own unplugged (Some state.Initialised) = initialised_suits own (is_connected own) refl
action_suits own unplugged (Some state.Connected) = initialised_suits own (is_connected own) refl
action_suits own unplugged (Some state.Closing) = gone_suits own unplugged state.Closing
action_suits own unplugged (Some state.Closed) = gone_suits own unplugged state.Closed
action_suits own unplugged (Some state.Unknown) = gone_suits own unplugged state.Unknown
action_suits own unplugged (Some state.Reconfiguring) = tt
action_suits own unplugged (Some state.Reconfigured) = tt
action_suits own unplugged None = tt

-- the facts of a view whose stage or state alone is another
fresh_as : (s : BackBusStage) (own : BusState) (v : BackView) → IsFresh v → IsFresh (record v { stage = s; state = own })
fresh_as s own v h = record { grefs = h.grefs; pages = h.pages; bound = h.bound }

mapped_as : (s : BackBusStage) (own : BusState) (v : BackView) → IsMapped v → IsMapped (record v { stage = s; state = own })
mapped_as s own v h = record { grefs = h.grefs; pages = h.pages }

nothing_held_as : (s : BackBusStage) (own : BusState) (v : BackView) → HoldsNothing v → HoldsNothing (record v { stage = s; state = own })
nothing_held_as s own v h = record { pages = h.pages; bound = h.bound }

resting_as : (own : BusState) (s : BackBusStage) (v : BackView) → IsResting own v → IsResting own (record v { stage = s })
resting_as state.InitWait s v h = fresh_as s v.state v h
resting_as state.Connected s v h = (mapped_as s v.state v h.0, h.1)
resting_as state.Closing s v h = (mapped_as s v.state v h.0, h.1)
resting_as state.Unknown s v h = absurd h
resting_as state.Initialising s v h = absurd h
resting_as state.Initialised s v h = absurd h
resting_as state.Closed s v h = absurd h
resting_as state.Reconfiguring s v h = absurd h
resting_as state.Reconfigured s v h = absurd h

-- a back that rests and isn't connected has offered alone
waiting : (own : BusState) (v : BackView) → is_connected own ≡ false → IsResting own v → (own ≡ state.InitWait) × IsFresh v
waiting state.InitWait v e h = (refl, h)
waiting state.Connected v e h = absurd (cc)
waiting state.Closing v e h = absurd (cc)
waiting state.Unknown v e h = absurd h
waiting state.Initialising v e h = absurd h
waiting state.Initialised v e h = absurd h
waiting state.Closed v e h = absurd h
waiting state.Reconfiguring v e h = absurd h
waiting state.Reconfigured v e h = absurd h

pub halted_sound : (v : BackView) → v.terms.order ≤ 4 → state_number v.state < 6 → IsSound (halted v)
halted_sound v order early = record { order = order; placed = early }

init_early : (own : BusState) → own ≡ state.InitWait → state_number own < 6
init_early own e = rw e (omega arith)

acted_sound : (act : BackAction) (v : BackView) → SuitsBack v.state act → v.terms.order ≤ 4 → IsResting v.state v → IsSound (acted act v)
acted_sound action.Nothing v suits order h = record { order = order; placed = resting_as v.state stage.Rest v h }
acted_sound action.Connect v suits order h =
    let (e, fresh) = waiting v.state v suits h in
    record { order = order; placed = (e, record { pages = fresh.pages; bound = fresh.bound }, fresh.grefs) }
acted_sound (action.Halt reason) v suits order h = halted_sound v order (resting_early v.state v h)

-- what is true while the front's keys are read
record IsReadingAt (k : FrontKey) (v : BackView) : Type 0 where
  order : v.terms.order ≤ 4
  own : v.state ≡ state.InitWait
  pages : length v.pages ≡ 0
  bound : v.bound ≡ false
  grefs : IsReading k v

bad_sound : (k : FrontKey) (v : BackView) → IsReadingAt k v → IsSound (halted v)
bad_sound k v h = halted_sound v h.order (init_early v.state h.own)

order_sound : (n : Option ℕ) (v : BackView) → IsReadingAt key.RingPageOrder v → IsSound (kept_or_halted (option_map (with_order v (key.RingRefOf 0)) (order_of n)) v)
order_sound None v h = bad_sound key.RingPageOrder v h
order_sound (Some n) v h = by_test (nat_le n 4) refl
  where
    by_test : (few : Bool) → nat_le n 4 ≡ few → IsSound (kept_or_halted (option_map (with_order v (key.RingRefOf 0)) (if few then Some n else None)) v)
    by_test true e = record { order = grind (arith, nat_tests); placed = (h.own, record { pages = h.pages; bound = h.bound }, (h.grefs, pow_pos n)) }
    by_test false e = bad_sound key.RingPageOrder v h

only_page_sound : (page : ℕ) (v : BackView) → IsReadingAt (key.RingRefOf page) v → IsSound (kept_or_halted (if v.terms.order == 0 then Some (record v { stage = stage.ReadKey key.RingRef }) else None) v)
only_page_sound page v h = by_test (v.terms.order == 0) refl
  where
    one : v.terms.order ≡ 0 → length v.grefs ≡ 0
    one e = let few : page < 2 ^ 0 = subst (λ (n : ℕ). page < 2 ^ n) e h.grefs.1 in let same = h.grefs.0 in omega arith

    by_test : (single : Bool) → (v.terms.order == 0) ≡ single → IsSound (kept_or_halted (if single then Some (record v { stage = stage.ReadKey key.RingRef }) else None) v)
    by_test true e =
        let zero : v.terms.order ≡ 0 = grind (arith, nat_tests) in
        record { order = h.order; placed = (h.own, record { pages = h.pages; bound = h.bound }, (one zero, zero)) }
    by_test false e = bad_sound (key.RingRefOf page) v h

page_sound : (page : ℕ) (n : Option ℕ) (v : BackView) → IsReadingAt (key.RingRefOf page) v → IsSound (kept_or_halted (option_map (with_gref v (after_page v.terms.order page)) n) v)
page_sound page None v h = bad_sound (key.RingRefOf page) v h
page_sound page (Some gref) v h = by_test (nat_lt (page + 1) (2 ^ v.terms.order)) refl
  where
    more : length (v.grefs ++ gref ∷ []) ≡ page + 1
    more = let same = h.grefs.0 in simp length-append (omega arith)

    by_test : (further : Bool) → nat_lt (page + 1) (2 ^ v.terms.order) ≡ further → IsSound (with_gref v (if further then key.RingRefOf (page + 1) else key.EventChannel) gref)
    by_test true e = record { order = h.order; placed = (h.own, record { pages = h.pages; bound = h.bound }, (more, grind (arith, nat_tests))) }
    by_test false e =
        let low = h.grefs.1 in
        let all : page + 1 ≡ 2 ^ v.terms.order = grind (arith, nat_tests) in
        record { order = h.order; placed = (h.own, record { pages = h.pages; bound = h.bound }, cc more) }

single_sound : (n : Option ℕ) (v : BackView) → IsReadingAt key.RingRef v → IsSound (kept_or_halted (option_map (with_gref v key.EventChannel) n) v)
single_sound None v h = bad_sound key.RingRef v h
single_sound (Some gref) v h =
    let none = h.grefs.0 in
    let more : length (v.grefs ++ gref ∷ []) ≡ 1 = simp length-append (omega arith) in
    let all : length (v.grefs ++ gref ∷ []) ≡ 2 ^ v.terms.order = rw h.grefs.1 more in
    record { order = h.order; placed = (h.own, record { pages = h.pages; bound = h.bound }, all) }

port_sound : (n : Option ℕ) (v : BackView) → IsReadingAt key.EventChannel v → IsSound (kept_or_halted (option_map (with_port v) n) v)
port_sound None v h = bad_sound key.EventChannel v h
port_sound (Some port) v h = record { order = h.order; placed = (h.own, record { pages = h.pages; bound = h.bound }, h.grefs) }

layout_sound : (n : Option Abi) (v : BackView) → IsReadingAt key.Protocol v → IsSound (kept_or_halted (option_map (with_layout v) n) v)
layout_sound None v h = bad_sound key.Protocol v h
layout_sound (Some abi) v h = record { order = h.order; placed = (h.own, record { pages = h.pages; bound = h.bound }, h.grefs) }

persistent_sound : (n : Option ℕ) (v : BackView) → IsReadingAt key.FeaturePersistent v → IsSound (kept_or_halted (option_map (with_persistent v) n) v)
persistent_sound None v h = bad_sound key.FeaturePersistent v h
persistent_sound (Some n) v h =
    let some = pow_pos v.terms.order in
    let none = h.pages in
    record { order = h.order; placed = (h.own, h.bound, h.grefs, omega arith) }

key_sound : (k : FrontKey) (text : Option (List ℕ)) (v : BackView) → IsReadingAt k v → IsSound (kept_or_halted (key_read k text v) v)
key_sound key.RingPageOrder None v h = record { order = omega arith; placed = (h.own, record { pages = h.pages; bound = h.bound }, (h.grefs, refl)) }
key_sound key.RingPageOrder (Some text) v h = order_sound (number_of text) v h
key_sound (key.RingRefOf page) None v h = only_page_sound page v h
key_sound (key.RingRefOf page) (Some text) v h = page_sound page (number_of text) v h
key_sound key.RingRef None v h = bad_sound key.RingRef v h
key_sound key.RingRef (Some text) v h = single_sound (number_of text) v h
key_sound key.EventChannel None v h = bad_sound key.EventChannel v h
key_sound key.EventChannel (Some text) v h = port_sound (number_of text) v h
key_sound key.Protocol text v h = layout_sound (layout_read text) v h
key_sound key.FeaturePersistent text v h = persistent_sound (count_read text) v h

map_sound : (page : Mapping) (v : BackView) → v.terms.order ≤ 4 → IsPlaced stage.MapPage v → IsSound (mapped page v)
map_sound page v order h = by_test (nat_lt (length v.pages + 1) (length v.grefs)) refl
  where
    more : length (v.pages ++ page ∷ []) ≡ length v.pages + 1
    more = simp length-append (omega arith)

    by_test : (further : Bool) → nat_lt (length v.pages + 1) (length v.grefs) ≡ further → IsSound (record v { pages = v.pages ++ page ∷ []; stage = if further then stage.MapPage else stage.Bind })
    by_test true e =
        let refs = h.2 in
        let below : length v.pages + 1 < length v.grefs = grind (arith, nat_tests) in
        record { order = order; placed = (h.0, h.1, refs, omega (arith, more)) }
    by_test false e =
        let refs = h.2 in
        let low = h.3 in
        let all : length v.pages + 1 ≡ length v.grefs = grind (arith, nat_tests) in
        record { order = order; placed = (h.0, h.1, record { grefs = refs; pages = omega (arith, more) }) }

last_sound : (own : BusState) (v : BackView) → v.state ≡ own → state_number own < 6 → HoldsNothing v → IsWriting (last_state own) v
last_sound state.Closing v e early h = (e, h)
last_sound state.Unknown v e early h = (rw e (omega arith), h)
last_sound state.Initialising v e early h = (rw e (omega arith), h)
last_sound state.InitWait v e early h = (rw e (omega arith), h)
last_sound state.Initialised v e early h = (rw e (omega arith), h)
last_sound state.Connected v e early h = (rw e (omega arith), h)
last_sound state.Closed v e early h = absurd (omega arith)
last_sound state.Reconfiguring v e early h = absurd (omega arith)
last_sound state.Reconfigured v e early h = absurd (omega arith)

giving_sound : (pages : List Mapping) (bound : Bool) (v : BackView) → v.terms.order ≤ 4 → state_number v.state < 6 → IsSound (record v { pages = pages; bound = bound; stage = unmapping_next pages bound v.state })
giving_sound (page ∷ pages) bound v order early = record { order = order; placed = (early, omega arith) }
giving_sound [] true v order early = record { order = order; placed = (early, refl) }
giving_sound [] false v order early = record { order = order; placed = last_sound v.state (record v { pages = []; bound = false; stage = stage.WriteState (last_state v.state) }) refl early (record { pages = refl; bound = refl }) }

written_sound : (s : BusState) (v : BackView) → v.terms.order ≤ 4 → IsWriting s v → IsSound (record v { state = s; stage = after_state s })
written_sound state.InitWait v order h = record { order = order; placed = (refl, fresh_as stage.Watch state.InitWait v h.1) }
written_sound state.Connected v order h = record { order = order; placed = (mapped_as stage.Rest state.Connected v h.1, h.2) }
written_sound state.Closing v order h = record { order = order; placed = (refl, nothing_held_as (stage.WriteState state.Closed) state.Closing v h.1) }
written_sound state.Closed v order h = record { order = order; placed = (refl, nothing_held_as stage.Halted state.Closed v h.1) }
written_sound state.Unknown v order h = absurd h
written_sound state.Initialising v order h = absurd h
written_sound state.Initialised v order h = absurd h
written_sound state.Reconfiguring v order h = absurd h
written_sound state.Reconfigured v order h = absurd h

offered_sound : (next : Option BackKey) (v : BackView) → v.terms.order ≤ 4 → v.state ≡ state.Initialising → IsFresh v → IsSound (at (after_feature next) v)
offered_sound None v order own h = record { order = order; placed = (own, fresh_as (stage.WriteState state.InitWait) v.state v h) }
offered_sound (Some k) v order own h = record { order = order; placed = (own, fresh_as (stage.Publish k) v.state v h) }

fact_sound : (next : Option BackKey) (v : BackView) → v.terms.order ≤ 4 → v.state ≡ state.InitWait → IsMapped v → v.bound ≡ true → IsSound (at (after_fact next) v)
fact_sound None v order own h bound = record { order = order; placed = (own, mapped_as (stage.WriteState state.Connected) v.state v h, bound) }
fact_sound (Some k) v order own h bound = record { order = order; placed = (own, mapped_as (stage.PublishFact k) v.state v h, bound) }

keeps_at : (s : BackBusStage) (v : BackView) (a : BackAnswer) → IsAnswer (ask_at s v) a → v.terms.order ≤ 4 → IsPlaced s v → IsSound v → IsSound (step_at s v a)
keeps_at (stage.Publish k) v answer.Done lawful order h whole = offered_sound (next_feature k) v order h.0 h.1
keeps_at (stage.WriteState s) v answer.Done lawful order h whole = written_sound s v order h
keeps_at stage.Watch v answer.Done lawful order h whole = record { order = order; placed = subst (λ (own : BusState). IsResting own (at stage.Rest v)) (sym h.0) (fresh_as stage.Rest v.state v h.1) }
keeps_at stage.Rest v (answer.Watched path) lawful order h whole = record { order = order; placed = resting_as v.state stage.ReadState v h }
keeps_at stage.ReadState v (answer.Key text) lawful order h whole = acted_sound (back_action v.state v.unplugged (state_read text)) v (action_suits v.state v.unplugged (state_read text)) order h
keeps_at (stage.ReadKey k) v (answer.Key text) lawful order h whole = key_sound k text v (record { order = order; own = h.0; pages = h.1.pages; bound = h.1.bound; grefs = h.2 })
keeps_at stage.MapPage v (answer.Mapped page) lawful order h whole = map_sound page v order h
keeps_at stage.MapPage v (answer.MapRefused status) lawful order h whole = halted_sound v order (init_early v.state h.0)
keeps_at stage.Bind v answer.Done lawful order h whole = record { order = order; placed = (h.0, record { grefs = h.2.grefs; pages = h.2.pages }, refl) }
keeps_at stage.Bind v answer.BindRefused lawful order h whole = halted_sound v order (init_early v.state h.0)
keeps_at (stage.PublishFact k) v answer.Done lawful order h whole = fact_sound (next_fact k) v order h.0 h.1 h.2
keeps_at stage.UnmapOthers v answer.Done lawful order h whole = giving_sound v.pages v.bound v order h
keeps_at stage.UnmapPage v answer.Done lawful order h whole = giving_sound (other_pages v.pages) v.bound v order h.0
keeps_at stage.ClosePort v answer.Done lawful order h whole = record { order = order; placed = last_sound v.state (record v { bound = false; stage = stage.WriteState (last_state v.state) }) refl h.0 (record { pages = h.1; bound = refl }) }
keeps_at s v a lawful order h whole = whole

-- a connected back says that it closes
closing_rest : (v : BackView) → IsResting state.Connected v → IsResting state.Closing (record v { state = state.Closing })
closing_rest v r = (record { grefs = r.0.grefs; pages = r.0.pages }, r.1)

says_sound : (s : BackBusStage) (own : BusState) (v : BackView) → v.stage ≡ s → v.state ≡ own → says_closing_at s own ≡ true → IsSound v → IsSound (record v { state = state.Closing })
says_sound stage.Rest state.Connected v e f g h =
    let rests : IsResting v.state v = subst (λ (s : BackBusStage). IsPlaced s v) e h.placed in
    let connected : IsResting state.Connected v = subst (λ (own : BusState). IsResting own v) f rests in
    record { order = h.order; placed = subst (λ (s : BackBusStage). IsPlaced s (record v { state = state.Closing })) (sym e) (closing_rest v connected) }
says_sound stage.ReadState state.Connected v e f g h =
    let rests : IsResting v.state v = subst (λ (s : BackBusStage). IsPlaced s v) e h.placed in
    let connected : IsResting state.Connected v = subst (λ (own : BusState). IsResting own v) f rests in
    record { order = h.order; placed = subst (λ (s : BackBusStage). IsPlaced s (record v { state = state.Closing })) (sym e) (closing_rest v connected) }
says_sound s own v e f g h = absurd (cc)

pub says_where : (v : BackView) → says_closing v ≡ true → says_closing_at v.stage v.state ≡ true
says_where v e = grind (arith, nat_tests)

pub back_keeps : (v : BackView) (a : BackAnswer) → IsAnswer (ask_of v) a → IsSound v → IsSound (step_of v a)
back_keeps v a = by_test (says_closing v) refl
  where
    by_test : (says : Bool) → says_closing v ≡ says → IsAnswer (if says then ask.SetState state.Closing else ask_at v.stage v) a → IsSound v → IsSound (if says then record v { state = state.Closing } else step_at v.stage v a)
    by_test true e lawful h = says_sound v.stage v.state v refl refl (says_where v e) h
    by_test false e lawful h = keeps_at v.stage v a lawful h.order h.placed h
