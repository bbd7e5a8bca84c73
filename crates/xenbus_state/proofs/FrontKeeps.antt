-- What is true of the front's end stays true, whatever it is told.
use Rattle.std.proofs.Common.{subst, ◌&&◌, ◌≡◌, ℕ, ◌+◌, ◌<◌, ◌≤◌, ◌==◌, nat_lt, Bool, true, false, arith, refl, if◌then◌else◌}
use Rattle.std.specs.Prelude.{Option, Some, None, IsSome}
use Rattle.std.proofs.lemmas.Bool.Decides.{nat_tests}
use Rattle.std.proofs.lemmas.Nat.{pow_pos}
use Rattle.blk_base.specs.declared.ask.FrontAnswer.{FrontAnswer}
use Rattle.blk_base.specs.declared.ask.FrontAnswer.TheVariants as answer
use Rattle.xenbus_state.specs.declared.keys.FrontKey.{FrontKey}
use Rattle.xenbus_state.specs.declared.keys.BackKey.{BackKey}
use Rattle.xenbus_state.specs.declared.keys.BackKey.TheVariants as key
use Rattle.xenbus_state.specs.declared.state.BusState.{BusState}
use Rattle.xenbus_state.specs.declared.state.BusState.TheVariants as state
use Rattle.xenbus_state.specs.declared.stage.FrontBusStage.{FrontBusStage}
use Rattle.xenbus_state.specs.declared.stage.FrontBusStage.TheVariants as stage
use Rattle.xenbus_state.specs.declared.table.FrontAction.{FrontAction}
use Rattle.xenbus_state.specs.declared.table.FrontAction.TheVariants as action
use Rattle.xenbus_state.specs.declared.front.FrontBusAsk.{FrontBusAsk}
use Rattle.xenbus_state.specs.States.{state_number, state_read}
use Rattle.xenbus_state.specs.Tables.{front_action, on_offer, on_connected, on_closing, on_gone, SuitsFront}
use Rattle.xenbus_state.specs.Programs.{next_published}
use Rattle.xenbus_state.specs.Reading.{count_read, fact_read}
use Rattle.blk_base.specs.Options.{Options}
use Rattle.xenbus_state.specs.FrontView.{start_of, FrontView, pages_of, ring_order}
use Rattle.xenbus_state.specs.FrontAsk.{due, due_at, leaving, closing_stage, ask_at, ask_of, IsAnswer}
use Rattle.xenbus_state.specs.FrontStep.{at, step_at, step_of, acted, feature_step, fact_step, written, after_published, after_grants}
use Rattle.xenbus_state.specs.FrontSound.{Rises, IsSound, IsPlaced, IsTimely, HasPort}

-- the table suits the front's own state
offer_suits : (own : BusState) → SuitsFront own (on_offer own)
offer_suits state.Initialising = refl
offer_suits state.Unknown = tt
offer_suits state.InitWait = tt
offer_suits state.Initialised = tt
offer_suits state.Connected = tt
offer_suits state.Closing = tt
offer_suits state.Closed = tt
offer_suits state.Reconfiguring = tt
offer_suits state.Reconfigured = tt

connected_suits : (own : BusState) → SuitsFront own (on_connected own)
connected_suits state.Initialised = refl
connected_suits state.Unknown = tt
connected_suits state.Initialising = tt
connected_suits state.InitWait = tt
connected_suits state.Connected = tt
connected_suits state.Closing = tt
connected_suits state.Closed = tt
connected_suits state.Reconfiguring = tt
connected_suits state.Reconfigured = tt

closing_suits : (own : BusState) (idle : Bool) → SuitsFront own (on_closing own idle)
closing_suits state.Initialised false = refl
closing_suits state.Initialised true = tt
closing_suits state.Unknown idle = tt
closing_suits state.Initialising idle = tt
closing_suits state.InitWait idle = tt
closing_suits state.Connected idle = tt
closing_suits state.Closing idle = tt
closing_suits state.Closed idle = tt
closing_suits state.Reconfiguring idle = tt
closing_suits state.Reconfigured idle = tt

gone_suits : (own : BusState) (idle : Bool) (n : ℕ) → SuitsFront own (on_gone idle n)
gone_suits own true n = tt
gone_suits own false n = tt

pub action_suits : (own : BusState) (closing idle : Bool) (read : Option BusState) → SuitsFront own (front_action own closing idle read)
action_suits own closing idle (Some state.Initialising) = tt
action_suits own true true (Some state.InitWait) = tt
action_suits own true false (Some state.InitWait) = offer_suits own
action_suits own false idle (Some state.InitWait) = offer_suits own
action_suits own closing idle (Some state.Initialised) = tt
action_suits own true true (Some state.Connected) = tt
action_suits own true false (Some state.Connected) = connected_suits own
action_suits own false idle (Some state.Connected) = connected_suits own
action_suits own closing idle (Some state.Closing) = closing_suits own idle
action_suits own closing idle (Some state.Closed) = gone_suits own idle 6
action_suits own closing idle (Some state.Unknown) = gone_suits own idle 0
action_suits own closing idle (Some state.Reconfiguring) = tt
action_suits own closing idle (Some state.Reconfigured) = tt
action_suits own closing idle None = tt

-- what is true of a front's end, whatever stage its view shows
record IsSoundAt (s : FrontBusStage) (v : FrontView) : Type 0 where
  order : v.order ≤ 4
  placed : IsPlaced s v
  timely : IsTimely s v.state
  port : HasPort s v

early : (own s : BusState) → own ≡ s → state_number s < 6 → state_number own < 6
early own s e h = rw e h

acted_sound : (act : FrontAction) (v : FrontView) → SuitsFront v.state act → v.order ≤ 4 → state_number v.state < 6 → IsSound (acted act v)
acted_sound action.Nothing v suits order timely = record { order = order; placed = tt; timely = timely; port = tt }
acted_sound action.Publish v suits order timely = record { order = order; placed = tt; timely = suits; port = tt }
acted_sound action.Connect v suits order timely = record { order = order; placed = tt; timely = suits; port = tt }
acted_sound action.Close v suits order timely = record { order = order; placed = tt; timely = timely; port = tt }
acted_sound action.CloseAndConnect v suits order timely = record { order = order; placed = tt; timely = suits; port = tt }
acted_sound action.Leave v suits order timely = record { order = order; placed = tt; timely = timely; port = tt }
acted_sound (action.Break word) v suits order timely = record { order = order; placed = tt; timely = tt; port = tt }

feature_sound : (k : BackKey) (n : Option ℕ) (v : FrontView) → v.order ≤ 4 → v.state ≡ state.Initialising → IsSound (feature_step k n v)
feature_sound k None v order timely = record { order = order; placed = tt; timely = tt; port = tt }
feature_sound key.FeatureBarrier (Some n) v order timely = record { order = order; placed = tt; timely = timely; port = tt }
feature_sound key.FeatureFlushCache (Some n) v order timely = record { order = order; placed = tt; timely = timely; port = tt }
feature_sound key.FeatureDiscard (Some n) v order timely = record { order = order; placed = tt; timely = timely; port = tt }
feature_sound key.FeaturePersistent (Some n) v order timely = record { order = order; placed = tt; timely = timely; port = tt }
feature_sound key.FeatureMaxIndirectSegments (Some n) v order timely = record { order = order; placed = tt; timely = timely; port = tt }
feature_sound k (Some n) v order timely = record { order = order; placed = omega arith; timely = timely; port = tt }

fact_sound : (k : BackKey) (n : Option ℕ) (v : FrontView) → v.order ≤ 4 → v.state ≡ state.Initialised → IsSound (fact_step k n v)
fact_sound k None v order timely = record { order = order; placed = tt; timely = tt; port = tt }
fact_sound key.Sectors (Some n) v order timely = record { order = order; placed = tt; timely = timely; port = tt }
fact_sound key.SectorSize (Some n) v order timely = record { order = order; placed = tt; timely = timely; port = tt }
fact_sound k (Some n) v order timely = record { order = order; placed = tt; timely = (rw timely (omega arith), omega arith); port = tt }

written_sound : (s : BusState) (v : FrontView) → v.order ≤ 4 → state_number s ≤ 6 → IsSound (written s v)
written_sound state.Closed v order few = record { order = order; placed = tt; timely = refl; port = tt }
written_sound state.Unknown v order few = record { order = order; placed = tt; timely = omega arith; port = tt }
written_sound state.Initialising v order few = record { order = order; placed = tt; timely = omega arith; port = tt }
written_sound state.InitWait v order few = record { order = order; placed = tt; timely = omega arith; port = tt }
written_sound state.Initialised v order few = record { order = order; placed = tt; timely = omega arith; port = tt }
written_sound state.Connected v order few = record { order = order; placed = tt; timely = omega arith; port = tt }
written_sound state.Closing v order few = record { order = order; placed = tt; timely = omega arith; port = tt }
written_sound state.Reconfiguring v order few = absurd (omega arith)
written_sound state.Reconfigured v order few = absurd (omega arith)

published_sound : (next : Option FrontKey) (v : FrontView) → v.order ≤ 4 → v.state ≡ state.Initialising → IsSome v.port → IsSound (at (after_published next) v)
published_sound None v order timely port = record { order = order; placed = tt; timely = (rw timely (omega arith), omega arith); port = tt }
published_sound (Some k) v order timely port = record { order = order; placed = tt; timely = timely; port = port }

ended_sound : (port : Option ℕ) (v : FrontView) → v.order ≤ 4 → v.state ≡ state.Closing → IsSound (at (after_grants port) v)
ended_sound None v order timely = record { order = order; placed = tt; timely = (rw timely (omega arith), omega arith); port = tt }
ended_sound (Some port) v order timely = record { order = order; placed = tt; timely = timely; port = tt }

word_sound : (word : ℕ) (v : FrontView) (last : Bool) → word == 15 ≡ last → word < 16 → v.order ≤ 4 → v.state ≡ state.Initialising → IsSound (at (if last then stage.Grant 0 else stage.RingWord (word + 1)) v)
word_sound word v true e few order timely = record { order = order; placed = pow_pos (ring_order v); timely = timely; port = tt }
word_sound word v false e few order timely = record { order = order; placed = grind (arith, nat_tests); timely = timely; port = tt }

grant_sound : (page : ℕ) (v : FrontView) (more : Bool) → nat_lt (page + 1) (pages_of v) ≡ more → v.order ≤ 4 → v.state ≡ state.Initialising → IsSound (at (if more then stage.Grant (page + 1) else stage.NewPort) v)
grant_sound page v true e order timely = record { order = order; placed = grind (arith, nat_tests); timely = timely; port = tt }
grant_sound page v false e order timely = record { order = order; placed = tt; timely = timely; port = tt }

end_sound : (page : ℕ) (v : FrontView) (more : Bool) → nat_lt (page + 1) (pages_of v) ≡ more → v.order ≤ 4 → v.state ≡ state.Closing → IsSound (at (if more then stage.EndGrant (page + 1) else stage.EndOtherGrants) v)
end_sound page v true e order timely = record { order = order; placed = grind (arith, nat_tests); timely = timely; port = tt }
end_sound page v false e order timely = record { order = order; placed = tt; timely = timely; port = tt }

keeps_at : (s : FrontBusStage) (v : FrontView) (idle : Bool) (a : FrontAnswer) → IsAnswer (ask_at s v) a → IsSoundAt s v → IsSound v → IsSound (step_at s v idle a)
keeps_at stage.Start v idle answer.Done lawful h whole = record { order = h.order; placed = tt; timely = early v.state state.Initialising h.timely (omega arith); port = tt }
keeps_at stage.Rest v idle (answer.Watched path) lawful h whole = record { order = h.order; placed = tt; timely = h.timely; port = tt }
keeps_at stage.Rest v idle answer.Event lawful h whole = whole
keeps_at stage.ReadState v idle (answer.Key text) lawful h whole = acted_sound (front_action v.state v.closing idle (state_read text)) v (action_suits v.state v.closing idle (state_read text)) h.order h.timely
keeps_at (stage.ReadFeature k) v idle (answer.Key text) lawful h whole = feature_sound k (count_read text) v h.order h.timely
keeps_at (stage.RingWord word) v idle answer.Done lawful h whole = word_sound word v (word == 15) refl h.placed h.order h.timely
keeps_at (stage.Grant page) v idle answer.Done lawful h whole = grant_sound page v (nat_lt (page + 1) (pages_of v)) refl h.order h.timely
keeps_at stage.NewPort v idle (answer.Port port) lawful h whole = record { order = h.order; placed = tt; timely = h.timely; port = refl }
keeps_at (stage.Publish k) v idle answer.Done lawful h whole = published_sound (next_published (ring_order v) k) v h.order h.timely h.port
keeps_at (stage.ReadFact k) v idle (answer.Key text) lawful h whole = fact_sound k (fact_read k text) v h.order h.timely
keeps_at (stage.WriteState s) v idle answer.Done lawful h whole = written_sound s v h.order h.timely.1
keeps_at (stage.EndGrant page) v idle answer.Done lawful h whole = end_sound page v (nat_lt (page + 1) (pages_of v)) refl h.order h.timely
keeps_at stage.EndOtherGrants v idle answer.Done lawful h whole = ended_sound v.port v h.order h.timely
keeps_at stage.ClosePort v idle answer.Done lawful h whole = record { order = h.order; placed = tt; timely = (early_five v.state h.timely, omega arith); port = tt }
  where
    early_five : (own : BusState) → own ≡ state.Closing → state_number own < 6
    early_five own e = rw e (omega arith)
keeps_at stage.Rest v idle answer.Done lawful h whole = elim lawful [ ]
keeps_at stage.ReadState v idle answer.Done lawful h whole = elim lawful [ ]
keeps_at (stage.ReadFeature k) v idle answer.Done lawful h whole = elim lawful [ ]
keeps_at stage.NewPort v idle answer.Done lawful h whole = elim lawful [ ]
keeps_at (stage.ReadFact k) v idle answer.Done lawful h whole = elim lawful [ ]
keeps_at stage.Closed v idle answer.Done lawful h whole = elim lawful [ ]
keeps_at (stage.Broken word) v idle answer.Done lawful h whole = elim lawful [ ]
keeps_at s v idle a lawful h whole = whole

own_sound : (v : FrontView) → IsSound v → IsSoundAt v.stage v
own_sound v h = record { order = h.order; placed = h.placed; timely = h.timely; port = h.port }

-- what is due is sound too
leaving_sound : (gone : Bool) (port : Option ℕ) (v : FrontView) → v.state ≡ state.Closing → IsSound v → IsSound (at (leaving gone port) v)
leaving_sound false port v e h = record { order = h.order; placed = tt; timely = rw e (omega arith); port = tt }
leaving_sound true (Some port) v e h = record { order = h.order; placed = pow_pos (ring_order v); timely = e; port = tt }
leaving_sound true None v e h = record { order = h.order; placed = tt; timely = e; port = tt }

closing_sound : (own : BusState) (v : FrontView) → v.state ≡ own → state_number own < 6 → IsSound v → IsSound (at (closing_stage own v) v)
closing_sound state.Closing v e early h = leaving_sound v.gone v.port v e h
closing_sound state.Unknown v e early h = record { order = h.order; placed = tt; timely = (rw e (omega arith), omega arith); port = tt }
closing_sound state.Initialising v e early h = record { order = h.order; placed = tt; timely = (rw e (omega arith), omega arith); port = tt }
closing_sound state.InitWait v e early h = record { order = h.order; placed = tt; timely = (rw e (omega arith), omega arith); port = tt }
closing_sound state.Initialised v e early h = record { order = h.order; placed = tt; timely = (rw e (omega arith), omega arith); port = tt }
closing_sound state.Connected v e early h = record { order = h.order; placed = tt; timely = (rw e (omega arith), omega arith); port = tt }
closing_sound state.Closed v e early h = absurd (omega arith)
closing_sound state.Reconfiguring v e early h = absurd (omega arith)
closing_sound state.Reconfigured v e early h = absurd (omega arith)

resting_sound : (closes : Bool) (v : FrontView) → state_number v.state < 6 → IsSound v → IsSound (at (if closes then closing_stage v.state v else stage.Rest) v)
resting_sound true v early h = closing_sound v.state v refl early h
resting_sound false v early h = record { order = h.order; placed = tt; timely = early; port = tt }

due_sound_at : (s : FrontBusStage) (v : FrontView) (idle : Bool) → v.stage ≡ s → IsSoundAt s v → IsSound v → IsSound (at (due_at s v idle) v)
due_sound_at stage.Rest v idle e h whole = resting_sound (v.closing && idle) v h.timely whole
due_sound_at s v idle e h whole = subst (λ (t : FrontBusStage). IsSound (at t v)) e whole

due_sound : (v : FrontView) (idle : Bool) → IsSound v → IsSound (at (due v idle) v)
due_sound v idle h = due_sound_at v.stage v idle refl (own_sound v h) h

-- what is asked at a stage doesn't depend on the stage that the view shows
pub ask_same : (s t : FrontBusStage) (v : FrontView) → ask_at s v ≡ ask_at s (at t v)
ask_same stage.Start t v = refl
ask_same stage.Rest t v = refl
ask_same stage.ReadState t v = refl
ask_same (stage.ReadFeature key) t v = refl
ask_same (stage.RingWord word) t v = refl
ask_same (stage.Grant page) t v = refl
ask_same stage.NewPort t v = refl
ask_same (stage.Publish key) t v = refl
ask_same (stage.ReadFact key) t v = refl
ask_same (stage.WriteState s) t v = refl
ask_same (stage.EndGrant page) t v = refl
ask_same stage.EndOtherGrants t v = refl
ask_same stage.ClosePort t v = refl
ask_same stage.Closed t v = refl
ask_same (stage.Broken word) t v = refl

pub front_keeps : (v : FrontView) (idle : Bool) (a : FrontAnswer) → IsAnswer (ask_of v idle) a → IsSound v → IsSound (step_of v idle a)
front_keeps v idle a lawful h =
    let w = at (due v idle) v in
    let sound = due_sound v idle h in
    let same = subst (λ (b : FrontBusAsk). IsAnswer b a) (ask_same (due v idle) (due v idle) v) lawful in
    keeps_at (due v idle) w idle a same (own_sound w sound) sound

-- a state that is asked for is above the one that was written before
rises_at : (s : FrontBusStage) (v : FrontView) → IsTimely s v.state → Rises v.state (ask_at s v)
rises_at (stage.WriteState next) v h = h.0
rises_at s v h = tt

pub front_rises : (v : FrontView) (idle : Bool) → IsSound v → Rises v.state (ask_of v idle)
front_rises v idle h = rises_at (due v idle) v (due_sound v idle h).timely
