-- The back's end over what happens: what is true of it stays true, and what it asks rises and is due.
use Rattle.std.proofs.Common.{sym, subst, ◌≡◌, ◌<◌, ◌≤◌, Bool, true, false, List, [], ◌∷◌, arith, refl, if◌then◌else◌}
use Rattle.blk_base.specs.declared.parts.Mapping.{Mapping}
use Rattle.xenbus_state.specs.declared.keys.FrontKey.{FrontKey}
use Rattle.xenbus_state.specs.declared.keys.FrontKey.TheVariants as key
use Rattle.xenbus_state.specs.declared.offer.Features.{Features}
use Rattle.xenbus_state.specs.declared.offer.DiskFacts.{DiskFacts}
use Rattle.xenbus_state.specs.declared.state.BusState.{BusState}
use Rattle.xenbus_state.specs.declared.state.BusState.TheVariants as state
use Rattle.xenbus_state.specs.declared.stage.BackBusStage.{BackBusStage}
use Rattle.xenbus_state.specs.declared.stage.BackBusStage.TheVariants as stage
use Rattle.xenbus_state.specs.declared.back.BackBusAsk.TheVariants as ask
use Rattle.xenbus_state.specs.States.{state_number}
use Rattle.xenbus_state.specs.BackView.{BackView, start_of, halted, is_halting}
use Rattle.xenbus_state.specs.BackAsk.{says_closing, says_closing_at, unmap_ask, ask_at, ask_of}
use Rattle.xenbus_state.specs.BackSound.{IsSound, IsPlaced, IsFresh, IsMapped, HoldsNothing, IsResting, IsWriting, IsReading, IsDue, Rises}
use Rattle.xenbus_state.specs.Runs.{BackTurn, Hears, Unplugs, Stops, back_turned, IsBackTurn, AreBackTurns, back_after}
use Rattle.xenbus_state.proofs.Early.{resting_early}
use Rattle.xenbus_state.proofs.BackKeeps.{halted_sound, says_where, back_keeps}

stopped_sound : (s : BackBusStage) (v : BackView) → IsPlaced s v → v.terms.order ≤ 4 → IsSound v → IsSound (if is_halting s then v else halted v)
stopped_sound (stage.Publish k) v h order whole = halted_sound v order (rw h.0 (omega arith))
stopped_sound (stage.WriteState state.InitWait) v h order whole = halted_sound v order (rw h.0 (omega arith))
stopped_sound (stage.WriteState state.Connected) v h order whole = halted_sound v order (rw h.0 (omega arith))
stopped_sound (stage.WriteState state.Closing) v h order whole = whole
stopped_sound (stage.WriteState state.Closed) v h order whole = whole
stopped_sound (stage.WriteState state.Unknown) v h order whole = absurd h
stopped_sound (stage.WriteState state.Initialising) v h order whole = absurd h
stopped_sound (stage.WriteState state.Initialised) v h order whole = absurd h
stopped_sound (stage.WriteState state.Reconfiguring) v h order whole = absurd h
stopped_sound (stage.WriteState state.Reconfigured) v h order whole = absurd h
stopped_sound stage.Watch v h order whole = halted_sound v order (rw h.0 (omega arith))
stopped_sound stage.Rest v h order whole = halted_sound v order (resting_early v.state v h)
stopped_sound stage.ReadState v h order whole = halted_sound v order (resting_early v.state v h)
stopped_sound (stage.ReadKey k) v h order whole = halted_sound v order (rw h.0 (omega arith))
stopped_sound stage.MapPage v h order whole = halted_sound v order (rw h.0 (omega arith))
stopped_sound stage.Bind v h order whole = halted_sound v order (rw h.0 (omega arith))
stopped_sound (stage.PublishFact k) v h order whole = halted_sound v order (rw h.0 (omega arith))
stopped_sound s v h order whole = whole

-- nothing that is true of the back's end looks at whether it was asked to close
asked_sound : (s : BackBusStage) (v : BackView) (halts : Bool) → v.stage ≡ s → IsPlaced s v → IsSound v → IsSound (if halts then v else record v { unplugged = true })
asked_sound s v true e h whole = whole
asked_sound s v false e h whole = record { order = whole.order; placed = subst (λ (t : BackBusStage). IsPlaced t (record v { unplugged = true })) (sym e) (asked_placed s v h) }
  where
    fresh : (v : BackView) → IsFresh v → IsFresh (record v { unplugged = true })
    fresh v h = record { grefs = h.grefs; pages = h.pages; bound = h.bound }

    mapped_too : (v : BackView) → IsMapped v → IsMapped (record v { unplugged = true })
    mapped_too v h = record { grefs = h.grefs; pages = h.pages }

    aborted : (v : BackView) → HoldsNothing v → HoldsNothing (record v { unplugged = true })
    aborted v h = record { pages = h.pages; bound = h.bound }

    resting : (own : BusState) (v : BackView) → IsResting own v → IsResting own (record v { unplugged = true })
    resting state.InitWait v h = fresh v h
    resting state.Connected v h = (mapped_too v h.0, h.1)
    resting state.Closing v h = (mapped_too v h.0, h.1)
    resting state.Unknown v h = absurd h
    resting state.Initialising v h = absurd h
    resting state.Initialised v h = absurd h
    resting state.Closed v h = absurd h
    resting state.Reconfiguring v h = absurd h
    resting state.Reconfigured v h = absurd h

    writing : (s : BusState) (v : BackView) → IsWriting s v → IsWriting s (record v { unplugged = true })
    writing state.InitWait v h = (h.0, fresh v h.1)
    writing state.Connected v h = (h.0, mapped_too v h.1, h.2)
    writing state.Closing v h = (h.0, aborted v h.1)
    writing state.Closed v h = (h.0, aborted v h.1)
    writing state.Unknown v h = absurd h
    writing state.Initialising v h = absurd h
    writing state.Initialised v h = absurd h
    writing state.Reconfiguring v h = absurd h
    writing state.Reconfigured v h = absurd h

    reading : (k : FrontKey) (v : BackView) → IsReading k v → IsReading k (record v { unplugged = true })
    reading key.RingPageOrder v h = h
    reading (key.RingRefOf page) v h = h
    reading key.RingRef v h = h
    reading key.EventChannel v h = h
    reading key.Protocol v h = h
    reading key.FeaturePersistent v h = h

    asked_placed : (s : BackBusStage) (v : BackView) → IsPlaced s v → IsPlaced s (record v { unplugged = true })
    asked_placed (stage.Publish k) v h = (h.0, fresh v h.1)
    asked_placed (stage.WriteState s) v h = writing s v h
    asked_placed stage.Watch v h = (h.0, fresh v h.1)
    asked_placed stage.Rest v h = resting v.state v h
    asked_placed stage.ReadState v h = resting v.state v h
    asked_placed (stage.ReadKey k) v h = (h.0, aborted v h.1, reading k v h.2)
    asked_placed stage.MapPage v h = h
    asked_placed stage.Bind v h = (h.0, h.1, mapped_too v h.2)
    asked_placed (stage.PublishFact k) v h = (h.0, mapped_too v h.1, h.2)
    asked_placed stage.UnmapOthers v h = h
    asked_placed stage.UnmapPage v h = h
    asked_placed stage.ClosePort v h = h
    asked_placed stage.Halted v h = (h.0, aborted v h.1)

pub back_turn_keeps : (turn : BackTurn) (v : BackView) → IsBackTurn turn v → IsSound v → IsSound (back_turned turn v)
back_turn_keeps (Hears a) v lawful h = back_keeps v a lawful h
back_turn_keeps Unplugs v lawful h = asked_sound v.stage v (is_halting v.stage) refl h.placed h
back_turn_keeps Stops v lawful h = stopped_sound v.stage v h.placed h.order h

pub back_starts : (features : Features) (disk : DiskFacts) → IsSound (start_of features disk)
back_starts features disk = record { order = omega arith; placed = (refl, record { grefs = refl; pages = refl; bound = refl }) }

pub back_runs : (turns : List BackTurn) (v : BackView) → AreBackTurns turns v → IsSound v → IsSound (back_after turns v)
back_runs [] v lawful h = h
back_runs (turn ∷ turns) v lawful h = back_runs turns (back_turned turn v) lawful.1 (back_turn_keeps turn v lawful.0 h)

-- what is asked rises, and is due
writing_rises : (s : BusState) (v : BackView) → IsWriting s v → state_number v.state < state_number s
writing_rises state.InitWait v h = rw h.0 (omega arith)
writing_rises state.Connected v h = rw h.0 (omega arith)
writing_rises state.Closing v h = h.0
writing_rises state.Closed v h = rw h.0 (omega arith)
writing_rises state.Unknown v h = absurd h
writing_rises state.Initialising v h = absurd h
writing_rises state.Initialised v h = absurd h
writing_rises state.Reconfiguring v h = absurd h
writing_rises state.Reconfigured v h = absurd h

says_rises : (s : BackBusStage) (own : BusState) → says_closing_at s own ≡ true → state_number own < 5
says_rises stage.Rest state.Connected e = omega arith
says_rises stage.ReadState state.Connected e = omega arith
says_rises s own e = absurd (cc)

unmap_rises : (own : BusState) (pages : List Mapping) → Rises own (unmap_ask pages)
unmap_rises own [] = tt
unmap_rises own (page ∷ pages) = tt

unmap_due : (v : BackView) (pages : List Mapping) → IsDue v (unmap_ask pages)
unmap_due v [] = tt
unmap_due v (page ∷ pages) = tt

rises_at : (s : BackBusStage) (v : BackView) → IsPlaced s v → Rises v.state (ask_at s v)
rises_at (stage.WriteState s) v h = writing_rises s v h
rises_at stage.UnmapPage v h = unmap_rises v.state v.pages
rises_at s v h = tt

pub back_rises : (v : BackView) → IsSound v → Rises v.state (ask_of v)
back_rises v h = by_test (says_closing v) refl
  where
    by_test : (says : Bool) → says_closing v ≡ says → Rises v.state (if says then ask.SetState state.Closing else ask_at v.stage v)
    by_test true e = says_rises v.stage v.state (says_where v e)
    by_test false e = rises_at v.stage v h.placed

writing_due : (s : BusState) (v : BackView) → IsWriting s v → IsDue v (ask.SetState s)
writing_due state.Connected v h = (h.1, h.2)
writing_due state.Closed v h = h.1
writing_due s v h = tt

due_at : (s : BackBusStage) (v : BackView) → IsPlaced s v → IsDue v (ask_at s v)
due_at (stage.WriteState s) v h = writing_due s v h
due_at stage.UnmapPage v h = unmap_due v v.pages
due_at s v h = tt

pub back_due : (v : BackView) → IsSound v → IsDue v (ask_of v)
back_due v h = by_test (says_closing v)
  where
    by_test : (says : Bool) → IsDue v (if says then ask.SetState state.Closing else ask_at v.stage v)
    by_test true = tt
    by_test false = due_at v.stage v h.placed
