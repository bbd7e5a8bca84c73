-- The front leaves after the back.
use Rattle.std.proofs.Common.{◌≡◌, ap, ℕ, ◌<◌, ◌≤◌, refl, arith}
use Rattle.xenbus_state.specs.States.{state_number}
use Rattle.xenbus_state.specs.declared.state.BusState.{BusState}
use Rattle.xenbus_state.specs.declared.state.BusState.TheVariants as state
use Rattle.xenbus_state.specs.declared.stage.FrontBusStage.{FrontBusStage}
use Rattle.xenbus_state.specs.declared.stage.FrontBusStage.TheVariants as front
use Rattle.xenbus_state.specs.declared.stage.BackBusStage.{BackBusStage}
use Rattle.xenbus_state.specs.declared.stage.BackBusStage.TheVariants as back
use Rattle.xenbus_state.specs.FrontView.{FrontView}
use Rattle.xenbus_state.specs.FrontAsk as front_asks
use Rattle.xenbus_state.specs.FrontAsk.{due}
use Rattle.xenbus_state.specs.BackView.{BackView}
use Rattle.xenbus_state.specs.BackSound.{IsPlaced}
use Rattle.xenbus_state.proofs.Early.{resting_early}
use Rattle.negotiation_laws.specs.Run.{now}
use Rattle.negotiation_laws.specs.Said.{front_texts}
use Rattle.negotiation_laws.specs.Laws.{IsLeaving, IsHalted, LeavesAfterTheBack}
use Rattle.negotiation_laws.proofs.FrontSteps.{due_holds}
use Rattle.negotiation_laws.proofs.Found.{run_holds}
use Rattle.negotiation_laws.proofs.Subjects.{stage_needs}

-- a back that has written Closed has halted
not_yet : (own s : BusState) → own ≡ s → state_number s < 6 → 6 ≤ state_number own → ⊥
not_yet own s e low high = let same : state_number own ≡ state_number s = ap state_number e in omega arith

closed_halted : (s : BackBusStage) (v : BackView) → v.stage ≡ s → IsPlaced s v → 6 ≤ state_number v.state → IsHalted v
closed_halted back.Halted v e placed high = record { stage = e; closed = placed.0; aborted = placed.1 }
closed_halted (back.Publish k) v e placed high = absurd (not_yet v.state state.Initialising placed.0 (omega arith) high)
closed_halted (back.WriteState state.InitWait) v e placed high = absurd (not_yet v.state state.Initialising placed.0 (omega arith) high)
closed_halted (back.WriteState state.Connected) v e placed high = absurd (not_yet v.state state.InitWait placed.0 (omega arith) high)
closed_halted (back.WriteState state.Closing) v e placed high = absurd (let low = placed.0 in omega arith)
closed_halted (back.WriteState state.Closed) v e placed high = absurd (not_yet v.state state.Closing placed.0 (omega arith) high)
closed_halted (back.WriteState s) v e placed high = absurd placed
closed_halted back.Rest v e placed high = absurd (let low = resting_early v.state v placed in omega arith)
closed_halted back.ReadState v e placed high = absurd (let low = resting_early v.state v placed in omega arith)
closed_halted back.UnmapOthers v e placed high = absurd (let low = placed in omega arith)
closed_halted back.UnmapPage v e placed high = absurd (let low = placed.0 in omega arith)
closed_halted back.ClosePort v e placed high = absurd (let low = placed.0 in omega arith)
closed_halted other v e placed high = absurd (not_yet v.state state.InitWait placed.0 (omega arith) high)

leaves_at : (s : FrontBusStage) (v : FrontView) (n : ℕ) → stage_needs s ≤ n → IsLeaving (front_asks.ask_at s v) → 6 ≤ n
leaves_at (front.EndGrant page) v n after leaves = after
leaves_at front.EndOtherGrants v n after leaves = after
leaves_at front.ClosePort v n after leaves = after
leaves_at (front.WriteState state.Closed) v n after leaves = after
leaves_at s v n after leaves = absurd leaves

pub leaves_after : LeavesAfterTheBack
leaves_after r idle leaves =
    let h = run_holds r in
    let t = now r in
    let own = due_holds (state_number t.back.state) r.offer r.facts t.front.stage t.front idle (front_texts t.keys.keys) h.front in
    closed_halted t.back.stage t.back refl h.back_sound.placed (leaves_at (due t.front idle) t.front (state_number t.back.state) own.stage_after leaves)
