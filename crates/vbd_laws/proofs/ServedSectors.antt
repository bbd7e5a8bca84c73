-- The sectors that the front reads have numbers of 64 bits, whatever the keys say.
use Rattle.std.proofs.Common.{◌≡◌, ℕ, ◌^◌, ◌<◌, Bool, List, refl}
use Rattle.std.specs.Prelude.{Option, Some, None}
use Rattle.std.proofs.lemmas.Option.{none-some}
use Rattle.blk_base.specs.declared.ask.FrontAnswer.{FrontAnswer}
use Rattle.blk_base.specs.declared.ask.FrontAnswer.TheVariants as answer
use Rattle.hypervisor.specs.Act.{FrontAct}
use Rattle.xenbus_state.specs.declared.keys.BackKey.{BackKey}
use Rattle.xenbus_state.specs.declared.keys.BackKey.TheVariants as key
use Rattle.xenbus_state.specs.declared.offer.DiskFacts.{DiskFacts}
use Rattle.xenbus_state.specs.declared.stage.FrontBusStage.{FrontBusStage}
use Rattle.xenbus_state.specs.declared.stage.FrontBusStage.TheVariants as stage
use Rattle.xenbus_state.specs.declared.table.FrontAction.{FrontAction}
use Rattle.xenbus_state.specs.declared.table.FrontAction.TheVariants as action
use Rattle.xenbus_state.specs.declared.front.FrontBusAsk.{FrontBusAsk}
use Rattle.xenbus_state.specs.declared.front.FrontBusAsk.TheVariants as ask
use Rattle.xenbus_state.specs.States.{state_read}
use Rattle.xenbus_state.specs.Tables.{front_action}
use Rattle.xenbus_state.specs.Reading.{count_read, fact_read, with_fact}
use Rattle.xenbus_state.specs.FrontView.{FrontView, closed, suspended, suspended_at}
use Rattle.xenbus_state.specs.FrontAsk.{due, ask_of}
use Rattle.xenbus_state.specs.FrontStep.{at, acted, feature_step, fact_step, step_at, step_of}
use Rattle.vbd_front.specs.View as front_view
use Rattle.vbd_front.specs.Step.{settled_at, bus_told}
use Rattle.vbd_model.specs.World.{World, frontend_of}
use Rattle.vbd_model.specs.Happening.{front_bus_after}
use Rattle.negotiation_laws.proofs.Choices.{closed_cases}
use Rattle.vbd_laws.proofs.FitFrontReads.{step_is}
use Rattle.vbd_laws.proofs.ServedBack.{long_small}

abbrev pub IsSized : FrontView → Type 0
IsSized v = v.disk.sectors < 2 ^ 64

with_fact_sized : (k : BackKey) (text : Option (List ℕ)) (d : DiskFacts) (n : ℕ) → fact_read k text ≡ Some n → d.sectors < 2 ^ 64 → (with_fact d k n).sectors < 2 ^ 64
with_fact_sized key.Sectors None d n e is = absurd (none-some n e)
with_fact_sized key.Sectors (Some text) d n e is = long_small n text e
with_fact_sized key.Info text d n e is = is
with_fact_sized k text d n e is = is

fact_sized : (k : BackKey) (text : Option (List ℕ)) (v : FrontView) → IsSized v → IsSized (fact_step k (fact_read k text) v)
fact_sized k text v is = by_number (fact_read k text) refl
  where
    by_number : (o : Option ℕ) → fact_read k text ≡ o → IsSized (fact_step k o v)
    by_number None e = is
    by_number (Some n) e = with_fact_sized k text v.disk n e is

acted_sized : (act : FrontAction) (v : FrontView) → IsSized v → IsSized (acted act v)
acted_sized action.Nothing v is = is
acted_sized other v is = is

feature_sized : (k : BackKey) (n : Option ℕ) (v : FrontView) → IsSized v → IsSized (feature_step k n v)
feature_sized k None v is = is
feature_sized k (Some n) v is = is

step_at_sized : (s : FrontBusStage) (v : FrontView) (idle : Bool) (x : FrontAnswer) → IsSized v → IsSized (step_at s v idle x)
step_at_sized stage.Rest v idle (answer.Watched path) is = is
step_at_sized stage.ReadState v idle (answer.Key text) is = acted_sized (front_action v.state v.closing idle (state_read text)) v is
step_at_sized (stage.ReadFeature k) v idle (answer.Key text) is = feature_sized k (count_read text) v is
step_at_sized stage.NewPort v idle (answer.Port port) is = is
step_at_sized (stage.ReadFact k) v idle (answer.Key text) is = fact_sized k text v is
step_at_sized (stage.WriteState s) v idle answer.Done is = is
step_at_sized stage.ClosePort v idle answer.Done is = is
step_at_sized s v idle answer.Done is = is
step_at_sized s v idle x is = is

step_sized : (v : FrontView) (idle : Bool) (x : FrontAnswer) → IsSized v → IsSized (step_of v idle x)
step_sized v idle x is = step_at_sized (due v idle) (at (due v idle) v) idle x is

-- told what its own negotiation asked, or the outcome of a move of the end of the ring
pub told_sized : (v : FrontView) (idle : Bool) (x : FrontAnswer) → IsSized v → IsSized (bus_told idle v x)
told_sized v idle x is = let u : FrontView = step_of v idle x in settled_sized (ask_of u idle) u (step_sized v idle x is)
  where
    settled_sized : (b : FrontBusAsk) (u : FrontView) → IsSized u → IsSized (settled_at b idle u)
    settled_sized ask.EndOtherGrants u small = step_sized u idle answer.Done small
    settled_sized b u small = small

-- a move of the front, a close of it, and a suspend
pub moved_sized : (w : World) (act : Option FrontAct) → IsSized w.front → IsSized (front_bus_after w act)
moved_sized w None is = is
moved_sized w (Some a) is =
    step_is IsSized (frontend_of w) a.answer is (told_sized w.front (front_view.is_unoccupied w.rings.front) a.answer is) (told_sized w.front (front_view.is_unoccupied w.rings.front) answer.Done is)

pub closed_sized : (v : FrontView) → IsSized v → IsSized (closed v)
closed_sized v is = closed_cases IsSized v is is

pub suspended_sized : (v : FrontView) → IsSized v → IsSized (suspended v)
suspended_sized v is = by_stage v.stage
  where
    by_stage : (s : FrontBusStage) → IsSized (suspended_at s v)
    by_stage stage.Closed = is
    by_stage s = is
