-- Whether all other mappings are to be unmapped shows in what the negotiation asks.
use Rattle.std.proofs.Common.{◌≡◌, Bool, true, false, ◌&&◌, if◌then◌else◌, List, [], ◌∷◌, refl, sym, ap, ◌∙◌}
use Rattle.blk_base.specs.declared.parts.Mapping.{Mapping}
use Rattle.blk_base.specs.declared.ask.BackAnswer.TheVariants as answer
use Rattle.blk_back.specs.declared.stage.BackStage.{BackStage}
use Rattle.blk_back.specs.declared.stage.BackStage.TheVariants as stage
use Rattle.xenbus_state.specs.declared.state.BusState.TheVariants as state
use Rattle.xenbus_state.specs.declared.stage.BackBusStage.{BackBusStage}
use Rattle.xenbus_state.specs.declared.stage.BackBusStage.TheVariants as bus_stage
use Rattle.xenbus_state.specs.declared.back.BackBusAsk.{BackBusAsk}
use Rattle.xenbus_state.specs.declared.back.BackBusAsk.TheVariants as bus_ask
use Rattle.xenbus_state.specs.BackView.{BackView}
use Rattle.xenbus_state.specs.BackAsk.{says_closing_at, unmap_ask, ask_at, ask_of}
use Rattle.xenbus_state.specs.BackStep.{step_of}
use Rattle.vbd_back.specs.Step.{settled_at, settled}

abbrev pub settled_by : BackBusAsk → BackStage → BackView → BackView
settled_by bus_ask.UnmapOthers (stage.Abort m) v = v
settled_by bus_ask.UnmapOthers s v = step_of v answer.Done
settled_by a s v = v

abbrev is_others : BackBusAsk → Bool
is_others bus_ask.UnmapOthers = true
is_others a = false

other : (a : BackBusAsk) (s : BackStage) (v : BackView) → is_others a ≡ false → settled_by a s v ≡ v
other bus_ask.UnmapOthers s v n = absurd (cc)
other a s v n = refl

either_other : (c : Bool) (a : BackBusAsk) (s : BackStage) (v : BackView) → is_others a ≡ false → settled_by (if c then bus_ask.SetState state.Closing else a) s v ≡ v
either_other true a s v n = refl
either_other false a s v n = other a s v n

unmaps : (pages : List Mapping) → is_others (unmap_ask pages) ≡ false
unmaps [] = refl
unmaps (page ∷ pages) = refl

never : (b : Bool) → (b && false) ≡ false
never true = refl
never false = refl

others : (s : BackStage) (v : BackView) → settled_at bus_stage.UnmapOthers s v ≡ settled_by bus_ask.UnmapOthers s v
others (stage.Abort m) v = refl
others s v = refl

pub settled_asked : (s : BackStage) (v : BackView) → settled s v ≡ settled_by (ask_of v) s v
settled_asked s v = by_stage v.stage
  where
    by_stage : (b : BackBusStage) → settled_at b s v ≡ settled_by (if v.unplugged && says_closing_at b v.state then bus_ask.SetState state.Closing else ask_at b v) s v
    by_stage bus_stage.UnmapOthers = others s v ∙ ap (λ (c : Bool). settled_by (if c then bus_ask.SetState state.Closing else bus_ask.UnmapOthers) s v) (sym (never v.unplugged))
    by_stage bus_stage.UnmapPage = sym (either_other (v.unplugged && false) (unmap_ask v.pages) s v (unmaps v.pages))
    by_stage b = sym (either_other (v.unplugged && says_closing_at b v.state) (ask_at b v) s v refl)

-- one that waits stays as it is
pub settled_waits : (s : BackStage) (v : BackView) → ask_of v ≡ bus_ask.Wait → settled s v ≡ v
settled_waits s v e = settled_asked s v ∙ ap (λ (a : BackBusAsk). settled_by a s v) e
