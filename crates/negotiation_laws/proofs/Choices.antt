-- What holds of both ways holds whichever is gone: also of an end that is asked to close, which then is as it was or closes.
use Rattle.std.proofs.Common.{◌≡◌, refl}
use Rattle.std.specs.Prelude.{ℕ, Bool, true, false, ◌&&◌, ◌||◌, if◌then◌else◌, Option, Some, None}
use Rattle.xenbus_state.specs.declared.state.BusState.{BusState}
use Rattle.xenbus_state.specs.declared.state.BusState.TheVariants as state
use Rattle.xenbus_state.specs.declared.stage.FrontBusStage.{FrontBusStage}
use Rattle.xenbus_state.specs.declared.stage.FrontBusStage.TheVariants as front
use Rattle.xenbus_state.specs.declared.back.BackBusAsk.{BackBusAsk}
use Rattle.xenbus_state.specs.declared.back.BackBusAsk.TheVariants as ask
use Rattle.xenbus_state.specs.BackAsk.{says_closing, ask_at, ask_of}
use Rattle.xenbus_state.specs.BackStep.{step_at, step_of}
use Rattle.blk_base.specs.declared.parts.Mapping.{Mapping}
use Rattle.key_directory.specs.Directory.{Directory}
use Rattle.negotiation_laws.specs.Negotiation.{back_answered}
use Rattle.xenbus_state.specs.FrontAsk.{due_at, leaving, closing_stage}
use Rattle.xenbus_state.specs.FrontView.{FrontView, closed, is_broken}
use Rattle.xenbus_state.specs.BackView.{BackView, is_halting, unplugged}

pub either : {X : Type 0} (P : X → Type 0) (b : Bool) (x y : X) → P x → P y → P (if b then x else y)
either P true x y p q = p
either P false x y p q = q

pub closed_cases : (P : FrontView → Type 0) (v : FrontView) → P v → P (record v { closing = true }) → P (closed v)
closed_cases P v = either P (v.closing || is_broken v.stage) v (record v { closing = true })

pub unplugged_cases : (P : BackView → Type 0) (v : BackView) → P v → P (record v { unplugged = true }) → P (unplugged v)
unplugged_cases P v = either P (is_halting v.stage) v (record v { unplugged = true })

-- what is due of a front: what it has begun, or where it rests and closes, that it says so or leaves
pub due_cases : (P : FrontBusStage → Type 0) (s : FrontBusStage) (v : FrontView) (idle : Bool) → P s → P (front.WriteState state.Closing) → P (front.EndGrant 0) → P front.EndOtherGrants → P (due_at s v idle)
due_cases P front.Rest v idle begun says ends leaves = either P (v.closing && idle) (closing_stage v.state v) front.Rest (closes v.state) begun
  where
    by_gone : (gone : Bool) (port : Option ℕ) → P (leaving gone port)
    by_gone false port = begun
    by_gone true (Some port) = ends
    by_gone true None = leaves

    closes : (own : BusState) → P (closing_stage own v)
    closes state.Closing = by_gone v.gone v.port
    closes own = says
due_cases P s v idle begun says ends leaves = begun

-- a move of a back: it says that it closes, or makes the move of its stage
pub back_move_cases : (P : BackBusAsk → BackView → Type 0) (v : BackView) (page : Mapping) (d : Directory) → (says_closing v ≡ true → P (ask.SetState state.Closing) (record v { state = state.Closing }))
    → (says_closing v ≡ false → P (ask_at v.stage v) (step_at v.stage v (back_answered (ask_at v.stage v) page d))) → P (ask_of v) (step_of v (back_answered (ask_of v) page d))
back_move_cases P v page d says moves = by_test (says_closing v) refl
  where
    by_test : (b : Bool) → says_closing v ≡ b
        → let a = (if b then ask.SetState state.Closing else ask_at v.stage v) in P a (if b then record v { state = state.Closing } else step_at v.stage v (back_answered a page d))
    by_test true e = says e
    by_test false e = moves e
