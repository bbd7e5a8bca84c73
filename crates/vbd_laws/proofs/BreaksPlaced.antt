-- The key of the back that the front reads is one of those of its stage, whatever happens.
use Rattle.std.proofs.Common.{◌≡◌, ℕ, ◌+◌, Bool, false, refl, sym, subst}
use Rattle.std.specs.Prelude.{Option, Some, None, nat_lt, ◌==◌}
use Rattle.blk_base.specs.declared.ask.FrontAnswer.{FrontAnswer}
use Rattle.blk_base.specs.declared.ask.FrontAnswer.TheVariants as front_answer
use Rattle.blk_front.specs.declared.stage.FrontStage.{FrontStage}
use Rattle.blk_front.specs.declared.stage.FrontStage.TheVariants as front_ring
use Rattle.xenbus_state.specs.declared.keys.BackKey.{BackKey}
use Rattle.xenbus_state.specs.declared.keys.BackKey.TheVariants as key
use Rattle.xenbus_state.specs.declared.state.BusState.{BusState}
use Rattle.xenbus_state.specs.declared.state.BusState.TheVariants as state
use Rattle.xenbus_state.specs.declared.stage.FrontBusStage.{FrontBusStage}
use Rattle.xenbus_state.specs.declared.stage.FrontBusStage.TheVariants as stage
use Rattle.xenbus_state.specs.declared.front.FrontBusAsk.{FrontBusAsk}
use Rattle.xenbus_state.specs.declared.front.FrontBusAsk.TheVariants as ask
use Rattle.xenbus_state.specs.declared.table.FrontAction.{FrontAction}
use Rattle.xenbus_state.specs.declared.table.FrontAction.TheVariants as action
use Rattle.xenbus_state.specs.States.{state_read}
use Rattle.xenbus_state.specs.Tables as tables
use Rattle.xenbus_state.specs.Programs.{IsFeature, IsFact, next_feature, next_fact, next_published}
use Rattle.xenbus_state.specs.Reading.{count_read, fact_read}
use Rattle.xenbus_state.specs.FrontView.{FrontView, closed, pages_of, ring_order, suspended_at, suspended}
use Rattle.xenbus_state.specs.FrontAsk.{ask_of, due}
use Rattle.xenbus_state.specs.FrontStep.{at, acted, feature_step, fact_step, after_feature, after_fact, after_published, after_grants, after_state, step_at, step_of}
use Rattle.vbd_front.specs.View.{is_broken}
use Rattle.vbd_front.specs.Step.{settled_at, bus_told, woken, followed, waited}
use Rattle.negotiation_laws.proofs.Choices.{closed_cases, either, due_cases}

-- the key that the front reads is one of those of its stage
abbrev pub IsPlaced : FrontBusStage → Type 0
IsPlaced (stage.ReadFeature k) = IsFeature k
IsPlaced (stage.ReadFact k) = IsFact k
IsPlaced s = Unit {0}

feature_placed : (k : BackKey) → IsPlaced (after_feature (next_feature k))
feature_placed key.FeatureBarrier = tt
feature_placed k = tt

fact_placed : (k : BackKey) → IsPlaced (after_fact (next_fact k))
fact_placed key.Sectors = tt
fact_placed k = tt

read_feature : (k : BackKey) (n : Option ℕ) (v : FrontView) → IsPlaced (feature_step k n v).stage
read_feature k None v = tt
read_feature k (Some n) v = feature_placed k

read_fact : (k : BackKey) (n : Option ℕ) (v : FrontView) → IsPlaced (fact_step k n v).stage
read_fact k None v = tt
read_fact k (Some n) v = fact_placed k

acted_placed : (act : FrontAction) (v : FrontView) → IsPlaced (acted act v).stage
acted_placed action.Nothing v = tt
acted_placed other v = tt

written_placed : (s : BusState) → IsPlaced (after_state s)
written_placed state.Closed = tt
written_placed s = tt

at_placed : (s : FrontBusStage) (v : FrontView) (idle : Bool) (x : FrontAnswer) → IsPlaced s → v.stage ≡ s → IsPlaced (step_at s v idle x).stage
at_placed stage.Rest v idle (front_answer.Watched path) placed here = tt
at_placed stage.ReadState v idle (front_answer.Key text) placed here = acted_placed (tables.front_action v.state v.closing idle (state_read text)) v
at_placed (stage.ReadFeature k) v idle (front_answer.Key text) placed here = read_feature k (count_read text) v
at_placed stage.NewPort v idle (front_answer.Port number) placed here = tt
at_placed (stage.ReadFact k) v idle (front_answer.Key text) placed here = read_fact k (fact_read k text) v
at_placed (stage.WriteState s) v idle front_answer.Done placed here = written_placed s
at_placed stage.ClosePort v idle front_answer.Done placed here = tt
at_placed (stage.RingWord word) v idle front_answer.Done placed here = either IsPlaced (word == 15) (stage.Grant 0) (stage.RingWord (word + 1)) tt tt
at_placed (stage.Grant page) v idle front_answer.Done placed here = either IsPlaced (nat_lt (page + 1) (pages_of v)) (stage.Grant (page + 1)) stage.NewPort tt tt
at_placed (stage.Publish k) v idle front_answer.Done placed here = elim (next_published (ring_order v) k) as (λ next. IsPlaced (after_published next)) [ None ↦ tt | Some k ↦ tt ]
at_placed (stage.EndGrant page) v idle front_answer.Done placed here = either IsPlaced (nat_lt (page + 1) (pages_of v)) (stage.EndGrant (page + 1)) stage.EndOtherGrants tt tt
at_placed stage.EndOtherGrants v idle front_answer.Done placed here = elim v.port as (λ number. IsPlaced (after_grants number)) [ None ↦ tt | Some number ↦ tt ]
at_placed s v idle front_answer.Done placed here = placed
at_placed s v idle x placed here = subst IsPlaced (sym here) placed

pub due_placed : (v : FrontView) (idle : Bool) → IsPlaced v.stage → IsPlaced (due v idle)
due_placed v idle placed = due_cases IsPlaced v.stage v idle placed tt tt tt

step_placed : (v : FrontView) (idle : Bool) (x : FrontAnswer) → IsPlaced v.stage → IsPlaced (step_of v idle x).stage
step_placed v idle x placed = at_placed (due v idle) (at (due v idle) v) idle x (due_placed v idle placed) refl

-- told what its own negotiation asked, or the outcome of a move of the end of the ring
pub told_placed : (v : FrontView) (idle : Bool) (x : FrontAnswer) → IsPlaced v.stage → IsPlaced (bus_told idle v x).stage
told_placed v idle x placed = settled_placed (ask_of (step_of v idle x) idle) (step_of v idle x) (step_placed v idle x placed)
  where
    settled_placed : (a : FrontBusAsk) (u : FrontView) → IsPlaced u.stage → IsPlaced (settled_at a idle u).stage
    settled_placed ask.EndOtherGrants u was = step_placed u idle front_answer.Done was
    settled_placed a u was = was

woken_placed : (broken : Bool) (v : FrontView) (idle : Bool) (x : FrontAnswer) → IsPlaced v.stage → IsPlaced (woken broken idle v x).stage
woken_placed false v idle (front_answer.Watched path) placed = told_placed v idle (front_answer.Watched path) placed
woken_placed broken v idle x placed = placed

pub followed_placed : (b : FrontBusAsk) (s : FrontStage) (v : FrontView) (idle : Bool) (x : FrontAnswer) → IsPlaced v.stage → IsPlaced (followed b s idle v x).stage
followed_placed (ask.WriteRingWord word) s v idle x placed = told_placed v idle x placed
followed_placed (ask.Grant page) (front_ring.RingFrame k) v idle x placed = told_placed v idle x placed
followed_placed (ask.Grant page) front_ring.NewPort v idle x placed = told_placed v idle x placed
followed_placed ask.NewPort s v idle x placed = told_placed v idle x placed
followed_placed (ask.EndGrant page) (front_ring.RingRead k) v idle x placed = told_placed v idle front_answer.Done placed
followed_placed (ask.EndGrant page) front_ring.ClosePort v idle x placed = told_placed v idle front_answer.Done placed
followed_placed ask.ClosePort s v idle x placed = told_placed v idle x placed
followed_placed ask.Wait s v idle x placed = woken_placed (is_broken s) v idle x placed
followed_placed b s v idle x placed = placed

pub waited_placed : (b : FrontBusAsk) (v : FrontView) (idle : Bool) (x : FrontAnswer) → IsPlaced v.stage → IsPlaced (waited b idle v x).stage
waited_placed ask.Wait v idle x placed = woken_placed false v idle x placed
waited_placed b v idle x placed = placed

pub closed_placed : (v : FrontView) → IsPlaced v.stage → IsPlaced (closed v).stage
closed_placed v placed = closed_cases (λ (u : FrontView). IsPlaced u.stage) v placed placed

-- a front that begins anew, or is closed or broken, reads no key
pub suspended_placed : (v : FrontView) → IsPlaced v.stage → IsPlaced (suspended v).stage
suspended_placed v placed = by_stage v.stage
  where
    by_stage : (s : FrontBusStage) → IsPlaced (suspended_at s v).stage
    by_stage stage.Closed = placed
    by_stage (stage.Broken word) = placed
    by_stage s = tt
