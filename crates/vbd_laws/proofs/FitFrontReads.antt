-- The front reads what its back offers only once the back has said all of it, whatever the front's own keys say.
use Rattle.std.proofs.Common.{◌≡◌, ℕ, ◌+◌, ◌==◌, ◌&&◌, Bool, true, false, List, refl, if◌then◌else◌}
use Rattle.std.specs.Prelude.{Option, Some, None, nat_lt}
use Rattle.blk_base.specs.declared.ask.FrontAnswer.{FrontAnswer}
use Rattle.blk_base.specs.declared.ask.FrontAnswer.TheVariants as answer
use Rattle.blk_front.specs.declared.stage.FrontStage.{FrontStage}
use Rattle.blk_front.specs.declared.stage.FrontStage.TheVariants as ring
use Rattle.xenbus_state.specs.declared.keys.BackKey.{BackKey}
use Rattle.xenbus_state.specs.declared.keys.BackKey.TheVariants as key
use Rattle.xenbus_state.specs.declared.state.BusState.{BusState}
use Rattle.xenbus_state.specs.declared.state.BusState.TheVariants as state
use Rattle.xenbus_state.specs.declared.stage.FrontBusStage.{FrontBusStage}
use Rattle.xenbus_state.specs.declared.stage.FrontBusStage.TheVariants as stage
use Rattle.xenbus_state.specs.declared.table.FrontAction.{FrontAction}
use Rattle.xenbus_state.specs.declared.table.FrontAction.TheVariants as action
use Rattle.xenbus_state.specs.declared.front.FrontBusAsk.{FrontBusAsk}
use Rattle.xenbus_state.specs.declared.front.FrontBusAsk.TheVariants as ask
use Rattle.xenbus_state.specs.States.{state_read}
use Rattle.xenbus_state.specs.Tables.{front_action, on_closing, on_gone, on_connected}
use Rattle.xenbus_state.specs.Programs.{next_feature, next_fact, next_published}
use Rattle.xenbus_state.specs.Reading.{count_read, fact_read}
use Rattle.xenbus_state.specs.FrontView.{FrontView, ring_order, pages_of, closed}
use Rattle.xenbus_state.specs.FrontAsk.{due, ask_at, ask_of}
use Rattle.xenbus_state.specs.FrontStep.{at, acted, after_feature, feature_step, after_fact, fact_step, after_state, after_grants, after_published, after, step_at, step_of}
use Rattle.vbd_front.specs.View.{View}
use Rattle.vbd_front.specs.View as view
use Rattle.vbd_front.specs.Ask as front
use Rattle.vbd_front.specs.Step as front_step
use Rattle.vbd_front.specs.Step.{settled_at, bus_told}
use Rattle.vbd_model.specs.Fit.{IsServiceSaid, ReadsOffer}
use Rattle.negotiation_laws.proofs.Choices.{closed_cases, either, due_cases}
use Rattle.vbd_laws.proofs.FitSaid.{all_kept}

-- what the negotiation becomes in a move of the front: it is told the answer, that all is done, or nothing
module _ (P : FrontView → Type 0) (x : View) (a : FrontAnswer) (p : P x.bus)
    (told : P (front_step.bus_told (view.is_unoccupied x.ring) x.bus a)) (done : P (front_step.bus_told (view.is_unoccupied x.ring) x.bus answer.Done)) where
  woken_is : (broken : Bool) (c : FrontAnswer) → P (front_step.bus_told (view.is_unoccupied x.ring) x.bus c) → P (front_step.woken broken (view.is_unoccupied x.ring) x.bus c)
  woken_is false (answer.Watched path) q = q
  woken_is false c q = p
  woken_is true c q = p

  pub followed_is : (b : FrontBusAsk) (later : FrontStage) → P (front_step.followed b later (view.is_unoccupied x.ring) x.bus a)
  followed_is (ask.WriteRingWord word) later = told
  followed_is (ask.Grant page) (ring.RingFrame k) = told
  followed_is (ask.Grant page) ring.NewPort = told
  followed_is ask.NewPort later = told
  followed_is (ask.EndGrant page) (ring.RingRead k) = done
  followed_is (ask.EndGrant page) ring.ClosePort = done
  followed_is ask.ClosePort later = told
  followed_is ask.Wait later = woken_is (view.is_broken later) a told
  followed_is b later = p

  pub waited_is : (b : FrontBusAsk) → P (front_step.waited b (view.is_unoccupied x.ring) x.bus a)
  waited_is ask.Wait = woken_is false a told
  waited_is b = p

  ring_is : (moves : Bool) (b : FrontBusAsk) → (let y : View = front_step.ring_step moves b x a in P y.bus)
  ring_is true b = followed_is b _
  ring_is false b = waited_is b

  pub step_is : (let y : View = front_step.step_of x a in P y.bus)
  step_is = by_test (front.speaks (front.bus_ask_of x)) (front.bus_ask_of x)
    where
      by_test : (speaks : Bool) (b : FrontBusAsk) → (let y : View = if speaks then front_step.spoken x a else front_step.ring_step (front.ring_moves b x.ring.stage) b x a in P y.bus)
      by_test true b = told
      by_test false b = ring_is (front.ring_moves b x.ring.stage) b

-- a front that publishes has read that the back offers
connected_first : (b : Bool) (own : BusState) → (if b then action.Nothing else on_connected own) ≡ action.Publish → ⊥
connected_first true own e = cc
connected_first false state.Initialised e = cc
connected_first false own e = cc

closing_first : (own : BusState) (idle : Bool) → on_closing own idle ≡ action.Publish → ⊥
closing_first state.Initialised false e = cc
closing_first own idle e = cc

gone_first : (idle : Bool) (word : ℕ) → on_gone idle word ≡ action.Publish → ⊥
gone_first true word e = cc
gone_first false word e = cc

pub publishes_offered : (own : BusState) (closing idle : Bool) (read : Option BusState) → front_action own closing idle read ≡ action.Publish → read ≡ Some state.InitWait
publishes_offered own closing idle (Some state.InitWait) e = refl
publishes_offered own closing idle (Some state.Connected) e = absurd (connected_first (closing && idle) own e)
publishes_offered own closing idle (Some state.Closing) e = absurd (closing_first own idle e)
publishes_offered own closing idle (Some state.Closed) e = absurd (gone_first idle 6 e)
publishes_offered own closing idle (Some state.Unknown) e = absurd (gone_first idle 0 e)
publishes_offered own closing idle None e = absurd (cc)
publishes_offered own closing idle (Some other) e = absurd (cc)

-- what is said stays said
pub reads_kept : (P Q : BackKey → Type 0) → ((k : BackKey) → P k → Q k) → (s : FrontBusStage) → ReadsOffer P s → ReadsOffer Q s
reads_kept P Q keeps (stage.ReadFeature k) is = (is.0, all_kept P Q keeps is.1)
reads_kept P Q keeps s is = tt

-- where all of it is said
module _ (says : BackKey → Type 0) where
  acted_reads : (act : FrontAction) (v : FrontView) → (act ≡ action.Publish → IsServiceSaid says) → ReadsOffer says (acted act v).stage
  acted_reads action.Publish v may = (tt, may refl)
  acted_reads other v may = tt

  next_reads : (k : BackKey) → IsServiceSaid says → ReadsOffer says (after_feature (next_feature k))
  next_reads key.FeatureBarrier is = (tt, is)
  next_reads key.FeatureFlushCache is = (tt, is)
  next_reads key.FeatureDiscard is = (tt, is)
  next_reads key.FeaturePersistent is = (tt, is)
  next_reads key.FeatureMaxIndirectSegments is = (tt, is)
  next_reads k is = tt

  feature_reads : (k : BackKey) (n : Option ℕ) (v : FrontView) → IsServiceSaid says → ReadsOffer says (feature_step k n v).stage
  feature_reads k None v is = tt
  feature_reads k (Some n) v is = next_reads k is

  fact_reads : (k : BackKey) (n : Option ℕ) (v : FrontView) → ReadsOffer says (fact_step k n v).stage
  fact_reads k None v = tt
  fact_reads k (Some n) v = elim (next_fact k) as (λ next. ReadsOffer says (after_fact next)) [ None ↦ tt | Some k ↦ tt ]

  state_reads : (s : BusState) → ReadsOffer says (after_state s)
  state_reads state.Closed = tt
  state_reads s = tt

  after_reads : (s : FrontBusStage) (v : FrontView) → ReadsOffer says s → ReadsOffer says (after s v)
  after_reads stage.Start v is = tt
  after_reads (stage.RingWord word) v is = either (ReadsOffer says) (word == 15) (stage.Grant 0) (stage.RingWord (word + 1)) tt tt
  after_reads (stage.Grant page) v is = either (ReadsOffer says) (nat_lt (page + 1) (pages_of v)) (stage.Grant (page + 1)) stage.NewPort tt tt
  after_reads (stage.Publish k) v is = elim (next_published (ring_order v) k) as (λ next. ReadsOffer says (after_published next)) [ None ↦ tt | Some k ↦ tt ]
  after_reads (stage.EndGrant page) v is = either (ReadsOffer says) (nat_lt (page + 1) (pages_of v)) (stage.EndGrant (page + 1)) stage.EndOtherGrants tt tt
  after_reads stage.EndOtherGrants v is = elim v.port as (λ port. ReadsOffer says (after_grants port)) [ None ↦ tt | Some port ↦ tt ]
  after_reads s v is = is

  -- where it reads the back's state, and that says what there is to read
  abbrev pub Announces : FrontView → Bool → FrontAnswer → Type 0
  Announces v idle x = ask_of v idle ≡ ask.GetState → (text : Option (List ℕ)) → x ≡ answer.Key text → front_action v.state v.closing idle (state_read text) ≡ action.Publish → IsServiceSaid says

  abbrev AnnouncesAt : FrontBusStage → FrontView → Bool → FrontAnswer → Type 0
  AnnouncesAt d v idle x = ask_at d v ≡ ask.GetState → (text : Option (List ℕ)) → x ≡ answer.Key text → front_action v.state v.closing idle (state_read text) ≡ action.Publish → IsServiceSaid says

  step_reads : (d : FrontBusStage) (v : FrontView) (idle : Bool) (x : FrontAnswer) → AnnouncesAt d v idle x → ReadsOffer says d → ReadsOffer says (step_at d (at d v) idle x).stage
  step_reads stage.Rest v idle (answer.Watched path) may is = tt
  step_reads stage.ReadState v idle (answer.Key text) may is = acted_reads (front_action v.state v.closing idle (state_read text)) (at stage.ReadState v) (may refl text refl)
  step_reads (stage.ReadFeature k) v idle (answer.Key text) may is = feature_reads k (count_read text) (at (stage.ReadFeature k) v) is.1
  step_reads stage.NewPort v idle (answer.Port port) may is = tt
  step_reads (stage.ReadFact k) v idle (answer.Key text) may is = fact_reads k (fact_read k text) (at (stage.ReadFact k) v)
  step_reads (stage.WriteState s) v idle answer.Done may is = state_reads s
  step_reads stage.ClosePort v idle answer.Done may is = tt
  step_reads d v idle answer.Done may is = after_reads d (at d v) is
  step_reads d v idle x may is = is

  due_reads : (v : FrontView) (idle : Bool) → ReadsOffer says v.stage → ReadsOffer says (due v idle)
  due_reads v idle is = due_cases (ReadsOffer says) v.stage v idle is tt tt tt

  settled_reads : (b : FrontBusAsk) (u : FrontView) (idle : Bool) → ReadsOffer says u.stage → ReadsOffer says (settled_at b idle u).stage
  settled_reads ask.EndOtherGrants u idle is = step_reads (due u idle) u idle answer.Done (λ asks text e. absurd (cc)) (due_reads u idle is)
  settled_reads b u idle is = is

  pub told_reads : (v : FrontView) (idle : Bool) (x : FrontAnswer) → Announces v idle x → ReadsOffer says v.stage → ReadsOffer says (bus_told idle v x).stage
  told_reads v idle x may is = let u : FrontView = step_of v idle x in settled_reads (ask_of u idle) u idle (step_reads (due v idle) v idle x may (due_reads v idle is))

  pub closed_reads : (v : FrontView) → ReadsOffer says v.stage → ReadsOffer says (closed v).stage
  closed_reads v is = closed_cases (λ (u : FrontView). ReadsOffer says u.stage) v is is
