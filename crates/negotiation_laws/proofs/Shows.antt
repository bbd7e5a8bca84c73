-- What each end finds of the other in the directory.
use Rattle.std.proofs.Common.{◌≡◌, ℕ, ◌<◌, ◌≤◌, true, List, refl, arith}
use Rattle.std.specs.Prelude.{Option, IsSome}
use Rattle.xenbus_state.specs.States.{state_number}
use Rattle.xenbus_state.specs.declared.keys.BackKey.{BackKey}
use Rattle.xenbus_state.specs.declared.keys.FrontKey.{FrontKey}
use Rattle.xenbus_state.specs.declared.offer.Features.{Features}
use Rattle.xenbus_state.specs.declared.offer.DiskFacts.{DiskFacts}
use Rattle.xenbus_state.specs.declared.values.FrontTerms.{FrontTerms}
use Rattle.xenbus_state.specs.declared.state.BusState.{BusState}
use Rattle.xenbus_state.specs.declared.state.BusState.TheVariants as state
use Rattle.xenbus_state.specs.declared.stage.FrontBusStage.{FrontBusStage}
use Rattle.xenbus_state.specs.declared.stage.FrontBusStage.TheVariants as front
use Rattle.xenbus_state.specs.declared.stage.BackBusStage.{BackBusStage}
use Rattle.xenbus_state.specs.declared.stage.BackBusStage.TheVariants as back
use Rattle.xenbus_state.specs.BackView.{BackView}
use Rattle.xenbus_state.specs.FrontSound as front_sound
use Rattle.xenbus_state.specs.BackSound.{IsPlaced, IsResting}
use Rattle.negotiation_laws.specs.Said.{AreTermsSaid, AreFeaturesSaid, AreFactsSaid}
use Rattle.negotiation_laws.proofs.FrontSteps.{said_later}
use Rattle.negotiation_laws.proofs.Subjects.{IsReady, FrontSaid, SaidAt, FactsAt, serves, BackHolds}

-- what a back of that state has said, and what it has seen of the front
pub record Speaks (b : BusState) (n : ℕ) (f : Features) (d : DiskFacts) (texts : BackKey → Option (List ℕ)) : Type 0 where
  pub connected : 4 ≤ state_number b → 3 ≤ n
  pub closed : 6 ≤ state_number b → 5 ≤ n
  pub features : 2 ≤ state_number b → AreFeaturesSaid texts f d
  pub facts : 4 ≤ state_number b → n < 5 → AreFactsSaid texts f d

module _ (n : ℕ) (f : Features) (d : DiskFacts) (texts : BackKey → Option (List ℕ)) where
  speaks_early : (b : BusState) → state_number b < 4 → (2 ≤ state_number b → AreFeaturesSaid texts f d) → Speaks b n f d texts
  speaks_early b low said = record { connected = λ e. absurd (omega arith); closed = λ e. absurd (omega arith); features = said; facts = λ e. absurd (omega arith) }

  speaks_late : (b : BusState) → 5 ≤ n → AreFeaturesSaid texts f d → Speaks b n f d texts
  speaks_late b late said = record { connected = λ e. omega arith; closed = λ e. late; features = λ e. said; facts = λ e low. absurd (omega arith) }

  init_wait : (b : BusState) → b ≡ state.InitWait → AreFeaturesSaid texts f d → Speaks b n f d texts
  init_wait b e said = let low : state_number b ≡ 2 = rw e refl in speaks_early b (omega arith) (λ two. said)

  speaks_resting : (own : BusState) (v : BackView) → IsResting own v → (serves back.Rest own ≡ true → 3 ≤ n) → AreFeaturesSaid texts f d → FactsAt own texts f d
      → Speaks own n f d texts
  speaks_resting state.InitWait v h serving said facts = init_wait state.InitWait refl said
  speaks_resting state.Connected v h serving said facts = record { connected = λ e. serving refl; closed = λ e. absurd (omega arith); features = λ e. said; facts = λ e low. facts }
  speaks_resting state.Closing v h serving said facts = record { connected = λ e. serving refl; closed = λ e. absurd (omega arith); features = λ e. said; facts = λ e low. facts }
  speaks_resting own v h serving said facts = absurd h

module _ (n : ℕ) (port : Option ℕ) (terms : FrontTerms) (f : Features) (d : DiskFacts) (texts : BackKey → Option (List ℕ)) where
  -- at each stage of the back
  pub speaks : (s : BackBusStage) (v : BackView) → IsPlaced s v → BackHolds s v n port terms f d texts → Speaks v.state n f d texts
  speaks (back.Publish k) v placed h = let low : state_number v.state ≡ 1 = rw placed.0 refl in speaks_early n f d texts v.state (omega arith) (λ two. absurd (omega arith))
  speaks (back.WriteState state.InitWait) v placed h =
      let low : state_number v.state ≡ 1 = rw placed.0 refl in speaks_early n f d texts v.state (omega arith) (λ two. absurd (omega arith))
  speaks (back.WriteState state.Connected) v placed h = init_wait n f d texts v.state placed.0 h.said.0
  speaks (back.WriteState state.Closing) v placed h = speaks_late n f d texts v.state (h.halting_after refl) h.said.0
  speaks (back.WriteState state.Closed) v placed h = speaks_late n f d texts v.state (h.halting_after refl) h.said.0
  speaks (back.WriteState s) v placed h = absurd placed
  speaks back.Rest v placed h = speaks_resting n f d texts v.state v placed (λ e. (h.serving_after e).0) h.said.0 h.said.1
  speaks back.ReadState v placed h = speaks_resting n f d texts v.state v placed (λ e. (h.serving_after e).0) h.said.0 h.said.1
  speaks back.UnmapOthers v placed h = speaks_late n f d texts v.state (h.halting_after refl) h.said.0
  speaks back.UnmapPage v placed h = speaks_late n f d texts v.state (h.halting_after refl) h.said.0
  speaks back.ClosePort v placed h = speaks_late n f d texts v.state (h.halting_after refl) h.said.0
  speaks back.Halted v placed h = speaks_late n f d texts v.state (h.halting_after refl) h.said.0
  speaks other v placed h = init_wait n f d texts v.state placed.0 h.said.0

-- a back that goes by the front's terms isn't closed
served_resting : (own : BusState) → serves back.Rest own ≡ true → state_number own < 6
served_resting state.Connected e = omega arith
served_resting state.Closing e = omega arith
served_resting own e = absurd (cc)

-- at each stage
pub serving_open : (s : BackBusStage) (v : BackView) → IsPlaced s v → serves s v.state ≡ true → state_number v.state < 6
serving_open (back.WriteState state.Connected) v placed e = rw placed.0 (omega arith)
serving_open back.Rest v placed e = served_resting v.state e
serving_open back.ReadState v placed e = served_resting v.state e
serving_open (back.ReadKey k) v placed e = rw placed.0 (omega arith)
serving_open back.MapPage v placed e = rw placed.0 (omega arith)
serving_open back.Bind v placed e = rw placed.0 (omega arith)
serving_open (back.PublishFact k) v placed e = rw placed.0 (omega arith)
serving_open back.UnmapOthers v placed e = placed
serving_open back.UnmapPage v placed e = placed.0
serving_open back.ClosePort v placed e = placed.0
serving_open (back.WriteState state.Closing) v placed e = let low = placed.0 in omega arith
serving_open s v placed e = absurd (cc)

-- what a front of that state has said
pub record Tells (own : BusState) (port : Option ℕ) (terms : FrontTerms) (texts : FrontKey → Option (List ℕ)) : Type 0 where
  pub ready : IsReady own → IsSome port
  pub said : 3 ≤ state_number own → IsSome port → AreTermsSaid texts terms

tells_at : (own : BusState) (port : Option ℕ) (terms : FrontTerms) (texts : FrontKey → Option (List ℕ)) → SaidAt own port terms texts → Tells own port terms texts
tells_at own port terms texts h = record { ready = ready own h; said = λ late some. said_later own port terms texts h some }
  where
    ready : (own : BusState) → SaidAt own port terms texts → IsReady own → IsSome port
    ready state.Initialised h r = h.0
    ready state.Connected h r = h.0
    ready own h r = absurd r

not_ready : (own : BusState) → state_number own < 3 → IsReady own → ⊥
not_ready state.Initialised low r = absurd (omega arith)
not_ready state.Connected low r = absurd (omega arith)
not_ready own low r = r

tells_early : (own : BusState) (port : Option ℕ) (terms : FrontTerms) (texts : FrontKey → Option (List ℕ)) → state_number own < 3 → Tells own port terms texts
tells_early own port terms texts low = record { ready = λ r. absurd (not_ready own low r); said = λ late. absurd (omega arith) }

tells_first : (own : BusState) (port : Option ℕ) (terms : FrontTerms) (texts : FrontKey → Option (List ℕ)) → own ≡ state.Initialising → Tells own port terms texts
tells_first own port terms texts e = let low : state_number own ≡ 1 = rw e refl in tells_early own port terms texts (omega arith)

tells_all : (own : BusState) (port : Option ℕ) (terms : FrontTerms) (texts : FrontKey → Option (List ℕ)) → IsSome port × AreTermsSaid texts terms → Tells own port terms texts
tells_all own port terms texts h = record { ready = λ r. h.0; said = λ late some. h.1 }

-- at each stage of the front
pub tells : (s : FrontBusStage) (own : BusState) (port : Option ℕ) (terms : FrontTerms) (texts : FrontKey → Option (List ℕ)) → front_sound.IsTimely s own
    → FrontSaid s own port terms texts → Tells own port terms texts
tells front.Start own port terms texts timely h = tells_first own port terms texts timely
tells (front.ReadFeature k) own port terms texts timely h = tells_first own port terms texts timely
tells (front.RingWord word) own port terms texts timely h = tells_first own port terms texts timely
tells (front.Grant page) own port terms texts timely h = tells_first own port terms texts timely
tells front.NewPort own port terms texts timely h = tells_first own port terms texts timely
tells (front.Publish k) own port terms texts timely h = tells_first own port terms texts timely
tells (front.WriteState state.Initialised) own port terms texts timely h = tells_all own port terms texts h
tells (front.WriteState state.Connected) own port terms texts timely h = tells_all own port terms texts h
tells (front.ReadFact k) own port terms texts timely h = tells_all own port terms texts h
tells s own port terms texts timely h = tells_at own port terms texts h
