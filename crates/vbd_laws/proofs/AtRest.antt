-- Where both ends wait and nothing is pending, before a hostile hand first overwrites a word or a key, neither waits for its negotiation.
use Rattle.std.proofs.Common.{◌⊎◌, inl, inr, ◌≡◌, ◌∙◌, ap, sym, subst, refl, ℕ, ◌<◌, ◌≤◌, ◌==◌, Bool, true, false, true≢false, List, [], ◌∷◌, length, arith}
use Rattle.std.specs.Prelude.{Option, Some, None}
use Rattle.std.proofs.lemmas.Bool.{or_parts}
use Rattle.std.proofs.lemmas.Bool.Decides.{nat_tests}
use Rattle.line_text.proofs.Both.{both_true}
use Rattle.blk_base.specs.declared.parts.End.TheVariants as end
use Rattle.blk_base.specs.declared.ask.FrontAsk.TheVariants as front_ask
use Rattle.blk_base.specs.declared.ask.BackAsk.TheVariants as back_ask
use Rattle.event_channel.specs.Channels.{is_pending}
use Rattle.key_directory.specs.Watches.{has_pending}
use Rattle.hypervisor.specs.Act.{has_to_take}
use Rattle.blk_front.specs.declared.stage.FrontStage.{FrontStage}
use Rattle.blk_front.specs.declared.stage.FrontStage.TheVariants as ring_stage
use Rattle.blk_front.specs.declared.request.Request.{Request}
use Rattle.blk_front.specs.Submit.{is_ready, is_led, is_idle, ending_of}
use Rattle.blk_back.specs.declared.stage.BackStage.{BackStage}
use Rattle.blk_back.specs.declared.stage.BackStage.TheVariants as back_stage
use Rattle.blk_back.specs.Ask as back_ring
use Rattle.xenbus_state.specs.declared.state.BusState.{BusState}
use Rattle.xenbus_state.specs.declared.state.BusState.TheVariants as state
use Rattle.xenbus_state.specs.States.{state_number}
use Rattle.xenbus_state.specs.declared.stage.FrontBusStage.{FrontBusStage}
use Rattle.xenbus_state.specs.declared.stage.FrontBusStage.TheVariants as stage
use Rattle.xenbus_state.specs.declared.stage.BackBusStage.{BackBusStage}
use Rattle.xenbus_state.specs.declared.front.FrontBusAsk.TheVariants as front_bus
use Rattle.xenbus_state.specs.declared.back.BackBusAsk.TheVariants as back_bus
use Rattle.blk_front.specs.Suspend.{is_left}
use Rattle.negotiation_laws.specs.Negotiation.{Negotiation}
use Rattle.negotiation_laws.specs.Laws.{IsAtRest, AreBoth, WaitsForRequests}
use Rattle.negotiation_laws.proofs.Found.{connected_after}
use Rattle.negotiation_laws.proofs.Resting.{agree_at_rest}
use Rattle.vbd_front.specs.View as front_view
use Rattle.vbd_front.specs.Ask as front
use Rattle.vbd_back.specs.Ask as back
use Rattle.vbd_model.specs.World.{World, frontend_of, backend_of}
use Rattle.vbd_model.specs.Fit.{is_serving, FrontRests, FrontGoesWith, BackRests, BackGoesWith}
use Rattle.vbd_laws.specs.Waits.{Check}
use Rattle.vbd_laws.proofs.MovesTurns.{back_asks}
use Rattle.vbd_laws.proofs.NegotiatedRun.{Reached, Joined, negotiation_of}
use Rattle.vbd_laws.proofs.NegotiatedBusy.{HasHeard, busy_connected}
use Rattle.vbd_laws.proofs.WaitsFront.{Knows as FrontKnows, bus_waits as front_bus_waits, BusWaits as FrontBusWaits}
use Rattle.vbd_laws.proofs.WaitsFrontCases.{bus_asks, only_rests as front_only_rests, rests_whole, ready_asks, left_busy, same_ask}
use Rattle.vbd_laws.proofs.WaitsBack.{Knows as BackKnows}
use Rattle.vbd_laws.proofs.WaitsBackCases.{only_rests as back_only_rests, rests_so, unmaps_some, bus_waits as back_bus_waits, BusWaits as BackBusWaits}

-- at rest both ends of the negotiation agree, or the front waits for its requests
abbrev AgreesAt : (idle : Bool) → Negotiation → Type 0
AgreesAt idle n = (n.front.state ≡ state.Closing → idle ≡ true) → IsAtRest idle n → AreBoth n state.Connected ⊎ AreBoth n state.Closed ⊎ WaitsForRequests idle n

pub agrees_at : (n : Negotiation) (idle : Bool) → Reached n → AgreesAt idle n
agrees_at n idle j = subst (AgreesAt idle) j.stands (agree_at_rest j.run idle j.served)

-- a connected front has a back that wrote Connected, or a later state
abbrev LeadsBack : Negotiation → Type 0
LeadsBack n = n.front.state ≡ state.Connected → 4 ≤ state_number n.back.state

leads_back : (n : Negotiation) → Reached n → LeadsBack n
leads_back n j = subst LeadsBack j.stands (connected_after j.run)

-- a front that wrote Closing and rests is at no step of a request
still_closing : (gone : Bool) (port : Option ℕ) (s : FrontStage) → FrontRests state.Closing gone port s → (ending_of s ≡ 0) × (front_view.is_still s ≡ true)
still_closing false None s rests = subst (λ (t : FrontStage). (ending_of t ≡ 0) × (front_view.is_still t ≡ true)) (sym rests) (refl, refl)
still_closing false (Some p) ring_stage.Initialised rests = (refl, refl)
still_closing false (Some p) ring_stage.Loop rests = (refl, refl)
still_closing false (Some p) s rests = absurd (true≢false (sym rests))
still_closing true None s rests = absurd rests
still_closing true (Some p) (ring_stage.RingRead page) rests = (refl, refl)
still_closing true (Some p) (ring_stage.RingEnd page seen) rests = (refl, refl)
still_closing true (Some p) s rests = absurd rests

ready_unled : (s : FrontStage) → is_ready s ≡ true → is_led s ≡ false
ready_unled ring_stage.Initialised ready = absurd (true≢false (sym ready))
ready_unled (ring_stage.KeptRead frame) ready = absurd (true≢false (sym ready))
ready_unled (ring_stage.KeptEnd frame seen) ready = absurd (true≢false (sym ready))
ready_unled ring_stage.Left ready = absurd (true≢false (sym ready))
ready_unled s ready = refl

serving_unled : (s : BackStage) → is_serving s ≡ true → back_ring.is_led s ≡ false
serving_unled back_stage.InitWait serves = absurd (true≢false (sym serves))
serving_unled s serves = refl

-- a state isn't another
other : {A : Type 0} (own a b : BusState) → own ≡ a → own ≡ b → state_number a < state_number b → A
other own a b is also less = absurd (let one : state_number own ≡ state_number a = ap state_number is in let two : state_number own ≡ state_number b = ap state_number also in omega (arith, one, two, less))

some_none : (q : Request) (qs : List Request) → q ∷ qs ≡ [] → ⊥
some_none q qs e = absurd (cc)

-- both ends wait, and nothing is pending
pub record AreWaiting (w : World) : Type 0 where
  pub front : front.ask_of (frontend_of w) ≡ front_ask.Wait
  pub back : back.ask_of (backend_of w) ≡ back_ask.Wait
  pub front_taken : has_to_take w.rings.under end.Front ≡ false
  pub back_taken : has_to_take w.rings.under end.Back ≡ false

module _ (w : World) (c d : Check) (k : FrontKnows w c) (j : BackKnows w d) (joined : Joined w) (heard : HasHeard w) (whole : front_view.is_broken w.rings.front.stage ≡ false) (waiting : AreWaiting w) where
  abbrev r : FrontStage
  r = w.rings.front.stage

  abbrev idle : Bool
  idle = front_view.is_unoccupied w.rings.front

  unleft : is_left r ≡ false
  unleft = by_test (is_left r) refl
    where
      by_test : (left : Bool) → is_left r ≡ left → left ≡ false
      by_test true e = absurd (left_busy w c k e waiting.front)
      by_test false e = refl

  waits : front.ask_at (bus_asks w) (frontend_of w) ≡ front_ask.Wait
  waits = sym (same_ask w c k unleft) ∙ waiting.front

  front_rests : bus_asks w ≡ front_bus.Wait
  front_rests = front_only_rests w c k whole waits

  back_rests : back_asks w ≡ back_bus.Wait
  back_rests = back_only_rests w d j waiting.back

  pub at_rest : IsAtRest idle (negotiation_of w)
  at_rest = record {
    front_waits = front_rests;
    back_waits = back_rests;
    front_taken = (or_parts (is_pending w.rings.under.channels end.Front) (has_pending w.rings.under.keys.front) waiting.front_taken).1;
    back_taken = (or_parts (is_pending w.rings.under.channels end.Back) (has_pending w.rings.under.keys.back) waiting.back_taken).1;
  }

  -- the front's negotiation rests, or is closed
  abbrev Place : Type 0
  Place = FrontRests w.front.state w.front.gone w.front.port r ⊎ ((w.front.state ≡ state.Closed) × (r ≡ ring_stage.Closed))

  place : Place
  place = by_bus (front_bus_waits w.front idle front_rests)
    where
      by_bus : FrontBusWaits w.front idle → Place
      by_bus (inl at) = inl (rests_whole w c k at.0 whole)
      by_bus (inr (inl here)) = let goes : FrontGoesWith stage.Closed w.front r = subst (λ (s : FrontBusStage). FrontGoesWith s w.front r) here k.fit.front in inr (goes.0, goes.1)
      by_bus (inr (inr at)) = let goes : FrontGoesWith (stage.Broken at.0) w.front r = subst (λ (s : FrontBusStage). FrontGoesWith s w.front r) at.1 k.fit.front in absurd (true≢false (sym goes ∙ whole))

  -- without a request it is idle, where it is at nothing
  unoccupied : length w.rings.front.requests ≡ 0 → (ending_of r ≡ 0) × (front_view.is_still r ≡ true) → idle ≡ true
  unoccupied none still = rw (none, still.0, still.1) refl

  closing_idle : w.front.state ≡ state.Closing → idle ≡ true
  closing_idle own = elim place [
    | inl rests ↦
        let zero = (both_true w.rings.front.closing (length w.rings.front.requests == 0) (k.fit.through own whole)).1 in
        let none : length w.rings.front.requests ≡ 0 = grind (arith, nat_tests) in
        unoccupied none (still_closing w.front.gone w.front.port r (subst (λ (s : BusState). FrontRests s w.front.gone w.front.port r) own rests))
    | inr closed ↦ other w.front.state state.Closing state.Closed own closed.0 (omega arith)
  ]

  -- connected, it isn't led
  ready_idle : is_ready r ≡ true → is_idle w.rings.front ≡ true
  ready_idle ready = rw (ready_unled r ready, ready_asks w c k front_rests waits ready) refl

  closed_idle : r ≡ ring_stage.Closed → is_idle w.rings.front ≡ true
  closed_idle here = rw here refl

  -- nor is the back from then on
  back_unled : 3 ≤ state_number w.back.state → back_ring.is_led w.rings.back.stage ≡ false
  back_unled high = by_bus (back_bus_waits w.back back_rests)
    where
      by_state : (own : BusState) → 3 ≤ state_number own → BackRests own w.rings.back.stage → back_ring.is_led w.rings.back.stage ≡ false
      by_state state.InitWait high rests = absurd (omega (arith, high))
      by_state state.Connected high rests = serving_unled w.rings.back.stage rests
      by_state state.Closing high rests = serving_unled w.rings.back.stage rests
      by_state own high rests = absurd rests

      by_bus : BackBusWaits w.back → back_ring.is_led w.rings.back.stage ≡ false
      by_bus (inl at) = by_state w.back.state high (rests_so w d j at.0)
      by_bus (inr (inl here)) = ap back_ring.is_led (subst (λ (s : BackBusStage). BackGoesWith s w.back.state w.rings.back.stage) here j.fit.back).1
      by_bus (inr (inr at)) = unmaps_some w d j at.0 at.1

  abbrev AreUnled : Type 0
  AreUnled = (is_idle w.rings.front ≡ true) × (back_ring.is_led w.rings.back.stage ≡ false)

  by_requests : WaitsForRequests idle (negotiation_of w) → AreUnled
  by_requests waits = by_place place
    where
      -- a front that has requests is connected
      busy : {A : Type 0} → (requests : List Request) → w.rings.front.requests ≡ requests → state_number w.front.state < 4 → (ending_of r ≡ 0) × (front_view.is_still r ≡ true) → A
      busy [] none early still = absurd (true≢false (sym (unoccupied (ap length none) still) ∙ waits.busy))
      busy (q ∷ qs) some early still =
          let late = busy_connected w idle waits.busy joined (heard (λ none. some_none q qs (sym some ∙ none))) at_rest in
          absurd (omega (arith, early, late))

      lower : (own : BusState) → w.front.state ≡ own → state_number own < 4 → state_number w.front.state < 4
      lower own is low = let same : state_number w.front.state ≡ state_number own = ap state_number is in omega (arith, same, low)

      by_state : (own : BusState) (gone : Bool) (port : Option ℕ) → w.front.state ≡ own → state_number own < 5 → FrontRests own gone port r → AreUnled
      by_state state.Initialising gone port own early rests = busy w.rings.front.requests refl (lower state.Initialising own (omega arith)) (ap ending_of rests.0, ap front_view.is_still rests.0)
      by_state state.Initialised gone port own early rests = busy w.rings.front.requests refl (lower state.Initialised own (omega arith)) (ap ending_of rests.0, ap front_view.is_still rests.0)
      by_state state.Connected gone port own early rests = (ready_idle rests.0, back_unled (let high = leads_back (negotiation_of w) joined own in omega (arith, high)))
      by_state state.Closing gone port own early rests = absurd (omega (arith, early))
      by_state s gone port own early rests = absurd rests

      by_place : Place → AreUnled
      by_place (inl rests) = by_state w.front.state w.front.gone w.front.port refl waits.early rests
      by_place (inr closed) = absurd (let early = waits.early in let six : state_number w.front.state ≡ 6 = ap state_number closed.0 in omega (arith, early, six))

  connected : AreBoth (negotiation_of w) state.Connected → is_idle w.rings.front ≡ true
  connected both = elim place [
    | inl rests ↦ ready_idle (subst (λ (s : BusState). FrontRests s w.front.gone w.front.port r) both.0 rests).0
    | inr closed ↦ other w.front.state state.Connected state.Closed both.0 closed.0 (omega arith)
  ]

  rests_unclosed : {A : Type 0} → FrontRests w.front.state w.front.gone w.front.port r → w.front.state ≡ state.Closed → A
  rests_unclosed rests own = absurd (subst (λ (s : BusState). FrontRests s w.front.gone w.front.port r) own rests)

  closed : AreBoth (negotiation_of w) state.Closed → is_idle w.rings.front ≡ true
  closed both = elim place [ inl rests ↦ rests_unclosed rests both.0 | inr is ↦ closed_idle is.1 ]

  back_after : (own : BusState) → w.back.state ≡ own → 3 ≤ state_number own → back_ring.is_led w.rings.back.stage ≡ false
  back_after own is high = back_unled (let same : state_number w.back.state ≡ state_number own = ap state_number is in omega (arith, same, high))

  pub are_unled : AreUnled
  are_unled = by_state (agrees_at (negotiation_of w) idle joined closing_idle at_rest)
    where
      by_state : AreBoth (negotiation_of w) state.Connected ⊎ AreBoth (negotiation_of w) state.Closed ⊎ WaitsForRequests idle (negotiation_of w) → AreUnled
      by_state (inl both) = (connected both, back_after state.Connected both.1 (omega arith))
      by_state (inr (inl both)) = (closed both, back_after state.Closed both.1 (omega arith))
      by_state (inr (inr waits)) = by_requests waits
