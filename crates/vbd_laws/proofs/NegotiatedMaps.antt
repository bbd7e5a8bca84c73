-- The back's end of the ring maps and binds what its negotiation read of the front's terms.
use Rattle.vbd_laws.proofs.NegotiatedWay.{ring_made_now}
use Rattle.std.proofs.Common.{inl, inr, ◌≡◌, ◌∙◌, ap, sym, subst, ℕ, ◌<◌, List, length, Bool, true, false, refl, arith, if◌then◌else◌}
use Rattle.std.specs.Prelude.{slice_index, slice_index_or}
use Rattle.blk_base.specs.declared.parts.Mapping.{Mapping}
use Rattle.blk_base.specs.declared.ask.BackAsk.TheVariants as ring_ask
use Rattle.blk_base.specs.declared.parts.Mode.TheVariants.{ReadWrite}
use Rattle.blk_front.specs.Submit.{is_connected}
use Rattle.blk_back.specs.declared.stage.BackStage.{BackStage}
use Rattle.blk_back.specs.declared.stage.BackStage.TheVariants as ring
use Rattle.blk_back.specs.Ask as ring_asks
use Rattle.xenbus_state.specs.declared.back.BackBusAsk.TheVariants as bus_ask
use Rattle.xenbus_state.specs.declared.state.BusState.TheVariants as state
use Rattle.xenbus_state.specs.declared.stage.BackBusStage.{BackBusStage}
use Rattle.xenbus_state.specs.declared.stage.BackBusStage.TheVariants as bus
use Rattle.xenbus_state.specs.BackView.{BackView, is_halting}
use Rattle.xenbus_state.specs.BackAsk.{ask_of, ask_at, says_closing, next_gref}
use Rattle.xenbus_state.specs.BackSound.{IsPlaced}
use Rattle.vbd_model.specs.World.{World}
use Rattle.vbd_model.specs.Fit.{BackGoesWith, HaveTerms, has_terms, IsFit}
use Rattle.vbd_laws.specs.Served.{GoesByTheTerms, IsMadeFirst}
use Rattle.vbd_laws.proofs.NegotiatedKept.{made_now, asks_map, asks_bind}
use Rattle.vbd_laws.proofs.NegotiatedEarly.{IsOnItsWay}

-- a reference that is there is read alike with a default
index_same : (xs : List ℕ) (i : ℕ) → i < length xs → slice_index_or xs i 0 ≡ slice_index xs i
index_same xs i low = grind (arith)

-- what its end of the ring maps, as the negotiation asks for the next reference
next_same : (v : BackView) (gref : ℕ) → v.stage ≡ bus.MapPage → ask_of v ≡ bus_ask.Map gref → next_gref v ≡ gref
next_same v gref here asks = by_test (says_closing v) asks
  where
    at_page : ask_at v.stage v ≡ bus_ask.Map (next_gref v)
    at_page = ap (λ (s : BackBusStage). ask_at s v) here

    by_test : (b : Bool) → (if b then bus_ask.SetState state.Closing else ask_at v.stage v) ≡ bus_ask.Map gref → next_gref v ≡ gref
    by_test true e = absurd (cc)
    by_test false e = let same : bus_ask.Map (next_gref v) ≡ bus_ask.Map gref = sym at_page ∙ e in cc

halted_not : {A : Type 0} (r : BackStage) → r ≡ ring.Halted → r ≡ ring.MapRing → A
halted_not r e f = absurd (cc)

module _ (w : World) (fit : IsFit w) where
  -- as the ring's end stands there
  map_goes : (gref : ℕ) → ask_of w.back ≡ bus_ask.Map gref → w.rings.back.stage ≡ ring.MapRing
  map_goes gref asks = (subst (λ (s : BackBusStage). BackGoesWith s w.back.state w.rings.back.stage) (asks_map w.back gref asks) fit.back).1

  bind_goes : (port : ℕ) → ask_of w.back ≡ bus_ask.Bind port → w.rings.back.stage ≡ ring.Bind
  bind_goes port asks = (subst (λ (s : BackBusStage). BackGoesWith s w.back.state w.rings.back.stage) (asks_bind w.back port asks).0 fit.back).1

  -- it has the terms that the negotiation read
  terms_at : (s : BackBusStage) (r : BackStage) → w.back.stage ≡ s → w.rings.back.stage ≡ r → has_terms r ≡ true → is_halting s ≡ false → HaveTerms w.rings.back w.back
  terms_at s r at stands has unhalted = fit.terms (ap has_terms stands ∙ has) (ap is_halting at ∙ unhalted)

  maps_so : (gref : ℕ) → ask_of w.back ≡ bus_ask.Map gref → ring_asks.ask_of w.rings.back ≡ ring_ask.Map gref ReadWrite
  maps_so gref asks =
      let here = asks_map w.back gref asks in
      let stands = map_goes gref asks in
      let terms = terms_at bus.MapPage ring.MapRing here stands refl refl in
      let placed = subst (λ (s : BackBusStage). IsPlaced s w.back) here fit.sound.placed in
      let low : length w.back.pages < length w.back.grefs = subst (λ (n : ℕ). length w.back.pages < n) (sym placed.2) placed.3 in
      let next : ring_asks.next_gref w.rings.back ≡ gref =
      ap (λ (xs : List ℕ). slice_index_or xs (length w.rings.back.pages) 0) terms.grefs ∙ ap (λ (ps : List Mapping). slice_index_or w.back.grefs (length ps) 0) fit.pages
      ∙ index_same w.back.grefs (length w.back.pages) low ∙ next_same w.back gref here asks
      in
      ap (λ (r : BackStage). ring_asks.ask_at r w.rings.back) stands ∙ ap (λ (n : ℕ). ring_ask.Map n ReadWrite) next

  binds_so : (port : ℕ) → ask_of w.back ≡ bus_ask.Bind port → ring_asks.ask_of w.rings.back ≡ ring_ask.Bind port
  binds_so port asks =
      let is = asks_bind w.back port asks in
      let stands = bind_goes port asks in
      let terms = terms_at bus.Bind ring.Bind is.0 stands refl refl in
      ap (λ (r : BackStage). ring_asks.ask_at r w.rings.back) stands ∙ ap (λ (n : ℕ). ring_ask.Bind n) (terms.port ∙ is.1)

  -- and the front has made it
  made_so : IsOnItsWay w → (gref : ℕ) → ask_of w.back ≡ bus_ask.Map gref → is_connected w.rings.front.stage ≡ true
  made_so (inl b) gref asks = made_now w gref fit b.joined asks
  made_so (inr (inl b)) gref asks = b.made
  made_so (inr (inr (inl h))) gref asks = halted_not w.rings.back.stage h.ring (map_goes gref asks)
  made_so (inr (inr (inr p))) gref asks = p.made

  pub goes_by_terms : GoesByTheTerms w
  goes_by_terms = record { maps = maps_so; binds = binds_so }

  pub is_made_first : IsOnItsWay w → IsMadeFirst w
  is_made_first way = record { mapped = made_so way; moved = ring_made_now w fit way }
