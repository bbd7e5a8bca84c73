-- What the run of the negotiation says of the machine at a moment: of its maps, of the states that the front enters, and of the back's halts.
use Rattle.std.proofs.Common.{◌⊎◌, inl, inr, ◌≡◌, ◌∙◌, ap, sym, subst, ℕ, Bool, true, false, true≢false, List, [], ◌∷◌, ◌++◌, refl, if◌then◌else◌}
use Rattle.std.specs.Prelude.{Option, Some, None, IsSome, is_some}
use Rattle.std.specs.List.{AllByRecursion}
use Rattle.blk_base.specs.declared.parts.Mapping.{Mapping}
use Rattle.blk_base.specs.declared.ask.FrontAnswer.{FrontAnswer}
use Rattle.blk_base.specs.declared.ask.FrontAnswer.TheVariants as answer
use Rattle.hypervisor.specs.Act.{FrontAct, front_act}
use Rattle.blk_front.specs.declared.stage.FrontStage.{FrontStage}
use Rattle.blk_front.specs.declared.stage.FrontStage.TheVariants as front_ring
use Rattle.blk_front.specs.declared.state.FrontState.{FrontState}
use Rattle.blk_front.specs.declared.state.FrontState.TheVariants as entered
use Rattle.blk_front.specs.declared.state.Offers.{Offers}
use Rattle.blk_front.specs.Submit.{is_connected, is_ready}
use Rattle.blk_front.specs.State.{is_made}
use Rattle.blk_front.specs.Suspend.{is_left}
use Rattle.xenbus_state.specs.declared.state.BusState.{BusState}
use Rattle.xenbus_state.specs.declared.state.BusState.TheVariants as state
use Rattle.xenbus_state.specs.declared.stage.FrontBusStage.{FrontBusStage}
use Rattle.xenbus_state.specs.declared.stage.FrontBusStage.TheVariants as bus
use Rattle.xenbus_state.specs.declared.stage.BackBusStage.{BackBusStage}
use Rattle.xenbus_state.specs.declared.stage.BackBusStage.TheVariants as back_bus
use Rattle.xenbus_state.specs.declared.offer.Features.{Features}
use Rattle.xenbus_state.specs.declared.offer.DiskFacts.{DiskFacts}
use Rattle.xenbus_state.specs.declared.front.FrontBusAsk.{FrontBusAsk}
use Rattle.xenbus_state.specs.declared.front.FrontBusAsk.TheVariants as front_ask
use Rattle.xenbus_state.specs.declared.front.FrontNews.{FrontNews}
use Rattle.xenbus_state.specs.declared.front.FrontNews.TheVariants as news
use Rattle.xenbus_state.specs.declared.back.BackBusAsk.TheVariants as bus_ask
use Rattle.xenbus_state.specs.Tables.{is_connected as bus_connected}
use Rattle.xenbus_state.specs.FrontView.{FrontView, ring_order}
use Rattle.xenbus_state.specs.FrontAsk as front_asks
use Rattle.xenbus_state.specs.FrontStep.{news_of}
use Rattle.xenbus_state.specs.BackView.{BackView}
use Rattle.xenbus_state.specs.BackAsk.{says_closing, unmap_ask, ask_at, ask_of}
use Rattle.negotiation_laws.specs.Negotiation.{Negotiation, front_answered}
use Rattle.negotiation_laws.specs.Laws.{IsLeaving, IsHalted}
use Rattle.negotiation_laws.proofs.Granting.{maps_after_grants, connects_to_connected}
use Rattle.vbd_front.specs.View as front_view
use Rattle.vbd_front.specs.Ask as front
use Rattle.vbd_front.specs.Step as front_step
use Rattle.vbd_model.specs.World.{World, frontend_of}
use Rattle.vbd_model.specs.Happening.{front_turn}
use Rattle.vbd_model.specs.Fit.{IsEndingPage, FrontRests, FrontGoesWith, IsFit}
use Rattle.vbd_laws.proofs.FitFrontTerms.{Found, found_told}
use Rattle.vbd_laws.proofs.FitFront.{asks_cases}
use Rattle.vbd_laws.proofs.ServedFront.{IsNewsAt, news_is}
use Rattle.vbd_laws.proofs.NegotiatedRun.{Reached, Joined, negotiation_of, breaks_at, leaves_at}
use Rattle.vbd_laws.proofs.NegotiatedFront.{none_in_hand, front_goes, Told, keys_told}
use Rattle.vbd_laws.proofs.NegotiatedQuiet.{closing_unoccupied}
use Rattle.vbd_laws.proofs.NegotiatedAgreed.{connects_knowing}

-- a ring that passed a test which none fails to pass that is being made is made
connected_by : (test : FrontStage → Bool) → ((k : ℕ) → test (front_ring.RingWord k) ≡ false) → ((page : ℕ) → test (front_ring.RingFrame page) ≡ false) → ((page : ℕ) → test (front_ring.RingFence page) ≡ false)
    → ((page : ℕ) → test (front_ring.RingFlags page) ≡ false) → test front_ring.NewPort ≡ false → ((n : ℕ) → test (front_ring.LeftData n) ≡ false) → (r : FrontStage) → test r ≡ true → is_connected r ≡ true
connected_by test words frame fence flags port left (front_ring.RingWord k) is = absurd (true≢false (sym is ∙ words k))
connected_by test words frame fence flags port left (front_ring.RingFrame page) is = absurd (true≢false (sym is ∙ frame page))
connected_by test words frame fence flags port left (front_ring.RingFence page) is = absurd (true≢false (sym is ∙ fence page))
connected_by test words frame fence flags port left (front_ring.RingFlags page) is = absurd (true≢false (sym is ∙ flags page))
connected_by test words frame fence flags port left front_ring.NewPort is = absurd (true≢false (sym is ∙ port))
connected_by test words frame fence flags port left (front_ring.LeftData n) is = absurd (true≢false (sym is ∙ left n))
connected_by test words frame fence flags port left r is = refl

broken_connected : (r : FrontStage) → front_view.is_broken r ≡ true → is_connected r ≡ true
broken_connected r is = connected_by front_view.is_broken (λ k. refl) (λ page. refl) (λ page. refl) (λ page. refl) refl (λ n. refl) r is

-- and so is one whose grants are being ended
ending_connected : (page : ℕ) (r : FrontStage) → IsEndingPage page r → is_connected r ≡ true
ending_connected page (front_ring.RingRead k) fits = refl
ending_connected page (front_ring.RingEnd k seen) fits = refl
ending_connected page r fits = absurd fits

left_connected : (page : ℕ) (r : FrontStage) → IsEndingPage page r ⊎ (front_view.is_broken r ≡ true) → is_connected r ≡ true
left_connected page r (inl ending) = ending_connected page r ending
left_connected page r (inr broken) = broken_connected r broken

unported : {A : Type 0} (port : Option ℕ) → port ≡ None → IsSome port → A
unported port none some = absurd (true≢false (sym some ∙ ap is_some none))

-- a front with a port has made its ring
port_rests : (own : BusState) (gone : Bool) (port : Option ℕ) (r : FrontStage) → FrontRests own gone port r → IsSome port → is_connected r ≡ true
port_rests state.Initialising gone port r fits some = unported port fits.1 some
port_rests state.Initialised gone port r fits some = ap is_connected fits.0
port_rests state.Connected gone port r fits some = connected_by is_ready (λ k. refl) (λ page. refl) (λ page. refl) (λ page. refl) refl (λ n. refl) r fits.0
port_rests state.Closing false None r fits some = absurd (true≢false (sym some))
port_rests state.Closing false (Some p) r fits some = connected_by is_made (λ k. refl) (λ page. refl) (λ page. refl) (λ page. refl) refl (λ n. refl) r fits
port_rests state.Closing true (Some p) r fits some = ending_connected 0 r fits
port_rests state.Closing true None r fits some = absurd fits
port_rests own gone port r fits some = absurd fits

port_connected : (s : FrontBusStage) (v : FrontView) (r : FrontStage) → FrontGoesWith s v r → IsSome v.port → is_connected r ≡ true
port_connected bus.Start v r fits some = unported v.port fits.2 some
port_connected bus.Rest v r (inl fits) some = port_rests v.state v.gone v.port r fits some
port_connected bus.Rest v r (inr broken) some = broken_connected r broken
port_connected bus.ReadState v r fits some = port_rests v.state v.gone v.port r fits some
port_connected (bus.ReadFeature key) v r fits some = unported v.port fits.2 some
port_connected (bus.RingWord word) v r fits some = unported v.port fits.3 some
port_connected (bus.Grant page) v r fits some = unported v.port fits.2 some
port_connected bus.NewPort v r fits some = unported v.port fits.2 some
port_connected (bus.Publish key) v r fits some = ap is_connected fits.1
port_connected (bus.ReadFact key) v r fits some = ap is_connected fits.1
port_connected (bus.WriteState state.Initialised) v r fits some = ap is_connected fits.1
port_connected (bus.WriteState state.Connected) v r fits some = ap is_connected fits.1
port_connected (bus.WriteState state.Closed) v r fits some = unported v.port fits.2 some
port_connected (bus.WriteState own) v r fits some = absurd fits
port_connected (bus.EndGrant page) v r fits some = left_connected page r fits.1
port_connected bus.ClosePort v r fits some = ap is_connected fits.1
port_connected bus.Closed v r fits some = ap is_connected fits.1
port_connected (bus.Broken word) v r fits some = broken_connected r fits
port_connected s v r fits some = absurd fits

-- what the back maps and binds
unmap_not : (pages : List Mapping) (gref : ℕ) → unmap_ask pages ≡ bus_ask.Map gref → ⊥
unmap_not [] gref e = absurd (cc)
unmap_not (page ∷ pages) gref e = absurd (cc)

maps_at : (s : BackBusStage) (v : BackView) (gref : ℕ) → ask_at s v ≡ bus_ask.Map gref → s ≡ back_bus.MapPage
maps_at back_bus.MapPage v gref e = refl
maps_at back_bus.UnmapPage v gref e = absurd (unmap_not v.pages gref e)
maps_at back_bus.Watch v gref e = absurd (cc)
maps_at s v gref e = absurd (cc)

pub asks_map : (v : BackView) (gref : ℕ) → ask_of v ≡ bus_ask.Map gref → v.stage ≡ back_bus.MapPage
asks_map v gref e = by_test (says_closing v) e
  where
    by_test : (b : Bool) → (if b then bus_ask.SetState state.Closing else ask_at v.stage v) ≡ bus_ask.Map gref → v.stage ≡ back_bus.MapPage
    by_test true e = absurd (cc)
    by_test false e = maps_at v.stage v gref e

unbinds : (pages : List Mapping) (port : ℕ) → unmap_ask pages ≡ bus_ask.Bind port → ⊥
unbinds [] port e = absurd (cc)
unbinds (page ∷ pages) port e = absurd (cc)

binds_at : (s : BackBusStage) (v : BackView) (port : ℕ) → ask_at s v ≡ bus_ask.Bind port → (s ≡ back_bus.Bind) × (v.terms.port ≡ port)
binds_at back_bus.Bind v port e = (refl, cc)
binds_at back_bus.UnmapPage v port e = absurd (unbinds v.pages port e)
binds_at back_bus.Watch v port e = absurd (cc)
binds_at s v port e = absurd (cc)

pub asks_bind : (v : BackView) (port : ℕ) → ask_of v ≡ bus_ask.Bind port → (v.stage ≡ back_bus.Bind) × (v.terms.port ≡ port)
asks_bind v port e = by_test (says_closing v) e
  where
    by_test : (b : Bool) → (if b then bus_ask.SetState state.Closing else ask_at v.stage v) ≡ bus_ask.Bind port → (v.stage ≡ back_bus.Bind) × (v.terms.port ≡ port)
    by_test true e = absurd (cc)
    by_test false e = binds_at v.stage v port e

-- as the back maps the front has made its ring and its port
pub made_now : (w : World) (gref : ℕ) → IsFit w → Joined w → ask_of w.back ≡ bus_ask.Map gref → is_connected w.rings.front.stage ≡ true
made_now w gref fit j asks =
    let before = subst (λ (n : Negotiation). ask_of n.back ≡ bus_ask.Map gref) (sym j.stands) asks in
    let maps = maps_after_grants j.run gref before in
    let port = subst (λ (n : Negotiation). n.front.port ≡ Some n.back.terms.port) j.stands maps.port in
    port_connected w.front.stage w.front w.rings.front.stage fit.front (subst (λ (p : Option ℕ). IsSome p) (sym port) refl)

-- what the front takes a back of these features and this disk to serve
abbrev pub offered : Found → Offers
offered t = record { sectors = t.1.sectors; read_only = t.1.read_only; barrier = t.0.barrier; flush = t.0.flush; discard = t.0.discard; indirect = t.0.indirect; persistent = false }

-- when the front's end of the ring enters a state: it is connected to a connected back, whose offers it knows, and leaves and is closed after the back; it is never broken
abbrev pub IsTimely : World → FrontState → Type 0
IsTimely w (entered.Agreed order) = Unit {0}
IsTimely w (entered.Connected offers) = (bus_connected w.back.state ≡ true) × (offers ≡ offered (w.back.features, w.back.disk))
IsTimely w entered.Closing = Unit {0}
IsTimely w entered.Leaving = IsHalted w.back
IsTimely w entered.Closed = IsHalted w.back
IsTimely w (entered.Broken word) = ⊥

connects_at : (n : Negotiation) (idle : Bool) → Reached n → front_asks.ask_of n.front idle ≡ front_ask.SetState state.Connected → bus_connected n.back.state ≡ true
connects_at n idle j e =
    let connected = connects_to_connected j.run idle (subst (λ (m : Negotiation). front_asks.ask_of m.front idle ≡ front_ask.SetState state.Connected) (sym j.stands) e) in
    subst (λ (m : Negotiation). bus_connected m.back.state ≡ true) j.stands connected.0

both_all : {A : Type 0} (P : A → Type 0) (xs ys : List A) → AllByRecursion P xs → AllByRecursion P ys → AllByRecursion P (xs ++ ys)
both_all P [] ys p q = q
both_all P (x ∷ xs) ys p q = (p.0, both_all P xs ys p.1 q)

module _ (w : World) (a : FrontAct) (fit : IsFit w) (whole : front_view.is_broken w.rings.front.stage ≡ false) (j : Joined w) (turn : front_turn w ≡ Some a)
    (none : is_left w.rings.front.stage ≡ false) (says : front.speaks (front_asks.ask_of w.front (front_view.is_unoccupied w.rings.front)) ≡ true) where
  abbrev idle : Bool
  idle = front_view.is_unoccupied w.rings.front

  abbrev b : FrontBusAsk
  b = front_asks.ask_of w.front idle

  asks : front.bus_ask_of (frontend_of w) ≡ b
  asks = ap (λ (left : Bool). if left then front_ask.Wait else b) none

  told : Told b 0 w.rings.under.keys a
  told =
      keys_told b w.rings.under a says
      (subst (λ (s : Bool). front_act w.rings.under (if s then front.key_ask b else front.ring_ask (front.ring_moves b w.rings.front.stage) (frontend_of w)) ≡ Some a) says
      (subst (λ (c : FrontBusAsk). front_act w.rings.under (front.ask_at c (frontend_of w)) ≡ Some a) asks turn))

  breaks_not : (word : ℕ) → news_of w.front idle a.answer ≡ Some (news.Broken word) → ⊥
  breaks_not word e =
      let breaks = breaks_at (negotiation_of w) idle 0 word j (subst (λ (x : FrontAnswer). news_of w.front idle x ≡ Some (news.Broken word)) told.answer e) in
      true≢false (sym (closing_unoccupied w fit whole breaks.1) ∙ breaks.0)

  abbrev after : FrontView
  after = front_step.bus_after (frontend_of w) a.answer

  knows : front_asks.due w.front idle ≡ bus.WriteState state.Connected → front_step.offers_of after ≡ offered (w.back.features, w.back.disk)
  knows here =
      let done : a.answer ≡ answer.Done = told.answer ∙ ap (λ (s : FrontBusStage). front_answered (front_asks.ask_at s w.front) 0 w.rings.under.keys) here in
      let known = connects_knowing (negotiation_of w) idle j here in
      ap (λ (x : FrontAnswer). front_step.offers_of (front_step.bus_after (frontend_of w) x)) done
      ∙ ap offered (found_told w.front idle ∙ (ap (λ (f : Features). (f, w.front.disk)) known.0 ∙ ap (λ (d : DiskFacts). (w.back.features, d)) known.1))

  news_timely : (n : Option FrontNews) → news_of w.front idle a.answer ≡ n → IsNewsAt (front_asks.due w.front idle) n → AllByRecursion (IsTimely w) (front_step.states_of_news (front_step.offers_of after) n)
  news_timely None e is = tt
  news_timely (Some news.Ready) e is = ((connects_at (negotiation_of w) idle j (ap (λ (s : FrontBusStage). front_asks.ask_at s w.front) is), knows is), tt)
  news_timely (Some news.Closing) e is = (tt, tt)
  news_timely (Some news.Closed) e is = (leaves_at (negotiation_of w) idle j (subst IsLeaving (sym (ap (λ (s : FrontBusStage). front_asks.ask_at s w.front) is)) tt), tt)
  news_timely (Some (news.Broken word)) e is = absurd (breaks_not word e)

  reached : Reached (record { front = after; back = w.back; keys = a.under.keys })
  reached =
      subst (λ (s : Bool). Reached (record { front = (if s then front_step.spoken (frontend_of w) a.answer else front_step.ring_step (front.ring_moves b w.rings.front.stage) b (frontend_of w) a.answer).bus; back = w.back; keys = a.under.keys })) says
      (subst (λ (c : FrontBusAsk). Reached (record { front = (front_step.step_at c (frontend_of w) a.answer).bus; back = w.back; keys = a.under.keys })) asks
      (front_goes w a fit whole (none_in_hand w.rings.front.stage w.rings.front.ending none) j turn))

  due_timely : (c : FrontBusAsk) (order : ℕ) → front_asks.ask_of after idle ≡ c → AllByRecursion (IsTimely w) (front_step.states_due c order)
  due_timely (front_ask.WriteRingWord word) order e = (tt, tt)
  due_timely (front_ask.EndGrant page) order e = (leaves_at (record { front = after; back = w.back; keys = a.under.keys }) idle reached (subst IsLeaving (sym e) tt), tt)
  due_timely c order e = tt

  says_timely : AllByRecursion (IsTimely w) (front_step.states_after (frontend_of w) a.answer)
  says_timely =
      both_all (IsTimely w) (front_step.states_of_news (front_step.offers_of after) (news_of w.front idle a.answer)) (front_step.states_due (front_asks.ask_of after idle) (ring_order after))
      (news_timely (news_of w.front idle a.answer) refl (news_is w.front idle a.answer)) (due_timely (front_asks.ask_of after idle) (ring_order after) refl)

-- so are the states that it enters as it speaks
pub states_timely : (w : World) (a : FrontAct) → IsFit w → front_view.is_broken w.rings.front.stage ≡ false → Joined w → front_turn w ≡ Some a → front.speaks (front.bus_ask_of (frontend_of w)) ≡ true
    → AllByRecursion (IsTimely w) (front_step.states_after (frontend_of w) a.answer)
states_timely w a fit whole j turn =
    asks_cases (λ (c : FrontBusAsk). front.speaks c ≡ true → AllByRecursion (IsTimely w) (front_step.states_after (frontend_of w) a.answer)) w (λ left says. absurd (true≢false (sym says)))
    (λ none says. says_timely w a fit whole j turn none says)
