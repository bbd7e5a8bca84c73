-- The front waits in three cases alone, told from what its negotiation asks.
use Rattle.std.proofs.Common.{◌⊎◌, inl, inr, ◌≡◌, ◌∙◌, ap, sym, subst, refl, ℕ, ◌&&◌, ◌||◌, Bool, true, false, true≢false, if◌then◌else◌, length, arith}
use Rattle.std.specs.Prelude.{Option, Some, None, ◌==◌}
use Rattle.std.proofs.lemmas.Bool.Decides.{nat_tests}
use Rattle.line_text.proofs.Both.{both_true}
use Rattle.blk_base.specs.declared.ask.FrontAsk.{FrontAsk}
use Rattle.blk_base.specs.declared.ask.FrontAsk.TheVariants as front_ask
use Rattle.blk_front.specs.declared.stage.FrontStage.{FrontStage}
use Rattle.blk_front.specs.declared.stage.FrontStage.TheVariants as ring_stage
use Rattle.blk_front.specs.declared.request.Request.{Request}
use Rattle.blk_front.specs.View as ends
use Rattle.blk_front.specs.Ask as front_ring
use Rattle.ring_words.specs.Ring.{responses_of}
use Rattle.blk_front.specs.State.{is_made, is_bare}
use Rattle.blk_front.specs.Suspend.{is_left}
use Rattle.blk_front.specs.Submit.{is_ready, is_wait}
use Rattle.xenbus_state.specs.declared.state.BusState.{BusState}
use Rattle.xenbus_state.specs.declared.state.BusState.TheVariants as state
use Rattle.xenbus_state.specs.declared.stage.FrontBusStage.{FrontBusStage}
use Rattle.xenbus_state.specs.declared.stage.FrontBusStage.TheVariants as stage
use Rattle.xenbus_state.specs.declared.front.FrontBusAsk.{FrontBusAsk}
use Rattle.xenbus_state.specs.declared.front.FrontBusAsk.TheVariants as bus_ask
use Rattle.xenbus_state.specs.FrontAsk as bus
use Rattle.vbd_front.specs.View as front_view
use Rattle.vbd_front.specs.Ask as front
use Rattle.vbd_model.specs.World.{World, frontend_of}
use Rattle.vbd_model.specs.Fit.{IsEndingPage, FrontRests, IsGranting, FrontGoesWith}
use Rattle.vbd_laws.specs.Waits.{Check, Asleep, is_unserved, FrontIsOver}
use Rattle.vbd_laws.proofs.FitFrontBus.{due_cases, closing_cases, unoccupied}
use Rattle.vbd_laws.proofs.MovesTurns.{front_asks}
use Rattle.vbd_laws.proofs.FitFrontMoves.{none_left, left_moves}
use Rattle.vbd_laws.proofs.WaitsFrontRing.{StandsAt, left_asks}
use Rattle.vbd_laws.proofs.WaitsChecks.{sleeps, asleep_is, differs}
use Rattle.vbd_laws.proofs.WaitsFront.{Knows, asks_on, bus_asks_on, BusWaits, bus_waits, loop_waits, ready_waits}
use Rattle.vbd_laws.proofs.WaitsFrontStages.{broken_unleft, loops_ready, none_next, ready_moves, unlike, ending_idle}

-- its negotiation asks for nothing, and what else then is
abbrev pub bus_asks : World → FrontBusAsk
bus_asks w = bus.ask_of w.front (front_view.is_unoccupied w.rings.front)

abbrev pub Rests : World → Type 0
Rests w = bus_asks w ≡ bus_ask.Wait

pub record Sleeps (w : World) (c : Check) : Type 0 where
  pub connected : w.front.state ≡ state.Connected
  pub rests : Rests w
  pub nothing_found : c ≡ Asleep
  pub none_waits : ends.next_request w.rings.front ≡ None
  pub none_begun : front_view.is_still w.rings.front.stage ≡ true

abbrev pub MayWait : World → Check → Type 0
MayWait w c = ((is_unserved w.front.state ≡ true) × Rests w) ⊎ Sleeps w c ⊎ FrontIsOver w

module _ (w : World) (c : Check) (k : Knows w c) where
  abbrev v : front_view.View
  v = frontend_of w

  abbrev r : FrontStage
  r = w.rings.front.stage

  abbrev idle : Bool
  idle = front_view.is_unoccupied w.rings.front

  -- what it asks where its negotiation leaves the move to its end of the ring
  ring_asks : (b : FrontBusAsk) (s : FrontStage) (moves : Bool) → r ≡ s → front.speaks b ≡ false → front.ring_moves b s ≡ moves → front.ask_at b v ≡ (if moves then front_ring.ask_at s w.rings.front else front_ask.Wait)
  ring_asks b s moves here quiet does =
      ap (λ (t : Bool). if t then front.key_ask b else front.ring_ask (front.ring_moves b r) v) quiet
      ∙ (ap (λ (t : FrontStage). front.ring_ask (front.ring_moves b t) v) here ∙ (ap (λ (t : Bool). front.ring_ask t v) does ∙ by_moves moves))
    where
      by_moves : (m : Bool) → front.ring_ask m v ≡ (if m then front_ring.ask_at s w.rings.front else front_ask.Wait)
      by_moves true = ap (λ (t : FrontStage). front_ring.ask_at t w.rings.front) here
      by_moves false = refl

  moving : {A : Type 0} (b : FrontBusAsk) (s : FrontStage) → r ≡ s → front.speaks b ≡ false → front.ring_moves b s ≡ true → is_wait (front_ring.ask_at s w.rings.front) ≡ false → front.ask_at b v ≡ front_ask.Wait → A
  moving b s here quiet does on e = asks_on (front_ring.ask_at s w.rings.front) on (sym (ring_asks b s true here quiet does) ∙ e)

  -- a front whose end of the ring isn't broken waits only as its negotiation does
  abbrev Only : FrontBusStage → Type 0
  Only d = front.ask_at (bus.ask_at d w.front) v ≡ front_ask.Wait → bus.ask_at d w.front ≡ bus_ask.Wait

  ending : (page : ℕ) (s : FrontStage) → r ≡ s → IsEndingPage page s → Only (stage.EndGrant page)
  ending page (ring_stage.RingRead n) here is e = moving (bus_ask.EndGrant page) (ring_stage.RingRead n) here refl refl refl e
  ending page (ring_stage.RingEnd n seen) here is e = moving (bus_ask.EndGrant page) (ring_stage.RingEnd n seen) here refl refl refl e
  ending page s here is e = absurd is

  granting : (page : ℕ) (s : FrontStage) → r ≡ s → IsGranting page s → Only (stage.Grant page)
  granting page (ring_stage.RingFrame n) here is e = moving (bus_ask.Grant page) (ring_stage.RingFrame n) here refl refl refl e
  granting page (ring_stage.RingFence n) here is e = moving (bus_ask.Grant page) (ring_stage.RingFence n) here refl refl refl e
  granting page (ring_stage.RingFlags n) here is e = moving (bus_ask.Grant page) (ring_stage.RingFlags n) here refl refl refl e
  granting page s here is e = absurd is

  begun : (s : FrontBusStage) → FrontGoesWith s w.front r → front_view.is_broken r ≡ false → Only s
  begun stage.Start goes whole e = asks_on (front.key_ask bus_ask.Watch) refl e
  begun stage.ReadState goes whole e = asks_on (front.key_ask bus_ask.GetState) refl e
  begun (stage.ReadFeature key) goes whole e = asks_on (front.key_ask (bus_ask.GetKey key)) refl e
  begun (stage.Publish key) goes whole e = asks_on (front.key_ask (bus.ask_at (stage.Publish key) w.front)) refl e
  begun (stage.ReadFact key) goes whole e = asks_on (front.key_ask (bus_ask.GetKey key)) refl e
  begun (stage.WriteState s) goes whole e = asks_on (front.key_ask (bus_ask.SetState s)) refl e
  begun (stage.RingWord word) goes whole e = moving (bus_ask.WriteRingWord word) (ring_stage.RingWord word) goes.2 refl refl refl e
  begun (stage.Grant page) goes whole e = granting page r refl goes.1 e
  begun stage.NewPort goes whole e = moving bus_ask.NewPort ring_stage.NewPort goes.1 refl refl refl e
  begun (stage.EndGrant page) goes whole e = elim goes.1 [ inl is ↦ ending page r refl is e | inr broken ↦ absurd (true≢false (sym broken ∙ whole)) ]
  begun stage.ClosePort goes whole e = moving bus_ask.ClosePort ring_stage.ClosePort goes.1 refl refl refl e
  begun stage.EndOtherGrants goes whole e = absurd goes
  begun other goes whole e = refl

  pub rests_whole : w.front.stage ≡ stage.Rest → front_view.is_broken r ≡ false → FrontRests w.front.state w.front.gone w.front.port r
  rests_whole here whole =
      let goes : FrontGoesWith stage.Rest w.front r = subst (λ (s : FrontBusStage). FrontGoesWith s w.front r) here k.fit.front in
      elim goes [ inl rests ↦ rests | inr broken ↦ absurd (true≢false (sym broken ∙ whole)) ]

  pub only_rests : front_view.is_broken r ≡ false → front.ask_at (bus_asks w) v ≡ front_ask.Wait → bus_asks w ≡ bus_ask.Wait
  only_rests whole =
      due_cases Only w.front idle (begun w.front.stage k.fit.front whole)
      (λ here closing is_idle.
      let free = unoccupied w.rings.front is_idle in
      closing_cases Only w.front r free.still (rests_whole here whole) (λ first e. asks_on (front.key_ask (bus_ask.SetState state.Closing)) refl e) (λ own rests. leaves w.front.gone w.front.port rests))
    where
      leaves : (gone : Bool) (port : Option ℕ) → FrontRests state.Closing gone port r → Only (bus.leaving gone port)
      leaves false port rests e = refl
      leaves true None rests e = absurd rests
      leaves true (Some p) rests e = ending 0 r refl rests e

  -- connected, its end of the ring waits
  pub ready_asks : bus_asks w ≡ bus_ask.Wait → front.ask_at (bus_asks w) v ≡ front_ask.Wait → is_ready r ≡ true → front_ring.ask_at r w.rings.front ≡ front_ask.Wait
  ready_asks rests e ready = sym (ap (λ (b : FrontBusAsk). front.ask_at b v) rests ∙ ring_asks bus_ask.Wait r true refl refl (ready_moves r ready)) ∙ e

  -- it sleeps in its loop
  sleeps_so : bus_asks w ≡ bus_ask.Wait → front.ask_at (bus_asks w) v ≡ front_ask.Wait → (w.front.closing && idle) ≡ false → front_view.is_broken r ≡ false → w.front.state ≡ state.Connected → is_ready r ≡ true → MayWait w c
  sleeps_so rests e remains whole own ready =
      let asks : front_ring.ask_at r w.rings.front ≡ front_ask.Wait = ready_asks rests e ready in
      let here : r ≡ ring_stage.Loop = ready_waits r w.rings.front c ready k.ring asks in
      let looped = loop_waits w.rings.front (sym (ap (λ (t : FrontStage). front_ring.ask_at t w.rings.front) here) ∙ asks) in
      let stands = subst (λ (t : FrontStage). StandsAt t w.rings.front c) here k.ring in
      inr (inl (record { connected = own; rests = rests; nothing_found = asleep_is c (stands.0.0 ∙ slept here looped.1); none_waits = looped.0; none_begun = ap front_view.is_still here }))
    where
      -- a front that is through closes, and its negotiation with it
      slept : r ≡ ring_stage.Loop → (w.rings.front.ring.asleep || front_ring.is_through w.rings.front) ≡ true → w.rings.front.ring.asleep ≡ true
      slept here is = by_asleep w.rings.front.ring.asleep refl is
        where
          by_asleep : (a : Bool) → w.rings.front.ring.asleep ≡ a → (a || front_ring.is_through w.rings.front) ≡ true → a ≡ true
          by_asleep true a is = refl
          by_asleep false a is =
              let both = both_true w.rings.front.closing (length w.rings.front.requests == 0) is in
              let zero = both.1 in
              let none : length w.rings.front.requests ≡ 0 = grind (arith, nat_tests) in
              let free : idle ≡ true = rw (none, here) refl in
              let closes : w.front.closing ≡ true = sym (k.fit.closing whole) ∙ both.0 in
              absurd (true≢false (sym (rw (closes, free) refl) ∙ remains))

  -- at rest
  rests_may : front_view.is_broken r ≡ false → front.ask_at (bus_asks w) v ≡ front_ask.Wait → bus_asks w ≡ bus_ask.Wait → ((w.front.closing && idle) ≡ false) ⊎ ((w.front.state ≡ state.Closing) × (w.front.gone ≡ false)) → FrontRests w.front.state w.front.gone w.front.port r → MayWait w c
  rests_may whole e rests (inr closes) goes = inl (ap is_unserved closes.0, rests)
  rests_may whole e rests (inl remains) goes = by_state w.front.state refl goes
    where
      by_state : (own : BusState) → w.front.state ≡ own → FrontRests own w.front.gone w.front.port r → MayWait w c
      by_state state.Initialising own goes = inl (ap is_unserved own, rests)
      by_state state.Initialised own goes = inl (ap is_unserved own, rests)
      by_state state.Connected own goes = sleeps_so rests e remains whole own goes.0
      by_state state.Closing own goes = inl (ap is_unserved own, rests)
      by_state s own goes = absurd goes

  rests_may_wait : front.ask_at (bus_asks w) v ≡ front_ask.Wait → MayWait w c
  rests_may_wait e = by_broken (front_view.is_broken r) refl
    where
      by_bus : front_view.is_broken r ≡ false → bus_asks w ≡ bus_ask.Wait → BusWaits w.front idle → MayWait w c
      by_bus whole rests (inl at) = rests_may whole e rests at.1 (rests_whole at.0 whole)
      by_bus whole rests (inr (inl here)) = let goes : FrontGoesWith stage.Closed w.front r = subst (λ (s : FrontBusStage). FrontGoesWith s w.front r) here k.fit.front in inr (inr (inl goes.0))
      by_bus whole rests (inr (inr at)) = let goes : FrontGoesWith (stage.Broken at.0) w.front r = subst (λ (s : FrontBusStage). FrontGoesWith s w.front r) at.1 k.fit.front in absurd (true≢false (sym goes ∙ whole))

      by_broken : (b : Bool) → front_view.is_broken r ≡ b → MayWait w c
      by_broken true is = inr (inr (inr is))
      by_broken false whole = let rests = only_rests whole e in by_bus whole rests (bus_waits w.front idle rests)

  -- a front that is broken waits
  broken_at : (b : FrontBusAsk) (s : FrontStage) → r ≡ s → front_view.is_broken s ≡ true → front.speaks b ≡ false → front.ask_at b v ≡ front_ask.Wait
  broken_at b (ring_stage.Broken word) here is quiet = ring_asks b (ring_stage.Broken word) (front.ring_moves b (ring_stage.Broken word)) here quiet refl ∙ either_waits (front.ring_moves b (ring_stage.Broken word))
    where
      either_waits : (m : Bool) → (if m then front_ring.ask_at (ring_stage.Broken word) w.rings.front else front_ask.Wait) ≡ front_ask.Wait
      either_waits true = refl
      either_waits false = refl
  broken_at b s here is quiet = absurd (true≢false (sym is))

  abbrev Broken : FrontBusStage → Type 0
  Broken d = front.ask_at (bus.ask_at d w.front) v ≡ front_ask.Wait

  broken_begun : (s : FrontBusStage) → FrontGoesWith s w.front r → front_view.is_broken r ≡ true → Broken s
  broken_begun stage.Rest goes is = broken_at bus_ask.Wait r refl is refl
  broken_begun (stage.EndGrant page) goes is = broken_at (bus_ask.EndGrant page) r refl is refl
  broken_begun (stage.Broken word) goes is = broken_at bus_ask.Wait r refl is refl
  broken_begun stage.Closed goes is = broken_at bus_ask.Wait r refl is refl
  broken_begun stage.Start goes is = elim goes.1 [ inl begins ↦ unlike r (ring_stage.RingWord 0) begins refl is | inr left ↦ absurd (true≢false (sym left ∙ broken_unleft r is)) ]
  broken_begun stage.ReadState goes is = absurd (rests_unbroken w.front.state w.front.gone w.front.port r goes is)
    where
      made_unbroken : (s : FrontStage) → is_made s ≡ true → front_view.is_broken s ≡ true → ⊥
      made_unbroken ring_stage.Initialised made is = true≢false (sym is)
      made_unbroken ring_stage.Loop made is = true≢false (sym is)
      made_unbroken s made is = true≢false (sym made)

      ready_unbroken : (s : FrontStage) → is_ready s ≡ true → front_view.is_broken s ≡ true → ⊥
      ready_unbroken (ring_stage.Broken word) ready is = true≢false (sym ready)
      ready_unbroken s ready is = true≢false (sym is)

      ends_unbroken : (s : FrontStage) → IsEndingPage 0 s → front_view.is_broken s ≡ true → ⊥
      ends_unbroken (ring_stage.RingRead page) ends is = true≢false (sym is)
      ends_unbroken (ring_stage.RingEnd page seen) ends is = true≢false (sym is)
      ends_unbroken s ends is = ends

      rests_unbroken : (own : BusState) (gone : Bool) (port : Option ℕ) (s : FrontStage) → FrontRests own gone port s → front_view.is_broken s ≡ true → ⊥
      rests_unbroken state.Initialising gone port s rests is = unlike s (ring_stage.RingWord 0) rests.0 refl is
      rests_unbroken state.Initialised gone port s rests is = unlike s ring_stage.Initialised rests.0 refl is
      rests_unbroken state.Connected gone port s rests is = ready_unbroken s rests.0 is
      rests_unbroken state.Closing false None s rests is = unlike s (ring_stage.RingWord 0) rests refl is
      rests_unbroken state.Closing false (Some p) s rests is = made_unbroken s rests is
      rests_unbroken state.Closing true (Some p) s rests is = ends_unbroken s rests is
      rests_unbroken own gone port s rests is = rests
  broken_begun (stage.ReadFeature key) goes is = unlike r (ring_stage.RingWord 0) goes.1 refl is
  broken_begun (stage.RingWord word) goes is = unlike r (ring_stage.RingWord word) goes.2 refl is
  broken_begun (stage.Grant page) goes is = absurd (by_ring r goes.1 is)
    where
      by_ring : (s : FrontStage) → IsGranting page s → front_view.is_broken s ≡ true → ⊥
      by_ring (ring_stage.RingFrame n) grants is = true≢false (sym is)
      by_ring (ring_stage.RingFence n) grants is = true≢false (sym is)
      by_ring (ring_stage.RingFlags n) grants is = true≢false (sym is)
      by_ring s grants is = grants
  broken_begun stage.NewPort goes is = unlike r ring_stage.NewPort goes.1 refl is
  broken_begun (stage.Publish key) goes is = unlike r ring_stage.Initialised goes.1 refl is
  broken_begun (stage.ReadFact key) goes is = unlike r ring_stage.Initialised goes.1 refl is
  broken_begun (stage.WriteState state.Initialised) goes is = unlike r ring_stage.Initialised goes.1 refl is
  broken_begun (stage.WriteState state.Connected) goes is = unlike r ring_stage.Initialised goes.1 refl is
  broken_begun (stage.WriteState state.Closed) goes is = absurd (by_ring r goes.1 is)
    where
      by_ring : (s : FrontStage) → is_bare s ≡ true → front_view.is_broken s ≡ true → ⊥
      by_ring (ring_stage.Broken word) bare is = true≢false (sym bare)
      by_ring s bare is = true≢false (sym is)
  broken_begun stage.ClosePort goes is = unlike r ring_stage.ClosePort goes.1 refl is
  broken_begun other goes is = absurd goes

  pub broken_waits : front_view.is_broken r ≡ true → front.ask_at (bus_asks w) v ≡ front_ask.Wait
  broken_waits is = due_cases Broken w.front idle (broken_begun w.front.stage k.fit.front is) (λ here closing is_idle. let free = unoccupied w.rings.front is_idle in absurd (true≢false (sym is ∙ free.whole)))

  -- one that is closed does
  closed_at : (s : FrontBusStage) → w.front.stage ≡ s → FrontGoesWith s w.front r → front_view.is_broken r ≡ false → w.front.state ≡ state.Closed → front.ask_at (bus_asks w) v ≡ front_ask.Wait
  closed_at stage.Closed here goes whole own =
      ap (λ (s : FrontBusStage). front.ask_at (bus.ask_at (bus.due_at s w.front idle) w.front) v) here ∙ ring_asks bus_ask.Wait ring_stage.Closed true goes.1 refl refl
  closed_at (stage.Broken word) here goes whole own = absurd (true≢false (sym goes ∙ whole))
  closed_at stage.Rest here goes whole own = absurd (subst (λ (s : BusState). FrontRests s w.front.gone w.front.port r) own (rests_whole here whole))
  closed_at stage.ReadState here goes whole own = absurd (subst (λ (s : BusState). FrontRests s w.front.gone w.front.port r) own goes)
  closed_at (stage.ReadFact key) here goes whole own = differs w.front.state state.Initialised own goes.0 refl
  closed_at (stage.WriteState state.Initialised) here goes whole own = differs w.front.state state.Initialising own goes.0 refl
  closed_at (stage.WriteState state.Connected) here goes whole own = differs w.front.state state.Initialised own goes.0 refl
  closed_at (stage.WriteState state.Closed) here goes whole own = differs w.front.state state.Closing own goes.0 refl
  closed_at (stage.WriteState s) here goes whole own = absurd goes
  closed_at (stage.EndGrant page) here goes whole own = differs w.front.state state.Closing own goes.0 refl
  closed_at stage.ClosePort here goes whole own = differs w.front.state state.Closing own goes.0 refl
  closed_at stage.EndOtherGrants here goes whole own = absurd goes
  closed_at other here goes whole own = differs w.front.state state.Initialising own goes.0 refl

  -- and one whose negotiation rests, where nothing is served
  unserved_at : (own : BusState) (gone : Bool) (port : Option ℕ) (s : FrontStage) → r ≡ s → w.front.state ≡ own → is_unserved own ≡ true → (own ≡ state.Closing → gone ≡ false) → FrontRests own gone port s → front.ask_at bus_ask.Wait v ≡ front_ask.Wait
  unserved_at state.Initialising gone port s here own is remains rests = ring_asks bus_ask.Wait (ring_stage.RingWord 0) false (here ∙ rests.0) refl refl
  unserved_at state.Initialised gone port s here own is remains rests = ring_asks bus_ask.Wait ring_stage.Initialised true (here ∙ rests.0) refl refl
  unserved_at state.Closing true port s here own is remains rests = absurd (true≢false (remains refl))
  unserved_at state.Closing false None s here own is remains rests = ring_asks bus_ask.Wait (ring_stage.RingWord 0) false (here ∙ rests) refl refl
  unserved_at state.Closing false (Some p) ring_stage.Initialised here own is remains rests = ring_asks bus_ask.Wait ring_stage.Initialised true here refl refl
  unserved_at state.Closing false (Some p) ring_stage.Loop here own is remains rests =
      let through : front_ring.is_through w.rings.front ≡ true = k.fit.through own (ap front_view.is_broken here) in
      let none = (both_true w.rings.front.closing (length w.rings.front.requests == 0) through).1 in
      ring_asks bus_ask.Wait ring_stage.Loop true here refl refl
      ∙ (ap (λ (next : Option Request). front_ring.loop_ask w.rings.front next) (none_next w.rings.front none) ∙ sleeping w.rings.front.ring.asleep (front_ring.is_through w.rings.front) _ through)
    where
      sleeping : (a b : Bool) (other : FrontAsk) → b ≡ true → (if a || b then front_ask.Wait else other) ≡ front_ask.Wait
      sleeping true b other is = refl
      sleeping false true other is = refl
      sleeping false false other is = absurd (true≢false (sym is))
  unserved_at state.Closing false (Some p) s here own is remains rests = absurd (true≢false (sym rests))
  unserved_at own gone port s here at is remains rests = absurd (true≢false (sym is))

  -- as it sleeps
  asleep_waits : bus_asks w ≡ bus_ask.Wait → c ≡ Asleep → ends.next_request w.rings.front ≡ None → r ≡ ring_stage.Loop → front.ask_at (bus_asks w) v ≡ front_ask.Wait
  asleep_waits rests found none here =
      let stands = subst (λ (t : FrontStage). StandsAt t w.rings.front c) here k.ring in
      let asleep : w.rings.front.ring.asleep ≡ true = sym stands.0.0 ∙ ap sleeps found in
      ap (λ (b : FrontBusAsk). front.ask_at b v) rests
      ∙ (ring_asks bus_ask.Wait ring_stage.Loop true here refl refl ∙ (ap (λ (next : Option Request). front_ring.loop_ask w.rings.front next) none ∙ sleeping w.rings.front.ring.asleep asleep))
    where
      sleeping : (a : Bool) → a ≡ true → (if a || front_ring.is_through w.rings.front then front_ask.Wait else (if responses_of w.rings.front.ring.indices w.rings.front.ring.seen == 0 then front_ask.Read ends.ring_frame 2 else front_ask.Read (ends.slot_frame w.rings.front.shape w.rings.front.ring.indices.cons 0) (ends.slot_word w.rings.front.shape w.rings.front.ring.indices.cons 0))) ≡ front_ask.Wait
      sleeping true is = refl
      sleeping false is = absurd (true≢false (sym is))

  rests_wait : MayWait w c → front.ask_at (bus_asks w) v ≡ front_ask.Wait
  rests_wait may = by_broken (front_view.is_broken r) refl may
    where
      at_rest : front_view.is_broken r ≡ false → bus_asks w ≡ bus_ask.Wait → is_unserved w.front.state ≡ true → BusWaits w.front idle → front.ask_at (bus_asks w) v ≡ front_ask.Wait
      at_rest whole rests is (inl at) =
          ap (λ (b : FrontBusAsk). front.ask_at b v) rests
          ∙ unserved_at w.front.state w.front.gone w.front.port r refl refl is (λ own. remains own at.1) (rests_whole at.0 whole)
        where
          remains : w.front.state ≡ state.Closing → ((w.front.closing && idle) ≡ false) ⊎ ((w.front.state ≡ state.Closing) × (w.front.gone ≡ false)) → w.front.gone ≡ false
          remains own (inr closes) = closes.1
          remains own (inl still) = by_gone w.front.gone w.front.port refl (subst (λ (s : BusState). FrontRests s w.front.gone w.front.port r) own (rests_whole at.0 whole))
            where
              through : front_ring.is_through w.rings.front ≡ true
              through = k.fit.through own whole

              by_gone : (gone : Bool) (port : Option ℕ) → w.front.gone ≡ gone → FrontRests state.Closing gone port r → w.front.gone ≡ false
              by_gone false port g rests = g
              by_gone true None g rests = absurd rests
              by_gone true (Some p) g rests =
                  let closes : w.front.closing ≡ true = sym (k.fit.closing whole) ∙ (both_true w.rings.front.closing (length w.rings.front.requests == 0) through).0 in
                  let unoccupied_is : idle ≡ true = ending_idle w.rings.front r refl rests through in
                  absurd (true≢false (sym (rw (closes, unoccupied_is) refl) ∙ still))
      at_rest whole rests is (inr (inl here)) = let goes : FrontGoesWith stage.Closed w.front r = subst (λ (s : FrontBusStage). FrontGoesWith s w.front r) here k.fit.front in absurd (true≢false (sym is ∙ ap is_unserved goes.0))
      at_rest whole rests is (inr (inr at)) = let goes : FrontGoesWith (stage.Broken at.0) w.front r = subst (λ (s : FrontBusStage). FrontGoesWith s w.front r) at.1 k.fit.front in absurd (true≢false (sym goes ∙ whole))

      ready_at : front_view.is_broken r ≡ false → w.front.state ≡ state.Connected → BusWaits w.front idle → is_ready r ≡ true
      ready_at whole own (inl at) = let rests = subst (λ (s : BusState). FrontRests s w.front.gone w.front.port r) own (rests_whole at.0 whole) in rests.0
      ready_at whole own (inr (inl here)) = let goes : FrontGoesWith stage.Closed w.front r = subst (λ (s : FrontBusStage). FrontGoesWith s w.front r) here k.fit.front in differs w.front.state state.Connected goes.0 own refl
      ready_at whole own (inr (inr at)) = let goes : FrontGoesWith (stage.Broken at.0) w.front r = subst (λ (s : FrontBusStage). FrontGoesWith s w.front r) at.1 k.fit.front in absurd (true≢false (sym goes ∙ whole))

      by_broken : (b : Bool) → front_view.is_broken r ≡ b → MayWait w c → front.ask_at (bus_asks w) v ≡ front_ask.Wait
      by_broken true is may = broken_waits is
      by_broken false whole (inl may) = at_rest whole may.1 may.0 (bus_waits w.front idle may.1)
      by_broken false whole (inr (inl may)) = asleep_waits may.rests may.nothing_found may.none_waits (loops_ready r (ready_at whole may.connected (bus_waits w.front idle may.rests)) may.none_begun)
      by_broken false whole (inr (inr (inl own))) = closed_at w.front.stage refl k.fit.front whole own
      by_broken false whole (inr (inr (inr is))) = broken_waits is

  -- where no data are left after a suspend, which are read at once, it asks as its negotiation has it
  pub asks_same : is_left r ≡ false → front_asks w ≡ bus_asks w
  asks_same none = ap (λ (b : Bool). if b then bus_ask.Wait else bus_asks w) none

  pub same_ask : is_left r ≡ false → front.ask_of v ≡ front.ask_at (bus_asks w) v
  same_ask none = ap (λ (b : FrontBusAsk). front.ask_at b v) (asks_same none)

  pub left_busy : is_left r ≡ true → front.ask_of v ≡ front_ask.Wait → ⊥
  left_busy left e =
      left_asks r w.rings.front c left k.ring
      (sym (ap (λ (b : FrontBusAsk). front.ask_at b v) (ap (λ (b : Bool). if b then bus_ask.Wait else bus_asks w) left) ∙ ring_asks bus_ask.Wait r true refl refl (left_moves r left)) ∙ e)

  pub may_wait : front.ask_of v ≡ front_ask.Wait → MayWait w c
  may_wait e = by_left (is_left r) refl
    where
      by_left : (b : Bool) → is_left r ≡ b → MayWait w c
      by_left true left = absurd (left_busy left e)
      by_left false none = rests_may_wait (sym (same_ask none) ∙ e)

  begun_unleft : (w.front.stage ≡ stage.Start → ⊥) → is_left r ≡ false
  begun_unleft other = none_left w.front.stage w.front r k.fit.front other

  pub rests_unleft : bus_asks w ≡ bus_ask.Wait → is_left r ≡ false
  rests_unleft rests = begun_unleft (λ here. bus_asks_on bus_ask.Watch refl (sym (ap (λ (s : FrontBusStage). bus.ask_at (bus.due_at s w.front idle) w.front) here) ∙ rests))

  unleft : MayWait w c → is_left r ≡ false
  unleft (inl may) = rests_unleft may.1
  unleft (inr (inl may)) = rests_unleft may.rests
  unleft (inr (inr (inl own))) = begun_unleft (λ here. let goes : FrontGoesWith stage.Start w.front r = subst (λ (s : FrontBusStage). FrontGoesWith s w.front r) here k.fit.front in differs w.front.state state.Initialising own goes.0 refl)
  unleft (inr (inr (inr is))) = broken_unleft r is

  pub waits : MayWait w c → front.ask_of v ≡ front_ask.Wait
  waits may = same_ask (unleft may) ∙ rests_wait may
