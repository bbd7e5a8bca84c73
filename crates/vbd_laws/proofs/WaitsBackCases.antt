-- The back waits in three cases alone, told from what its negotiation asks.
use Rattle.std.proofs.Common.{◌⊎◌, inl, inr, ◌≡◌, ◌∙◌, ap, sym, subst, refl, ◌<◌, ◌&&◌, Bool, true, false, true≢false, if◌then◌else◌, List, [], ◌∷◌, length, arith}
use Rattle.std.specs.Prelude.{Option, Some, None, ◌==◌}
use Rattle.blk_base.specs.declared.parts.Mapping.{Mapping}
use Rattle.blk_base.specs.declared.ask.BackAsk.{BackAsk}
use Rattle.blk_base.specs.declared.ask.BackAsk.TheVariants as back_ask
use Rattle.ring_words.specs.Ring.{requests_of}
use Rattle.blk_back.specs.declared.stage.Reply.{Reply}
use Rattle.blk_back.specs.declared.stage.BackStage.{BackStage}
use Rattle.blk_back.specs.declared.stage.BackStage.TheVariants as ring_stage
use Rattle.blk_back.specs.View as ends
use Rattle.blk_back.specs.Ask as back_ring
use Rattle.blk_back.specs.Ask.{is_wait}
use Rattle.xenbus_state.specs.declared.state.BusState.{BusState}
use Rattle.xenbus_state.specs.declared.state.BusState.TheVariants as state
use Rattle.xenbus_state.specs.States.{state_number}
use Rattle.xenbus_state.specs.declared.stage.BackBusStage.{BackBusStage}
use Rattle.xenbus_state.specs.declared.stage.BackBusStage.TheVariants as stage
use Rattle.xenbus_state.specs.declared.back.BackBusAsk.{BackBusAsk}
use Rattle.xenbus_state.specs.declared.back.BackBusAsk.TheVariants as bus_ask
use Rattle.xenbus_state.specs.BackView.{BackView}
use Rattle.xenbus_state.specs.BackSound.{IsPlaced}
use Rattle.xenbus_state.specs.BackAsk as bus
use Rattle.vbd_back.specs.View as back_view
use Rattle.vbd_back.specs.Ask as back
use Rattle.vbd_model.specs.World.{World, backend_of}
use Rattle.vbd_model.specs.Fit.{is_serving as serves_ring, BackRests, BackReads, IsAborting, IsUnmapping, BackGoesWith}
use Rattle.vbd_laws.specs.Waits.{Check, Asleep, is_serving}
use Rattle.vbd_laws.proofs.MovesTurns.{back_asks, back_key_asks, within_moves}
use Rattle.vbd_laws.proofs.WaitsChecks.{sleeps, asleep_is, differs}
use Rattle.vbd_laws.proofs.WaitsBackRing.{Sees}
use Rattle.vbd_laws.proofs.WaitsBack.{Knows}

-- its negotiation asks for nothing, and what else then is
abbrev pub Rests : World → Type 0
Rests w = back_asks w ≡ bus_ask.Wait

pub record Sleeps (w : World) (c : Check) : Type 0 where
  pub serves : is_serving w.back.state ≡ true
  pub rests : Rests w
  pub nothing_found : c ≡ Asleep
  pub none_done : back_ring.next_reply w.rings.back ≡ None
  pub none_begun : back.is_between w.rings.back.stage ≡ true

abbrev pub MayWait : World → Check → Type 0
MayWait w c = ((w.back.state ≡ state.InitWait) × Rests w) ⊎ Sleeps w c ⊎ (w.back.state ≡ state.Closed)

-- an ask that is no wait
pub asks_on : {A : Type 0} (a : BackAsk) → is_wait a ≡ false → a ≡ back_ask.Wait → A
asks_on a on e = absurd (true≢false (sym (ap is_wait e) ∙ on))

pub bus_asks_on : {A : Type 0} (b : BackBusAsk) → back_view.rests b ≡ false → b ≡ bus_ask.Wait → A
bus_asks_on b on e = absurd (true≢false (sym (ap back_view.rests e) ∙ on))

above : {A : Type 0} (b : BusState) → b ≡ state.Closed → state_number b < 6 → A
above b own low = absurd (let six : state_number b ≡ 6 = ap state_number own in omega (arith, six, low))

-- where its negotiation asks for nothing it rests, has halted, or unmaps no page
abbrev pub BusWaits : BackView → Type 0
BusWaits b = ((b.stage ≡ stage.Rest) × (bus.says_closing b ≡ false)) ⊎ (b.stage ≡ stage.Halted) ⊎ ((b.stage ≡ stage.UnmapPage) × (b.pages ≡ []))

unmaps_none : (pages : List Mapping) → bus.unmap_ask pages ≡ bus_ask.Wait → pages ≡ []
unmaps_none [] e = refl
unmaps_none (page ∷ pages) e = bus_asks_on (bus_ask.Unmap page) refl e

pub bus_waits : (b : BackView) → bus.ask_of b ≡ bus_ask.Wait → BusWaits b
bus_waits b e = by_test (bus.says_closing b) refl e
  where
    by_stage : (s : BackBusStage) → b.stage ≡ s → bus.says_closing b ≡ false → bus.ask_at s b ≡ bus_ask.Wait → BusWaits b
    by_stage stage.Rest here says e = inl (here, says)
    by_stage stage.Halted here says e = inr (inl here)
    by_stage stage.UnmapPage here says e = inr (inr (here, unmaps_none b.pages e))
    by_stage (stage.Publish key) here says e = bus_asks_on (bus.ask_at (stage.Publish key) b) refl e
    by_stage (stage.WriteState s) here says e = bus_asks_on (bus_ask.SetState s) refl e
    by_stage stage.Watch here says e = bus_asks_on bus_ask.Watch refl e
    by_stage stage.ReadState here says e = bus_asks_on bus_ask.GetState refl e
    by_stage (stage.ReadKey key) here says e = bus_asks_on (bus_ask.GetKey key) refl e
    by_stage (stage.PublishFact key) here says e = bus_asks_on (bus.ask_at (stage.PublishFact key) b) refl e
    by_stage stage.UnmapOthers here says e = bus_asks_on bus_ask.UnmapOthers refl e
    by_stage stage.ClosePort here says e = bus_asks_on bus_ask.ClosePort refl e
    by_stage other here says e = bus_asks_on (bus.ask_at other b) refl e

    by_test : (says : Bool) → bus.says_closing b ≡ says → (if says then bus_ask.SetState state.Closing else bus.ask_at b.stage b) ≡ bus_ask.Wait → BusWaits b
    by_test true says e = bus_asks_on (bus_ask.SetState state.Closing) refl e
    by_test false says e = by_stage b.stage refl says e

-- a back that serves waits in its loop alone
loop_waits : (f : ends.View) → back_ring.loop_ask f (back_ring.next_reply f) ≡ back_ask.Wait → (back_ring.next_reply f ≡ None) × (f.ring.asleep ≡ true)
loop_waits f e = by_next (back_ring.next_reply f) refl e
  where
    by_none : (waits none : Bool) → f.ring.asleep ≡ waits → (if waits then back_ask.Wait else (if none then back_ring.index_ask f 0 else back_ring.entry_ask f 0)) ≡ back_ask.Wait → f.ring.asleep ≡ true
    by_none true none t e = t
    by_none false true t e = asks_on _ refl e
    by_none false false t e = asks_on _ refl e

    by_next : (next : Option Reply) → back_ring.next_reply f ≡ next → back_ring.loop_ask f next ≡ back_ask.Wait → (back_ring.next_reply f ≡ None) × (f.ring.asleep ≡ true)
    by_next (Some r) n e = asks_on (back_ring.reply_ask f r 0) refl e
    by_next None n e = (n, by_none f.ring.asleep (requests_of f.ring.indices f.ring.seen == 0) refl e)

serving_waits : (s : BackStage) (f : ends.View) → serves_ring s ≡ true → back_ring.ask_at s f ≡ back_ask.Wait → s ≡ ring_stage.Loop
serving_waits ring_stage.Loop f serves e = refl
serving_waits (ring_stage.Fetch k) f serves e = asks_on _ refl e
serving_waits (ring_stage.ReplyHigh r) f serves e = asks_on _ refl e
serving_waits (ring_stage.ReplyLast r) f serves e = asks_on _ refl e
serving_waits (ring_stage.Producer r) f serves e = asks_on _ refl e
serving_waits (ring_stage.ProducerFence old) f serves e = asks_on _ refl e
serving_waits (ring_stage.ResponseEvent old) f serves e = asks_on _ refl e
serving_waits ring_stage.Send f serves e = asks_on _ refl e
serving_waits ring_stage.StoreEvent f serves e = asks_on _ refl e
serving_waits ring_stage.EventFence f serves e = asks_on _ refl e
serving_waits ring_stage.LookAgain f serves e = asks_on _ refl e
serving_waits s f serves e = absurd (true≢false (sym serves))

serving_moves : (s : BackStage) → serves_ring s ≡ true → back.ring_moves bus_ask.Wait s ≡ true
serving_moves ring_stage.InitWait serves = absurd (true≢false (sym serves))
serving_moves ring_stage.MapRing serves = absurd (true≢false (sym serves))
serving_moves ring_stage.Bind serves = absurd (true≢false (sym serves))
serving_moves s serves = refl

-- an end of the ring that is within a step asks for more than a wait
within_asks : (s : BackStage) (f : ends.View) → back.is_between s ≡ false → is_wait (back_ring.ask_at s f) ≡ false
within_asks (ring_stage.Fetch k) f within = refl
within_asks (ring_stage.ReplyHigh r) f within = refl
within_asks (ring_stage.ReplyLast r) f within = refl
within_asks (ring_stage.Producer r) f within = refl
within_asks (ring_stage.ProducerFence old) f within = refl
within_asks (ring_stage.ResponseEvent old) f within = refl
within_asks ring_stage.Send f within = refl
within_asks s f within = absurd (true≢false within)

-- between two steps and asleep, one that serves is in its loop
loops : (s : BackStage) (c : Check) (asleep : Bool) → serves_ring s ≡ true → back.is_between s ≡ true → c ≡ Asleep → Sees s c asleep → s ≡ ring_stage.Loop
loops ring_stage.Loop c asleep serves between found is = refl
loops ring_stage.StoreEvent c asleep serves between found is = absurd (true≢false (sym (ap sleeps found) ∙ is.1))
loops ring_stage.EventFence c asleep serves between found is = absurd (true≢false (sym (ap sleeps found) ∙ ap sleeps is.1))
loops ring_stage.LookAgain c asleep serves between found is = absurd (true≢false (sym (ap sleeps found) ∙ ap sleeps is.1))
loops (ring_stage.Fetch n) c asleep serves between found is = absurd (true≢false (sym between))
loops (ring_stage.ReplyHigh n) c asleep serves between found is = absurd (true≢false (sym between))
loops (ring_stage.ReplyLast n) c asleep serves between found is = absurd (true≢false (sym between))
loops (ring_stage.Producer n) c asleep serves between found is = absurd (true≢false (sym between))
loops (ring_stage.ProducerFence n) c asleep serves between found is = absurd (true≢false (sym between))
loops (ring_stage.ResponseEvent n) c asleep serves between found is = absurd (true≢false (sym between))
loops ring_stage.Send c asleep serves between found is = absurd (true≢false (sym between))
loops s c asleep serves between found is = absurd (true≢false (sym serves))

module _ (w : World) (c : Check) (k : Knows w c) where
  abbrev v : back_view.View
  v = backend_of w

  abbrev r : BackStage
  r = w.rings.back.stage

  -- what it asks where its negotiation leaves the move to its end of the ring
  ring_asks : (b : BackBusAsk) (s : BackStage) (moves : Bool) → r ≡ s → back.bus_moves b s ≡ false → back.ring_moves b s ≡ moves → back.ask_at b v ≡ (if moves then back_ring.ask_at s w.rings.back else back_ask.Wait)
  ring_asks b s moves here quiet does =
      ap (λ (t : BackStage). if back.bus_moves b t then back.key_ask b else back.ring_ask (back.ring_moves b t) v) here
      ∙ (ap (λ (t : Bool). if t then back.key_ask b else back.ring_ask (back.ring_moves b s) v) quiet ∙ (ap (λ (t : Bool). back.ring_ask t v) does ∙ by_moves moves))
    where
      by_moves : (m : Bool) → back.ring_ask m v ≡ (if m then back_ring.ask_at s w.rings.back else back_ask.Wait)
      by_moves true = ap (λ (t : BackStage). back_ring.ask_at t w.rings.back) here
      by_moves false = refl

  moving : {A : Type 0} (b : BackBusAsk) (s : BackStage) → r ≡ s → back.bus_moves b s ≡ false → back.ring_moves b s ≡ true → is_wait (back_ring.ask_at s w.rings.back) ≡ false → back.ask_at b v ≡ back_ask.Wait → A
  moving b s here quiet does on e = asks_on (back_ring.ask_at s w.rings.back) on (sym (ring_asks b s true here quiet does) ∙ e)

  -- a negotiation that speaks has the move, or its end of the ring is within a step
  speaking : {A : Type 0} (b : BackBusAsk) → back.speaks b ≡ true → back.ask_at b v ≡ back_ask.Wait → A
  speaking {A = A} b says e = by_between (back.is_between r) refl
    where
      moves_is : (between : Bool) → back.is_between r ≡ between → back.bus_moves b r ≡ between
      moves_is between is = ap (λ (t : Bool). t && back.is_between r) says ∙ is

      by_between : (between : Bool) → back.is_between r ≡ between → A
      by_between true is = asks_on (back.key_ask b) (back_key_asks b says) (sym (ap (λ (t : Bool). if t then back.key_ask b else back.ring_ask (back.ring_moves b r) v) (moves_is true is)) ∙ e)
      by_between false is = moving b r refl (moves_is false is) (within_moves b r says is) (within_asks r w.rings.back is) e

  abbrev Only : BackBusStage → Type 0
  Only s = back.ask_at (bus.ask_at s w.back) v ≡ back_ask.Wait → bus.ask_at s w.back ≡ bus_ask.Wait

  giving : (s : BackStage) → r ≡ s → IsAborting s → Only stage.UnmapOthers
  giving (ring_stage.Abort m) here is e = moving bus_ask.UnmapOthers (ring_stage.Abort m) here refl refl refl e
  giving s here is e = absurd is

  unmapping : (s : BackStage) (pages : List Mapping) → r ≡ s → w.back.pages ≡ pages → IsUnmapping s → 0 < length pages → back.ask_at (bus.unmap_ask pages) v ≡ back_ask.Wait → bus.unmap_ask pages ≡ bus_ask.Wait
  unmapping s [] here same is some e = refl
  unmapping ring_stage.UnmapRing (page ∷ pages) here same is some e =
      moving (bus_ask.Unmap page) ring_stage.UnmapRing here refl refl (ap (λ (ps : List Mapping). is_wait (back_ring.unmap_ask ps)) (k.fit.pages ∙ same)) e
  unmapping ring_stage.UnmapUnbound (page ∷ pages) here same is some e =
      moving (bus_ask.Unmap page) ring_stage.UnmapUnbound here refl refl (ap (λ (ps : List Mapping). is_wait (back_ring.unmap_ask ps)) (k.fit.pages ∙ same)) e
  unmapping s (page ∷ pages) here same is some e = absurd is

  begun : (s : BackBusStage) → BackGoesWith s w.back.state r → IsPlaced s w.back → Only s
  begun (stage.Publish key) goes placed e = speaking (bus.ask_at (stage.Publish key) w.back) refl e
  begun (stage.WriteState s) goes placed e = speaking (bus_ask.SetState s) refl e
  begun stage.Watch goes placed e = speaking bus_ask.Watch refl e
  begun stage.ReadState goes placed e = speaking bus_ask.GetState refl e
  begun (stage.ReadKey key) goes placed e = speaking (bus_ask.GetKey key) refl e
  begun (stage.PublishFact key) goes placed e = speaking (bus.ask_at (stage.PublishFact key) w.back) refl e
  begun stage.MapPage goes placed e = moving (bus.ask_at stage.MapPage w.back) ring_stage.MapRing goes.1 refl refl refl e
  begun stage.Bind goes placed e = moving (bus.ask_at stage.Bind w.back) ring_stage.Bind goes.1 refl refl refl e
  begun stage.UnmapOthers goes placed e = giving r refl goes e
  begun stage.UnmapPage goes placed e = unmapping r w.back.pages refl refl goes placed.1 e
  begun stage.ClosePort goes placed e = moving bus_ask.ClosePort ring_stage.ClosePort goes refl refl refl e
  begun other goes placed e = refl

  pub only_rests : back.ask_of v ≡ back_ask.Wait → back_asks w ≡ bus_ask.Wait
  only_rests = by_test (bus.says_closing w.back)
    where
      by_test : (says : Bool) → back.ask_at (if says then bus_ask.SetState state.Closing else bus.ask_at w.back.stage w.back) v ≡ back_ask.Wait → (if says then bus_ask.SetState state.Closing else bus.ask_at w.back.stage w.back) ≡ bus_ask.Wait
      by_test true e = speaking (bus_ask.SetState state.Closing) refl e
      by_test false e = begun w.back.stage k.fit.back k.fit.sound.placed e

  pub rests_so : w.back.stage ≡ stage.Rest → BackRests w.back.state r
  rests_so here = subst (λ (s : BackBusStage). BackGoesWith s w.back.state r) here k.fit.back

  sleeps_so : back_asks w ≡ bus_ask.Wait → back.ask_of v ≡ back_ask.Wait → is_serving w.back.state ≡ true → serves_ring r ≡ true → MayWait w c
  sleeps_so rests e serves ring =
      let asks : back_ring.ask_at r w.rings.back ≡ back_ask.Wait = sym (ap (λ (b : BackBusAsk). back.ask_at b v) rests ∙ ring_asks bus_ask.Wait r true refl refl (serving_moves r ring)) ∙ e in
      let here : r ≡ ring_stage.Loop = serving_waits r w.rings.back ring asks in
      let looped = loop_waits w.rings.back (sym (ap (λ (t : BackStage). back_ring.ask_at t w.rings.back) here) ∙ asks) in
      let sees = subst (λ (t : BackStage). Sees t c w.rings.back.ring.asleep) here k.ring in
      inr (inl (record { serves = serves; rests = rests; nothing_found = asleep_is c (sees.0 ∙ looped.1); none_done = looped.0; none_begun = ap back.is_between here }))

  pub unmaps_some : {A : Type 0} → w.back.stage ≡ stage.UnmapPage → w.back.pages ≡ [] → A
  unmaps_some here none =
      let placed : IsPlaced stage.UnmapPage w.back = subst (λ (s : BackBusStage). IsPlaced s w.back) here k.fit.sound.placed in
      let some = placed.1 in
      let zero : length w.back.pages ≡ 0 = ap length none in
      absurd (omega (arith, some, zero))

  pub closed_so : w.back.stage ≡ stage.Halted → w.back.state ≡ state.Closed
  closed_so here = (subst (λ (s : BackBusStage). BackGoesWith s w.back.state r) here k.fit.back).0

  pub may_wait : back.ask_of v ≡ back_ask.Wait → MayWait w c
  may_wait e = by_bus (only_rests e) (bus_waits w.back (only_rests e))
    where
      by_state : (own : BusState) → w.back.state ≡ own → back_asks w ≡ bus_ask.Wait → BackRests own r → MayWait w c
      by_state state.InitWait own rests goes = inl (own, rests)
      by_state state.Connected own rests goes = sleeps_so rests e (ap is_serving own) goes
      by_state state.Closing own rests goes = sleeps_so rests e (ap is_serving own) goes
      by_state s own rests goes = absurd goes

      by_bus : back_asks w ≡ bus_ask.Wait → BusWaits w.back → MayWait w c
      by_bus rests (inl at) = by_state w.back.state refl rests (rests_so at.0)
      by_bus rests (inr (inl here)) = inr (inr (closed_so here))
      by_bus rests (inr (inr at)) = unmaps_some at.0 at.1

  -- a back that is closed waits
  halted_waits : w.back.stage ≡ stage.Halted → back.ask_of v ≡ back_ask.Wait
  halted_waits here =
      let stands : r ≡ ring_stage.Halted = (subst (λ (s : BackBusStage). BackGoesWith s w.back.state r) here k.fit.back).1 in
      let asks : back_asks w ≡ bus_ask.Wait = ap (λ (s : BackBusStage). if w.back.unplugged && bus.says_closing_at s w.back.state then bus_ask.SetState state.Closing else bus.ask_at s w.back) here ∙ never w.back.unplugged in
      ap (λ (b : BackBusAsk). back.ask_at b v) asks ∙ ring_asks bus_ask.Wait ring_stage.Halted true stands refl refl
    where
      never : (unplugged : Bool) → (if unplugged && false then bus_ask.SetState state.Closing else bus_ask.Wait) ≡ bus_ask.Wait
      never true = refl
      never false = refl

  closed_at : (s : BackBusStage) → w.back.stage ≡ s → BackGoesWith s w.back.state r → IsPlaced s w.back → w.back.state ≡ state.Closed → back.ask_of v ≡ back_ask.Wait
  closed_at stage.Halted here goes placed own = halted_waits here
  closed_at (stage.Publish key) here goes placed own = differs w.back.state state.Initialising own goes.0 refl
  closed_at (stage.WriteState state.InitWait) here goes placed own = differs w.back.state state.Initialising own goes.0 refl
  closed_at (stage.WriteState state.Connected) here goes placed own = differs w.back.state state.InitWait own goes.0 refl
  closed_at (stage.WriteState state.Closing) here goes placed own = above w.back.state own (let low = placed.0 in omega (arith, low))
  closed_at (stage.WriteState state.Closed) here goes placed own = differs w.back.state state.Closing own goes.0 refl
  closed_at (stage.WriteState s) here goes placed own = absurd goes
  closed_at stage.Rest here goes placed own = absurd (subst (λ (s : BusState). BackRests s r) own goes)
  closed_at stage.ReadState here goes placed own = absurd (subst (λ (s : BusState). BackReads s r) own goes)
  closed_at (stage.ReadKey key) here goes placed own = differs w.back.state state.InitWait own placed.0 refl
  closed_at stage.UnmapOthers here goes placed own = above w.back.state own placed
  closed_at stage.UnmapPage here goes placed own = above w.back.state own placed.0
  closed_at stage.ClosePort here goes placed own = above w.back.state own placed.0
  closed_at other here goes placed own = differs w.back.state state.InitWait own goes.0 refl

  -- so does one whose negotiation rests before Connected
  early_waits : w.back.state ≡ state.InitWait → back_asks w ≡ bus_ask.Wait → BusWaits w.back → back.ask_of v ≡ back_ask.Wait
  early_waits own rests (inl at) =
      let here : r ≡ ring_stage.InitWait = subst (λ (s : BusState). BackRests s r) own (rests_so at.0) in
      ap (λ (b : BackBusAsk). back.ask_at b v) rests ∙ ring_asks bus_ask.Wait ring_stage.InitWait false here refl refl
  early_waits own rests (inr (inl here)) = differs w.back.state state.InitWait (closed_so here) own refl
  early_waits own rests (inr (inr at)) = unmaps_some at.0 at.1

  -- and one that sleeps
  serves_at : is_serving w.back.state ≡ true → BusWaits w.back → serves_ring r ≡ true
  serves_at serves (inl at) = by_state w.back.state serves (rests_so at.0)
    where
      by_state : (own : BusState) → is_serving own ≡ true → BackRests own r → serves_ring r ≡ true
      by_state state.Connected serves goes = goes
      by_state state.Closing serves goes = goes
      by_state own serves goes = absurd (true≢false (sym serves))
  serves_at serves (inr (inl here)) = absurd (true≢false (sym serves ∙ ap is_serving (closed_so here)))
  serves_at serves (inr (inr at)) = unmaps_some at.0 at.1

  asleep_waits : back_asks w ≡ bus_ask.Wait → c ≡ Asleep → back_ring.next_reply w.rings.back ≡ None → r ≡ ring_stage.Loop → back.ask_of v ≡ back_ask.Wait
  asleep_waits rests found none here =
      let sees = subst (λ (t : BackStage). Sees t c w.rings.back.ring.asleep) here k.ring in
      let asleep : w.rings.back.ring.asleep ≡ true = sym sees.0 ∙ ap sleeps found in
      ap (λ (b : BackBusAsk). back.ask_at b v) rests
      ∙ (ring_asks bus_ask.Wait ring_stage.Loop true here refl refl ∙ (ap (λ (next : Option Reply). back_ring.loop_ask w.rings.back next) none ∙ sleeping w.rings.back.ring.asleep asleep))
    where
      sleeping : (a : Bool) → a ≡ true → (if a then back_ask.Wait else (if requests_of w.rings.back.ring.indices w.rings.back.ring.seen == 0 then back_ring.index_ask w.rings.back 0 else back_ring.entry_ask w.rings.back 0)) ≡ back_ask.Wait
      sleeping true is = refl
      sleeping false is = absurd (true≢false (sym is))

  pub waits : MayWait w c → back.ask_of v ≡ back_ask.Wait
  waits (inl may) = early_waits may.0 may.1 (bus_waits w.back may.1)
  waits (inr (inl may)) = asleep_waits may.rests may.nothing_found may.none_done (loops r c w.rings.back.ring.asleep (serves_at may.serves (bus_waits w.back may.rests)) may.none_begun may.nothing_found k.ring)
  waits (inr (inr own)) = closed_at w.back.stage refl k.fit.back k.fit.sound.placed own
