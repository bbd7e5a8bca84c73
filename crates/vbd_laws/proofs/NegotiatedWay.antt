-- The back maps what the front granted: so the machine stays on its way as the back moves, over a suspend, and whatever happens.
use Rattle.std.proofs.Common.{◌⊎◌, inl, inr, ◌≡◌, ◌∙◌, ap, sym, subst, ℕ, ◌+◌, ◌&&◌, Bool, true, false, true≢false, List, [], ◌∷◌, ◌++◌, length, refl, arith, if◌then◌else◌}
use Rattle.std.specs.Prelude.{Option, Some, None, is_some, nat_lt}
use Rattle.blk_base.specs.declared.parts.End.TheVariants as end
use Rattle.blk_base.specs.declared.parts.Mapping.{Mapping}
use Rattle.blk_base.specs.declared.moves.BackMover.TheVariants as back_mover
use Rattle.blk_base.specs.declared.ask.BackAsk.{BackAsk}
use Rattle.blk_base.specs.declared.ask.BackAsk.TheVariants as back_ask
use Rattle.blk_base.specs.declared.ask.BackAnswer.{BackAnswer}
use Rattle.blk_base.specs.declared.ask.BackAnswer.TheVariants as answer
use Rattle.hypervisor.specs.Hypervisor.{Hypervisor}
use Rattle.hypervisor.specs.Act.{BackAct, Took, back_act, is_own_path}
use Rattle.blk_front.specs.declared.stage.FrontStage.{FrontStage}
use Rattle.blk_front.specs.declared.stage.FrontStage.TheVariants as front_ring
use Rattle.blk_front.specs.Suspend.{stage_after}
use Rattle.blk_front.specs.Submit.{is_connected}
use Rattle.back_jobs.specs.Jobs.{first_mapping}
use Rattle.blk_back.specs.declared.stage.BackStage.{BackStage}
use Rattle.blk_back.specs.declared.stage.BackStage.TheVariants as ring
use Rattle.blk_base.specs.declared.halt.Halt.{Halt}
use Rattle.blk_back.specs.View as ring_view
use Rattle.blk_back.specs.Ask as ring_ask
use Rattle.blk_back.specs.Step as ring_step
use Rattle.xenbus_state.specs.declared.state.BusState.{BusState}
use Rattle.xenbus_state.specs.declared.state.BusState.TheVariants as state
use Rattle.xenbus_state.specs.declared.stage.BackBusStage.{BackBusStage}
use Rattle.xenbus_state.specs.declared.stage.BackBusStage.TheVariants as bus
use Rattle.xenbus_state.specs.declared.table.BackHalt.{BackHalt}
use Rattle.xenbus_state.specs.declared.table.BackHalt.TheVariants as bus_halt
use Rattle.xenbus_state.specs.declared.back.BackBusAsk.{BackBusAsk}
use Rattle.xenbus_state.specs.declared.back.BackBusAsk.TheVariants as bus_ask
use Rattle.xenbus_state.specs.Keys.{back_name, path_under}
use Rattle.xenbus_state.specs.BackView.{BackView, is_halting}
use Rattle.xenbus_state.specs.BackAsk.{says_closing, ask_at, ask_of}
use Rattle.xenbus_state.specs.BackSound.{IsPlaced}
use Rattle.xenbus_state.specs.BackStep as bus_step
use Rattle.split_model.specs.Happening as ring_happening
use Rattle.split_model.proofs.SafeActs.{of_back, back_test, back_wait}
use Rattle.split_model.proofs.SafeAnswers.{back_answered}
use Rattle.split_model.proofs.Shapes.{attaches_waiting}
use Rattle.split_model.proofs.States.{is_unbound, halts_cases}
use Rattle.line_text.proofs.Both.{both_true}
use Rattle.vbd_back.specs.View as back_view
use Rattle.vbd_back.specs.Ask as back
use Rattle.vbd_back.specs.Step as back_step
use Rattle.vbd_model.specs.World.{World, backend_of}
use Rattle.vbd_model.specs.Happening.{BackMoves, back_turn, is_backs_ring, happens}
use Rattle.vbd_model.specs.Fit.{BackGoesWith, BackReads, BackHolds, has_terms, HaveTerms, IsFit}
use Rattle.vbd_laws.proofs.FitBackRing.{is_past, given, gives_past, unbound_past, past_step}
use Rattle.vbd_laws.proofs.MovesTurns.{back_asks, back_cases}
use Rattle.vbd_laws.proofs.MovesAttached.{halted_only, not_led, taken}
use Rattle.vbd_laws.proofs.NegotiatedRun.{Reached}
use Rattle.vbd_laws.proofs.NegotiatedBack.{IsGiven, back_goes}
use Rattle.vbd_laws.proofs.NegotiatedKept.{made_now, asks_map}
use Rattle.vbd_laws.proofs.NegotiatedEarly.{Before, Bound, Halted, Past, After, is_early, IsOnItsWay}
use Rattle.vbd_laws.proofs.MovesBack.{back_to, after_back_move}

-- a halt for what the negotiation read
halt_may : (why : BackHalt) → ring_step.may_halt (back_step.ring_halt why) ≡ true
halt_may (bus_halt.Gone s) = refl
halt_may other = refl

-- it halts before the ring is mapped: nothing is left to unmap
halts_early : (why : BackHalt) (r : ring_view.View) → is_unbound r.stage ≡ true → r.pages ≡ [] → (let u : ring_view.View = ring_step.halts (back_step.ring_halt why) r in (u.stage ≡ ring.Halted) × (is_some u.halted ≡ true))
halts_early why r early none =
    let h : Halt = back_step.ring_halt why in
    subst (λ (b : Bool). let u : ring_view.View = if b then ring_step.halts_at r.stage h r else r in (u.stage ≡ ring.Halted) × (is_some u.halted ≡ true)) (sym (halt_may why)) (by_stage r.stage early)
  where
    by_stage : (s : BackStage) → is_unbound s ≡ true → (let u : ring_view.View = ring_step.halts_at s (back_step.ring_halt why) r in (u.stage ≡ ring.Halted) × (is_some u.halted ≡ true))
    by_stage ring.InitWait is = (ap ring_step.unbound none, refl)
    by_stage ring.MapRing is = (ap ring_step.unbound none, refl)
    by_stage s is = absurd (true≢false (sym is))

-- what it reads as it halts it reads before a page is mapped
unconnected_none : (own : BusState) (s : BackStage) (order pages : ℕ) (bound : Bool) → BackReads own s → is_unbound s ≡ true → BackHolds s order pages bound → pages ≡ 0
unconnected_none state.InitWait s order pages bound reads early held = (subst (λ (t : BackStage). BackHolds t order pages bound) reads held).0
unconnected_none state.Connected s order pages bound reads early held = absurd (true≢false (sym early ∙ ap is_unbound reads))
unconnected_none state.Closing s order pages bound reads early held = absurd (true≢false (sym early ∙ ap is_unbound reads))
unconnected_none own s order pages bound reads early held = absurd reads

no_halt : {A : Type 0} (why : BackHalt) → None ≡ Some why → A
no_halt why e = absurd (true≢false (sym (ap is_some e)))

halts_none : (b : BackBusStage) (v : BackView) (x : BackAnswer) (s : BackStage) (why : BackHalt) → back.speaks (ask_at b v) ≡ true → bus_step.halt_at b v x ≡ Some why → BackGoesWith b v.state s → is_unbound s ≡ true
    → BackHolds s v.terms.order (length v.pages) v.bound → IsPlaced b v → length v.pages ≡ 0
halts_none bus.ReadState v (answer.Key text) s why says e goes early held placed = unconnected_none v.state s v.terms.order (length v.pages) v.bound goes early held
halts_none (bus.ReadKey k) v (answer.Key text) s why says e goes early held placed = placed.1.pages
halts_none bus.MapPage v x s why says e goes early held placed = absurd (true≢false (sym says))
halts_none bus.Bind v x s why says e goes early held placed = absurd (true≢false (sym says))
halts_none b v x s why says e goes early held placed = no_halt why e

empty : (pages : List Mapping) → length pages ≡ 0 → pages ≡ []
empty [] none = refl
empty (page ∷ pages) none = absurd (omega arith)

-- what the back's end was past, or once it has halted, it is after an answer to its negotiation
led_past : (why : Option BackHalt) (reads : Bool) (u : BackView) (r : ring_view.View) → is_past r.stage ≡ true → is_past (back_step.ring_led why reads u r).stage ≡ true
led_past (Some why) reads u r p =
    halts_cases (λ (y : ring_view.View). is_past y.stage ≡ true) (back_step.ring_halt why) r (λ e. unbound_past r.pages) (λ e. gives_past _ (given (first_mapping r.jobs.works))) p
led_past None true u r p = by_test (ring_step.may_attach (back_step.shape_read u) u.grefs r) refl
  where
    by_test : (may : Bool) → ring_step.may_attach (back_step.shape_read u) u.grefs r ≡ may → is_past (if may then ring_step.attached (back_step.shape_read u) u.grefs u.terms.port r else r).stage ≡ true
    by_test true may = absurd (true≢false (sym p ∙ ap is_past (attaches_waiting (back_step.shape_read u) u.grefs r may)))
    by_test false may = p
led_past None false u r p = p

led_halted : (why : Option BackHalt) (reads : Bool) (u : BackView) (r : ring_view.View) → Halted r → Halted (back_step.ring_led why reads u r)
led_halted (Some why) reads u r h =
    halts_cases (λ (y : ring_view.View). Halted y) (back_step.ring_halt why) r (λ e. absurd (true≢false (sym e ∙ ap is_unbound h.ring))) (λ e. not_both r.stage e h.ring) h
  where
    not_both : {A : Type 0} (s : BackStage) → s ≡ ring.Loop → s ≡ ring.Halted → A
    not_both s e f = absurd (cc)
led_halted None true u r h = by_test (ring_step.may_attach (back_step.shape_read u) u.grefs r) refl
  where
    by_test : (may : Bool) → ring_step.may_attach (back_step.shape_read u) u.grefs r ≡ may → Halted (if may then ring_step.attached (back_step.shape_read u) u.grefs u.terms.port r else r)
    by_test true may = absurd (true≢false (sym (ap is_past h.ring) ∙ ap is_past (attaches_waiting (back_step.shape_read u) u.grefs r may)))
    by_test false may = h
led_halted None false u r h = h

-- before it has mapped the ring the back's end moves only as its negotiation maps
maps_next : (b : BackBusAsk) (s : BackStage) → is_unbound s ≡ true → back.ring_moves b s ≡ true → (s ≡ ring.MapRing) × (gref : ℕ) × (b ≡ bus_ask.Map gref)
maps_next (bus_ask.Map gref) ring.MapRing is e = (refl, gref, refl)
maps_next b ring.MapRing is e = absurd (true≢false (sym e))
maps_next (bus_ask.Map gref) ring.InitWait is e = absurd (true≢false (sym e))
maps_next (bus_ask.Bind port) ring.InitWait is e = absurd (true≢false (sym e))
maps_next bus_ask.UnmapOthers ring.InitWait is e = absurd (true≢false (sym e))
maps_next (bus_ask.Unmap m) ring.InitWait is e = absurd (true≢false (sym e))
maps_next bus_ask.ClosePort ring.InitWait is e = absurd (true≢false (sym e))
maps_next b ring.InitWait is e = absurd (true≢false (sym e))
maps_next b s is e = absurd (true≢false (sym is))

pub key_given : (h : Hypervisor) (b : BackBusAsk) (a : BackAct) → back_act h back_mover.Back (back.key_ask b) Took ≡ Some a → IsGiven a.answer
key_given h bus_ask.Watch a e = of_back (λ (x : BackAct). IsGiven x.answer) _ a tt e
key_given h bus_ask.GetState a e = of_back (λ (x : BackAct). IsGiven x.answer) _ a tt e
key_given h (bus_ask.GetKey key) a e = of_back (λ (x : BackAct). IsGiven x.answer) _ a tt e
key_given h (bus_ask.SetState s) a e = back_test (λ (x : BackAct). IsGiven x.answer) (is_own_path end.Back back.own_state) _ a tt e
key_given h (bus_ask.SetKey key value) a e = back_test (λ (x : BackAct). IsGiven x.answer) (is_own_path end.Back (path_under end.Back (back_name key))) _ a tt e
key_given h b a e = back_wait (λ (x : BackAct). IsGiven x.answer) h back_mover.Back a tt (λ path. tt) e

pub wait_given : (h : Hypervisor) (a : BackAct) → back_act h back_mover.Back back_ask.Wait Took ≡ Some a → IsGiven a.answer
wait_given h a e = back_wait (λ (x : BackAct). IsGiven x.answer) h back_mover.Back a tt (λ path. tt) e

-- a page is mapped: the next one is, or the port is bound; or the map is refused
told_map : (v : BackView) (m : Mapping) → v.stage ≡ bus.MapPage → bus_step.step_of v (answer.Mapped m) ≡ bus_step.mapped m v
told_map v m here = rw here (by_test v.unplugged)
  where
    by_test : (b : Bool) → (if b && false then record v { state = state.Closing; stage = bus.MapPage } else bus_step.mapped m v) ≡ bus_step.mapped m v
    by_test true = refl
    by_test false = refl

-- what the ring's end is after a map that it was told of
abbrev Maps : ring_view.View → BackAnswer → Bool → ring_view.View → BackView → Type 0
Maps r x c y u = ((is_unbound y.stage ≡ true) × (y.halted ≡ r.halted) × IsGiven x) ⊎ Bound y (back_step.caught_up y u) c ⊎ Past y c

map_after : (r : ring_view.View) (v : BackView) (x : BackAnswer) (c : Bool) → r.stage ≡ ring.MapRing → r.halted ≡ None → v.stage ≡ bus.MapPage → r.pages ≡ v.pages → r.grefs ≡ v.grefs → c ≡ true
    → ring_ask.IsAnswer (ring_ask.ask_of r) x → (let y : ring_view.View = ring_step.step_of r x in Maps r x c y (bus_step.step_of v x))
map_after r v x c here unhalted stage pages grefs made allowed =
    subst (λ (s : BackStage). let y : ring_view.View = ring_step.step_at s r x in Maps r x c y (bus_step.step_of v x)) (sym here)
    (by_answer x (subst (λ (s : BackStage). ring_ask.IsAnswer (ring_ask.ask_at s r) x) here allowed))
  where
    to_ring : Mapping → Bool → ring_view.View
    to_ring m more = record r { pages = r.pages ++ m ∷ []; stage = if more then ring.MapRing else ring.Bind }

    by_more : (m : Mapping) (more : Bool) → nat_lt (length v.pages + 1) (length v.grefs) ≡ more
        → (let y : ring_view.View = to_ring m more in Maps r (answer.Mapped m) c y (bus_step.mapped m v))
    by_more m true e = inl (refl, refl, tt)
    by_more m false e =
        let u : BackView = bus_step.mapped m v in
        let last : u.stage ≡ bus.Bind = ap (λ (more : Bool). if more then bus.MapPage else bus.Bind) e in
        let same : back_step.caught_up (to_ring m false) u ≡ u =
        ap (λ (why : Option Halt). back_step.settled ring.Bind (back_step.bus_halted why u)) unhalted ∙ ap (λ (s : BackBusStage). back_step.settled_at s ring.Bind u) last in
        inr (inl (record { ring = refl; stage = ap (λ (y : BackView). y.stage) same ∙ last; made = made }))

    by_answer : (y : BackAnswer) → ring_ask.IsAnswer (ring_ask.ask_at ring.MapRing r) y
        → (let z : ring_view.View = ring_step.step_at ring.MapRing r y in Maps r y c z (bus_step.step_of v y))
    by_answer (answer.Mapped m) is =
        let same : nat_lt (length r.pages + 1) (length r.grefs) ≡ nat_lt (length v.pages + 1) (length v.grefs) =
        ap (λ (ps : List Mapping). nat_lt (length ps + 1) (length r.grefs)) pages ∙ ap (λ (gs : List ℕ). nat_lt (length v.pages + 1) (length gs)) grefs in
        subst (λ (more : Bool). let z : ring_view.View = to_ring m more in Maps r (answer.Mapped m) c z (bus_step.step_of v (answer.Mapped m))) (sym same)
        (subst (λ (u : BackView). let z : ring_view.View = to_ring m (nat_lt (length v.pages + 1) (length v.grefs)) in Maps r (answer.Mapped m) c z u) (sym (told_map v m stage))
        (by_more m (nat_lt (length v.pages + 1) (length v.grefs)) refl))
    by_answer (answer.MapRefused status) is = inr (inr (record { past = unbound_past r.pages; made = made }))
    by_answer y is = absurd is

-- where it maps it hasn't halted
unhalted_map : (halted : Option Halt) (s : BackBusStage) → is_some halted ≡ is_halting s → s ≡ bus.MapPage → halted ≡ None
unhalted_map None s e here = refl
unhalted_map (Some why) s e here = absurd (true≢false (e ∙ ap is_halting here))

module _ (w : World) (a : BackAct) (fit : IsFit w) (b : Before w) (turn : back_turn w ≡ Some a) where
  abbrev ReachedBy : back_view.View → Type 0
  ReachedBy x = Reached (record { front = w.front; back = x.bus; keys = a.under.keys })

  -- the negotiation was reached, but where its end of the ring moved
  abbrev ToReach : (BackAnswer → back_view.View) → Type 0
  ToReach step = is_backs_ring w ≡ false → IsGiven a.answer → ReachedBy (step a.answer)

  abbrev Goes : List ring_happening.Happening → BackAsk → (BackAnswer → back_view.View) → Type 0
  Goes does asked step = ToReach step → back_act w.rings.under back_mover.Back asked Took ≡ Some a → IsOnItsWay (back_to w a (step a.answer))

  abbrev to_led : ring_view.View → back_view.View
  to_led y = back_step.heard_by y (backend_of w) a.answer

  halt_known : (why : BackHalt) → back.speaks (back_asks w) ≡ true → back_step.halt_of (backend_of w) a.answer ≡ Some why → w.rings.back.pages ≡ []
  halt_known why says e = fit.pages ∙ empty w.back.pages (by_test (says_closing w.back) refl)
    where
      by_test : (c : Bool) → says_closing w.back ≡ c → length w.back.pages ≡ 0
      by_test true is = no_halt why (sym (ap (λ (c : Bool). if c then None else bus_step.halt_at w.back.stage w.back a.answer) is) ∙ e)
      by_test false is =
          halts_none w.back.stage w.back a.answer w.rings.back.stage why (subst (λ (c : Bool). back.speaks (if c then bus_ask.SetState state.Closing else ask_at w.back.stage w.back) ≡ true) is says)
          (sym (ap (λ (c : Bool). if c then None else bus_step.halt_at w.back.stage w.back a.answer) is) ∙ e) fit.back b.ring fit.held fit.sound.placed

  led_way : (why : Option BackHalt) → back_step.halt_of (backend_of w) a.answer ≡ why → back.speaks (back_asks w) ≡ true
      → ReachedBy (to_led (halted_only why w.rings.back)) → IsOnItsWay (back_to w a (to_led (halted_only why w.rings.back)))
  led_way None e says j = inl (record { joined = j; ring = b.ring; early = b.early })
  led_way (Some why) e says j =
      let h = halts_early why w.rings.back b.ring (halt_known why says e) in
      inr (inr (inl (record { ring = h.0; halted = h.1 })))

  map_way : back.bus_moves (back_asks w) w.rings.back.stage ≡ false → back.ring_moves (back_asks w) w.rings.back.stage ≡ true → back_act w.rings.under back_mover.Back (ring_ask.ask_of w.rings.back) Took ≡ Some a
      → IsOnItsWay (back_to w a (back_step.ring_step true (back_asks w) (backend_of w) a.answer))
  map_way quiet moves e =
      let next = maps_next (back_asks w) w.rings.back.stage b.ring moves in
      let made = made_now w next.1 fit b.joined next.2 in
      let stage = asks_map w.back next.1 next.2 in
      let have : HaveTerms w.rings.back w.back = fit.terms (ap has_terms next.0) (ap is_halting stage) in
      by_map (subst (λ (c : BackBusAsk). Maps w.rings.back a.answer (is_connected w.rings.front.stage) (ring_step.step_of w.rings.back a.answer) (back_step.followed c w.back a.answer)) (sym next.2)
      (map_after w.rings.back w.back a.answer (is_connected w.rings.front.stage) next.0 (unhalted_map w.rings.back.halted w.back.stage fit.halted stage) stage fit.pages have.grefs made (back_answered w.rings.under w.rings.back Took a e)))
    where
      moved_bus : ReachedBy (back_step.step_of (backend_of w) a.answer) → ReachedBy (back_step.ring_step true (back_asks w) (backend_of w) a.answer)
      moved_bus j =
          subst (λ (m : Bool). ReachedBy (back_step.ring_step m (back_asks w) (backend_of w) a.answer)) moves
          (subst (λ (says : Bool). ReachedBy (if says then back_step.spoken (backend_of w) a.answer else back_step.ring_step (back.ring_moves (back_asks w) w.rings.back.stage) (back_asks w) (backend_of w) a.answer)) quiet j)

      by_map : Maps w.rings.back a.answer (is_connected w.rings.front.stage) (ring_step.step_of w.rings.back a.answer) (back_step.followed (back_asks w) w.back a.answer)
          → IsOnItsWay (back_to w a (back_step.ring_step true (back_asks w) (backend_of w) a.answer))
      by_map (inl on) = inl (record { joined = moved_bus (back_goes w a fit b.joined turn on.2 (λ mine. on.1)); ring = on.0; early = b.early })
      by_map (inr (inl bound)) = inr (inl (record { ring = bound.ring; stage = bound.stage; made = bound.made }))
      by_map (inr (inr past)) = inr (inr (inr (record { past = past.past; made = past.made })))

  before_back : IsOnItsWay (back_to w a (back_step.step_of (backend_of w) a.answer))
  before_back =
      back_cases Goes w
      (λ says untaken reach e.
      let plain = not_led w a fit (record { turn = turn; moves = says }) untaken in
      let reached = reach (rw says refl) (key_given w.rings.under (back_asks w) a e) in
      let spoken = (both_true (back.speaks (back_asks w)) (back.is_between w.rings.back.stage) says).0 in
      subst (λ (y : ring_view.View). IsOnItsWay (back_to w a (to_led y))) (sym plain)
      (led_way (back_step.halt_of (backend_of w) a.answer) refl spoken
      (subst (λ (y : ring_view.View). ReachedBy (to_led y)) plain reached)))
      (λ says takes reach e.
      let took = taken w a (record { turn = turn; moves = says }) takes in
      inl (record { joined = reach (rw says refl) (key_given w.rings.under (back_asks w) a e); ring = ap (λ (y : ring_view.View). is_unbound y.stage) took.led; early = b.early }))
      (λ quiet moves reach e. map_way quiet moves e)
      (λ quiet still reach e. inl (record { joined = reach (rw (quiet, still) refl) (wait_given w.rings.under a e); ring = b.ring; early = b.early }))
      (λ e given. back_goes w a fit b.joined turn given (λ mine. absurd (true≢false (sym mine ∙ e)))) turn

-- once it has mapped the ring
binds_port : (v : BackView) → v.stage ≡ bus.Bind → ask_of v ≡ bus_ask.Bind v.terms.port
binds_port v here = rw here (by_test v.unplugged)
  where
    by_test : (b : Bool) → (if b && false then bus_ask.SetState state.Closing else bus_ask.Bind v.terms.port) ≡ bus_ask.Bind v.terms.port
    by_test true = refl
    by_test false = refl

bind_past : (r : ring_view.View) (x : BackAnswer) → r.stage ≡ ring.Bind → ring_ask.IsAnswer (ring_ask.ask_of r) x → is_past (ring_step.step_of r x).stage ≡ true
bind_past r x here allowed = subst (λ (s : BackStage). is_past (ring_step.step_at s r x).stage ≡ true) (sym here) (by_answer x (subst (λ (s : BackStage). ring_ask.IsAnswer (ring_ask.ask_at s r) x) here allowed))
  where
    by_answer : (y : BackAnswer) → ring_ask.IsAnswer (ring_ask.ask_at ring.Bind r) y → is_past (ring_step.step_at ring.Bind r y).stage ≡ true
    by_answer answer.Done is = refl
    by_answer answer.BindRefused is = unbound_past r.pages
    by_answer y is = absurd is

module _ (w : World) (a : BackAct) (turn : back_turn w ≡ Some a) where
  abbrev Keeps : (ring_view.View → Type 0) → List ring_happening.Happening → BackAsk → (BackAnswer → back_view.View) → Type 0
  Keeps P does asked step = back_act w.rings.under back_mover.Back asked Took ≡ Some a → P (step a.answer).ring

  abbrev IsPastNow : ring_view.View → Type 0
  IsPastNow r = is_past r.stage ≡ true

  abbrev IsHaltedNow : ring_view.View → Type 0
  IsHaltedNow r = Halted r

  bound_back : Bound w.rings.back w.back (is_connected w.rings.front.stage) → IsPastNow (back_step.step_of (backend_of w) a.answer).ring
  bound_back b =
      let asks = binds_port w.back b.stage in
      back_cases (Keeps IsPastNow) w
      (λ says untaken e. absurd (true≢false (sym says ∙ ap (λ (c : BackBusAsk). back.bus_moves c w.rings.back.stage) asks)))
      (λ says takes e. absurd (true≢false (sym says ∙ ap (λ (c : BackBusAsk). back.bus_moves c w.rings.back.stage) asks)))
      (λ quiet moves e. bind_past w.rings.back a.answer b.ring (back_answered w.rings.under w.rings.back Took a e))
      (λ quiet still e. absurd (true≢false (sym (ap (λ (c : BackBusAsk). back.ring_moves c ring.Bind) asks) ∙ subst (λ (s : BackStage). back.ring_moves (back_asks w) s ≡ false) b.ring still))) turn

  halted_back : Halted w.rings.back → Halted (back_step.step_of (backend_of w) a.answer).ring
  halted_back h =
      back_cases (Keeps IsHaltedNow) w (λ says untaken e. led h) (λ says takes e. led h)
      (λ quiet moves e. subst (λ (s : BackStage). IsHaltedNow (ring_step.step_at s w.rings.back a.answer)) (sym h.ring) h) (λ quiet still e. h) turn
    where
      led : Halted w.rings.back → IsHaltedNow (back_step.spoken (backend_of w) a.answer).ring
      led h = led_halted (back_step.halt_of (backend_of w) a.answer) (back_step.reads_layout (back_asks w)) (bus_step.step_of w.back a.answer) w.rings.back h

  past_back : is_past w.rings.back.stage ≡ true → IsPastNow (back_step.step_of (backend_of w) a.answer).ring
  past_back p =
      back_cases (Keeps IsPastNow) w (λ says untaken e. led p) (λ says takes e. led p)
      (λ quiet moves e. past_step w.rings.back a.answer p) (λ quiet still e. p) turn
    where
      led : is_past w.rings.back.stage ≡ true → IsPastNow (back_step.spoken (backend_of w) a.answer).ring
      led p = led_past (back_step.halt_of (backend_of w) a.answer) (back_step.reads_layout (back_asks w)) (bus_step.step_of w.back a.answer) w.rings.back p

  after_back : After w.rings.back w.back (is_connected w.rings.front.stage)
      → (let v : World = back_to w a (back_step.step_of (backend_of w) a.answer) in After v.rings.back v.back (is_connected v.rings.front.stage))
  after_back (inl b) = inr (inr (record { past = bound_back b; made = b.made }))
  after_back (inr (inl h)) = let now = halted_back h in inr (inl (record { ring = now.ring; halted = now.halted }))
  after_back (inr (inr p)) = inr (inr (record { past = past_back p.past; made = p.made }))

pub back_way : (w : World) → IsFit w → IsOnItsWay w → IsOnItsWay (happens w BackMoves)
back_way w fit way = after_back_move (λ act u. IsOnItsWay u) w fit way (λ a e. by_way a e way)
  where
    by_way : (a : BackAct) → back_turn w ≡ Some a → IsOnItsWay w → IsOnItsWay (back_to w a (back_step.step_of (backend_of w) a.answer))
    by_way a e (inl b) = before_back w a fit b e
    by_way a e (inr x) = inr (after_back w a e x)

-- after a suspend the front makes its ring anew, or the new back has halted
pub early_anew : (s : FrontStage) → is_early (stage_after s) ≡ true
early_anew (front_ring.ReadData n) = refl
early_anew s = refl

-- the front's ring and port are made as the back's end moves, or the back has halted
pub ring_made_now : (w : World) → IsFit w → IsOnItsWay w → back.ring_moves (back_asks w) w.rings.back.stage ≡ true → is_some w.rings.back.halted ≡ false → is_connected w.rings.front.stage ≡ true
ring_made_now w fit (inl b) moves unhalted =
    let next = maps_next (back_asks w) w.rings.back.stage b.ring moves in
    made_now w next.1 fit b.joined next.2
ring_made_now w fit (inr (inl b)) moves unhalted = b.made
ring_made_now w fit (inr (inr (inl h))) moves unhalted = absurd (true≢false (sym h.halted ∙ unhalted))
ring_made_now w fit (inr (inr (inr p))) moves unhalted = p.made
