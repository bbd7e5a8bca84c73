-- A move of an end is one of three: its negotiation speaks, its end of the ring has the move, or both wait.
use Rattle.std.proofs.Common.{◌≡◌, ◌≢◌, Bool, true, false, true≢false, ◌&&◌, if◌then◌else◌, List, [], ◌∷◌, map, refl, sym, ap, ◌∙◌, subst}
use Rattle.std.specs.Prelude.{Some, None}
use Rattle.std.proofs.lemmas.Option.{none-some}
use Rattle.blk_base.specs.declared.parts.End.TheVariants as end
use Rattle.blk_base.specs.declared.ask.FrontAsk.{FrontAsk}
use Rattle.blk_base.specs.declared.ask.FrontAsk.TheVariants as front_ask
use Rattle.blk_base.specs.declared.ask.FrontAnswer.{FrontAnswer}
use Rattle.blk_base.specs.declared.ask.BackAsk.{BackAsk}
use Rattle.blk_base.specs.declared.ask.BackAsk.TheVariants as back_ask
use Rattle.blk_base.specs.declared.ask.BackAnswer.{BackAnswer}
use Rattle.blk_base.specs.declared.moves.BackMover.TheVariants as back_mover
use Rattle.hypervisor.specs.Hypervisor.{Hypervisor}
use Rattle.hypervisor.specs.Act.{FrontAct, BackAct, Took, front_act, back_act}
use Rattle.blk_front.specs.declared.state.FrontState.{FrontState}
use Rattle.blk_front.specs.Ask as front_ring
use Rattle.blk_front.specs.Submit.{is_wait}
use Rattle.blk_back.specs.declared.stage.BackStage.{BackStage}
use Rattle.blk_back.specs.declared.stage.BackStage.TheVariants as back_ring_stage
use Rattle.blk_base.specs.declared.halt.Halt.{Halt}
use Rattle.blk_back.specs.Ask as back_ring
use Rattle.xenbus_state.specs.declared.front.FrontBusAsk.{FrontBusAsk}
use Rattle.xenbus_state.specs.declared.front.FrontBusAsk.TheVariants as front_bus
use Rattle.xenbus_state.specs.declared.back.BackBusAsk.{BackBusAsk}
use Rattle.xenbus_state.specs.declared.back.BackBusAsk.TheVariants as back_bus
use Rattle.xenbus_state.specs.declared.state.BusState.{BusState}
use Rattle.xenbus_state.specs.declared.keys.FrontKey.{FrontKey}
use Rattle.xenbus_state.specs.declared.keys.BackKey.{BackKey}
use Rattle.xenbus_state.specs.declared.values.KeyValue.{KeyValue}
use Rattle.xenbus_state.specs.BackView.{BackView}
use Rattle.xenbus_state.specs.FrontAsk as front_bus_ends
use Rattle.xenbus_state.specs.BackAsk as back_bus_ends
use Rattle.split_model.specs.Keys.{TakesWatch}
use Rattle.split_model.specs.Happening as ring
use Rattle.split_model.proofs.SafeActs.{of_front, of_back}
use Rattle.vbd_front.specs.View as front_view
use Rattle.vbd_front.specs.Ask as front
use Rattle.vbd_front.specs.Step as front_step
use Rattle.vbd_back.specs.View as back_view
use Rattle.vbd_back.specs.Ask as back
use Rattle.vbd_back.specs.Step as back_step
use Rattle.vbd_model.specs.World.{World, frontend_of, backend_of}
use Rattle.vbd_model.specs.Happening.{front_key, back_key, front_turn, back_turn, entered_at, halted_at, front_enters, back_halts, back_bus_after, is_none, attaches, back_negotiates, front_does, back_does}

-- what each negotiation asks
abbrev pub front_asks : World → FrontBusAsk
front_asks w = front.bus_ask_of (frontend_of w)

abbrev pub back_asks : World → BackBusAsk
back_asks w = back.bus_ask_of (backend_of w)

-- what a negotiation that speaks is to the ring's machine: what it does with the keys, and what comes of its answer
abbrev pub front_says : World → List FrontState → List ring.Happening
front_says w states = ring.Negotiates end.Front (front_key (front_asks w)) ∷ map ring.FrontEnters states

abbrev pub back_says : World → List Halt → List ring.Happening
back_says w reasons = ring.Negotiates end.Back (back_key (back_asks w)) ∷ map ring.BackHalts reasons

-- what the back's negotiation knows after its act, and its end of the ring takes these terms
abbrev pub back_learns : World → BackView
back_learns w = back_bus_after w (back_turn w)

abbrev pub back_takes : BackView → List ring.Happening
back_takes b = ring.BackAttaches (back_step.shape_read b) b.grefs b.terms.port ∷ []

-- what is true of each kind of move of the front is true of its move: of what it is to the ring's machine, of what it asks, and of what an answer makes of it
pub front_cases : (P : List ring.Happening → FrontAsk → (FrontAnswer → front_view.View) → Type 0) (w : World)
    → (front.speaks (front_asks w) ≡ true → P (front_says w (entered_at w (front_turn w))) (front.key_ask (front_asks w)) (λ x. front_step.spoken (frontend_of w) x))
    → (front.speaks (front_asks w) ≡ false → front.ring_moves (front_asks w) w.rings.front.stage ≡ true
    → P (ring.FrontMoves ∷ []) (front_ring.ask_of w.rings.front) (λ x. front_step.ring_step true (front_asks w) (frontend_of w) x))
    → (front.speaks (front_asks w) ≡ false → front.ring_moves (front_asks w) w.rings.front.stage ≡ false
    → P (front_says w []) front_ask.Wait (λ x. front_step.ring_step false (front_asks w) (frontend_of w) x))
    → P (front_does w) (front.ask_of (frontend_of w)) (λ x. front_step.step_of (frontend_of w) x)
front_cases P w spoken moved waited = by_test (front.speaks (front_asks w)) (front.ring_moves (front_asks w) w.rings.front.stage) refl refl
  where
    by_test : (says moves : Bool) → front.speaks (front_asks w) ≡ says → front.ring_moves (front_asks w) w.rings.front.stage ≡ moves
        → P (if (if says then false else moves) then ring.FrontMoves ∷ [] else ring.Negotiates end.Front (front_key (front_asks w)) ∷ front_enters says w)
        (if says then front.key_ask (front_asks w) else front.ring_ask moves (frontend_of w))
        (λ x. if says then front_step.spoken (frontend_of w) x else front_step.ring_step moves (front_asks w) (frontend_of w) x)
    by_test true moves says does = spoken says
    by_test false true says does = moved says does
    by_test false false says does = waited says does

-- and of the back
pub back_cases : (P : List ring.Happening → BackAsk → (BackAnswer → back_view.View) → Type 0) (w : World)
    → (back.bus_moves (back_asks w) w.rings.back.stage ≡ true → attaches w (back_learns w) ≡ false
    → P (back_says w (halted_at w (back_turn w))) (back.key_ask (back_asks w)) (λ x. back_step.spoken (backend_of w) x))
    → (back.bus_moves (back_asks w) w.rings.back.stage ≡ true → attaches w (back_learns w) ≡ true
    → P (back_takes (back_learns w)) (back.key_ask (back_asks w)) (λ x. back_step.spoken (backend_of w) x))
    → (back.bus_moves (back_asks w) w.rings.back.stage ≡ false → back.ring_moves (back_asks w) w.rings.back.stage ≡ true
    → P (ring.BackMoves ∷ []) (back_ring.ask_of w.rings.back) (λ x. back_step.ring_step true (back_asks w) (backend_of w) x))
    → (back.bus_moves (back_asks w) w.rings.back.stage ≡ false → back.ring_moves (back_asks w) w.rings.back.stage ≡ false
    → P (back_says w []) back_ask.Wait (λ x. back_step.ring_step false (back_asks w) (backend_of w) x))
    → P (back_does w) (back.ask_of (backend_of w)) (λ x. back_step.step_of (backend_of w) x)
back_cases P w spoken attached moved waited = by_test (back.bus_moves (back_asks w) w.rings.back.stage) (back.ring_moves (back_asks w) w.rings.back.stage) refl refl
  where
    b : BackView
    b = back_learns w

    takes_terms : (says : Bool) → Bool
    takes_terms says = says && back_step.reads_layout (back_asks w) && is_none (halted_at w (back_turn w)) && ring.attaches_at w.rings (back_step.shape_read b) b.grefs

    with_halts : (says : Bool) (ask : BackAsk) (step : BackAnswer → back_view.View) → back.bus_moves (back_asks w) w.rings.back.stage ≡ says
        → P (ring.Negotiates end.Back (back_key (back_asks w)) ∷ back_halts says w) ask step → P (back_negotiates false w b) ask step
    with_halts says ask step e holds = subst (λ (s : Bool). P (ring.Negotiates end.Back (back_key (back_asks w)) ∷ back_halts s w) ask step) (sym e) holds

    says_so : (takes : Bool) → back.bus_moves (back_asks w) w.rings.back.stage ≡ true → takes_terms true ≡ takes
        → P (back_negotiates takes w b) (back.key_ask (back_asks w)) (λ x. back_step.spoken (backend_of w) x)
    says_so true says e = attached says (ap takes_terms says ∙ e)
    says_so false says e = with_halts true _ _ says (spoken says (ap takes_terms says ∙ e))

    by_test : (says moves : Bool) → back.bus_moves (back_asks w) w.rings.back.stage ≡ says → back.ring_moves (back_asks w) w.rings.back.stage ≡ moves
        → P (if (if says then false else moves) then ring.BackMoves ∷ [] else back_negotiates (takes_terms says) w b)
        (if says then back.key_ask (back_asks w) else back.ring_ask moves (backend_of w))
        (λ x. if says then back_step.spoken (backend_of w) x else back_step.ring_step moves (back_asks w) (backend_of w) x)
    by_test true moves says does = says_so (takes_terms true) says refl
    by_test false true says does = moved says does
    by_test false false says does = with_halts false _ _ says (waited says does)

-- a front that doesn't speak may only take its watch
pub quiet_front : (a : FrontBusAsk) → front.speaks a ≡ false → front_key a ≡ TakesWatch
quiet_front front_bus.Watch quiet = absurd (true≢false quiet)
quiet_front front_bus.GetState quiet = absurd (true≢false quiet)
quiet_front (front_bus.GetKey key) quiet = absurd (true≢false quiet)
quiet_front (front_bus.SetState s) quiet = absurd (true≢false quiet)
quiet_front (front_bus.SetKey key value) quiet = absurd (true≢false quiet)
quiet_front a quiet = refl

pub quiet_back : (a : BackBusAsk) → back.speaks a ≡ false → back_key a ≡ TakesWatch
quiet_back back_bus.Watch quiet = absurd (true≢false quiet)
quiet_back back_bus.GetState quiet = absurd (true≢false quiet)
quiet_back (back_bus.GetKey key) quiet = absurd (true≢false quiet)
quiet_back (back_bus.SetState s) quiet = absurd (true≢false quiet)
quiet_back (back_bus.SetKey key value) quiet = absurd (true≢false quiet)
quiet_back a quiet = refl

-- what is true of each ask for a watch, a state or a key is true of what a negotiation that speaks asks
pub front_spoken : (P : FrontBusAsk → Type 0) → P front_bus.Watch → P front_bus.GetState → ((key : BackKey) → P (front_bus.GetKey key)) → ((s : BusState) → P (front_bus.SetState s)) → ((key : FrontKey) (value : KeyValue) → P (front_bus.SetKey key value))
    → (a : FrontBusAsk) → front.speaks a ≡ true → P a
front_spoken P watch state key sets writes front_bus.Watch says = watch
front_spoken P watch state key sets writes front_bus.GetState says = state
front_spoken P watch state key sets writes (front_bus.GetKey k) says = key k
front_spoken P watch state key sets writes (front_bus.SetState s) says = sets s
front_spoken P watch state key sets writes (front_bus.SetKey k value) says = writes k value
front_spoken P watch state key sets writes a says = absurd (true≢false (sym says))

pub back_spoken : (P : BackBusAsk → Type 0) → P back_bus.Watch → P back_bus.GetState → ((key : FrontKey) → P (back_bus.GetKey key)) → ((s : BusState) → P (back_bus.SetState s)) → ((key : BackKey) (value : KeyValue) → P (back_bus.SetKey key value))
    → (a : BackBusAsk) → back.speaks a ≡ true → P a
back_spoken P watch state key sets writes back_bus.Watch says = watch
back_spoken P watch state key sets writes back_bus.GetState says = state
back_spoken P watch state key sets writes (back_bus.GetKey k) says = key k
back_spoken P watch state key sets writes (back_bus.SetState s) says = sets s
back_spoken P watch state key sets writes (back_bus.SetKey k value) says = writes k value
back_spoken P watch state key sets writes a says = absurd (true≢false (sym says))

-- no such ask is a wait
pub front_key_asks : (a : FrontBusAsk) → front.speaks a ≡ true → is_wait (front.key_ask a) ≡ false
front_key_asks = front_spoken (λ a. is_wait (front.key_ask a) ≡ false) refl refl (λ key. refl) (λ s. refl) (λ key value. refl)

pub back_key_asks : (a : BackBusAsk) → back.speaks a ≡ true → back_ring.is_wait (back.key_ask a) ≡ false
back_key_asks = back_spoken (λ a. back_ring.is_wait (back.key_ask a) ≡ false) refl refl (λ key. refl) (λ s. refl) (λ key value. refl)

-- a back's negotiation that speaks leaves the move to an end of the ring that is within a step
pub within_moves : (a : BackBusAsk) (s : BackStage) → back.speaks a ≡ true → back.is_between s ≡ false → back.ring_moves a s ≡ true
within_moves a back_ring_stage.InitWait says within = absurd (true≢false within)
within_moves a back_ring_stage.MapRing says within = absurd (true≢false within)
within_moves a back_ring_stage.Bind says within = absurd (true≢false within)
within_moves a s says within = back_spoken (λ b. back.ring_moves b s ≡ true) refl refl (λ key. refl) (λ own. refl) (λ key value. refl) a says

-- so it doesn't speak where both wait
pub waits_quiet : (a : BackBusAsk) (s : BackStage) → back.bus_moves a s ≡ false → back.ring_moves a s ≡ false → back.speaks a ≡ false
waits_quiet a s quiet still = by_test (back.speaks a) refl
  where
    by_test : (says : Bool) → back.speaks a ≡ says → back.speaks a ≡ false
    by_test true says = absurd (true≢false (sym (within_moves a s says (sym (ap (λ (b : Bool). b && back.is_between s) says) ∙ quiet)) ∙ still))
    by_test false says = says

-- a negotiation that speaks is answered at once
pub front_speaks : (h : Hypervisor) (a : FrontBusAsk) → front.speaks a ≡ true → front_act h (front.key_ask a) ≢ None
front_speaks h =
    front_spoken (λ a. front_act h (front.key_ask a) ≢ None) (λ e. none-some _ (sym e)) (λ e. none-some _ (sym e)) (λ key e. none-some _ (sym e)) (λ s e. none-some _ (sym e)) (λ key value e. none-some _ (sym e))

pub back_speaks : (h : Hypervisor) (a : BackBusAsk) → back.speaks a ≡ true → back_act h back_mover.Back (back.key_ask a) Took ≢ None
back_speaks h =
    back_spoken (λ a. back_act h back_mover.Back (back.key_ask a) Took ≢ None) (λ e. none-some _ (sym e)) (λ e. none-some _ (sym e)) (λ key e. none-some _ (sym e)) (λ s e. none-some _ (sym e)) (λ key value e. none-some _ (sym e))

-- what a negotiation is answered is of its ask's kind
pub front_told : (h : Hypervisor) (a : FrontBusAsk) (x : FrontAct) → front.speaks a ≡ true → front_act h (front.key_ask a) ≡ Some x → front_bus_ends.IsAnswer a x.answer
front_told h front_bus.Watch x says e = of_front (λ (y : FrontAct). front_bus_ends.IsAnswer front_bus.Watch y.answer) _ x tt e
front_told h front_bus.GetState x says e = of_front (λ (y : FrontAct). front_bus_ends.IsAnswer front_bus.GetState y.answer) _ x tt e
front_told h (front_bus.GetKey key) x says e = of_front (λ (y : FrontAct). front_bus_ends.IsAnswer (front_bus.GetKey key) y.answer) _ x tt e
front_told h (front_bus.SetState s) x says e = of_front (λ (y : FrontAct). front_bus_ends.IsAnswer (front_bus.SetState s) y.answer) _ x tt e
front_told h (front_bus.SetKey key value) x says e = of_front (λ (y : FrontAct). front_bus_ends.IsAnswer (front_bus.SetKey key value) y.answer) _ x tt e
front_told h a x says e = absurd (true≢false (sym says))

pub back_told : (h : Hypervisor) (a : BackBusAsk) (x : BackAct) → back.speaks a ≡ true → back_act h back_mover.Back (back.key_ask a) Took ≡ Some x → back_bus_ends.IsAnswer a x.answer
back_told h back_bus.Watch x says e = of_back (λ (y : BackAct). back_bus_ends.IsAnswer back_bus.Watch y.answer) _ x tt e
back_told h back_bus.GetState x says e = of_back (λ (y : BackAct). back_bus_ends.IsAnswer back_bus.GetState y.answer) _ x tt e
back_told h (back_bus.GetKey key) x says e = of_back (λ (y : BackAct). back_bus_ends.IsAnswer (back_bus.GetKey key) y.answer) _ x tt e
back_told h (back_bus.SetState s) x says e = of_back (λ (y : BackAct). back_bus_ends.IsAnswer (back_bus.SetState s) y.answer) _ x tt e
back_told h (back_bus.SetKey key value) x says e = of_back (λ (y : BackAct). back_bus_ends.IsAnswer (back_bus.SetKey key value) y.answer) _ x tt e
back_told h a x says e = absurd (true≢false (sym says))
