-- The back waits in its three cases alone.
use Rattle.std.proofs.Common.{inl, inr, ◌≡◌, ◌∙◌, ap, sym, subst, refl, ◌&&◌, Bool, true, false, true≢false, if◌then◌else◌, List, [], ◌∷◌}
use Rattle.std.specs.Prelude.{Option, Some, None, is_some}
use Rattle.line_text.proofs.Both.{both_true}
use Rattle.blk_base.specs.declared.parts.End.TheVariants as end
use Rattle.blk_base.specs.declared.ask.BackAsk.{BackAsk}
use Rattle.blk_base.specs.declared.ask.BackAsk.TheVariants as back_ask
use Rattle.blk_base.specs.declared.ask.BackAnswer.{BackAnswer}
use Rattle.blk_base.specs.declared.ask.BackAnswer.TheVariants as answer
use Rattle.blk_base.specs.declared.moves.BackMover.TheVariants as back_mover
use Rattle.hypervisor.specs.Act.{BackAct, Took, back_act}
use Rattle.blk_base.specs.declared.halt.Halt.{Halt}
use Rattle.blk_back.specs.View as ends
use Rattle.blk_back.specs.Ask as back_ring
use Rattle.blk_back.specs.Step as ring_step
use Rattle.xenbus_state.specs.declared.state.BusState.{BusState}
use Rattle.xenbus_state.specs.declared.state.BusState.TheVariants as state
use Rattle.xenbus_state.specs.declared.stage.BackBusStage.{BackBusStage}
use Rattle.xenbus_state.specs.declared.stage.BackBusStage.TheVariants as stage
use Rattle.xenbus_state.specs.declared.table.BackAction.TheVariants as action
use Rattle.xenbus_state.specs.declared.back.BackBusAsk.{BackBusAsk}
use Rattle.xenbus_state.specs.declared.back.BackBusAsk.TheVariants as bus_ask
use Rattle.xenbus_state.specs.Tables.{bad_order, back_action}
use Rattle.xenbus_state.specs.BackView.{BackView, is_halting, unplugged}
use Rattle.xenbus_state.specs.BackAsk as bus
use Rattle.xenbus_state.specs.BackStep.{step_of}
use Rattle.blk_front.specs.State.{is_open}
use Rattle.split_model.specs.World as rings
use Rattle.split_model.specs.Happening as ring
use Rattle.split_model.proofs.SafeAnswers.{IsBacks, backs_of, back_answered}
use Rattle.vbd_back.specs.View as back_view
use Rattle.vbd_back.specs.Ask as back
use Rattle.vbd_back.specs.Step as back_step
use Rattle.vbd_model.specs.World.{World, start_of, backend_of}
use Rattle.vbd_model.specs.Happening.{Happening, FrontMoves, BackMoves, Closes, Suspends, back_turn, back_does, halted_at, renewed_bus, happens, after}
use Rattle.vbd_model.specs.Fit.{BackGoesWith}
use Rattle.negotiation_laws.proofs.Choices.{unplugged_cases}
use Rattle.vbd_laws.specs.Waits as waits
use Rattle.vbd_laws.specs.Waits.{Check, Awake, Heard, Unwatched, Watching, Fired, Read, back_hears, back_check, back_check_in, back_heard_by, back_heard_in, back_heard, is_serving, BackWaits}
use Rattle.xenbus_state.specs.declared.keys.FrontKey.{FrontKey}
use Rattle.vbd_laws.proofs.FitBackBus.{waits_reading}
use Rattle.vbd_laws.proofs.MovesTurns.{back_asks, back_learns, back_says, back_takes, back_cases, back_told, back_spoken}
use Rattle.vbd_laws.proofs.WaitsBack.{Knows, knows_start, knows_on, knows_after}
use Rattle.vbd_laws.proofs.WaitsBackCases.{MayWait, BusWaits, bus_waits, bus_asks_on, only_rests, unmaps_some, closed_so, may_wait, waits as waits_so}
use Rattle.vbd_laws.proofs.WaitsBackHeard.{IsDealt, Connects, HearsAt, Hears, told_hears, settled_hears, caught_hears, follows_hears, heard_waiting, woken_hears}
use Rattle.vbd_laws.proofs.MovesFront.{after_front_move}
use Rattle.vbd_laws.proofs.MovesBack.{after_back_move}

-- an ask for no key hears a watch alone
ring_heard : (a : BackAsk) (x : BackAnswer) (h : Heard) → IsBacks a → back_ring.IsAnswer a x → back_hears a x h ≡ heard_waiting x h
ring_heard back_ask.Wait answer.Event h own allowed = refl
ring_heard back_ask.Wait (answer.Watched path) h own allowed = refl
ring_heard back_ask.Fence answer.Done h own allowed = refl
ring_heard (back_ask.Read m word) (answer.Word value) h own allowed = refl
ring_heard (back_ask.Write m word value) answer.Done h own allowed = refl
ring_heard (back_ask.Map gref mode) (answer.Mapped m) h own allowed = refl
ring_heard (back_ask.Map gref mode) (answer.MapRefused status) h own allowed = refl
ring_heard (back_ask.Unmap m) answer.Done h own allowed = refl
ring_heard (back_ask.Bind port) answer.Done h own allowed = refl
ring_heard (back_ask.Bind port) answer.BindRefused h own allowed = refl
ring_heard back_ask.Send answer.Done h own allowed = refl
ring_heard back_ask.ClosePort answer.Done h own allowed = refl
ring_heard a x h own allowed = absurd allowed

wait_heard : (x : BackAnswer) (h : Heard) → back_hears back_ask.Wait x h ≡ heard_waiting x h
wait_heard (answer.Watched path) h = refl
wait_heard x h = refl

-- where it isn't a wait no watch is taken
unwatched : (a : BackAsk) (x : BackAnswer) (h : Heard) → (a ≡ back_ask.Wait → ⊥) → back_ring.IsAnswer a x → heard_waiting x h ≡ h
unwatched back_ask.Wait x h on allowed = absurd (on refl)
unwatched a (answer.Watched path) h on allowed = absurd allowed
unwatched a answer.Event h on allowed = refl
unwatched a x h on allowed = refl

is_wait_ask : (b : BackBusAsk) → back_view.rests b ≡ true → b ≡ bus_ask.Wait
is_wait_ask bus_ask.Wait is = refl
is_wait_ask b is = absurd (true≢false (sym is))

-- a negotiation that speaks while its end of the ring is within a step learns nothing
speaking_left : (b : BackBusAsk) (v : BackView) (a : BackAnswer) → back.speaks b ≡ true → back_step.followed b v a ≡ v
speaking_left b v a = back_spoken (λ asked. back_step.followed asked v a ≡ v) refl refl (λ key. refl) (λ s. refl) (λ key value. refl) b

module _ (w : World) (c : Check) (h : Heard) (k : Knows w c) (l : Hears w.back h) where
  follows_so : (x : BackAnswer) → back_ring.IsAnswer (back_ring.ask_of w.rings.back) x → (back_ring.ask_of w.rings.back ≡ back_ask.Wait → back.ask_of (backend_of w) ≡ back_ask.Wait)
      → Hears (back_step.followed (back_asks w) w.back x) (back_hears (back_ring.ask_of w.rings.back) x h)
  follows_so x allowed waiting = by_rests (back_view.rests (back_asks w)) refl
    where
      heard_is : back_hears (back_ring.ask_of w.rings.back) x h ≡ heard_waiting x h
      heard_is = ring_heard (back_ring.ask_of w.rings.back) x h (backs_of w.rings.back) allowed

      by_speaks : (b : Bool) → back.speaks (back_asks w) ≡ b → back_view.rests (back_asks w) ≡ false → Hears (back_step.followed (back_asks w) w.back x) h
      by_speaks true says on = subst (λ (v : BackView). Hears v h) (sym (speaking_left (back_asks w) w.back x says)) l
      by_speaks false says on = follows_hears w.back h x l says on

      by_rests : (b : Bool) → back_view.rests (back_asks w) ≡ b → Hears (back_step.followed (back_asks w) w.back x) (back_hears (back_ring.ask_of w.rings.back) x h)
      by_rests true is =
          let e = is_wait_ask (back_asks w) is in
          subst (λ (b : BackBusAsk). Hears (back_step.followed b w.back x) (back_hears (back_ring.ask_of w.rings.back) x h)) (sym e)
          (subst (λ (t : Heard). Hears (back_step.woken w.back x) t) (sym heard_is) (woken_hears w.back h x l e))
      by_rests false is =
          let on : back_ring.ask_of w.rings.back ≡ back_ask.Wait → ⊥ = λ e. bus_asks_on (back_asks w) is (only_rests w c k (waiting e)) in
          subst (λ (t : Heard). Hears (back_step.followed (back_asks w) w.back x) t) (sym (heard_is ∙ unwatched (back_ring.ask_of w.rings.back) x h on allowed)) (by_speaks (back.speaks (back_asks w)) refl is)

  asks_so : (moves : Bool) → back.bus_moves (back_asks w) w.rings.back.stage ≡ false → back.ring_moves (back_asks w) w.rings.back.stage ≡ moves → back.ask_of (backend_of w) ≡ back.ring_ask moves (backend_of w)
  asks_so moves quiet does =
      ap (λ (t : Bool). if t then back.key_ask (back_asks w) else back.ring_ask (back.ring_moves (back_asks w) w.rings.back.stage) (backend_of w)) quiet ∙ ap (λ (t : Bool). back.ring_ask t (backend_of w)) does

  waits_goes : (x : BackAnswer) → back.bus_moves (back_asks w) w.rings.back.stage ≡ false → back.ring_moves (back_asks w) w.rings.back.stage ≡ false → Hears (back_step.waited (back_asks w) w.back x) (back_hears back_ask.Wait x h)
  waits_goes x quiet stands =
      let e = only_rests w c k (asks_so false quiet stands) in
      subst (λ (b : BackBusAsk). Hears (back_step.waited b w.back x) (back_hears back_ask.Wait x h)) (sym e) (subst (λ (t : Heard). Hears (back_step.woken w.back x) t) (sym (wait_heard x h)) (woken_hears w.back h x l e))

abbrev Goes : World → Heard → BackAct → List ring.Happening → BackAsk → (BackAnswer → back_view.View) → Type 0
Goes w h a does ask step = back_act w.rings.under back_mover.Back ask Took ≡ Some a → (let x : back_view.View = step a.answer in Hears x.bus (back_hears ask a.answer h))

says_goes : (w : World) (c : Check) (h : Heard) (a : BackAct) (does : List ring.Happening) → Knows w c → Hears w.back h → back.bus_moves (back_asks w) w.rings.back.stage ≡ true → Goes w h a does (back.key_ask (back_asks w)) (λ x. back_step.spoken (backend_of w) x)
says_goes w c h a does k l moves e =
    let says : back.speaks (back_asks w) ≡ true = (both_true (back.speaks (back_asks w)) (back.is_between w.rings.back.stage) moves).0 in
    let r : ends.View = back_step.ring_led (back_step.halt_of (backend_of w) a.answer) (back_step.reads_layout (back_asks w)) (step_of w.back a.answer) w.rings.back in
    settled_hears r.stage (step_of w.back a.answer) (back_hears (back.key_ask (back_asks w)) a.answer h) (told_hears w.back w.rings.back.stage h a.answer k.fit.back l says (back_told w.rings.under (back_asks w) a says e))

moves_goes : (w : World) (c : Check) (h : Heard) (a : BackAct) → Knows w c → Hears w.back h → back.bus_moves (back_asks w) w.rings.back.stage ≡ false → back.ring_moves (back_asks w) w.rings.back.stage ≡ true
    → Goes w h a (ring.BackMoves ∷ []) (back_ring.ask_of w.rings.back) (λ x. back_step.ring_step true (back_asks w) (backend_of w) x)
moves_goes w c h a k l quiet does e =
    let allowed = back_answered w.rings.under w.rings.back Took a e in
    let r : ends.View = ring_step.step_of w.rings.back a.answer in
    caught_hears r.stage r.halted (back_step.followed (back_asks w) w.back a.answer) (back_hears (back_ring.ask_of w.rings.back) a.answer h) (follows_so w c h k l a.answer allowed (λ e. asks_so w c h k l true quiet does ∙ e))

goes : (w : World) (c : Check) (h : Heard) (a : BackAct) → Knows w c → Hears w.back h → Goes w h a (back_does w) (back.ask_of (backend_of w)) (λ x. back_step.step_of (backend_of w) x)
goes w c h a k l =
    back_cases (Goes w h a) w (λ moves untaken. says_goes w c h a (back_says w (halted_at w (back_turn w))) k l moves) (λ moves takes. says_goes w c h a (back_takes (back_learns w)) k l moves)
    (λ quiet does. moves_goes w c h a k l quiet does) (λ quiet stands e. waits_goes w c h k l a.answer quiet stands)

abbrev HearsIn : Heard → World → Type 0
HearsIn h u = Hears u.back h

close_turns : (v : BackView) (h : Heard) → Hears v h → Hears (unplugged v) h
close_turns v h l = unplugged_cases (λ (u : BackView). Hears u h) v l l

-- the domain is suspended: a new back has heard nothing
suspends : (w : World) (h : Heard) → Hears w.back h → HearsIn (back_heard_in w Suspends h) (happens w Suspends)
suspends w h l = by_may (rings.may_suspend w.rings)
  where
    by_may : (may : Bool) → Hears (if may then renewed_bus (is_open w.rings.front.stage) w.back else w.back) (if may then Unwatched else h)
    by_may true = elim (is_open w.rings.front.stage) as (λ o. Hears (renewed_bus o w.back) Unwatched) [ true ↦ refl | false ↦ tt ]
    by_may false = l

hears_on : (w : World) (happening : Happening) (c : Check) (h : Heard) → Knows w c → Hears w.back h → HearsIn (back_heard_in w happening h) (happens w happening)
hears_on w FrontMoves c h k l = after_front_move (λ act u. HearsIn h u) w k.fit l (λ a e. l)
hears_on w BackMoves c h k l = after_back_move (λ act u. HearsIn (back_heard_by w act h) u) w k.fit l (λ a e. goes w c h a k l e)
hears_on w (Closes end.Front) c h k l = l
hears_on w (Closes end.Back) c h k l = close_turns w.back h l
hears_on w Suspends c h k l = suspends w h l
hears_on w happening c h k l = l

hears_after : (hs : List Happening) (w : World) (c : Check) (h : Heard) → Knows w c → Hears w.back h → HearsIn (back_heard hs w h) (after hs w)
hears_after [] w c h k l = l
hears_after (x ∷ hs) w c h k l = hears_after hs (happens w x) (back_check_in w x c) (back_heard_in w x h) (knows_on w x c k) (hears_on w x c h k l)

module _ (w : World) (c : Check) (h : Heard) (k : Knows w c) (l : Hears w.back h) where
  -- where it rests it has done what the table gives
  done_by : (x : Heard) → IsDealt w.back.state x → waits.BackHasDone w.back.state w.back.unplugged x
  done_by Watching is = tt
  done_by (Read (Some state.Initialising)) is = ap (λ (b : Bool). if b then bad_order state.Initialising else action.Nothing) is
  done_by (Read (Some state.Initialised)) is = ap (λ (b : Bool). if b then action.Nothing else action.Connect) is
  done_by (Read (Some state.Connected)) is = ap (λ (b : Bool). if b then action.Nothing else action.Connect) is
  done_by (Read last) is = absurd is
  done_by other is = is

  running : w.back.stage ≡ stage.Rest → w.rings.back.halted ≡ None
  running here = by_halt w.rings.back.halted refl (k.fit.halted ∙ ap is_halting here)
    where
      by_halt : (o : Option Halt) → w.rings.back.halted ≡ o → is_some w.rings.back.halted ≡ false → w.rings.back.halted ≡ None
      by_halt None e is = e
      by_halt (Some why) e is = absurd (true≢false (sym (ap is_some e) ∙ is))

  rests_done : w.back.stage ≡ stage.Rest → bus.says_closing w.back ≡ false → waits.BackRests w h
  rests_done here quiet = record {
    done = done_by h (subst (λ (s : BackBusStage). HearsAt s w.back.state h) here l);
    runs = running here;
    said = λ asked own. true≢false (sym (rw (here, asked, own) refl) ∙ quiet);
  }

  done_rests : waits.BackRests w h → back_asks w ≡ bus_ask.Wait
  done_rests rests = by_stage w.back.stage refl l k.fit.back
    where
      unhalted : is_halting w.back.stage ≡ false
      unhalted = sym k.fit.halted ∙ ap is_some rests.runs

      halts : (s : BackBusStage) → w.back.stage ≡ s → is_halting s ≡ true → back_asks w ≡ bus_ask.Wait
      halts s here is = absurd (true≢false (sym is ∙ (ap is_halting (sym here) ∙ unhalted)))

      unheard : (x : Heard) → h ≡ x → (waits.BackHasDone w.back.state w.back.unplugged x → ⊥) → back_asks w ≡ bus_ask.Wait
      unheard x e none = absurd (none (subst (λ (y : Heard). waits.BackHasDone w.back.state w.back.unplugged y) e rests.done))

      connecting : (x : Heard) → Connects x → w.back.state ≡ state.InitWait → waits.BackHasDone w.back.state w.back.unplugged x → back_asks w ≡ bus_ask.Wait
      connecting (Read (Some state.Initialised)) is own done = let wrong : action.Connect ≡ action.Nothing = subst (λ (s : BusState). back_action s w.back.unplugged (Some state.Initialised) ≡ action.Nothing) own done in absurd (cc)
      connecting (Read (Some state.Connected)) is own done = let wrong : action.Connect ≡ action.Nothing = subst (λ (s : BusState). back_action s w.back.unplugged (Some state.Connected) ≡ action.Nothing) own done in absurd (cc)
      connecting x is own done = absurd is

      says_none : (asked : Bool) (own : BusState) → w.back.unplugged ≡ asked → w.back.state ≡ own → (asked && bus.says_closing_at stage.Rest own) ≡ false
      says_none true state.Connected u own = absurd (rests.said u own)
      says_none true own u at_own = not_connected own (λ is. rests.said u (at_own ∙ is))
        where
          not_connected : (own : BusState) → (own ≡ state.Connected → ⊥) → bus.says_closing_at stage.Rest own ≡ false
          not_connected state.Connected none = absurd (none refl)
          not_connected own none = refl
      says_none false own u at_own = refl

      at_rest : w.back.stage ≡ stage.Rest → back_asks w ≡ bus_ask.Wait
      at_rest here =
          ap (λ (s : BackBusStage). if w.back.unplugged && bus.says_closing_at s w.back.state then bus_ask.SetState state.Closing else bus.ask_at s w.back) here
          ∙ ap (λ (b : Bool). if b then bus_ask.SetState state.Closing else bus_ask.Wait) (says_none w.back.unplugged w.back.state refl refl)

      by_stage : (s : BackBusStage) → w.back.stage ≡ s → HearsAt s w.back.state h → BackGoesWith s w.back.state w.rings.back.stage → back_asks w ≡ bus_ask.Wait
      by_stage stage.Rest here is goes = at_rest here
      by_stage (stage.Publish key) here is goes = unheard Unwatched is (λ done. done)
      by_stage (stage.WriteState state.InitWait) here is goes = unheard Unwatched is (λ done. done)
      by_stage stage.Watch here is goes = unheard Unwatched is (λ done. done)
      by_stage stage.ReadState here is goes = unheard Fired is (λ done. done)
      by_stage (stage.ReadKey key) here is goes = connecting h is (reading key goes) rests.done
        where
          reading : (key : FrontKey) → BackGoesWith (stage.ReadKey key) w.back.state w.rings.back.stage → w.back.state ≡ state.InitWait
          reading key goes = (waits_reading key w.back.state w.rings.back.stage goes).0
      by_stage stage.MapPage here is goes = connecting h is goes.0 rests.done
      by_stage stage.Bind here is goes = connecting h is goes.0 rests.done
      by_stage (stage.PublishFact key) here is goes = connecting h is goes.0 rests.done
      by_stage (stage.WriteState state.Connected) here is goes = connecting h is goes.0 rests.done
      by_stage (stage.WriteState state.Closing) here is goes = halts (stage.WriteState state.Closing) here refl
      by_stage (stage.WriteState state.Closed) here is goes = halts (stage.WriteState state.Closed) here refl
      by_stage (stage.WriteState s) here is goes = absurd goes
      by_stage other here is goes = halts other here refl

  told_rests : back_asks w ≡ bus_ask.Wait → (w.back.state ≡ state.Closed → ⊥) → waits.BackRests w h
  told_rests e unclosed = by_bus (bus_waits w.back e)
    where
      by_bus : BusWaits w.back → waits.BackRests w h
      by_bus (inl found) = rests_done found.0 found.1
      by_bus (inr (inl here)) = absurd (unclosed (closed_so w c k here))
      by_bus (inr (inr found)) = unmaps_some w c k found.0 found.1

  early_open : w.back.state ≡ state.InitWait → w.back.state ≡ state.Closed → ⊥
  early_open own is = let wrong : state.InitWait ≡ state.Closed = sym own ∙ is in absurd (cc)

  serving_open : is_serving w.back.state ≡ true → w.back.state ≡ state.Closed → ⊥
  serving_open serves is = true≢false (sym serves ∙ ap is_serving is)

  told : MayWait w c → waits.BackMayWait w c h
  told (inl may) = inl (may.0, told_rests may.1 (early_open may.0))
  told (inr (inl may)) = inr (inl (record { serves = may.serves; rests = told_rests may.rests (serving_open may.serves); nothing_found = may.nothing_found; none_done = may.none_done; none_begun = may.none_begun }))
  told (inr (inr own)) = inr (inr own)

  untold : waits.BackMayWait w c h → MayWait w c
  untold (inl may) = inl (may.0, done_rests may.1)
  untold (inr (inl may)) = inr (inl (record { serves = may.serves; rests = done_rests may.rests; nothing_found = may.nothing_found; none_done = may.none_done; none_begun = may.none_begun }))
  untold (inr (inr own)) = inr (inr own)

pub back_waits_alone : BackWaits
back_waits_alone config hs few =
    let w = after hs (start_of config) in
    let c = back_check hs (start_of config) Awake in
    let h = back_heard hs (start_of config) Unwatched in
    let first = knows_start config few in
    let k = knows_after hs (start_of config) Awake first in
    let l = hears_after hs (start_of config) Awake Unwatched first refl in
    (λ e. told w c h k l (may_wait w c k e), λ may. waits_so w c k (untold w c h k l may))
