-- What is known of the front at every moment, and where its negotiation and its end of the ring ask for nothing.
use Rattle.std.proofs.Common.{◌⊎◌, inl, inr, ◌≡◌, ◌∙◌, ap, sym, subst, refl, ℕ, ◌≤◌, ◌&&◌, ◌||◌, Bool, true, false, true≢false, if◌then◌else◌, List, [], ◌∷◌}
use Rattle.std.specs.Prelude.{Option, Some, None, ◌==◌}
use Rattle.std.proofs.lemmas.Option.{none-some}
use Rattle.blk_base.specs.Options.{Options}
use Rattle.blk_base.specs.declared.parts.End.TheVariants as end
use Rattle.blk_base.specs.declared.ask.FrontAsk.{FrontAsk}
use Rattle.blk_base.specs.declared.ask.FrontAsk.TheVariants as front_ask
use Rattle.blk_base.specs.declared.ask.FrontAnswer.{FrontAnswer}
use Rattle.ring_words.specs.Ring.{responses_of}
use Rattle.hypervisor.specs.Act.{FrontAct, BackAct, front_act, front_watched, watch_next}
use Rattle.blk_front.specs.declared.stage.FrontStage.{FrontStage}
use Rattle.blk_front.specs.declared.stage.FrontStage.TheVariants as ring_stage
use Rattle.blk_front.specs.declared.request.Request.{Request}
use Rattle.blk_front.specs.declared.request.Transfer.{Transfer}
use Rattle.blk_front.specs.declared.request.Transfer.TheVariants as transfer
use Rattle.blk_front.specs.declared.state.FrontState.{FrontState}
use Rattle.blk_front.specs.declared.state.FrontState.TheVariants as enter
use Rattle.blk_front.specs.Request.{is_indirect}
use Rattle.blk_front.specs.View as ends
use Rattle.blk_front.specs.Ask as front_ring
use Rattle.blk_front.specs.State.{is_open, enters}
use Rattle.blk_front.specs.Suspend.{resumed}
use Rattle.blk_front.specs.Submit.{is_ready, is_wait}
use Rattle.xenbus_state.specs.declared.state.BusState.{BusState}
use Rattle.xenbus_state.specs.declared.state.BusState.TheVariants as state
use Rattle.xenbus_state.specs.declared.stage.FrontBusStage.{FrontBusStage}
use Rattle.xenbus_state.specs.declared.stage.FrontBusStage.TheVariants as stage
use Rattle.xenbus_state.specs.declared.front.FrontBusAsk.{FrontBusAsk}
use Rattle.xenbus_state.specs.declared.front.FrontBusAsk.TheVariants as bus_ask
use Rattle.xenbus_state.specs.FrontView.{FrontView}
use Rattle.xenbus_state.specs.FrontAsk as bus
use Rattle.split_model.specs.World as rings
use Rattle.split_model.specs.Happening as ring
use Rattle.split_model.proofs.SafeActs.{of_front, front_event}
use Rattle.split_model.proofs.SafeAnswers.{front_answered}
use Rattle.vbd_front.specs.View as front_view
use Rattle.vbd_front.specs.Ask as front
use Rattle.vbd_front.specs.Step as front_step
use Rattle.vbd_model.specs.World.{World, start_of, frontend_of}
use Rattle.vbd_model.specs.Happening.{Happening, FrontMoves, BackMoves, JobMoves, Closes, Submits, Suspends, front_turn, front_does, entered_at, happens, after}
use Rattle.vbd_model.specs.Fit.{IsFit}
use Rattle.negotiation_laws.proofs.Choices.{either}
use Rattle.vbd_laws.specs.Waits.{Check, Awake, front_checks, front_check_by, front_check_in, front_check}
use Rattle.vbd_laws.proofs.Fit.{fit_start, fit_happens}
use Rattle.vbd_laws.proofs.MovesTurns.{front_asks, front_says, front_cases, front_spoken}
use Rattle.vbd_laws.proofs.MovesFront.{front_waits, after_front_move}
use Rattle.vbd_laws.proofs.NegotiatedFront.{HasInHand}
use Rattle.vbd_laws.proofs.WaitsFrontRing.{StandsAt, Stands, stands_step, stands_resumed, asks_some}
use Rattle.vbd_laws.proofs.WaitsFrontEnters.{stands_enters, stands_submit}
use Rattle.vbd_laws.proofs.MovesBack.{after_back_move}

-- the machine is fit, and the front's end of the ring sleeps where its last look found nothing
pub record Knows (w : World) (c : Check) : Type 0 where
  pub fit : IsFit w
  pub ring : Stands w.rings.front c

-- data that are left are in hand
hand_at : (s : FrontStage) (f : ends.View) (c : Check) → StandsAt s f c → HasInHand s f.ending
hand_at (ring_stage.LeftData n) f c is = is.1
hand_at s f c is = tt

pub in_hand : (w : World) (c : Check) → Knows w c → HasInHand w.rings.front.stage w.rings.front.ending
in_hand w c k = hand_at w.rings.front.stage w.rings.front c k.ring

-- what it is to tell is heard
heard_at : (s : FrontStage) (f : ends.View) (c : Check) → StandsAt s f c → StandsAt s (record f { told = None }) c
heard_at (ring_stage.Data n) f c is = is
heard_at s f c is = is

all_enter : (states : List FrontState) (f : ends.View) (c : Check) → Stands f c → Stands (front_step.all_entered states f) c
all_enter [] f c is = is
all_enter (s ∷ states) f c is = all_enter states (enters s f) c (stands_enters s f c is)

-- its keys and its watch leave the check
keys_check : (b : FrontBusAsk) (consumer : ℕ) (x : FrontAnswer) (c : Check) → front.speaks b ≡ true → front_checks consumer (front.key_ask b) x c ≡ c
keys_check b consumer x c = front_spoken (λ a. front_checks consumer (front.key_ask a) x c ≡ c) refl refl (λ key. refl) (λ s. refl) (λ key value. refl) b

abbrev Goes : World → Check → FrontAct → List ring.Happening → FrontAsk → (FrontAnswer → front_view.View) → Type 0
Goes w c a does ask step = front_act w.rings.under ask ≡ Some a → (let v : front_view.View = step a.answer in Stands v.ring (front_checks w.rings.front.ring.indices.cons ask a.answer c))

says_goes : (w : World) (c : Check) (a : FrontAct) → Knows w c → front.speaks (front_asks w) ≡ true
    → Goes w c a (front_says w (entered_at w (front_turn w))) (front.key_ask (front_asks w)) (λ x. front_step.spoken (frontend_of w) x)
says_goes w c a k says e =
    subst (λ (d : Check). Stands (front_step.all_entered (front_step.states_after (frontend_of w) a.answer) w.rings.front) d) (sym (keys_check (front_asks w) w.rings.front.ring.indices.cons a.answer c says))
    (all_enter (front_step.states_after (frontend_of w) a.answer) w.rings.front c k.ring)

moves_goes : (w : World) (c : Check) (a : FrontAct) → Knows w c → Goes w c a (ring.FrontMoves ∷ []) (front_ring.ask_of w.rings.front) (λ x. front_step.ring_step true (front_asks w) (frontend_of w) x)
moves_goes w c a k e = stands_step w.rings.front a.answer c k.ring (front_answered w.rings.under w.rings.front a e)

-- where neither its negotiation nor its end of the ring has a move no event comes
waits_goes : (w : World) (c : Check) (a : FrontAct) → Knows w c → front.speaks (front_asks w) ≡ false → front.ring_moves (front_asks w) w.rings.front.stage ≡ false
    → Goes w c a (front_says w []) front_ask.Wait (λ x. front_step.ring_step false (front_asks w) (frontend_of w) x)
waits_goes w c a k quiet still e =
    by_watch (watch_next w.rings.under end.Front)
    (subst (λ (b : Bool). (if b then Some (front_event w.rings.under) else front_watched w.rings.under (watch_next w.rings.under end.Front)) ≡ Some a) (front_waits w k.fit quiet still) e)
  where
    by_watch : (next : Option (List ℕ)) → front_watched w.rings.under next ≡ Some a → Stands w.rings.front (front_checks w.rings.front.ring.indices.cons front_ask.Wait a.answer c)
    by_watch None e = absurd (none-some a e)
    by_watch (Some path) e = of_front (λ (x : FrontAct). Stands w.rings.front (front_checks w.rings.front.ring.indices.cons front_ask.Wait x.answer c)) _ a k.ring e

goes : (w : World) (c : Check) (a : FrontAct) → Knows w c → Goes w c a (front_does w) (front.ask_of (frontend_of w)) (λ x. front_step.step_of (frontend_of w) x)
goes w c a k = front_cases (Goes w c a) w (says_goes w c a k) (λ quiet moves. moves_goes w c a k) (waits_goes w c a k)

-- the front after something that happens
abbrev StandsIn : Check → World → Type 0
StandsIn c u = Stands u.rings.front c

job_turns : (w : World) (c : Check) (number : ℕ) (act : Option BackAct) → Stands w.rings.front c → (let r : rings.World = ring.job_after w.rings number act in Stands r.front c)
job_turns w c number None is = is
job_turns w c number (Some a) is = is

-- the domain is suspended
suspends : (w : World) (c : Check) → Stands w.rings.front c → StandsIn (front_check_in w Suspends c) (happens w Suspends)
suspends w c is = by_may (rings.may_suspend w.rings)
  where
    by_may : (may : Bool) → Stands (let r : rings.World = if may then rings.suspended w.rings else w.rings in r.front) (if may && is_open w.rings.front.stage then Awake else c)
    by_may true = elim (is_open w.rings.front.stage) as (λ o. Stands (if o then resumed w.rings.front else w.rings.front) (if o then Awake else c)) [ true ↦ stands_resumed w.rings.front c is | false ↦ is ]
    by_may false = is

stands_on : (w : World) (h : Happening) (c : Check) → Knows w c → StandsIn (front_check_in w h c) (happens w h)
stands_on w FrontMoves c k =
    after_front_move (λ act u. StandsIn (front_check_by w act c) u) w k.fit k.ring
    (λ a e. let v : front_view.View = front_step.step_of (frontend_of w) a.answer in heard_at v.ring.stage v.ring (front_check_by w (Some a) c) (goes w c a k e))
stands_on w BackMoves c k = after_back_move (λ act u. StandsIn c u) w k.fit k.ring (λ a e. k.ring)
stands_on w (JobMoves number outcome) c k = job_turns w c number (ring.job_turn w.rings number outcome) k.ring
stands_on w (Closes end.Front) c k = stands_enters enter.Closing w.rings.front c k.ring
stands_on w (Closes end.Back) c k = k.ring
stands_on w (Submits job) c k = stands_submit w.rings.front job c k.ring
stands_on w Suspends c k = suspends w c k.ring
stands_on w h c k = k.ring

pub knows_on : (w : World) (h : Happening) (c : Check) → Knows w c → Knows (happens w h) (front_check_in w h c)
knows_on w h c k = record { fit = fit_happens w h k.fit; ring = stands_on w h c k }

pub knows_start : (config : Options) → config.indirect ≤ 960 → Knows (start_of config) Awake
knows_start config few = record { fit = fit_start config few; ring = ((refl, refl), tt) }

pub knows_after : (hs : List Happening) (w : World) (c : Check) → Knows w c → Knows (after hs w) (front_check hs w c)
knows_after [] w c k = k
knows_after (h ∷ hs) w c k = knows_after hs (happens w h) (front_check_in w h c) (knows_on w h c k)

-- an ask that is no wait
pub asks_on : {A : Type 0} (a : FrontAsk) → is_wait a ≡ false → a ≡ front_ask.Wait → A
asks_on a on e = absurd (true≢false (sym (ap is_wait e) ∙ on))

pub bus_asks_on : {A : Type 0} (b : FrontBusAsk) → front_view.rests b ≡ false → b ≡ bus_ask.Wait → A
bus_asks_on b on e = absurd (true≢false (sym (ap front_view.rests e) ∙ on))

-- where its negotiation asks for nothing, that rests or has come to its end
abbrev pub BusWaits : FrontView → Bool → Type 0
BusWaits v idle = ((v.stage ≡ stage.Rest) × (((v.closing && idle) ≡ false) ⊎ ((v.state ≡ state.Closing) × (v.gone ≡ false)))) ⊎ (v.stage ≡ stage.Closed) ⊎ ((word : ℕ) × (v.stage ≡ stage.Broken word))

pub bus_waits : (v : FrontView) (idle : Bool) → bus.ask_of v idle ≡ bus_ask.Wait → BusWaits v idle
bus_waits v idle e = by_stage v.stage refl e
  where
    leaves : (gone : Bool) (port : Option ℕ) → v.stage ≡ stage.Rest → v.state ≡ state.Closing → v.gone ≡ gone → bus.ask_at (bus.leaving gone port) v ≡ bus_ask.Wait → BusWaits v idle
    leaves false port here own g e = inl (here, inr (own, g))
    leaves true None here own g e = bus_asks_on bus_ask.EndOtherGrants refl e
    leaves true (Some port) here own g e = bus_asks_on (bus_ask.EndGrant 0) refl e

    by_state : (own : BusState) → v.stage ≡ stage.Rest → v.state ≡ own → bus.ask_at (bus.closing_stage own v) v ≡ bus_ask.Wait → BusWaits v idle
    by_state state.Closing here own e = leaves v.gone v.port here own refl e
    by_state s here own e = bus_asks_on (bus_ask.SetState state.Closing) refl e

    by_test : (c : Bool) → v.stage ≡ stage.Rest → (v.closing && idle) ≡ c → bus.ask_at (if c then bus.closing_stage v.state v else stage.Rest) v ≡ bus_ask.Wait → BusWaits v idle
    by_test true here t e = by_state v.state here refl e
    by_test false here t e = inl (here, inl t)

    by_stage : (s : FrontBusStage) → v.stage ≡ s → bus.ask_at (bus.due_at s v idle) v ≡ bus_ask.Wait → BusWaits v idle
    by_stage stage.Rest here e = by_test (v.closing && idle) here refl e
    by_stage stage.Closed here e = inr (inl here)
    by_stage (stage.Broken word) here e = inr (inr (word, here))
    by_stage stage.Start here e = bus_asks_on bus_ask.Watch refl e
    by_stage stage.ReadState here e = bus_asks_on bus_ask.GetState refl e
    by_stage (stage.ReadFeature key) here e = bus_asks_on (bus_ask.GetKey key) refl e
    by_stage (stage.RingWord word) here e = bus_asks_on (bus_ask.WriteRingWord word) refl e
    by_stage (stage.Grant page) here e = bus_asks_on (bus_ask.Grant page) refl e
    by_stage stage.NewPort here e = bus_asks_on bus_ask.NewPort refl e
    by_stage (stage.Publish key) here e = bus_asks_on (bus.ask_at (stage.Publish key) v) refl e
    by_stage (stage.ReadFact key) here e = bus_asks_on (bus_ask.GetKey key) refl e
    by_stage (stage.WriteState s) here e = bus_asks_on (bus_ask.SetState s) refl e
    by_stage (stage.EndGrant page) here e = bus_asks_on (bus_ask.EndGrant page) refl e
    by_stage stage.EndOtherGrants here e = bus_asks_on bus_ask.EndOtherGrants refl e
    by_stage stage.ClosePort here e = bus_asks_on bus_ask.ClosePort refl e

pub issue_asks : (f : ends.View) (r : Request) (way : Transfer) → is_wait (front_ring.issue_ask f r way) ≡ false
issue_asks f r transfer.Read = either (λ (a : FrontAsk). is_wait a ≡ false) (is_indirect r.count) (front_ring.page_ask (Some r) 0) (front_ring.name_ask (Some r) 0) refl refl
issue_asks f r other = refl

-- a connected front's end of the ring waits in its loop alone
pub loop_waits : (f : ends.View) → front_ring.loop_ask f (ends.next_request f) ≡ front_ask.Wait → (ends.next_request f ≡ None) × ((f.ring.asleep || front_ring.is_through f) ≡ true)
loop_waits f e = by_next (ends.next_request f) refl e
  where
    by_none : (waits none : Bool) → (f.ring.asleep || front_ring.is_through f) ≡ waits
        → (if waits then front_ask.Wait else (if none then front_ask.Read ends.ring_frame 2 else front_ask.Read (ends.slot_frame f.shape f.ring.indices.cons 0) (ends.slot_word f.shape f.ring.indices.cons 0))) ≡ front_ask.Wait → (f.ring.asleep || front_ring.is_through f) ≡ true
    by_none true none t e = t
    by_none false true t e = asks_on _ refl e
    by_none false false t e = asks_on _ refl e

    by_next : (next : Option Request) → ends.next_request f ≡ next → front_ring.loop_ask f next ≡ front_ask.Wait → (ends.next_request f ≡ None) × ((f.ring.asleep || front_ring.is_through f) ≡ true)
    by_next (Some r) n e = asks_on (front_ring.issue_ask f r r.transfer) (issue_asks f r r.transfer) e
    by_next None n e = (n, by_none (f.ring.asleep || front_ring.is_through f) (responses_of f.ring.indices f.ring.seen == 0) refl e)

pub ready_waits : (s : FrontStage) (f : ends.View) (c : Check) → is_ready s ≡ true → StandsAt s f c → front_ring.ask_at s f ≡ front_ask.Wait → s ≡ ring_stage.Loop
ready_waits ring_stage.Loop f c ready is e = refl
ready_waits (ring_stage.Data n) f c ready is e = asks_some (ends.next_request f) (λ r. front_ring.data_ask r n) is.1 (λ r. refl) e
ready_waits (ring_stage.Pages n) f c ready is e = asks_some (ends.next_request f) (λ r. front_ring.page_ask r n) is.1 (λ r. refl) e
ready_waits (ring_stage.GrantFrame n) f c ready is e = asks_some (ends.next_request f) (λ r. front_ring.name_ask r n) is.1 (λ r. refl) e
ready_waits (ring_stage.GrantFlags n) f c ready is e = asks_some (ends.next_request f) (λ r. front_ring.grant_ask r n) is.1 (λ r. refl) e
ready_waits (ring_stage.GrantRead n) f c ready is e = asks_some f.ending (λ r. front_ring.revoke_ask r n) is.1 (λ r. refl) e
ready_waits (ring_stage.GrantEnd n seen) f c ready is e = asks_some f.ending (λ r. front_ring.end_ask r n seen) is.1 (λ r. refl) e
ready_waits (ring_stage.ReadData n) f c ready is e = asks_some f.ending (λ r. front_ring.read_ask r n) is.1 (λ r. refl) e
ready_waits (ring_stage.GrantFence place) f c ready is e = asks_on _ refl e
ready_waits (ring_stage.Slot k) f c ready is e = asks_on _ refl e
ready_waits ring_stage.Producer f c ready is e = asks_on _ refl e
ready_waits (ring_stage.ProducerFence old) f c ready is e = asks_on _ refl e
ready_waits (ring_stage.RequestEvent old) f c ready is e = asks_on _ refl e
ready_waits ring_stage.Send f c ready is e = asks_on _ refl e
ready_waits (ring_stage.ResponseHigh low) f c ready is e = asks_on _ refl e
ready_waits (ring_stage.ResponseLast low high) f c ready is e = asks_on _ refl e
ready_waits ring_stage.StoreEvent f c ready is e = asks_on _ refl e
ready_waits ring_stage.EventFence f c ready is e = asks_on _ refl e
ready_waits ring_stage.LookAgain f c ready is e = asks_on _ refl e
ready_waits s f c ready is e = absurd (true≢false (sym ready))
