-- The machine stays fit as the front moves, and as it is asked to close.
use Rattle.std.proofs.Common.{◌≡◌, ℕ, ◌≤◌, Bool, true, false, true≢false, if◌then◌else◌, List, [], ◌∷◌, ◌++◌, map, refl, sym, ap, ◌∙◌, subst, arith, decimal}
use Rattle.std.specs.Prelude.{Option, Some, None, min}
use Rattle.blk_base.specs.declared.parts.End.TheVariants as end
use Rattle.blk_base.specs.declared.ask.FrontAsk.{FrontAsk}
use Rattle.blk_base.specs.declared.ask.FrontAsk.TheVariants as front_ask
use Rattle.blk_base.specs.declared.ask.FrontAnswer.{FrontAnswer}
use Rattle.blk_base.specs.declared.ask.FrontAnswer.TheVariants as answer
use Rattle.key_directory.specs.Directory.{Directory, key_of}
use Rattle.hypervisor.specs.Act.{FrontAct, front_act}
use Rattle.blk_front.specs.declared.stage.FrontStage.{FrontStage}
use Rattle.blk_front.specs.declared.state.FrontState.{FrontState}
use Rattle.blk_front.specs.declared.state.FrontState.TheVariants as enter
use Rattle.blk_front.specs.declared.state.Offers.{Offers}
use Rattle.blk_front.specs.Submit.{unfinished}
use Rattle.blk_front.specs.State.{in_state, enters}
use Rattle.blk_front.specs.Suspend.{is_left}
use Rattle.blk_front.specs.View as ends
use Rattle.ring_words.specs.Shape.{Shape, entries_of}
use Rattle.split_model.proofs.Shapes.{step_shape}
use Rattle.split_model.proofs.SafeActs.{of_front}
use Rattle.split_model.proofs.States.{enters_cases}
use Rattle.blk_front.specs.Ask as front_ring
use Rattle.xenbus_state.specs.declared.keys.BackKey.{BackKey}
use Rattle.xenbus_state.specs.declared.keys.BackKey.TheVariants as back_key
use Rattle.xenbus_state.specs.declared.offer.Features.{Features}
use Rattle.xenbus_state.specs.declared.stage.FrontBusStage.{FrontBusStage}
use Rattle.xenbus_state.specs.declared.stage.FrontBusStage.TheVariants as stage
use Rattle.xenbus_state.specs.declared.front.FrontNews.{FrontNews}
use Rattle.xenbus_state.specs.declared.front.FrontBusAsk.{FrontBusAsk}
use Rattle.xenbus_state.specs.declared.front.FrontBusAsk.TheVariants as bus_ask
use Rattle.xenbus_state.specs.Keys.{back_name, path_under}
use Rattle.xenbus_state.specs.States.{state_read}
use Rattle.xenbus_state.specs.FrontView.{FrontView, ring_order, closed}
use Rattle.xenbus_state.specs.FrontAsk as bus_asks
use Rattle.split_model.specs.World as rings
use Rattle.split_model.specs.Happening as ring
use Rattle.split_model.specs.Safe.{IsSafe}
use Rattle.split_model.proofs.Safe.{safe_after}
use Rattle.split_model.proofs.Keys.{front_stays}
use Rattle.split_model.proofs.SafeAnswers.{front_answered, fronts_at, fronts_no_key}
use Rattle.vbd_front.specs.View as front_view
use Rattle.vbd_front.specs.Ask as front
use Rattle.vbd_front.specs.Step as front_step
use Rattle.vbd_model.specs.World.{World, frontend_of}
use Rattle.vbd_model.specs.Happening.{front_key, front_does, front_turn, front_bus_after, entered_at, closes_does, happens, FrontMoves, Closes}
use Rattle.vbd_model.specs.Fit.{IsUnbound, SaysKey, ReadsOffer, IsFit}
use Rattle.vbd_laws.proofs.FitFrontRing.{unfinished_step}
use Rattle.vbd_laws.proofs.FitFrontBus.{FrontFits, unoccupied}
use Rattle.vbd_laws.proofs.FitFrontSpoken.{ReadsOrder, Answers, spoken_settles}
use Rattle.vbd_laws.proofs.FitFrontMoves.{left_starts, left_moves}
use Rattle.vbd_laws.proofs.FitFrontFollows.{left_fits, ring_fits, wait_fits}
use Rattle.vbd_laws.proofs.FitFrontClose.{close_fits}
use Rattle.vbd_laws.proofs.FitFrontTerms.{Terms, same_terms, terms_told, terms_followed, terms_waited, terms_closed}
use Rattle.vbd_laws.proofs.FitFrontReads.{followed_is, waited_is, publishes_offered, reads_kept, Announces, told_reads, closed_reads}
use Rattle.vbd_laws.proofs.FitChannels.{IsUnported, unported_front, unbound_front}
use Rattle.vbd_laws.proofs.FitSaid.{LeavesBack, same_back, front_leaves, watched_leaves, announced_kept, said_kept}
use Rattle.vbd_laws.proofs.MovesTurns.{front_asks, front_says, front_cases, front_speaks, front_told}

-- the machine with this of the rings, and of the front's negotiation
abbrev with_front : World → rings.World → FrontView → World
with_front w r u = record { rings = r; front = u; back = w.back }

pub front_fits : (w : World) → IsFit w → FrontFits w.front w.rings.front
front_fits w fit = record { goes = fit.front; closing = fit.closing; through = fit.through; ordered = fit.ordered }

-- a state that the front's end of the ring enters leaves its layout
enters_abi : (s : FrontState) (f : ends.View) → (enters s f).shape.abi ≡ f.shape.abi
enters_abi s f = enters_cases (λ (x : ends.View) shown. x.shape.abi ≡ f.shape.abi) s f (λ may. by_state s) refl
  where
    by_state : (s : FrontState) → (in_state s f).shape.abi ≡ f.shape.abi
    by_state (enter.Agreed order) = refl
    by_state other = refl

all_abi : (states : List FrontState) (f : ends.View) → (front_step.all_entered states f).shape.abi ≡ f.shape.abi
all_abi [] f = refl
all_abi (s ∷ states) f = all_abi states (enters s f) ∙ enters_abi s f

-- the back's keys and its state are as they were
abbrev Leaves : World → Directory → Type 0
Leaves w d = LeavesBack w.back.features w.back.disk w.rings.under.keys d

-- what the back's keys say
abbrev Says : World → BackKey → Type 0
Says w k = SaysKey w.rings.under.keys w.back.features w.back.disk k

-- the front's negotiation was told something, and its end of the ring was left to it; the back stands as it did
fit_front : (w : World) (r : rings.World) (u : FrontView) → IsFit w → IsSafe r → Leaves w r.under.keys → ReadsOffer (Says w) u.stage → unfinished r.front ≤ unfinished w.rings.front → Terms w.front u
    → r.front.shape.abi ≡ w.rings.front.shape.abi → FrontFits u r.front → r.back ≡ w.rings.back → IsUnported r.under.channels → IsUnbound w.rings.back.stage r.under.channels → IsFit (with_front w r u)
fit_front w r u fit safe left reads fewer terms abi fits same unported unbound = record {
  safe = safe;
  layout = abi ∙ (fit.layout ∙ sym terms.abi);
  ordered = fits.ordered;
  room = (let room : unfinished w.rings.front ≤ entries_of (min w.front.order 4) = fit.room in subst (λ (n : ℕ). unfinished r.front ≤ entries_of (min n 4)) (sym terms.order) (omega arith));
  offers = fit.offers;
  limited = fit.limited;
  published = rw same fit.published;
  said = said_kept _ _ left.says w.back.stage fit.said;
  announced = announced_kept w.back.features w.back.disk w.rings.under.keys r.under.keys left fit.announced;
  reads = reads_kept (Says w) _ left.says u.stage reads;
  front = fits.goes;
  closing = fits.closing;
  through = fits.through;
  back = rw same fit.back;
  held = rw same fit.held;
  pages = rw same fit.pages;
  sound = fit.sound;
  terms = rw same fit.terms;
  halted = rw same fit.halted;
  unported = unported;
  unbound = rw same unbound;
}

-- the states that the front's end of the ring enters are what its negotiation makes of it
pub all_enter : (states : List FrontState) (r : rings.World) → ring.after (map ring.FrontEnters states) r ≡ record r { front = front_step.all_entered states r.front }
all_enter [] r = refl
all_enter (s ∷ states) r = all_enter states (ring.happens r (ring.FrontEnters s))

entered_both : (offers : Offers) (news : Option FrontNews) (due : List FrontState) (f : ends.View)
    → front_step.all_entered (front_step.states_of_news offers news ++ due) f ≡ front_step.all_entered due (front_step.all_entered (front_step.states_of_news offers news) f)
entered_both offers None due f = refl
entered_both offers (Some n) due f = refl

-- the negotiation of a front with data left after a suspend asks for nothing, and another for what it has to
pub asks_cases : (P : FrontBusAsk → Type 0) (w : World) → (is_left w.rings.front.stage ≡ true → P bus_ask.Wait) → (is_left w.rings.front.stage ≡ false → P (bus_asks.ask_of w.front (front_view.is_unoccupied w.rings.front))) → P (front_asks w)
asks_cases P w left other = by_test (is_left w.rings.front.stage) refl
  where
    by_test : (c : Bool) → is_left w.rings.front.stage ≡ c → P (if c then bus_ask.Wait else bus_asks.ask_of w.front (front_view.is_unoccupied w.rings.front))
    by_test true e = left e
    by_test false e = other e

-- it reads what the back offers as the back says it
order_read : (w : World) (a : FrontAct) (s : FrontBusStage) → IsFit w → w.front.stage ≡ s → ReadsOffer (Says w) s → front_act w.rings.under (front.key_ask (bus_asks.ask_of w.front (front_view.is_unoccupied w.rings.front))) ≡ Some a → ReadsOrder s a.answer
order_read w a (stage.ReadFeature k) fit here reads e = by_answer a.answer refl
  where
    asks : bus_asks.ask_of w.front (front_view.is_unoccupied w.rings.front) ≡ bus_ask.GetKey k
    asks = ap (λ (d : FrontBusStage). bus_asks.ask_at (bus_asks.due_at d w.front (front_view.is_unoccupied w.rings.front)) w.front) here

    told : (text : Option (List ℕ)) → a.answer ≡ answer.Key text → key_of w.rings.under.keys.keys (path_under end.Back (back_name k)) ≡ text
    told text same =
        of_front (λ (y : FrontAct). y.answer ≡ answer.Key text → key_of w.rings.under.keys.keys (path_under end.Back (back_name k)) ≡ text) _ a (λ is. cc)
        (ap (λ (b : FrontBusAsk). front_act w.rings.under (front.key_ask b)) (sym asks) ∙ e) same

    says : (text : Option (List ℕ)) → a.answer ≡ answer.Key text → k ≡ back_key.MaxRingPageOrder → text ≡ Some (decimal 4)
    says text same is =
        let all = reads.1 in
        sym (told text same) ∙ (ap (λ (j : BackKey). key_of w.rings.under.keys.keys (path_under end.Back (back_name j))) is ∙ (all.order ∙ ap (λ (f : Features). Some (decimal f.order)) fit.offers))

    by_answer : (x : FrontAnswer) → a.answer ≡ x → ReadsOrder (stage.ReadFeature k) x
    by_answer (answer.Key text) same = (reads.0, says text same)
    by_answer x same = tt
order_read w a s fit here reads e = tt

-- where it reads the back's state, and that says that the back offers, the back's keys say what
state_read_there : (w : World) (a : FrontAct) (text : Option (List ℕ)) → front_act w.rings.under (front.key_ask bus_ask.GetState) ≡ Some a → a.answer ≡ answer.Key text → key_of w.rings.under.keys.keys front.other_state ≡ text
state_read_there w a text e told = of_front (λ (y : FrontAct). y.answer ≡ answer.Key text → key_of w.rings.under.keys.keys front.other_state ≡ text) _ a (λ same. cc) e told

announces : (w : World) (a : FrontAct) (idle : Bool) → IsFit w → front_act w.rings.under (front.key_ask (bus_asks.ask_of w.front idle)) ≡ Some a → Announces (Says w) w.front idle a.answer
announces w a idle fit e asks text told acts =
    let there = state_read_there w a text (ap (λ (b : FrontBusAsk). front_act w.rings.under (front.key_ask b)) (sym asks) ∙ e) told in
    fit.announced (ap state_read there ∙ publishes_offered w.front.state w.front.closing idle (state_read text) acts)

-- a negotiation that doesn't speak reads no state
reads_none : (w : World) (x : FrontAnswer) → IsFit w → front.speaks (front_asks w) ≡ false → Announces (Says w) w.front (front_view.is_unoccupied w.rings.front) x
reads_none w x fit =
    asks_cases (λ (b : FrontBusAsk). front.speaks b ≡ false → Announces (Says w) w.front (front_view.is_unoccupied w.rings.front) x) w (λ left quiet asks. absurd (watches left asks))
    (λ none quiet asks. absurd (true≢false (sym (ap front.speaks asks) ∙ quiet)))
  where
    watches : is_left w.rings.front.stage ≡ true → bus_asks.ask_of w.front (front_view.is_unoccupied w.rings.front) ≡ bus_ask.GetState → ⊥
    watches left asks =
        let begins = left_starts w.front.stage w.front w.rings.front.stage fit.front left in
        let first : bus_ask.Watch ≡ bus_ask.GetState = sym (ap (λ (d : FrontBusStage). bus_asks.ask_at (bus_asks.due_at d w.front (front_view.is_unoccupied w.rings.front)) w.front) begins) ∙ asks in
        cc

-- so what it becomes reads it so
told_reading : (w : World) (x : FrontAnswer) → IsFit w → Announces (Says w) w.front (front_view.is_unoccupied w.rings.front) x → ReadsOffer (Says w) (front_step.bus_told (front_view.is_unoccupied w.rings.front) w.front x).stage
told_reading w x fit is = told_reads (Says w) w.front (front_view.is_unoccupied w.rings.front) x is fit.reads

-- a state that the end of the ring enters leaves no more requests unfinished
entered_fewer : (s : FrontState) (f : ends.View) → unfinished (in_state s f) ≤ unfinished f
entered_fewer (enter.Agreed order) f = omega arith
entered_fewer other f = omega arith

pub all_fewer : (states : List FrontState) (f : ends.View) → unfinished (front_step.all_entered states f) ≤ unfinished f
all_fewer [] f = omega arith
all_fewer (s ∷ states) f =
    let one = enters_cases (λ (x : ends.View) shown. unfinished x ≤ unfinished f) s f (λ may. entered_fewer s f) (omega arith) in
    let rest = all_fewer states (enters s f) in
    omega arith

pub spoken_fits : (w : World) (a : FrontAct) → IsFit w → front.speaks (front_asks w) ≡ true → front_act w.rings.under (front.key_ask (front_asks w)) ≡ Some a
    → FrontFits (front_step.bus_after (frontend_of w) a.answer) (front_step.all_entered (front_step.states_after (frontend_of w) a.answer) w.rings.front)
spoken_fits w a fit =
    asks_cases (λ (b : FrontBusAsk). front.speaks b ≡ true → front_act w.rings.under (front.key_ask b) ≡ Some a → FrontFits u (front_step.all_entered (front_step.states_after (frontend_of w) a.answer) w.rings.front)) w
    (λ left says e. absurd (true≢false (sym says)))
    (λ none says e.
    let may : Answers w.front.stage w.front w.rings.front a.answer = record { reads = order_read w a w.front.stage fit refl fit.reads e; none_left = none; few = (let room : unfinished w.rings.front ≤ entries_of (min w.front.order 4) = fit.room in omega arith) } in
    subst (λ (f : ends.View). FrontFits u f)
    (sym (entered_both (front_step.offers_of u) (front_step.news_of (frontend_of w) a.answer) (front_step.states_due (bus_asks.ask_of u idle) (ring_order u)) w.rings.front))
    (spoken_settles (front_step.offers_of u) w.front w.rings.front a.answer idle may (unoccupied w.rings.front) (front_fits w fit) says (front_told w.rings.under (bus_asks.ask_of w.front idle) a says e)))
  where
    idle : Bool
    idle = front_view.is_unoccupied w.rings.front

    u : FrontView
    u = front_step.bus_after (frontend_of w) a.answer

-- what the front's move makes of the machine, by what it is to the ring's machine, what it asked and what an answer makes of it
abbrev FitAfter : World → FrontAct → List ring.Happening → FrontAsk → (FrontAnswer → front_view.View) → Type 0
FitAfter w a does ask step = front_act w.rings.under ask ≡ Some a → IsFit (with_front w (ring.after does w.rings) (step a.answer).bus)

-- the keys alone change, and the end of the ring enters these states
fit_keys : (w : World) (states : List FrontState) (u : FrontView) → IsFit w → ReadsOffer (Says w) u.stage → Terms w.front u → FrontFits u (front_step.all_entered states w.rings.front) → IsFit (with_front w (ring.after (front_says w states) w.rings) u)
fit_keys w states u fit reads terms fits =
    let keyed : rings.World = ring.happens w.rings (ring.Negotiates end.Front (front_key (front_asks w))) in
    let entered = all_enter states keyed in
    subst (λ (r : rings.World). IsFit (with_front w r u)) (sym entered)
    (fit_front w (record keyed { front = front_step.all_entered states w.rings.front }) u fit
    (subst (λ (r : rings.World). IsSafe r) entered (safe_after (front_says w states) w.rings fit.safe))
    (front_leaves w.back.features w.back.disk w.rings.back.stage (front_asks w) w.rings.under.keys) reads (all_fewer states w.rings.front) terms (all_abi states w.rings.front) fits refl fit.unported fit.unbound)

-- its negotiation speaks
speaks_reading : (w : World) (a : FrontAct) → IsFit w → front.speaks (front_asks w) ≡ true → front_act w.rings.under (front.key_ask (front_asks w)) ≡ Some a → ReadsOffer (Says w) (front_step.bus_after (frontend_of w) a.answer).stage
speaks_reading w a fit =
    asks_cases (λ (b : FrontBusAsk). front.speaks b ≡ true → front_act w.rings.under (front.key_ask b) ≡ Some a → ReadsOffer (Says w) (front_step.bus_after (frontend_of w) a.answer).stage) w
    (λ left says e. absurd (true≢false (sym says))) (λ none says e. told_reading w a.answer fit (announces w a (front_view.is_unoccupied w.rings.front) fit e))

fit_says : (w : World) (a : FrontAct) → IsFit w → front_turn w ≡ Some a → front.speaks (front_asks w) ≡ true
    → FitAfter w a (front_says w (entered_at w (front_turn w))) (front.key_ask (front_asks w)) (λ x. front_step.spoken (frontend_of w) x)
fit_says w a fit turn says e =
    subst (λ (act : Option FrontAct). IsFit (with_front w (ring.after (front_says w (entered_at w act)) w.rings) (front_step.bus_after (frontend_of w) a.answer))) (sym turn)
    (fit_keys w (front_step.states_after (frontend_of w) a.answer) (front_step.bus_after (frontend_of w) a.answer) fit (speaks_reading w a fit says e) (terms_told w.front (front_view.is_unoccupied w.rings.front) a.answer)
    (spoken_fits w a fit says e))

-- its end of the ring moves, and asks for no key
own_keys : (w : World) (a : FrontAct) → front_act w.rings.under (front_ring.ask_of w.rings.front) ≡ Some a → Leaves w a.under.keys
own_keys w a e =
    front_stays (Leaves w) (λ at d is. watched_leaves w.back.features w.back.disk w.rings.under.keys d at _ is) w.rings.under (front_ring.ask_of w.rings.front) a (fronts_no_key w.rings.front)
    (same_back w.back.features w.back.disk w.rings.under.keys) e

-- what that makes of the negotiation
moved_reads : (w : World) (x : FrontAnswer) (later : FrontStage) → IsFit w → front.speaks (front_asks w) ≡ false → ReadsOffer (Says w) (front_step.followed (front_asks w) later (front_view.is_unoccupied w.rings.front) w.front x).stage
moved_reads w x later fit quiet =
    followed_is (λ (u : FrontView). ReadsOffer (Says w) u.stage) (frontend_of w) x fit.reads (told_reading w x fit (reads_none w x fit quiet)) (told_reading w answer.Done fit (reads_none w answer.Done fit quiet)) (front_asks w) later

waited_reads : (w : World) (x : FrontAnswer) → IsFit w → front.speaks (front_asks w) ≡ false → ReadsOffer (Says w) (front_step.waited (front_asks w) (front_view.is_unoccupied w.rings.front) w.front x).stage
waited_reads w x fit quiet =
    waited_is (λ (u : FrontView). ReadsOffer (Says w) u.stage) (frontend_of w) x fit.reads (told_reading w x fit (reads_none w x fit quiet)) (told_reading w answer.Done fit (reads_none w answer.Done fit quiet)) (front_asks w)

moved_fits : (w : World) (a : FrontAct) → IsFit w → front.speaks (front_asks w) ≡ false → front.ring_moves (front_asks w) w.rings.front.stage ≡ true → front_act w.rings.under (front_ring.ask_of w.rings.front) ≡ Some a
    → let v : front_view.View = front_step.ring_step true (front_asks w) (frontend_of w) a.answer in FrontFits v.bus v.ring
moved_fits w a fit quiet moves e =
    asks_cases (λ (b : FrontBusAsk). front.speaks b ≡ false → front.ring_moves b w.rings.front.stage ≡ true → let v : front_view.View = front_step.ring_step true b (frontend_of w) a.answer in FrontFits v.bus v.ring) w
    (λ left quiet moves. left_fits w.front w.rings.front a.answer (front_fits w fit) left)
    (λ none quiet moves. ring_fits w.front w.rings.front a.answer (front_fits w fit) quiet moves (front_answered w.rings.under w.rings.front a e)) quiet moves

fit_moves : (w : World) (a : FrontAct) → IsFit w → front.speaks (front_asks w) ≡ false → front.ring_moves (front_asks w) w.rings.front.stage ≡ true
    → FitAfter w a (ring.FrontMoves ∷ []) (front_ring.ask_of w.rings.front) (λ x. front_step.ring_step true (front_asks w) (frontend_of w) x)
fit_moves w a fit quiet moves e =
    let own = fronts_at w.rings.under.channels w.rings.front.stage w.rings.front fit.safe.ported in
    let moved : ring.after (ring.FrontMoves ∷ []) w.rings ≡ ring.front_after w.rings (Some a) = ap (λ (act : Option FrontAct). ring.front_after w.rings act) e in
    let v : front_view.View = front_step.ring_step true (front_asks w) (frontend_of w) a.answer in
    let fits : FrontFits v.bus v.ring = moved_fits w a fit quiet moves e in
    subst (λ (r : rings.World). IsFit (with_front w r v.bus)) (sym moved)
    (fit_front w (ring.front_after w.rings (Some a)) v.bus fit (subst (λ (r : rings.World). IsSafe r) moved (safe_after (ring.FrontMoves ∷ []) w.rings fit.safe)) (own_keys w a e) (moved_reads w a.answer v.ring.stage fit quiet)
    (unfinished_step w.rings.front a.answer) (terms_followed (front_asks w) v.ring.stage w.front (front_view.is_unoccupied w.rings.front) a.answer)
    (ap (λ (s : Shape). s.abi) (step_shape w.rings.front a.answer)) (record { goes = fits.goes; closing = fits.closing; through = fits.through; ordered = fits.ordered }) refl
    (unported_front w.rings.under w.rings.under.channels (front_ring.ask_of w.rings.front) a own fit.unported e)
    (unbound_front w.rings.back.stage w.rings.under w.rings.under.channels (front_ring.ask_of w.rings.front) a own fit.unbound e))

-- both wait
waiting_fits : (w : World) (x : FrontAnswer) → IsFit w → front.speaks (front_asks w) ≡ false → front.ring_moves (front_asks w) w.rings.front.stage ≡ false
    → FrontFits (front_step.waited (front_asks w) (front_view.is_unoccupied w.rings.front) w.front x) w.rings.front
waiting_fits w x fit =
    asks_cases (λ (b : FrontBusAsk). front.speaks b ≡ false → front.ring_moves b w.rings.front.stage ≡ false → FrontFits (front_step.waited b (front_view.is_unoccupied w.rings.front) w.front x) w.rings.front) w
    (λ left quiet still. absurd (true≢false (sym (left_moves w.rings.front.stage left) ∙ still))) (λ none quiet still. wait_fits w.front w.rings.front x (front_fits w fit) quiet still)

fit_waits : (w : World) (a : FrontAct) → IsFit w → front.speaks (front_asks w) ≡ false → front.ring_moves (front_asks w) w.rings.front.stage ≡ false
    → FitAfter w a (front_says w []) front_ask.Wait (λ x. front_step.ring_step false (front_asks w) (frontend_of w) x)
fit_waits w a fit quiet still e =
    let idle : Bool = front_view.is_unoccupied w.rings.front in
    fit_keys w [] (front_step.waited (front_asks w) idle w.front a.answer) fit (waited_reads w a.answer fit quiet) (terms_waited (front_asks w) w.front idle a.answer) (waiting_fits w a.answer fit quiet still)

fit_act : (w : World) (a : FrontAct) → IsFit w → front_turn w ≡ Some a → IsFit (with_front w (ring.after (front_does w) w.rings) (front_bus_after w (Some a)))
fit_act w a fit turn = front_cases (FitAfter w a) w (fit_says w a fit turn) (fit_moves w a fit) (fit_waits w a fit) turn

-- where the front has no act
abbrev FitStill : World → List ring.Happening → FrontAsk → (FrontAnswer → front_view.View) → Type 0
FitStill w does ask step = front_act w.rings.under ask ≡ None → IsFit (with_front w (ring.after does w.rings) w.front)

fit_none : (w : World) → IsFit w → front_turn w ≡ None → IsFit (with_front w (ring.after (front_does w) w.rings) w.front)
fit_none w fit turn =
    front_cases (FitStill w) w (λ says e. absurd (front_speaks w.rings.under (front_asks w) says e))
    (λ quiet moves e. subst (λ (act : Option FrontAct). IsFit (with_front w (ring.front_after w.rings act) w.front)) (sym e) fit)
    (λ quiet still e. fit_keys w [] w.front fit fit.reads (same_terms w.front) (front_fits w fit)) turn

fit_turn : (w : World) (act : Option FrontAct) → IsFit w → front_turn w ≡ act → IsFit (with_front w (ring.after (front_does w) w.rings) (front_bus_after w act))
fit_turn w None fit e = fit_none w fit e
fit_turn w (Some a) fit e = fit_act w a fit e

-- a move of the front
pub fit_front_moves : (w : World) → IsFit w → IsFit (happens w FrontMoves)
fit_front_moves w fit = fit_turn w (front_turn w) fit refl

-- and a close
pub fit_front_closes : (w : World) → IsFit w → IsFit (happens w (Closes end.Front))
fit_front_closes w fit =
    fit_front w (ring.after (closes_does end.Front) w.rings) (closed w.front) fit (safe_after (closes_does end.Front) w.rings fit.safe) (same_back w.back.features w.back.disk w.rings.under.keys)
    (closed_reads (Says w) w.front fit.reads) (all_fewer (enter.Closing ∷ []) w.rings.front) (terms_closed w.front)
    (enters_abi enter.Closing w.rings.front) (close_fits w.front w.rings.front (front_fits w fit)) refl fit.unported fit.unbound
