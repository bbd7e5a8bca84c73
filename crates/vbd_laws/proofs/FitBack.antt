-- The machine stays fit as the back moves, and as it is asked to close.
use Rattle.std.proofs.Common.{◌≡◌, ◌≤◌, Bool, true, false, true≢false, ◌&&◌, List, [], ◌∷◌, if◌then◌else◌, refl, sym, ap, ◌∙◌, subst}
use Rattle.std.specs.Prelude.{Option, Some, None, min}
use Rattle.std.proofs.Math.Bool.{and-false}
use Rattle.line_text.proofs.Both.{both_true}
use Rattle.blk_base.specs.declared.parts.End.TheVariants as end
use Rattle.blk_base.specs.declared.ask.BackAsk.{BackAsk}
use Rattle.blk_base.specs.declared.ask.BackAsk.TheVariants as back_ask
use Rattle.blk_base.specs.declared.ask.BackAnswer.{BackAnswer}
use Rattle.blk_base.specs.declared.ask.BackAnswer.TheVariants as answer
use Rattle.blk_base.specs.declared.moves.BackMover.TheVariants as back_mover
use Rattle.segment_list.specs.declared.verdict.DiskInfo.{DiskInfo}
use Rattle.key_directory.specs.Directory.{Directory}
use Rattle.hypervisor.specs.Act.{BackAct, Took, back_act}
use Rattle.blk_back.specs.Ask as back_ring
use Rattle.blk_back.specs.View as ends
use Rattle.ring_words.specs.Shape.{entries_of}
use Rattle.blk_front.specs.View as front_ends
use Rattle.blk_front.specs.Submit.{unfinished}
use Rattle.blk_back.specs.declared.stage.BackStage.{BackStage}
use Rattle.blk_back.specs.Step.{unmapping_next}
use Rattle.blk_back.proofs.Hands.{step_info}
use Rattle.back_jobs.specs.Jobs.{first_mapping}
use Rattle.xenbus_state.specs.declared.keys.BackKey.{BackKey}
use Rattle.xenbus_state.specs.declared.values.KeyValue.{KeyValue}
use Rattle.xenbus_state.specs.declared.state.BusState.TheVariants as state
use Rattle.xenbus_state.specs.declared.stage.BackBusStage.{BackBusStage}
use Rattle.xenbus_state.specs.declared.stage.BackBusStage.TheVariants as stage
use Rattle.xenbus_state.specs.declared.back.BackBusAsk.{BackBusAsk}
use Rattle.xenbus_state.specs.declared.back.BackBusAsk.TheVariants as back_bus
use Rattle.xenbus_state.specs.declared.table.BackHalt.{BackHalt}
use Rattle.xenbus_state.specs.Values.{back_value}
use Rattle.xenbus_state.specs.Programs.{next_feature}
use Rattle.xenbus_state.specs.BackView.{BackView, unplugged}
use Rattle.xenbus_state.specs.BackAsk.{says_closing_at, says_closing, ask_at, IsAnswer}
use Rattle.xenbus_state.specs.BackStep.{at, after_feature, step_at, step_of}
use Rattle.split_model.specs.World as rings
use Rattle.split_model.specs.Keys.{negotiated}
use Rattle.split_model.specs.Happening as ring
use Rattle.split_model.specs.Safe.{IsSafe}
use Rattle.split_model.proofs.Safe.{safe_after}
use Rattle.split_model.proofs.Keys.{back_stays, backs_no_key}
use Rattle.split_model.proofs.SafeAnswers.{back_answered, backs_of}
use Rattle.split_model.proofs.States.{halts_cases}
use Rattle.split_model.proofs.Shapes.{attaches_waiting}
use Rattle.vbd_back.specs.View.{offer}
use Rattle.vbd_back.specs.View as back_view
use Rattle.vbd_back.specs.Ask as back
use Rattle.vbd_back.specs.Step as back_step
use Rattle.vbd_model.specs.World.{World, backend_of}
use Rattle.vbd_model.specs.Happening.{back_key, back_does, back_turn, back_bus_after, halted_at, reasons_of, attaches, happens, BackMoves, Closes}
use Rattle.vbd_model.specs.Fit.{FrontOrdered, BackGoesWith, IsUnbound, IsOffered, SaysKey, SaidBefore, SaidAt, IsAnnounced, ReadsOffer, IsFit}
use Rattle.negotiation_laws.proofs.Choices.{unplugged_cases}
use Rattle.vbd_laws.proofs.FitBackBus.{BackFits, BackShares, told_at, spoken_fits}
use Rattle.vbd_laws.proofs.FitBackKept.{Facts, facts_in, is_publishing, HasSaid, facts_settled, facts_moved, facts_closed, said_settled, said_moved, stage_closed}
use Rattle.vbd_laws.proofs.FitBackMoves.{ring_fits, wait_fits}
use Rattle.vbd_laws.proofs.FitSaid.{LeavesBack, same_back, watched_leaves, asked_keeps, said_kept, said_past, announced_kept, announced_asked, said_next, set_says}
use Rattle.vbd_laws.proofs.FitFrontReads.{reads_kept}
use Rattle.vbd_laws.proofs.KeysSet.{back_may_set}
use Rattle.vbd_laws.proofs.FitBackShares.{spoken_shares, waited_shares, closed_shares}
use Rattle.vbd_laws.proofs.FitBackFollows.{moved_shares}
use Rattle.vbd_laws.proofs.MovesAttached.{halted_only, all_halt, asks_layout, not_led, taken}
use Rattle.vbd_laws.proofs.FitChannels.{IsUnported, past_unbound, unported_back, unbound_back}
use Rattle.vbd_laws.proofs.FitBackRing.{gives_past, given, unbound_past}
use Rattle.vbd_laws.proofs.MovesTurns.{back_asks, back_says, back_learns, back_takes, back_cases, back_speaks, back_told}

-- the machine with this of the rings, and of the back's negotiation
abbrev with_back : World → rings.World → BackView → World
with_back w r u = record { rings = r; front = w.front; back = u }

back_fits : (w : World) → IsFit w → BackFits w.back w.rings.back
back_fits w fit = record { goes = fit.back; held = fit.held; halted = fit.halted }

back_shares : (w : World) → IsFit w → BackShares w.back w.rings.back
back_shares w fit = record { pages = fit.pages; sound = fit.sound; terms = fit.terms }

-- what the back offers and serves is as it was, and what its keys say of that
abbrev Says : World → Directory → BackKey → Type 0
Says w d k = SaysKey d w.back.features w.back.disk k

record Offers (w : World) (r : rings.World) (u : BackView) : Type 0 where
  facts : facts_in u ≡ facts_in w.back
  info : r.back.jobs.info ≡ w.rings.back.jobs.info
  said : SaidAt (Says w r.under.keys) u.stage
  says : (k : BackKey) → Says w w.rings.under.keys k → Says w r.under.keys k
  announced : IsAnnounced (Says w r.under.keys) r.under.keys

-- the back's negotiation was told something; the front stands as it did
fit_back : (w : World) (r : rings.World) (u : BackView) → IsFit w → IsSafe r → Offers w r u → BackFits u r.back → BackShares u r.back → r.front ≡ w.rings.front
    → IsUnported r.under.channels → IsUnbound r.back.stage r.under.channels → IsFit (with_back w r u)
fit_back w r u fit safe offers fits shares same unported unbound = record {
  safe = safe;
  layout = ap (λ (f : front_ends.View). f.shape.abi) same ∙ fit.layout;
  ordered = subst (λ (f : front_ends.View). FrontOrdered w.front.stage w.front f.shape.order) (sym same) fit.ordered;
  room = subst (λ (f : front_ends.View). unfinished f ≤ entries_of (min w.front.order 4)) (sym same) fit.room;
  offers = ap (λ (t : Facts). t.0) offers.facts ∙ (fit.offers ∙ sym (ap (λ (t : Facts). offer t.1.read_only t.0.indirect) offers.facts));
  limited = subst (λ (t : Facts). t.0.indirect ≤ 960) (sym offers.facts) fit.limited;
  published =
      subst (λ (t : Facts). IsOffered r.back.jobs.info t.0 t.1) (sym offers.facts) (subst (λ (i : DiskInfo). IsOffered i w.back.features w.back.disk) (sym offers.info) fit.published);
  said = subst (λ (t : Facts). SaidAt (SaysKey r.under.keys t.0 t.1) u.stage) (sym offers.facts) offers.said;
  announced = subst (λ (t : Facts). IsAnnounced (SaysKey r.under.keys t.0 t.1) r.under.keys) (sym offers.facts) offers.announced;
  reads =
      subst (λ (t : Facts). ReadsOffer (SaysKey r.under.keys t.0 t.1) w.front.stage) (sym offers.facts)
      (reads_kept (Says w w.rings.under.keys) (Says w r.under.keys) offers.says w.front.stage fit.reads);
  front = rw same fit.front;
  closing = rw same fit.closing;
  through = rw same fit.through;
  back = fits.goes;
  held = fits.held;
  pages = shares.pages;
  sound = shares.sound;
  halted = fits.halted;
  terms = shares.terms;
  unported = unported;
  unbound = unbound;
}

-- what the back's move makes of the machine, by what it is to the ring's machine, what it asked and what an answer makes of it
abbrev FitAfter : World → BackAct → List ring.Happening → BackAsk → (BackAnswer → back_view.View) → Type 0
FitAfter w a does ask step = back_act w.rings.under back_mover.Back ask Took ≡ Some a → IsFit (with_back w (ring.after does w.rings) (step a.answer).bus)

-- before its port is bound none is, whether the end of the ring halts
halted_unbound : (reason : Option BackHalt) (w : World) → IsFit w → let x : ends.View = halted_only reason w.rings.back in IsUnbound x.stage w.rings.under.channels
halted_unbound None w fit = fit.unbound
halted_unbound (Some why) w fit =
    halts_cases (λ (x : ends.View). IsUnbound x.stage w.rings.under.channels) (back_step.ring_halt why) w.rings.back (λ here. past_unbound _ w.rings.under.channels (unbound_past w.rings.back.pages))
    (λ here. past_unbound _ w.rings.under.channels (gives_past (unmapping_next (first_mapping w.rings.back.jobs.works)) (given (first_mapping w.rings.back.jobs.works)))) fit.unbound

halted_info : (reason : Option BackHalt) (r : ends.View) → (halted_only reason r).jobs.info ≡ r.jobs.info
halted_info None r = refl
halted_info (Some why) r = halts_cases (λ (x : ends.View). x.jobs.info ≡ r.jobs.info) (back_step.ring_halt why) r (λ here. refl) (λ here. refl) refl

-- the keys after what its negotiation asks of them
abbrev keys_after : World → Directory
keys_after w = negotiated w.rings.back.stage end.Back (back_key (back_asks w)) w.rings.under.keys

-- the keys alone change, and the end of the ring halts or doesn't
fit_keys : (w : World) (reason : Option BackHalt) (u : BackView) → IsFit w → facts_in u ≡ facts_in w.back → SaidAt (Says w (keys_after w)) u.stage → BackFits u (halted_only reason w.rings.back) → BackShares u (halted_only reason w.rings.back)
    → IsFit (with_back w (ring.after (back_says w (reasons_of reason)) w.rings) u)
fit_keys w reason u fit facts said fits shares =
    let keyed : rings.World = ring.happens w.rings (ring.Negotiates end.Back (back_key (back_asks w))) in
    let halted = all_halt reason keyed in
    subst (λ (r : rings.World). IsFit (with_back w r u)) (sym halted)
    (fit_back w (record keyed { back = halted_only reason w.rings.back }) u fit
    (subst (λ (r : rings.World). IsSafe r) halted (safe_after (back_says w (reasons_of reason)) w.rings fit.safe)) (record {
      facts = facts;
      info = halted_info reason w.rings.back;
      said = said;
      says = asked_keeps w.back w.rings.back.stage w.rings.under.keys;
      announced = announced_asked w.back w.rings.back.stage w.rings.under.keys fit.said fit.announced;
    }) fits shares refl fit.unported (halted_unbound reason w fit))

-- what an answer makes of both where the end of the ring is led so
abbrev Led : World → BackAct → Type 0
Led w a = let y : ends.View = back_step.ring_led (back_step.halt_of (backend_of w) a.answer) (back_step.reads_layout (back_asks w)) (step_of w.back a.answer) w.rings.back in
    let u : BackView = back_step.settled y.stage (step_of w.back a.answer) in BackFits u y × BackShares u y

led : (w : World) (a : BackAct) → IsFit w → back.bus_moves (back_asks w) w.rings.back.stage ≡ true → back_act w.rings.under back_mover.Back (back.key_ask (back_asks w)) Took ≡ Some a → Led w a
led w a fit moves e =
    let says = (both_true (back.speaks (back_asks w)) (back.is_between w.rings.back.stage) moves).0 in
    let told = back_told w.rings.under (back_asks w) a says e in
    (spoken_fits w.back w.rings.back a.answer (back_fits w fit) (back_shares w fit) says told, spoken_shares w.back w.rings.back a.answer (back_fits w fit) (back_shares w fit) says told)

-- it publishes a feature, whose key says so then; or all have been published
pub asks_publishing : (w : World) (k : BackKey) → w.back.stage ≡ stage.Publish k → (says_closing w.back ≡ false) × (back_asks w ≡ back_bus.SetKey k (back_value w.back.features w.back.disk k))
asks_publishing w k here =
    let on : says_closing w.back ≡ false = ap (λ (b : BackBusStage). w.back.unplugged && says_closing_at b w.back.state) here ∙ and-false w.back.unplugged in
    (on, ap (λ (c : Bool). if c then back_bus.SetState state.Closing else ask_at w.back.stage w.back) on ∙ ap (λ (b : BackBusStage). ask_at b w.back) here)

next_settled : (k : Option BackKey) (r : BackStage) (v : BackView) → (let u : BackView = back_step.settled r (at (after_feature k) v) in u.stage) ≡ after_feature k
next_settled (Some k) r v = refl
next_settled None r v = refl

pub told_done : (k : BackKey) (value : KeyValue) (x : BackAnswer) → IsAnswer (back_bus.SetKey k value) x → x ≡ answer.Done
told_done k value answer.Done allowed = refl
told_done k value x allowed = absurd allowed

publish_says : (w : World) (a : BackAct) (r : BackStage) (k : BackKey) → IsFit w → w.back.stage ≡ stage.Publish k → IsAnswer (back_asks w) a.answer
    → SaidAt (Says w (keys_after w)) (let u : BackView = back_step.settled r (step_of w.back a.answer) in u.stage)
publish_says w a r k fit here allowed =
    let asks = asks_publishing w k here in
    let goes : BackGoesWith (stage.Publish k) w.back.state w.rings.back.stage = subst (λ (b : BackBusStage). BackGoesWith b w.back.state w.rings.back.stage) here fit.back in
    let done = told_done k (back_value w.back.features w.back.disk k) a.answer (subst (λ (b : BackBusAsk). IsAnswer b a.answer) asks.1 allowed) in
    let told : step_of w.back a.answer ≡ at (after_feature (next_feature k)) w.back =
    told_at w.back a.answer asks.0 ∙ (ap (λ (b : BackBusStage). step_at b w.back a.answer) here ∙ ap (λ (x : BackAnswer). step_at (stage.Publish k) w.back x) done) in
    let later : (let u : BackView = back_step.settled r (step_of w.back a.answer) in u.stage) ≡ after_feature (next_feature k) =
    ap (λ (v : BackView). let u : BackView = back_step.settled r v in u.stage) told ∙ next_settled (next_feature k) r w.back in
    let said : SaidBefore (Says w (keys_after w)) k = said_kept (Says w w.rings.under.keys) (Says w (keys_after w)) (asked_keeps w.back w.rings.back.stage w.rings.under.keys) (stage.Publish k)
    (subst (λ (b : BackBusStage). SaidAt (Says w w.rings.under.keys) b) here fit.said) in
    let is : Says w (keys_after w) k = subst (λ (b : BackBusAsk). Says w (negotiated w.rings.back.stage end.Back (back_key b) w.rings.under.keys) k) (sym asks.1)
    (set_says w.back.features w.back.disk w.rings.back.stage w.rings.under.keys k goes.1 (back_may_set w.back k fit.offers)) in
    subst (λ (b : BackBusStage). SaidAt (Says w (keys_after w)) b) (sym later) (said_next (Says w (keys_after w)) k said is)

-- once all are published they stay said
keys_said : (w : World) (u : BackView) → IsFit w → is_publishing w.back.stage ≡ false → ((said : Type 0) → HasSaid said w.back → HasSaid said u) → SaidAt (Says w (keys_after w)) u.stage
keys_said w u fit past later = said_past (Says w w.rings.under.keys) (Says w (keys_after w)) (asked_keeps w.back w.rings.back.stage w.rings.under.keys) w.back u past later fit.said

spoken_says : (w : World) (a : BackAct) (r : BackStage) → IsFit w → IsAnswer (back_asks w) a.answer → SaidAt (Says w (keys_after w)) (let u : BackView = back_step.settled r (step_of w.back a.answer) in u.stage)
spoken_says w a r fit allowed = by_stage w.back.stage refl
  where
    by_stage : (b : BackBusStage) → w.back.stage ≡ b → SaidAt (Says w (keys_after w)) (let u : BackView = back_step.settled r (step_of w.back a.answer) in u.stage)
    by_stage (stage.Publish k) here = publish_says w a r k fit here allowed
    by_stage b here = keys_said w (back_step.settled r (step_of w.back a.answer)) fit (ap is_publishing here) (λ said. said_settled said r w.back a.answer)

-- its negotiation doesn't publish where it leaves the move to its end of the ring
quiet_past : (w : World) → IsFit w → back.bus_moves (back_asks w) w.rings.back.stage ≡ false → is_publishing w.back.stage ≡ false
quiet_past w fit quiet = by_stage w.back.stage refl
  where
    by_stage : (b : BackBusStage) → w.back.stage ≡ b → is_publishing b ≡ false
    by_stage (stage.Publish k) here =
        let goes : BackGoesWith (stage.Publish k) w.back.state w.rings.back.stage = subst (λ (b : BackBusStage). BackGoesWith b w.back.state w.rings.back.stage) here fit.back in
        let asks = (asks_publishing w k here).1 in
        absurd (true≢false (sym (ap (λ (b : BackBusAsk). back.bus_moves b w.rings.back.stage) asks ∙ ap back.is_between goes.1) ∙ quiet))
    by_stage b here = refl

-- its negotiation speaks
fit_says : (w : World) (a : BackAct) → IsFit w → back_turn w ≡ Some a → back.bus_moves (back_asks w) w.rings.back.stage ≡ true → attaches w (back_learns w) ≡ false
    → FitAfter w a (back_says w (halted_at w (back_turn w))) (back.key_ask (back_asks w)) (λ x. back_step.spoken (backend_of w) x)
fit_says w a fit turn moves untaken e =
    let reason : Option BackHalt = back_step.halt_of (backend_of w) a.answer in
    let plain = not_led w a fit (record { turn = turn; moves = moves }) untaken in
    let both = led w a fit moves e in
    subst (λ (act : Option BackAct). IsFit (with_back w (ring.after (back_says w (halted_at w act)) w.rings) (back_step.spoken (backend_of w) a.answer).bus)) (sym turn)
    (subst (λ (y : ends.View). IsFit (with_back w (ring.after (back_says w (reasons_of reason)) w.rings) (back_step.settled y.stage (step_of w.back a.answer)))) (sym plain)
    (fit_keys w reason (back_step.settled (halted_only reason w.rings.back).stage (step_of w.back a.answer)) fit (facts_settled (halted_only reason w.rings.back).stage w.back a.answer)
    (spoken_says w a (halted_only reason w.rings.back).stage fit (back_told w.rings.under (back_asks w) a (both_true (back.speaks (back_asks w)) (back.is_between w.rings.back.stage) moves).0 e))
    (subst (λ (y : ends.View). BackFits (back_step.settled y.stage (step_of w.back a.answer)) y) plain both.0)
    (subst (λ (y : ends.View). BackShares (back_step.settled y.stage (step_of w.back a.answer)) y) plain both.1)))

-- its negotiation has read the layout, and its end of the ring takes the terms
fit_takes : (w : World) (a : BackAct) → IsFit w → back_turn w ≡ Some a → back.bus_moves (back_asks w) w.rings.back.stage ≡ true → attaches w (back_learns w) ≡ true
    → FitAfter w a (back_takes (back_learns w)) (back.key_ask (back_asks w)) (λ x. back_step.spoken (backend_of w) x)
fit_takes w a fit turn moves takes e =
    let took = taken w a (record { turn = turn; moves = moves }) takes in
    let both = led w a fit moves e in
    let y : ends.View = back_step.ring_led (back_step.halt_of (backend_of w) a.answer) (back_step.reads_layout (back_asks w)) (step_of w.back a.answer) w.rings.back in
    let past : is_publishing w.back.stage ≡ false = ap is_publishing (asks_layout w.back took.reads).1 in
    let waits = attaches_waiting (back_step.shape_read (back_learns w)) (back_learns w).grefs w.rings.back (both_true _ _ (both_true _ _ took.goes).0).0 in
    subst (λ (r : rings.World). IsFit (with_back w r (back_step.spoken (backend_of w) a.answer).bus)) (sym took.after)
    (fit_back w (record w.rings { back = y }) (back_step.spoken (backend_of w) a.answer).bus fit
    (subst (λ (r : rings.World). IsSafe r) took.after (safe_after (back_takes (back_learns w)) w.rings fit.safe))
    (record {
      facts = facts_settled y.stage w.back a.answer;
      info = ap (λ (t : ends.View). t.jobs.info) took.led;
      said = said_past (Says w w.rings.under.keys) (Says w w.rings.under.keys) (λ k is. is) w.back (back_step.spoken (backend_of w) a.answer).bus past (λ said. said_settled said y.stage w.back a.answer) fit.said;
      says = λ k is. is;
      announced = fit.announced;
    }) both.0 both.1 refl fit.unported
    (subst (λ (t : ends.View). IsUnbound t.stage w.rings.under.channels) (sym took.led) (subst (λ (s : BackStage). IsUnbound s w.rings.under.channels) waits fit.unbound)))

-- its end of the ring moves, and asks for no key
own_keys : (w : World) (a : BackAct) → back_act w.rings.under back_mover.Back (back_ring.ask_of w.rings.back) Took ≡ Some a → LeavesBack w.back.features w.back.disk w.rings.under.keys a.under.keys
own_keys w a e =
    back_stays (LeavesBack w.back.features w.back.disk w.rings.under.keys) (λ at d is. watched_leaves w.back.features w.back.disk w.rings.under.keys d at _ is) w.rings.under back_mover.Back (back_ring.ask_of w.rings.back) Took a
    (backs_no_key (back_ring.ask_of w.rings.back) (backs_of w.rings.back)) (same_back w.back.features w.back.disk w.rings.under.keys) e

fit_moves : (w : World) (a : BackAct) → IsFit w → back.bus_moves (back_asks w) w.rings.back.stage ≡ false → back.ring_moves (back_asks w) w.rings.back.stage ≡ true
    → FitAfter w a (ring.BackMoves ∷ []) (back_ring.ask_of w.rings.back) (λ x. back_step.ring_step true (back_asks w) (backend_of w) x)
fit_moves w a fit quiet moves e =
    let moved : ring.after (ring.BackMoves ∷ []) w.rings ≡ ring.back_after w.rings (Some a) = ap (λ (act : Option BackAct). ring.back_after w.rings act) e in
    let v : back_view.View = back_step.ring_step true (back_asks w) (backend_of w) a.answer in
    let told = back_answered w.rings.under w.rings.back Took a e in
    let past = quiet_past w fit quiet in
    let left = own_keys w a e in
    let fits = ring_fits w.back w.rings.back a.answer (back_fits w fit) (back_shares w fit) quiet moves told in
    let shares = moved_shares w.back w.rings.back a.answer (back_fits w fit) (back_shares w fit) moves told in
    subst (λ (r : rings.World). IsFit (with_back w r v.bus)) (sym moved)
    (fit_back w (ring.back_after w.rings (Some a)) v.bus fit (subst (λ (r : rings.World). IsSafe r) moved (safe_after (ring.BackMoves ∷ []) w.rings fit.safe))
    (record {
      facts = facts_moved true (back_asks w) (backend_of w) a.answer;
      info = step_info w.rings.back a.answer;
      said = said_past (Says w w.rings.under.keys) (Says w a.under.keys) left.says w.back v.bus past (λ said. said_moved said true (back_asks w) (backend_of w) a.answer) fit.said;
      says = left.says;
      announced = announced_kept w.back.features w.back.disk w.rings.under.keys a.under.keys left fit.announced;
    }) (record { goes = fits.goes; held = fits.held; halted = fits.halted }) (record { pages = shares.pages; sound = shares.sound; terms = λ has on. let have = shares.terms has on in record { shape = have.shape; grefs = have.grefs; port = have.port } }) refl
    (unported_back w.rings.under (back_ring.ask_of w.rings.back) Took a (backs_of w.rings.back) fit.unported e)
    (unbound_back w.rings.back w.rings.under Took a fit.unbound e))

-- both wait
fit_waits : (w : World) (a : BackAct) → IsFit w → back.bus_moves (back_asks w) w.rings.back.stage ≡ false → back.ring_moves (back_asks w) w.rings.back.stage ≡ false
    → FitAfter w a (back_says w []) back_ask.Wait (λ x. back_step.ring_step false (back_asks w) (backend_of w) x)
fit_waits w a fit quiet still e =
    fit_keys w None (back_step.waited (back_asks w) w.back a.answer) fit (facts_moved false (back_asks w) (backend_of w) a.answer)
    (keys_said w (back_step.waited (back_asks w) w.back a.answer) fit (quiet_past w fit quiet) (λ said. said_moved said false (back_asks w) (backend_of w) a.answer)) (wait_fits w.back w.rings.back a.answer (back_fits w fit) still) (waited_shares w.back w.rings.back a.answer (back_shares w fit))

fit_act : (w : World) (a : BackAct) → IsFit w → back_turn w ≡ Some a → IsFit (with_back w (ring.after (back_does w) w.rings) (back_bus_after w (Some a)))
fit_act w a fit turn = back_cases (FitAfter w a) w (fit_says w a fit turn) (fit_takes w a fit turn) (fit_moves w a fit) (fit_waits w a fit) turn

-- where the back has no act
abbrev FitStill : World → List ring.Happening → BackAsk → (BackAnswer → back_view.View) → Type 0
FitStill w does ask step = back_act w.rings.under back_mover.Back ask Took ≡ None → IsFit (with_back w (ring.after does w.rings) w.back)

fit_none : (w : World) → IsFit w → back_turn w ≡ None → IsFit (with_back w (ring.after (back_does w) w.rings) w.back)
fit_none w fit turn =
    back_cases (FitStill w) w (λ moves untaken e. absurd (back_speaks w.rings.under (back_asks w) (both_true (back.speaks (back_asks w)) (back.is_between w.rings.back.stage) moves).0 e))
    (λ moves takes e. absurd (back_speaks w.rings.under (back_asks w) (both_true (back.speaks (back_asks w)) (back.is_between w.rings.back.stage) moves).0 e))
    (λ quiet moves e. subst (λ (act : Option BackAct). IsFit (with_back w (ring.back_after w.rings act) w.back)) (sym e) fit)
    (λ quiet still e. fit_keys w None w.back fit refl (keys_said w w.back fit (quiet_past w fit quiet) (λ said has. has)) (back_fits w fit) (back_shares w fit)) turn

fit_turn : (w : World) (act : Option BackAct) → IsFit w → back_turn w ≡ act → IsFit (with_back w (ring.after (back_does w) w.rings) (back_bus_after w act))
fit_turn w None fit e = fit_none w fit e
fit_turn w (Some a) fit e = fit_act w a fit e

-- a move of the back
pub fit_back_moves : (w : World) → IsFit w → IsFit (happens w BackMoves)
fit_back_moves w fit = fit_turn w (back_turn w) fit refl

-- and a close
pub fit_back_closes : (w : World) → IsFit w → IsFit (happens w (Closes end.Back))
fit_back_closes w fit = fit_back w w.rings (unplugged w.back) fit fit.safe
    (record { facts = facts_closed w.back; info = refl; said = subst (λ (b : BackBusStage). SaidAt (Says w w.rings.under.keys) b) (sym (stage_closed w.back)) fit.said; says = λ k is. is; announced = fit.announced }) (unplugged_cases (λ (v : BackView). BackFits v w.rings.back) w.back (back_fits w fit) (record { goes = fit.back; held = fit.held; halted = fit.halted })) (closed_shares w.back w.rings.back (back_shares w fit)) refl fit.unported fit.unbound
