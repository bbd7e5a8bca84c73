-- What happens before a hostile hand first overwrites a word or a key is served by the machine of the ring.
use Rattle.vbd_laws.proofs.NegotiatedEarly.{IsOnItsWay}
use Rattle.std.proofs.Common.{◌⊎◌, inl, inr, ◌≡◌, ◌∙◌, ap, sym, subst, ℕ, ◌<◌, ◌≤◌, Bool, true, false, true≢false, List, [], ◌∷◌, map, refl, arith, if◌then◌else◌}
use Rattle.std.specs.Prelude.{Option, Some, None, is_some}
use Rattle.std.specs.List.{AllByRecursion}
use Rattle.std.proofs.lemmas.Option.{none-some}
use Rattle.blk_base.specs.Options.{Options}
use Rattle.blk_base.specs.declared.parts.End.TheVariants as end
use Rattle.blk_base.specs.declared.moves.BackMover.TheVariants as back_mover
use Rattle.blk_base.specs.declared.ask.BackAnswer.{BackAnswer}
use Rattle.hypervisor.specs.Act.{FrontAct, BackAct, Took, back_act}
use Rattle.blk_front.specs.declared.stage.FrontStage.{FrontStage}
use Rattle.blk_front.specs.declared.stage.FrontStage.TheVariants as front_ring
use Rattle.blk_front.specs.declared.state.FrontState.{FrontState}
use Rattle.blk_front.specs.declared.state.FrontState.TheVariants as entered
use Rattle.blk_front.specs.declared.state.Offers.{Offers}
use Rattle.blk_front.specs.View as front_ends
use Rattle.blk_front.specs.Ask.{is_through}
use Rattle.blk_front.specs.State.{is_made}
use Rattle.blk_front.specs.Suspend.{is_left}
use Rattle.blk_front.specs.Submit.{is_connected}
use Rattle.blk_back.specs.declared.stage.BackStage.{BackStage}
use Rattle.blk_back.specs.View as ring_view
use Rattle.xenbus_state.specs.States.{state_number}
use Rattle.xenbus_state.specs.declared.state.BusState.{BusState}
use Rattle.xenbus_state.specs.declared.state.BusState.TheVariants as state
use Rattle.xenbus_state.specs.declared.stage.FrontBusStage.{FrontBusStage}
use Rattle.xenbus_state.specs.declared.stage.FrontBusStage.TheVariants as bus
use Rattle.xenbus_state.specs.declared.stage.BackBusStage.{BackBusStage}
use Rattle.xenbus_state.specs.declared.stage.BackBusStage.TheVariants as back_bus
use Rattle.xenbus_state.specs.declared.front.FrontBusAsk.{FrontBusAsk}
use Rattle.xenbus_state.specs.declared.front.FrontBusAsk.TheVariants as front_ask
use Rattle.xenbus_state.specs.declared.table.BackHalt.{BackHalt}
use Rattle.xenbus_state.specs.FrontView.{FrontView}
use Rattle.xenbus_state.specs.FrontAsk.{due_at, ask_at, ask_of}
use Rattle.xenbus_state.specs.BackView.{BackView, is_halting}
use Rattle.xenbus_state.specs.BackAsk.{says_closing}
use Rattle.xenbus_state.specs.BackStep as bus_step
use Rattle.split_model.specs.World as rings
use Rattle.split_model.specs.Happening as ring_happening
use Rattle.pipeline_laws.specs.Pipeline.{Pipeline}
use Rattle.pipeline_laws.specs.Allowed.{is_farewell}
use Rattle.machine_pipeline.specs.Plain.{IsPlain}
use Rattle.machine_pipeline.specs.Allowed as ring_allowed
use Rattle.machine_pipeline.specs.Allowed.{MayEnter, IsFarewell, is_free}
use Rattle.machine_pipeline.proofs.Flow.{Flow}
use Rattle.machine_pipeline.proofs.Holds.{Holds}
use Rattle.machine_pipeline.proofs.Over.{Over, IsKept}
use Rattle.machine_pipeline.proofs.Together.{IsStanding}
use Rattle.negotiation_laws.specs.Negotiation.{Negotiation}
use Rattle.negotiation_laws.specs.Laws.{gone_halt}
use Rattle.negotiation_laws.proofs.Subjects.{stage_needs}
use Rattle.negotiation_laws.proofs.Found.{run_holds}
use Rattle.vbd_front.specs.View as front_view
use Rattle.vbd_front.specs.Ask as front
use Rattle.vbd_front.specs.Step as front_step
use Rattle.vbd_back.specs.Ask as back
use Rattle.vbd_back.specs.Step as back_step
use Rattle.vbd_model.specs.World.{World, frontend_of, backend_of}
use Rattle.vbd_model.specs.Happening.{front_turn, entered_at, halted_at, reasons_of, front_key, front_does}
use Rattle.vbd_model.specs.Fit.{FrontRests, FrontGoesWith, BackReads, BackGoesWith, IsFit}
use Rattle.negotiation_laws.proofs.Choices.{due_cases}
use Rattle.vbd_laws.proofs.FitBackBus.{waits_reading}
use Rattle.vbd_laws.proofs.MovesTurns.{front_asks, back_asks, front_cases}
use Rattle.vbd_laws.proofs.ServedFront.{front_spelled}
use Rattle.vbd_laws.proofs.ServedPort.{HasFirstPort}
use Rattle.vbd_laws.proofs.ServedGone.{IsGone}
use Rattle.vbd_laws.proofs.ServedBack.{IsRead, halt_read, halt_said}
use Rattle.vbd_laws.proofs.NegotiatedRun.{Reached, Joined, negotiation_of, halts_at, late_at}
use Rattle.vbd_laws.proofs.NegotiatedFront.{HasInHand}
use Rattle.vbd_laws.proofs.NegotiatedBack.{a_page, keys_heard}
use Rattle.vbd_laws.proofs.NegotiatedKept.{IsTimely, states_timely}
use Rattle.vbd_laws.proofs.NegotiatedAgreed.{keeps_order}
use Rattle.vbd_laws.proofs.NegotiatedWay.{ring_made_now, key_given}
use Rattle.vbd_laws.proofs.NegotiatedBusy.{HasHeard}
use Rattle.vbd_laws.specs.Waits.{Check}
use Rattle.vbd_laws.proofs.WaitsFront.{Knows as FrontKnows, in_hand}
use Rattle.vbd_laws.proofs.WaitsBack.{Knows as BackKnows}
use Rattle.vbd_laws.proofs.ServedPossible.{IsWord, same_is, entered_words, Stands}

-- each end is somewhere in its final check
abbrev FrontChecks : World → Type 0
FrontChecks w = (c : Check) × FrontKnows w c

abbrev BackChecks : World → Type 0
BackChecks w = (c : Check) × BackKnows w c

-- in an epoch that a front began, its negotiation is a run, in which a front that has requests has heard of its back, and its port is the first of the epoch
pub record Going (w : World) : Type 0 where
  pub joined : Joined w
  pub heard : HasHeard w
  pub first_port : HasFirstPort w

-- the machine before a word is overwritten: the machine of its ring stands for a pipeline, and a front began the epoch or was closed before it
pub record Honest (config : Options) (w : World) : Type 0 where
  pub stands : Stands w
  pub way : IsOnItsWay w
  pub plain : IsPlain config
  pub standing : IsStanding config w.rings
  pub front_checks : FrontChecks w
  pub back_checks : BackChecks w
  pub going : Going w ⊎ IsGone w

-- the front's end of the ring is never broken
whole_holds : (config : Options) (w : rings.World) (g : Flow) (d : Pipeline) (s : FrontStage) (b : BackStage) → Holds config w g d s b → front_view.is_broken s ≡ false
whole_holds config w g d (front_ring.Broken word) b h = absurd h.front_at
whole_holds config w g d s b h = refl

whole_over : (config : Options) (w : rings.World) (d : Pipeline) (s : FrontStage) (b : BackStage) → Over config w d s b → front_view.is_broken s ≡ false
whole_over config w d (front_ring.Broken word) b o = absurd o.front_at
whole_over config w d s b o = refl

pub whole_now : (config : Options) (w : rings.World) → IsStanding config w → front_view.is_broken w.front.stage ≡ false
whole_now config w standing = by_kept standing.kept
  where
    by_kept : IsKept config w standing.pipeline → front_view.is_broken w.front.stage ≡ false
    by_kept (inl held) = whole_holds config w held.0 standing.pipeline w.front.stage w.back.stage held.1
    by_kept (inr over) = whole_over config w standing.pipeline w.front.stage w.back.stage over

-- and data of an epoch before are in hand, which are told before the back halts
pub hand_now : (config : Options) (w : World) → Honest config w → HasInHand w.rings.front.stage w.rings.front.ending
hand_now config w honest = in_hand w honest.front_checks.0 honest.front_checks.1

left_over : (config : Options) (w : rings.World) (d : Pipeline) (s : FrontStage) (b : BackStage) → Over config w d s b → is_left s ≡ false
left_over config w d (front_ring.LeftData n) b o = absurd o.front_at
left_over config w d s b o = refl

halted_unleft : (config : Options) (w : rings.World) → IsStanding config w → is_some w.back.halted ≡ true → is_left w.front.stage ≡ false
halted_unleft config w standing halted = by_kept standing.kept
  where
    by_kept : IsKept config w standing.pipeline → is_left w.front.stage ≡ false
    by_kept (inl held) = absurd (true≢false (sym halted ∙ ap is_some held.1.unhalted))
    by_kept (inr over) = left_over config w standing.pipeline w.front.stage w.back.stage over

-- a front that makes its ring has written no state since it began
abbrev IsMaking : FrontBusAsk → Type 0
IsMaking (front_ask.WriteRingWord word) = Unit {0}
IsMaking (front_ask.Grant page) = Unit {0}
IsMaking front_ask.NewPort = Unit {0}
IsMaking b = ⊥

made_or_making : (b : FrontBusAsk) (r : FrontStage) → is_left r ≡ false → front.ring_moves b r ≡ true → (is_connected r ≡ true) ⊎ IsMaking b
made_or_making (front_ask.WriteRingWord word) r none moves = inr tt
made_or_making (front_ask.Grant page) r none moves = inr tt
made_or_making front_ask.NewPort r none moves = inr tt
made_or_making (front_ask.EndGrant page) (front_ring.RingRead k) none moves = inl refl
made_or_making (front_ask.EndGrant page) (front_ring.RingEnd k seen) none moves = inl refl
made_or_making (front_ask.EndGrant page) (front_ring.Broken word) none moves = inl refl
made_or_making (front_ask.EndGrant page) r none moves = absurd (true≢false (sym moves))
made_or_making front_ask.ClosePort front_ring.ClosePort none moves = inl refl
made_or_making front_ask.ClosePort r none moves = absurd (true≢false (sym moves))
made_or_making b (front_ring.LeftData n) none moves = absurd (true≢false none)
made_or_making b r none moves = inl moves

making_at : (s : FrontBusStage) (v : FrontView) (idle : Bool) (r : FrontStage) → FrontGoesWith s v r → IsMaking (ask_at (due_at s v idle) v) → v.state ≡ state.Initialising
making_at (bus.RingWord word) v idle r fits making = fits.0
making_at (bus.Grant page) v idle r fits making = fits.0
making_at bus.NewPort v idle r fits making = fits.0
making_at bus.Rest v idle r fits making = absurd (due_cases (λ (d : FrontBusStage). IsMaking (ask_at d v) → ⊥) bus.Rest v idle (λ m. m) (λ m. m) (λ m. m) (λ m. m) making)
making_at bus.Start v idle r fits making = absurd making
making_at s v idle r fits making = absurd making

-- once the back has halted the front's end of the ring moves only where its ring is made
moves_made : (config : Options) (w : World) → IsFit w → IsStanding config w.rings → Joined w → front.ring_moves (front_asks w) w.rings.front.stage ≡ true → is_some w.rings.back.halted ≡ true → is_connected w.rings.front.stage ≡ true
moves_made config w fit standing j moves halted = by_kind (made_or_making b w.rings.front.stage none (subst (λ (c : FrontBusAsk). front.ring_moves c w.rings.front.stage ≡ true) asks moves))
  where
    none : is_left w.rings.front.stage ≡ false
    none = halted_unleft config w.rings standing halted

    b : FrontBusAsk
    b = ask_of w.front (front_view.is_unoccupied w.rings.front)

    asks : front_asks w ≡ b
    asks = ap (λ (left : Bool). if left then front_ask.Wait else b) none

    by_kind : (is_connected w.rings.front.stage ≡ true) ⊎ IsMaking b → is_connected w.rings.front.stage ≡ true
    by_kind (inl made) = made
    by_kind (inr making) =
        let own = making_at w.front.stage w.front (front_view.is_unoccupied w.rings.front) w.rings.front.stage fit.front making in
        let late = late_at (negotiation_of w) j (sym fit.halted ∙ halted) in
        let first : state_number w.front.state ≡ 1 = ap state_number own in
        absurd (omega arith)

-- the front enters its states when the machine of the ring allows it
enters_when : (w : World) (v : rings.World) (n : ℕ) → IsFit w → v.back ≡ w.rings.back → v.front.shape.order ≡ n → (s : FrontState) → IsTimely w s → IsWord n s → MayEnter v s
enters_when w v n fit same own (entered.Agreed order) timely is = is ∙ sym own
enters_when w v n fit same own (entered.Connected offers) timely is = record {
  sectors = ap (λ (o : Offers). o.sectors) timely.1 ∙ (sym fit.published.sectors ∙ sym (ap (λ (b : ring_view.View). b.jobs.info.sectors) same));
  read_only = ap (λ (o : Offers). o.read_only) timely.1 ∙ (sym fit.published.read_only ∙ sym (ap (λ (b : ring_view.View). b.jobs.info.read_only) same));
  barrier = ap (λ (o : Offers). o.barrier) timely.1 ∙ (sym fit.published.barrier ∙ sym (ap (λ (b : ring_view.View). b.jobs.info.barrier) same));
  flush = ap (λ (o : Offers). o.flush) timely.1 ∙ (sym fit.published.flush ∙ sym (ap (λ (b : ring_view.View). b.jobs.info.flush) same));
  discard = ap (λ (o : Offers). o.discard) timely.1 ∙ (sym fit.published.discard ∙ sym (ap (λ (b : ring_view.View). b.jobs.info.discard) same));
  indirect = ap (λ (o : Offers). o.indirect) timely.1 ∙ (sym fit.published.indirect ∙ sym (ap (λ (b : ring_view.View). b.jobs.info.max_indirect) same));
}
enters_when w v n fit same own entered.Closing timely is = tt
enters_when w v n fit same own entered.Leaving timely is =
    let fits = subst (λ (s : BackBusStage). BackGoesWith s w.back.state w.rings.back.stage) timely.stage fit.back in
    ap (λ (b : ring_view.View). b.stage) same ∙ fits.1
enters_when w v n fit same own entered.Closed timely is = ap (λ (b : ring_view.View). is_some b.halted) same ∙ (fit.halted ∙ ap is_halting timely.stage)
enters_when w v n fit same own (entered.Broken word) timely is = absurd timely

enters_served : (w : World) (v : rings.World) (n : ℕ) → IsFit w → v.back ≡ w.rings.back → v.front.shape.order ≡ n → (states : List FrontState) → AllByRecursion (IsTimely w) states → AllByRecursion (IsWord n) states
    → ring_allowed.AreServed (map ring_happening.FrontEnters states) v
enters_served w v n fit same own [] timely are = tt
enters_served w v n fit same own (s ∷ states) timely are = (
  enters_when w v n fit same own s timely.0 are.0,
  enters_served w (ring_happening.happens v (ring_happening.FrontEnters s)) n fit same (keeps_order s v.front (same_is n v.front.shape.order s own are.0) ∙ own) states timely.1 are.1,
)

pub front_served : (config : Options) (w : World) → Honest config w → Going w → ring_allowed.AreServed (front_does w) w.rings
front_served config w honest going =
    front_cases (λ does asked step. ring_allowed.AreServed does w.rings) w (λ says. (front_spelled w honest.stands.front, by_act (front_turn w) refl says))
    (λ quiet moves. (moves_made config w honest.stands.fit honest.standing going.joined moves, tt)) (λ quiet still. (front_spelled w honest.stands.front, tt))
  where
    by_act : (act : Option FrontAct) → front_turn w ≡ act → front.speaks (front_asks w) ≡ true
        → (let v : rings.World = ring_happening.happens w.rings (ring_happening.Negotiates end.Front (front_key (front_asks w))) in ring_allowed.AreServed (map ring_happening.FrontEnters (entered_at w act)) v)
    by_act None e says = tt
    by_act (Some a) e says =
        enters_served w _ w.rings.front.shape.order honest.stands.fit refl refl (front_step.states_after (frontend_of w) a.answer)
        (states_timely w a honest.stands.fit (whole_now config w.rings honest.standing) going.joined e says) (entered_words w (Some a) honest.stands e says)

-- a front leaves, and knows that the back is gone, only once the back is closed
abbrev LeavesLate : Negotiation → Type 0
LeavesLate n = (stage_needs n.front.stage ≤ state_number n.back.state) × (n.front.gone ≡ true → 6 ≤ state_number n.back.state)

late_leaves : (n : Negotiation) → Reached n → LeavesLate n
late_leaves n j = let h = run_holds j.run in subst LeavesLate j.stands (h.front.stage_after, h.front.gone_after)

-- before that a front that wrote Closing is at nothing
made_free : (r : FrontStage) → is_made r ≡ true → is_free r ≡ true
made_free (front_ring.RingWord k) is = absurd (true≢false (sym is))
made_free r is = is

rests_free : (gone : Bool) (port : Option ℕ) (r : FrontStage) (n : ℕ) → FrontRests state.Closing gone port r → (gone ≡ true → 6 ≤ n) → n < 6 → is_free r ≡ true
rests_free false None r n fits late low = ap is_free fits
rests_free false (Some p) r n fits late low = made_free r fits
rests_free true port r n fits late low = absurd (let high = late refl in omega arith)

not_early : {A : Type 0} (own s : BusState) → own ≡ s → state_number s < 5 → own ≡ state.Closing → A
not_early own s e low f = absurd (let same : state_number own ≡ state_number s = ap state_number e in let five : state_number own ≡ 5 = ap state_number f in omega arith)

closing_free : (s : FrontBusStage) (v : FrontView) (r : FrontStage) (n : ℕ) → FrontGoesWith s v r → v.state ≡ state.Closing → front_view.is_broken r ≡ false → stage_needs s ≤ n → (v.gone ≡ true → 6 ≤ n) → n < 6 → is_free r ≡ true
closing_free bus.Rest v r n (inl fits) e whole needs late low = rests_free v.gone v.port r n (subst (λ (own : BusState). FrontRests own v.gone v.port r) e fits) late low
closing_free bus.Rest v r n (inr broken) e whole needs late low = absurd (true≢false (sym broken ∙ whole))
closing_free bus.ReadState v r n fits e whole needs late low = rests_free v.gone v.port r n (subst (λ (own : BusState). FrontRests own v.gone v.port r) e fits) late low
closing_free bus.Start v r n fits e whole needs late low = not_early v.state state.Initialising fits.0 (omega arith) e
closing_free (bus.ReadFeature key) v r n fits e whole needs late low = not_early v.state state.Initialising fits.0 (omega arith) e
closing_free (bus.RingWord word) v r n fits e whole needs late low = not_early v.state state.Initialising fits.0 (omega arith) e
closing_free (bus.Grant page) v r n fits e whole needs late low = not_early v.state state.Initialising fits.0 (omega arith) e
closing_free bus.NewPort v r n fits e whole needs late low = not_early v.state state.Initialising fits.0 (omega arith) e
closing_free (bus.Publish key) v r n fits e whole needs late low = not_early v.state state.Initialising fits.0 (omega arith) e
closing_free (bus.ReadFact key) v r n fits e whole needs late low = not_early v.state state.Initialised fits.0 (omega arith) e
closing_free (bus.WriteState state.Initialised) v r n fits e whole needs late low = not_early v.state state.Initialising fits.0 (omega arith) e
closing_free (bus.WriteState state.Connected) v r n fits e whole needs late low = not_early v.state state.Initialised fits.0 (omega arith) e
closing_free (bus.WriteState state.Closed) v r n fits e whole needs late low = absurd (omega arith)
closing_free (bus.WriteState own) v r n fits e whole needs late low = absurd fits
closing_free (bus.EndGrant page) v r n fits e whole needs late low = absurd (omega arith)
closing_free bus.ClosePort v r n fits e whole needs late low = absurd (omega arith)
closing_free bus.Closed v r n fits e whole needs late low = absurd (omega arith)
closing_free (bus.Broken word) v r n fits e whole needs late low = absurd (omega arith)
closing_free s v r n fits e whole needs late low = absurd fits

-- a back that halts isn't closed yet
low_reads : (own : BusState) (r : BackStage) → BackReads own r → state_number own < 6
low_reads state.InitWait r fits = omega arith
low_reads state.Connected r fits = omega arith
low_reads state.Closing r fits = omega arith
low_reads own r fits = absurd fits

low_at : (s : BackBusStage) (v : BackView) (x : BackAnswer) (r : BackStage) (why : BackHalt) → bus_step.halt_at s v x ≡ Some why → BackGoesWith s v.state r → state_number v.state < 6
low_at back_bus.ReadState v x r why e fits = low_reads v.state r fits
low_at (back_bus.ReadKey k) v x r why e fits = rw (waits_reading k v.state r fits).0 (omega arith)
low_at back_bus.MapPage v x r why e fits = rw fits.0 (omega arith)
low_at back_bus.Bind v x r why e fits = rw fits.0 (omega arith)
low_at back_bus.Watch v x r why e fits = absurd (none-some why e)
low_at s v x r why e fits = absurd (none-some why e)

low_halt : (v : BackView) (x : BackAnswer) (r : BackStage) (why : BackHalt) → bus_step.halt_of v x ≡ Some why → BackGoesWith v.stage v.state r → state_number v.state < 6
low_halt v x r why e fits = by_test (says_closing v) e
  where
    by_test : (b : Bool) → (if b then None else bus_step.halt_at v.stage v x) ≡ Some why → state_number v.state < 6
    by_test true e = absurd (none-some why e)
    by_test false e = low_at v.stage v x r why e fits

farewell_line : (unplugged : Bool) → is_farewell (back_step.ring_halt (gone_halt unplugged state.Closing)) ≡ true
farewell_line true = refl
farewell_line false = refl

module _ (config : Options) (w : World) (honest : Honest config w) (going : Going w) where
  abbrev fit : IsFit w
  fit = honest.stands.fit

  whole : front_view.is_broken w.rings.front.stage ≡ false
  whole = whole_now config w.rings honest.standing

  -- a halt is a farewell
  farewell : (v : rings.World) (a : BackAct) (why : BackHalt) → v.front ≡ w.rings.front → back.speaks (back_asks w) ≡ true → back_act w.rings.under back_mover.Back (back.key_ask (back_asks w)) Took ≡ Some a
      → back_step.halt_of (backend_of w) a.answer ≡ Some why → IsFarewell v (back_step.ring_halt why)
  farewell v a why same says turn e =
      let heard = keys_heard (back_asks w) w.rings.under a says turn in
      let gone = halts_at (negotiation_of w) a_page why going.joined (subst (λ (x : BackAnswer). bus_step.halt_of w.back x ≡ Some why) heard.0 e) in
      let late = late_leaves (negotiation_of w) going.joined in
      let low = low_halt w.back a.answer w.rings.back.stage why e fit.back in
      record {
        gone = ap (λ (y : BackHalt). is_farewell (back_step.ring_halt y)) gone.1 ∙ farewell_line w.back.unplugged;
        through = subst (λ (f : front_ends.View). is_through f ≡ true) (sym same) (fit.through gone.0 whole);
        free = subst (λ (f : front_ends.View). is_free f.stage ≡ true) (sym same) (closing_free w.front.stage w.front w.rings.front.stage (state_number w.back.state) fit.front gone.0 whole late.0 late.1 low);
        said = halt_said why (subst IsRead e (halt_read w.back a.answer (key_given w.rings.under (back_asks w) a turn) honest.stands.back));
      }

  pub halts_served : (v : rings.World) (act : Option BackAct) → v.front ≡ w.rings.front → back.speaks (back_asks w) ≡ true → back_act w.rings.under back_mover.Back (back.key_ask (back_asks w)) Took ≡ act
      → ring_allowed.AreServed (map ring_happening.BackHalts (halted_at w act)) v
  halts_served v None same says turn = tt
  halts_served v (Some a) same says turn = by_halt (back_step.halt_of (backend_of w) a.answer) refl
    where
      by_halt : (why : Option BackHalt) → back_step.halt_of (backend_of w) a.answer ≡ why → ring_allowed.AreServed (map ring_happening.BackHalts (reasons_of why)) v
      by_halt None e = tt
      by_halt (Some why) e = (farewell v a why same says turn e, tt)

  pub moves_allowed : back.ring_moves (back_asks w) w.rings.back.stage ≡ true → is_some w.rings.back.halted ≡ false → is_connected w.rings.front.stage ≡ true
  moves_allowed moves = ring_made_now w fit honest.way moves
