-- Each move of the front lowers what is left to the whole machine.
use Rattle.std.proofs.Common.{inl, inr, ◌≡◌, ◌∙◌, ap, sym, subst, ℕ, ◌+◌, ◌*◌, ◌≤◌, Bool, true, false, List, [], ◌∷◌, refl, arith, if◌then◌else◌}
use Rattle.std.specs.Prelude.{Option, Some, None, is_some}
use Rattle.std.specs.List.{AllByRecursion}
use Rattle.std.proofs.lemmas.Option.{none-some}
use Rattle.blk_base.specs.Options.{Options}
use Rattle.blk_base.specs.declared.parts.End.TheVariants as end
use Rattle.blk_base.specs.declared.ask.FrontAsk.{FrontAsk}
use Rattle.blk_base.specs.declared.ask.FrontAsk.TheVariants as front_ask
use Rattle.blk_base.specs.declared.ask.FrontAnswer.{FrontAnswer}
use Rattle.hypervisor.specs.Hypervisor.{Hypervisor}
use Rattle.hypervisor.specs.Act.{FrontAct, front_act, front_watched, watch_next}
use Rattle.blk_front.specs.declared.state.FrontState.{FrontState}
use Rattle.blk_front.specs.declared.state.Offers.{Offers}
use Rattle.blk_front.specs.Ask as front_ring
use Rattle.xenbus_state.specs.declared.front.FrontNews.{FrontNews}
use Rattle.xenbus_state.specs.declared.front.FrontNews.TheVariants as news
use Rattle.xenbus_state.specs.declared.front.FrontBusAsk.{FrontBusAsk}
use Rattle.xenbus_state.specs.declared.front.FrontBusAsk.TheVariants as bus_ask
use Rattle.pipeline_laws.specs.Pipeline.{Pipeline, after_steps}
use Rattle.split_model.specs.World as rings
use Rattle.split_model.specs.Happening as ring
use Rattle.split_model.proofs.SafeActs.{of_front, front_event, front_watch as front_takes}
use Rattle.machine_pipeline.specs.Allowed.{AreServed}
use Rattle.machine_pipeline.proofs.Over.{IsKept}
use Rattle.negotiation_laws.specs.Negotiation.{Negotiation}
use Rattle.negotiation_laws.specs.Left.{left}
use Rattle.vbd_front.specs.View as front_view
use Rattle.vbd_front.specs.Ask as front
use Rattle.vbd_front.specs.Step as front_step
use Rattle.vbd_model.specs.World.{World, frontend_of}
use Rattle.vbd_model.specs.Happening.{FrontMoves, front_key, entered_at, front_turn, front_does, happens}
use Rattle.vbd_laws.specs.Moves.{IsFrontMove}
use Rattle.vbd_laws.proofs.MovesTurns.{front_asks, front_says, front_cases}
use Rattle.vbd_laws.proofs.MovesFront.{front_waits, front_move_is}
use Rattle.vbd_laws.proofs.NegotiatedFront.{with_front}
use Rattle.vbd_laws.proofs.ServedHonest.{Honest, Going, whole_now, hand_now}
use Rattle.ring_settle_laws.specs.Left.{ring_left}
use Rattle.ring_settle_laws.proofs.FrontMoves.{front_falls}
use Rattle.ring_settle_laws.proofs.Gone.{left_after, front_watch, entering}
use Rattle.settle_laws.specs.Total.{negotiation_of, total_left}
use Rattle.settle_laws.proofs.Falling.{Falls}
use Rattle.settle_laws.proofs.FrontTurnsAgreed.{IsInTime, entered_in_time}
use Rattle.settle_laws.proofs.NegotiationFront.{speaks_lowers, front_lowers}
use Rattle.settle_laws.proofs.TurnsGone.{front_still}
use Rattle.settle_laws.proofs.TurnsServed.{front_served}
use Rattle.settle_laws.proofs.TurnsMade.{HasAtMost, gone_at, all_entering, says_states}

-- the ring's machine, with this left to both negotiations, has less left than before
pub record HasLess (config : Options) (before negotiations : ℕ) (w : rings.World) : Type 0 where
  pub pipeline : Pipeline
  pub kept : IsKept config w pipeline
  pub less : 38 * negotiations + ring_left w pipeline + 1 ≤ before

-- of the states that the front enters at an answer only the one in which it leaves begins a stretch
news_entering : (offers : Offers) (n : FrontNews) → entering (front_step.state_of_news offers n) ≡ 0
news_entering offers news.Ready = refl
news_entering offers news.Closing = refl
news_entering offers news.Closed = refl
news_entering offers (news.Broken word) = refl

due_entering : (b : FrontBusAsk) (order : ℕ) → all_entering (front_step.states_due b order) ≤ 33
due_entering (bus_ask.WriteRingWord word) order = omega arith
due_entering (bus_ask.EndGrant page) order = omega arith
due_entering b order = omega arith

few_entering : (offers : Offers) (n : Option FrontNews) (b : FrontBusAsk) (order : ℕ) → all_entering (front_step.states_entered offers n b order) ≤ 33
few_entering offers None b order = due_entering b order
few_entering offers (Some n) b order = plain (entering (front_step.state_of_news offers n)) (all_entering (front_step.states_due b order)) (news_entering offers n) (due_entering b order)
  where
    plain : (first later : ℕ) → first ≡ 0 → later ≤ 33 → first + later ≤ 33
    plain first later a b = omega arith

-- the sums: a step of a negotiation pays for a stretch of 37 moves, and a watch for one
pub paid : (now before left most more : ℕ) → now + 1 ≤ before → left ≤ most + more → more ≤ 37 → 38 * now + left + 1 ≤ 38 * before + most
paid now before left most more a b c = omega arith

pub moved : (now before left most watch : ℕ) → now + watch ≤ before → left + 1 ≤ most + watch → 38 * now + left + 1 ≤ 38 * before + most
moved now before left most watch a b = omega arith

few_more : (more : ℕ) → more ≤ 33 → more ≤ 37
few_more more a = omega arith

less_one : (left most : ℕ) → left + 1 ≤ most + 1 → left ≤ most
less_one left most a = omega arith

-- a front that waits takes its watch where no event is pending
waits_watch : (h : Hypervisor) (a : FrontAct) → h.channels.front_pending ≡ false → front_act h front_ask.Wait ≡ Some a → front_watch a.answer ≡ 1
waits_watch h a none e = by_next (watch_next h end.Front) (subst (λ (b : Bool). (if b then Some (front_event h) else front_watched h (watch_next h end.Front)) ≡ Some a) none e)
  where
    by_next : (next : Option (List ℕ)) → front_watched h next ≡ Some a → front_watch a.answer ≡ 1
    by_next None f = absurd (none-some a f)
    by_next (Some path) f = of_front (λ (x : FrontAct). front_watch x.answer ≡ 1) (front_takes h path) a refl f

module _ (config : Options) (w : World) (d : Pipeline) (honest : Honest config w) (going : Going w) (kept : IsKept config w.rings d) (a : FrontAct) (turn : front_turn w ≡ Some a) where
  abbrev after : front_view.View → Negotiation
  after v = with_front (negotiation_of w) v.bus a.under.keys

  -- what is left then
  abbrev Lowers : List ring.Happening → FrontAsk → (FrontAnswer → front_view.View) → Type 0
  Lowers does asked step =
      front_act w.rings.under asked ≡ Some a → AreServed does w.rings → left (after (step a.answer)) + front_watch a.answer ≤ left (negotiation_of w)
      → HasLess config (total_left w d) (left (after (step a.answer))) (ring.after does w.rings)

  by_most : (now more : ℕ) (v : rings.World) → now + 1 ≤ left (negotiation_of w) → more ≤ 37 → HasAtMost config (ring_left w.rings d + more) v → HasLess config (total_left w d) now v
  by_most now more v fewer few has =
      record { pipeline = has.pipeline; kept = has.kept; less = paid now (left (negotiation_of w)) (ring_left v has.pipeline) (ring_left w.rings d) more fewer has.no_more few }

  says : front.speaks (front_asks w) ≡ true → Lowers (front_says w (entered_at w (front_turn w))) (front.key_ask (front_asks w)) (λ x. front_step.spoken (frontend_of w) x)
  says speaks e served no_more =
      by_states (entered_at w (front_turn w)) (subst (λ (act : Option FrontAct). all_entering (entered_at w act) ≤ 33) (sym turn) (few_entering _ _ _ _))
      (subst (λ (act : Option FrontAct). AllByRecursion (IsInTime (is_some w.rings.back.halted)) (entered_at w act)) (sym turn)
      (entered_in_time w a honest.stands.fit (whole_now config w.rings honest.standing) (hand_now config w honest) going.joined turn speaks e)) served
    where
      by_states : (states : List FrontState) → all_entering states ≤ 33 → AllByRecursion (IsInTime (is_some w.rings.back.halted)) states → AreServed (front_says w states) w.rings
          → HasLess config (total_left w d) (left (after (front_step.spoken (frontend_of w) a.answer))) (ring.after (front_says w states) w.rings)
      by_states states few times may =
          by_most (left (after (front_step.spoken (frontend_of w) a.answer))) (all_entering states) (ring.after (front_says w states) w.rings) (speaks_lowers w a going.joined speaks e) (few_more (all_entering states) few)
          (says_states config end.Front (front_key (front_asks w)) states w.rings d honest.plain honest.standing.safe kept times may)

  moves : Lowers (ring.FrontMoves ∷ []) (front_ring.ask_of w.rings.front) (λ x. front_step.ring_step true (front_asks w) (frontend_of w) x)
  moves e served no_more =
      let gone = gone_at config w.rings d ring.FrontMoves honest.plain honest.standing.safe kept served.0 in
      record {
        pipeline = after_steps gone.steps d;
        kept = gone.kept;
        less = moved (left (after (front_step.ring_step true (front_asks w) (frontend_of w) a.answer))) (left (negotiation_of w)) (left_after config w.rings d ring.FrontMoves gone) (ring_left w.rings d) (front_watch a.answer) no_more
            (front_falls config w.rings d a kept served.0 e gone);
      }

  waits : front.speaks (front_asks w) ≡ false → front.ring_moves (front_asks w) w.rings.front.stage ≡ false → Lowers (front_says w []) front_ask.Wait (λ x. front_step.ring_step false (front_asks w) (frontend_of w) x)
  waits quiet still e served no_more =
      let one = waits_watch w.rings.under a (front_waits w honest.stands.fit quiet still) e in
      by_most (left (after (front_step.ring_step false (front_asks w) (frontend_of w) a.answer))) 0 (ring.after (front_says w []) w.rings)
      (subst (λ (k : ℕ). left (after (front_step.ring_step false (front_asks w) (frontend_of w) a.answer)) + k ≤ left (negotiation_of w)) one no_more) (omega arith)
      (says_states config end.Front (front_key (front_asks w)) [] w.rings d honest.plain honest.standing.safe kept tt served)

  turn_lowers : Lowers (front_does w) (front.ask_of (frontend_of w)) (λ x. front_step.step_of (frontend_of w) x)
  turn_lowers = front_cases Lowers w says (λ quiet does. moves) waits

  going_falls : Falls config (total_left w d) (happens w FrontMoves)
  going_falls =
      let fit = honest.stands.fit in
      let v : front_view.View = front_step.step_of (frontend_of w) a.answer in
      let no_more = front_lowers w a fit (whole_now config w.rings honest.standing) (hand_now config w honest) going.joined turn in
      let is : IsFrontMove w a = front_move_is w a fit turn in
      let same : left (negotiation_of (happens w FrontMoves)) ≡ left (after v) = ap (λ (x : World). left (negotiation_of x)) is.world in
      let has = subst (λ (k : ℕ). HasLess config (total_left w d) k (ring.after (front_does w) w.rings)) (sym same) (turn_lowers turn (front_served config w honest) no_more) in
      record { pipeline = has.pipeline; kept = has.kept; less = has.less }

pub front_turn_falls : (config : Options) (w : World) (d : Pipeline) → Honest config w → IsKept config w.rings d → (a : FrontAct) → front_turn w ≡ Some a → Falls config (total_left w d) (happens w FrontMoves)
front_turn_falls config w d honest kept a turn = elim honest.going [
  | inl going ↦ going_falls config w d honest going kept a turn
  | inr gone ↦ absurd (none-some a (sym (front_still w honest.stands.fit gone) ∙ turn))
]
