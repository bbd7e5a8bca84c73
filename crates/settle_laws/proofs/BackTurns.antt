-- Each move of the back lowers what is left to the whole machine.
use Rattle.std.proofs.Common.{inl, inr, ◌≡◌, ◌∙◌, ap, sym, subst, ℕ, ◌+◌, ◌≤◌, Bool, true, false, List, [], ◌∷◌, refl, arith, if◌then◌else◌}
use Rattle.std.specs.Prelude.{Option, Some, None}
use Rattle.std.proofs.lemmas.Option.{none-some}
use Rattle.line_text.proofs.Both.{both_true}
use Rattle.blk_base.specs.Options.{Options}
use Rattle.blk_base.specs.declared.parts.End.TheVariants as end
use Rattle.blk_base.specs.declared.moves.BackMover.TheVariants as back_mover
use Rattle.blk_base.specs.declared.ask.BackAsk.{BackAsk}
use Rattle.blk_base.specs.declared.ask.BackAsk.TheVariants as back_ask
use Rattle.blk_base.specs.declared.ask.BackAnswer.{BackAnswer}
use Rattle.blk_base.specs.declared.halt.Halt.{Halt}
use Rattle.hypervisor.specs.Hypervisor.{Hypervisor}
use Rattle.hypervisor.specs.Act.{BackAct, Took, back_act, back_watched, watch_next}
use Rattle.blk_back.specs.Ask as back_ring
use Rattle.xenbus_state.specs.declared.table.BackHalt.{BackHalt}
use Rattle.xenbus_state.specs.BackView.{BackView}
use Rattle.pipeline_laws.specs.Pipeline.{Pipeline, after_steps}
use Rattle.split_model.specs.World as rings
use Rattle.split_model.specs.Happening as ring
use Rattle.split_model.proofs.SafeActs.{of_back, back_event, back_watch as back_takes_watch}
use Rattle.machine_pipeline.specs.Allowed.{AreServed}
use Rattle.machine_pipeline.proofs.Over.{IsKept}
use Rattle.negotiation_laws.specs.Negotiation.{Negotiation}
use Rattle.negotiation_laws.specs.Left.{left}
use Rattle.vbd_back.specs.View as back_view
use Rattle.vbd_back.specs.Ask as back
use Rattle.vbd_back.specs.Step as back_step
use Rattle.vbd_model.specs.World.{World, backend_of}
use Rattle.vbd_model.specs.Happening.{BackMoves, back_key, halted_at, reasons_of, attaches, back_turn, back_does, happens}
use Rattle.vbd_laws.specs.Moves.{IsBackMove}
use Rattle.vbd_laws.proofs.MovesTurns.{back_asks, back_says, back_learns, back_takes, back_cases}
use Rattle.vbd_laws.proofs.MovesBack.{back_waits, back_move_is}
use Rattle.vbd_laws.proofs.NegotiatedBack.{with_back}
use Rattle.vbd_laws.proofs.ServedHonest.{Honest, Going}
use Rattle.vbd_laws.proofs.ServedGiven.{unrefused}
use Rattle.ring_settle_laws.specs.Left.{ring_left}
use Rattle.ring_settle_laws.proofs.BackMoves.{back_falls}
use Rattle.ring_settle_laws.proofs.BackTerms.{attaches_left}
use Rattle.ring_settle_laws.proofs.Gone.{left_after, back_watch}
use Rattle.settle_laws.specs.Total.{negotiation_of, total_left}
use Rattle.settle_laws.proofs.Falling.{Falls}
use Rattle.settle_laws.proofs.NegotiationBack.{speaks_lowers, back_lowers}
use Rattle.settle_laws.proofs.BackTurnsTerms.{led_unready}
use Rattle.settle_laws.proofs.TurnsGone.{back_still}
use Rattle.settle_laws.proofs.TurnsServed.{back_served}
use Rattle.settle_laws.proofs.TurnsMade.{HasAtMost, gone_at, made_by, all_halting, says_reasons}
use Rattle.settle_laws.proofs.FrontTurns.{HasLess, paid, moved}

-- a back halts for one reason at most
few_halting : (reason : Option BackHalt) → all_halting (reasons_of reason) ≤ 37
few_halting None = omega arith
few_halting (Some why) = omega arith

-- a back that waits takes its watch where no event is pending
waits_watch : (h : Hypervisor) (a : BackAct) → h.channels.back_pending ≡ false → back_act h back_mover.Back back_ask.Wait Took ≡ Some a → back_watch a.answer ≡ 1
waits_watch h a none e = by_next (watch_next h end.Back) (subst (λ (b : Bool). (if b then Some (back_event h) else back_watched h (watch_next h end.Back)) ≡ Some a) none e)
  where
    by_next : (next : Option (List ℕ)) → back_watched h next ≡ Some a → back_watch a.answer ≡ 1
    by_next None f = absurd (none-some a f)
    by_next (Some path) f = of_back (λ (x : BackAct). back_watch x.answer ≡ 1) (back_takes_watch h path) a refl f

module _ (config : Options) (w : World) (d : Pipeline) (honest : Honest config w) (going : Going w) (kept : IsKept config w.rings d) (a : BackAct) where
  abbrev after : back_view.View → Negotiation
  after v = with_back (negotiation_of w) v.bus a.under.keys

  -- what is left then
  abbrev Lowers : List ring.Happening → BackAsk → (BackAnswer → back_view.View) → Type 0
  Lowers does asked step =
      back_act w.rings.under back_mover.Back asked Took ≡ Some a → AreServed does w.rings → left (after (step a.answer)) + back_watch a.answer ≤ left (negotiation_of w)
      → HasLess config (total_left w d) (left (after (step a.answer))) (ring.after does w.rings)

  by_most : (now more : ℕ) (v : rings.World) → now + 1 ≤ left (negotiation_of w) → more ≤ 37 → HasAtMost config (ring_left w.rings d + more) v → HasLess config (total_left w d) now v
  by_most now more v fewer few has =
      record { pipeline = has.pipeline; kept = has.kept; less = paid now (left (negotiation_of w)) (ring_left v has.pipeline) (ring_left w.rings d) more fewer has.no_more few }

  -- the negotiation speaks
  spoken_lowers : back.bus_moves (back_asks w) w.rings.back.stage ≡ true → back_act w.rings.under back_mover.Back (back.key_ask (back_asks w)) Took ≡ Some a
      → left (after (back_step.spoken (backend_of w) a.answer)) + 1 ≤ left (negotiation_of w)
  spoken_lowers says e = speaks_lowers w a _ going.joined (both_true (back.speaks (back_asks w)) (back.is_between w.rings.back.stage) says).0 e

  says : back.bus_moves (back_asks w) w.rings.back.stage ≡ true → attaches w (back_learns w) ≡ false
      → Lowers (back_says w (halted_at w (back_turn w))) (back.key_ask (back_asks w)) (λ x. back_step.spoken (backend_of w) x)
  says moves untaken e served no_more = by_turn (back_turn w) served
    where
      by_reasons : (reasons : List Halt) → all_halting reasons ≤ 37 → AreServed (back_says w reasons) w.rings → HasLess config (total_left w d) (left (after (back_step.spoken (backend_of w) a.answer))) (ring.after (back_says w reasons) w.rings)
      by_reasons reasons few may =
          by_most (left (after (back_step.spoken (backend_of w) a.answer))) (all_halting reasons) (ring.after (back_says w reasons) w.rings) (spoken_lowers moves e) few
          (says_reasons config end.Back (back_key (back_asks w)) reasons w.rings d honest.plain honest.standing.safe kept may)

      by_turn : (act : Option BackAct) → AreServed (back_says w (halted_at w act)) w.rings → HasLess config (total_left w d) (left (after (back_step.spoken (backend_of w) a.answer))) (ring.after (back_says w (halted_at w act)) w.rings)
      by_turn None may = by_reasons [] (omega arith) may
      by_turn (Some x) may = by_reasons (reasons_of (back_step.halt_of (backend_of w) x.answer)) (few_halting (back_step.halt_of (backend_of w) x.answer)) may

  -- it reads the layout, and its end of the ring takes the terms
  takes : back.bus_moves (back_asks w) w.rings.back.stage ≡ true → attaches w (back_learns w) ≡ true → Lowers (back_takes (back_learns w)) (back.key_ask (back_asks w)) (λ x. back_step.spoken (backend_of w) x)
  takes moves taken e served no_more =
      let b : BackView = back_learns w in
      let h : ring.Happening = ring.BackAttaches (back_step.shape_read b) b.grefs b.terms.port in
      let gone = gone_at config w.rings d h honest.plain honest.standing.safe kept served.0 in
      by_most (left (after (back_step.spoken (backend_of w) a.answer))) 37 (ring.after (back_takes b) w.rings) (spoken_lowers moves e) (omega arith)
      (made_by config w.rings d h (ring_left w.rings d + 37) gone (attaches_left config w.rings d (back_step.shape_read b) b.grefs b.terms.port honest.plain honest.standing.safe kept served.0 (led_unready w honest.way) gone))

  moves : Lowers (ring.BackMoves ∷ []) (back_ring.ask_of w.rings.back) (λ x. back_step.ring_step true (back_asks w) (backend_of w) x)
  moves e served no_more =
      let gone = gone_at config w.rings d ring.BackMoves honest.plain honest.standing.safe kept served.0 in
      record {
        pipeline = after_steps gone.steps d;
        kept = gone.kept;
        less = moved (left (after (back_step.ring_step true (back_asks w) (backend_of w) a.answer))) (left (negotiation_of w)) (left_after config w.rings d ring.BackMoves gone) (ring_left w.rings d) (back_watch a.answer) no_more
            (back_falls config w.rings d a honest.plain honest.standing.safe kept served.0 e gone);
      }

  waits : back.bus_moves (back_asks w) w.rings.back.stage ≡ false → back.ring_moves (back_asks w) w.rings.back.stage ≡ false → Lowers (back_says w []) back_ask.Wait (λ x. back_step.ring_step false (back_asks w) (backend_of w) x)
  waits quiet still e served no_more =
      let one = waits_watch w.rings.under a (back_waits w honest.stands.fit quiet still).0 e in
      by_most (left (after (back_step.ring_step false (back_asks w) (backend_of w) a.answer))) 0 (ring.after (back_says w []) w.rings)
      (subst (λ (k : ℕ). left (after (back_step.ring_step false (back_asks w) (backend_of w) a.answer)) + k ≤ left (negotiation_of w)) one no_more) (omega arith)
      (says_reasons config end.Back (back_key (back_asks w)) [] w.rings d honest.plain honest.standing.safe kept served)

  turn_lowers : Lowers (back_does w) (back.ask_of (backend_of w)) (λ x. back_step.step_of (backend_of w) x)
  turn_lowers = back_cases Lowers w says takes (λ quiet does. moves) waits

  going_falls : back_turn w ≡ Some a → Falls config (total_left w d) (happens w BackMoves)
  going_falls turn =
      let fit = honest.stands.fit in
      let v : back_view.View = back_step.step_of (backend_of w) a.answer in
      let given_so = unrefused config w honest a turn in
      let no_more = back_lowers w a fit going.joined turn given_so.0 given_so.1 in
      let is : IsBackMove w a = back_move_is w a fit turn in
      let same : left (negotiation_of (happens w BackMoves)) ≡ left (after v) = ap (λ (x : World). left (negotiation_of x)) is.world in
      let has = subst (λ (k : ℕ). HasLess config (total_left w d) k (ring.after (back_does w) w.rings)) (sym same) (turn_lowers turn (back_served config w honest) no_more) in
      record { pipeline = has.pipeline; kept = has.kept; less = has.less }

pub back_turn_falls : (config : Options) (w : World) (d : Pipeline) → Honest config w → IsKept config w.rings d → (a : BackAct) → back_turn w ≡ Some a → Falls config (total_left w d) (happens w BackMoves)
back_turn_falls config w d honest kept a turn = elim honest.going [
  | inl going ↦ going_falls config w d honest going kept a turn
  | inr gone ↦ absurd (none-some a (sym (back_still w honest.stands.fit gone) ∙ turn))
]
