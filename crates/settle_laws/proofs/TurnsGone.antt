-- Where the front was closed before this epoch began no end and no job has a move.
use Rattle.std.proofs.Common.{◌≡◌, ◌∙◌, ap, sym, ℕ, ◌&&◌, ◌||◌, ◌==◌, not, Bool, true, false, true≢false, List, [], ◌∷◌, length, refl, if◌then◌else◌}
use Rattle.std.specs.Prelude.{Some, None}
use Rattle.std.proofs.Math.Bool.{and-false}
use Rattle.blk_base.specs.declared.parts.End.TheVariants as end
use Rattle.blk_base.specs.declared.moves.BackMover.TheVariants as back_mover
use Rattle.blk_base.specs.declared.ask.FrontAsk.{FrontAsk}
use Rattle.blk_base.specs.declared.ask.FrontAsk.TheVariants as front_ask
use Rattle.blk_base.specs.declared.ask.BackAsk.{BackAsk}
use Rattle.blk_base.specs.declared.ask.BackAsk.TheVariants as back_ask
use Rattle.key_directory.specs.Watches.{first_of, is_empty_list}
use Rattle.hypervisor.specs.Hypervisor.{Hypervisor}
use Rattle.hypervisor.specs.Act.{Took, front_act, back_act, front_watched, back_watched, has_to_take}
use Rattle.line_text.proofs.Both.{both_true}
use Rattle.blk_front.specs.Submit as front_submit
use Rattle.blk_front.specs.Ask as front_ring_ask
use Rattle.blk_back.specs.Ask as back_ring_ask
use Rattle.xenbus_state.specs.declared.state.BusState.TheVariants as state
use Rattle.xenbus_state.specs.declared.stage.FrontBusStage.{FrontBusStage}
use Rattle.xenbus_state.specs.declared.stage.BackBusStage.{BackBusStage}
use Rattle.xenbus_state.specs.declared.front.FrontBusAsk.{FrontBusAsk}
use Rattle.xenbus_state.specs.declared.front.FrontBusAsk.TheVariants as front_bus_ask
use Rattle.xenbus_state.specs.declared.back.BackBusAsk.{BackBusAsk}
use Rattle.xenbus_state.specs.declared.back.BackBusAsk.TheVariants as back_bus_ask
use Rattle.xenbus_state.specs.FrontAsk as front_bus
use Rattle.xenbus_state.specs.BackAsk as back_bus
use Rattle.split_model.proofs.SafeActs.{front_event, back_event}
use Rattle.machine_pipeline.proofs.Quiet.{AreQuiet, all_quiet}
use Rattle.vbd_front.specs.View.{is_unoccupied}
use Rattle.vbd_front.specs.View as front_view
use Rattle.vbd_front.specs.Ask as front
use Rattle.vbd_back.specs.View as back_view
use Rattle.vbd_back.specs.Ask as back
use Rattle.vbd_model.specs.World.{World, frontend_of, backend_of}
use Rattle.vbd_model.specs.Happening.{front_turn, back_turn}
use Rattle.vbd_model.specs.Fit.{IsFit}
use Rattle.vbd_laws.proofs.FitFront.{asks_cases}
use Rattle.vbd_laws.proofs.MovesTurns.{front_asks, back_asks}
use Rattle.vbd_laws.proofs.ServedGone.{IsGone, gone_quiet}
use Rattle.vbd_laws.proofs.ServedRun.{front_wait}
use Rattle.vbd_laws.proofs.WaitsJobs.{waits_is}

-- an end that waits and has nothing to take has no act
front_none : (h : Hypervisor) (pending : Bool) (watches : List (List ℕ)) → (pending || not (is_empty_list watches)) ≡ false → (if pending then Some (front_event h) else front_watched h (first_of watches)) ≡ None
front_none h true watches e = absurd (true≢false e)
front_none h false [] e = refl
front_none h false (x ∷ watches) e = absurd (true≢false e)

back_none : (h : Hypervisor) (pending : Bool) (watches : List (List ℕ)) → (pending || not (is_empty_list watches)) ≡ false → (if pending then Some (back_event h) else back_watched h (first_of watches)) ≡ None
back_none h true watches e = absurd (true≢false e)
back_none h false [] e = refl
back_none h false (x ∷ watches) e = absurd (true≢false e)

either_front : (moves : Bool) (v : front_view.View) → front_ring_ask.ask_of v.ring ≡ front_ask.Wait → front.ring_ask moves v ≡ front_ask.Wait
either_front true v e = e
either_front false v e = refl

either_back : (moves : Bool) (v : back_view.View) → back_ring_ask.ask_of v.ring ≡ back_ask.Wait → back.ring_ask moves v ≡ back_ask.Wait
either_back true v e = e
either_back false v e = refl

module _ (w : World) (fit : IsFit w) (gone : IsGone w) where
  quiet : AreQuiet (front_submit.is_idle w.rings.front) (back_ring_ask.is_idle w.rings.back) (has_to_take w.rings.under end.Front) (has_to_take w.rings.under end.Back)
  quiet = all_quiet _ _ _ _ (gone_quiet w fit gone)

  front_asked : front_asks w ≡ front_bus_ask.Wait
  front_asked = asks_cases (λ (b : FrontBusAsk). b ≡ front_bus_ask.Wait) w (λ left. refl) (λ none. ap (λ (s : FrontBusStage). front_bus.ask_at (front_bus.due_at s w.front (is_unoccupied w.rings.front)) w.front) gone.front)

  back_asked : back_asks w ≡ back_bus_ask.Wait
  back_asked =
      ap (λ (b : Bool). if b then back_bus_ask.SetState state.Closing else back_bus.ask_at w.back.stage w.back)
      (ap (λ (s : BackBusStage). w.back.unplugged && back_bus.says_closing_at s w.back.state) gone.back ∙ and-false w.back.unplugged)
      ∙ ap (λ (s : BackBusStage). back_bus.ask_at s w.back) gone.back

  pub front_still : front_turn w ≡ None
  front_still =
      let h : Hypervisor = w.rings.under in
      let rests = front_wait (front_ring_ask.ask_of w.rings.front) (both_true (not (front_submit.is_led w.rings.front.stage)) (front_submit.is_wait (front_ring_ask.ask_of w.rings.front)) quiet.front).1 in
      ap (λ (b : FrontBusAsk). front_act h (front.ask_at b (frontend_of w))) front_asked
      ∙ (ap (front_act h) (either_front (front.ring_moves front_bus_ask.Wait w.rings.front.stage) (frontend_of w) rests)
      ∙ front_none h h.channels.front_pending h.keys.front.pending quiet.no_front)

  pub back_still : back_turn w ≡ None
  back_still =
      let h : Hypervisor = w.rings.under in
      let none_held = both_true (not (back_ring_ask.is_led w.rings.back.stage) && back_ring_ask.is_wait (back_ring_ask.ask_of w.rings.back)) (length w.rings.back.jobs.works == 0) quiet.back in
      let rests = waits_is (back_ring_ask.ask_of w.rings.back) (both_true (not (back_ring_ask.is_led w.rings.back.stage)) (back_ring_ask.is_wait (back_ring_ask.ask_of w.rings.back)) none_held.0).1 in
      ap (λ (b : BackBusAsk). back_act h back_mover.Back (back.ask_at b (backend_of w)) Took) back_asked
      ∙ (ap (λ (k : BackAsk). back_act h back_mover.Back k Took) (either_back (back.ring_moves back_bus_ask.Wait w.rings.back.stage) (backend_of w) rests)
      ∙ back_none h h.channels.back_pending h.keys.back.pending quiet.no_back)
