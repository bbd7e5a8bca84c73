-- Where neither end has an act and no job is held, all is quiet.
use Rattle.std.proofs.Common.{◌≡◌, ◌∙◌, ◌⊎◌, sym, inl, inr, ◌&&◌, ◌||◌, not, Bool, true, false, true≢false, [], length, refl, ◌==◌}
use Rattle.std.specs.Prelude.{None}
use Rattle.blk_back.specs.Ask as ring_ask
use Rattle.xenbus_state.specs.declared.back.BackBusAsk.{BackBusAsk}
use Rattle.xenbus_state.specs.declared.back.BackBusAsk.TheVariants as bus_ask
use Rattle.vbd_front.specs.Ask as front
use Rattle.vbd_back.specs.Ask as back
use Rattle.vbd_model.specs.World.{World, frontend_of, backend_of, is_quiet}
use Rattle.vbd_model.specs.Happening.{front_turn, back_turn}
use Rattle.vbd_model.specs.Fit.{IsFit}
use Rattle.line_text.proofs.Both.{both_true}
use Rattle.vbd_laws.proofs.KeysSet.{led_of}
use Rattle.vbd_laws.proofs.MovesTurns.{back_asks, back_cases, waits_quiet}
use Rattle.settle_laws.proofs.Resting.{FrontRests, BackRests, front_rests, back_rests}

-- an end of the ring that neither is led nor holds a job is idle where it waits
idle_where : (led waits none : Bool) → (led ≡ true) ⊎ (waits ≡ true) → none ≡ true → (led || (not led && waits && none)) ≡ true
idle_where true waits none either n = refl
idle_where false waits none (inl led) n = absurd (true≢false (sym led))
idle_where false waits none (inr is) n = rw (is, n) refl

-- a negotiation that speaks asks for no wait
key_goes : (a : BackBusAsk) → back.speaks a ≡ true → ring_ask.is_wait (back.key_ask a) ≡ false
key_goes bus_ask.Watch says = refl
key_goes bus_ask.GetState says = refl
key_goes (bus_ask.GetKey key) says = refl
key_goes (bus_ask.SetState s) says = refl
key_goes (bus_ask.SetKey key value) says = refl
key_goes a says = absurd (true≢false (sym says))

-- a back that waits is led, or its end of the ring waits
module _ (w : World) (fit : IsFit w) where
  pub waits_where : ring_ask.is_wait (back.ask_of (backend_of w)) ≡ true → (ring_ask.is_led w.rings.back.stage ≡ true) ⊎ (ring_ask.is_waiting w.rings.back ≡ true)
  waits_where waits =
      back_cases (λ does asked step. ring_ask.is_wait asked ≡ true → (ring_ask.is_led w.rings.back.stage ≡ true) ⊎ (ring_ask.is_waiting w.rings.back ≡ true)) w
      (λ says untaken is. absurd (true≢false (sym is ∙ key_goes (back_asks w) (speaks_so says))))
      (λ says takes is. absurd (true≢false (sym is ∙ key_goes (back_asks w) (speaks_so says))))
      (λ quiet moves is. inr is)
      (λ quiet still is. inl (led_of w.back w.rings.back.stage fit.back (waits_quiet (back_asks w) w.rings.back.stage quiet still) still)) waits
    where
      speaks_so : back.bus_moves (back_asks w) w.rings.back.stage ≡ true → back.speaks (back_asks w) ≡ true
      speaks_so says = (both_true (back.speaks (back_asks w)) (back.is_between w.rings.back.stage) says).0

  -- so all is quiet where no job is held
  pub rests_quiet : w.rings.back.jobs.works ≡ [] → front_turn w ≡ None → back_turn w ≡ None → is_quiet w ≡ true
  rests_quiet none front_none back_none =
      let f : FrontRests w.rings.under (front.ask_of (frontend_of w)) = front_rests w front_none in
      let b : BackRests w.rings.under (back.ask_of (backend_of w)) = back_rests w back_none in
      let empty : (length w.rings.back.jobs.works == 0) ≡ true = rw none refl in
      let idle = idle_where (ring_ask.is_led w.rings.back.stage) (ring_ask.is_waiting w.rings.back) (length w.rings.back.jobs.works == 0) (waits_where b.0) empty in
      rw (f.0, b.0, idle, f.1, b.1) refl
