-- The front agrees on an order only before its back has halted.
use Rattle.std.proofs.Common.{◌≡◌, ◌∙◌, ap, sym, subst, ℕ, ◌≤◌, Bool, true, false, true≢false, refl, arith, if◌then◌else◌}
use Rattle.std.specs.Prelude.{Option, Some, None, is_some}
use Rattle.std.specs.List.{AllByRecursion}
use Rattle.hypervisor.specs.Act.{FrontAct, front_act}
use Rattle.blk_front.specs.declared.stage.FrontStage.{FrontStage}
use Rattle.blk_front.specs.declared.state.FrontState.{FrontState}
use Rattle.blk_front.specs.declared.state.FrontState.TheVariants as entered
use Rattle.blk_front.specs.declared.state.Offers.{Offers}
use Rattle.xenbus_state.specs.States.{state_number}
use Rattle.xenbus_state.specs.declared.state.BusState.TheVariants as state
use Rattle.xenbus_state.specs.declared.stage.FrontBusStage.{FrontBusStage}
use Rattle.xenbus_state.specs.declared.stage.FrontBusStage.TheVariants as stage
use Rattle.xenbus_state.specs.declared.front.FrontNews.{FrontNews}
use Rattle.xenbus_state.specs.declared.front.FrontNews.TheVariants as news
use Rattle.xenbus_state.specs.declared.front.FrontBusAsk.{FrontBusAsk}
use Rattle.xenbus_state.specs.declared.front.FrontBusAsk.TheVariants as ask
use Rattle.xenbus_state.specs.FrontView.{FrontView}
use Rattle.xenbus_state.specs.FrontAsk.{ask_of}
use Rattle.vbd_front.specs.View.{is_broken, is_unoccupied}
use Rattle.vbd_front.specs.Ask as front
use Rattle.vbd_front.specs.Step as front_step
use Rattle.vbd_model.specs.World.{World, frontend_of}
use Rattle.vbd_model.specs.Happening.{front_turn}
use Rattle.vbd_model.specs.Fit.{FrontGoesWith, IsFit}
use Rattle.vbd_laws.proofs.FitFront.{spoken_fits}
use Rattle.vbd_laws.proofs.MovesTurns.{front_asks}
use Rattle.vbd_laws.proofs.NegotiatedRun.{Joined, late_at}
use Rattle.vbd_laws.proofs.NegotiatedFront.{HasInHand, front_goes}
use Rattle.vbd_laws.proofs.NegotiatedAgreed.{is_begun, begins, begun_now}

abbrev pub IsInTime : (halted : Bool) → FrontState → Type 0
IsInTime halted (entered.Agreed order) = halted ≡ false
IsInTime halted s = Unit {0}

-- so are the states that are entered, where the order is
due_in_time : (halted : Bool) (b : FrontBusAsk) (order : ℕ) → (begins b ≡ true → halted ≡ false) → AllByRecursion (IsInTime halted) (front_step.states_due b order)
due_in_time halted (ask.WriteRingWord word) order unhalted = (unhalted refl, tt)
due_in_time halted (ask.EndGrant page) order unhalted = (tt, tt)
due_in_time halted b order unhalted = tt

all_in_time : (halted : Bool) (offers : Offers) (n : Option FrontNews) (b : FrontBusAsk) (order : ℕ) → (begins b ≡ true → halted ≡ false) → AllByRecursion (IsInTime halted) (front_step.states_entered offers n b order)
all_in_time halted offers None b order unhalted = due_in_time halted b order unhalted
all_in_time halted offers (Some news.Ready) b order unhalted = (tt, due_in_time halted b order unhalted)
all_in_time halted offers (Some news.Closing) b order unhalted = (tt, due_in_time halted b order unhalted)
all_in_time halted offers (Some news.Closed) b order unhalted = (tt, due_in_time halted b order unhalted)
all_in_time halted offers (Some (news.Broken word)) b order unhalted = (tt, due_in_time halted b order unhalted)

-- a front that begins its ring has written no state since its epoch began
begun_early : (s : FrontBusStage) (v : FrontView) (r : FrontStage) → is_begun s ≡ true → FrontGoesWith s v r → v.state ≡ state.Initialising
begun_early (stage.RingWord word) v r begun goes = goes.0
begun_early s v r begun goes = absurd (true≢false (sym begun))

pub entered_in_time : (w : World) (a : FrontAct) → IsFit w → is_broken w.rings.front.stage ≡ false → HasInHand w.rings.front.stage w.rings.front.ending → Joined w → front_turn w ≡ Some a
    → front.speaks (front_asks w) ≡ true → front_act w.rings.under (front.key_ask (front_asks w)) ≡ Some a
    → AllByRecursion (IsInTime (is_some w.rings.back.halted)) (front_step.states_after (frontend_of w) a.answer)
entered_in_time w a fit whole hand j turn says asked =
    all_in_time (is_some w.rings.back.halted) (front_step.offers_of u) (front_step.news_of (frontend_of w) a.answer) (ask_of u idle) _ (λ begun. by_halt begun (is_some w.rings.back.halted) refl)
  where
    idle : Bool
    idle = is_unoccupied w.rings.front

    u : FrontView
    u = front_step.bus_after (frontend_of w) a.answer

    spoken : (front_step.step_of (frontend_of w) a.answer).bus ≡ u
    spoken = ap (λ (s : Bool). (if s then front_step.spoken (frontend_of w) a.answer else front_step.ring_step (front.ring_moves (front_asks w) w.rings.front.stage) (front_asks w) (frontend_of w) a.answer).bus) says

    by_halt : begins (ask_of u idle) ≡ true → (halted : Bool) → is_some w.rings.back.halted ≡ halted → halted ≡ false
    by_halt begun false e = refl
    by_halt begun true e =
        let fits = spoken_fits w a fit says asked in
        let early : state_number u.state ≡ 1 = ap state_number (begun_early u.stage u _ (begun_now u idle begun) fits.goes) in
        let late = late_at _ (front_goes w a fit whole hand j turn) (sym fit.halted ∙ e) in
        let five : 5 ≤ state_number u.state = subst (λ (v : FrontView). 5 ≤ state_number v.state) spoken late in
        absurd (omega arith)
