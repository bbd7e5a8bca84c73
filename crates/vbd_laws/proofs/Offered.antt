-- The front reads what its back offers only once the back has said all of it, whatever the front's own keys say; so it agrees the order that it wished.
use Rattle.std.proofs.Common.{◌≡◌, ◌∙◌, ap, sym, subst, ℕ, ◌≤◌, Bool, true, true≢false, inl, inr, if◌then◌else◌, arith}
use Rattle.std.specs.Prelude.{Some, min}
use Rattle.hypervisor.specs.Act.{FrontAct, front_act}
use Rattle.xenbus_state.specs.declared.stage.FrontBusStage.{FrontBusStage}
use Rattle.xenbus_state.specs.declared.stage.FrontBusStage.TheVariants as stage
use Rattle.xenbus_state.specs.FrontView.{FrontView, ring_order}
use Rattle.xenbus_state.specs.FrontAsk.{ask_of}
use Rattle.vbd_front.specs.View as front_view
use Rattle.vbd_front.specs.Ask as front
use Rattle.vbd_front.specs.Step as front_step
use Rattle.vbd_model.specs.World.{World, frontend_of}
use Rattle.vbd_model.specs.Happening.{front_turn}
use Rattle.vbd_model.specs.Fit.{IsWished, FrontOrdered, IsFit}
use Rattle.vbd_laws.proofs.FitFrontBus.{FrontFits}
use Rattle.vbd_laws.proofs.FitFrontTerms.{Terms, terms_told}
use Rattle.vbd_laws.proofs.FitFront.{spoken_fits}
use Rattle.vbd_laws.proofs.FitSuspended.{was_wished}
use Rattle.vbd_laws.proofs.MovesTurns.{front_asks}
use Rattle.vbd_laws.proofs.NegotiatedAgreed.{is_begun, begins, begun_now}

-- an order of at most 4, the one that each back offers, is the one that the front wished
pub is_wished : (wished offered order : ℕ) → wished ≤ 4 → IsWished wished offered order → order ≡ wished
is_wished wished offered order few (inl is) = is
is_wished wished offered order few (inr is) = let same = is.0 in let most = is.1 in omega arith

least : (wished offered : ℕ) → wished ≤ 4 → offered ≡ 4 → min wished offered ≡ wished
least wished offered few most = omega arith

-- a front that begins its ring has read what its back offers
begun_offered : (b : FrontBusStage) (v : FrontView) (n : ℕ) → is_begun b ≡ true → FrontOrdered b v n → v.features.order ≡ 4
begun_offered (stage.RingWord word) v n begun ordered = ordered.1
begun_offered b v n begun ordered = absurd (true≢false (sym begun))

-- so the order that is agreed is the one that the front wished, as it is already
pub agreed_offered : (w : World) (a : FrontAct) → IsFit w → w.front.order ≤ 4 → front_turn w ≡ Some a → front.speaks (front_asks w) ≡ true
    → begins (ask_of (front_step.bus_after (frontend_of w) a.answer) (front_view.is_unoccupied w.rings.front)) ≡ true → ring_order (front_step.bus_after (frontend_of w) a.answer) ≡ w.rings.front.shape.order
agreed_offered w a fit few turn says e =
    least u.order u.features.order (subst (λ (n : ℕ). n ≤ 4) (sym terms.order) few) (begun_offered u.stage u _ (begun_now u (front_view.is_unoccupied w.rings.front) e) fits.ordered)
    ∙ (terms.order ∙ sym (is_wished w.front.order w.front.features.order w.rings.front.shape.order few (was_wished w.front.stage w.front w.rings.front.shape.order fit.ordered)))
  where
    u : FrontView
    u = front_step.bus_after (frontend_of w) a.answer

    terms : Terms w.front u
    terms = terms_told w.front (front_view.is_unoccupied w.rings.front) a.answer

    asked : front_act w.rings.under (front.key_ask (front_asks w)) ≡ Some a
    asked = sym (ap (λ (s : Bool). front_act w.rings.under (if s then front.key_ask (front_asks w) else front.ring_ask (front.ring_moves (front_asks w) w.rings.front.stage) (frontend_of w))) says) ∙ turn

    fits : FrontFits u (front_step.all_entered (front_step.states_after (frontend_of w) a.answer) w.rings.front)
    fits = spoken_fits w a fit says asked
