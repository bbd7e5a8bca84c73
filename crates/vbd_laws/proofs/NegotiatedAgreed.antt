-- When the front begins its ring; what it knows of its back as it connects; and that its end of the ring keeps the order that it has.
use Rattle.std.proofs.Common.{◌≡◌, ◌∙◌, ap, sym, subst, ℕ, Bool, true, false, true≢false, refl}
use Rattle.blk_front.specs.declared.state.FrontState.{FrontState}
use Rattle.blk_front.specs.declared.state.FrontState.TheVariants as enter
use Rattle.blk_front.specs.View as ends
use Rattle.blk_front.specs.State.{in_state, enters}
use Rattle.xenbus_state.specs.declared.state.BusState.{BusState}
use Rattle.xenbus_state.specs.declared.state.BusState.TheVariants as state
use Rattle.xenbus_state.specs.declared.stage.FrontBusStage.{FrontBusStage}
use Rattle.xenbus_state.specs.declared.stage.FrontBusStage.TheVariants as stage
use Rattle.xenbus_state.specs.declared.offer.Features.{Features}
use Rattle.xenbus_state.specs.declared.offer.DiskFacts.{DiskFacts}
use Rattle.xenbus_state.specs.declared.front.FrontBusAsk.{FrontBusAsk}
use Rattle.xenbus_state.specs.declared.front.FrontBusAsk.TheVariants as ask
use Rattle.xenbus_state.specs.FrontView.{FrontView}
use Rattle.xenbus_state.specs.FrontAsk.{due, ask_at, ask_of}
use Rattle.split_model.proofs.States.{enters_cases}
use Rattle.negotiation_laws.specs.Negotiation.{Negotiation}
use Rattle.negotiation_laws.proofs.Subjects.{FrontRead}
use Rattle.negotiation_laws.proofs.Found.{run_holds}
use Rattle.negotiation_laws.proofs.Choices.{due_cases}
use Rattle.vbd_laws.proofs.NegotiatedRun.{Reached}

-- the ring is begun, or the next that is asked for is a word of it
abbrev pub is_begun : FrontBusStage → Bool
is_begun (stage.RingWord word) = true
is_begun s = false

abbrev pub begins : FrontBusAsk → Bool
begins (ask.WriteRingWord word) = true
begins a = false

begun_at : (d : FrontBusStage) (v : FrontView) → begins (ask_at d v) ≡ true → is_begun d ≡ true
begun_at (stage.RingWord word) v e = refl
begun_at d v e = absurd (true≢false (sym e))

pub begun_now : (v : FrontView) (idle : Bool) → begins (ask_of v idle) ≡ true → is_begun v.stage ≡ true
begun_now v idle =
    due_cases (λ (d : FrontBusStage). begins (ask_at d v) ≡ true → is_begun v.stage ≡ true) v.stage v idle (begun_at v.stage v)
    (λ e. absurd (true≢false (sym e))) (λ e. absurd (true≢false (sym e))) (λ e. absurd (true≢false (sym e)))

-- a front that connects has read all that its back offers, and the disk that it publishes
abbrev connects : FrontBusStage → Bool
connects (stage.WriteState state.Connected) = true
connects s = false

read_all : (s : FrontBusStage) (own : BusState) (r f : Features) (e d : DiskFacts) → connects s ≡ true → FrontRead s own r f e d → (r ≡ f) × (e ≡ d)
read_all (stage.WriteState state.Connected) own r f e d is read = read
read_all s own r f e d is read = absurd (true≢false (sym is))

abbrev HasOffer : Negotiation → Type 0
HasOffer n = connects n.front.stage ≡ true → (n.front.features ≡ n.back.features) × (n.front.disk ≡ n.back.disk)

offer_read : (n : Negotiation) → Reached n → HasOffer n
offer_read n j =
    let h = run_holds j.run in
    subst HasOffer j.stands (λ is. let all = read_all _ _ _ _ _ _ is h.front.read in (all.0 ∙ sym h.back.offer, all.1 ∙ sym h.back.disk))

-- so one that connects knows what its back serves, and its disk
pub connecting : (v : FrontView) (idle : Bool) → due v idle ≡ stage.WriteState state.Connected → v.stage ≡ stage.WriteState state.Connected
connecting v idle =
    due_cases (λ (d : FrontBusStage). d ≡ stage.WriteState state.Connected → v.stage ≡ stage.WriteState state.Connected) v.stage v idle (λ e. e) (λ e. absurd (cc)) (λ e. absurd (cc)) (λ e. absurd (cc))

pub connects_knowing : (n : Negotiation) (idle : Bool) → Reached n → due n.front idle ≡ stage.WriteState state.Connected → (n.front.features ≡ n.back.features) × (n.front.disk ≡ n.back.disk)
connects_knowing n idle j e = offer_read n j (ap connects (connecting n.front idle e))

-- a state that the end of the ring enters leaves its order, but for another order that is agreed
abbrev pub IsSame : FrontState → ℕ → Type 0
IsSame (enter.Agreed order) n = order ≡ n
IsSame s n = Unit {0}

pub keeps_order : (s : FrontState) (f : ends.View) → IsSame s f.shape.order → (enters s f).shape.order ≡ f.shape.order
keeps_order s f same = enters_cases (λ (x : ends.View) shown. x.shape.order ≡ f.shape.order) s f (λ may. by_state s same) refl
  where
    by_state : (s : FrontState) → IsSame s f.shape.order → (in_state s f).shape.order ≡ f.shape.order
    by_state (enter.Agreed order) same = same
    by_state other same = refl
