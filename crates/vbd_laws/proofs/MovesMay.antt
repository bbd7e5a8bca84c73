-- What an end asks, with its negotiation, may be carried out: a key and a watch always, and else what its end of the ring asks.
use Rattle.std.proofs.Common.{ℕ, ◌+◌, ◌<◌, ◌≤◌, ◌^◌, List, length}
use Rattle.std.specs.Prelude.{Option, Some}
use Rattle.blk_base.specs.declared.ask.FrontAsk.{FrontAsk}
use Rattle.blk_base.specs.declared.ask.FrontAnswer.{FrontAnswer}
use Rattle.blk_base.specs.declared.ask.BackAsk.{BackAsk}
use Rattle.blk_base.specs.declared.ask.BackAnswer.{BackAnswer}
use Rattle.hypervisor.specs.Hypervisor.{Hypervisor}
use Rattle.hypervisor.specs.May.{FrontMay, BackMay}
use Rattle.back_jobs.specs.Hands.{Names}
use Rattle.blk_back.specs.Hands.{hands_of, most_held}
use Rattle.xenbus_state.specs.declared.front.FrontBusAsk.{FrontBusAsk}
use Rattle.xenbus_state.specs.declared.front.FrontBusAsk.TheVariants as front_bus
use Rattle.xenbus_state.specs.declared.back.BackBusAsk.{BackBusAsk}
use Rattle.xenbus_state.specs.declared.back.BackBusAsk.TheVariants as back_bus
use Rattle.split_model.specs.Happening as ring
use Rattle.split_model.proofs.Safe.{front_may, back_may}
use Rattle.vbd_front.specs.View as front_view
use Rattle.vbd_front.specs.Ask as front
use Rattle.vbd_back.specs.View as back_view
use Rattle.vbd_back.specs.Ask as back
use Rattle.vbd_model.specs.World.{World, frontend_of, backend_of}
use Rattle.vbd_model.specs.Fit.{IsFit}
use Rattle.vbd_laws.proofs.MovesTurns.{front_asks, back_asks, front_cases, back_cases}

front_key_may : (h : Hypervisor) (a : FrontBusAsk) → FrontMay h (front.key_ask a)
front_key_may h front_bus.Watch = tt
front_key_may h a = tt

abbrev FrontMays : World → List ring.Happening → FrontAsk → (FrontAnswer → front_view.View) → Type 0
FrontMays w does ask step = front.StaysInMemory ask → FrontMay w.rings.under ask

pub front_asks_may : (w : World) → IsFit w → front.StaysInMemory (front.ask_of (frontend_of w)) → FrontMay w.rings.under (front.ask_of (frontend_of w))
front_asks_may w fit =
    front_cases (FrontMays w) w (λ says within. front_key_may w.rings.under (front_asks w)) (λ quiet moves within. front_may w.rings fit.safe within) (λ quiet still within. tt)

back_key_may : (h : Hypervisor) (attached : Option ℕ) (a : BackBusAsk) → BackMay h attached (back.key_ask a)
back_key_may h attached back_bus.Watch = tt
back_key_may h attached a = tt

abbrev BackMays : World → List ring.Happening → BackAsk → (BackAnswer → back_view.View) → Type 0
BackMays w does ask step = Names (hands_of w.rings.back) ask → BackMay w.rings.under (Some w.rings.back.jobs.info.sectors) ask

pub back_asks_may : (w : World) → IsFit w → Names (hands_of w.rings.back) (back.ask_of (backend_of w)) → w.rings.under.grants.made + 1 < 2 ^ 64 → length (hands_of w.rings.back) ≤ most_held
    → BackMay w.rings.under (Some w.rings.back.jobs.info.sectors) (back.ask_of (backend_of w))
back_asks_may w fit names made few =
    back_cases (BackMays w) w (λ says unattached named. back_key_may w.rings.under (Some w.rings.back.jobs.info.sectors) (back_asks w))
    (λ says attached named. back_key_may w.rings.under (Some w.rings.back.jobs.info.sectors) (back_asks w))
    (λ quiet moves named. back_may w.rings.under (Some w.rings.back.jobs.info.sectors) (hands_of w.rings.back) w.rings.back fit.safe.held named made few) (λ quiet still named. tt) names
