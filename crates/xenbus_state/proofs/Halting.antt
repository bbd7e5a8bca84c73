-- A halted back unmaps all and closes its port, in order.
use Rattle.std.proofs.Common.{ap, Bool, true, false, List, [], ◌∷◌, refl}
use Rattle.blk_base.specs.declared.parts.Mapping.{Mapping}
use Rattle.xenbus_state.specs.declared.state.BusState.{BusState}
use Rattle.xenbus_state.specs.declared.state.BusState.TheVariants as state
use Rattle.xenbus_state.specs.declared.back.BackBusAsk.{BackBusAsk}
use Rattle.xenbus_state.specs.declared.back.BackBusAsk.TheVariants as ask
use Rattle.xenbus_state.specs.declared.stage.BackBusStage.TheVariants as stage
use Rattle.xenbus_state.specs.BackView.{BackView, halted}
use Rattle.xenbus_state.specs.BackStep as step
use Rattle.xenbus_state.specs.Orders.{unmapping_next, halt_order, EndsBy}

-- a halted back that has these pages mapped
gives : List Mapping → (unplugged bound : Bool) → BusState → BackView → BackView
gives pages unplugged bound own v = record v { pages = pages; unplugged = unplugged; bound = bound; state = own; stage = step.unmapping_next pages bound own }

aborts : (pages : List Mapping) (unplugged bound : Bool) (own : BusState) (v : BackView) → EndsBy (gives pages unplugged bound own v) (unmapping_next pages bound own)
unfolding gives
aborts [] true true state.Closing v = record { lawful = (tt, (tt, tt)); asked = refl; ends = refl }
aborts [] true false state.Closing v = record { lawful = (tt, tt); asked = refl; ends = refl }
aborts [] false true state.Closing v = record { lawful = (tt, (tt, tt)); asked = refl; ends = refl }
aborts [] false false state.Closing v = record { lawful = (tt, tt); asked = refl; ends = refl }
aborts [] true true own v = record { lawful = (tt, (tt, (tt, tt))); asked = refl; ends = refl }
aborts [] true false own v = record { lawful = (tt, (tt, tt)); asked = refl; ends = refl }
aborts [] false true own v = record { lawful = (tt, (tt, (tt, tt))); asked = refl; ends = refl }
aborts [] false false own v = record { lawful = (tt, (tt, tt)); asked = refl; ends = refl }
aborts (page ∷ pages) true bound own v =
    let later = aborts pages true bound own v in
    record { lawful = (tt, later.lawful); asked = ap (λ (asks : List BackBusAsk). ask.Unmap page ∷ asks) later.asked; ends = later.ends }
aborts (page ∷ pages) false bound own v =
    let later = aborts pages false bound own v in
    record { lawful = (tt, later.lawful); asked = ap (λ (asks : List BackBusAsk). ask.Unmap page ∷ asks) later.asked; ends = later.ends }

from_halt : (unplugged : Bool) (v : BackView) → EndsBy (record v { unplugged = unplugged; stage = stage.UnmapOthers }) (halt_order v)
unfolding gives
from_halt true v =
    let later = aborts v.pages true v.bound v.state v in
    record { lawful = (tt, later.lawful); asked = ap (λ (asks : List BackBusAsk). ask.UnmapOthers ∷ asks) later.asked; ends = later.ends }
from_halt false v =
    let later = aborts v.pages false v.bound v.state v in
    record { lawful = (tt, later.lawful); asked = ap (λ (asks : List BackBusAsk). ask.UnmapOthers ∷ asks) later.asked; ends = later.ends }

pub halts_in_order : (v : BackView) → EndsBy (halted v) (halt_order v)
halts_in_order v = from_halt v.unplugged v
