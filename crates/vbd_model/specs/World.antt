-- The machine with the negotiation of its ends.
use Rattle.std.specs.Prelude.{Bool, not, ◌&&◌, None}
use Rattle.blk_base.specs.declared.parts.End.TheVariants as end
use Rattle.blk_base.specs.Options.{Options}
use Rattle.xenbus_state.specs.FrontView.{FrontView, start_of as front_bus_start}
use Rattle.xenbus_state.specs.BackView.{BackView, start_of as back_bus_start}
use Rattle.xenbus_state.specs.Offer.{facts_of}
use Rattle.hypervisor.specs.Act.{has_to_take}
use Rattle.split_model.specs.World as rings
use Rattle.vbd_front.specs.View as front
use Rattle.vbd_front.specs.Ask.{is_waiting}
use Rattle.vbd_back.specs.View as back
use Rattle.vbd_back.specs.Ask.{is_idle}

-- the ends of the ring with what lies under both, and each end's negotiation
pub record World : Type 0 where
  pub rings : rings.World
  pub front : FrontView
  pub back : BackView

-- the machine at the start: nothing is mapped, made, published or pending
abbrev pub start_of : Options → World
start_of config = record { rings = rings.start_of config; front = front_bus_start config; back = back_bus_start (back.offer config.read_only config.indirect) (facts_of config) }

-- both ends, each with its negotiation
abbrev pub frontend_of : World → front.View
frontend_of w = record { ring = w.rings.front; bus = w.front; news = None }

abbrev pub backend_of : World → back.View
backend_of w = record { ring = w.rings.back; bus = w.back }

-- quiet: both ends wait, no job is held, and neither an event nor a watch is pending
abbrev pub is_quiet : World → Bool
is_quiet w = is_waiting (frontend_of w) && is_idle (backend_of w) && not (has_to_take w.rings.under end.Front) && not (has_to_take w.rings.under end.Back)
