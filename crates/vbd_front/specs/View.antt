-- What contracts see of the frontend.
use Rattle.std.specs.Prelude.{◌≡◌, Bool, true, false, ◌&&◌, ◌==◌, Option, None}
use Rattle.blk_base.specs.Options.{Options}
use Rattle.blk_front.specs.View as ring
use Rattle.blk_front.specs.declared.stage.FrontStage.{FrontStage}
use Rattle.blk_front.specs.declared.stage.FrontStage.TheVariants as ring_stage
use Rattle.blk_front.specs.Submit.{unfinished}
use Rattle.xenbus_state.specs.FrontView as bus
use Rattle.xenbus_state.specs.declared.front.FrontNews.{FrontNews}
use Rattle.xenbus_state.specs.declared.front.FrontBusAsk.{FrontBusAsk}
use Rattle.xenbus_state.specs.declared.front.FrontBusAsk.TheVariants as bus_ask

-- The frontend: its end of the ring, its end of the negotiation, and what the negotiation made happen, which is to be told.
pub record View : Type 0 where
  pub ring : ring.View
  pub bus : bus.FrontView
  pub news : Option FrontNews

-- its end of the ring keeps no grants: this front doesn't offer that yet
abbrev pub IsUnkept : ring.View → Type 0
IsUnkept v = v.offers.persistent ≡ false

-- a frontend that sets its watch first
abbrev pub start_of : Options → View
start_of config = record { ring = ring.start_of config; bus = bus.start_of config; news = None }

-- what is told was taken
abbrev pub heard : View → View
heard v = let r : ring.View = v.ring in record v { ring = record r { told = None }; news = None }

-- no step of a request or of the ring's loop is begun
abbrev pub is_still : FrontStage → Bool
is_still (ring_stage.RingWord k) = true
is_still ring_stage.Initialised = true
is_still ring_stage.Loop = true
is_still (ring_stage.RingRead page) = true
is_still (ring_stage.RingEnd page seen) = true
is_still (ring_stage.KeptRead frame) = true
is_still (ring_stage.KeptEnd frame seen) = true
is_still ring_stage.ClosePort = true
is_still ring_stage.Left = true
is_still ring_stage.Closed = true
is_still s = false

-- and nothing of a request is left: so the negotiation may close
abbrev pub is_unoccupied : ring.View → Bool
is_unoccupied v = unfinished v == 0 && is_still v.stage

-- the negotiation has begun nothing, and nothing is due
abbrev pub rests : FrontBusAsk → Bool
rests bus_ask.Wait = true
rests ask = false

-- a word that no honest back leaves was found
abbrev pub is_broken : FrontStage → Bool
is_broken (ring_stage.Broken word) = true
is_broken s = false
