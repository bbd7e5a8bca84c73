-- What contracts see of the backend.
use Rattle.std.specs.Prelude.{ℕ, Bool, true, false, not, None}
use Rattle.blk_base.specs.Options.{Options}
use Rattle.blk_back.specs.View as ring
use Rattle.blk_base.specs.declared.halt.Halt.TheVariants as halt
use Rattle.blk_back.specs.Step.{halts}
use Rattle.xenbus_state.specs.declared.offer.Features.{Features}
use Rattle.xenbus_state.specs.Offer.{facts_of}
use Rattle.xenbus_state.specs.BackView as bus
use Rattle.xenbus_state.specs.declared.back.BackBusAsk.{BackBusAsk}
use Rattle.xenbus_state.specs.declared.back.BackBusAsk.TheVariants as bus_ask

-- The backend: its end of the ring with its jobs, and its end of the negotiation.
pub record View : Type 0 where
  pub ring : ring.View
  pub bus : bus.BackView

abbrev pub both : ring.View → bus.BackView → View
both r b = record { ring = r; bus = b }

-- what this backend offers beside reads and writes: barriers, flushes and discards where the disk may be written, indirect requests of up to so many segments, and rings of up to 16 pages
abbrev pub offer : (read_only : Bool) (indirect : ℕ) → Features
offer read_only indirect = record { barrier = not read_only; flush = not read_only; discard = not read_only; persistent = false; indirect = indirect; order = 4 }

-- a backend that publishes what it offers first
abbrev pub start_of : Options → View
start_of config = record { ring = ring.start_of config; bus = bus.start_of (offer config.read_only config.indirect) (facts_of config) }

-- what is told was taken
abbrev pub heard : View → View
heard v = let r : ring.View = v.ring in record v { ring = record r { told = None } }

-- the negotiation has begun nothing, or has halted and holds nothing
abbrev pub rests : BackBusAsk → Bool
rests bus_ask.Wait = true
rests ask = false

-- after a suspend: a new backend of the same disk; one that has halted, since its front is gone, where that is closed or broken, so that its state is 6 (XenbusStateClosed)
abbrev pub renewed : (start : ℕ) (going : Bool) → View → View
renewed start true v = both (ring.new_of start v.ring.jobs.info) (bus.start_of v.bus.features v.bus.disk)
renewed start false v = both (halts (halt.Gone 6) (ring.new_of start v.ring.jobs.info)) (bus.halted_of v.bus.features v.bus.disk)
