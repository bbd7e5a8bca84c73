-- What an answer makes of the backend, and of one of its jobs.
use Rattle.std.specs.Prelude.{ℕ, Bool, true, false, Option, Some, None, if◌then◌else◌, codes}
use Rattle.blk_base.specs.declared.ask.BackAsk.{BackAsk}
use Rattle.blk_base.specs.declared.ask.BackAnswer.{BackAnswer}
use Rattle.blk_base.specs.declared.ask.BackAnswer.TheVariants as answer
use Rattle.blk_back.specs.declared.stage.BackStage.{BackStage}
use Rattle.blk_back.specs.declared.stage.BackStage.TheVariants as stage
use Rattle.blk_base.specs.declared.halt.Halt.{Halt}
use Rattle.blk_base.specs.declared.halt.Halt.TheVariants as halt
use Rattle.blk_back.specs.View as ring
use Rattle.blk_back.specs.Step as step_ring
use Rattle.xenbus_state.specs.declared.stage.BackBusStage.{BackBusStage}
use Rattle.xenbus_state.specs.declared.stage.BackBusStage.TheVariants as bus_stage
use Rattle.xenbus_state.specs.declared.back.BackBusAsk.{BackBusAsk}
use Rattle.xenbus_state.specs.declared.back.BackBusAsk.TheVariants as bus_ask
use Rattle.xenbus_state.specs.declared.table.BackHalt.{BackHalt}
use Rattle.xenbus_state.specs.declared.table.BackHalt.TheVariants as bus_halt
use Rattle.ring_words.specs.Shape.{Shape}
use Rattle.xenbus_state.specs.declared.keys.FrontKey.TheVariants as key
use Rattle.xenbus_state.specs.States.{state_number}
use Rattle.xenbus_state.specs.Keys.{front_name}
use Rattle.xenbus_state.specs.BackView.{BackView, stopped, unplugged}
use Rattle.xenbus_state.specs.BackAsk as bus_asks
use Rattle.xenbus_state.specs.BackStep as bus
use Rattle.vbd_back.specs.View.{View}
use Rattle.vbd_back.specs.Ask.{bus_ask_of, bus_moves, ring_moves}

-- a halt by what the negotiation read
abbrev pub ring_halt : BackHalt → Halt
ring_halt (bus_halt.Gone s) = halt.Gone (state_number s)
ring_halt (bus_halt.Unplugged s) = halt.Unplugged (state_number s)
ring_halt bus_halt.BadState = halt.BadKey (codes "state")
ring_halt (bus_halt.BadKey key) = halt.BadKey (front_name key)
ring_halt (bus_halt.BadOrder s) = halt.BadOrder (state_number s)
ring_halt (bus_halt.BadPort port) = halt.BadPort port
ring_halt (bus_halt.MapRefused gref status) = halt.MapRefused gref status

-- once the negotiation has read the layout of entries its terms are those of the front
abbrev pub reads_layout : BackBusAsk → Bool
reads_layout (bus_ask.GetKey key.Protocol) = true
reads_layout ask = false

abbrev pub shape_read : BackView → Shape
shape_read b = record { abi = b.terms.abi; order = b.terms.order }

-- the end of the ring halts with the negotiation, or takes the terms that it has read; and the negotiation halts with the end of the ring
abbrev pub ring_led : Option BackHalt → (reads : Bool) → BackView → ring.View → ring.View
ring_led (Some why) reads b r = step_ring.halts (ring_halt why) r
ring_led None true b r = step_ring.attaches (shape_read b) b.grefs b.terms.port r
ring_led None false b r = r

abbrev pub bus_halted : Option Halt → BackView → BackView
bus_halted None v = v
bus_halted (Some why) v = stopped v

-- a negotiation that has all other mappings unmapped goes on where the end of the ring has none to unmap
abbrev pub settled_at : BackBusStage → BackStage → BackView → BackView
settled_at bus_stage.UnmapOthers (stage.Abort m) v = v
settled_at bus_stage.UnmapOthers s v = bus.step_of v answer.Done
settled_at b s v = v

abbrev pub settled : BackStage → BackView → BackView
settled s v = settled_at v.stage s v

-- the negotiation was answered
abbrev pub halt_of : View → BackAnswer → Option BackHalt
halt_of v a = bus.halt_of v.bus a

abbrev pub heard_by : ring.View → View → BackAnswer → View
heard_by r v a = record { ring = r; bus = settled r.stage (bus.step_of v.bus a) }

abbrev pub spoken : View → BackAnswer → View
spoken v a = heard_by (ring_led (halt_of v a) (reads_layout (bus_ask_of v)) (bus.step_of v.bus a) v.ring) v a

-- a waiting back took its watch: it reads the other end's state next
abbrev pub woken : BackView → BackAnswer → BackView
woken v (answer.Watched path) = bus.step_of v (answer.Watched path)
woken v a = v

abbrev pub is_plain : BackAnswer → Bool
is_plain (answer.Watched path) = false
is_plain a = true

-- what the negotiation learns of a move of the ring's end: what it asked for is done or refused, or a watch was taken
abbrev pub followed : BackBusAsk → BackView → BackAnswer → BackView
followed (bus_ask.Map gref) v a = bus.step_of v a
followed (bus_ask.Bind port) v a = bus.step_of v a
followed (bus_ask.Unmap m) v a = bus.step_of v answer.Done
followed bus_ask.ClosePort v a = bus.step_of v a
followed bus_ask.Wait v a = woken v a
followed b v a = v

-- an answer to a move of the ring's end that the negotiation asked for is of the kind that it knows
abbrev pub IsHeard : BackBusAsk → BackAnswer → Type 0
IsHeard (bus_ask.Map gref) a = bus_asks.IsAnswer (bus_ask.Map gref) a
IsHeard (bus_ask.Bind port) a = bus_asks.IsAnswer (bus_ask.Bind port) a
IsHeard bus_ask.ClosePort a = bus_asks.IsAnswer bus_ask.ClosePort a
IsHeard b a = Unit {0}

-- where the ring's end has no move the negotiation alone may wait
abbrev pub waited : BackBusAsk → BackView → BackAnswer → BackView
waited bus_ask.Wait v a = woken v a
waited b v a = v

-- the ring's end has moved: where it halted, so does the negotiation
abbrev pub caught_up : ring.View → BackView → BackView
caught_up r v = settled r.stage (bus_halted r.halted v)

abbrev pub ring_moved : BackBusAsk → ring.View → View → BackAnswer → View
ring_moved ask r v a = record { ring = r; bus = caught_up r (followed ask v.bus a) }

abbrev pub ring_step : Bool → BackBusAsk → View → BackAnswer → View
ring_step true ask v a = ring_moved ask (step_ring.step_of v.ring a) v a
ring_step false ask v a = record v { bus = waited ask v.bus a }

abbrev pub step_at : BackBusAsk → View → BackAnswer → View
step_at ask v a = if bus_moves ask v.ring.stage then spoken v a else ring_step (ring_moves ask v.ring.stage) ask v a

abbrev pub step_of : View → BackAnswer → View
step_of v a = step_at (bus_ask_of v) v a

-- the back was asked to close
abbrev pub closes : View → View
closes v = record v { bus = unplugged v.bus }

-- a job goes on, whatever the negotiation does
abbrev pub job_ask_of : View → ℕ → BackAsk
job_ask_of v number = step_ring.job_ask_of v.ring number

abbrev pub next_job_of : View → ℕ → Option ℕ
next_job_of v after = step_ring.next_job_of v.ring after

abbrev pub job_step : View → ℕ → BackAnswer → View
job_step v number a = record v { ring = step_ring.job_step v.ring number a }
