-- Whose turn it is, and what the negotiation asks with its path and its text lent.
use Rattle.std.specs.Prelude.{ℕ, List, if◌then◌else◌}
use Rattle.blk_base.specs.declared.ask.BackAsk.{BackAsk}
use Rattle.blk_base.specs.declared.ask.BackAsk.TheVariants as ask
use Rattle.blk_back.specs.declared.stage.BackStage.{BackStage}
use Rattle.blk_back.specs.declared.stage.BackStage.TheVariants as stage
use Rattle.xenbus_state.specs.declared.back.BackBusAsk.{BackBusAsk}
use Rattle.xenbus_state.specs.declared.back.BackBusAsk.TheVariants as bus_ask
use Rattle.vbd_back.specs.declared.turn.Turn.{Turn}
use Rattle.vbd_back.specs.declared.turn.Turn.TheVariants.{Keys, Ring, Either}
use Rattle.vbd_back.specs.View.{View}
use Rattle.vbd_back.specs.Ask.{bus_ask_of, bus_moves}

-- by what the negotiation asks, and the stage of the ring's end
abbrev pub turn_left : BackBusAsk → BackStage → Turn
turn_left bus_ask.Wait stage.InitWait = Either
turn_left bus_ask.Wait stage.MapRing = Either
turn_left bus_ask.Wait stage.Bind = Either
turn_left bus_ask.Wait s = Ring
turn_left a s = Either

abbrev pub turn_at : BackBusAsk → BackStage → Turn
turn_at a s = if bus_moves a s then Keys else turn_left a s

abbrev pub turn_of : View → Turn
turn_of v = turn_at (bus_ask_of v) v.ring.stage

-- what the negotiation asks, with its path and its text lent
abbrev pub lent_ask : BackBusAsk → List ℕ → List ℕ → BackAsk
lent_ask bus_ask.Watch path text = ask.Watch path
lent_ask bus_ask.GetState path text = ask.GetKey path
lent_ask (bus_ask.GetKey key) path text = ask.GetKey path
lent_ask (bus_ask.SetState state) path text = ask.SetKey path text
lent_ask (bus_ask.SetKey key value) path text = ask.SetKey path text
lent_ask b path text = ask.Wait
