-- Whose turn it is, and what the negotiation asks with its path and its text lent.
use Rattle.std.specs.Prelude.{ℕ, Bool, true, false, List, Option, None}
use Rattle.blk_base.specs.declared.ask.FrontAsk.{FrontAsk}
use Rattle.blk_base.specs.declared.ask.FrontAsk.TheVariants as ask
use Rattle.blk_front.specs.Ask as ring
use Rattle.blk_front.specs.Submit.{is_connected}
use Rattle.xenbus_state.specs.declared.front.FrontBusAsk.{FrontBusAsk}
use Rattle.xenbus_state.specs.declared.front.FrontBusAsk.TheVariants as bus_ask
use Rattle.vbd_front.specs.declared.turn.Turn.{Turn}
use Rattle.vbd_front.specs.declared.turn.Turn.TheVariants.{Keys, Ring, Either}
use Rattle.vbd_front.specs.View.{View}
use Rattle.vbd_front.specs.Ask.{bus_ask_of}

-- by what the negotiation asks, whether it closes, and whether the ring is made
abbrev pub turn_at : FrontBusAsk → (closing made : Bool) → Turn
turn_at bus_ask.Watch closing made = Keys
turn_at bus_ask.GetState closing made = Keys
turn_at (bus_ask.GetKey key) closing made = Keys
turn_at (bus_ask.SetState s) closing made = Keys
turn_at (bus_ask.SetKey key value) closing made = Keys
turn_at bus_ask.Wait false true = Ring
turn_at a closing made = Either

abbrev pub turn_of : View → Turn
turn_of v = turn_at (bus_ask_of v) v.bus.closing (is_connected v.ring.stage)

-- what it asks where that is a word of a request's data, as most moves of a ring that is served are
abbrev pub data_asked_by : Turn → View → Option FrontAsk
data_asked_by Ring v = ring.data_asked v.ring
data_asked_by turn v = None

abbrev pub data_asked : View → Option FrontAsk
data_asked v = data_asked_by (turn_of v) v

-- what it asks, with its path and its text lent
abbrev pub lent_ask : FrontBusAsk → (path text : List ℕ) → FrontAsk
lent_ask bus_ask.Watch path text = ask.Watch path
lent_ask bus_ask.GetState path text = ask.GetKey path
lent_ask (bus_ask.GetKey key) path text = ask.GetKey path
lent_ask (bus_ask.SetState s) path text = ask.SetKey path text
lent_ask (bus_ask.SetKey key value) path text = ask.SetKey path text
lent_ask a path text = ask.Wait
