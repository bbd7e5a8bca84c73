-- What the backend asks: its negotiation speaks first (`io/xenbus.h`), between two steps of the ring's end; else that end has the move, where the negotiation asks for a page to be mapped or unmapped or the port to be bound or closed, or rests.
use Rattle.std.specs.Prelude.{ℕ, Bool, true, false, ◌&&◌, ◌||◌, List, codes, decimal, if◌then◌else◌}
use Rattle.blk_base.specs.declared.parts.End.TheVariants.{Front, Back}
use Rattle.blk_base.specs.declared.ask.BackAsk.{BackAsk}
use Rattle.blk_base.specs.declared.ask.BackAsk.TheVariants.{Wait, Watch, GetKey, SetKey}
use Rattle.blk_base.specs.declared.ask.BackAnswer.{BackAnswer}
use Rattle.blk_base.specs.declared.ask.BackAnswer.TheVariants as answer
use Rattle.blk_back.specs.declared.stage.BackStage.{BackStage}
use Rattle.blk_back.specs.declared.stage.BackStage.TheVariants as stage
use Rattle.blk_back.specs.Ask as ring
use Rattle.xenbus_state.specs.declared.back.BackBusAsk.{BackBusAsk}
use Rattle.xenbus_state.specs.declared.back.BackBusAsk.TheVariants as bus_ask
use Rattle.xenbus_state.specs.BackAsk as bus
use Rattle.xenbus_state.specs.States.{state_number}
use Rattle.xenbus_state.specs.Keys.{front_name, back_name, path_under}
use Rattle.xenbus_state.specs.Values.{text_of}
use Rattle.vbd_back.specs.View.{View}

-- where the states of both ends lie
abbrev pub own_state : List ℕ
own_state = path_under Back (codes "state")

abbrev pub other_state : List ℕ
other_state = path_under Front (codes "state")

-- what the negotiation asks
abbrev pub bus_ask_of : View → BackBusAsk
bus_ask_of v = bus.ask_of v.bus

-- the negotiation asks for a key or a watch
abbrev pub speaks : BackBusAsk → Bool
speaks bus_ask.Watch = true
speaks bus_ask.GetState = true
speaks (bus_ask.GetKey key) = true
speaks (bus_ask.SetState s) = true
speaks (bus_ask.SetKey key value) = true
speaks a = false

abbrev pub key_ask : BackBusAsk → BackAsk
key_ask bus_ask.Watch = Watch other_state
key_ask bus_ask.GetState = GetKey other_state
key_ask (bus_ask.GetKey key) = GetKey (path_under Front (front_name key))
key_ask (bus_ask.SetState s) = SetKey own_state (decimal (state_number s))
key_ask (bus_ask.SetKey key value) = SetKey (path_under Back (back_name key)) (text_of value)
key_ask a = Wait

-- the end of the ring is between two entries and two replies, each up to the end of its push: within one it makes no other move
abbrev pub is_between : BackStage → Bool
is_between (stage.Fetch k) = false
is_between (stage.ReplyHigh r) = false
is_between (stage.ReplyLast r) = false
is_between (stage.Producer r) = false
is_between (stage.ProducerFence old) = false
is_between (stage.ResponseEvent old) = false
is_between stage.Send = false
is_between s = true

-- the negotiation has the move
abbrev pub bus_moves : BackBusAsk → BackStage → Bool
bus_moves a s = speaks a && is_between s

-- the end of the ring has the move: the negotiation asks for what it does next to map and bind or to unmap, or both are bound
abbrev pub ring_moves : BackBusAsk → BackStage → Bool
ring_moves (bus_ask.Map gref) stage.MapRing = true
ring_moves (bus_ask.Map gref) s = false
ring_moves (bus_ask.Bind port) stage.Bind = true
ring_moves (bus_ask.Bind port) s = false
ring_moves bus_ask.UnmapOthers (stage.Abort m) = true
ring_moves bus_ask.UnmapOthers s = false
ring_moves (bus_ask.Unmap m) stage.UnmapRing = true
ring_moves (bus_ask.Unmap m) stage.UnmapUnbound = true
ring_moves (bus_ask.Unmap m) s = false
ring_moves bus_ask.ClosePort stage.ClosePort = true
ring_moves bus_ask.ClosePort s = false
ring_moves a stage.InitWait = false
ring_moves a stage.MapRing = false
ring_moves a stage.Bind = false
ring_moves a s = true

abbrev pub ring_ask : Bool → View → BackAsk
ring_ask true v = ring.ask_of v.ring
ring_ask false v = Wait

abbrev pub ask_at : BackBusAsk → View → BackAsk
ask_at a v = if bus_moves a v.ring.stage then key_ask a else ring_ask (ring_moves a v.ring.stage) v

abbrev pub ask_of : View → BackAsk
ask_of v = ask_at (bus_ask_of v) v

-- an answer that an ask allows
abbrev pub IsAnswer : BackAsk → BackAnswer → Type 0
IsAnswer (GetKey path) (answer.Key text) = Unit {0}
IsAnswer (SetKey path text) answer.Done = Unit {0}
IsAnswer (Watch path) answer.Done = Unit {0}
IsAnswer ask a = ring.IsAnswer ask a

-- nothing is to be done until an event or a watch comes
abbrev pub is_waiting : View → Bool
is_waiting v = ring.is_wait (ask_of v)

-- it waits for an event or a watch, and no job is held: none is before its end of the ring has its terms
abbrev pub is_idle : View → Bool
is_idle v = is_waiting v && (ring.is_led v.ring.stage || ring.is_idle v.ring)
