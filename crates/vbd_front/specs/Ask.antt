-- What the frontend asks: its negotiation speaks first (`io/xenbus.h`); else its end of the ring has the move, where the negotiation asks for the ring to be made or left, or rests.
use Rattle.std.specs.Prelude.{ℕ, Bool, true, false, List, codes, if◌then◌else◌}
use Rattle.blk_base.specs.declared.parts.End.TheVariants.{Front, Back}
use Rattle.blk_base.specs.declared.ask.FrontAsk.{FrontAsk}
use Rattle.blk_base.specs.declared.ask.FrontAsk.TheVariants.{Wait, Watch, GetKey, SetKey}
use Rattle.blk_base.specs.declared.ask.FrontAnswer.{FrontAnswer}
use Rattle.blk_base.specs.declared.ask.FrontAnswer.TheVariants as answer
use Rattle.blk_front.specs.declared.stage.FrontStage.{FrontStage}
use Rattle.blk_front.specs.declared.stage.FrontStage.TheVariants as stage
use Rattle.blk_front.specs.Submit.{is_connected, is_wait}
use Rattle.blk_front.specs.Suspend.{is_left}
use Rattle.blk_front.specs.Ask as ring
use Rattle.xenbus_state.specs.declared.front.FrontBusAsk.{FrontBusAsk}
use Rattle.xenbus_state.specs.declared.front.FrontBusAsk.TheVariants as bus_ask
use Rattle.xenbus_state.specs.FrontAsk as bus
use Rattle.xenbus_state.specs.States.{state_number}
use Rattle.xenbus_state.specs.Keys.{front_name, back_name, path_under}
use Rattle.xenbus_state.specs.Values.{text_of}
use Rattle.std.specs.Prelude.{decimal}
use Rattle.vbd_front.specs.View.{View, is_unoccupied}

-- where the states of both ends lie
abbrev pub own_state : List ℕ
own_state = path_under Front (codes "state")

abbrev pub other_state : List ℕ
other_state = path_under Back (codes "state")

-- what the negotiation asks: nothing while data are in hand after a suspend
abbrev pub bus_ask_of : View → FrontBusAsk
bus_ask_of v = if is_left v.ring.stage then bus_ask.Wait else bus.ask_of v.bus (is_unoccupied v.ring)

-- the negotiation asks for a key or a watch
abbrev pub speaks : FrontBusAsk → Bool
speaks bus_ask.Watch = true
speaks bus_ask.GetState = true
speaks (bus_ask.GetKey key) = true
speaks (bus_ask.SetState s) = true
speaks (bus_ask.SetKey key value) = true
speaks a = false

abbrev pub key_ask : FrontBusAsk → FrontAsk
key_ask bus_ask.Watch = Watch other_state
key_ask bus_ask.GetState = GetKey other_state
key_ask (bus_ask.GetKey key) = GetKey (path_under Back (back_name key))
key_ask (bus_ask.SetState s) = SetKey own_state (decimal (state_number s))
key_ask (bus_ask.SetKey key value) = SetKey (path_under Front (front_name key)) (text_of value)
key_ask a = Wait

-- the end of the ring has the move: the negotiation asks for what it does next to make the ring or to leave it, or the ring is made, or data are in hand
abbrev pub ring_moves : FrontBusAsk → FrontStage → Bool
ring_moves (bus_ask.WriteRingWord word) (stage.RingWord k) = true
ring_moves (bus_ask.WriteRingWord word) s = false
ring_moves (bus_ask.Grant page) (stage.RingFrame k) = true
ring_moves (bus_ask.Grant page) (stage.RingFence k) = true
ring_moves (bus_ask.Grant page) (stage.RingFlags k) = true
ring_moves (bus_ask.Grant page) s = false
ring_moves bus_ask.NewPort stage.NewPort = true
ring_moves bus_ask.NewPort s = false
ring_moves (bus_ask.EndGrant page) (stage.RingRead k) = true
ring_moves (bus_ask.EndGrant page) (stage.RingEnd k seen) = true
ring_moves (bus_ask.EndGrant page) (stage.Broken word) = true
ring_moves (bus_ask.EndGrant page) s = false
ring_moves bus_ask.ClosePort stage.ClosePort = true
ring_moves bus_ask.ClosePort s = false
ring_moves bus_ask.Wait (stage.LeftData n) = true
ring_moves a s = is_connected s

abbrev pub ring_ask : Bool → View → FrontAsk
ring_ask true v = ring.ask_of v.ring
ring_ask false v = Wait

abbrev pub ask_at : FrontBusAsk → View → FrontAsk
ask_at a v = if speaks a then key_ask a else ring_ask (ring_moves a v.ring.stage) v

abbrev pub ask_of : View → FrontAsk
ask_of v = ask_at (bus_ask_of v) v

-- nothing is to be done until an event or a watch comes
abbrev pub is_waiting : View → Bool
is_waiting v = is_wait (ask_of v)

-- an answer of the ask's kind
abbrev pub IsAnswer : FrontAsk → FrontAnswer → Type 0
IsAnswer (GetKey path) (answer.Key text) = Unit {0}
IsAnswer (SetKey path text) answer.Done = Unit {0}
IsAnswer (Watch path) answer.Done = Unit {0}
IsAnswer ask a = ring.IsAnswer ask a

-- an ask that touches memory touches a word of frames 0 to 1017
abbrev pub StaysInMemory : FrontAsk → Type 0
StaysInMemory ask = ring.StaysInMemory ask
