-- What an answer makes of the frontend.
use Rattle.std.specs.Prelude.{ℕ, Bool, true, false, List, [], ◌∷◌, ◌++◌, Option, Some, None, if◌then◌else◌}
use Rattle.blk_base.specs.declared.ask.FrontAnswer.{FrontAnswer}
use Rattle.blk_base.specs.declared.ask.FrontAnswer.TheVariants as answer
use Rattle.blk_front.specs.declared.stage.FrontStage.{FrontStage}
use Rattle.blk_front.specs.declared.stage.FrontStage.TheVariants as stage
use Rattle.blk_front.specs.declared.state.FrontState.{FrontState}
use Rattle.blk_front.specs.declared.state.FrontState.TheVariants as state
use Rattle.blk_front.specs.declared.state.Offers.{Offers}
use Rattle.blk_front.specs.View as ring
use Rattle.blk_front.specs.Step as step_ring
use Rattle.blk_front.specs.State.{may_enter, enters, is_open}
use Rattle.blk_front.specs.Suspend.{suspended as ring_suspended}
use Rattle.xenbus_state.specs.declared.front.FrontNews.{FrontNews}
use Rattle.xenbus_state.specs.declared.front.FrontNews.TheVariants as news
use Rattle.xenbus_state.specs.declared.front.FrontBusAsk.{FrontBusAsk}
use Rattle.xenbus_state.specs.declared.front.FrontBusAsk.TheVariants as bus_ask
use Rattle.xenbus_state.specs.FrontView.{FrontView, ring_order, closed, suspended as bus_suspended}
use Rattle.xenbus_state.specs.FrontAsk as bus_asks
use Rattle.xenbus_state.specs.FrontStep as bus
use Rattle.vbd_front.specs.View.{View, is_broken, is_unoccupied}
use Rattle.vbd_front.specs.Ask.{bus_ask_of, speaks, ring_moves}

-- this front keeps no grants beside those of its ring and its requests: it has no others to end
abbrev pub settled_at : FrontBusAsk → (idle : Bool) → FrontView → FrontView
settled_at bus_ask.EndOtherGrants idle v = bus.step_of v idle answer.Done
settled_at ask idle v = v

abbrev pub settled : (idle : Bool) → FrontView → FrontView
settled idle v = settled_at (bus_asks.ask_of v idle) idle v

abbrev pub bus_told : (idle : Bool) → FrontView → FrontAnswer → FrontView
bus_told idle v a = settled idle (bus.step_of v idle a)

-- the negotiation after an answer to it, and what it makes happen
abbrev pub bus_after : View → FrontAnswer → FrontView
bus_after v a = bus_told (is_unoccupied v.ring) v.bus a

abbrev pub news_of : View → FrontAnswer → Option FrontNews
news_of v a = bus.news_of v.bus (is_unoccupied v.ring) a

-- the disk's sectors and whether it is read-only, what the back serves beside reads and writes, and how many segments it takes in indirect pages, as the negotiation read it; this front doesn't offer to keep grants yet
abbrev pub offers_of : FrontView → Offers
offers_of v = record { sectors = v.disk.sectors; read_only = v.disk.read_only; barrier = v.features.barrier; flush = v.features.flush; discard = v.features.discard; indirect = v.features.indirect; persistent = false }

-- the states that the end of the ring enters: the one that the negotiation comes to; where the ring is made next its order is agreed, and where its grants are ended next, since the back is gone, it leaves
abbrev pub state_of_news : Offers → FrontNews → FrontState
state_of_news offers news.Ready = state.Connected offers
state_of_news offers news.Closing = state.Closing
state_of_news offers news.Closed = state.Closed
state_of_news offers (news.Broken word) = state.Broken word

abbrev pub states_of_news : Offers → Option FrontNews → List FrontState
states_of_news offers None = []
states_of_news offers (Some n) = state_of_news offers n ∷ []

abbrev pub states_due : FrontBusAsk → (order : ℕ) → List FrontState
states_due (bus_ask.WriteRingWord word) order = state.Agreed order ∷ []
states_due (bus_ask.EndGrant page) order = state.Leaving ∷ []
states_due ask order = []

abbrev pub states_entered : Offers → Option FrontNews → FrontBusAsk → (order : ℕ) → List FrontState
states_entered offers n due order = states_of_news offers n ++ states_due due order

abbrev pub all_entered : List FrontState → ring.View → ring.View
all_entered [] r = r
all_entered (s ∷ rest) r = all_entered rest (enters s r)

-- it is told where the end of the ring entered its state
abbrev pub news_told : Offers → Option FrontNews → ring.View → Option FrontNews
news_told offers None r = None
news_told offers (Some n) r = if may_enter (state_of_news offers n) r then Some n else None

-- the states that the end of the ring enters at an answer to the negotiation
abbrev pub states_after : View → FrontAnswer → List FrontState
states_after v a = states_entered (offers_of (bus_after v a)) (news_of v a) (bus_asks.ask_of (bus_after v a) (is_unoccupied v.ring)) (ring_order (bus_after v a))

-- the negotiation was answered
abbrev pub spoken : View → FrontAnswer → View
spoken v a = record { ring = all_entered (states_after v a) v.ring; bus = bus_after v a; news = news_told (offers_of (bus_after v a)) (news_of v a) v.ring }

-- a waiting front took its watch: it reads the other end's state next, unless the ring is broken
abbrev pub woken : (broken idle : Bool) → FrontView → FrontAnswer → FrontView
woken false idle v (answer.Watched path) = bus_told idle v (answer.Watched path)
woken broken idle v a = v

-- what the negotiation learns of a move of the ring's end to a later stage: what it asked for is done, the last of the moves at a page's grant; or a watch was taken
abbrev pub followed : FrontBusAsk → (later : FrontStage) → (idle : Bool) → FrontView → FrontAnswer → FrontView
followed (bus_ask.WriteRingWord word) later idle v a = bus_told idle v a
followed (bus_ask.Grant page) (stage.RingFrame k) idle v a = bus_told idle v a
followed (bus_ask.Grant page) stage.NewPort idle v a = bus_told idle v a
followed bus_ask.NewPort later idle v a = bus_told idle v a
followed (bus_ask.EndGrant page) (stage.RingRead k) idle v a = bus_told idle v answer.Done
followed (bus_ask.EndGrant page) stage.ClosePort idle v a = bus_told idle v answer.Done
followed bus_ask.ClosePort later idle v a = bus_told idle v a
followed bus_ask.Wait later idle v a = woken (is_broken later) idle v a
followed ask later idle v a = v

-- an answer to a move of the ring's end that the negotiation asked for is of the kind that it knows
abbrev pub IsHeard : FrontBusAsk → FrontAnswer → Type 0
IsHeard (bus_ask.WriteRingWord word) a = bus_asks.IsAnswer (bus_ask.WriteRingWord word) a
IsHeard (bus_ask.Grant page) a = bus_asks.IsAnswer (bus_ask.Grant page) a
IsHeard bus_ask.NewPort a = bus_asks.IsAnswer bus_ask.NewPort a
IsHeard bus_ask.ClosePort a = bus_asks.IsAnswer bus_ask.ClosePort a
IsHeard ask a = Unit {0}

-- where the ring's end has no move the negotiation alone may wait
abbrev pub waited : FrontBusAsk → (idle : Bool) → FrontView → FrontAnswer → FrontView
waited bus_ask.Wait idle v a = woken false idle v a
waited ask idle v a = v

abbrev pub ring_moved : FrontBusAsk → ring.View → View → FrontAnswer → View
ring_moved ask r v a = record v { ring = r; bus = followed ask r.stage (is_unoccupied v.ring) v.bus a }

abbrev pub ring_step : Bool → FrontBusAsk → View → FrontAnswer → View
ring_step true ask v a = ring_moved ask (step_ring.step_of v.ring a) v a
ring_step false ask v a = record v { bus = waited ask (is_unoccupied v.ring) v.bus a }

abbrev pub step_at : FrontBusAsk → View → FrontAnswer → View
step_at ask v a = if speaks ask then spoken v a else ring_step (ring_moves ask v.ring.stage) ask v a

abbrev pub step_of : View → FrontAnswer → View
step_of v a = step_at (bus_ask_of v) v a

-- the front was asked to close
abbrev pub closes : View → View
closes v = record { ring = enters state.Closing v.ring; bus = closed v.bus; news = news_told (offers_of v.bus) (Some news.Closing) v.ring }

-- the domain was suspended: both ends begin anew, unless the front is closed or broken
abbrev pub suspended : View → View
suspended v = if is_open v.ring.stage then record { ring = ring_suspended v.ring; bus = bus_suspended v.bus; news = v.news } else v
