-- How much both ends have still to do: a number that each of their moves lowers, but one that waits in vain.
use Rattle.std.specs.Prelude.{ℕ, ◌+◌, ◌-◌, ◌*◌, Bool, true, false, List, [], ◌∷◌, length}
use Rattle.key_directory.specs.Watches.{Watches, has_pending}
use Rattle.xenbus_state.specs.declared.keys.FrontKey.{FrontKey}
use Rattle.xenbus_state.specs.declared.keys.FrontKey.TheVariants as front_key
use Rattle.xenbus_state.specs.declared.keys.BackKey.{BackKey}
use Rattle.xenbus_state.specs.declared.keys.BackKey.TheVariants as back_key
use Rattle.xenbus_state.specs.declared.state.BusState.{BusState}
use Rattle.xenbus_state.specs.declared.state.BusState.TheVariants as state
use Rattle.xenbus_state.specs.declared.stage.FrontBusStage.{FrontBusStage}
use Rattle.xenbus_state.specs.declared.stage.FrontBusStage.TheVariants as front
use Rattle.xenbus_state.specs.declared.stage.BackBusStage.{BackBusStage}
use Rattle.xenbus_state.specs.declared.stage.BackBusStage.TheVariants as back
use Rattle.xenbus_state.specs.declared.front.FrontBusAsk.{FrontBusAsk}
use Rattle.xenbus_state.specs.declared.front.FrontBusAsk.TheVariants as front_ask
use Rattle.xenbus_state.specs.declared.back.BackBusAsk.{BackBusAsk}
use Rattle.xenbus_state.specs.declared.back.BackBusAsk.TheVariants as back_ask
use Rattle.xenbus_state.specs.FrontAsk as front_asks
use Rattle.xenbus_state.specs.BackAsk as back_asks
use Rattle.negotiation_laws.specs.Negotiation.{Negotiation}
use Rattle.negotiation_laws.specs.Happening.{Happening, FrontMoves, BackMoves, happened}

-- the front, by what it does and, where it rests, by the state that it wrote last
abbrev pub front_rest_left : BusState → ℕ
front_rest_left state.Initialising = 88
front_rest_left state.Initialised = 27
front_rest_left state.Connected = 22
front_rest_left state.Closing = 20
front_rest_left s = 0

-- while it reads this feature
abbrev pub feature_left : BackKey → ℕ
feature_left back_key.FeatureBarrier = 87
feature_left back_key.FeatureFlushCache = 86
feature_left back_key.FeatureDiscard = 85
feature_left back_key.FeaturePersistent = 84
feature_left back_key.FeatureMaxIndirectSegments = 83
feature_left key = 82

-- while it publishes this key
abbrev pub published_left : FrontKey → ℕ
published_left front_key.RingPageOrder = 48
published_left (front_key.RingRefOf page) = 31 + (16 - page)
published_left front_key.RingRef = 32
published_left front_key.EventChannel = 31
published_left front_key.Protocol = 30
published_left front_key.FeaturePersistent = 29

-- while it reads this fact of the disk, or the back publishes it
abbrev pub fact_left : BackKey → ℕ
fact_left back_key.Sectors = 26
fact_left back_key.SectorSize = 25
fact_left key = 24

-- before it writes this state
abbrev pub front_write_left : BusState → ℕ
front_write_left state.Initialised = 28
front_write_left state.Connected = 23
front_write_left state.Closing = 21
front_write_left s = 1

-- at this stage, where it has written this state last
abbrev pub front_left : FrontBusStage → BusState → ℕ
front_left front.Start own = 89
front_left front.Rest own = front_rest_left own
front_left front.ReadState own = front_rest_left own
front_left (front.ReadFeature key) own = feature_left key
front_left (front.RingWord word) own = 65 + (16 - word)
front_left (front.Grant page) own = 49 + (16 - page)
front_left front.NewPort own = 49
front_left (front.Publish key) own = published_left key
front_left (front.ReadFact key) own = fact_left key
front_left (front.WriteState s) own = front_write_left s
front_left (front.EndGrant page) own = 3 + (16 - page)
front_left front.EndOtherGrants own = 3
front_left front.ClosePort own = 2
front_left front.Closed own = 0
front_left (front.Broken word) own = 0

-- the back, which has so many pages of the ring mapped
abbrev pub back_rest_left : BusState → ℕ
back_rest_left state.InitWait = 64
back_rest_left state.Connected = 22
back_rest_left state.Closing = 21
back_rest_left s = 0

-- while it publishes this feature
abbrev pub offered_left : BackKey → ℕ
offered_left back_key.FeatureBarrier = 72
offered_left back_key.FeatureFlushCache = 71
offered_left back_key.FeatureDiscard = 70
offered_left back_key.FeaturePersistent = 69
offered_left back_key.FeatureMaxIndirectSegments = 68
offered_left key = 67

-- while it reads this key
abbrev pub read_left : FrontKey → ℕ
read_left front_key.RingPageOrder = 64
read_left (front_key.RingRefOf page) = 47 + (16 - page)
read_left front_key.RingRef = 47
read_left front_key.EventChannel = 46
read_left front_key.Protocol = 45
read_left front_key.FeaturePersistent = 44

-- before it writes this state
abbrev pub back_write_left : BusState → ℕ
back_write_left state.InitWait = 66
back_write_left state.Connected = 23
back_write_left state.Closing = 2
back_write_left s = 1

-- at this stage, where it has written this state last
abbrev pub back_left : BackBusStage → BusState → (pages : ℕ) → ℕ
back_left (back.Publish key) own pages = offered_left key
back_left (back.WriteState s) own pages = back_write_left s
back_left back.Watch own pages = 65
back_left back.Rest own pages = back_rest_left own
back_left back.ReadState own pages = back_rest_left own
back_left (back.ReadKey key) own pages = read_left key
back_left back.MapPage own pages = 27 + (16 - pages)
back_left back.Bind own pages = 27
back_left (back.PublishFact key) own pages = fact_left key
back_left back.UnmapOthers own pages = 4 + pages
back_left back.UnmapPage own pages = 3 + pages
back_left back.ClosePort own pages = 3
back_left back.Halted own pages = 0

-- one that is about to read has that to do too
abbrev pub front_reading : FrontBusStage → ℕ
front_reading front.ReadState = 1
front_reading s = 0

-- so a back
abbrev pub back_reading : BackBusStage → ℕ
back_reading back.ReadState = 1
back_reading s = 0

-- A state that is written may fire the other's watch, which is then taken, and the state is read.
abbrev pub left : Negotiation → ℕ
left n =
    3 * front_left n.front.stage n.front.state + front_reading n.front.stage + 2 * length n.keys.front.pending
    + (3 * back_left n.back.stage n.back.state (length n.back.pages) + back_reading n.back.stage + 2 * length n.keys.back.pending)

-- a move of an end that doesn't wait in vain
abbrev pub front_goes : FrontBusAsk → Watches → Bool
front_goes front_ask.Wait w = has_pending w
front_goes a w = true

-- so of the back
abbrev pub back_goes : BackBusAsk → Watches → Bool
back_goes back_ask.Wait w = has_pending w
back_goes a w = true

-- a happening that is such a move
abbrev pub goes : Happening → Negotiation → Bool
goes (FrontMoves idle port) n = front_goes (front_asks.ask_of n.front idle) n.keys.front
goes (BackMoves page) n = back_goes (back_asks.ask_of n.back) n.keys.back
goes h n = false

-- how many of these moves didn't wait in vain
abbrev pub one_if : Bool → ℕ
one_if true = 1
one_if false = 0

-- among these happenings
abbrev pub moves_in : List Happening → Negotiation → ℕ
moves_in [] n = 0
moves_in (h ∷ happenings) n = one_if (goes h n) + moves_in happenings (happened h n)
