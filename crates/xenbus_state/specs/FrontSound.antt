-- What is true of the front's end at every moment.
use Rattle.std.specs.Prelude.{◌≡◌, ◌<◌, ◌≤◌, IsSome}
use Rattle.xenbus_state.specs.declared.state.BusState.{BusState}
use Rattle.xenbus_state.specs.declared.state.BusState.TheVariants as state
use Rattle.xenbus_state.specs.declared.stage.FrontBusStage.{FrontBusStage}
use Rattle.xenbus_state.specs.declared.stage.FrontBusStage.TheVariants as stage
use Rattle.xenbus_state.specs.declared.front.FrontBusAsk.{FrontBusAsk}
use Rattle.xenbus_state.specs.declared.front.FrontBusAsk.TheVariants as ask
use Rattle.xenbus_state.specs.States.{state_number}
use Rattle.xenbus_state.specs.Programs.{IsFeature, IsFact}
use Rattle.xenbus_state.specs.FrontView.{FrontView, pages_of}

-- the word, page or key that a stage is at is one of those that it goes through
abbrev pub IsPlaced : FrontBusStage → FrontView → Type 0
IsPlaced (stage.ReadFeature key) v = IsFeature key
IsPlaced (stage.ReadFact key) v = IsFact key
IsPlaced (stage.RingWord word) v = word < 16
IsPlaced (stage.Grant page) v = page < pages_of v
IsPlaced (stage.EndGrant page) v = page < pages_of v
IsPlaced s v = Unit {0}

-- the state that the front wrote last: nothing before it is Initialised, Initialised before it is connected, Closing before it leaves
abbrev pub IsTimely : FrontBusStage → BusState → Type 0
IsTimely stage.Rest s = state_number s < 6
IsTimely stage.ReadState s = state_number s < 6
IsTimely (stage.ReadFact key) s = s ≡ state.Initialised
IsTimely (stage.WriteState next) s = (state_number s < state_number next) × (state_number next ≤ 6)
IsTimely (stage.EndGrant page) s = s ≡ state.Closing
IsTimely stage.EndOtherGrants s = s ≡ state.Closing
IsTimely stage.ClosePort s = s ≡ state.Closing
IsTimely stage.Closed s = s ≡ state.Closed
IsTimely (stage.Broken word) s = Unit {0}
IsTimely making s = s ≡ state.Initialising

-- a ring is published with a port
abbrev pub HasPort : FrontBusStage → FrontView → Type 0
HasPort (stage.Publish key) v = IsSome v.port
HasPort s v = Unit {0}

pub record IsSound (v : FrontView) : Type 0 where
  pub order : v.order ≤ 4
  pub placed : IsPlaced v.stage v
  pub timely : IsTimely v.stage v.state
  pub port : HasPort v.stage v

-- a state that is written is above the one that was written before
abbrev pub Rises : BusState → FrontBusAsk → Type 0
Rises s (ask.SetState next) = state_number s < state_number next
Rises s a = Unit {0}

-- an ask on the ring names one of its pages, or one of its first words
abbrev pub IsPage : FrontView → FrontBusAsk → Type 0
IsPage v (ask.WriteRingWord word) = word < 16
IsPage v (ask.Grant page) = page < pages_of v
IsPage v (ask.EndGrant page) = page < pages_of v
IsPage v a = Unit {0}
