-- What is true of the back's end at every moment.
use Rattle.std.specs.Prelude.{◌≡◌, ℕ, ◌^◌, ◌<◌, ◌≤◌, true, false, length}
use Rattle.xenbus_state.specs.declared.keys.FrontKey.{FrontKey}
use Rattle.xenbus_state.specs.declared.keys.FrontKey.TheVariants as key
use Rattle.xenbus_state.specs.declared.state.BusState.{BusState}
use Rattle.xenbus_state.specs.declared.state.BusState.TheVariants as state
use Rattle.xenbus_state.specs.declared.stage.BackBusStage.{BackBusStage}
use Rattle.xenbus_state.specs.declared.stage.BackBusStage.TheVariants as stage
use Rattle.xenbus_state.specs.declared.back.BackBusAsk.{BackBusAsk}
use Rattle.xenbus_state.specs.declared.back.BackBusAsk.TheVariants as ask
use Rattle.xenbus_state.specs.States.{state_number}
use Rattle.xenbus_state.specs.Programs.{after_page}
use Rattle.xenbus_state.specs.BackView.{BackView}

-- nothing of the front is read, mapped or bound
pub record IsFresh (v : BackView) : Type 0 where
  pub grefs : length v.grefs ≡ 0
  pub pages : length v.pages ≡ 0
  pub bound : v.bound ≡ false

-- all pages of the ring are mapped
pub record IsMapped (v : BackView) : Type 0 where
  pub grefs : length v.grefs ≡ 2 ^ v.terms.order
  pub pages : length v.pages ≡ 2 ^ v.terms.order

-- nothing is mapped or bound any more
pub record HoldsNothing (v : BackView) : Type 0 where
  pub pages : length v.pages ≡ 0
  pub bound : v.bound ≡ false

-- a back that has begun nothing has not begun to connect, or is connected
abbrev pub IsResting : BusState → BackView → Type 0
IsResting state.InitWait v = IsFresh v
IsResting state.Connected v = IsMapped v × (v.bound ≡ true)
IsResting state.Closing v = IsMapped v × (v.bound ≡ true)
IsResting s v = ⊥

-- Connected is written once the ring is mapped and the port bound, Closing and Closed by a step of their own once nothing is
abbrev pub IsWriting : BusState → BackView → Type 0
IsWriting state.InitWait v = (v.state ≡ state.Initialising) × IsFresh v
IsWriting state.Connected v = (v.state ≡ state.InitWait) × IsMapped v × (v.bound ≡ true)
IsWriting state.Closing v = (state_number v.state < 5) × HoldsNothing v
IsWriting state.Closed v = (v.state ≡ state.Closing) × HoldsNothing v
IsWriting s v = ⊥

-- as many references were read as the key that is read next says
abbrev pub IsReading : FrontKey → BackView → Type 0
IsReading key.RingPageOrder v = length v.grefs ≡ 0
IsReading (key.RingRefOf page) v = (length v.grefs ≡ page) × (page < 2 ^ v.terms.order)
IsReading key.RingRef v = (length v.grefs ≡ 0) × (v.terms.order ≡ 0)
IsReading k v = length v.grefs ≡ 2 ^ v.terms.order

-- the reference of the first page is under this key in a ring of that order
abbrev pub IsFirst : ℕ → FrontKey → Type 0
IsFirst order (key.RingRefOf page) = (page ≡ 0) × (order ≤ 4)
IsFirst order key.RingRef = order ≡ 0
IsFirst order k = ⊥

-- the reference of a page is read, and this key next
abbrev pub IsGrefRead : BackBusStage → FrontKey → ℕ → Type 0
IsGrefRead (stage.ReadKey (key.RingRefOf page)) next order = next ≡ after_page order page
IsGrefRead (stage.ReadKey key.RingRef) next order = next ≡ key.EventChannel
IsGrefRead s next order = ⊥

abbrev pub IsPlaced : BackBusStage → BackView → Type 0
IsPlaced (stage.Publish k) v = (v.state ≡ state.Initialising) × IsFresh v
IsPlaced (stage.WriteState s) v = IsWriting s v
IsPlaced stage.Watch v = (v.state ≡ state.InitWait) × IsFresh v
IsPlaced stage.Rest v = IsResting v.state v
IsPlaced stage.ReadState v = IsResting v.state v
IsPlaced (stage.ReadKey k) v = (v.state ≡ state.InitWait) × HoldsNothing v × IsReading k v
IsPlaced stage.MapPage v = (v.state ≡ state.InitWait) × (v.bound ≡ false) × (length v.grefs ≡ 2 ^ v.terms.order) × (length v.pages < 2 ^ v.terms.order)
IsPlaced stage.Bind v = (v.state ≡ state.InitWait) × (v.bound ≡ false) × IsMapped v
IsPlaced (stage.PublishFact k) v = (v.state ≡ state.InitWait) × IsMapped v × (v.bound ≡ true)
IsPlaced stage.UnmapOthers v = state_number v.state < 6
IsPlaced stage.UnmapPage v = (state_number v.state < 6) × (0 < length v.pages)
IsPlaced stage.ClosePort v = (state_number v.state < 6) × (length v.pages ≡ 0)
IsPlaced stage.Halted v = (v.state ≡ state.Closed) × HoldsNothing v

pub record IsSound (v : BackView) : Type 0 where
  pub order : v.terms.order ≤ 4
  pub placed : IsPlaced v.stage v

-- Connected is asked for where all pages of the ring are mapped and the port is bound, Closed where nothing is
abbrev pub IsDue : BackView → BackBusAsk → Type 0
IsDue v (ask.SetState state.Connected) = IsMapped v × (v.bound ≡ true)
IsDue v (ask.SetState state.Closed) = HoldsNothing v
IsDue v a = Unit {0}

-- a state that is written is above the one that was written before
abbrev pub Rises : BusState → BackBusAsk → Type 0
Rises s (ask.SetState next) = state_number s < state_number next
Rises s a = Unit {0}
