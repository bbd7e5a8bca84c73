-- In which order an end does things.
use Rattle.std.specs.Prelude.{ℕ, ◌+◌, ◌<◌, length, zero, suc, ◌^◌, ◌==◌, if◌then◌else◌, Some, ◌≡◌, ◌≤◌, Bool, true, false, List, [], ◌∷◌, ◌++◌, map, count_by}
use Rattle.blk_base.specs.declared.parts.Mapping.{Mapping}
use Rattle.blk_base.specs.declared.ask.BackAnswer.{BackAnswer}
use Rattle.blk_base.specs.declared.ask.BackAnswer.TheVariants.{Done, Mapped}
use Rattle.xenbus_state.specs.declared.keys.BackKey.{BackKey}
use Rattle.xenbus_state.specs.declared.keys.BackKey.TheVariants as back_key
use Rattle.xenbus_state.specs.declared.offer.Features.{Features}
use Rattle.xenbus_state.specs.declared.offer.DiskFacts.{DiskFacts}
use Rattle.xenbus_state.specs.declared.stage.BackBusStage.{BackBusStage}
use Rattle.xenbus_state.specs.declared.state.BusState.{BusState}
use Rattle.xenbus_state.specs.declared.state.BusState.TheVariants as state
use Rattle.xenbus_state.specs.declared.stage.BackBusStage.TheVariants as stage
use Rattle.xenbus_state.specs.declared.front.FrontBusAsk.{FrontBusAsk}
use Rattle.xenbus_state.specs.declared.front.FrontBusAsk.TheVariants as front
use Rattle.xenbus_state.specs.declared.back.BackBusAsk.{BackBusAsk}
use Rattle.xenbus_state.specs.declared.back.BackBusAsk.TheVariants as back
use Rattle.blk_base.specs.declared.ask.FrontAnswer.TheVariants as front_answer
use Rattle.xenbus_state.specs.declared.keys.FrontKey.{FrontKey}
use Rattle.xenbus_state.specs.declared.keys.FrontKey.TheVariants as key
use Rattle.xenbus_state.specs.declared.stage.FrontBusStage.{FrontBusStage}
use Rattle.xenbus_state.specs.declared.stage.FrontBusStage.TheVariants as front_stage
use Rattle.xenbus_state.specs.Values.{front_value, back_value}
use Rattle.xenbus_state.specs.FrontView.{FrontView, pages_of, ring_order, terms_of}
use Rattle.xenbus_state.specs.FrontSound.{IsSound}
use Rattle.xenbus_state.specs.BackView.{BackView, start_of, halted}
use Rattle.xenbus_state.specs.Runs.{FrontTurn, Told, front_after, BackTurn, Hears, AreFrontTurns, AreBackTurns, front_asks, back_asks, back_after}

-- A halted back unmaps the mappings of its jobs, and the pages of the ring in order, and closes its port; then it writes Closing, unless it has written that, and Closed.
abbrev pub closing_port : Bool → List BackBusAsk
closing_port true = back.ClosePort ∷ []
closing_port false = []

abbrev pub last_states : BusState → List BackBusAsk
last_states state.Closing = back.SetState state.Closed ∷ []
last_states own = back.SetState state.Closing ∷ back.SetState state.Closed ∷ []

abbrev pub unmapping_next : List Mapping → Bool → BusState → List BackBusAsk
unmapping_next pages bound own = map (λ page. back.Unmap page) pages ++ closing_port bound ++ last_states own

abbrev pub halt_order : BackView → List BackBusAsk
halt_order v = back.UnmapOthers ∷ unmapping_next v.pages v.bound v.state

-- each of them is done
abbrev pub all_done : List BackBusAsk → List BackTurn
all_done asks = map (λ a. Hears Done) asks

-- the back asks for these, one after the other, and then has halted
pub record EndsBy (v : BackView) (asks : List BackBusAsk) : Type 0 where
  pub lawful : AreBackTurns (all_done asks) v
  pub asked : back_asks (all_done asks) v ≡ asks
  pub ends : (back_after (all_done asks) v).stage ≡ stage.Halted

abbrev pub HaltsInOrder : Type 0
HaltsInOrder = (v : BackView) → EndsBy (halted v) (halt_order v)

-- a front asks for one port at most in an epoch
abbrev pub is_new_port : FrontBusAsk → Bool
is_new_port front.NewPort = true
is_new_port a = false

abbrev pub AsksForOnePort : Type 0
AsksForOnePort = (v : FrontView) (turns : List FrontTurn) → IsSound v → AreFrontTurns turns v → count_by is_new_port (front_asks turns v) ≤ 1

-- the numbers from this one on, so many
abbrev pub numbers_from : (first count : ℕ) → List ℕ
numbers_from first zero = []
numbers_from first (suc count) = first ∷ numbers_from (first + 1) count

-- what a front publishes: of a ring of one page its reference, of a larger ring its order and the references of its pages
abbrev pub ring_keys : ℕ → List FrontKey
ring_keys order = if order == 0 then key.RingRef ∷ [] else key.RingPageOrder ∷ map (λ page. key.RingRefOf page) (numbers_from 0 (2 ^ order))

abbrev pub published_keys : ℕ → List FrontKey
published_keys order = ring_keys order ++ key.EventChannel ∷ key.Protocol ∷ key.FeaturePersistent ∷ []

-- A front that has read what the back offers writes the ring's first words, grants its pages, makes a port, publishes, and is Initialised.
abbrev pub start_order : FrontView → ℕ → List FrontBusAsk
start_order v port =
    map (λ word. front.WriteRingWord word) (numbers_from 0 16)
    ++ map (λ page. front.Grant page) (numbers_from 0 (pages_of v))
    ++ front.NewPort ∷ map (λ k. front.SetKey k (front_value (terms_of (record v { port = Some port })) k)) (published_keys (ring_order v))
    ++ front.SetState state.Initialised ∷ []

-- A closing front whose back is gone ends the grants of the ring's pages, and all others, closes its port, and writes Closed.
abbrev pub leave_order : FrontView → List FrontBusAsk
leave_order v = map (λ page. front.EndGrant page) (numbers_from 0 (pages_of v)) ++ front.EndOtherGrants ∷ front.ClosePort ∷ front.SetState state.Closed ∷ []

-- each of them is done, and the port that is made is this one
abbrev pub done_by : (idle : Bool) (port : ℕ) → FrontBusAsk → FrontTurn
done_by idle port front.NewPort = Told idle (front_answer.Port port)
done_by idle port a = Told idle front_answer.Done

-- the front asks for these, one after the other, and is then at this stage
pub record DoesInOrder (idle : Bool) (port : ℕ) (v : FrontView) (asks : List FrontBusAsk) (s : FrontBusStage) : Type 0 where
  pub lawful : AreFrontTurns (map (done_by idle port) asks) v
  pub asked : front_asks (map (done_by idle port) asks) v ≡ asks
  pub ends : (front_after (map (done_by idle port) asks) v).stage ≡ s

abbrev pub StartsInOrder : Type 0
StartsInOrder = (v : FrontView) (idle : Bool) (port : ℕ) → DoesInOrder idle port (record v { stage = front_stage.RingWord 0 }) (start_order v port) front_stage.Rest

abbrev pub LeavesInOrder : Type 0
LeavesInOrder = (v : FrontView) (port : ℕ) → DoesInOrder true port (record v { stage = front_stage.Rest; state = state.Closing; closing = true; gone = true; port = Some port }) (leave_order v) front_stage.Closed

-- the back is told these answers, asks for these one after the other, and is then at this stage
pub record AsksInOrder (v : BackView) (answers : List BackAnswer) (asks : List BackBusAsk) (s : BackBusStage) : Type 0 where
  pub lawful : AreBackTurns (map (λ a. Hears a) answers) v
  pub asked : back_asks (map (λ a. Hears a) answers) v ≡ asks
  pub ends : (back_after (map (λ a. Hears a) answers) v).stage ≡ s

-- a back publishes what it offers, writes InitWait, and sets its watch
abbrev pub offered_keys : List BackKey
offered_keys = back_key.FeatureBarrier ∷ back_key.FeatureFlushCache ∷ back_key.FeatureDiscard ∷ back_key.FeaturePersistent ∷ back_key.FeatureMaxIndirectSegments ∷ back_key.MaxRingPageOrder ∷ []

abbrev pub offer_order : Features → DiskFacts → List BackBusAsk
offer_order features disk = map (λ k. back.SetKey k (back_value features disk k)) offered_keys ++ back.SetState state.InitWait ∷ back.Watch ∷ []

abbrev pub OffersInOrder : Type 0
OffersInOrder = (features : Features) (disk : DiskFacts) → AsksInOrder (start_of features disk) (map (λ a. Done) (offer_order features disk)) (offer_order features disk) stage.Rest

-- A back that has read the front's keys maps the pages of the ring by their references, binds the port, publishes what the disk is, and is connected.
abbrev pub fact_keys : List BackKey
fact_keys = back_key.Sectors ∷ back_key.SectorSize ∷ back_key.Info ∷ []

abbrev pub publish_facts : BackView → List BackBusAsk
publish_facts v = back.Bind v.terms.port ∷ map (λ k. back.SetKey k (back_value v.features v.disk k)) fact_keys ++ back.SetState state.Connected ∷ []

abbrev pub connect_order : BackView → List BackBusAsk
connect_order v = map (λ gref. back.Map gref) v.grefs ++ publish_facts v

abbrev pub ConnectsInOrder : Type 0
ConnectsInOrder = (v : BackView) (pages : List Mapping) → length pages ≡ length v.grefs → 0 < length v.grefs → AsksInOrder (record v { stage = stage.MapPage; pages = [] }) (map (λ page. Mapped page) pages ++ map (λ a. Done) (publish_facts v)) (connect_order v) stage.Rest
