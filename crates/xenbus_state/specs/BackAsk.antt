-- What the back's end asks.
use Rattle.std.specs.Prelude.{ℕ, Bool, true, false, ◌&&◌, if◌then◌else◌, List, [], ◌∷◌, length, slice_index}
use Rattle.blk_base.specs.declared.ask.BackAnswer.{BackAnswer}
use Rattle.blk_base.specs.declared.ask.BackAnswer.TheVariants as answer
use Rattle.blk_base.specs.declared.parts.Mapping.{Mapping}
use Rattle.xenbus_state.specs.declared.state.BusState.{BusState}
use Rattle.xenbus_state.specs.declared.state.BusState.TheVariants as state
use Rattle.xenbus_state.specs.declared.stage.BackBusStage.{BackBusStage}
use Rattle.xenbus_state.specs.declared.stage.BackBusStage.TheVariants as stage
use Rattle.xenbus_state.specs.declared.back.BackBusAsk.{BackBusAsk}
use Rattle.xenbus_state.specs.declared.back.BackBusAsk.TheVariants as ask
use Rattle.xenbus_state.specs.Values.{back_value}
use Rattle.xenbus_state.specs.BackView.{BackView}

-- a connected back that was asked to close says so as soon as no other step is begun, also between a watch and the read that it calls for
abbrev pub says_closing_at : BackBusStage → BusState → Bool
says_closing_at stage.Rest state.Connected = true
says_closing_at stage.ReadState state.Connected = true
says_closing_at s own = false

abbrev pub says_closing : BackView → Bool
says_closing v = v.unplugged && says_closing_at v.stage v.state

-- the reference of the page that is mapped next
abbrev pub next_gref : BackView → ℕ
next_gref v = slice_index v.grefs (length v.pages)

-- the first page of the ring that is still mapped is unmapped
abbrev pub unmap_ask : List Mapping → BackBusAsk
unmap_ask [] = ask.Wait
unmap_ask (page ∷ pages) = ask.Unmap page

abbrev pub ask_at : BackBusStage → BackView → BackBusAsk
ask_at (stage.Publish key) v = ask.SetKey key (back_value v.features v.disk key)
ask_at (stage.WriteState s) v = ask.SetState s
ask_at stage.Watch v = ask.Watch
ask_at stage.Rest v = ask.Wait
ask_at stage.ReadState v = ask.GetState
ask_at (stage.ReadKey key) v = ask.GetKey key
ask_at stage.MapPage v = ask.Map (next_gref v)
ask_at stage.Bind v = ask.Bind v.terms.port
ask_at (stage.PublishFact key) v = ask.SetKey key (back_value v.features v.disk key)
ask_at stage.UnmapOthers v = ask.UnmapOthers
ask_at stage.UnmapPage v = unmap_ask v.pages
ask_at stage.ClosePort v = ask.ClosePort
ask_at stage.Halted v = ask.Wait

abbrev pub ask_of : BackView → BackBusAsk
ask_of v = if says_closing v then ask.SetState state.Closing else ask_at v.stage v

-- an answer of the ask's kind
abbrev pub IsAnswer : BackBusAsk → BackAnswer → Type 0
IsAnswer ask.Wait answer.Event = Unit {0}
IsAnswer ask.Wait (answer.Watched path) = Unit {0}
IsAnswer ask.Watch answer.Done = Unit {0}
IsAnswer ask.GetState (answer.Key text) = Unit {0}
IsAnswer (ask.GetKey key) (answer.Key text) = Unit {0}
IsAnswer (ask.SetState s) answer.Done = Unit {0}
IsAnswer (ask.SetKey key value) answer.Done = Unit {0}
IsAnswer (ask.Map gref) (answer.Mapped mapping) = Unit {0}
IsAnswer (ask.Map gref) (answer.MapRefused status) = Unit {0}
IsAnswer (ask.Bind port) answer.Done = Unit {0}
IsAnswer (ask.Bind port) answer.BindRefused = Unit {0}
IsAnswer ask.UnmapOthers answer.Done = Unit {0}
IsAnswer (ask.Unmap mapping) answer.Done = Unit {0}
IsAnswer ask.ClosePort answer.Done = Unit {0}
IsAnswer a b = ⊥
