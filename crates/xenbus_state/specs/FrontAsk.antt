-- What the front's end asks.
use Rattle.std.specs.Prelude.{ℕ, Bool, true, false, ◌&&◌, if◌then◌else◌, Option, Some, None}
use Rattle.blk_base.specs.declared.ask.FrontAnswer.{FrontAnswer}
use Rattle.blk_base.specs.declared.ask.FrontAnswer.TheVariants as answer
use Rattle.xenbus_state.specs.declared.state.BusState.{BusState}
use Rattle.xenbus_state.specs.declared.state.BusState.TheVariants as state
use Rattle.xenbus_state.specs.declared.stage.FrontBusStage.{FrontBusStage}
use Rattle.xenbus_state.specs.declared.stage.FrontBusStage.TheVariants as stage
use Rattle.xenbus_state.specs.declared.front.FrontBusAsk.{FrontBusAsk}
use Rattle.xenbus_state.specs.declared.front.FrontBusAsk.TheVariants as ask
use Rattle.xenbus_state.specs.Values.{front_value}
use Rattle.xenbus_state.specs.FrontView.{FrontView, terms_of}

-- a front that has written Closing leaves once the back is gone: it ends its grants, those of the ring first if it has made one
abbrev pub leaving : Bool → Option ℕ → FrontBusStage
leaving false port = stage.Rest
leaving true (Some port) = stage.EndGrant 0
leaving true None = stage.EndOtherGrants

abbrev pub closing_stage : BusState → FrontView → FrontBusStage
closing_stage state.Closing v = leaving v.gone v.port
closing_stage s v = stage.WriteState state.Closing

-- what is begun; where nothing is, a closing front without unfinished requests closes
abbrev pub due_at : FrontBusStage → FrontView → Bool → FrontBusStage
due_at stage.Rest v idle = if v.closing && idle then closing_stage v.state v else stage.Rest
due_at s v idle = s

abbrev pub due : FrontView → Bool → FrontBusStage
due v idle = due_at v.stage v idle

abbrev pub ask_at : FrontBusStage → FrontView → FrontBusAsk
ask_at stage.Start v = ask.Watch
ask_at stage.Rest v = ask.Wait
ask_at stage.ReadState v = ask.GetState
ask_at (stage.ReadFeature key) v = ask.GetKey key
ask_at (stage.RingWord word) v = ask.WriteRingWord word
ask_at (stage.Grant page) v = ask.Grant page
ask_at stage.NewPort v = ask.NewPort
ask_at (stage.Publish key) v = ask.SetKey key (front_value (terms_of v) key)
ask_at (stage.ReadFact key) v = ask.GetKey key
ask_at (stage.WriteState s) v = ask.SetState s
ask_at (stage.EndGrant page) v = ask.EndGrant page
ask_at stage.EndOtherGrants v = ask.EndOtherGrants
ask_at stage.ClosePort v = ask.ClosePort
ask_at stage.Closed v = ask.Wait
ask_at (stage.Broken word) v = ask.Wait

abbrev pub ask_of : FrontView → Bool → FrontBusAsk
ask_of v idle = ask_at (due v idle) v

-- an answer of the ask's kind
abbrev pub IsAnswer : FrontBusAsk → FrontAnswer → Type 0
IsAnswer ask.Wait answer.Event = Unit {0}
IsAnswer ask.Wait (answer.Watched path) = Unit {0}
IsAnswer ask.Watch answer.Done = Unit {0}
IsAnswer ask.GetState (answer.Key text) = Unit {0}
IsAnswer (ask.GetKey key) (answer.Key text) = Unit {0}
IsAnswer (ask.SetState s) answer.Done = Unit {0}
IsAnswer (ask.SetKey key value) answer.Done = Unit {0}
IsAnswer (ask.WriteRingWord word) answer.Done = Unit {0}
IsAnswer (ask.Grant page) answer.Done = Unit {0}
IsAnswer ask.NewPort (answer.Port port) = Unit {0}
IsAnswer (ask.EndGrant page) answer.Done = Unit {0}
IsAnswer ask.EndOtherGrants answer.Done = Unit {0}
IsAnswer ask.ClosePort answer.Done = Unit {0}
IsAnswer a b = ⊥
