-- What an answer makes of the back's end, and whether it halts.
use Rattle.std.specs.Prelude.{◌+◌, Bool, true, false, nat_lt, if◌then◌else◌, List, [], ◌∷◌, ◌++◌, length, Option, Some, None}
use Rattle.blk_base.specs.declared.ask.BackAnswer.{BackAnswer}
use Rattle.blk_base.specs.declared.ask.BackAnswer.TheVariants as answer
use Rattle.blk_base.specs.declared.parts.Mapping.{Mapping}
use Rattle.xenbus_state.specs.declared.keys.BackKey.{BackKey}
use Rattle.xenbus_state.specs.declared.keys.BackKey.TheVariants as back_key
use Rattle.xenbus_state.specs.declared.keys.FrontKey.{FrontKey}
use Rattle.xenbus_state.specs.declared.keys.FrontKey.TheVariants as key
use Rattle.xenbus_state.specs.declared.state.BusState.{BusState}
use Rattle.xenbus_state.specs.declared.state.BusState.TheVariants as state
use Rattle.xenbus_state.specs.declared.stage.BackBusStage.{BackBusStage}
use Rattle.xenbus_state.specs.declared.stage.BackBusStage.TheVariants as stage
use Rattle.xenbus_state.specs.declared.table.BackAction.{BackAction}
use Rattle.xenbus_state.specs.declared.table.BackAction.TheVariants as action
use Rattle.xenbus_state.specs.declared.table.BackHalt.{BackHalt}
use Rattle.xenbus_state.specs.declared.table.BackHalt.TheVariants as halt
use Rattle.xenbus_state.specs.States.{state_read}
use Rattle.xenbus_state.specs.Tables.{back_action}
use Rattle.xenbus_state.specs.Programs.{next_feature, next_fact}
use Rattle.xenbus_state.specs.BackView.{BackView, halted}
use Rattle.xenbus_state.specs.BackAsk.{says_closing, next_gref}
use Rattle.xenbus_state.specs.BackReading.{key_read}

abbrev pub at : BackBusStage → BackView → BackView
at s v = record v { stage = s }

-- the front's state was read, and the table says this
abbrev pub acted : BackAction → BackView → BackView
acted action.Nothing v = at stage.Rest v
acted action.Connect v = at (stage.ReadKey key.RingPageOrder) v
acted (action.Halt reason) v = halted v

abbrev pub action_halt : BackAction → Option BackHalt
action_halt (action.Halt reason) = Some reason
action_halt a = None

-- a key of the front was read
abbrev pub kept_or_halted : Option BackView → BackView → BackView
kept_or_halted (Some w) v = w
kept_or_halted None v = halted v

abbrev pub key_halt : FrontKey → Option BackView → Option BackHalt
key_halt k (Some w) = None
key_halt k None = Some (halt.BadKey k)

-- a page of the ring was mapped: the next one is, or the port is bound
abbrev pub mapped : Mapping → BackView → BackView
mapped page v = record v { pages = v.pages ++ page ∷ []; stage = if nat_lt (length v.pages + 1) (length v.grefs) then stage.MapPage else stage.Bind }

-- its own state was written
abbrev pub after_state : BusState → BackBusStage
after_state state.InitWait = stage.Watch
after_state state.Closing = stage.WriteState state.Closed
after_state state.Closed = stage.Halted
after_state s = stage.Rest

-- a halted back unmaps the ring's pages, closes its port, and writes Closing, unless that is written, and Closed
abbrev pub last_state : BusState → BusState
last_state state.Closing = state.Closed
last_state own = state.Closing

abbrev pub unmapping_next : List Mapping → Bool → BusState → BackBusStage
unmapping_next (page ∷ pages) bound own = stage.UnmapPage
unmapping_next [] true own = stage.ClosePort
unmapping_next [] false own = stage.WriteState (last_state own)

abbrev pub other_pages : List Mapping → List Mapping
other_pages [] = []
other_pages (page ∷ pages) = pages

-- what is done after a key that was set
abbrev pub after_feature : Option BackKey → BackBusStage
after_feature (Some k) = stage.Publish k
after_feature None = stage.WriteState state.InitWait

abbrev pub after_fact : Option BackKey → BackBusStage
after_fact (Some k) = stage.PublishFact k
after_fact None = stage.WriteState state.Connected

abbrev pub step_at : BackBusStage → BackView → BackAnswer → BackView
step_at (stage.Publish k) v answer.Done = at (after_feature (next_feature k)) v
step_at (stage.WriteState s) v answer.Done = record v { state = s; stage = after_state s }
step_at stage.Watch v answer.Done = at stage.Rest v
step_at stage.Rest v (answer.Watched path) = at stage.ReadState v
step_at stage.ReadState v (answer.Key text) = acted (back_action v.state v.unplugged (state_read text)) v
step_at (stage.ReadKey k) v (answer.Key text) = kept_or_halted (key_read k text v) v
step_at stage.MapPage v (answer.Mapped page) = mapped page v
step_at stage.MapPage v (answer.MapRefused status) = halted v
step_at stage.Bind v answer.Done = record v { bound = true; stage = stage.PublishFact back_key.Sectors }
step_at stage.Bind v answer.BindRefused = halted v
step_at (stage.PublishFact k) v answer.Done = at (after_fact (next_fact k)) v
step_at stage.UnmapOthers v answer.Done = at (unmapping_next v.pages v.bound v.state) v
step_at stage.UnmapPage v answer.Done = record v { pages = other_pages v.pages; stage = unmapping_next (other_pages v.pages) v.bound v.state }
step_at stage.ClosePort v answer.Done = record v { bound = false; stage = stage.WriteState (last_state v.state) }
step_at s v a = v

abbrev pub halt_at : BackBusStage → BackView → BackAnswer → Option BackHalt
halt_at stage.ReadState v (answer.Key text) = action_halt (back_action v.state v.unplugged (state_read text))
halt_at (stage.ReadKey k) v (answer.Key text) = key_halt k (key_read k text v)
halt_at stage.MapPage v (answer.MapRefused status) = Some (halt.MapRefused (next_gref v) status)
halt_at stage.Bind v answer.BindRefused = Some (halt.BadPort v.terms.port)
halt_at s v a = None

abbrev pub step_of : BackView → BackAnswer → BackView
step_of v a = if says_closing v then record v { state = state.Closing } else step_at v.stage v a

abbrev pub halt_of : BackView → BackAnswer → Option BackHalt
halt_of v a = if says_closing v then None else halt_at v.stage v a
