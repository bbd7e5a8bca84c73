-- What an end does, told from what it asked and was answered: never from what it is doing.
use Rattle.std.specs.Prelude.{◌≡◌, ℕ, ◌==◌, ◌&&◌, ◌⊎◌, Bool, true, false, List, Option, Some, None}
use Rattle.blk_base.specs.declared.ask.FrontAnswer.{FrontAnswer}
use Rattle.blk_base.specs.declared.ask.FrontAnswer.TheVariants as front_answer
use Rattle.blk_base.specs.declared.ask.BackAnswer.{BackAnswer}
use Rattle.blk_base.specs.declared.ask.BackAnswer.TheVariants as answer
use Rattle.xenbus_state.specs.declared.keys.FrontKey.{FrontKey}
use Rattle.xenbus_state.specs.declared.keys.FrontKey.TheVariants as key
use Rattle.xenbus_state.specs.declared.keys.BackKey.{BackKey}
use Rattle.xenbus_state.specs.declared.keys.BackKey.TheVariants as back_key
use Rattle.xenbus_state.specs.declared.state.BusState.TheVariants as state
use Rattle.xenbus_state.specs.declared.stage.FrontBusStage.{FrontBusStage}
use Rattle.xenbus_state.specs.declared.stage.FrontBusStage.TheVariants as front_stage
use Rattle.xenbus_state.specs.declared.stage.BackBusStage.{BackBusStage}
use Rattle.xenbus_state.specs.declared.stage.BackBusStage.TheVariants as back_stage
use Rattle.xenbus_state.specs.declared.front.FrontBusAsk.{FrontBusAsk}
use Rattle.xenbus_state.specs.declared.front.FrontBusAsk.TheVariants as front_ask
use Rattle.xenbus_state.specs.declared.front.FrontNews.{FrontNews}
use Rattle.xenbus_state.specs.declared.front.FrontNews.TheVariants as news
use Rattle.xenbus_state.specs.declared.back.BackBusAsk.{BackBusAsk}
use Rattle.xenbus_state.specs.declared.back.BackBusAsk.TheVariants as ask
use Rattle.xenbus_state.specs.declared.table.FrontAction.{FrontAction}
use Rattle.xenbus_state.specs.declared.table.FrontAction.TheVariants as front_action
use Rattle.xenbus_state.specs.declared.table.BackAction.{BackAction}
use Rattle.xenbus_state.specs.declared.table.BackAction.TheVariants as back_action
use Rattle.xenbus_state.specs.declared.table.BackHalt.{BackHalt}
use Rattle.xenbus_state.specs.declared.table.BackHalt.TheVariants as halt
use Rattle.xenbus_state.specs.States.{state_read}
use Rattle.xenbus_state.specs.Numbers.{number_of}
use Rattle.xenbus_state.specs.Tables as tables
use Rattle.xenbus_state.specs.Reading.{count_read, fact_read}
use Rattle.xenbus_state.specs.FrontView.{FrontView}
use Rattle.xenbus_state.specs.FrontAsk as front
use Rattle.xenbus_state.specs.BackView.{BackView}
use Rattle.xenbus_state.specs.BackAsk as back
use Rattle.xenbus_state.specs.BackReading.{order_of, layout_read}

-- the key of a ring of that order is malformed, or missing where it may not be
abbrev pub IsBadKey : FrontKey → Option (List ℕ) → ℕ → Type 0
IsBadKey key.RingPageOrder None order = ⊥
IsBadKey key.RingPageOrder (Some text) order = order_of (number_of text) ≡ None
IsBadKey (key.RingRefOf page) None order = (order == 0) ≡ false
IsBadKey (key.RingRefOf page) (Some text) order = number_of text ≡ None
IsBadKey key.RingRef None order = Unit {0}
IsBadKey key.RingRef (Some text) order = number_of text ≡ None
IsBadKey key.EventChannel None order = Unit {0}
IsBadKey key.EventChannel (Some text) order = number_of text ≡ None
IsBadKey key.Protocol text order = layout_read text ≡ None
IsBadKey key.FeaturePersistent text order = count_read text ≡ None

-- the back halts for this reason where it is answered so
abbrev pub HaltsFor : BackView → BackBusAsk → BackAnswer → BackHalt → Type 0
HaltsFor v ask.GetState (answer.Key text) reason = tables.back_action v.state v.unplugged (state_read text) ≡ back_action.Halt reason
HaltsFor v (ask.GetKey k) (answer.Key text) reason = (reason ≡ halt.BadKey k) × IsBadKey k text v.terms.order
HaltsFor v (ask.Map gref) (answer.MapRefused status) reason = reason ≡ halt.MapRefused gref status
HaltsFor v (ask.Bind port) answer.BindRefused reason = reason ≡ halt.BadPort port
HaltsFor v a b reason = ⊥

-- a key of the back is malformed, or missing where it may not be
abbrev pub IsBadBackKey : BackKey → Option (List ℕ) → Type 0
IsBadBackKey back_key.Sectors text = fact_read back_key.Sectors text ≡ None
IsBadBackKey back_key.SectorSize text = fact_read back_key.SectorSize text ≡ None
IsBadBackKey back_key.Info text = fact_read back_key.Info text ≡ None
IsBadBackKey k text = count_read text ≡ None

-- the front is broken with this word where it is answered so
abbrev pub BreaksFor : FrontView → Bool → FrontBusAsk → FrontAnswer → ℕ → Type 0
BreaksFor v idle front_ask.GetState (front_answer.Key text) word = tables.front_action v.state v.closing idle (state_read text) ≡ front_action.Break word
BreaksFor v idle (front_ask.GetKey k) (front_answer.Key text) word = (word ≡ 9) × IsBadBackKey k text
BreaksFor v idle a b word = ⊥

-- the front, once it has read the back's state, does what the table says: it asks for this next, or rests
abbrev pub DoesFront : FrontAction → (idle : Bool) (before after : FrontView) → Option FrontNews → Type 0
DoesFront front_action.Nothing idle v w told = (w.stage ≡ front_stage.Rest) × (w.closing ≡ v.closing) × (told ≡ None)
DoesFront front_action.Publish idle v w told = (front.ask_of w idle ≡ front_ask.GetKey back_key.FeatureBarrier) × (told ≡ None)
DoesFront front_action.Connect idle v w told = (front.ask_of w idle ≡ front_ask.GetKey back_key.Sectors) × (told ≡ None)
DoesFront front_action.Close idle v w told = (w.stage ≡ front_stage.Rest) × (w.closing ≡ true)
DoesFront front_action.CloseAndConnect idle v w told = (front.ask_of w idle ≡ front_ask.GetKey back_key.Sectors) × (w.closing ≡ true)
DoesFront front_action.Leave idle v w told = (w.stage ≡ front_stage.Rest) × (w.closing ≡ true) × (w.gone ≡ true)
DoesFront (front_action.Break word) idle v w told = (w.stage ≡ front_stage.Broken word) × (told ≡ Some (news.Broken word))

abbrev pub DoesBack : BackAction → (after : BackView) → Option BackHalt → Type 0
DoesBack back_action.Nothing w told = (w.stage ≡ back_stage.Rest) × (told ≡ None)
DoesBack back_action.Connect w told = (back.ask_of w ≡ ask.GetKey key.RingPageOrder) × (told ≡ None)
DoesBack (back_action.Halt reason) w told = (back.ask_of w ≡ ask.UnmapOthers) × (told ≡ Some reason)

-- The front waits where nothing is begun, unless it must close: a closing front without unfinished requests writes Closing, and leaves once the back is gone. And it waits where it is closed or broken.
abbrev pub FrontMayWait : FrontBusStage → FrontView → Bool → Type 0
FrontMayWait front_stage.Rest v idle = (v.closing && idle ≡ false) ⊎ ((v.state ≡ state.Closing) × (v.gone ≡ false))
FrontMayWait front_stage.Closed v idle = Unit {0}
FrontMayWait (front_stage.Broken word) v idle = Unit {0}
FrontMayWait s v idle = ⊥

-- The back waits where nothing is begun, unless it is connected, was asked to close and hasn't said so. And it waits where it has halted.
abbrev pub BackMayWait : BackBusStage → BackView → Type 0
BackMayWait back_stage.Rest v = back.says_closing v ≡ false
BackMayWait back_stage.Halted v = Unit {0}
BackMayWait s v = ⊥
