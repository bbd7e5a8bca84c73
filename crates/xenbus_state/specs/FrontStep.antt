-- What an answer makes of the front's end, and what that end then tells.
use Rattle.std.specs.Prelude.{ℕ, ◌+◌, Bool, true, false, ◌==◌, nat_lt, if◌then◌else◌, Option, Some, None}
use Rattle.blk_base.specs.declared.ask.FrontAnswer.{FrontAnswer}
use Rattle.blk_base.specs.declared.ask.FrontAnswer.TheVariants as answer
use Rattle.xenbus_state.specs.declared.keys.BackKey.{BackKey}
use Rattle.xenbus_state.specs.declared.keys.BackKey.TheVariants as key
use Rattle.xenbus_state.specs.declared.keys.FrontKey.{FrontKey}
use Rattle.xenbus_state.specs.declared.state.BusState.{BusState}
use Rattle.xenbus_state.specs.declared.state.BusState.TheVariants as state
use Rattle.xenbus_state.specs.declared.stage.FrontBusStage.{FrontBusStage}
use Rattle.xenbus_state.specs.declared.stage.FrontBusStage.TheVariants as stage
use Rattle.xenbus_state.specs.declared.front.FrontNews.{FrontNews}
use Rattle.xenbus_state.specs.declared.front.FrontNews.TheVariants as news
use Rattle.xenbus_state.specs.declared.table.FrontAction.{FrontAction}
use Rattle.xenbus_state.specs.declared.table.FrontAction.TheVariants as action
use Rattle.xenbus_state.specs.States.{state_read}
use Rattle.xenbus_state.specs.Tables.{front_action}
use Rattle.xenbus_state.specs.Programs.{next_feature, next_fact, first_published, next_published}
use Rattle.xenbus_state.specs.Reading.{count_read, fact_read, with_feature, with_fact}
use Rattle.xenbus_state.specs.FrontView.{FrontView, ring_order, pages_of, broken}
use Rattle.xenbus_state.specs.FrontAsk.{due}

abbrev pub at : FrontBusStage → FrontView → FrontView
at s v = record v { stage = s }

-- the back's state was read, and the table says this
abbrev pub acted : FrontAction → FrontView → FrontView
acted action.Nothing v = at stage.Rest v
acted action.Publish v = at (stage.ReadFeature key.FeatureBarrier) v
acted action.Connect v = at (stage.ReadFact key.Sectors) v
acted action.Close v = record v { closing = true; stage = stage.Rest }
acted action.CloseAndConnect v = record v { closing = true; stage = stage.ReadFact key.Sectors }
acted action.Leave v = record v { closing = true; gone = true; stage = stage.Rest }
acted (action.Break word) v = broken word v

-- the front begins to close once
abbrev pub closing_news : Bool → Option FrontNews
closing_news true = None
closing_news false = Some news.Closing

abbrev pub action_news : FrontAction → Bool → Option FrontNews
action_news action.Close closing = closing_news closing
action_news action.CloseAndConnect closing = closing_news closing
action_news action.Leave closing = closing_news closing
action_news (action.Break word) closing = Some (news.Broken word)
action_news a closing = None

-- a key of the back was read: one that is malformed, or missing where it may not be, breaks the front
abbrev pub after_feature : Option BackKey → FrontBusStage
after_feature (Some k) = stage.ReadFeature k
after_feature None = stage.RingWord 0

abbrev pub feature_step : BackKey → Option ℕ → FrontView → FrontView
feature_step k None v = broken 9 v
feature_step k (Some n) v = record v { features = with_feature v.features k n; stage = after_feature (next_feature k) }

abbrev pub after_fact : Option BackKey → FrontBusStage
after_fact (Some k) = stage.ReadFact k
after_fact None = stage.WriteState state.Connected

abbrev pub fact_step : BackKey → Option ℕ → FrontView → FrontView
fact_step k None v = broken 9 v
fact_step k (Some n) v = record v { disk = with_fact v.disk k n; stage = after_fact (next_fact k) }

abbrev pub read_news : Option ℕ → Option FrontNews
read_news None = Some (news.Broken 9)
read_news (Some n) = None

-- its own state was written
abbrev pub after_state : BusState → FrontBusStage
after_state state.Closed = stage.Closed
after_state s = stage.Rest

abbrev pub written : BusState → FrontView → FrontView
written s v = record v { state = s; stage = after_state s }

abbrev pub written_news : BusState → Option FrontNews
written_news state.Connected = Some news.Ready
written_news state.Closed = Some news.Closed
written_news s = None

-- what is done after a thing that was done
abbrev pub after_published : Option FrontKey → FrontBusStage
after_published (Some k) = stage.Publish k
after_published None = stage.WriteState state.Initialised

abbrev pub after_grants : Option ℕ → FrontBusStage
after_grants (Some port) = stage.ClosePort
after_grants None = stage.WriteState state.Closed

abbrev pub after : FrontBusStage → FrontView → FrontBusStage
after stage.Start v = stage.Rest
after (stage.RingWord word) v = if word == 15 then stage.Grant 0 else stage.RingWord (word + 1)
after (stage.Grant page) v = if nat_lt (page + 1) (pages_of v) then stage.Grant (page + 1) else stage.NewPort
after (stage.Publish k) v = after_published (next_published (ring_order v) k)
after (stage.EndGrant page) v = if nat_lt (page + 1) (pages_of v) then stage.EndGrant (page + 1) else stage.EndOtherGrants
after stage.EndOtherGrants v = after_grants v.port
after s v = s

abbrev pub step_at : FrontBusStage → FrontView → Bool → FrontAnswer → FrontView
step_at stage.Rest v idle (answer.Watched path) = at stage.ReadState v
step_at stage.ReadState v idle (answer.Key text) = acted (front_action v.state v.closing idle (state_read text)) v
step_at (stage.ReadFeature k) v idle (answer.Key text) = feature_step k (count_read text) v
step_at stage.NewPort v idle (answer.Port port) = record v { port = Some port; stage = stage.Publish (first_published (ring_order v)) }
step_at (stage.ReadFact k) v idle (answer.Key text) = fact_step k (fact_read k text) v
step_at (stage.WriteState s) v idle answer.Done = written s v
step_at stage.ClosePort v idle answer.Done = record v { port = None; stage = stage.WriteState state.Closed }
step_at s v idle answer.Done = at (after s v) v
step_at s v idle a = v

abbrev pub news_at : FrontBusStage → FrontView → Bool → FrontAnswer → Option FrontNews
news_at stage.ReadState v idle (answer.Key text) = action_news (front_action v.state v.closing idle (state_read text)) v.closing
news_at (stage.ReadFeature k) v idle (answer.Key text) = read_news (count_read text)
news_at (stage.ReadFact k) v idle (answer.Key text) = read_news (fact_read k text)
news_at (stage.WriteState s) v idle answer.Done = written_news s
news_at s v idle a = None

-- what is due is begun, and its answer told
abbrev pub step_of : FrontView → Bool → FrontAnswer → FrontView
step_of v idle a = step_at (due v idle) (at (due v idle) v) idle a

abbrev pub news_of : FrontView → Bool → FrontAnswer → Option FrontNews
news_of v idle a = news_at (due v idle) (at (due v idle) v) idle a
