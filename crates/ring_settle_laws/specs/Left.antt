-- What the machine of the ring has left to do: both ends, the jobs, what one end shows the other, marks of events, and the requests on their way.
use Rattle.std.specs.Prelude.{ℕ, ◌+◌, ◌*◌, cond}
use Rattle.blk_base.specs.Distance.{distance_of}
use Rattle.event_channel.specs.Channels.{ChannelState}
use Rattle.blk_front.specs.declared.stage.FrontStage.{FrontStage}
use Rattle.blk_front.specs.declared.stage.FrontStage.TheVariants as front_stage
use Rattle.blk_front.specs.View as front
use Rattle.blk_back.specs.declared.stage.BackStage.{BackStage}
use Rattle.blk_back.specs.declared.stage.BackStage.TheVariants as back_stage
use Rattle.blk_back.specs.View as back
use Rattle.front_laws.specs.Left as front_left
use Rattle.back_laws.specs.BackLeft as back_left
use Rattle.back_laws.specs.JobLeft.{all_left}
use Rattle.pipeline_laws.specs.Pipeline.{Pipeline}
use Rattle.split_model.specs.World.{World}
use Rattle.ring_settle_laws.specs.Stations.{requests_left}

-- an event that is due still costs 5, as a pending one does: the end that takes it looks once and a last time
abbrev pub event_price : ℕ
event_price = 5

-- after a push the front may send one, after a reply the back
abbrev pub front_sends : FrontStage → ℕ
front_sends (front_stage.ProducerFence old) = event_price
front_sends (front_stage.RequestEvent old) = event_price
front_sends front_stage.Send = event_price
front_sends s = 0

abbrev pub back_sends : BackStage → ℕ
back_sends (back_stage.ProducerFence old) = event_price
back_sends (back_stage.ResponseEvent old) = event_price
back_sends back_stage.Send = event_price
back_sends s = 0

-- the last response that an end saw of the other's producer; while it goes to sleep it has seen none that it didn't take
abbrev pub front_saw : FrontStage → front.View → ℕ
front_saw front_stage.StoreEvent v = v.ring.indices.cons
front_saw front_stage.EventFence v = v.ring.indices.cons
front_saw front_stage.LookAgain v = v.ring.indices.cons
front_saw s v = v.ring.seen

abbrev pub back_saw : BackStage → back.View → ℕ
back_saw back_stage.StoreEvent v = v.ring.indices.cons
back_saw back_stage.EventFence v = v.ring.indices.cons
back_saw back_stage.LookAgain v = v.ring.indices.cons
back_saw s v = v.ring.seen

-- a response that isn't seen yet costs 7, a request 39
abbrev pub unseen_left : World → ℕ
unseen_left w =
    7 * distance_of (front_saw w.front.stage w.front) w.back.ring.indices.prod
    + 39 * distance_of (back_saw w.back.stage w.back) w.front.ring.indices.prod

abbrev pub marks_left : ChannelState → ℕ
marks_left c = cond c.front_pending event_price 0 + cond c.back_pending event_price 0

-- the front's end of the ring, the back's, and its jobs
abbrev pub front_part : front.View → ℕ
front_part v = front_left.left_of v + front_sends v.stage

abbrev pub back_part : back.View → ℕ
back_part v = back_left.left_of v + back_sends v.stage

abbrev pub ring_left : World → Pipeline → ℕ
ring_left w d =
    front_part w.front + back_part w.back + (let b : back.View = w.back in all_left b.jobs.works)
    + unseen_left w + marks_left w.under.channels + requests_left d.requests
