-- The frontend that may keep its grants (`feature-persistent` of `io/blkif.h`): what it asks, and what an answer makes of it. Where both ends published 1 its end of the ring keeps the grant of each frame, and as it leaves ends the grants that it kept after those of the ring. One that isn't to keep grants is as it is in `Ask` and `Step`.
use Rattle.std.specs.Prelude.{◌≡◌, Bool, true, false, not, ◌&&◌, ◌==◌, List, None, if◌then◌else◌}
use Rattle.std.specs.List.{fold}
use Rattle.blk_base.specs.Options.{Options}
use Rattle.blk_base.specs.declared.ask.FrontAsk.{FrontAsk}
use Rattle.blk_base.specs.declared.ask.FrontAsk.TheVariants.{Wait}
use Rattle.blk_base.specs.declared.ask.FrontAnswer.{FrontAnswer}
use Rattle.blk_base.specs.declared.ask.FrontAnswer.TheVariants as answer
use Rattle.blk_front.specs.declared.stage.FrontStage.{FrontStage}
use Rattle.blk_front.specs.declared.stage.FrontStage.TheVariants as stage
use Rattle.blk_front.specs.declared.state.FrontState.{FrontState}
use Rattle.blk_front.specs.declared.state.Offers.{Offers}
use Rattle.blk_front.specs.View as ring
use Rattle.blk_front.specs.Part.{AllInTurn}
use Rattle.blk_front.specs.Submit.{is_wait}
use Rattle.blk_front.specs.Keep as keep
use Rattle.xenbus_state.specs.declared.front.FrontBusAsk.{FrontBusAsk}
use Rattle.xenbus_state.specs.declared.front.FrontBusAsk.TheVariants as bus_ask
use Rattle.xenbus_state.specs.FrontView.{FrontView, ring_order, keeps_grants}
use Rattle.xenbus_state.specs.FrontAsk as bus_asks
use Rattle.xenbus_state.specs.FrontStep as bus
use Rattle.vbd_front.specs.View.{View, IsUnkept, start_of, heard, is_unoccupied}
use Rattle.vbd_front.specs.Ask.{bus_ask_of, speaks, key_ask, ring_moves, IsAnswer}
use Rattle.vbd_front.specs.Step.{bus_after, news_of, offers_of, states_entered, all_entered, news_told, followed, waited, closes, suspended}

-- The frontend, and whether it is to keep grants.
pub record KeepingView : Type 0 where
  pub ends : View
  pub keeps : Bool

-- one that sets its watch first: it is to keep grants where the options let mappings be kept
abbrev pub start_as : Options → KeepingView
start_as config = record { ends = start_of config; keeps = not (config.persistent == 0) }

-- what it asks
abbrev pub ring_ask_as : Bool → ring.View → FrontAsk
ring_ask_as true r = keep.ask_as r
ring_ask_as false r = Wait

abbrev pub ask_as_at : FrontBusAsk → View → FrontAsk
ask_as_at a v = if speaks a then key_ask a else ring_ask_as (ring_moves a v.ring.stage) v.ring

abbrev pub ask_as : KeepingView → FrontAsk
ask_as k = ask_as_at (bus_ask_of k.ends) k.ends

-- nothing is to be done until an event or a watch comes
abbrev pub is_waiting_as : KeepingView → Bool
is_waiting_as k = is_wait (ask_as k)

-- what the back serves, as the negotiation read it; grants are kept where this front is to keep them and both ends published that
abbrev pub offers_as : (keeps : Bool) → FrontView → Offers
offers_as keeps v = record (offers_of v) { persistent = keeps && keeps_grants v }

-- the states that the end of the ring enters at an answer to the negotiation
abbrev pub states_after_as : (keeps : Bool) → View → FrontAnswer → List FrontState
states_after_as keeps v a =
    states_entered (offers_as keeps (bus_after v a)) (news_of v a) (bus_asks.ask_of (bus_after v a) (is_unoccupied v.ring)) (ring_order (bus_after v a))

-- the negotiation was answered
abbrev pub spoken_as : (keeps : Bool) → View → FrontAnswer → View
spoken_as keeps v a = record {
  ring = all_entered (states_after_as keeps v a) v.ring;
  bus = bus_after v a;
  news = news_told (offers_as keeps (bus_after v a)) (news_of v a) v.ring;
}

-- what the negotiation learns of a move of the ring's end: where grants are kept these are ended after the ring's, and it learns that once the last of them is
abbrev pub followed_as : FrontBusAsk → (earlier : FrontStage) → (keeps : Bool) → (later : FrontStage) → (idle : Bool) → FrontView → FrontAnswer → FrontView
followed_as (bus_ask.EndGrant page) (stage.RingEnd k seen) true (stage.KeptRead frame) idle v a = bus.step_of v idle answer.Done
followed_as bus_ask.EndOtherGrants (stage.KeptEnd frame seen) true stage.ClosePort idle v a = bus.step_of v idle answer.Done
followed_as ask earlier keeps later idle v a = followed ask later idle v a

-- the ring's end has moved, or the negotiation alone may wait
abbrev pub ring_moved_as : (keeps : Bool) → FrontBusAsk → ring.View → View → FrontAnswer → View
ring_moved_as keeps ask r v a = record v { ring = r; bus = followed_as ask v.ring.stage keeps r.stage (is_unoccupied v.ring) v.bus a }

abbrev pub ring_step_as : Bool → (keeps : Bool) → FrontBusAsk → View → FrontAnswer → View
ring_step_as true keeps ask v a = ring_moved_as keeps ask (keep.step_as v.ring a) v a
ring_step_as false keeps ask v a = record v { bus = waited ask (is_unoccupied v.ring) v.bus a }

-- what an answer makes of it
abbrev pub step_as_at : (keeps : Bool) → FrontBusAsk → View → FrontAnswer → View
step_as_at keeps ask v a = if speaks ask then spoken_as keeps v a else ring_step_as (ring_moves ask v.ring.stage) keeps ask v a

abbrev pub step_as : KeepingView → FrontAnswer → KeepingView
step_as k a = record k { ends = step_as_at k.keeps (bus_ask_of k.ends) k.ends a }

-- the front was asked to close, its domain was suspended, and what is told was taken
abbrev pub closes_as : KeepingView → KeepingView
closes_as k = record k { ends = closes k.ends }

abbrev pub suspended_as : KeepingView → KeepingView
suspended_as k = record k { ends = suspended k.ends }

abbrev pub heard_as : KeepingView → KeepingView
heard_as k = record k { ends = heard k.ends }

-- its end of the ring came to this
abbrev pub with_ring : KeepingView → ring.View → KeepingView
with_ring k r = let v : View = k.ends in record k { ends = record v { ring = r } }

-- a frontend after these answers, told one after another, and that they may be told so: each is of the kind that is asked for then, and nothing of the ring is left to tell before it, nor anything new of the negotiation
abbrev pub steps_as : KeepingView → List FrontAnswer → KeepingView
steps_as k answers = fold step_as k answers

abbrev pub IsTellableAs : KeepingView → FrontAnswer → Type 0
IsTellableAs k answer = IsAnswer (ask_as k) answer × (k.ends.ring.told ≡ None)

abbrev pub AreTellableAs : KeepingView → List FrontAnswer → Type 0
AreTellableAs k answers = AllInTurn (λ l answer. IsTellableAs l answer × (l.ends.news ≡ k.ends.news)) step_as k answers

-- it isn't to keep grants, and its end of the ring keeps none
pub record IsPlain (k : KeepingView) : Type 0 where
  pub never : k.keeps ≡ false
  pub ring : IsUnkept k.ends.ring
