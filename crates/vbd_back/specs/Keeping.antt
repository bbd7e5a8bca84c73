-- The backend that may keep mappings for later requests (`feature-persistent` of `io/blkif.h`): what an answer makes of it, and of one of its jobs. One that is to keep some publishes 1, and reads whether its front published 1 too; only then mappings are kept. One that is to keep none is as it is in `Step`.
use Rattle.std.specs.Prelude.{◌≡◌, ℕ, Bool, true, false, not, ◌&&◌, ◌==◌, List, fold, Option, Some, None, if◌then◌else◌}
use Rattle.blk_base.specs.Options.{Options}
use Rattle.blk_base.specs.declared.ask.BackAsk.{BackAsk}
use Rattle.blk_base.specs.declared.ask.BackAnswer.{BackAnswer}
use Rattle.blk_back.specs.View as ring
use Rattle.blk_back.specs.Step.{attaches}
use Rattle.blk_back.specs.Keeping as keeping
use Rattle.blk_back.specs.Part as ring_part
use Rattle.back_jobs.specs.Part.{MovesEach}
use Rattle.xenbus_state.specs.declared.offer.Features.{Features}
use Rattle.xenbus_state.specs.declared.back.BackBusAsk.{BackBusAsk}
use Rattle.xenbus_state.specs.declared.back.BackBusAsk.TheVariants as bus_ask
use Rattle.xenbus_state.specs.declared.keys.FrontKey.TheVariants as key
use Rattle.xenbus_state.specs.declared.table.BackHalt.{BackHalt}
use Rattle.xenbus_state.specs.Offer.{facts_of}
use Rattle.xenbus_state.specs.BackView as bus
use Rattle.xenbus_state.specs.BackView.{BackView}
use Rattle.xenbus_state.specs.BackStep as bus_step
use Rattle.vbd_back.specs.View.{View, both, offer, heard, renewed}
use Rattle.vbd_back.specs.Ask.{bus_ask_of, bus_moves, ring_moves, ask_of}
use Rattle.vbd_back.specs.Step.{ring_halt, shape_read, halt_of, heard_by, waited, ring_moved, closes}

-- The backend, and how many mappings it is to keep at most.
pub record KeepingView : Type 0 where
  pub ends : View
  pub most : ℕ

-- what it offers: it says that it keeps mappings where it is to keep some
abbrev pub offer_keeping : (most : ℕ) (read_only : Bool) (indirect : ℕ) → Features
offer_keeping most read_only indirect = record (offer read_only indirect) { persistent = not (most == 0) }

-- one that publishes what it offers first
abbrev pub start_with : (most : ℕ) → Options → KeepingView
start_with most config = record { ends = both (ring.start_of config) (bus.start_of (offer_keeping most config.read_only config.indirect) (facts_of config)); most = most }

abbrev pub start_keeping : Options → KeepingView
start_keeping config = start_with config.persistent config

-- both ends published that they keep grants
abbrev pub keeps_grants : BackView → Bool
keeps_grants b = b.features.persistent && b.terms.persistent

-- the end of the ring takes the terms of the front once the layout is read; and where both ends keep grants it is said how many mappings it may keep, once it is read that the front does
abbrev pub ring_told : (most : ℕ) → BackBusAsk → BackView → ring.View → ring.View
ring_told most (bus_ask.GetKey key.Protocol) b r = attaches (shape_read b) b.grefs b.terms.port r
ring_told most (bus_ask.GetKey key.FeaturePersistent) b r = if keeps_grants b then keeping.keeps most r else r
ring_told most ask b r = r

-- the end of the ring halts with the negotiation, or is told what it has read
abbrev pub ring_led_keeping : (most : ℕ) → Option BackHalt → BackBusAsk → BackView → ring.View → ring.View
ring_led_keeping most (Some why) ask b r = keeping.halts_keeping (ring_halt why) r
ring_led_keeping most None ask b r = ring_told most ask b r

-- the negotiation was answered
abbrev pub spoken_keeping : (most : ℕ) → View → BackAnswer → View
spoken_keeping most v a = heard_by (ring_led_keeping most (halt_of v a) (bus_ask_of v) (bus_step.step_of v.bus a) v.ring) v a

-- the end of the ring has moved, or the negotiation alone may wait
abbrev pub ring_step_keeping : Bool → BackBusAsk → View → BackAnswer → View
ring_step_keeping true ask v a = ring_moved ask (keeping.step_keeping v.ring a) v a
ring_step_keeping false ask v a = record v { bus = waited ask v.bus a }

-- what an answer makes of it
abbrev pub step_keeping_at : (most : ℕ) → BackBusAsk → View → BackAnswer → View
step_keeping_at most ask v a = if bus_moves ask v.ring.stage then spoken_keeping most v a else ring_step_keeping (ring_moves ask v.ring.stage) ask v a

abbrev pub step_keeping : KeepingView → BackAnswer → KeepingView
step_keeping k a = record k { ends = step_keeping_at k.most (bus_ask_of k.ends) k.ends a }

-- what is told was taken, the back was asked to close, and after a suspend
abbrev pub heard_keeping : KeepingView → KeepingView
heard_keeping k = record k { ends = heard k.ends }

abbrev pub closes_keeping : KeepingView → KeepingView
closes_keeping k = record k { ends = closes k.ends }

abbrev pub renewed_keeping : (start : ℕ) (going : Bool) → KeepingView → KeepingView
renewed_keeping start going k = record k { ends = renewed start going k.ends }

-- its end of the ring came to this
abbrev pub with_ring : KeepingView → ring.View → KeepingView
with_ring k r = record k { ends = both r k.ends.bus }

-- a job goes on, whatever the negotiation does: it takes the mapping that is kept of its next segment, and puts it back
abbrev pub job_ask_keeping : KeepingView → ℕ → BackAsk
job_ask_keeping k number = keeping.job_ask_keeping k.ends.ring number

abbrev pub job_step_keeping : KeepingView → ℕ → BackAnswer → KeepingView
job_step_keeping k number a = with_ring k (keeping.job_step_keeping k.ends.ring number a)

-- answers to the job of a number, one after another: what they make of the backend, what the job asks after them, and that each is to a word that it asks for then
abbrev pub job_steps_keeping : KeepingView → ℕ → List BackAnswer → KeepingView
job_steps_keeping k number answers = with_ring k (ring_part.job_steps_keeping k.ends.ring number answers)

abbrev pub job_asked_keeping : KeepingView → ℕ → List BackAnswer → BackAsk
job_asked_keeping k number answers = ring_part.job_asked_keeping k.ends.ring number answers

abbrev pub JobMovesEachKeeping : KeepingView → ℕ → List BackAnswer → Type 0
JobMovesEachKeeping k number answers = ring_part.MovesEachKeeping k.ends.ring number answers

-- answers to the backend itself, one after another: what they make of it, what it asks after them, and that each is to a word that it asks for then
abbrev pub steps_keeping : KeepingView → List BackAnswer → KeepingView
steps_keeping k answers = fold step_keeping k answers

abbrev pub asked_keeping : KeepingView → List BackAnswer → BackAsk
asked_keeping k answers = let l : KeepingView = steps_keeping k answers in ask_of l.ends

abbrev pub BackMovesEachKeeping : KeepingView → List BackAnswer → Type 0
BackMovesEachKeeping k answers = MovesEach (λ (l : KeepingView). ask_of l.ends) step_keeping k answers

-- it is to keep no mapping, and none is kept
pub record IsPlain (k : KeepingView) : Type 0 where
  pub never : k.most ≡ 0
  pub ring : keeping.KeepsNone k.ends.ring
