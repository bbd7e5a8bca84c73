-- The front announces the request that it pushed: a back that sleeps, and knew of none before it, is sent an event.
use Rattle.machine_pipeline.proofs.Issuing.{idle_turned, with_front, issue_on}
use Rattle.std.proofs.Common.{◌≡◌, ℕ, ◌+◌, ◌-◌, Bool, true, false, List, refl, inl, inr, arith}
use Rattle.std.specs.Prelude.{if◌then◌else◌}
use Rattle.std.specs.List.{list_any}
use Rattle.blk_base.specs.Options.{Options}
use Rattle.blk_base.specs.Distance.{distance_of}
use Rattle.ring_words.specs.Ring.{notifies}
use Rattle.xen_pages.specs.Pages.{word_of}
use Rattle.event_channel.specs.declared.channels.PortState.{PortState}
use Rattle.event_channel.specs.Channels.{is_bound_port}
use Rattle.pipeline_laws.specs.Pipeline.{Pipeline}
use Rattle.blk_front.specs.declared.stage.FrontStage.TheVariants as front
use Rattle.blk_back.specs.declared.stage.BackStage.{BackStage}
use Rattle.blk_back.specs.declared.stage.BackStage.TheVariants as back
use Rattle.split_model.specs.World.{World}
use Rattle.split_model.specs.Safe.{IsSafe}
use Rattle.machine_pipeline.proofs.Flow.{Flow, wrapped, may_back_sleep, is_bound_back}
use Rattle.machine_pipeline.proofs.Holds.{IsBackSleep, PortsAt, Holds}
use Rattle.machine_pipeline.proofs.Turns.{FrontGoes, said_nothing, goes_by}
use Rattle.machine_pipeline.proofs.Issuing.{idle_turned, with_front, issue_on}

pub producer_fence_goes : (config : Options) (w : World) (g : Flow) (d : Pipeline) (old : ℕ) → IsSafe w → Holds config w g d (front.ProducerFence old) w.back.stage → FrontGoes config w d (front.ProducerFence old)
producer_fence_goes config w g d old safe h = goes_by (said_nothing d _ w.front.told safe.front_told)
    (issue_on config w g d (front.ProducerFence old) (front.RequestEvent old) refl refl refl h h.front_at (λ n. omega arith) refl (omega arith) (omega arith) (λ t sends. sends))

-- the first request that a sleeping back doesn't know of passes its event word
notified : (start fetched pushed old prod event : ℕ) → old ≡ wrapped start (pushed - 1) → prod ≡ wrapped start pushed → event ≡ wrapped start (fetched + 1) → pushed ≡ fetched + 1 → notifies old prod event ≡ true
notified start fetched pushed old prod event e f i one =
    let none : distance_of event prod ≡ 0 = omega arith in
    let some : distance_of old prod ≡ 1 = omega arith in
    rw (none, some) refl

pub event_goes : (config : Options) (w : World) (g : Flow) (d : Pipeline) (old : ℕ) → IsSafe w → Holds config w g d (front.RequestEvent old) w.back.stage → FrontGoes config w d (front.RequestEvent old)
event_goes config w g d old safe h = goes_by (said_nothing d _ w.front.told safe.front_told)
    (by_test (notifies old w.front.ring.indices.prod (word_of w.under.pages 2 1)) refl)
  where
    by_test : (b : Bool) → notifies old w.front.ring.indices.prod (word_of w.under.pages 2 1) ≡ b → Holds config (with_front w (if b then front.Send else front.Loop) w.front.ring.entry w.under.pages) g d (if b then front.Send else front.Loop) w.back.stage
    by_test true t = issue_on config w g d (front.RequestEvent old) front.Send refl refl refl h tt (λ n. omega arith) refl (omega arith) (omega arith) (λ t sends. tt)
    by_test false t = issue_on config w g d (front.RequestEvent old) front.Loop refl refl refl h tt (λ n. omega arith) refl (omega arith) (omega arith) (λ sleeps sends.
        let x = h.indices in
        let u = h.back_sleep in
        let yes : notifies old w.front.ring.indices.prod (word_of w.under.pages 2 1) ≡ true = notified g.start g.fetched g.pushed old w.front.ring.indices.prod (word_of w.under.pages 2 1) h.front_at.1 x.pushed (u.armed sleeps) sends in
        absurd (cc))

-- a back that sleeps is bound to the front's port
bound_asleep : (b : BackStage) (asleep : Bool) → (may_back_sleep b ≡ false → asleep ≡ false) → asleep ≡ true → is_bound_back b ≡ true
bound_asleep back.Loop asleep may t = refl
bound_asleep b asleep may t = first_of (cc, grind arith)

pending_sent : (before : ℕ) (bound : Bool) (made : ℕ) (ports : List PortState) (pending : Bool) → PortsAt before true bound made ports → bound ≡ true → (if list_any is_bound_port ports then true else pending) ≡ true
pending_sent before true made ports pending at e = rw (at.1) refl
pending_sent before false made ports pending at e = absurd (cc)

pub send_goes : (config : Options) (w : World) (g : Flow) (d : Pipeline) → IsSafe w → Holds config w g d front.Send w.back.stage → FrontGoes config w d front.Send
send_goes config w g d safe h =
    let sleep = h.back_sleep in
    let channels = w.under.channels in
    let sent = λ (t : w.back.ring.asleep ≡ true). pending_sent g.before (is_bound_back w.back.stage) channels.made channels.ports channels.back_pending h.ports
    (bound_asleep w.back.stage w.back.ring.asleep sleep.may t) in
    let back : IsBackSleep g.start g.fetched g.pushed w.under.pages w.back.ring.asleep (if list_any is_bound_port channels.ports then true else channels.back_pending) front.Loop w.back.stage =
    record { arming = sleep.arming; armed = sleep.armed; may = sleep.may; woken = λ t. inr (inl (sent t)) } in
    goes_by {g = g} (said_nothing d _ w.front.told safe.front_told)
    (assumption (
      idle_turned h w.under.pages front.Loop w.front.ending refl (λ f x from to in_it after. refl) (λ n x lt k l. refl) (λ n x lt a in_it. record { flags = refl; frame = refl }) h.entries.ending,
      back,
    ))
