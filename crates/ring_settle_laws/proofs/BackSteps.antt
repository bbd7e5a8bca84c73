-- Moves of the back that change neither a job nor what the ends saw: it maps its ring, binds its port, writes a response, tells the front of it, and goes to sleep.
use Rattle.std.proofs.Common.{◌≡◌, ℕ, ◌+◌, ◌≤◌, Bool, true, false, if◌then◌else◌, List, [], ◌∷◌, ◌++◌, length, refl, arith}
use Rattle.std.specs.Prelude.{Some, Result, Ok, Err, nat_lt}
use Rattle.blk_base.specs.declared.ask.BackAnswer.{BackAnswer}
use Rattle.blk_base.specs.declared.ask.BackAnswer.TheVariants as answer
use Rattle.blk_base.specs.declared.moves.BackMover.TheVariants as back_mover
use Rattle.blk_base.specs.declared.parts.Mapping.{Mapping}
use Rattle.blk_base.specs.declared.parts.End.TheVariants as end
use Rattle.blk_base.specs.declared.parts.Mode.TheVariants.{ReadWrite}
use Rattle.blk_base.specs.declared.halt.Halt.{Halt}
use Rattle.blk_base.specs.declared.halt.Halt.TheVariants as halt
use Rattle.ring_words.specs.Ring.{notifies}
use Rattle.grant_table.specs.declared.entry.MapRefusal.{MapRefusal}
use Rattle.grant_table.specs.Entry.{status_of}
use Rattle.grant_table.specs.Table.{frame_of, verdict_at, next_mapping}
use Rattle.xen_pages.specs.Pages.{word_of}
use Rattle.event_channel.specs.declared.channels.PortState.{PortState}
use Rattle.event_channel.specs.declared.channels.PortState.TheVariants as port
use Rattle.event_channel.specs.Channels.{ChannelState, state_of, is_bound, bound, sent, taken}
use Rattle.hypervisor.specs.Act.{BackAct, map_act, bind_act, wait_act}
use Rattle.blk_back.specs.declared.stage.Reply.{Reply}
use Rattle.blk_back.specs.declared.stage.BackStage.{BackStage}
use Rattle.blk_back.specs.declared.stage.BackStage.TheVariants as stage
use Rattle.blk_back.specs.View.{page_of}
use Rattle.blk_back.specs.Ask.{next_gref}
use Rattle.blk_back.specs.Step.{at, step_at, unbound}
use Rattle.back_laws.specs.BackLeft.{gained}
use Rattle.split_model.specs.World.{World}
use Rattle.machine_pipeline.proofs.Turns.{back_turn_at}
use Rattle.ring_settle_laws.specs.Left.{event_price, back_saw, marks_left}
use Rattle.ring_settle_laws.proofs.BackSums.{PaysTo, Pays, pays_by, same, of_act, waiting, event_pays}

module _ (w : World) (before after : ℕ) (less : after ≤ before) (a : BackAct) where
  -- the back waits for the terms of its front, or has halted
  pub still_pays : (b : BackStage) → w.back.stage ≡ b → wait_act w.under back_mover.Back ≡ Some a → Pays w b (λ given. w.back) before after a
  still_pays b is e = waiting (Pays w b (λ given. w.back) before after) w.under a e
      (λ pending. pays_by w b w.back answer.Event (taken w.under.channels end.Back) before after (rw is (omega (arith, event_pays w.under.channels pending))) (same _) (rw is (same _)) less)
      (λ path. pays_by w b w.back (answer.Watched path) w.under.channels before after (rw is (omega arith)) (same _) (rw is (same _)) less)

  -- a page of the ring is mapped, or refused
  mapped_pays : (m : Mapping) (more : Bool) → PaysTo w stage.MapRing (record w.back { pages = w.back.pages ++ m ∷ []; stage = if more then stage.MapRing else stage.Bind }) (answer.Mapped m) w.under.channels before after
  mapped_pays m true = pays_by w stage.MapRing (record w.back { pages = w.back.pages ++ m ∷ []; stage = stage.MapRing }) (answer.Mapped m) w.under.channels before after (omega arith) (same _) (same _) less
  mapped_pays m false = pays_by w stage.MapRing (record w.back { pages = w.back.pages ++ m ∷ []; stage = stage.Bind }) (answer.Mapped m) w.under.channels before after (omega arith) (same _) (same _) less

  unmapped_pays : (b : BackStage) (given : BackAnswer) (why : Halt) (pages : List Mapping) → gained b w.back given ≡ 0 → back_saw b w.back ≡ w.back.ring.seen → PaysTo w b (record w.back { halted = Some why; stage = unbound pages }) given w.under.channels before after
  unmapped_pays b given why [] none saw = pays_by w b (record w.back { halted = Some why; stage = stage.Halted }) given w.under.channels before after (omega (arith, none)) (same _) (rw saw (same _)) less
  unmapped_pays b given why (m ∷ pages) none saw = pays_by w b (record w.back { halted = Some why; stage = stage.UnmapUnbound }) given w.under.channels before after (omega (arith, none)) (same _) (rw saw (same _)) less

  pub map_pays : back_turn_at stage.MapRing w ≡ Some a → Pays w stage.MapRing (step_at stage.MapRing w.back) before after a
  map_pays e = of_act (Pays w stage.MapRing (step_at stage.MapRing w.back) before after) _ a e (by_verdict (verdict_at w.under.pages (next_gref w.back) ReadWrite))
    where
      by_verdict : (verdict : Result ℕ MapRefusal) → Pays w stage.MapRing (step_at stage.MapRing w.back) before after (map_act w.under back_mover.Back (next_gref w.back) ReadWrite verdict)
      by_verdict (Ok frame) = mapped_pays (next_mapping w.under.grants (next_gref w.back) ReadWrite) (nat_lt (length w.back.pages + 1) (length w.back.grefs))
      by_verdict (Err refusal) = unmapped_pays stage.MapRing (answer.MapRefused (status_of refusal)) (halt.MapRefused (next_gref w.back) (status_of refusal)) w.back.pages refl refl

  -- its port is bound, or refused
  pub bind_pays : back_turn_at stage.Bind w ≡ Some a → Pays w stage.Bind (step_at stage.Bind w.back) before after a
  bind_pays e = of_act (Pays w stage.Bind (step_at stage.Bind w.back) before after) _ a e (by_state (state_of w.under.channels w.back.ring.port))
    where
      refused : Pays w stage.Bind (step_at stage.Bind w.back) before after (bind_act w.under w.back.ring.port port.Closed)
      refused = unmapped_pays stage.Bind answer.BindRefused (halt.BadPort w.back.ring.port) w.back.pages refl refl

      by_state : (state : PortState) → Pays w stage.Bind (step_at stage.Bind w.back) before after (bind_act w.under w.back.ring.port state)
      by_state port.Unbound = pays_by w stage.Bind (at stage.Loop w.back) answer.Done (bound w.under.channels w.back.ring.port) before after (omega arith) (same _) (same _) less
      by_state other = refused

  pub reply_high_pays : (r : Reply) → back_turn_at (stage.ReplyHigh r) w ≡ Some a → Pays w (stage.ReplyHigh r) (step_at (stage.ReplyHigh r) w.back) before after a
  reply_high_pays r e = of_act (Pays w (stage.ReplyHigh r) (step_at (stage.ReplyHigh r) w.back) before after) _ a e
      (pays_by w (stage.ReplyHigh r) (at (stage.ReplyLast r) w.back) answer.Done w.under.channels before after (omega arith) (same _) (same _) less)

  pub reply_last_pays : (r : Reply) → back_turn_at (stage.ReplyLast r) w ≡ Some a → Pays w (stage.ReplyLast r) (step_at (stage.ReplyLast r) w.back) before after a
  reply_last_pays r e = of_act (Pays w (stage.ReplyLast r) (step_at (stage.ReplyLast r) w.back) before after) _ a e
      (pays_by w (stage.ReplyLast r) (at (stage.Producer r) w.back) answer.Done w.under.channels before after (omega arith) (same _) (same _) less)

  pub fence_pays : (old : ℕ) → back_turn_at (stage.ProducerFence old) w ≡ Some a → Pays w (stage.ProducerFence old) (step_at (stage.ProducerFence old) w.back) before after a
  fence_pays old e = of_act (Pays w (stage.ProducerFence old) (step_at (stage.ProducerFence old) w.back) before after) _ a e
      (pays_by w (stage.ProducerFence old) (at (stage.ResponseEvent old) w.back) answer.Done w.under.channels before after (omega arith) (same _) (same _) less)

  -- the front is to be told, or not
  told_pays : (old word : ℕ) (tells : Bool) → PaysTo w (stage.ResponseEvent old) (at (if tells then stage.Send else stage.Loop) w.back) (answer.Word word) w.under.channels before after
  told_pays old word true = pays_by w (stage.ResponseEvent old) (at stage.Send w.back) (answer.Word word) w.under.channels before after (omega arith) (same _) (same _) less
  told_pays old word false = pays_by w (stage.ResponseEvent old) (at stage.Loop w.back) (answer.Word word) w.under.channels before after (omega arith) (same _) (same _) less

  pub response_event_pays : (old : ℕ) → back_turn_at (stage.ResponseEvent old) w ≡ Some a → Pays w (stage.ResponseEvent old) (step_at (stage.ResponseEvent old) w.back) before after a
  response_event_pays old e = of_act (Pays w (stage.ResponseEvent old) (step_at (stage.ResponseEvent old) w.back) before after) _ a e
      (let word : ℕ = word_of w.under.pages (frame_of w.under.grants (page_of w.back 0)) 3 in told_pays old word (notifies old w.back.ring.indices.prod word))

  -- the event that it sends costs as a mark what it cost before
  sent_left : (c : ChannelState) → marks_left (sent c end.Back) ≤ marks_left c + event_price
  sent_left c = by_bound (is_bound c) c.front_pending
    where
      by_bound : (b p : Bool) → marks_left (record c { front_pending = if b then true else p }) ≤ marks_left (record c { front_pending = p }) + event_price
      by_bound true true = omega arith
      by_bound true false = omega arith
      by_bound false p = omega arith

  pub send_pays : back_turn_at stage.Send w ≡ Some a → Pays w stage.Send (step_at stage.Send w.back) before after a
  send_pays e = of_act (Pays w stage.Send (step_at stage.Send w.back) before after) _ a e
      (pays_by w stage.Send (at stage.Loop w.back) answer.Done (sent w.under.channels end.Back) before after (omega (arith, sent_left w.under.channels)) (same _) (same _) less)

  pub store_event_pays : back_turn_at stage.StoreEvent w ≡ Some a → Pays w stage.StoreEvent (step_at stage.StoreEvent w.back) before after a
  store_event_pays e = of_act (Pays w stage.StoreEvent (step_at stage.StoreEvent w.back) before after) _ a e
      (pays_by w stage.StoreEvent (at stage.EventFence w.back) answer.Done w.under.channels before after (omega arith) (same _) (same _) less)

  pub event_fence_pays : back_turn_at stage.EventFence w ≡ Some a → Pays w stage.EventFence (step_at stage.EventFence w.back) before after a
  event_fence_pays e = of_act (Pays w stage.EventFence (step_at stage.EventFence w.back) before after) _ a e
      (pays_by w stage.EventFence (at stage.LookAgain w.back) answer.Done w.under.channels before after (omega arith) (same _) (same _) less)
