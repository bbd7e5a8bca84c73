-- The back pushes a response.
use Rattle.std.proofs.Common.{◌≡◌, ℕ, ◌+◌, ◌-◌, ◌<◌, Bool, true, List, [], ◌∷◌, ◌++◌, length, refl, ap, sym, ◌∙◌, inl, inr, arith, ◌≢◌, ◌^◌, ◌≤◌, length-append, false, true≢false}
use Rattle.std.specs.Prelude.{Option, Some, None, slice_get}
use Rattle.std.proofs.lemmas.Option.{slice_get-get_or}
use Rattle.blk_base.specs.Options.{Options}
use Rattle.pipeline_laws.specs.Pipeline.{Pipeline, next}
use Rattle.ring_words.specs.Ring.{Ring, next_of}
use Rattle.xen_pages.specs.Pages.{with_word}
use Rattle.grant_table.specs.Table.{frame_of}
use Rattle.event_channel.specs.Channels.{taken}
use Rattle.blk_front.specs.declared.request.Request.{Request}
use Rattle.blk_front.specs.declared.stage.FrontStage.{FrontStage}
use Rattle.blk_front.specs.declared.stage.FrontStage.TheVariants as front
use Rattle.ring_words.specs.Shape.{Shape}
use Rattle.blk_back.specs.View.{page_of}
use Rattle.blk_front.specs.Submit.{is_ready, is_connected, ending_of}
use Rattle.blk_back.specs.declared.stage.Reply.{Reply}
use Rattle.blk_back.specs.declared.stage.BackStage.TheVariants as stage
use Rattle.blk_back.specs.Ask.{response_word}
use Rattle.blk_back.specs.Step.{fetched}
use Rattle.split_model.specs.World.{World}
use Rattle.split_model.specs.Shown.{halt_lines}
use Rattle.machine_pipeline.proofs.Flow.{Flow, wrapped, ending_at, is_issuing, telling_at, is_back_arming, may_back_sleep}
use Rattle.machine_pipeline.proofs.Holds.{Holds, AreIndices, IsReply, AreReplies, IsTaken, FrontAt, AreRingWords, AreSlots, slot_of, IsFrontSleep, IsEndingAt}
use Rattle.machine_pipeline.proofs.Turns.{BackGoes, Stepped, does_step, goes_by}
use Rattle.machine_pipeline.proofs.Kept.{SameFrame, sleep_kept, sleep_turned}
use Rattle.machine_pipeline.proofs.ReadsKept.{stations_elsewhere}
use Rattle.machine_pipeline.proofs.BackStill.{BackStands, told_elsewhere, frames_beside, entries_beside, StationsOf}
use Rattle.machine_pipeline.proofs.BackQuiet.{paged_at}
use Rattle.machine_pipeline.proofs.BackFences.{first_frame}
use Rattle.schedule_text.specs.declared.line.Line.TheVariants as lines
use Rattle.machine_pipeline.proofs.BackWrites.{RingWritten, ring_written, begun, named_to, granted_to, slots_beside}
use Rattle.machine_pipeline.proofs.Wrapped.{next_wrapped}
use Rattle.std.proofs.lemmas.List.Elements.{All-push}
use Rattle.std.proofs.lemmas.List.Quantifiers.{all_pairs_push}
use Rattle.blk_front.specs.declared.stage.Ending.{Ending}
use Rattle.machine_pipeline.proofs.Lists.{get_append}
use Rattle.pipeline_laws.specs.Station.{Replying, Replied}
use Rattle.machine_pipeline.specs.Step.{IsSame}
use Rattle.machine_pipeline.proofs.Series.{HasNumber}
use Rattle.machine_pipeline.proofs.Stations.{AreStations, apart, finishing, finishing_kind}
use Rattle.machine_pipeline.proofs.StationsBack.{replies}
use Rattle.machine_pipeline.proofs.Growing.{push_was}

-- one response more was pushed
indices_replied : (g : Flow) (replies : List Reply) (front_ring back_ring : Ring) (front_seen back_seen number last waiting unfinished ending : ℕ) → g.replied < g.fetched → AreIndices g front_ring back_ring front_seen back_seen number last waiting unfinished ending → AreIndices (record g { replied = g.replied + 1; replies = replies }) front_ring (record back_ring { prod = next_of back_ring.prod }) front_seen back_seen number last waiting unfinished ending
indices_replied g replies front_ring back_ring front_seen back_seen number last waiting unfinished ending owed x = let pushed = next_wrapped g.start g.replied back_ring.prod x.replied in omega (arith, x)

slots_replied : (shape : Shape) (start fetched pushed taken replied old : ℕ) (series : List Request) (replies : List Reply) (pages : List ℕ) (s : FrontStage) (rep : Reply) → length replies + taken ≡ replied → AreSlots shape start fetched pushed taken replied series replies pages s (stage.Producer rep) → AreSlots shape start fetched pushed taken (replied + 1) series (replies ++ rep ∷ []) pages s (stage.ProducerFence old)
slots_replied shape start fetched pushed taken replied old series replies pages s rep counted h = record {
  entries = h.entries;
  entry = h.entry;
  responses = λ k r e i lt. elim (push_was replies rep k r e) [
    | inl before ↦ h.responses k r before i lt
    | inr last ↦
        let at : taken + k ≡ replied = omega (arith, last.0) in
        ap (λ (n : ℕ). slot_of pages shape (wrapped start n) i) at ∙ (h.response rep refl i lt ∙ ap (λ (x : Reply). response_word x i) (sym last.1))
  ];
  response = λ r e i lt. cc;
}

ring_replied : (order start pushed replied mapped word : ℕ) (before new : List ℕ) (s : FrontStage) → RingWritten before new 2 2 word → word ≡ wrapped start (replied + 1) → is_connected s ≡ true → mapped ≡ 2 ^ order → AreRingWords order start pushed replied before s mapped → AreRingWords order start pushed (replied + 1) new s mapped
ring_replied order start pushed replied mapped word before new s r e c all h = record {
  begun = begun start new s c;
  requests = λ t. r.words 2 0 (omega arith) ∙ h.requests t;
  responses = λ t. r.here ∙ e;
  named = λ page lt from. absurd (let bound = named_to s (2 ^ order) c in omega arith);
  granted = λ page lt from. absurd (let bound = granted_to s (2 ^ order) c in omega arith);
}

front_sleep_replied : (start taken replied old : ℕ) (pages : List ℕ) (asleep pending : Bool) (s : FrontStage) (rep : Reply) → IsFrontSleep start taken replied pages asleep pending s (stage.Producer rep) → IsFrontSleep start taken (replied + 1) pages asleep pending s (stage.ProducerFence old)
front_sleep_replied start taken replied old pages asleep pending s rep h = record {
  arming = h.arming;
  armed = h.armed;
  may = h.may;
  woken = λ t. elim (h.woken t) [ inl e ↦ inr (inr (omega arith)) | inr r ↦ elim r [ inl e ↦ inr (inl e) | inr r ↦ absurd r ] ];
}

-- one response more
replies_more : {series : List Request} (fetched taken replied : ℕ) (replies : List Reply) (rep : Reply) → 1 ≤ rep.id → HasNumber series fetched rep.id → rep.op < 2 ^ 8 → ((i : ℕ) (other : Reply) → slice_get replies i ≡ Some other → other.id ≢ rep.id) → AreReplies series fetched taken replied replies → AreReplies series fetched taken (replied + 1) (replies ++ rep ∷ [])
replies_more {series} fetched taken replied replies rep positive reached op others h = record {
  counted = omega (arith, length-append replies (rep ∷ []), h.counted);
  each = All-push (IsReply series fetched) replies rep h.each (record { positive = positive; reached = reached; op = op });
  distinct = all_pairs_push (λ (a b : Reply). a.id ≢ b.id) replies rep h.distinct (λ i x lt. others i _ (slice_get-get_or replies i x lt));
}

ending_at_still : {submitted : List Request} {ending : Option Ending} {P : Ending → Type 0} (replies : List Reply) (rep : Reply) → ((e : Ending) → ending ≡ Some e → rep.id ≢ e.request.number)
    → IsEndingAt submitted replies ending P → IsEndingAt submitted (replies ++ rep ∷ []) ending P
ending_at_still replies rep other (e, at, h, its) =
    (e, at, record { known = h.known; positive = h.positive; alone = All-push (λ (x : Reply). x.id ≢ e.request.number) replies rep h.alone (other e at) }, its)

abbrev taken_still : (taken seen : ℕ) (replies : List Reply) (rep : Reply) → IsTaken taken seen replies → IsTaken taken seen (replies ++ rep ∷ [])
taken_still taken seen replies rep t = record { rep = t.rep; oldest = get_append replies (rep ∷ []) 0 t.rep t.oldest; seen = t.seen }

front_still : (shape : Shape) (start pushed taken seen : ℕ) (submitted : List Request) (replies : List Reply) (next : Option Request) (entry : List ℕ)
    (ending : Option Ending) (s : FrontStage) (rep : Reply)
    → ((e : Ending) → ending_at s ending ≡ Some e → rep.id ≢ e.request.number)
    → FrontAt shape start pushed taken seen submitted replies next entry ending s
    → FrontAt shape start pushed taken seen submitted (replies ++ rep ∷ []) next entry ending s
front_still shape start pushed taken seen submitted before next entry ending (front.ResponseHigh low) rep other h = (taken_still taken seen before rep h.0, h.1)
front_still shape start pushed taken seen submitted before next entry ending (front.ResponseLast low high) rep other h =
    (taken_still taken seen before rep h.0, h.1, h.2)
front_still shape start pushed taken seen submitted before next entry ending (front.GrantRead place) rep other h = ending_at_still before rep other h
front_still shape start pushed taken seen submitted before next entry ending (front.GrantEnd place old) rep other h = ending_at_still before rep other h
front_still shape start pushed taken seen submitted before next entry ending (front.ReadData n) rep other h = ending_at_still before rep other h
front_still shape start pushed taken seen submitted before next entry ending (front.LeftData n) rep other h = ending_at_still before rep other h
front_still shape start pushed taken seen submitted before next entry ending s rep other h = h

pub goes_producer : (config : Options) (w : World) (g : Flow) (d : Pipeline) (rep : Reply) → BackStands config w g d (stage.Producer rep) → BackGoes config w d (stage.Producer rep)
goes_producer config w g d rep p = goes_by {g = flow} (does_step _ (lines.Reply rep.id rep.status ∷ halt_lines w.back.halted w.back.halted) (rw h.unhalted refl) s)
    (assumption (
      counted,
      stands,
      indices_replied g (g.replies ++ rep ∷ []) _ _ _ _ _ _ _ _ _ owed x,
      replies_more g.fetched g.taken g.replied g.replies rep h.back_at.positive h.back_at.reached h.back_at.op others h.replies,
      front_still _ _ _ _ _ _ _ _ _ _ w.front.stage rep ending_other h.front_at,
      back_at,
      wrote.memory,
      ring_replied _ _ _ _ _ word w.under.pages new _ wrote is_next p.connected h.paged.mapped h.ring,
      slots_replied _ _ _ _ _ _ w.back.ring.indices.prod _ _ _ _ rep h.replies.counted (slots_beside _ _ _ _ _ _ 2 word _ _ _ new _ _ wrote (omega arith) h.shaped.narrow h.slots),
      frames_beside config w g d w.front.stage (stage.Producer rep) new h wrote.others,
      told_elsewhere config w g d w.front.stage (stage.Producer rep) new h pool,
      entries_beside config w g d w.front.stage (stage.Producer rep) new h wrote.others,
      paged_at _ _ _ _ _ _ _ (stage.Producer rep) (stage.ProducerFence w.back.ring.indices.prod) refl refl h.paged,
      front_sleep_replied g.start g.taken g.replied w.back.ring.indices.prod new w.front.ring.asleep w.under.channels.front_pending w.front.stage rep (sleep_kept (wrote.words 2 3 (omega arith)) h.front_sleep),
      sleep_turned (is_back_arming (stage.ProducerFence w.back.ring.indices.prod)) (may_back_sleep (stage.ProducerFence w.back.ring.indices.prod)) (λ t. t) (λ t. absurd (true≢false t))
          (sleep_kept (wrote.words 2 1 (omega arith)) h.back_sleep),
    ))
  where
    flow : Flow
    flow = record g { replied = g.replied + 1; replies = g.replies ++ rep ∷ [] }

    h : Holds config w g d w.front.stage (stage.Producer rep)
    h = p.holds

    x : AreIndices g w.front.ring.indices w.back.ring.indices w.front.ring.seen w.back.ring.seen w.back.fetched w.front.last w.front.waiting (length w.front.requests) (ending_of w.front.stage)
    x = h.indices

    s : Stepped None IsSame d (lines.Reply rep.id rep.status ∷ []) (λ x. AreStations config (record g { replied = g.replied + 1; replies = g.replies ++ rep ∷ [] }) x (is_ready w.front.stage) (is_issuing w.front.stage) false (ending_at w.front.stage w.front.ending) (telling_at w.front.stage) None w.front.requests w.back.jobs.works w.under.pages)
    s = replies rep h.back_at.positive h.replies.counted h.stations

    -- no response that waits names its request, nor is its grant being ended
    others : (i : ℕ) (other : Reply) → slice_get g.replies i ≡ Some other → other.id ≢ rep.id
    others i other at same = apart d.requests (other.id - 1) (rep.id - 1) (Replied other.status) (Replying rep.status) (h.stations.replied i other at) (h.stations.replying rep refl) (omega arith) (ap (λ (id : ℕ). id - 1) same)

    ending_other : (e : Ending) → ending_at w.front.stage w.front.ending ≡ Some e → rep.id ≢ e.request.number
    ending_other e at same = apart d.requests (e.request.number - 1) (rep.id - 1) (finishing (telling_at w.front.stage) e.status) (Replying rep.status) (h.stations.taking e at) (h.stations.replying rep refl) (omega (arith, finishing_kind (telling_at w.front.stage) e.status)) (ap (λ (id : ℕ). id - 1) (sym same))

    owed : g.replied < g.fetched
    owed = omega (arith, h.counted)

    frame : ℕ
    frame = frame_of w.under.grants (page_of w.back 0)

    in_two : frame ≡ 2
    in_two = first_frame config w g d (stage.Producer rep) p refl refl

    word : ℕ
    word = next_of w.back.ring.indices.prod

    is_next : word ≡ wrapped g.start (g.replied + 1)
    is_next = next_wrapped g.start g.replied w.back.ring.indices.prod x.replied

    new : List ℕ
    new = with_word w.under.pages frame 2 word

    wrote : RingWritten w.under.pages new 2 2 word
    wrote = ring_written w.under.pages frame 2 2 word in_two (omega arith) (omega arith) (omega arith) h.memory

    counted : length w.back.jobs.works + 0 + (g.replied + 1) ≡ g.fetched
    counted = omega (arith, h.counted)

    back_at : (1 ≤ g.replied + 1) × (w.back.ring.indices.prod ≡ wrapped g.start (g.replied + 1 - 1))
    back_at = (omega arith, x.replied ∙ ap (λ (i : ℕ). wrapped g.start i) (omega arith))

    pool : (f : ℕ) → 18 ≤ f → f < 1018 → SameFrame w.under.pages new f
    pool f low high = wrote.others f (inr low)

    stands : StationsOf config w flow (next d s.step) false None w.back.jobs.works new
    stands = stations_elsewhere _ _ _ _ _ _ _ _ _ _ _ _ new _ _ h.submitted pool s.now
