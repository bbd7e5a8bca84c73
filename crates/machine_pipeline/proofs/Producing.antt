-- What holds goes on holding when the front writes its producer.
use Rattle.std.proofs.Common.{◌≤◌, ◌≡◌, ◌≢◌, ℕ, ◌+◌, ◌-◌, ◌*◌, ◌<◌, ◌==◌, List, length, ap, ◌∙◌, inl, inr, arith, length-set, [], true, refl, false}
use Rattle.std.specs.Prelude.{Some, None, slice_get}
use Rattle.std.proofs.lemmas.Bool.Decides.{nat_tests}
use Rattle.blk_base.specs.Options.{Options}
use Rattle.ring_words.specs.Ring.{next_of}
use Rattle.xen_pages.specs.Pages.{word_of, with_word}
use Rattle.pipeline_laws.specs.Pipeline.{Pipeline}
use Rattle.blk_front.specs.declared.request.Request.{Request}
use Rattle.blk_front.specs.Request.{frame_at}
use Rattle.blk_front.specs.declared.stage.FrontStage.TheVariants as front
use Rattle.blk_base.specs.declared.parts.Mapping.{Mapping}
use Rattle.back_jobs.specs.Work.{Work}
use Rattle.back_jobs.specs.Jobs.{mapping_at}
use Rattle.split_model.specs.World.{World}
use Rattle.split_model.specs.Safe.{IsSafe}
use Rattle.machine_pipeline.proofs.Flow.{Flow, wrapped, is_fetching, reply_at}
use Rattle.machine_pipeline.proofs.Wrapped.{next_wrapped}
use Rattle.machine_pipeline.proofs.Series.{among_apart}
use Rattle.machine_pipeline.proofs.Holds.{AreRingWords, IsBackSleep, Holds}
use Rattle.machine_pipeline.proofs.HoldsWorks.{IsWork}
use Rattle.machine_pipeline.proofs.Kept.{SameFrame, SameEntry, written, other_word, other_frame, same_entry}
use Rattle.machine_pipeline.proofs.Issuing.{frames_elsewhere, entries_elsewhere, front_sleep_turned, next_here, fetching_pushed}
use Rattle.machine_pipeline.proofs.Next.{waiting_few, IsNext}
use Rattle.machine_pipeline.proofs.Turns.{FrontGoes, Stepped, does_step, goes_by}
use Rattle.machine_pipeline.proofs.Frames.{unmapped}
use Rattle.machine_pipeline.proofs.Lists.{all_at}
use Rattle.machine_pipeline.proofs.Pushing.{pushed_flow, indices_pushed, queue_pushed, slots_pushed, frames_pushed, entries_pushed}
use Rattle.machine_pipeline.proofs.Stations.{AreStations}
use Rattle.machine_pipeline.proofs.ReadsKept.{stations_elsewhere}
use Rattle.machine_pipeline.proofs.StationsFront.{pushes}
use Rattle.machine_pipeline.specs.Step.{IsSame}
use Rattle.split_model.specs.Shown.{front_lines}
use Rattle.machine_pipeline.proofs.Slots.{few_pages, index_written}

one_less : (n : ℕ) → n ≡ n + 1 - 1
one_less n = omega arith

pub producer_goes : (config : Options) (w : World) (g : Flow) (d : Pipeline) → IsSafe w → Holds config w g d front.Producer w.back.stage → FrontGoes config w d front.Producer
producer_goes config w g d safe h =
    let x = h.indices in
    let old : ℕ = w.front.ring.indices.prod in
    let few = few_pages g.shape.order h.shaped.narrow in
    let at : (1 ≤ g.pushed + 1) × (old ≡ wrapped g.start (g.pushed + 1 - 1)) = (omega arith, x.pushed ∙ ap (λ (n : ℕ). wrapped g.start n) (one_less g.pushed)) in
    let ring : AreRingWords g.shape.order g.start (g.pushed + 1) g.replied new (front.ProducerFence old) (length w.back.pages) = record {
      begun = tt;
      requests = λ t. written w.under.pages 2 0 (next_of old) h.memory (omega arith) (omega arith) ∙ next_wrapped g.start g.pushed old x.pushed;
      responses = λ t. ring_word 2 (omega arith) ∙ h.ring.responses t;
      named = λ page lt unmapped. (entry_same (8 + page) (omega arith)).frame ∙ h.ring.named page lt unmapped;
      granted = λ page lt unmapped. (entry_same (8 + page) (omega arith)).flags ∙ h.ring.granted page lt unmapped;
    } in
    let back : IsBackSleep g.start g.fetched (g.pushed + 1) new w.back.ring.asleep w.under.channels.back_pending (front.ProducerFence old) w.back.stage = record {
      arming = λ t. ring_word 1 (omega arith) ∙ h.back_sleep.arming t;
      armed = λ t. ring_word 1 (omega arith) ∙ h.back_sleep.armed t;
      may = h.back_sleep.may;
      woken = λ t. elim (h.back_sleep.woken t) [ inl none ↦ inr (inr (omega arith)) | inr some ↦ elim some [ inl pending ↦ inr (inl pending) | inr comes ↦ absurd comes ] ];
    } in
    goes_by {g = pushed_flow g} (does_step _ (front_lines w.front.told) (rw safe.front_told refl) s)
    (assumption (
      indices_pushed g w.front.ring.indices w.back.ring.indices w.front.ring.seen w.back.ring.seen w.back.fetched w.front.last w.front.waiting (length w.front.requests) next.waits h.indices,
      queue_pushed g.submitted w.front.requests g.pushed w.front.waiting r next (waiting_few h.indices) h.queue,
      stations_elsewhere config (pushed_flow g) _ true false (is_fetching w.back.stage) None None (reply_at w.back.stage) w.front.requests w.back.jobs.works w.under.pages new config.sectors w.front.last h.submitted (λ f low high. elsewhere f (omega arith)) s.now,
      at,
      length-set w.under.pages (2 * 1024 + 0) (next_of old) ∙ h.memory,
      ring,
      slots_pushed h next new old (index_written w.under.pages 0 (next_of old) (omega arith)),
      frames_pushed h next new old (frames_elsewhere h new front.Producer (λ f from. elsewhere f (omega arith))),
      entries_pushed h next new old
          (λ place in_it. unmapped config w g d front.Producer w.back.stage h (length w.front.requests - w.front.waiting) r next.place place in_it none_begun (λ (m : Mapping). m.gref == frame_at r place + 6) (λ m apart. grind (arith, nat_tests)))
          (entries_elsewhere h new front.Producer entry_same),
      front_sleep_turned h new (front.ProducerFence old) refl (ring_word 3 (omega arith)),
      back,
    ))
  where
    r : Request
    r = h.front_at.0

    next : IsNext g.submitted g.series w.front.requests g.pushed w.front.waiting r
    next = next_here h h.front_at.1

    s : Stepped None IsSame d [] (λ p. AreStations config (pushed_flow g) p true false (is_fetching w.back.stage) None None (reply_at w.back.stage) w.front.requests w.back.jobs.works w.under.pages)
    s = pushes config g d true (is_fetching w.back.stage) None None
        (reply_at w.back.stage) w.front.requests w.back.jobs.works w.under.pages r h.queue.ordered next.at h.indices.fetched_pushed h.stations
        (fetching_pushed g.shape g.start g.fetched g.back_seen g.replied g.pushed g.series w.back.jobs.works w.back.ring.entry w.back.stage h.indices.back_to h.back_at)

    -- its job isn't begun
    none_begun : (i : ℕ) (t : Work) → slice_get w.back.jobs.works i ≡ Some t → t.id ≡ r.number → mapping_at t.stage ≡ None
    none_begun i t e same =
        let work = all_at (IsWork g.submitted g.series g.fetched) w.back.jobs.works i t h.works.each e in
        let queue = h.queue in
        let x = h.indices in
        absurd (among_apart g.submitted g.series g.pushed g.pushed work.r r queue.ordered (record { index = t.number - 1; early = omega (arith, work.reached, work.counted, x.fetched_pushed); at = work.issued }) next.at (omega arith)
        (omega (arith, (h.submitted.each (t.id - 1) work.r work.known).number, work.positive, same)))

    new : List ℕ
    new = with_word w.under.pages 2 0 (next_of w.front.ring.indices.prod)

    ring_word : (n : ℕ) → n ≢ 0 → word_of new 2 n ≡ word_of w.under.pages 2 n
    ring_word n other = other_word w.under.pages 2 0 (next_of w.front.ring.indices.prod) n other

    elsewhere : (f : ℕ) → f ≢ 2 → SameFrame w.under.pages new f
    elsewhere f other = other_frame w.under.pages 2 0 (next_of w.front.ring.indices.prod) f (omega arith) other

    entry_same : (gref : ℕ) → gref < 1024 → SameEntry w.under.pages new gref
    entry_same gref lt = same_entry w.under.pages new gref lt (elsewhere 0 (omega arith)) (elsewhere 1 (omega arith))
