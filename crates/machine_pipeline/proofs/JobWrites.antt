-- A job writes a word that the disk gave into a frame of its request: nothing else in memory changes.
use Rattle.std.proofs.Common.{◌≡◌, ◌≢◌, ℕ, ◌+◌, ◌-◌, ◌*◌, ◌/◌, ◌%◌, ◌<◌, ◌==◌, if◌then◌else◌, inl, inr, Bool, true, false, List, [], ◌∷◌, length, refl, ap, sym, ◌∙◌, subst, arith, length-set, length-append}
use Rattle.std.specs.Prelude.{All, Some, slice_get, slice_set, slice_index}
use Rattle.std.proofs.lemmas.Option.{same_Some}
use Rattle.std.proofs.lemmas.Bool.{false≢true, cases_eq}
use Rattle.std.proofs.lemmas.Bool.Decides.{nat_tests}
use Rattle.blk_base.specs.Options.{Options}
use Rattle.blk_base.specs.declared.parts.Mapping.{Mapping}
use Rattle.blk_base.specs.declared.ask.BackAnswer.TheVariants as answer
use Rattle.xen_pages.specs.Pages.{with_word}
use Rattle.grant_table.specs.Table.{frame_of}
use Rattle.pipeline_laws.specs.Station.{PipelineRequest, is_finished, Finished, Working, Station}
use Rattle.pipeline_laws.specs.Pipeline.{Pipeline}
use Rattle.hypervisor.specs.Act.{Outcome}
use Rattle.blk_front.specs.declared.request.Request.{Request}
use Rattle.blk_front.specs.declared.stage.Ending.{Ending}
use Rattle.blk_front.specs.Request.{is_write, words_in, frame_at}
use Rattle.back_jobs.specs.declared.stage.JobStage.{JobStage}
use Rattle.back_jobs.specs.declared.stage.JobStage.TheVariants as job
use Rattle.back_jobs.specs.Work.{Work, ask_at, step_at, word_at, sector_stage, next_sector}
use Rattle.split_model.specs.World.{World}
use Rattle.machine_pipeline.proofs.Flow.{Flow, frames_of, data_word, span, is_own, worked, ending_at}
use Rattle.machine_pipeline.proofs.Segments.{word_place}
use Rattle.machine_pipeline.proofs.Data.{SameData, pooled_at, place_in, place_among, own_before, data_written, data_other, data_apart, own_among}
use Rattle.machine_pipeline.proofs.Growing.{push_was}
use Rattle.machine_pipeline.proofs.ReadBack.{IsReadBack, IsReturned, ReadAt, AreReadBack, has_data_at, returned_on}
use Rattle.machine_pipeline.proofs.ReadsKept.{read_at_kept, back_kept, back_on}
use Rattle.machine_pipeline.proofs.Stations.{worked_open}
use Rattle.machine_pipeline.proofs.Holds.{Holds, IsEnding, ArePooled, IsFilled, AreDataWords, AreEntries, AreMapped}
use Rattle.machine_pipeline.proofs.HoldsWorks.{IsWork, AtWork, last_in}
use Rattle.machine_pipeline.proofs.Turns.{nothing, goes_by}
use Rattle.machine_pipeline.proofs.Lists.{all_at, all_from, place_of_any, set_was}
use Rattle.machine_pipeline.proofs.Hands.{frames_apart, own_apart, ending_apart}
use Rattle.machine_pipeline.proofs.Frames.{is_submitted, ending_is, told_few}
use Rattle.machine_pipeline.proofs.Mapped.{frame_live}
use Rattle.machine_pipeline.proofs.Kept.{SameFrame, SameGrants, other_frame, same_entry, data_kept, entries_kept}
use Rattle.machine_pipeline.proofs.BackStill.{ending_submitted, revoking_ends, grants_same}
use Rattle.machine_pipeline.proofs.Jobs.{StationsWith, job_makes, with_job, hands_then}
use Rattle.machine_pipeline.proofs.StationsBack.{other_id, job_stays}
use Rattle.machine_pipeline.proofs.JobMoves.{JobGoesAt, work_of, live_hand, hands_step, sectors_left, next_sector_is, worked_further, at_further, IsDoing, read_now}
use Rattle.machine_pipeline.specs.Step.{CallOf}

-- the frames of another unfinished request are others
frame_apart : (config : Options) (w : World) (g : Flow) (d : Pipeline) (r x : Request) (k place : ℕ) (q : PipelineRequest)
    → Holds config w g d w.front.stage w.back.stage
    → slice_get w.front.requests place ≡ Some r
    → slice_get g.submitted k ≡ Some x
    → slice_get d.requests k ≡ Some q
    → is_finished q.station ≡ false
    → r.number ≢ k + 1
    → (a b : ℕ) → a < frames_of x → b < frames_of r → frame_at x a ≢ frame_at r b
frame_apart config w g d r x k place q h here known at going other = elim (h.stations.opened.held k q at going) [
  | inl any ↦
      let found = place_of_any (λ (y : Request). y.number == k + 1) w.front.requests any in
      let number : found.1.number ≡ k + 1 = grind (arith, nat_tests, found.3) in
      let its = all_at (λ (z : Request). slice_get g.submitted (z.number - 1) ≡ Some z) w.front.requests found.0 found.1 h.queue.known found.2 in
      let at : slice_get w.front.requests found.0 ≡ Some x = found.2 ∙ (sym its ∙ (ap (slice_get g.submitted) (omega (arith, number)) ∙ known)) in
      let sub = h.submitted.each k x known in
      λ a b in_x in_r. frames_apart _ _ _ found.0 place x r h.pool
      (λ same. other (ap (λ (z : Request). z.number) (same_Some r x (sym here ∙ (ap (slice_get w.front.requests) (sym same) ∙ at))) ∙ sub.number))
      at here a b in_x in_r (pooled_at x sub.frames a)
  | inr last ↦
      let e : Ending = last.0 in
      let its : IsEnding g.submitted g.replies e = ending_is g.shape _ _ _ _ _ _ _ _ w.front.ending w.front.stage e h.front_at last.1 in
      let one : e.request ≡ x = same_Some e.request x (sym its.known ∙ (ap (slice_get g.submitted) (omega (arith, last.2)) ∙ known)) in
      let is = is_submitted config w g d w.front.stage w.back.stage h place r here in
      subst (λ (z : Request). (a b : ℕ) → a < frames_of z → b < frames_of r → frame_at z a ≢ frame_at r b) one
      (λ a b in_z in_r. let apart = ending_apart w.front.pool w.front.requests e place r
      (subst (ArePooled w.front.pool w.front.requests) last.1 h.pool) here b a in_r in_z (pooled_at r is.frames b) in λ same. apart (sym same))
]

-- a request with data isn't finished
open_with_data : (s : Station) → has_data_at s ≡ true → is_finished s ≡ false
open_with_data (Finished status) t = absurd (false≢true t)
open_with_data s t = refl

module _ {config : Options} {w : World} {g : Flow} {d : Pipeline} {p : ℕ} {t : Work} {r : Request} {m : Mapping} {j : ℕ} (x : IsDoing config w g d p t r (job.WriteWord m j)) where
  -- the word's place among those of the request's data, and memory with it
  abbrev here_now : ℕ
  here_now = 128 * (t.moved - 1) + j

  abbrev new : List ℕ
  new = with_word w.under.pages (frame_at r (here_now / 1024)) (here_now % 1024) (slice_index t.words j)

  -- the last sector of its segment
  abbrev last : Bool
  last = t.within == last_in r x.at.0.place

  -- the job after it, where it was the last word of its sector (`wrote`)
  abbrev stage_after : (wrote last : Bool) → JobStage
  stage_after wrote last = if wrote then (if last then job.Unmap m else sector_stage (is_write r.transfer) m) else job.WriteWord m (j + 1)

  abbrev after : Bool → Work
  after wrote = record t { within = if wrote then (if last then t.within else t.within + 1) else t.within; stage = stage_after wrote last }

  now_in : here_now < words_in r
  now_in = omega (arith, (sectors_left t r 0 x.own.shaped x.at.0).0, x.at.2, x.at.0.moved)

  place_now : here_now / 1024 < frames_of r
  place_now = place_in r here_now x.own.shaped now_in

  -- another word of the request's data is as it was
  other_data : (i : ℕ) → i < span r → i ≢ here_now → data_word new r i ≡ data_word w.under.pages r i
  other_data i lt other =
      data_other w.under.pages r here_now (slice_index t.words j) i other
      (λ places. own_apart w.front.pool w.front.requests (ending_at w.front.stage w.front.ending) x.own.place r x.holds.pool x.own.at (i / 1024) (here_now / 1024) places
      (place_among r i x.own.shaped lt) place_now (pooled_at r x.own.frames (i / 1024)))

  -- so are the sectors that were moved before
  back_written : (moved : ℕ) (noted : List (List ℕ)) → moved + 1 ≡ t.moved → IsReadBack w.under.pages r moved noted → IsReadBack new r moved noted
  back_written moved noted one_more b = back_on (λ n lt. let few = b.few in other_data n (omega arith) (omega arith)) b

  -- so is a request that isn't finished, but for that of the job
  apart : (k : ℕ) (y : Request) (q : PipelineRequest) → slice_get g.submitted k ≡ Some y → slice_get d.requests k ≡ Some q → is_finished q.station ≡ false → k ≢ t.id - 1 → SameData w.under.pages new y
  apart k y q its was going other =
      data_apart w.under.pages (frame_at r (here_now / 1024)) (here_now % 1024) (slice_index t.words j) y (omega arith) (x.holds.submitted.each k y its).shaped
      (λ a lt. frame_apart config w g d r y k x.own.place q x.holds x.own.at its was going (omega (arith, x.own.number, x.is.positive)) a (here_now / 1024) lt place_now)

  -- what the job has at its next stage
  then_read : (wrote last : Bool) → (j == 127) ≡ wrote → (q : PipelineRequest) → slice_get d.requests (t.id - 1) ≡ Some q → is_write r.transfer ≡ false
      → ReadAt new r t.moved t.words q.words (stage_after wrote last)
  then_read wrote last tested q was reads = by_test wrote last tested
    where
      old : IsReturned w.under.pages r t.moved t.words q.words j
      old = read_now x q was reads

      earlier : IsReadBack new r (length old.earlier) old.earlier
      earlier = back_written (length old.earlier) old.earlier old.counted old.back

      word : (k : ℕ) → k < j + 1 → k < 128 → data_word new r (128 * length old.earlier + k) ≡ slice_index t.words k
      word k lt few = elim (cases_eq k j) [
        | inl same ↦
            let at : 128 * length old.earlier + k ≡ here_now = omega (arith, old.counted) in
            ap (data_word new r) at ∙ (data_written w.under.pages r here_now (slice_index t.words j) x.holds.memory (pooled_at r x.own.frames (here_now / 1024)) ∙ ap (slice_index t.words) (sym same))
        | inr other ↦ other_data (128 * length old.earlier + k) (omega (arith, old.counted, old.few)) (omega (arith, old.counted)) ∙ old.so_far k (omega arith) few
      ]

      whole : j ≡ 127 → IsReadBack new r t.moved q.words
      whole top = record {
        counted = ap length old.with_hand ∙ (length-append old.earlier (t.words ∷ []) ∙ old.counted);
        few = old.few;
        sectors = λ i words at. elim (push_was old.earlier t.words i words (ap (λ (ws : List (List ℕ)). slice_get ws i) (sym old.with_hand) ∙ at)) [
          | inl before ↦ earlier.sectors i words before
          | inr here ↦ rw (here.0, here.1) (record { size = old.size; held = λ k lt. word k (omega arith) lt })
        ];
      }

      by_test : (b c : Bool) → (j == 127) ≡ b → ReadAt new r t.moved t.words q.words (stage_after b c)
      by_test true true over = whole (grind (arith, nat_tests))
      by_test true false over = rw reads (whole (grind (arith, nat_tests)))
      by_test false c over = returned_on new (j + 1) old earlier word

  -- the frames of all reads, with that word
  returned : AreReadBack g.submitted d.requests (slice_set w.back.jobs.works p (after (j == 127))) new
  returned = record {
    working = λ i u y q here its was reads. elim (set_was w.back.jobs.works p i t (after (j == 127)) u x.is.place here) [
      | inl it ↦
          let same : u.id ≡ t.id = ap (λ (v : Work). v.id) it.1 in
          let one : r ≡ y = same_Some r y (sym x.is.known ∙ (ap (λ (n : ℕ). slice_get g.submitted (n - 1)) (sym same) ∙ its)) in
          let now = then_read (j == 127) last refl q (ap (λ (n : ℕ). slice_get d.requests (n - 1)) (sym same) ∙ was) x.at.3 in
          rw it.1 (subst (λ (z : Request). ReadAt new z t.moved t.words q.words (stage_after (j == 127) last)) one now)
      | inr other ↦
          let number = other_id w.back.jobs.works p i t u x.holds.works.ascending other.0 x.is.place other.1 in
          let work = all_at (IsWork g.submitted g.series g.fetched) w.back.jobs.works i u x.holds.works.each other.1 in
          let at = x.holds.stations.works i u other.1 in
          let one : at.q ≡ q = same_Some at.q q (sym at.at ∙ was) in
          let unfinished : is_finished q.station ≡ false = ap (λ (z : PipelineRequest). is_finished z.station) (sym one) ∙ (ap is_finished at.there ∙ worked_open u.stage u.moved) in
          read_at_kept w.under.pages new y u.moved u.words q.words u.stage (apart (u.id - 1) y q its was unfinished (omega (arith, work.positive, x.is.positive)))
          (x.holds.stations.reads.working i u y q other.1 its was reads)
    ];
    after = λ k y q its was reads there. elim (cases_eq k (t.id - 1)) [
      | inl same ↦
          let at = x.holds.stations.works p t x.is.place in
          let one : at.q ≡ q = same_Some at.q q (sym at.at ∙ (ap (slice_get d.requests) (sym same) ∙ was)) in
          absurd (false≢true (sym (ap (λ (s : JobStage). has_data_at (worked s t.moved)) x.stage) ∙ (sym (ap has_data_at at.there) ∙ (ap (λ (z : PipelineRequest). has_data_at z.station) one ∙ there))))
      | inr other ↦ back_kept (apart k y q its was (open_with_data q.station there) other) (x.holds.stations.reads.after k y q its was reads there)
    ];
  }

  -- so the stations
  stations_returned : StationsWith config w g d (slice_set w.back.jobs.works p (after (j == 127))) new
  stations_returned = job_stays p t (after (j == 127)) x.is.place refl (same_station (j == 127) ∙ sym (ap (λ (s : JobStage). worked s t.moved) x.stage)) returned x.holds.stations
    where
      same_station : (b : Bool) → worked (stage_after b last) t.moved ≡ Working t.moved
      same_station true = worked_further last (is_write r.transfer) m t.moved
      same_station false = refl

  -- no word of a write changes: of a read the front's own words are those of its indirect pages
  frames_returned : All (IsFilled g.series g.pushed new w.front.stage) w.front.requests
  frames_returned = all_from (IsFilled g.series g.pushed new w.front.stage) w.front.requests (λ i y at.
      let was = all_at (IsFilled g.series g.pushed w.under.pages w.front.stage) w.front.requests i y x.holds.frames at in
      record { whole = λ le n lt own. kept i y at n lt own ∙ was.whole le n lt own; begun = λ number n f lt own. kept i y at n lt own ∙ was.begun number n f lt own })
    where
      kept : (i : ℕ) (y : Request) → slice_get w.front.requests i ≡ Some y → (n : ℕ) → n < span y → is_own y n ≡ true → data_word new y n ≡ data_word w.under.pages y n
      kept i y at n lt own = elim (cases_eq i x.own.place) [
        | inl same ↦
            let one : y ≡ r = same_Some y r (sym at ∙ (ap (slice_get w.front.requests) same ∙ x.own.at)) in
            let its : is_own r n ≡ true = ap (λ (z : Request). is_own z n) (sym one) ∙ own in
            rw one (other_data n (own_among r n x.own.shaped its) (λ e. let in_data = now_in in false≢true (sym x.at.3 ∙ (own_before r n its (omega arith)).0)))
        | inr other ↦
            let is = is_submitted config w g d w.front.stage w.back.stage x.holds i y at in
            data_apart w.under.pages (frame_at r (here_now / 1024)) (here_now % 1024) (slice_index t.words j) y (omega arith) is.shaped
            (λ a lt. frames_apart w.front.pool w.front.requests (ending_at w.front.stage w.front.ending) i x.own.place y r x.holds.pool other at x.own.at a (here_now / 1024) lt place_now
            (pooled_at y is.frames a)) n lt
      ]

  -- nor one of the data that are told
  data_returned : AreDataWords new w.front.words w.front.ending w.front.stage
  data_returned =
      data_kept w.under.pages new w.front.words w.front.ending w.front.stage
      (λ e same.
      let is = ending_submitted config w g d w.front.stage w.back.stage e x.holds same in
      data_apart w.under.pages (frame_at r (here_now / 1024)) (here_now % 1024) (slice_index t.words j) e.request (omega arith) is.shaped
      (λ a lt.
      let far = ending_apart w.front.pool w.front.requests e x.own.place r (subst (ArePooled w.front.pool w.front.requests) same x.holds.pool) x.own.at (here_now / 1024) a place_now lt
      (pooled_at r x.own.frames (here_now / 1024)) in
      λ s. far (sym s)))
      (told_few g.shape _ _ _ _ _ _ _ _ w.front.ending w.front.stage x.holds.front_at) x.holds.telling

  -- another frame is as it was
  frame_returned : (f : ℕ) → f < 18 → SameFrame w.under.pages new f
  frame_returned f low =
      other_frame w.under.pages (frame_at r (here_now / 1024)) (here_now % 1024) (slice_index t.words j) f (omega arith) (omega (arith, (pooled_at r x.own.frames (here_now / 1024)).0))

  -- the entries are as they were
  entries_returned : AreEntries g.series g.pushed new w.under.grants.live w.front.stage w.front.ending w.front.requests
  entries_returned =
      let zeroth = frame_returned 0 (omega arith) in
      let first = frame_returned 1 (omega arith) in
      entries_kept g.pushed w.under.pages new w.under.grants.live w.front.stage w.front.ending w.front.requests
      (all_from (SameGrants w.under.pages new) w.front.requests (λ i y at. grants_same w.under.pages new y (is_submitted config w g d w.front.stage w.back.stage x.holds i y at).frames zeroth first))
      (λ e same. grants_same w.under.pages new e.request (ending_submitted config w g d w.front.stage w.back.stage e x.holds (revoking_ends w.front.stage w.front.ending e same)).frames zeroth first)
      x.holds.entries

  -- a word of data is written
  pub write_goes : (number : ℕ) (o : Outcome) → JobGoesAt config w d number p t (job.WriteWord m j) o
  write_goes number o = goes_by (nothing (CallOf (ask_at (job.WriteWord m j) t) o) _ d (λ a b same. same_Some b a same.1))
      (subst (λ (pages : List ℕ). Holds config (with_job w p (step_at (job.WriteWord m j) t answer.Done) (record w.under { pages = pages })) g d w.front.stage w.back.stage) (sym written_so)
      (subst (λ (u : Work). Holds config (with_job w p u (record w.under { pages = new })) g d w.front.stage w.back.stage) (sym stepped)
      (job_makes x.holds x.is.free refl (work_of x.is refl refl refl (at_next (j == 127) refl)) new w.under.grants stations_returned
      (length-set w.under.pages (frame_at r (here_now / 1024) * 1024 + here_now % 1024) (slice_index t.words j) ∙ x.holds.memory) (λ f low high. frame_returned f high)
      (λ page lt. same_entry w.under.pages new (8 + page) (omega arith) (frame_returned 0 (omega arith)) (frame_returned 1 (omega arith))) frames_returned data_returned entries_returned
      (subst (λ (u : Work). AreMapped w.under.grants.live (hands_then w p u)) stepped
      (subst (AreMapped w.under.grants.live) (sym (hands_step w p t (job.WriteWord m j) answer.Done x.is.place x.stage tt)) x.holds.mapped)))))
    where
      written_so : with_word w.under.pages (frame_of w.under.grants m) (word_at t j) (slice_index t.words j) ≡ new
      written_so =
          let its = word_place x.at.0.place t.within (t.moved - 1) j (sectors_left t r 0 x.own.shaped x.at.0).1 (omega (arith, x.at.0.moved)) x.at.2 in
          let frame = frame_live w.under.grants m (frame_at r x.at.0.place) (live_hand w p t m x.is.place (rw x.stage refl) x.held) x.holds.mapped.framed x.at.1.gref in
          ap (λ (f : ℕ). with_word w.under.pages f (word_at t j) (slice_index t.words j)) (frame ∙ ap (frame_at r) (sym its.0))
          ∙ ap (λ (k : ℕ). with_word w.under.pages (frame_at r (here_now / 1024)) k (slice_index t.words j)) (sym its.1)

      next_is : (b : Bool) → (if b then next_sector t m else record t { stage = job.WriteWord m (j + 1) }) ≡ after b
      next_is true = next_sector_is t r m x.own.shaped x.at.0
      next_is false = refl

      stepped : step_at (job.WriteWord m j) t answer.Done ≡ after (j == 127)
      stepped = next_is (j == 127)

      at_next : (b : Bool) → (j == 127) ≡ b → AtWork r (after b) (stage_after b last)
      at_next true over = at_further t r m last x.at.0 x.at.1 refl
      at_next false over = (x.at.0, x.at.1, (let apart : j ≢ 127 = grind (arith, nat_tests) in omega (arith, x.at.2)), x.at.3)
