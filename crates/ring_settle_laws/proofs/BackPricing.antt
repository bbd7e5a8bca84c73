-- The back copies the last word of an entry, which makes a job, and pushes a response: the price of the request pays for both.
use Rattle.std.proofs.Common.{◌≡◌, ℕ, ◌+◌, ◌*◌, ◌≤◌, ◌==◌, Bool, true, false, if◌then◌else◌, [], ◌∷◌, ◌++◌, length, refl, ap, sym, subst, arith}
use Rattle.std.specs.Prelude.{Some}
use Rattle.std.proofs.lemmas.List.FromFn.{length-map-range_with_len}
use Rattle.std.proofs.lemmas.List.Sums.{sum_by_push}
use Rattle.blk_base.specs.Distance.{distance_of}
use Rattle.blk_base.specs.declared.ask.BackAnswer.TheVariants as answer
use Rattle.ring_words.specs.Ring.{next_of}
use Rattle.ring_words.specs.Shape.{entry_words_of}
use Rattle.blk_layout.specs.declared.request.RawRequest.{RawRequest}
use Rattle.blk_layout.specs.Entry.{request_of}
use Rattle.segment_list.specs.Verdict.{verdict_of}
use Rattle.hypervisor.specs.Act.{BackAct}
use Rattle.blk_front.specs.declared.request.Request.{Request}
use Rattle.blk_front.specs.declared.request.Transfer.{Transfer}
use Rattle.blk_front.specs.declared.request.Transfer.TheVariants as transfer
use Rattle.blk_front.specs.Request.{is_write, is_moving, is_indirect, frames_for, segment_at, page_reference, page_references, IsShaped}
use Rattle.blk_front.specs.Entry.{entry_request}
use Rattle.back_jobs.specs.declared.stage.JobStage.{JobStage}
use Rattle.back_jobs.specs.declared.stage.JobStage.TheVariants as job_stage
use Rattle.back_jobs.specs.Work.{Work, begun}
use Rattle.blk_back.specs.declared.stage.Reply.{Reply}
use Rattle.blk_back.specs.declared.stage.BackStage.TheVariants as stage
use Rattle.blk_back.specs.Step.{fetched, step_at, next_number}
use Rattle.back_laws.specs.JobLeft as job
use Rattle.back_laws.specs.JobLeft.{all_left, begun_left}
use Rattle.back_laws.proofs.JobLeft.{begun_moving, begun_paging}
use Rattle.blk_base.specs.declared.config.Submission.{Submission}
use Rattle.pipeline_laws.specs.Station.{Fetching}
use Rattle.split_model.specs.World.{World}
use Rattle.machine_pipeline.proofs.BackFetch.{entry_word}
use Rattle.machine_pipeline.proofs.BackBegins.{moving_as, job_as}
use Rattle.machine_pipeline.proofs.Flow.{own_segments, submitted_job, worked}
use Rattle.machine_pipeline.proofs.Segments.{own_sound}
use Rattle.machine_pipeline.proofs.Turns.{back_turn_at}
use Rattle.ring_settle_laws.specs.Left.{front_saw, marks_left}
use Rattle.ring_settle_laws.specs.Stations.{station_left, job_price, reply_price}
use Rattle.ring_settle_laws.proofs.BackSums.{unseen_of, PaysTo, Pays, pays_by, same, of_act}

-- a job at its beginning has no more left than its request is priced for it
moving_left : (b : Bool) (way : Transfer) (number size : ℕ) (r : Request) → is_indirect r.count ≡ b → 1 ≤ r.count → IsShaped r → job.left_of (moving_as b way number size r) ≤ begun_left (frames_for r.count)
moving_left true way number size r e some shaped =
    let eight : length (page_references r) ≡ 8 = length-map-range_with_len (page_reference r) 0 8 in
    omega (arith, begun_paging number (entry_request r) size (is_write way) r.sector (frames_for r.count) (page_references r), eight)
moving_left false way number size r e some shaped =
    let many : length (own_segments r) ≡ frames_for r.count = length-map-range_with_len (segment_at r) 0 (frames_for r.count) in
    let least : 1 ≤ frames_for r.count = omega arith in
    omega (arith, many, begun_moving number (entry_request r) size (is_write way) r.sector (own_segments r) (omega (arith, many, least)) (own_sound r shaped))

pub job_left : (way : Transfer) (number size : ℕ) (r : Request) → r.transfer ≡ way → IsShaped r → job.left_of (job_as way number size r) ≤ job_price (submitted_job way r.sector r.count)
job_left transfer.Read number size r is shaped = moving_left (is_indirect r.count) transfer.Read number size r refl (shaped.counted.some (ap is_moving is)) shaped
job_left (transfer.Write tag) number size r is shaped = moving_left (is_indirect r.count) (transfer.Write tag) number size r refl (shaped.counted.some (ap is_moving is)) shaped
job_left (transfer.Barrier tag) number size r is shaped = moving_left (is_indirect r.count) (transfer.Barrier tag) number size r refl (shaped.counted.some (ap is_moving is)) shaped
job_left other number size r is shaped = omega arith

-- which the request's station doesn't have any more
pub worked_left : (submission : Submission) (s : JobStage) (moved : ℕ) → station_left submission (worked s moved) + job_price submission ≤ station_left submission Fetching
worked_left submission (job_stage.Abort m) moved = omega arith
worked_left submission s moved = omega arith

-- an index that goes on is a step further at most
further : (a b : ℕ) → distance_of a (next_of b) ≤ distance_of a b + 1
further a b = omega arith

fetches : (j t u m r r' : ℕ) → t + r' ≤ r → 0 + (j + t) + u + m + r' + 0 ≤ 0 + j + u + m + r + 0
fetches j t u m r r' requests = omega arith

produces : (j p p' y m r r' : ℕ) → p' ≤ p + 1 → r' + 12 ≤ r → 5 + j + (7 * p' + 39 * y) + m + r' + 0 ≤ 0 + j + (7 * p + 39 * y) + m + r + 0
produces j p p' y m r r' far requests = omega arith

-- the job of the entry whose last word this is
abbrev pub job_of : World → ℕ → Work
job_of w word =
    let request : RawRequest = request_of w.back.shape.abi (w.back.ring.entry ++ word ∷ []) in
    begun (next_number w.back) request w.back.jobs.info.sectors (verdict_of request w.back.jobs.info)

module _ (w : World) (before after : ℕ) (a : BackAct) where
  pub fetch_pays : (k : ℕ) → after ≤ before → ((k + 1 == entry_words_of w.back.shape.abi) ≡ true → job.left_of (job_of w (entry_word w k)) + after ≤ before) → back_turn_at (stage.Fetch k) w ≡ Some a
      → Pays w (stage.Fetch k) (step_at (stage.Fetch k) w.back) before after a
  fetch_pays k less begins e = of_act (Pays w (stage.Fetch k) (step_at (stage.Fetch k) w.back) before after) _ a e (by_test (entry_word w k) (k + 1 == entry_words_of w.back.shape.abi) begins)
    where
      by_test : (word : ℕ) (last : Bool) → (last ≡ true → job.left_of (job_of w word) + after ≤ before)
          → PaysTo w (stage.Fetch k) (if last then fetched w.back (w.back.ring.entry ++ word ∷ []) else record w.back { ring = record w.back.ring { entry = w.back.ring.entry ++ word ∷ [] }; stage = stage.Fetch (k + 1) }) (answer.Word word) w.under.channels before after
      by_test word true begins =
          let t : Work = job_of w word in
          let u : ℕ = unseen_of w.front stage.Loop w.back in
          subst (λ (n : ℕ). 0 + n + u + marks_left w.under.channels + after + 0 ≤ 0 + all_left w.back.jobs.works + u + marks_left w.under.channels + before + 0) (sym (sum_by_push job.left_of w.back.jobs.works t))
          (fetches (all_left w.back.jobs.works) (job.left_of t) u (marks_left w.under.channels) before after (begins refl))
      by_test word false begins =
          pays_by w (stage.Fetch k) (record w.back { ring = record w.back.ring { entry = w.back.ring.entry ++ word ∷ [] }; stage = stage.Fetch (k + 1) }) (answer.Word word) w.under.channels before after (omega arith) (same _) (same _) less

  -- a response is pushed
  pub producer_pays : (r : Reply) → after + reply_price ≤ before → back_turn_at (stage.Producer r) w ≡ Some a → Pays w (stage.Producer r) (step_at (stage.Producer r) w.back) before after a
  producer_pays r less e = of_act (Pays w (stage.Producer r) (step_at (stage.Producer r) w.back) before after) _ a e
      (produces (all_left w.back.jobs.works) (distance_of (front_saw w.front.stage w.front) w.back.ring.indices.prod) (distance_of (front_saw w.front.stage w.front) (next_of w.back.ring.indices.prod)) (distance_of w.back.ring.seen w.front.ring.indices.prod) (marks_left w.under.channels) before after
      (further (front_saw w.front.stage w.front) w.back.ring.indices.prod) less)
