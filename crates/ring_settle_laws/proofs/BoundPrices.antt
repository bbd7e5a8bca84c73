-- The prices of the pipeline's requests and what its jobs have left are within what the front's unfinished requests tell.
use Rattle.std.proofs.Common.{◌≡◌, ℕ, ◌+◌, ◌-◌, ◌*◌, ◌≤◌, inl, inr, true, length, refl, ap, sym, ◌∙◌, arith}
use Rattle.std.specs.Prelude.{Option, Some, None, slice_get, sum_by}
use Rattle.std.proofs.lemmas.Option.{same_Some}
use Rattle.std.proofs.lemmas.Bool.{cases_Bool, true≢false}
use Rattle.blk_base.specs.Options.{Options}
use Rattle.blk_base.specs.declared.config.Submission.{Submission}
use Rattle.blk_base.specs.declared.operation.Status.{Status}
use Rattle.blk_front.specs.declared.request.Request.{Request}
use Rattle.blk_front.specs.declared.request.Transfer.{Transfer}
use Rattle.blk_front.specs.declared.request.Transfer.TheVariants as transfer
use Rattle.blk_front.specs.declared.stage.Ending.{Ending}
use Rattle.blk_front.specs.Request.{frames_for}
use Rattle.back_jobs.specs.Work.{Work}
use Rattle.back_laws.specs.JobLeft.{left_of, all_left, begun_left}
use Rattle.pipeline_laws.specs.Pipeline.{Pipeline}
use Rattle.pipeline_laws.specs.Station.{Station, Waiting, Issuing, Pushed, Fetching, Working, Failed, Ended, Replying, Finished, PipelineRequest, is_finished}
use Rattle.split_model.specs.World.{World}
use Rattle.machine_pipeline.proofs.Flow.{Flow, submitted_job, telling_at}
use Rattle.machine_pipeline.proofs.Series.{numbered}
use Rattle.machine_pipeline.proofs.Stations.{finishing}
use Rattle.machine_pipeline.proofs.Frames.{work_queued}
use Rattle.machine_pipeline.proofs.Lists.{all_at}
use Rattle.machine_pipeline.proofs.Holds.{Holds}
use Rattle.machine_pipeline.proofs.HoldsWorks.{IsWork}
use Rattle.ring_settle_laws.specs.Stations.{station_left, request_left, requests_left, job_price, reply_price, push_price}
use Rattle.ring_settle_laws.proofs.JobBounds.{job_bounded}
use Rattle.ring_settle_laws.proofs.BoundSums.{at_number, at_one, at_places, by_keys, of_sectors}

-- the job of a request, and a request that isn't issued
abbrev job_cost : Request → ℕ
job_cost r = begun_left (frames_for r.count)

abbrev way_cost : Request → ℕ
way_cost r = push_price + (reply_price + job_cost r)

-- a finished request costs nothing, nor does one whose response was taken
pub finished_free : (submission : Submission) (s : Station) → is_finished s ≡ true → station_left submission s ≡ 0
finished_free submission (Finished status) e = refl
finished_free submission s e = absurd (true≢false (sym e))

taken_free : (submission : Submission) (telling : Option ℕ) (status : Status) → station_left submission (finishing telling status) ≡ 0
taken_free submission None status = refl
taken_free submission (Some n) status = refl

-- any other costs no more than one that waits
station_few : (submission : Submission) (s : Station) → station_left submission s ≤ push_price + (reply_price + job_price submission)
station_few submission Waiting = omega arith
station_few submission s = omega arith

job_few : (way : Transfer) (sector count : ℕ) → job_price (submitted_job way sector count) ≤ begun_left (frames_for count)
job_few transfer.Read sector count = omega arith
job_few other sector count = omega arith

-- each of the pipeline's requests costs nothing, or is one of the front's
request_few : (config : Options) (w : World) (g : Flow) (d : Pipeline) → Holds config w g d w.front.stage w.back.stage → (k : ℕ) (q : PipelineRequest) → slice_get d.requests k ≡ Some q → request_left q ≤ at_number way_cost (k + 1) w.front.requests
request_few config w g d h k q here = elim (cases_Bool (is_finished q.station)) [
  | inl done ↦ omega (arith, finished_free q.submission q.station done)
  | inr going ↦ elim (h.stations.opened.held k q here going) [
    | inl any ↦
        let found = numbered w.front.requests (k + 1) any in
        let r : Request = found.1 in
        let number : r.number - 1 ≡ k = omega (arith, found.3) in
        let known : slice_get g.submitted k ≡ Some r = ap (slice_get g.submitted) (sym number) ∙ all_at (λ (x : Request). slice_get g.submitted (x.number - 1) ≡ Some x) w.front.requests found.0 r h.queue.known found.2 in
        let asked : q.submission ≡ submitted_job r.transfer r.sector r.count = h.stations.known.each k r q known here in
        omega (arith, station_few q.submission q.station, ap job_price asked, job_few r.transfer r.sector r.count, at_one way_cost (k + 1) found.0 w.front.requests r found.2 found.3)
    | inr ending ↦
        let e : Ending = ending.0 in
        let stands = h.stations.taking e ending.1 in
        let place : e.request.number - 1 ≡ k = omega (arith, ending.2) in
        let one : q ≡ stands.q = same_Some q stands.q (sym here ∙ (ap (slice_get d.requests) (sym place) ∙ stands.at)) in
        let there : q.station ≡ finishing (telling_at w.front.stage) e.status = ap (λ (x : PipelineRequest). x.station) one ∙ stands.there in
        omega (arith, ap (station_left q.submission) there, taken_free q.submission (telling_at w.front.stage) e.status)
  ]
]

-- each job is that of one of the front's requests
work_few : (config : Options) (w : World) (g : Flow) (d : Pipeline) → Holds config w g d w.front.stage w.back.stage → (k : ℕ) (t : Work) → slice_get w.back.jobs.works k ≡ Some t → left_of t ≤ at_number job_cost t.id w.front.requests
work_few config w g d h k t here =
    let work = all_at (IsWork g.submitted g.series g.fetched) w.back.jobs.works k t h.works.each here in
    let sub = h.submitted.each (t.id - 1) work.r work.known in
    let its = work_queued config w g d w.front.stage w.back.stage h k t here work in
    let number : (let r : Request = work.r in r.number) ≡ t.id = omega (arith, sub.number, work.positive) in
    omega (arith, job_bounded work.r t.stage t sub.shaped work.at, at_one job_cost t.id its.place w.front.requests work.r its.at number)

pub prices_few : (config : Options) (w : World) (g : Flow) (d : Pipeline) → Holds config w g d w.front.stage w.back.stage
    → requests_left d.requests ≤ 73 * length w.front.requests + 1036 * sum_by (λ (r : Request). r.count) w.front.requests
prices_few config w g d h =
    omega (arith, at_places request_left way_cost w.front.requests d.requests (request_few config w g d h), of_sectors way_cost 73 1036 w.front.requests (λ i r e. omega arith))

pub jobs_few : (config : Options) (w : World) (g : Flow) (d : Pipeline) → Holds config w g d w.front.stage w.back.stage
    → all_left w.back.jobs.works ≤ 924 * length w.front.requests + 130 * sum_by (λ (r : Request). r.count) w.front.requests
jobs_few config w g d h =
    omega (arith, by_keys left_of (λ (t : Work). t.id) job_cost w.front.requests w.back.jobs.works (work_few config w g d h) h.works.ascending, of_sectors job_cost 924 130 w.front.requests (λ i r e. omega arith))
