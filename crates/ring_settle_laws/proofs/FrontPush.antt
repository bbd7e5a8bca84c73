-- A push: the request stands further on, and its price falls by what an event and a request that isn't seen cost.
use Rattle.std.proofs.Common.{◌≡◌, ℕ, ◌+◌, ◌-◌, ◌≤◌, inl, inr, false, List, length, take, get_or, refl, ap, sym, ◌∙◌, subst, true≢false, length-take, arith}
use Rattle.std.specs.Prelude.{Some, is_some, slice_get}
use Rattle.std.proofs.lemmas.Bool.{cases_Bool}
use Rattle.std.proofs.lemmas.List.{get_or-take}
use Rattle.std.proofs.lemmas.Option.{slice_get_within, get_or_from_slice_get}
use Rattle.blk_base.specs.Options.{Options}
use Rattle.blk_base.specs.declared.config.Submission.{Submission}
use Rattle.pipeline_laws.specs.Pipeline.{Pipeline}
use Rattle.pipeline_laws.specs.Station.{Station, Waiting, Issuing, PipelineRequest}
use Rattle.pipeline_laws.specs.Allowed.{is_unissued}
use Rattle.hypervisor.specs.Act.{FrontAct}
use Rattle.blk_front.specs.declared.request.Request.{Request}
use Rattle.blk_front.specs.declared.stage.FrontStage.TheVariants as stage
use Rattle.split_model.specs.World.{World}
use Rattle.machine_pipeline.proofs.Flow.{Flow}
use Rattle.machine_pipeline.proofs.Series.{IsAmong, among_apart}
use Rattle.machine_pipeline.proofs.Holds.{AreQueued, Holds}
use Rattle.machine_pipeline.proofs.Issuing.{next_here}
use Rattle.machine_pipeline.proofs.Lists.{get_within}
use Rattle.machine_pipeline.proofs.Next.{waiting_few, IsNext}
use Rattle.machine_pipeline.proofs.Over.{IsKept}
use Rattle.machine_pipeline.proofs.Stations.{StandsAt, AreIssued}
use Rattle.machine_pipeline.proofs.Turns.{front_next}
use Rattle.ring_settle_laws.specs.Stations.{job_price, reply_price, station_left, requests_left}
use Rattle.ring_settle_laws.proofs.Stations.{Lowers, station_falls}

-- what was pushed is no more at a station of what isn't
pushed_price : (job : Submission) (s : Station) → is_unissued s ≡ false → station_left job s ≤ reply_price + job_price job
pushed_price job Waiting later = absurd (true≢false later)
pushed_price job Issuing later = absurd (true≢false later)
pushed_price job s later = omega arith

-- the request that was the first to wait is among the issued ones, where one less waits
first_issued : (submitted series requests : List Request) (pushed waiting place : ℕ) (r : Request) → place + waiting ≡ length requests → 1 ≤ waiting → slice_get requests place ≡ Some r → AreQueued submitted series pushed requests (waiting - 1)
    → IsAmong series pushed r
first_issued submitted series requests pushed waiting place r sum some at queue =
    let n : ℕ = length requests - (waiting - 1) in
    let among : IsAmong series pushed (get_or (take n requests) place r) = queue.issued place r (omega (arith, length-take n requests)) in
    subst (IsAmong series pushed) (get_or-take n requests place r (omega arith) ∙ get_or_from_slice_get requests place r r at) among

-- so it isn't unissued
issued_late : (submitted series requests : List Request) (pushed waiting place : ℕ) (asked : List PipelineRequest) (r : Request) (q : PipelineRequest) → place + waiting ≡ length requests → 1 ≤ waiting → slice_get requests place ≡ Some r
    → AreQueued submitted series pushed requests (waiting - 1) → AreIssued series pushed asked → 1 ≤ r.number → slice_get asked (r.number - 1) ≡ Some q → is_unissued q.station ≡ false
issued_late submitted series requests pushed waiting place asked r q sum some at queue issued positive here = elim (cases_Bool (is_unissued q.station)) [
  | inl t ↦
      let left = issued (r.number - 1) q here t in
      absurd (among_apart submitted series pushed left.index r left.r queue.ordered (first_issued submitted series requests pushed waiting place r sum some at queue) left.at left.late (omega (arith, left.number, positive)))
  | inr t ↦ t
]

-- it stands later than it was being issued
stands_later : (n place : ℕ) (xs ys : List PipelineRequest) (job : Submission) (x : StandsAt xs place Issuing) (y : PipelineRequest) → slice_get ys place ≡ Some y → is_unissued y.station ≡ false → (let q : PipelineRequest = x.q in q.submission) ≡ job → Lowers xs ys
    → n ≡ 44 → requests_left ys + n ≤ requests_left xs
stands_later n place xs ys job x y at later asks lowers is =
    let price = pushed_price job y.station later in
    station_falls place n xs ys Issuing y.station job x (record { q = y; at = at; there = refl }) asks lowers (omega (arith, is, price))

pub push_price_falls : (config : Options) (w : World) (g : Flow) (d p : Pipeline) (a : FrontAct) → Holds config w g d stage.Producer w.back.stage → IsKept config (front_next stage.Producer w (Some a)) p → Lowers d.requests p.requests
    → requests_left p.requests + 44 ≤ requests_left d.requests
push_price_falls config w g d p a h (inr over) lowers = let unhalted = h.unhalted in absurd (true≢false (sym over.halted ∙ ap is_some unhalted))
push_price_falls config w g d p a h (inl after) lowers =
    let at = h.front_at in
    let r : Request = at.0 in
    let is : IsNext g.submitted g.series w.front.requests g.pushed w.front.waiting r = next_here h at.1 in
    let x : StandsAt d.requests (r.number - 1) Issuing = (let stations = h.stations in let waiting = stations.waiting in waiting.issued refl r is.at) in
    let k : Flow = after.0 in
    let then = after.1 in
    let queue = then.queue in
    let stations = then.stations in
    let few : w.front.waiting ≤ length w.front.requests = waiting_few h.indices in
    let place : ℕ = length w.front.requests - w.front.waiting in
    let positive : 1 ≤ r.number = (let order = h.queue in let ordered = order.ordered in ordered.positive g.pushed r is.at) in
    let y = get_within p.requests (r.number - 1) (omega (arith, lowers.as_many, slice_get_within d.requests (r.number - 1) x.q x.at)) in
    let later = issued_late k.submitted k.series w.front.requests k.pushed w.front.waiting place p.requests r y.0 (omega (arith, few)) is.waits is.place queue stations.issued positive y.1 in
    stands_later 44 (r.number - 1) d.requests p.requests (let q : PipelineRequest = x.q in q.submission) x y.0 y.1 later refl lowers refl
