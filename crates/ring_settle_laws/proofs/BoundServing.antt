-- While the ends serve requests, what is left to the machine of the ring is within what the front's unfinished requests tell.
use Rattle.std.proofs.Common.{◌≡◌, ℕ, ◌+◌, ◌-◌, ◌*◌, ◌^◌, ◌≤◌, ◌==◌, if◌then◌else◌, Bool, true, false, cond, List, length, ap, arith}
use Rattle.std.specs.Prelude.{Option, Some, slice_get, sum_by}
use Rattle.std.proofs.lemmas.List.FromFn.{length-range_with_len}
use Rattle.blk_base.specs.Distance.{distance_of}
use Rattle.blk_base.specs.Options.{Options}
use Rattle.event_channel.specs.Channels.{ChannelState}
use Rattle.ring_words.specs.Shape.{Shape}
use Rattle.blk_front.specs.declared.request.Request.{Request}
use Rattle.blk_front.specs.Request.{IsShaped}
use Rattle.blk_front.specs.declared.stage.Ending.{Ending}
use Rattle.blk_front.specs.declared.stage.FrontStage.{FrontStage}
use Rattle.blk_front.specs.declared.stage.FrontStage.TheVariants as front_stage
use Rattle.blk_front.specs.Submit.{ending_of, ending_sectors, unfinished, sectors_owed}
use Rattle.blk_front.specs.View as front
use Rattle.blk_back.specs.declared.stage.Reply.{Reply}
use Rattle.blk_back.specs.declared.stage.BackStage.{BackStage}
use Rattle.blk_back.specs.declared.stage.BackStage.TheVariants as back_stage
use Rattle.blk_back.specs.View as back
use Rattle.front_laws.specs.Left as front_left
use Rattle.back_laws.specs.JobLeft.{all_left}
use Rattle.pipeline_laws.specs.Pipeline.{Pipeline}
use Rattle.split_model.specs.World.{World}
use Rattle.machine_pipeline.proofs.Flow.{Flow, has_terms}
use Rattle.machine_pipeline.proofs.Holds.{Holds, FrontAt, AreSubmitted, PagesAt}
use Rattle.machine_pipeline.proofs.Lists.{all_at}
use Rattle.machine_pipeline.proofs.Slots.{few_pages}
use Rattle.machine_pipeline.proofs.Wrapped.{distance_at}
use Rattle.ring_settle_laws.specs.Stations.{requests_left}
use Rattle.ring_settle_laws.specs.Left.{front_part, back_part, front_saw, back_saw, unseen_left, marks_left, ring_left}
use Rattle.ring_settle_laws.proofs.BoundSums.{of_sectors}
use Rattle.ring_settle_laws.proofs.BoundPrices.{prices_few, jobs_few}
use Rattle.ring_settle_laws.proofs.BoundFront as fronts
use Rattle.ring_settle_laws.proofs.BoundBack as backs

pub marks_few : (c : ChannelState) → marks_left c ≤ 10
marks_few c = both c.front_pending c.back_pending
  where
    both : (a b : Bool) → cond a 5 0 + cond b 5 0 ≤ 10
    both true true = omega arith
    both true false = omega arith
    both false true = omega arith
    both false false = omega arith

-- what an end saw is what it read last, or what it took
pub front_saw_few : (s : FrontStage) (v : front.View) (to n : ℕ) → distance_of v.ring.seen to ≤ n → distance_of v.ring.indices.cons to ≤ n → distance_of (front_saw s v) to ≤ n
front_saw_few front_stage.StoreEvent v to n seen took = took
front_saw_few front_stage.EventFence v to n seen took = took
front_saw_few front_stage.LookAgain v to n seen took = took
front_saw_few s v to n seen took = seen

pub back_saw_few : (s : BackStage) (v : back.View) (to n : ℕ) → distance_of v.ring.seen to ≤ n → distance_of v.ring.indices.cons to ≤ n → distance_of (back_saw s v) to ≤ n
back_saw_few back_stage.StoreEvent v to n seen took = took
back_saw_few back_stage.EventFence v to n seen took = took
back_saw_few back_stage.LookAgain v to n seen took = took
back_saw_few s v to n seen took = seen

-- the request that ends is one that was submitted
ending_few : (shape : Shape) (start pushed taken front_seen sectors last : ℕ) (submitted : List Request) (replies : List Reply) (next : Option Request) (entry : List ℕ) (ending : Option Ending) (s : FrontStage)
    → AreSubmitted submitted sectors last → FrontAt shape start pushed taken front_seen submitted replies next entry ending s → ending_of s ≡ 1
    → front_left.of_ending ending front_left.end_left ≤ 132 * (if ending_of s == 0 then 0 else ending_sectors ending)
ending_few shape start pushed taken front_seen sectors last submitted replies next entry ending (front_stage.GrantRead place) sub at e = let x : Ending = at.0 in rw at.1 (fronts.end_few x.request (sub.each (x.request.number - 1) x.request at.2.known).shaped)
ending_few shape start pushed taken front_seen sectors last submitted replies next entry ending (front_stage.GrantEnd place before) sub at e = let x : Ending = at.0 in rw at.1 (fronts.end_few x.request (sub.each (x.request.number - 1) x.request at.2.known).shaped)
ending_few shape start pushed taken front_seen sectors last submitted replies next entry ending (front_stage.ReadData n) sub at e = let x : Ending = at.0 in rw at.1 (fronts.end_few x.request (sub.each (x.request.number - 1) x.request at.2.known).shaped)
ending_few shape start pushed taken front_seen sectors last submitted replies next entry ending (front_stage.LeftData n) sub at e = let x : Ending = at.0 in rw at.1 (fronts.end_few x.request (sub.each (x.request.number - 1) x.request at.2.known).shaped)
ending_few shape start pushed taken front_seen sectors last submitted replies next entry ending s sub at e = absurd (omega (arith, e))

-- no more pages are mapped than the ring has
pages_at : (b : BackStage) (order count : ℕ) → order ≤ 4 → PagesAt b order count → count ≤ 24
pages_at back_stage.InitWait order count narrow at = omega (arith, at)
pages_at back_stage.MapRing order count narrow at = omega (arith, few_pages order narrow, at)
pages_at b order count narrow at = omega (arith, few_pages order narrow, at)

-- all of it together
total : (n c front back jobs unseen marks requests e last : ℕ) → front ≤ 74 + 67 * n + 404 * c + 132 * last → back ≤ 46 + 42 * n → jobs ≤ 924 * n + 130 * c → unseen ≤ 46 * n → marks ≤ 10 → requests ≤ 73 * n + 1036 * c
    → front + back + jobs + unseen + marks + requests ≤ 200 + 1300 * (n + e) + 1600 * (c + last)
total n c front back jobs unseen marks requests e last f b j u m r = omega arith

shaped_at : (config : Options) (w : World) (g : Flow) (d : Pipeline) → Holds config w g d w.front.stage w.back.stage → (i : ℕ) (r : Request) → slice_get w.front.requests i ≡ Some r → IsShaped r
shaped_at config w g d h i r e = (h.submitted.each (r.number - 1) r (all_at (λ (x : Request). slice_get g.submitted (x.number - 1) ≡ Some x) w.front.requests i r h.queue.known e)).shaped

front_few : (config : Options) (w : World) (g : Flow) (d : Pipeline) → Holds config w g d w.front.stage w.back.stage
    → front_part w.front ≤ 74 + 67 * length w.front.requests + 404 * sum_by (λ (r : Request). r.count) w.front.requests + 132 * (if ending_of w.front.stage == 0 then 0 else ending_sectors w.front.ending)
front_few config w g d h =
    let v : front.View = w.front in
    let i = h.indices in
    let seen : distance_of v.ring.indices.cons v.ring.seen ≤ length v.requests = omega (arith, distance_at g.start g.taken g.front_seen v.ring.indices.cons v.ring.seen i.taken i.front_saw i.front_from (omega (arith, i)), i) in
    let ends = of_sectors front_left.end_left 0 132 v.requests (λ k r e. omega (arith, fronts.end_few r (shaped_at config w g d h k r e))) in
    let issues = of_sectors front_left.issue_left 32 136 v.requests (λ k r e. omega (arith, fronts.issue_few r (shaped_at config w g d h k r e))) in
    let last : ℕ = 132 * (if ending_of v.stage == 0 then 0 else ending_sectors v.ending) in
    let narrow : v.shape.order ≤ 4 = omega (arith, ap (λ (x : Shape). x.order) h.shaped.known, h.shaped.narrow) in
    let left = fronts.left_few v.stage v (4 + front_left.owed v + sum_by front_left.issue_left v.requests) last (omega arith) (ending_few g.shape g.start g.pushed g.taken g.front_seen config.sectors w.front.last g.submitted g.replies (front.next_request v) v.ring.entry v.ending v.stage h.submitted h.front_at) narrow in
    omega (arith, left, seen, ends, issues, fronts.sends_few v.stage)

back_few : (config : Options) (w : World) (g : Flow) (d : Pipeline) → Holds config w g d w.front.stage w.back.stage → back_part w.back ≤ 46 + 42 * length w.front.requests
back_few config w g d h =
    let v : back.View = w.back in
    let i = h.indices in
    let seen : distance_of v.ring.indices.cons v.ring.seen ≤ g.pushed - g.fetched = omega (arith, distance_at g.start g.fetched g.back_seen v.ring.indices.cons v.ring.seen i.fetched i.back_saw i.back_from (omega (arith, i)), i) in
    let jobs : length v.jobs.works ≤ g.fetched - g.replied = omega (arith, h.counted) in
    let terms : v.stage ≡ back_stage.MapRing → length v.grefs ≤ 16 = λ e. omega (arith, ap (λ (l : List ℕ). length l) (h.paged.grefs_are (ap has_terms e)), length-range_with_len 8 (2 ^ g.shape.order), few_pages g.shape.order h.shaped.narrow) in
    let left = backs.left_few v.stage v terms (pages_at v.stage g.shape.order (length v.pages) h.shaped.narrow h.paged.mapped) in
    omega (arith, left, seen, jobs, i, backs.sends_few v.stage)

unseen_few : (config : Options) (w : World) (g : Flow) (d : Pipeline) → Holds config w g d w.front.stage w.back.stage → unseen_left w ≤ 46 * length w.front.requests
unseen_few config w g d h =
    let f : front.View = w.front in
    let v : back.View = w.back in
    let i = h.indices in
    let n : ℕ = length f.requests in
    let front_seen : distance_of f.ring.seen v.ring.indices.prod ≤ n = omega (arith, distance_at g.start g.front_seen g.replied f.ring.seen v.ring.indices.prod i.front_saw i.replied i.front_to (omega (arith, i)), i) in
    let front_took : distance_of f.ring.indices.cons v.ring.indices.prod ≤ n = omega (arith, distance_at g.start g.taken g.replied f.ring.indices.cons v.ring.indices.prod i.taken i.replied i.taken_replied (omega (arith, i)), i) in
    let back_seen : distance_of v.ring.seen f.ring.indices.prod ≤ n = omega (arith, distance_at g.start g.back_seen g.pushed v.ring.seen f.ring.indices.prod i.back_saw i.pushed i.back_to (omega (arith, i)), i) in
    let back_took : distance_of v.ring.indices.cons f.ring.indices.prod ≤ n = omega (arith, distance_at g.start g.fetched g.pushed v.ring.indices.cons f.ring.indices.prod i.fetched i.pushed i.fetched_pushed (omega (arith, i)), i) in
    omega (arith, front_saw_few f.stage f v.ring.indices.prod n front_seen front_took, back_saw_few v.stage v f.ring.indices.prod n back_seen back_took)

pub serving_bounded : (config : Options) (w : World) (g : Flow) (d : Pipeline) → Holds config w g d w.front.stage w.back.stage → ring_left w d ≤ 200 + 1300 * unfinished w.front + 1600 * sectors_owed w.front
serving_bounded config w g d h =
    let v : front.View = w.front in
    total (length v.requests) (sum_by (λ (r : Request). r.count) v.requests) (front_part w.front) (back_part w.back) (let b : back.View = w.back in all_left b.jobs.works) (unseen_left w) (marks_left w.under.channels) (requests_left d.requests)
    (ending_of v.stage) (if ending_of v.stage == 0 then 0 else ending_sectors v.ending)
    (front_few config w g d h) (back_few config w g d h) (jobs_few config w g d h) (unseen_few config w g d h) (marks_few w.under.channels) (prices_few config w g d h)
