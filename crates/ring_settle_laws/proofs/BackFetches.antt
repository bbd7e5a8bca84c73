-- A fetched request: the price that its station had pays for what its job has left.
use Rattle.std.proofs.Common.{◌≡◌, ℕ, ◌+◌, ◌-◌, ◌^◌, ◌<◌, ◌≤◌, ◌==◌, true, List, [], ◌∷◌, ◌++◌, length, take, refl, ap, sym, subst, ◌∙◌, arith}
use Rattle.std.specs.Prelude.{Some, slice_get, slice_index}
use Rattle.std.proofs.lemmas.Bool.Decides.{nat_tests}
use Rattle.std.proofs.lemmas.List.{take_all}
use Rattle.std.proofs.lemmas.Option.{same_Some, slice_get_within}
use Rattle.blk_base.specs.Options.{Options}
use Rattle.blk_base.specs.declared.config.Submission.{Submission}
use Rattle.blk_base.specs.declared.operation.Abi.{Abi}
use Rattle.ring_words.specs.Shape.{Shape, entry_words_of}
use Rattle.blk_layout.specs.Entry.{request_of}
use Rattle.segment_list.specs.declared.verdict.DiskInfo.{DiskInfo}
use Rattle.segment_list.specs.Verdict.{verdict_of}
use Rattle.hypervisor.specs.Act.{BackAct}
use Rattle.blk_front.specs.declared.request.Request.{Request}
use Rattle.blk_front.specs.Entry.{entry_of}
use Rattle.back_jobs.specs.Work.{Work, begun}
use Rattle.blk_back.specs.declared.stage.BackStage.TheVariants as stage
use Rattle.blk_back.specs.View as back
use Rattle.blk_back.specs.Step.{step_at, next_number}
use Rattle.back_laws.specs.JobLeft as job
use Rattle.pipeline_laws.specs.Station.{PipelineRequest, Fetching}
use Rattle.pipeline_laws.specs.Pipeline.{Pipeline}
use Rattle.split_model.specs.World.{World}
use Rattle.machine_pipeline.proofs.BackBegins.{job_as, entry_job, IsJobOf, is_job}
use Rattle.machine_pipeline.proofs.BackFetch.{IsNext, entry_word, next_pushed, one_more, length_entry}
use Rattle.machine_pipeline.proofs.BackQuiet.{IsBetween, between}
use Rattle.machine_pipeline.proofs.BackStill.{BackStands}
use Rattle.machine_pipeline.proofs.Flow.{Flow, submitted_job, worked}
use Rattle.machine_pipeline.proofs.Holds.{Holds, IsSubmitted}
use Rattle.machine_pipeline.proofs.Lists.{get_last}
use Rattle.machine_pipeline.proofs.Stations.{StandsAt, AreWorking}
use Rattle.machine_pipeline.proofs.Turns.{back_turn_at}
use Rattle.ring_settle_laws.specs.Stations.{requests_left, job_price}
use Rattle.ring_settle_laws.proofs.Stations.{Lowers, station_falls}
use Rattle.ring_settle_laws.proofs.BackSums.{of_act, taken_branch}
use Rattle.ring_settle_laws.proofs.BackPricing.{job_of, job_left, worked_left}

module _ (config : Options) (w : World) (g : Flow) (d : Pipeline) (k : ℕ) (p : BackStands config w g d (stage.Fetch k)) (last : (k + 1 == entry_words_of w.back.shape.abi) ≡ true) where
  abbrev h : Holds config w g d w.front.stage (stage.Fetch k)
  h = p.holds

  -- the request whose entry is copied
  abbrev r : Request
  r = h.back_at.3.0

  abi : w.back.shape.abi ≡ g.shape.abi
  abi = ap (λ (x : Shape). x.abi) (h.paged.shaped refl)

  whole : w.back.ring.entry ++ entry_word w k ∷ [] ≡ entry_of w.back.shape.abi r
  whole =
      let i : IsBetween (stage.Fetch k) w.back = between (stage.Fetch k) w.back refl refl refl in
      let n : IsNext w g = next_pushed config w g d (stage.Fetch k) p i h.back_at.2 in
      let same : n.r ≡ r = same_Some n.r r (sym n.known ∙ h.back_at.3.1) in
      let more : w.back.ring.entry ++ entry_word w k ∷ [] ≡ take (k + 1) (entry_of g.shape.abi r) = one_more g.shape.abi r k (entry_word w k) w.back.ring.entry h.back_at.1 h.back_at.3.2
      (n.words k h.back_at.1 ∙ ap (λ (q : Request). slice_index (entry_of g.shape.abi q) k) same) in
      let at : k + 1 ≡ entry_words_of w.back.shape.abi = grind (arith, nat_tests) in
      let words : entry_words_of w.back.shape.abi ≡ entry_words_of g.shape.abi = ap entry_words_of abi in
      let all : take (k + 1) (entry_of g.shape.abi r) ≡ entry_of g.shape.abi r = take_all (k + 1) (entry_of g.shape.abi r) (let sized = length_entry g.shape.abi r in omega arith) in
      more ∙ (all ∙ ap (λ (x : Abi). entry_of x r) (sym abi))

  asked : slice_get g.submitted (r.number - 1) ≡ Some r
  asked = h.queue.ordered.known g.fetched r h.back_at.3.1

  sub : IsSubmitted config.sectors (r.number - 1) r
  sub = h.submitted.each (r.number - 1) r asked

  abbrev t : Work
  t = job_of w (entry_word w k)

  -- its job is the one of its request
  made : t ≡ job_as r.transfer (next_number w.back) w.back.jobs.info.sectors r
  made =
      let few : r.number - 1 < 2 ^ 32 = (let within = slice_get_within g.submitted (r.number - 1) r asked in omega (arith, h.indices.few, h.submitted.counted)) in
      ap (λ (words : List ℕ). begun (next_number w.back) (request_of w.back.shape.abi words) w.back.jobs.info.sectors (verdict_of (request_of w.back.shape.abi words) w.back.jobs.info)) whole
      ∙ (ap (λ (i : DiskInfo). begun (next_number w.back) (request_of w.back.shape.abi (entry_of w.back.shape.abi r)) w.back.jobs.info.sectors (verdict_of (request_of w.back.shape.abi (entry_of w.back.shape.abi r)) i)) h.info
      ∙ entry_job w.back.shape.abi config (next_number w.back) w.back.jobs.info.sectors (r.number - 1) r p.plain few sub (h.sized.writable (r.number - 1) r asked) (h.sized.served (r.number - 1) r asked) (h.sized.short (r.number - 1) r asked))

  -- the jobs with it
  pub works_then : (a : BackAct) → back_turn_at (stage.Fetch k) w ≡ Some a → (let v : back.View = step_at (stage.Fetch k) w.back a.answer in v.jobs.works) ≡ w.back.jobs.works ++ t ∷ []
  works_then a e = of_act (λ (x : BackAct). (let v : back.View = step_at (stage.Fetch k) w.back x.answer in v.jobs.works) ≡ w.back.jobs.works ++ t ∷ []) _ a e
      (taken_branch (λ (v : back.View). v.jobs.works ≡ w.back.jobs.works ++ t ∷ []) (k + 1 == entry_words_of w.back.shape.abi) _ _ last refl)

  pub fetch_price : (works : List Work) (later : List PipelineRequest) → works ≡ w.back.jobs.works ++ t ∷ [] → AreWorking works later → Lowers d.requests later → job.left_of t + requests_left later ≤ requests_left d.requests
  fetch_price works later e working lower =
      let submission : Submission = submitted_job r.transfer r.sector r.count in
      let was : StandsAt d.requests (r.number - 1) Fetching = h.stations.pushed.copied refl r h.back_at.3.1 in
      let here : slice_get works (length w.back.jobs.works) ≡ Some t = ap (λ (l : List Work). slice_get l (length w.back.jobs.works)) e ∙ get_last w.back.jobs.works t in
      let it : IsJobOf r.transfer (next_number w.back) r t = subst (IsJobOf r.transfer (next_number w.back) r) (sym made) (is_job r.transfer (next_number w.back) w.back.jobs.info.sectors r sub.shaped refl) in
      let now : StandsAt later (r.number - 1) (worked t.stage t.moved) = subst (λ (id : ℕ). StandsAt later (id - 1) (worked t.stage t.moved)) it.id (working (length w.back.jobs.works) t here) in
      let falls = station_falls (r.number - 1) (job_price submission) d.requests later Fetching (worked t.stage t.moved) submission was now (h.stations.known.each (r.number - 1) r was.q asked was.at) lower
      (worked_left submission t.stage t.moved) in
      let begins : job.left_of t ≤ job_price submission = subst (λ (u : Work). job.left_of u ≤ job_price submission) (sym made) (job_left r.transfer (next_number w.back) w.back.jobs.info.sectors r refl sub.shaped) in
      omega (arith, falls, begins)
