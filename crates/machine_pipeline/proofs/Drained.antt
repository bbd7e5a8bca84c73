-- With no request left at the front, each that was pushed was fetched and replied to, and each response taken.
use Rattle.std.proofs.Common.{◌≡◌, ℕ, not, true, List, [], length, refl, arith}
use Rattle.std.specs.Prelude.{Some, count_by, slice_get}
use Rattle.ring_words.specs.Ring.{Ring}
use Rattle.blk_base.specs.Options.{Options}
use Rattle.pipeline_laws.specs.Station.{PipelineRequest, is_finished}
use Rattle.pipeline_laws.specs.Pipeline.{Pipeline}
use Rattle.pipeline_laws.specs.Allowed.{AreFinished}
use Rattle.blk_front.specs.declared.stage.FrontStage.{FrontStage}
use Rattle.blk_back.specs.declared.stage.BackStage.{BackStage}
use Rattle.split_model.specs.World.{World}
use Rattle.machine_pipeline.proofs.Flow.{Flow, has_ring, ending_at, count_of}
use Rattle.machine_pipeline.proofs.Holds.{AreIndices, Holds}
use Rattle.machine_pipeline.proofs.Over.{IsDrained}
use Rattle.machine_pipeline.proofs.Lists.{count_one}
use Rattle.std.proofs.lemmas.Bool.{true_from_ne_false}
use Rattle.std.proofs.lemmas.List.{nil_from_length}

pub record AreAllTaken (g : Flow) : Type 0 where
  pub fetched : g.fetched ≡ g.pushed
  pub replied : g.replied ≡ g.pushed
  pub taken : g.taken ≡ g.pushed

pub all_taken : {g : Flow} {front_ring back_ring : Ring} {front_seen back_seen number last waiting unfinished ending : ℕ} → AreIndices g front_ring back_ring front_seen back_seen number last waiting unfinished ending → unfinished ≡ 0 → AreAllTaken g
all_taken i none = omega (arith, i)

pub drained_at : (config : Options) (w : World) (g : Flow) (d : Pipeline) (s : FrontStage) (b : BackStage) → Holds config w g d s b → has_ring s ≡ true → length w.front.requests ≡ 0 → IsDrained w.under.pages w.front.ring.indices.cons w.back.ring.indices.cons
drained_at config w g d s b h ringed none =
    let rest = all_taken h.indices none in
    let requests = h.ring.requests ringed in
    let responses = h.ring.responses ringed in
    record { served = cc (rest.replied); fetched = cc (rest.fetched, h.indices.fetched); read = cc (rest.taken, rest.replied, h.indices.taken) }

-- so no job is left
pub no_job_left : (config : Options) (w : World) (g : Flow) (d : Pipeline) (s : FrontStage) (b : BackStage) → Holds config w g d s b → length w.front.requests ≡ 0 → w.back.jobs.works ≡ []
no_job_left config w g d s b h none =
    let rest = all_taken h.indices none in
    nil_from_length w.back.jobs.works (omega (arith, h.counted, rest.replied, rest.fetched))

-- no request that isn't finished is left
all_finished : (asked : List PipelineRequest) → count_by (λ (q : PipelineRequest). not (is_finished q.station)) asked ≡ 0 → (k : ℕ) (x : PipelineRequest) → slice_get asked k ≡ Some x → is_finished x.station ≡ true
all_finished asked none k x at = true_from_ne_false (is_finished x.station) (λ left. omega (arith, none, count_one (λ (q : PipelineRequest). not (is_finished q.station)) asked k x at (rw left refl)))

-- and the pipeline has finished all
pub finished_at : (config : Options) (w : World) (g : Flow) (d : Pipeline) (s : FrontStage) (b : BackStage) → Holds config w g d s b → length w.front.requests ≡ 0 → count_of (ending_at s w.front.ending) ≡ 0 → AreFinished d
finished_at config w g d s b h none no_ending = record { each = all_finished d.requests (omega (arith, h.stations.opened.unfinished)) }
