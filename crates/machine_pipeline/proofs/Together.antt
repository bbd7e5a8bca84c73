-- Whatever happens is nothing to the pipeline or one step of it, and all that holds goes on holding.
use Rattle.std.proofs.Common.{◌≡◌, inl, inr, List, [], ◌∷◌, refl, ap}
use Rattle.std.specs.Prelude.{is_some}
use Rattle.blk_base.specs.Options.{Options}
use Rattle.blk_front.specs.declared.stage.FrontStage.{FrontStage}
use Rattle.blk_front.specs.declared.stage.FrontStage.TheVariants as front
use Rattle.blk_front.specs.View.{next_request}
use Rattle.split_model.specs.World.{World, start_of}
use Rattle.split_model.specs.Safe.{IsSafe}
use Rattle.split_model.specs.Happening.{Happening, FrontMoves, BackMoves, JobMoves, FrontEnters, BackAttaches, BackHalts, Submits, Suspends, happens, lines_at, after as world_after}
use Rattle.split_model.proofs.Safe.{safe_start, safe_happens}
use Rattle.machine_pipeline.specs.Plain.{IsPlain}
use Rattle.machine_pipeline.specs.Allowed.{IsServed, AreServed}
use Rattle.machine_pipeline.proofs.Flow.{Flow, start_flow}
use Rattle.machine_pipeline.proofs.Holds.{Holds}
use Rattle.machine_pipeline.proofs.Over.{Over, IsKept, HasGone, goes_on}
use Rattle.machine_pipeline.proofs.Turns.{FrontGoes}
use Rattle.machine_pipeline.proofs.StartingMoves.{ring_word_goes, ring_frame_goes, ring_fence_goes, ring_flags_goes, port_goes}
use Rattle.machine_pipeline.proofs.StartingHolds.{start_holds}
use Rattle.machine_pipeline.proofs.Filling.{data_goes, pages_goes}
use Rattle.machine_pipeline.proofs.Granting.{frame_goes, fence_goes, flags_goes}
use Rattle.machine_pipeline.proofs.Beginning.{loop_issues}
use Rattle.machine_pipeline.proofs.Entering.{slot_goes}
use Rattle.machine_pipeline.proofs.Producing.{producer_goes}
use Rattle.machine_pipeline.proofs.Announcing.{producer_fence_goes, event_goes, send_goes}
use Rattle.machine_pipeline.proofs.Resuming.{loop_resumes, high_goes}
use Rattle.machine_pipeline.proofs.Taken.{last_goes}
use Rattle.machine_pipeline.proofs.Ended.{grant_read_goes, grant_end_goes}
use Rattle.machine_pipeline.proofs.Telling.{told_goes}
use Rattle.machine_pipeline.proofs.Looking.{store_goes, event_fence_goes, look_again_goes}
use Rattle.machine_pipeline.proofs.BackMoves.{back_moves}
use Rattle.machine_pipeline.proofs.JobTurns.{job_kept}
use Rattle.machine_pipeline.proofs.Submissions.{submit_kept}
use Rattle.machine_pipeline.proofs.Outside.{outside_goes}
use Rattle.machine_pipeline.proofs.Connecting.{waits_goes, enters_goes}
use Rattle.machine_pipeline.proofs.Attaching.{attaches_goes}
use Rattle.machine_pipeline.proofs.Leaving.{halts_goes}
use Rattle.machine_pipeline.proofs.OverMoves.{front_ends, back_ends, job_ends}
use Rattle.machine_pipeline.proofs.OverRest.{submit_ends, enters_ends, attaches_late, halts_no_more}
use Rattle.machine_pipeline.proofs.Left.{left_goes}
use Rattle.machine_pipeline.proofs.ResumedHolds.{suspends_goes, suspends_ends}
use Rattle.pipeline_laws.specs.Pipeline.{Pipeline, pipeline_of, after_steps}
use Rattle.machine_pipeline.specs.Step.{CallAt, GoesStepwise}
use Rattle.machine_pipeline.specs.Submissions.{submitted_at}
use Rattle.machine_pipeline.proofs.Lists.{none_or_some}

-- the front's loop, whether a request waits or not
loop_goes : (config : Options) (w : World) (g : Flow) (d : Pipeline) → IsSafe w → w.front.stage ≡ front.Loop → Holds config w g d front.Loop w.back.stage → FrontGoes config w d front.Loop
loop_goes config w g d safe e h = elim (none_or_some (next_request w.front)) [
  | inl none ↦ loop_resumes config w g d safe.front_told e none h
  | inr some ↦ loop_issues config w g d some.0 safe some.1 h
]

front_goes : (config : Options) (w : World) (g : Flow) (d : Pipeline) (s : FrontStage) → IsPlain config → IsSafe w → w.front.stage ≡ s → Holds config w g d s w.back.stage → FrontGoes config w d s
front_goes config w g d (front.RingWord k) plain safe e h = ring_word_goes config w g d k plain safe.front_told h
front_goes config w g d (front.RingFrame page) plain safe e h = ring_frame_goes config w g d page safe.front_told h
front_goes config w g d (front.RingFence page) plain safe e h = ring_fence_goes config w g d page safe.front_told h
front_goes config w g d (front.RingFlags page) plain safe e h = ring_flags_goes config w g d page safe.front_told h
front_goes config w g d front.NewPort plain safe e h = port_goes config w g d safe.front_told h
front_goes config w g d (front.LeftData n) plain safe e h = left_goes config w g d n safe.front_told h
front_goes config w g d front.Initialised plain safe e h = waits_goes config w g d safe.front_told e h
front_goes config w g d front.Loop plain safe e h = loop_goes config w g d safe e h
front_goes config w g d (front.Data n) plain safe e h = data_goes config w g d n safe h
front_goes config w g d (front.Pages n) plain safe e h = pages_goes config w g d n safe h
front_goes config w g d (front.GrantFrame place) plain safe e h = frame_goes config w g d place safe h
front_goes config w g d (front.GrantFence place) plain safe e h = fence_goes config w g d place safe h
front_goes config w g d (front.GrantFlags place) plain safe e h = flags_goes config w g d place safe h
front_goes config w g d (front.Slot k) plain safe e h = slot_goes config w g d k safe h
front_goes config w g d front.Producer plain safe e h = producer_goes config w g d safe h
front_goes config w g d (front.ProducerFence old) plain safe e h = producer_fence_goes config w g d old safe h
front_goes config w g d (front.RequestEvent old) plain safe e h = event_goes config w g d old safe h
front_goes config w g d front.Send plain safe e h = send_goes config w g d safe h
front_goes config w g d (front.ResponseHigh low) plain safe e h = high_goes config w g d low safe.front_told h
front_goes config w g d (front.ResponseLast low high) plain safe e h = last_goes config w g d low high safe.front_told h
front_goes config w g d (front.GrantRead place) plain safe e h = grant_read_goes config w g d place safe.front_told h
front_goes config w g d (front.GrantEnd place before) plain safe e h = grant_end_goes config w g d place before safe.front_told h
front_goes config w g d (front.ReadData n) plain safe e h = told_goes config w g d n safe.front_told h
front_goes config w g d front.StoreEvent plain safe e h = store_goes config w g d safe.front_told h
front_goes config w g d front.EventFence plain safe e h = event_fence_goes config w g d safe.front_told h
front_goes config w g d front.LookAgain plain safe e h = look_again_goes config w g d safe.front_told h
front_goes config w g d s plain safe e h = absurd h.front_at

-- while the ends serve requests whatever happens is nothing to the pipeline, or one step of it
serving_goes : (config : Options) (w : World) (g : Flow) (d : Pipeline) (h : Happening) → IsPlain config → IsSafe w → Holds config w g d w.front.stage w.back.stage → IsServed w h → HasGone (submitted_at h) (CallAt w h) config (lines_at w h) (happens w h) d
serving_goes config w g d FrontMoves plain safe holds may = goes_on config _ _ d (front_goes config w g d w.front.stage plain safe refl holds)
serving_goes config w g d BackMoves plain safe holds may = goes_on config _ _ d (back_moves config w g d plain (may (ap is_some holds.unhalted)) (record { safe = safe; holds = holds }))
serving_goes config w g d (JobMoves number outcome) plain safe holds may = goes_on config _ _ d (job_kept config w g d number outcome holds safe.held may)
serving_goes config w g d (FrontEnters state) plain safe holds may = goes_on config _ _ d (enters_goes config w g d state plain may holds)
serving_goes config w g d (BackAttaches shape grefs port) plain safe holds may = goes_on config _ _ d (attaches_goes config w g d shape grefs port may holds)
serving_goes config w g d (BackHalts why) plain safe holds may = halts_goes config w g d why holds may
serving_goes config w g d (Submits job) plain safe holds may = goes_on config _ _ d (submit_kept config w g d job plain holds may)
serving_goes config w g d Suspends plain safe holds may = suspends_goes config w g d plain holds
serving_goes config w g d h plain safe holds may = outside_goes config w d h tt may safe (inl (g, holds))

-- and so it is once the back has halted
ending_goes : (config : Options) (w : World) (d : Pipeline) (h : Happening) → IsPlain config → IsSafe w → Over config w d w.front.stage w.back.stage → IsServed w h → HasGone (submitted_at h) (CallAt w h) config (lines_at w h) (happens w h) d
ending_goes config w d FrontMoves plain safe over may = front_ends config w d w.front.stage (may over.halted) safe.front_told refl over
ending_goes config w d BackMoves plain safe over may = back_ends config w d w.back.stage safe refl over
ending_goes config w d (JobMoves number outcome) plain safe over may = job_ends config w d number outcome over
ending_goes config w d (FrontEnters state) plain safe over may = enters_ends config w d state may over
ending_goes config w d (BackAttaches shape grefs port) plain safe over may = attaches_late config w d shape grefs port over
ending_goes config w d (BackHalts why) plain safe over may = halts_no_more config w d why over
ending_goes config w d (Submits job) plain safe over may = submit_ends config w d job over
ending_goes config w d Suspends plain safe over may = suspends_ends config w d plain over
ending_goes config w d h plain safe over may = outside_goes config w d h tt may safe (inr over)

-- one happening more: what it is to the pipeline, and that all goes on
pub step_kept : (config : Options) (w : World) (d : Pipeline) (h : Happening) → IsPlain config → IsSafe w → IsKept config w d → IsServed w h → HasGone (submitted_at h) (CallAt w h) config (lines_at w h) (happens w h) d
step_kept config w d h plain safe (inl held) may = serving_goes config w held.0 d h plain safe held.1 may
step_kept config w d h plain safe (inr over) may = ending_goes config w d h plain safe over may

-- the machine as it stands after a history
pub record IsStanding (config : Options) (w : World) : Type 0 where
  pub pipeline : Pipeline
  pub safe : IsSafe w
  pub kept : IsKept config w pipeline

pub run_kept : (config : Options) (hs : List Happening) (w : World) → IsPlain config → IsStanding config w → AreServed hs w → IsStanding config (world_after hs w)
run_kept config [] w plain stands may = stands
run_kept config (h ∷ hs) w plain stands may =
    let one = step_kept config w stands.pipeline h plain stands.safe stands.kept may.0 in
    run_kept config hs (happens w h) plain (record { pipeline = after_steps one.steps stands.pipeline; safe = safe_happens w h stands.safe; kept = one.kept }) may.1

-- so all starts
start_kept : (config : Options) → IsPlain config → IsKept config (start_of config) (pipeline_of config)
start_kept config plain = let start = start_holds config plain in inl (start_flow (record { abi = config.abi; order = config.order }) config.start, start.holds)

pub always_stands : (config : Options) (hs : List Happening) → IsPlain config → AreServed hs (start_of config) → IsStanding config (world_after hs (start_of config))
always_stands config hs plain may = run_kept config hs (start_of config) plain (record { pipeline = pipeline_of config; safe = safe_start config; kept = start_kept config plain }) may

-- each happening in its turn
pub steps_on : (config : Options) (hs : List Happening) (w : World) (d : Pipeline) → IsPlain config → IsSafe w → IsKept config w d → AreServed hs w → GoesStepwise hs w d
steps_on config [] w d plain safe kept may = tt
steps_on config (h ∷ hs) w d plain safe kept may =
    let gone = step_kept config w d h plain safe kept may.0 in
    (gone.steps, gone.does, steps_on config hs (happens w h) (after_steps gone.steps d) plain (safe_happens w h safe) gone.kept may.1)

pub always_steps : (config : Options) (hs : List Happening) → IsPlain config → AreServed hs (start_of config) → GoesStepwise hs (start_of config) (pipeline_of config)
always_steps config hs plain may = steps_on config hs (start_of config) (pipeline_of config) plain (safe_start config) (start_kept config plain) may
