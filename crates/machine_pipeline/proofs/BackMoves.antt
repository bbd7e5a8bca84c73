-- Whatever the back does next, what holds goes on holding, as a step of the pipeline or none.
use Rattle.std.proofs.Common.{◌≡◌, true, refl}
use Rattle.blk_base.specs.Options.{Options}
use Rattle.pipeline_laws.specs.Pipeline.{Pipeline}
use Rattle.blk_back.specs.declared.stage.BackStage.{BackStage}
use Rattle.blk_back.specs.declared.stage.BackStage.TheVariants as stage
use Rattle.blk_front.specs.Submit.{is_connected}
use Rattle.split_model.specs.World.{World}
use Rattle.split_model.specs.Happening.{BackMoves, happens, lines_at}
use Rattle.machine_pipeline.specs.Plain.{IsPlain}
use Rattle.machine_pipeline.proofs.Flow.{Flow}
use Rattle.machine_pipeline.proofs.Holds.{Stands}
use Rattle.machine_pipeline.proofs.Turns.{BackGoes, Goes}
use Rattle.machine_pipeline.proofs.BackStill.{BackStands}
use Rattle.machine_pipeline.proofs.BackMaps.{goes_init_wait, goes_map_ring, goes_bind}
use Rattle.machine_pipeline.proofs.BackLoop.{goes_loop}
use Rattle.machine_pipeline.proofs.BackFetched.{goes_fetch}
use Rattle.machine_pipeline.proofs.BackReplies.{goes_reply_high, goes_reply_last}
use Rattle.machine_pipeline.proofs.BackReplied.{goes_producer}
use Rattle.machine_pipeline.proofs.BackFences.{goes_producer_fence, goes_response_event, goes_event_fence}
use Rattle.machine_pipeline.proofs.BackWrites.{goes_send, goes_store_event}
use Rattle.machine_pipeline.proofs.BackLooks.{goes_look_again}

pub back_goes : (config : Options) (w : World) (g : Flow) (d : Pipeline) (b : BackStage) → BackStands config w g d b → BackGoes config w d b
back_goes config w g d stage.InitWait p = goes_init_wait config w g d p
back_goes config w g d stage.MapRing p = goes_map_ring config w g d p
back_goes config w g d stage.Bind p = goes_bind config w g d p
back_goes config w g d stage.Loop p = goes_loop config w g d p
back_goes config w g d (stage.Fetch k) p = goes_fetch config w g d k p
back_goes config w g d (stage.ReplyHigh rep) p = goes_reply_high config w g d rep p
back_goes config w g d (stage.ReplyLast rep) p = goes_reply_last config w g d rep p
back_goes config w g d (stage.Producer rep) p = goes_producer config w g d rep p
back_goes config w g d (stage.ProducerFence old) p = goes_producer_fence config w g d old p
back_goes config w g d (stage.ResponseEvent old) p = goes_response_event config w g d old p
back_goes config w g d stage.Send p = goes_send config w g d p
back_goes config w g d stage.StoreEvent p = goes_store_event config w g d p
back_goes config w g d stage.EventFence p = goes_event_fence config w g d p
back_goes config w g d stage.LookAgain p = goes_look_again config w g d p
back_goes config w g d b p = absurd p.holds.back_at

-- the back moves
pub back_moves : (config : Options) (w : World) (g : Flow) (d : Pipeline) → IsPlain config → is_connected w.front.stage ≡ true → Stands config w g d → Goes config (lines_at w BackMoves) (happens w BackMoves) d
back_moves config w g d plain connected s = back_goes config w g d w.back.stage (record { plain = plain; at = refl; untold = s.safe.back_told; held = s.safe.held; connected = connected; holds = s.holds })
