-- Something that happens to the machine of the ring, with the pipeline that it stands for then, and what is left after it.
use Rattle.std.proofs.Common.{ℕ}
use Rattle.blk_base.specs.Options.{Options}
use Rattle.blk_base.specs.declared.ask.FrontAnswer.{FrontAnswer}
use Rattle.blk_base.specs.declared.ask.FrontAnswer.TheVariants as front_answer
use Rattle.blk_base.specs.declared.ask.BackAnswer.{BackAnswer}
use Rattle.blk_base.specs.declared.ask.BackAnswer.TheVariants as back_answer
use Rattle.blk_front.specs.declared.state.FrontState.{FrontState}
use Rattle.blk_front.specs.declared.state.FrontState.TheVariants as front_state
use Rattle.pipeline_laws.specs.Pipeline.{Pipeline, after_steps}
use Rattle.split_model.specs.World.{World}
use Rattle.split_model.specs.Happening.{Happening, happens, lines_at}
use Rattle.machine_pipeline.specs.Step.{CallAt}
use Rattle.machine_pipeline.specs.Submissions.{submitted_at}
use Rattle.machine_pipeline.proofs.Over.{HasGone}
use Rattle.ring_settle_laws.specs.Left.{ring_left}

abbrev pub Gone : Options → World → Pipeline → Happening → Type 0
Gone config w d h = HasGone (submitted_at h) (CallAt w h) config (lines_at w h) (happens w h) d

-- what is left then
abbrev pub left_after : (config : Options) (w : World) (d : Pipeline) (h : Happening) → Gone config w d h → ℕ
left_after config w d h gone = ring_left (happens w h) (after_steps gone.steps d)

-- a watch that is taken may wake an end for one move more, which the negotiation pays
abbrev pub front_watch : FrontAnswer → ℕ
front_watch (front_answer.Watched path) = 1
front_watch a = 0

abbrev pub back_watch : BackAnswer → ℕ
back_watch (back_answer.Watched path) = 1
back_watch a = 0

-- a front that leaves ends the grants of its ring's 16 pages at most
abbrev pub entering : FrontState → ℕ
entering front_state.Leaving = 33
entering state = 0
