-- The machine after something that happens, with the pipeline that its ring then stands for, and less or no more left to do.
use Rattle.std.proofs.Common.{ℕ, ◌+◌, ◌≤◌}
use Rattle.blk_base.specs.Options.{Options}
use Rattle.pipeline_laws.specs.Pipeline.{Pipeline}
use Rattle.machine_pipeline.proofs.Over.{IsKept}
use Rattle.vbd_model.specs.World.{World}
use Rattle.settle_laws.specs.Total.{total_left}

pub record Falls (config : Options) (before : ℕ) (w : World) : Type 0 where
  pub pipeline : Pipeline
  pub kept : IsKept config w.rings pipeline
  pub less : total_left w pipeline + 1 ≤ before

pub record Stays (config : Options) (before : ℕ) (w : World) : Type 0 where
  pub pipeline : Pipeline
  pub kept : IsKept config w.rings pipeline
  pub no_more : total_left w pipeline ≤ before
