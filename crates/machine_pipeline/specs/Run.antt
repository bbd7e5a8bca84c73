-- A history of the machine as a run of the pipeline.
use Rattle.std.specs.Prelude.{◌≡◌, ℕ, List, Option}
use Rattle.blk_base.specs.Options.{Options}
use Rattle.split_model.specs.World.{start_of}
use Rattle.split_model.specs.Happening.{Happening, lines_of as shown_by}
use Rattle.pipeline_laws.specs.Pipeline.{Step, pipeline_of, lines_of}
use Rattle.pipeline_laws.specs.Allowed.{AreAllowed}
use Rattle.pipeline_laws.specs.Disk.{AreConsistent}
use Rattle.pipeline_laws.specs.Submissions.{submitted_of as steps_submit}
use Rattle.machine_pipeline.specs.Submissions.{submitted_of}

-- steps that the pipeline allows from its start, which show what the history shows and submit what it submits; the calls of the disk are consistent with some content, and with what the disk tells before and after
pub record IsPipelineRun (config : Options) (history : List Happening) (before now : Option (List (List ℕ))) : Type 0 where
  pub steps : List Step
  pub allowed : AreAllowed steps (pipeline_of config)
  pub shows : lines_of steps (pipeline_of config) ≡ shown_by history (start_of config)
  pub submits : steps_submit steps ≡ submitted_of history
  pub disk : AreConsistent config.sectors steps before now
