-- What something that happens to the machine is to the pipeline: some of its steps, most often none or one.
use Rattle.std.specs.Prelude.{◌≡◌, ℕ, true, List, [], ◌∷◌, ◌++◌, Option, Some}
use Rattle.std.specs.Option.{option_to_list}
use Rattle.std.specs.List.{list_all}
use Rattle.schedule_text.specs.declared.line.Line.{Line}
use Rattle.pipeline_laws.specs.Pipeline.{Pipeline, Step, after_steps, lines_of}
use Rattle.pipeline_laws.specs.Allowed.{AreAllowed, is_aside}
use Rattle.pipeline_laws.specs.Disk.{DiskRuns}
use Rattle.pipeline_laws.specs.Submissions.{submitted_of}
use Rattle.blk_base.specs.declared.config.Submission.{Submission}
use Rattle.blk_base.specs.declared.ask.BackAsk.{BackAsk}
use Rattle.hypervisor.specs.Act.{Outcome}
use Rattle.blk_back.specs.Step.{job_ask_of}
use Rattle.split_model.specs.World.{World}
use Rattle.split_model.specs.Happening.{Happening, JobMoves, happens, lines_at}
use Rattle.machine_pipeline.specs.Sectors.{SectorsDo}
use Rattle.machine_pipeline.specs.Submissions.{submitted_at}

-- the sectors stay
abbrev pub IsSame : (before after : List (List ℕ)) → Type 0
IsSame before after = after ≡ before

-- the call of the disk that an ask with this outcome makes
abbrev pub CallOf : BackAsk → Outcome → (before after : List (List ℕ)) → Type 0
CallOf ask outcome before after = SectorsDo ask outcome (Some before) (Some after)

-- and that something that happens makes
abbrev pub CallAt : World → Happening → (before after : List (List ℕ)) → Type 0
CallAt w (JobMoves number outcome) = CallOf (job_ask_of w.back number) outcome
CallAt w h = IsSame

-- what is shown is the lines of these steps, after lines that tell nothing of a request (a move of the machine); they submit what was submitted (`asked`); the pipeline allows them, and their calls of the disk are the one that was made (`call`)
pub record Does (asked : Option Submission) (call : (before after : List (List ℕ)) → Type 0) (shown : List Line) (d : Pipeline) (steps : List Step) : Type 0 where
  pub asides : List Line
  pub aside : list_all is_aside asides ≡ true
  pub shows : shown ≡ asides ++ lines_of steps d
  pub asks : submitted_of steps ≡ option_to_list asked
  pub allowed : AreAllowed steps d
  pub disk : (before after : List (List ℕ)) → call before after → DiskRuns steps before after

-- each happening of a history is some steps of the pipeline as it then stands
abbrev pub GoesStepwise : List Happening → World → Pipeline → Type 0
GoesStepwise [] w d = Unit {0}
GoesStepwise (h ∷ hs) w d = (steps : List Step) × Does (submitted_at h) (CallAt w h) (lines_at w h) d steps × GoesStepwise hs (happens w h) (after_steps steps d)
