-- A run of the pipeline, and its report as a run of the plain disk, over what the disk held before it and holds after it.
use Rattle.std.specs.Prelude.{◌≡◌, ℕ, true, List, [], length, map, slice_get, Option, Some, None, IsSomeAnd}
use Rattle.blk_base.specs.Options.{Options}
use Rattle.schedule_text.specs.declared.line.Detail.{Detail}
use Rattle.schedule_text.specs.declared.line.Line.{Line}
use Rattle.plain_disk.specs.Sector.{sector_at, may_hold}
use Rattle.plain_disk.specs.Disk.{Disk, disk_of}
use Rattle.plain_disk.specs.Step.{after}
use Rattle.pipeline_laws.specs.Station.{asked}
use Rattle.pipeline_laws.specs.Pipeline.{Pipeline, Step, pipeline_of, after_steps, report_of}
use Rattle.pipeline_laws.specs.Allowed.{AreAllowed}
use Rattle.pipeline_laws.specs.Disk.{AreConsistent}

-- steps that the pipeline allows from its start, over a disk whose calls are consistent with what it tells before and after them, and else with some content
pub record PipelineRun : Type 0 where
  pub options : Options
  pub detail : Detail
  pub steps : List Step
  pub allowed : AreAllowed steps (pipeline_of options)
  pub before : Option (List (List ℕ))
  pub now : Option (List (List ℕ))
  pub disk : AreConsistent options.sectors steps before now

abbrev pub run_report : PipelineRun → List Line
run_report r = report_of r.options r.detail r.steps

-- the pipeline after it
abbrev pub pipeline_after : PipelineRun → Pipeline
pipeline_after r = after_steps r.steps (pipeline_of r.options)

-- a sector that has one of these words; where nobody knows, any or none
abbrev pub HasOneOf : Option (List (List ℕ)) → Option (List ℕ) → Type 0
HasOneOf None now = Unit {0}
HasOneOf (Some list) now = IsSomeAnd now (λ (words : List ℕ). may_hold (Some list) words ≡ true)

-- so many sectors, and in each words that the plain disk says it may have
pub record Keeps (sectors : ℕ) (d : Disk) (content : List (List ℕ)) : Type 0 where
  pub sized : length content ≡ sectors
  pub known : (i : ℕ) → HasOneOf (sector_at d.first d.changes i).own (slice_get content i)

abbrev pub IsKept : ℕ → Disk → Option (List (List ℕ)) → Type 0
IsKept sectors d None = Unit {0}
IsKept sectors d (Some content) = Keeps sectors d content

-- the plain disk begins with what the disk holds, and where it doesn't expose that with sectors that nobody knows
abbrev pub BeginsWith : List (List ℕ) → Option (List (List ℕ)) → Type 0
BeginsWith first None = first ≡ []
BeginsWith first (Some content) = first ≡ content

-- these lines are a run of the plain disk, each of them can stand where it does, and the disk now holds, where it tells, what the plain disk knows
pub record IsRun (sectors : ℕ) (before now : Option (List (List ℕ))) (report : List Line) : Type 0 where
  pub first : List (List ℕ)
  pub begins : BeginsWith first before
  pub disk : Disk
  pub run : after report (disk_of first) ≡ Some disk
  pub kept : IsKept sectors disk now

-- the plain disk begins with sectors of the content: with all of them, with some, or with none
abbrev pub BeginsWithin : (first content : List (List ℕ)) → Type 0
BeginsWithin first content = (i : ℕ) (words : List ℕ) → slice_get first i ≡ Some words → slice_get content i ≡ Some words

-- these lines are a run of the plain disk from those sectors; its requests are then those of the pipeline, each as its station says, and each sector of the content has what it says
pub record IsRunOf (first : List (List ℕ)) (r : PipelineRun) (lines : List Line) : Type 0 where
  pub disk : Disk
  pub run : after lines (disk_of first) ≡ Some disk
  pub requests : disk.requests ≡ map asked (pipeline_after r).requests
  pub kept : Keeps r.options.sectors disk r.disk.later
