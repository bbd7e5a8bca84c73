-- What `run` promises of its report makes it legal (`io/ring.h`, `io/blkif.h`, `io/xenbus.h`, `grant_table.h`).
use Rattle.std.specs.Prelude.{ℕ, List, Option, All}
use Rattle.blk_base.specs.Options.{Options}
use Rattle.schedule_text.specs.declared.event.Event.{Event}
use Rattle.schedule_text.specs.declared.line.Detail.{Detail}
use Rattle.schedule_text.specs.declared.line.Line.{Line}
use Rattle.schedule_text.specs.Range.{SubmissionHasWidths}
use Rattle.schedule_text.specs.Recorder.{report_text}
use Rattle.plain_disk.specs.Honest.{honest_part}
use Rattle.plain_disk.specs.Echo.{Echoes}
use Rattle.report_rules.specs.Obeys.{Obeys}
use Rattle.pipeline_laws.specs.Effects.{IsOfADisk}
use Rattle.machine_pipeline.specs.Submissions.{jobs_of}
use Rattle.schedule_run.specs.Lawful.{IsLawful}
use Rattle.checked_rules.specs.Rules.{KeepsAll}
use Rattle.trace_check.specs.Found.{EndsWell}
use Rattle.legal_laws.specs.Promised.{IsFoundLegal}

-- a lawful report of these events, of a disk
pub record IsRunReport (config : Options) (detail : Detail) (events : List Event) (before now : Option (List (List ℕ))) (report : List Line) : Type 0 where
  pub lawful : IsLawful config detail (jobs_of events) before now report
  pub disk : IsOfADisk config.sectors before (honest_part report)
  pub echo : Echoes config detail events report
  pub widths : All SubmissionHasWidths (jobs_of events)

-- of each such report
abbrev pub OfRuns : (List Line → Type 0) → Type 0
OfRuns Claim =
    (config : Options) (detail : Detail) (events : List Event) (before now : Option (List (List ℕ))) (report : List Line)
    → IsRunReport config detail events before now report → Claim report

abbrev pub LawfulIsKept : Type 0
LawfulIsKept = OfRuns (λ report. Obeys KeepsAll report × EndsWell report)

abbrev pub LawfulIsFoundLegal : Type 0
LawfulIsFoundLegal = OfRuns (λ report. IsFoundLegal (report_text report))
