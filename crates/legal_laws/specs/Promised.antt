-- What a run promises of its report makes it one that a check finds legal (`io/ring.h`, `io/blkif.h`, `io/xenbus.h`, `grant_table.h`).
use Rattle.std.specs.Prelude.{◌≡◌, ℕ, List, ◌∷◌, filter, Some, Result, All}
use Rattle.blk_base.specs.Options.{Options}
use Rattle.blk_base.specs.declared.config.Submission.{Submission}
use Rattle.blk_io.specs.Outside.{SourceSeen}
use Rattle.schedule_text.specs.declared.event.Event.{Event}
use Rattle.schedule_text.specs.declared.line.Detail.{Detail}
use Rattle.schedule_text.specs.declared.line.Line.{Line}
use Rattle.schedule_text.specs.declared.line.Line.TheVariants as lines
use Rattle.schedule_text.specs.Range.{SubmissionHasWidths, IsInRange}
use Rattle.schedule_text.specs.Recorder.{report_text}
use Rattle.plain_disk.specs.Echo.{is_echo, AnswersAll, Echoes}
use Rattle.report_rules.specs.Obeys.{Obeys}
use Rattle.plain_disk.specs.Honest.{honest_part}
use Rattle.plain_disk.specs.Disk.{Disk, disk_of}
use Rattle.plain_disk.specs.Step.{after}
use Rattle.pipeline_laws.specs.Submissions.{IsAnswerAt}
use Rattle.pipeline_laws.specs.States.{AreStates}
use Rattle.request_check.specs.Rules.{CanBeAsked}
use Rattle.checked_rules.specs.Rules.{KeepsAll, ObeysEach, move_rules}
use Rattle.trace_check.specs.declared.finding.Finding.{Finding}
use Rattle.trace_check.specs.declared.finding.CheckStop.{CheckStop}
use Rattle.trace_check.specs.Found.{EndsWell, Finds}
use Rattle.report_laws.specs.Settled.{IsSettled}
use Rattle.legal_laws.specs.Order.{IsBody}
use Rattle.legal_laws.specs.Found.{FindsLegal}

-- a job whose numbers are those of the grammar is one that a schedule can ask for
abbrev pub JobsCanBeAsked : Type 0
JobsCanBeAsked = (jobs : List Submission) → All SubmissionHasWidths jobs → All CanBeAsked jobs

-- these lines are a run of the plain disk, whatever its sectors held
abbrev pub RunsOnADisk : List Line → Type 0
RunsOnADisk report = (first : List (List ℕ)) × (disk : Disk) × (after report (disk_of first) ≡ Some disk)

-- a report of a run: before a hostile hand first touched it, it is a run of the plain disk, and answers these submissions, as its earlier lines say;
-- the front's states come in order, and no `settle` ran out of rounds; and the moves that it shows keep the rules on them
pub record IsPromised (config : Options) (detail : Detail) (jobs : List Submission) (report : List Line) : Type 0 where
  pub rest : List Line
  pub first : report ≡ lines.Begin config detail ∷ rest
  pub body : IsBody detail rest
  pub run : RunsOnADisk (honest_part report)
  pub submissions : Obeys (IsAnswerAt jobs) (honest_part report)
  pub asked : All CanBeAsked jobs
  pub states : AreStates (honest_part report)
  pub settled : IsSettled (honest_part report)
  pub moves : ObeysEach move_rules report

-- of each such report
abbrev pub OfPromised : (Options → Detail → List Event → List Line → Type 0) → Type 0
OfPromised Claim =
    (config : Options) (detail : Detail) (events : List Event) (jobs : List Submission) (report : List Line)
    → IsPromised config detail jobs report → Claim config detail events report

-- so far it answers these events: then its lines keep all rules
abbrev pub PromisedSoFarIsLegal : Type 0
PromisedSoFarIsLegal = OfPromised (λ config detail events report. AnswersAll config.order events (filter is_echo report) → Obeys KeepsAll report)

-- so they do where it echoes the whole schedule, and the last is `end`
abbrev pub PromisedIsLegal : Type 0
PromisedIsLegal = OfPromised (λ config detail events report. Echoes config detail events report → Obeys KeepsAll report × EndsWell report)

-- a check of this text finds it legal, unless it stops before its end
abbrev pub IsFoundLegal : List ℕ → Type 0
IsFoundLegal text =
    (limit : ℕ) (found : Result Finding CheckStop) (s t : SourceSeen) → s.left ≡ Some text → Finds limit found s t → FindsLegal limit text found s t

-- so is its text found
abbrev pub PromisedIsFoundLegal : Type 0
PromisedIsFoundLegal =
    OfPromised (λ config detail events report.
    Echoes config detail events report → All IsInRange report → IsFoundLegal (report_text report))
