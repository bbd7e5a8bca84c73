-- What a run promises of its requests, and the rules on them (`io/blkif.h`, `io/xenbus.h`).
use Rattle.std.specs.Prelude.{◌≡◌, ℕ, List, Option, Some, All}
use Rattle.blk_base.specs.declared.config.Submission.{Submission}
use Rattle.schedule_text.specs.declared.line.Line.{Line}
use Rattle.plain_disk.specs.Disk.{Disk, disk_of}
use Rattle.plain_disk.specs.Step.{after}
use Rattle.report_rules.specs.Obeys.{Obeys}
use Rattle.pipeline_laws.specs.Run.{IsRun}
use Rattle.pipeline_laws.specs.Submissions.{IsAnswerAt, AreAnswered}
use Rattle.pipeline_laws.specs.States.{AreStates}
use Rattle.report_laws.specs.Settled.{IsSettled}
use Rattle.request_check.specs.Rules.{CanBeAsked, KeepsRequests}

-- a report so far: it answers these submissions, each of which can be asked for
abbrev pub RunSoFarIsKept : Type 0
RunSoFarIsKept = (jobs : List Submission) (first : List (List ℕ)) (d : Disk) (report : List Line)
    → after report (disk_of first) ≡ Some d → Obeys (IsAnswerAt jobs) report → AreStates report → All CanBeAsked jobs → IsSettled report
    → Obeys KeepsRequests report

-- a whole one
abbrev pub RunIsKept : Type 0
RunIsKept = (jobs : List Submission) (sectors : ℕ) (before now : Option (List (List ℕ))) (report : List Line)
    → IsRun sectors before now report → AreAnswered jobs report → AreStates report → All CanBeAsked jobs → IsSettled report
    → Obeys KeepsRequests report
