-- The report of every history, as a recorder keeps it: by the laws of the pipeline.
use Rattle.std.proofs.Common.{ℕ, List, [], ◌∷◌, ◌++◌, subst}
use Rattle.std.specs.Prelude.{Option}
use Rattle.blk_base.specs.Options.{Options}
use Rattle.blk_base.specs.declared.config.Submission.{Submission}
use Rattle.blk_io.specs.Disk.{DiskSeen, HasLength}
use Rattle.schedule_text.specs.declared.line.Detail.{Detail}
use Rattle.schedule_text.specs.declared.line.Line.{Line}
use Rattle.schedule_text.specs.declared.line.Line.TheVariants as lines
use Rattle.schedule_text.specs.Recorder.{kept_of}
use Rattle.split_model.specs.World.{start_of}
use Rattle.split_model.specs.Happening.{Happening, DiskRuns, lines_of}
use Rattle.split_model.specs.Report.{report_of, ended_report_of}
use Rattle.pipeline_laws.specs.Effects.{IsOfADisk}
use Rattle.pipeline_laws.specs.Run.{IsRun}
use Rattle.pipeline_laws.specs.Submissions.{AreAnswered}
use Rattle.pipeline_laws.specs.Unbroken.{IsUnbroken}
use Rattle.pipeline_laws.specs.States.{AreStates}
use Rattle.pipeline_laws.proofs.Reports.{report_runs, report_answers, report_unbroken, report_states}
use Rattle.machine_pipeline.specs.Plain.{IsPlain}
use Rattle.machine_pipeline.specs.Allowed.{AreServed}
use Rattle.machine_pipeline.specs.Submissions.{submitted_of}
use Rattle.machine_pipeline.proofs.Runs.{is_run}
use Rattle.disk_laws.proofs.OfADisk.{of_a_disk_before, of_a_disk_kept}
use Rattle.disk_laws.proofs.Runs.{HasRun, kept_report, kept_ended_report}

-- what a recorder keeps of the report, or of the report with its last line, is that of a run
pub report_run : (config : Options) (detail : Detail) (history : List Happening) (a b : DiskSeen) → IsPlain config → AreServed history (start_of config) → HasLength a.content config.sectors → DiskRuns history (start_of config) a b
    → IsOfADisk config.sectors a.content (kept_of detail (report_of config detail history))
    → HasRun config history a.content b.content (kept_of detail (report_of config detail history))
report_run config detail history a b plain may long runs of =
    kept_report config detail history a.content b.content (is_run config history a b plain may long runs (of_a_disk_kept config detail a.content (lines_of history (start_of config)) of))

pub ended_run : (config : Options) (detail : Detail) (history : List Happening) (a b : DiskSeen) → IsPlain config → AreServed history (start_of config) → HasLength a.content config.sectors → DiskRuns history (start_of config) a b
    → IsOfADisk config.sectors a.content (kept_of detail (ended_report_of config detail history))
    → HasRun config history a.content b.content (kept_of detail (ended_report_of config detail history))
ended_run config detail history a b plain may long runs of =
    let told = lines_of history (start_of config) in
    kept_ended_report config detail history a.content b.content
    (is_run config history a b plain may long runs (of_a_disk_before config.sectors a.content told (lines.End ∷ []) (of_a_disk_kept config detail a.content (told ++ lines.End ∷ []) of)))

-- a run of the plain disk
plain_run : (config : Options) (history : List Happening) (before now : Option (List (List ℕ))) (report : List Line) → HasRun config history before now report → IsRun config.sectors before now report
plain_run config history before now report h =
    subst (λ (o : Options). IsRun o.sectors before now report) h.options
    (subst (λ (b : Option (List (List ℕ))). IsRun h.run.options.sectors b now report) h.from
    (subst (λ (n : Option (List (List ℕ))). IsRun h.run.options.sectors h.run.before n report) h.to
    (subst (IsRun h.run.options.sectors h.run.before h.run.now) h.report_same (report_runs h.run))))

pub reports_run : (config : Options) (detail : Detail) (history : List Happening) (a b : DiskSeen) → IsPlain config → AreServed history (start_of config) → HasLength a.content config.sectors → DiskRuns history (start_of config) a b
    → IsOfADisk config.sectors a.content (kept_of detail (report_of config detail history))
    → IsRun config.sectors a.content b.content (kept_of detail (report_of config detail history))
reports_run config detail history a b plain may long runs of = plain_run config history a.content b.content (kept_of detail (report_of config detail history)) (report_run config detail history a b plain may long runs of)

pub ended_reports_run : (config : Options) (detail : Detail) (history : List Happening) (a b : DiskSeen) → IsPlain config → AreServed history (start_of config) → HasLength a.content config.sectors → DiskRuns history (start_of config) a b
    → IsOfADisk config.sectors a.content (kept_of detail (ended_report_of config detail history))
    → IsRun config.sectors a.content b.content (kept_of detail (ended_report_of config detail history))
ended_reports_run config detail history a b plain may long runs of = plain_run config history a.content b.content (kept_of detail (ended_report_of config detail history)) (ended_run config detail history a b plain may long runs of)

-- the submissions, answered by the rule
answered : (config : Options) (history : List Happening) (before now : Option (List (List ℕ))) (report : List Line) → HasRun config history before now report → AreAnswered (submitted_of history) report
answered config history before now report h = subst (λ (submissions : List Submission). AreAnswered submissions report) h.submits (subst (AreAnswered _) h.report_same (report_answers h.run))

pub reports_answered : (config : Options) (detail : Detail) (history : List Happening) (a b : DiskSeen) → IsPlain config → AreServed history (start_of config) → HasLength a.content config.sectors → DiskRuns history (start_of config) a b
    → IsOfADisk config.sectors a.content (kept_of detail (report_of config detail history))
    → AreAnswered (submitted_of history) (kept_of detail (report_of config detail history))
reports_answered config detail history a b plain may long runs of = answered config history a.content b.content (kept_of detail (report_of config detail history)) (report_run config detail history a b plain may long runs of)

pub ended_answered : (config : Options) (detail : Detail) (history : List Happening) (a b : DiskSeen) → IsPlain config → AreServed history (start_of config) → HasLength a.content config.sectors → DiskRuns history (start_of config) a b
    → IsOfADisk config.sectors a.content (kept_of detail (ended_report_of config detail history))
    → AreAnswered (submitted_of history) (kept_of detail (ended_report_of config detail history))
ended_answered config detail history a b plain may long runs of = answered config history a.content b.content (kept_of detail (ended_report_of config detail history)) (ended_run config detail history a b plain may long runs of)

pub reports_unbroken : (config : Options) (detail : Detail) (history : List Happening) (a b : DiskSeen) → IsPlain config → AreServed history (start_of config) → HasLength a.content config.sectors → DiskRuns history (start_of config) a b
    → IsOfADisk config.sectors a.content (kept_of detail (report_of config detail history))
    → IsUnbroken (kept_of detail (report_of config detail history))
reports_unbroken config detail history a b plain may long runs of = let h = report_run config detail history a b plain may long runs of in subst IsUnbroken h.report_same (report_unbroken h.run)

pub ended_unbroken : (config : Options) (detail : Detail) (history : List Happening) (a b : DiskSeen) → IsPlain config → AreServed history (start_of config) → HasLength a.content config.sectors → DiskRuns history (start_of config) a b
    → IsOfADisk config.sectors a.content (kept_of detail (ended_report_of config detail history))
    → IsUnbroken (kept_of detail (ended_report_of config detail history))
ended_unbroken config detail history a b plain may long runs of = let h = ended_run config detail history a b plain may long runs of in subst IsUnbroken h.report_same (report_unbroken h.run)

pub reports_states : (config : Options) (detail : Detail) (history : List Happening) (a b : DiskSeen) → IsPlain config → AreServed history (start_of config) → HasLength a.content config.sectors → DiskRuns history (start_of config) a b
    → IsOfADisk config.sectors a.content (kept_of detail (report_of config detail history))
    → AreStates (kept_of detail (report_of config detail history))
reports_states config detail history a b plain may long runs of = let h = report_run config detail history a b plain may long runs of in subst AreStates h.report_same (report_states h.run)

pub ended_states : (config : Options) (detail : Detail) (history : List Happening) (a b : DiskSeen) → IsPlain config → AreServed history (start_of config) → HasLength a.content config.sectors → DiskRuns history (start_of config) a b
    → IsOfADisk config.sectors a.content (kept_of detail (ended_report_of config detail history))
    → AreStates (kept_of detail (ended_report_of config detail history))
ended_states config detail history a b plain may long runs of = let h = ended_run config detail history a b plain may long runs of in subst AreStates h.report_same (report_states h.run)
