-- What a recorder keeps of the report of a history is the report of a run of the pipeline.
use Rattle.std.proofs.Common.{◌≡◌, ℕ, List, [], ◌∷◌, ◌++◌, refl, ap, ◌∙◌, append-nil}
use Rattle.std.specs.Prelude.{Option}
use Rattle.blk_base.specs.Options.{Options}
use Rattle.schedule_text.specs.declared.line.Detail.{Detail}
use Rattle.schedule_text.specs.declared.line.Line.{Line}
use Rattle.schedule_text.specs.declared.line.Line.TheVariants as lines
use Rattle.schedule_text.specs.Recorder.{kept_of}
use Rattle.split_model.specs.Happening.{Happening}
use Rattle.split_model.specs.Report.{report_of, ended_report_of}
use Rattle.pipeline_laws.specs.Pipeline.{Shows, pipeline_of}
use Rattle.pipeline_laws.specs.Disk.{AreConsistent}
use Rattle.pipeline_laws.specs.Run.{PipelineRun, run_report}
use Rattle.pipeline_laws.specs.Submissions.{submitted_of as steps_submit}
use Rattle.pipeline_laws.specs.Recorded.{IsKeptRun}
use Rattle.pipeline_laws.proofs.Joining.{allowed_append, lines_append, runs_append, submitted_append}
use Rattle.pipeline_laws.proofs.Recorded.{kept_run}
use Rattle.machine_pipeline.specs.Submissions.{submitted_of}
use Rattle.machine_pipeline.specs.Run.{IsPipelineRun}

-- with the last line of a report
pub ended : (config : Options) (history : List Happening) (before now : Option (List (List ℕ))) (r : IsPipelineRun config history before now) → AreConsistent config.sectors (r.steps ++ Shows lines.End ∷ []) before now
ended config history before now r = record {
  content = r.disk.content;
  sized = r.disk.sized;
  begins = r.disk.begins;
  later = r.disk.later;
  runs = runs_append r.steps (Shows lines.End ∷ []) r.disk.content r.disk.later r.disk.later r.disk.runs (r.disk.later, refl, refl);
  ends = r.disk.ends;
}

-- a run whose report is this, of the submissions of the history
pub record HasRun (config : Options) (history : List Happening) (before now : Option (List (List ℕ))) (report : List Line) : Type 0 where
  pub run : PipelineRun
  pub report_same : run_report run ≡ report
  pub options : run.options ≡ config
  pub submits : steps_submit run.steps ≡ submitted_of history
  pub from : run.before ≡ before
  pub to : run.now ≡ now

kept_has : (config : Options) (detail : Detail) (history : List Happening) (before now : Option (List (List ℕ))) (report : List Line) (r : PipelineRun) → run_report r ≡ report → r.options ≡ config → steps_submit r.steps ≡ submitted_of history → r.before ≡ before → r.now ≡ now → HasRun config history before now (kept_of detail report)
kept_has config detail history before now report r same options submits from to =
    let k : IsKeptRun detail r = kept_run r detail in
    record {
      run = k.kept;
      report_same = k.report ∙ ap (kept_of detail) same;
      options = k.options ∙ options;
      submits = k.submitted ∙ submits;
      from = k.before ∙ from;
      to = k.now ∙ to;
    }

pub kept_report : (config : Options) (detail : Detail) (history : List Happening) (before now : Option (List (List ℕ))) → IsPipelineRun config history before now → HasRun config history before now (kept_of detail (report_of config detail history))
kept_report config detail history before now r =
    kept_has config detail history before now (report_of config detail history)
    (record { options = config; detail = detail; steps = r.steps; allowed = r.allowed; before = before; now = now; disk = r.disk })
    (ap (λ (ls : List Line). lines.Begin config detail ∷ ls) r.shows) refl r.submits refl refl

pub kept_ended_report : (config : Options) (detail : Detail) (history : List Happening) (before now : Option (List (List ℕ))) → IsPipelineRun config history before now → HasRun config history before now (kept_of detail (ended_report_of config detail history))
kept_ended_report config detail history before now r =
    kept_has config detail history before now (ended_report_of config detail history)
    (record { options = config; detail = detail; steps = r.steps ++ Shows lines.End ∷ []; allowed = allowed_append r.steps (Shows lines.End ∷ []) (pipeline_of config) r.allowed (refl, tt); before = before; now = now; disk = ended config history before now r })
    (ap (λ (ls : List Line). lines.Begin config detail ∷ ls) (lines_append r.steps (Shows lines.End ∷ []) (pipeline_of config) ∙ ap (λ (ls : List Line). ls ++ lines.End ∷ []) r.shows))
    refl (submitted_append r.steps (Shows lines.End ∷ []) ∙ (append-nil (steps_submit r.steps) ∙ r.submits)) refl refl
