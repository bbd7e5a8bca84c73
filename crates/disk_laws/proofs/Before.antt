-- The beginnings of reports: where the report ends among the lines of what happened last, what a recorder keeps of it is the report of a run of the pipeline too.
use Rattle.std.proofs.Common.{◌≡◌, ℕ, zero, suc, List, [], ◌∷◌, ◌++◌, refl, ap, sym, ◌∙◌, subst, append-nil}
use Rattle.std.specs.Prelude.{Option, Some, None, IsSomeAnd, slice_get}
use Rattle.std.proofs.lemmas.Option.{none-some}
use Rattle.blk_base.specs.Options.{Options}
use Rattle.blk_base.specs.declared.config.Submission.{Submission}
use Rattle.blk_io.specs.Disk.{DiskSeen, HasLength}
use Rattle.schedule_text.specs.declared.line.Detail.{Detail}
use Rattle.schedule_text.specs.declared.line.Line.{Line}
use Rattle.schedule_text.specs.declared.line.Line.TheVariants as lines
use Rattle.schedule_text.specs.Recorder.{kept_of}
use Rattle.plain_disk.specs.Refusal.{refusal_of}
use Rattle.report_rules.specs.Obeys.{Obeys}
use Rattle.split_model.specs.World.{start_of}
use Rattle.split_model.specs.Happening.{Happening, DiskRuns, after, lines_at, lines_of}
use Rattle.split_model.specs.Report.{report_of, ended_report_of}
use Rattle.pipeline_laws.specs.Effects.{IsOfADisk}
use Rattle.pipeline_laws.specs.Run.{PipelineRun, run_report, IsRun}
use Rattle.pipeline_laws.specs.Submissions.{submitted_of as steps_submit, answer_count, IsAnswerAt, AreAnswered}
use Rattle.pipeline_laws.specs.Answered.{AreAnsweredOnce, IsQuietAnswered}
use Rattle.pipeline_laws.specs.Unbroken.{IsUnbroken}
use Rattle.pipeline_laws.specs.States.{AreStates}
use Rattle.pipeline_laws.proofs.Recorded.{kept_run}
use Rattle.pipeline_laws.proofs.Reports.{report_runs, report_answers, report_answers_once, report_answers_at_quiet, report_unbroken, report_states}
use Rattle.machine_pipeline.specs.Plain.{IsPlain}
use Rattle.machine_pipeline.specs.Allowed.{AreServed}
use Rattle.machine_pipeline.specs.Submissions.{submitted_of}
use Rattle.machine_pipeline.proofs.Begun.{IsPartRun, part_run}
use Rattle.disk_laws.specs.Run.{IsRunSoFar}
use Rattle.disk_laws.proofs.OfADisk.{of_a_disk_kept}
use Rattle.disk_laws.proofs.Runs.{HasRun}
use Rattle.disk_laws.proofs.Reports.{report_run, ended_run}

-- a run whose report is this, and which submits the first of these requests
pub record HasRunSoFar (submissions : List Submission) (before : Option (List (List ℕ))) (report : List Line) : Type 0 where
  pub run : PipelineRun
  pub report_same : run_report run ≡ report
  pub more : List Submission
  pub submits : steps_submit run.steps ++ more ≡ submissions
  pub from : run.before ≡ before

kept_part : (config : Options) (detail : Detail) (history : List Happening) (last : Happening) (part : List Line) (before : Option (List (List ℕ))) → IsPartRun config history last part before
    → HasRunSoFar (submitted_of (history ++ last ∷ [])) before (kept_of detail (report_of config detail history ++ part))
kept_part config detail history last part before r =
    let k = kept_run whole detail in
    record {
      run = k.kept;
      report_same = k.report ∙ ap (λ (ls : List Line). kept_of detail (lines.Begin config detail ∷ ls)) r.shows;
      more = r.more;
      submits = ap (λ (js : List Submission). js ++ r.more) k.submitted ∙ r.submits;
      from = k.before;
    }
  where
    whole : PipelineRun
    whole = record { options = config; detail = detail; steps = r.steps; allowed = r.allowed; before = before; now = None; disk = r.disk }

-- the beginning of a report that ends among the lines of what happens last
pub begun_report : (config : Options) (detail : Detail) (history : List Happening) (last : Happening) (part rest : List Line) (before now : DiskSeen)
    → IsPlain config
    → AreServed (history ++ last ∷ []) (start_of config)
    → HasLength before.content config.sectors
    → DiskRuns (history ++ last ∷ []) (start_of config) before now
    → part ++ rest ≡ lines_at (after history (start_of config)) last
    → IsOfADisk config.sectors before.content (kept_of detail (report_of config detail history ++ part))
    → HasRunSoFar (submitted_of (history ++ last ∷ [])) before.content (kept_of detail (report_of config detail history ++ part))
begun_report config detail history last part rest before now plain may long runs all of =
    kept_part config detail history last part before.content
    (part_run config history last part rest before now plain may long runs all (of_a_disk_kept config detail before.content (lines_of history (start_of config) ++ part) of))

-- a whole report, and one with its last line
whole_so_far : (config : Options) (history : List Happening) (before now : Option (List (List ℕ))) (report : List Line) → HasRun config history before now report → HasRunSoFar (submitted_of history) before report
whole_so_far config history before now report h = record { run = h.run; report_same = h.report_same; more = []; submits = append-nil (let r = h.run in steps_submit r.steps) ∙ h.submits; from = h.from }

pub whole_report : (config : Options) (detail : Detail) (history : List Happening) (before now : DiskSeen)
    → IsPlain config
    → AreServed history (start_of config)
    → HasLength before.content config.sectors
    → DiskRuns history (start_of config) before now
    → IsOfADisk config.sectors before.content (kept_of detail (report_of config detail history))
    → HasRunSoFar (submitted_of history) before.content (kept_of detail (report_of config detail history))
whole_report config detail history before now plain may long runs of =
    whole_so_far config history before.content now.content (kept_of detail (report_of config detail history)) (report_run config detail history before now plain may long runs of)

pub ended_report : (config : Options) (detail : Detail) (history : List Happening) (before now : DiskSeen)
    → IsPlain config
    → AreServed history (start_of config)
    → HasLength before.content config.sectors
    → DiskRuns history (start_of config) before now
    → IsOfADisk config.sectors before.content (kept_of detail (ended_report_of config detail history))
    → HasRunSoFar (submitted_of history) before.content (kept_of detail (ended_report_of config detail history))
ended_report config detail history before now plain may long runs of =
    whole_so_far config history before.content now.content (kept_of detail (ended_report_of config detail history)) (ended_run config detail history before now plain may long runs of)

-- a run of the plain disk so far
pub run_so_far : (sectors : ℕ) (before now : Option (List (List ℕ))) (report : List Line) → IsRun sectors before now report → IsRunSoFar before report
run_so_far sectors before now report h = record { first = h.first; begins = h.begins; disk = h.disk; run = h.run }

pub begun_run : (submissions : List Submission) (before : Option (List (List ℕ))) (report : List Line) → HasRunSoFar submissions before report → IsRunSoFar before report
begun_run submissions before report h =
    let r = h.run in
    subst (λ (b : Option (List (List ℕ))). IsRunSoFar b report) h.from (subst (IsRunSoFar r.before) h.report_same (run_so_far r.options.sectors r.before r.now (run_report r) (report_runs r)))

-- what is submitted later changes no answer
get_before : (submissions more : List Submission) (n : ℕ) (submission : Submission) → slice_get submissions n ≡ Some submission → slice_get (submissions ++ more) n ≡ Some submission
get_before [] more n submission e = absurd (none-some submission e)
get_before (j ∷ submissions) more zero submission e = e
get_before (j ∷ submissions) more (suc n) submission e = get_before submissions more n submission e

refused_later : (submissions more : List Submission) (n : ℕ) (F : Submission → Type 0) → IsSomeAnd (slice_get submissions n) F → IsSomeAnd (slice_get (submissions ++ more) n) F
refused_later submissions more n F is = by_place (slice_get submissions n) refl
  where
    by_place : (x : Option Submission) → slice_get submissions n ≡ x → IsSomeAnd (slice_get (submissions ++ more) n) F
    by_place None e = absurd (subst (λ (y : Option Submission). IsSomeAnd y F) e is)
    by_place (Some submission) e = subst (λ (y : Option Submission). IsSomeAnd y F) (sym (get_before submissions more n submission e)) (subst (λ (y : Option Submission). IsSomeAnd y F) e is)

answer_later : (submissions more : List Submission) (before : List Line) (line : Line) → IsAnswerAt submissions before line → IsAnswerAt (submissions ++ more) before line
answer_later submissions more before (lines.Submit id submission) is = (get_before submissions more (answer_count before) submission is.0, is.1)
answer_later submissions more before (lines.Refuse refusal) is = refused_later submissions more (answer_count before) (λ submission. refusal_of before submission ≡ Some refusal) is
answer_later submissions more before line is = tt

-- each submission is answered by the rule
pub begun_answered : (submissions : List Submission) (before : Option (List (List ℕ))) (report : List Line) → HasRunSoFar submissions before report → Obeys (IsAnswerAt submissions) report
begun_answered submissions before report h = subst (λ (js : List Submission). Obeys (IsAnswerAt js) report) h.submits later
  where
    now : List Submission
    now = (let r = h.run in steps_submit r.steps)

    answered : AreAnswered now report
    answered = subst (AreAnswered now) h.report_same (report_answers h.run)

    later : Obeys (IsAnswerAt (now ++ h.more)) report
    later first rest line e = answer_later now h.more first line (answered.rightly first rest line e)

-- each request once, and where `quiet` stands each one
pub begun_once : (submissions : List Submission) (before : Option (List (List ℕ))) (report : List Line) → HasRunSoFar submissions before report → AreAnsweredOnce report
begun_once submissions before report h = subst AreAnsweredOnce h.report_same (report_answers_once h.run)

pub begun_at_quiet : (submissions : List Submission) (before : Option (List (List ℕ))) (report : List Line) → HasRunSoFar submissions before report → IsQuietAnswered report
begun_at_quiet submissions before report h = subst IsQuietAnswered h.report_same (report_answers_at_quiet h.run)

-- nothing is broken, and the front's state is as the lines say
pub begun_unbroken : (submissions : List Submission) (before : Option (List (List ℕ))) (report : List Line) → HasRunSoFar submissions before report → IsUnbroken report
begun_unbroken submissions before report h = subst IsUnbroken h.report_same (report_unbroken h.run)

pub begun_states : (submissions : List Submission) (before : Option (List (List ℕ))) (report : List Line) → HasRunSoFar submissions before report → AreStates report
begun_states submissions before report h = subst AreStates h.report_same (report_states h.run)
