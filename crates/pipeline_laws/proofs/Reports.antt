-- The laws of a whole report, from those of all steps so far.
use Rattle.std.proofs.Common.{◌≡◌, ℕ, List, [], ◌∷◌, refl, ap, ◌∙◌, subst}
use Rattle.std.specs.Prelude.{Option, Some, None}
use Rattle.std.proofs.lemmas.Option.{none-some}
use Rattle.blk_base.specs.Options.{Options}
use Rattle.schedule_text.specs.declared.line.Line.TheVariants as lines
use Rattle.plain_disk.specs.Disk.{Disk}
use Rattle.report_rules.proofs.Obeys.{obeys_more, obeys_none}
use Rattle.pipeline_laws.specs.Pipeline.{Pipeline, Step, Submits, Refuses, Moves, pipeline_of, next, after_steps}
use Rattle.pipeline_laws.specs.Disk.{AgreesWith}
use Rattle.pipeline_laws.specs.Run.{PipelineRun, run_report, BeginsWith, BeginsWithin, Keeps, IsKept, IsRun, IsRunOf}
use Rattle.pipeline_laws.specs.Submissions.{submitted_of, IsAnswerAt, AreAnswered}
use Rattle.pipeline_laws.specs.Answered.{AreAnsweredOnce, IsQuietAnswered}
use Rattle.pipeline_laws.specs.Unbroken.{IsUnbroken}
use Rattle.pipeline_laws.specs.States.{IsStateAt, AreStates}
use Rattle.pipeline_laws.proofs.AnsweredRuns.{run_answers_once, run_answers_at_quiet}
use Rattle.pipeline_laws.proofs.Running.{IsSoFar, so_far_first, so_far_report}
use Rattle.pipeline_laws.proofs.Ruled.{all_obey}
use Rattle.pipeline_laws.proofs.Submitting.{all_answered}
use Rattle.pipeline_laws.proofs.States.{states_hold, unbroken}

-- the options stay
next_options : (p : Pipeline) (s : Step) → (next p s).options ≡ p.options
next_options p (Submits submission) = refl
next_options p (Refuses submission refusal) = refl
next_options p (Moves k x move) = refl
next_options p s = refl

same_options : (steps : List Step) (p : Pipeline) → (after_steps steps p).options ≡ p.options
same_options [] p = refl
same_options (s ∷ steps) p = same_options steps (next p s) ∙ next_options p s

pub runs_within : (r : PipelineRun) (first : List (List ℕ)) → BeginsWithin first r.disk.content → IsRunOf first r (run_report r)
runs_within r first within =
    let so = so_far_report r.options r.detail first r.disk.content r.disk.later r.steps within r.disk.sized r.allowed r.disk.runs in
    record {
      disk = so.disk;
      run = so.run;
      requests = so.stands.matches.requests;
      kept = record { sized = so.stands.sized ∙ ap (λ (o : Options). o.sectors) (same_options r.steps (pipeline_of r.options)); known = so.stands.matches.known };
    }

none_known : (content : List (List ℕ)) → BeginsWithin [] content
none_known content i words e = absurd (none-some words e)

-- what the plain disk begins with, and that it ends with what the disk tells
begins : (before : Option (List (List ℕ))) (content : List (List ℕ)) → AgreesWith before content → (first : List (List ℕ)) × BeginsWith first before × BeginsWithin first content
begins None content tells = ([], refl, none_known content)
begins (Some told) content tells = (content, tells, λ i words e. e)

ends : (sectors : ℕ) (d : Disk) (now : Option (List (List ℕ))) (later : List (List ℕ)) → AgreesWith now later → Keeps sectors d later → IsKept sectors d now
ends sectors d None later tells kept = tt
ends sectors d (Some told) later tells kept = subst (Keeps sectors d) tells kept

pub report_runs : (r : PipelineRun) → IsRun r.options.sectors r.before r.now (run_report r)
report_runs r =
    let from = begins r.before r.disk.content r.disk.begins in
    let whole = runs_within r from.0 from.2 in
    record { first = from.0; begins = from.1; disk = whole.disk; run = whole.run; kept = ends r.options.sectors whole.disk r.now r.disk.later r.disk.ends whole.kept }

-- the first line, from which all goes on
first_line : (r : PipelineRun) → IsSoFar [] (lines.Begin r.options r.detail ∷ []) (pipeline_of r.options) r.disk.content
first_line r = so_far_first r.options r.detail [] r.disk.content (none_known r.disk.content) r.disk.sized

pub report_answers : (r : PipelineRun) → AreAnswered (submitted_of r.steps) (run_report r)
report_answers r =
    all_answered (submitted_of r.steps) [] r.steps (lines.Begin r.options r.detail ∷ []) (pipeline_of r.options) r.disk.content r.disk.later refl r.allowed r.disk.runs refl (first_line r)
    (obeys_more (IsAnswerAt (submitted_of r.steps)) [] (lines.Begin r.options r.detail) (obeys_none (IsAnswerAt (submitted_of r.steps))) tt)

pub report_answers_once : (r : PipelineRun) → AreAnsweredOnce (run_report r)
report_answers_once r =
    let whole = runs_within r [] (none_known r.disk.content) in
    run_answers_once (run_report r) [] whole.disk whole.run

pub report_answers_at_quiet : (r : PipelineRun) → IsQuietAnswered (run_report r)
report_answers_at_quiet r =
    let whole = runs_within r [] (none_known r.disk.content) in
    run_answers_at_quiet (run_report r) [] whole.disk whole.run

pub report_states : (r : PipelineRun) → AreStates (run_report r)
report_states r =
    all_obey IsStateAt r.steps (lines.Begin r.options r.detail ∷ []) (pipeline_of r.options) r.disk.content r.disk.later states_hold r.allowed r.disk.runs (first_line r)
    (obeys_more IsStateAt [] (lines.Begin r.options r.detail) (obeys_none IsStateAt) tt)

pub report_unbroken : (r : PipelineRun) → IsUnbroken (run_report r)
report_unbroken r =
    let whole = runs_within r [] (none_known r.disk.content) in
    unbroken (run_report r) [] whole.disk (report_states r) whole.run
