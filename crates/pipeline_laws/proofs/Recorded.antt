-- The steps without those that only show a move are allowed, and their report is what a recorder keeps.
use Rattle.std.proofs.Common.{◌≡◌, ℕ, Bool, true, false, if◌then◌else◌, inl, inr, List, [], ◌∷◌, ◌++◌, refl, ap, sym, ◌∙◌, subst}
use Rattle.std.specs.List.{flat_map}
use Rattle.std.proofs.lemmas.List.Concat.{flat_map-append}
use Rattle.std.proofs.lemmas.List.Elements.{filter_map-append}
use Rattle.schedule_text.specs.declared.line.Detail.{Detail}
use Rattle.schedule_text.specs.declared.line.Detail.TheVariants as detail
use Rattle.schedule_text.specs.declared.line.Line.{Line}
use Rattle.schedule_text.specs.declared.line.Line.TheVariants as lines
use Rattle.schedule_text.specs.Recorder.{recorded}
use Rattle.blk_base.specs.declared.config.Submission.{Submission}
use Rattle.pipeline_laws.specs.Pipeline.{Pipeline, Step, Moves, Shows, pipeline_of, next, step_lines, lines_of}
use Rattle.pipeline_laws.specs.Allowed.{is_aside, IsAllowed, AreAllowed}
use Rattle.pipeline_laws.specs.Disk.{DiskGoes, DiskRuns}
use Rattle.pipeline_laws.specs.Run.{PipelineRun, run_report}
use Rattle.pipeline_laws.specs.Submissions.{submitted_at, submitted_of}
use Rattle.pipeline_laws.specs.Recorded.{IsKeptRun}
use Rattle.pipeline_laws.proofs.Running.{is_of_request, move_shows}

-- a step whose line is kept, or that shows none
abbrev is_kept : Detail → Step → Bool
is_kept detail.Lines (Shows (lines.Move move)) = false
is_kept word s = true

abbrev kept_of : Detail → List Step → List Step
kept_of word [] = []
kept_of word (s ∷ steps) = if is_kept word s then s ∷ kept_of word steps else kept_of word steps

-- a step that is dropped does nothing
dropped : (word : Detail) (s : Step) (p : Pipeline) → is_kept word s ≡ false → (next p s ≡ p) × (flat_map (recorded word) (step_lines p s) ≡ []) × (submitted_of (s ∷ []) ≡ [])
dropped detail.Lines (Shows (lines.Move move)) p e = (refl, refl, refl)
dropped word s p e = absurd (cc)

dropped_disk : (word : Detail) (s : Step) (before after : List (List ℕ)) → is_kept word s ≡ false → DiskGoes s before after → after ≡ before
dropped_disk detail.Lines (Shows (lines.Move move)) before after e goes = goes
dropped_disk word s before after e goes = absurd (cc)

-- a line that is no move is kept
of_request_kept : (word : Detail) (line : Line) → is_of_request line ≡ true → flat_map (recorded word) (line ∷ []) ≡ line ∷ []
of_request_kept word (lines.Begin config other) e = absurd (cc)
of_request_kept word (lines.Move move) e = absurd (cc)
of_request_kept detail.Lines line e = refl
of_request_kept detail.Moves line e = refl

aside_kept : (word : Detail) (line : Line) → is_aside line ≡ true → is_kept word (Shows line) ≡ true → flat_map (recorded word) (line ∷ []) ≡ line ∷ []
aside_kept word (lines.Begin config other) e kept = absurd (cc)
aside_kept detail.Lines (lines.Move move) e kept = absurd (cc)
aside_kept detail.Lines line e kept = refl
aside_kept detail.Moves line e kept = refl

kept_lines : (word : Detail) (s : Step) (p : Pipeline) → IsAllowed p s → is_kept word s ≡ true → flat_map (recorded word) (step_lines p s) ≡ step_lines p s
kept_lines word (Moves k x move) p may kept = elim (move_shows k move) [
  | inl none ↦ ap (flat_map (recorded word)) none ∙ sym none
  | inr one ↦ ap (flat_map (recorded word)) one.1 ∙ (of_request_kept word one.0 one.2 ∙ sym one.1)
]
kept_lines word (Shows line) p may kept = aside_kept word line may kept
kept_lines detail.Lines s p may kept = refl
kept_lines detail.Moves s p may kept = refl

-- fewer steps that show what is kept
record AreKept (word : Detail) (steps fewer : List Step) (p : Pipeline) (content later : List (List ℕ)) : Type 0 where
  allowed : AreAllowed fewer p
  runs : DiskRuns fewer content later
  report : lines_of fewer p ≡ flat_map (recorded word) (lines_of steps p)
  submitted : submitted_of fewer ≡ submitted_of steps

submitted_more : (s : Step) (steps : List Step) → submitted_of (s ∷ steps) ≡ submitted_of (s ∷ []) ++ submitted_of steps
submitted_more s steps = filter_map-append submitted_at (s ∷ []) steps

-- one step more
more_kept : (word : Detail) (s : Step) (steps : List Step) (p : Pipeline) (content between later : List (List ℕ)) → IsAllowed p s → DiskGoes s content between → AreKept word steps (kept_of word steps) (next p s) between later → AreKept word (s ∷ steps) (kept_of word (s ∷ steps)) p content later
more_kept word s steps p content between later may goes rest = by_test (is_kept word s) refl
  where
    split : flat_map (recorded word) (step_lines p s ++ lines_of steps (next p s)) ≡ flat_map (recorded word) (step_lines p s) ++ flat_map (recorded word) (lines_of steps (next p s))
    split = flat_map-append (recorded word) (step_lines p s) (lines_of steps (next p s))

    with_it : is_kept word s ≡ true → AreKept word (s ∷ steps) (s ∷ kept_of word steps) p content later
    with_it e = record {
      allowed = (may, rest.allowed);
      runs = (between, goes, rest.runs);
      report = ap (λ (ls : List Line). step_lines p s ++ ls) rest.report ∙ (ap (λ (ls : List Line). ls ++ flat_map (recorded word) (lines_of steps (next p s))) (sym (kept_lines word s p may e)) ∙ sym split);
      submitted = submitted_more s (kept_of word steps) ∙ (ap (λ (js : List Submission). submitted_of (s ∷ []) ++ js) rest.submitted ∙ sym (submitted_more s steps));
    }

    without : is_kept word s ≡ false → AreKept word (s ∷ steps) (kept_of word steps) p content later
    without e =
        let none = dropped word s p e in
        record {
          allowed = subst (AreAllowed (kept_of word steps)) none.0 rest.allowed;
          runs = subst (λ (c : List (List ℕ)). DiskRuns (kept_of word steps) c later) (dropped_disk word s content between e goes) rest.runs;
          report = ap (lines_of (kept_of word steps)) (sym none.0) ∙ (rest.report ∙ (ap (λ (ls : List Line). ls ++ flat_map (recorded word) (lines_of steps (next p s))) (sym none.1) ∙ sym split));
          submitted = rest.submitted ∙ (ap (λ (js : List Submission). js ++ submitted_of steps) (sym none.2) ∙ sym (submitted_more s steps));
        }

    by_test : (b : Bool) → is_kept word s ≡ b → AreKept word (s ∷ steps) (kept_of word (s ∷ steps)) p content later
    by_test true e = subst (λ (b : Bool). AreKept word (s ∷ steps) (if b then s ∷ kept_of word steps else kept_of word steps) p content later) (sym e) (with_it e)
    by_test false e = subst (λ (b : Bool). AreKept word (s ∷ steps) (if b then s ∷ kept_of word steps else kept_of word steps) p content later) (sym e) (without e)

all_kept : (word : Detail) (steps : List Step) (p : Pipeline) (content later : List (List ℕ)) → AreAllowed steps p → DiskRuns steps content later → AreKept word steps (kept_of word steps) p content later
all_kept word [] p content later may runs = record { allowed = tt; runs = runs; report = refl; submitted = refl }
all_kept word (s ∷ steps) p content later may runs = more_kept word s steps p content runs.0 later may.0 runs.1 (all_kept word steps (next p s) runs.0 later may.1 runs.2)

pub kept_run : (r : PipelineRun) (word : Detail) → IsKeptRun word r
kept_run r word =
    let all = all_kept word r.steps (pipeline_of r.options) r.disk.content r.disk.later r.allowed r.disk.runs in
    record {
      kept = record {
        options = r.options;
        detail = word;
        steps = kept_of word r.steps;
        allowed = all.allowed;
        before = r.before;
        now = r.now;
        disk = record { content = r.disk.content; sized = r.disk.sized; begins = r.disk.begins; later = r.disk.later; runs = all.runs; ends = r.disk.ends };
      };
      report = ap (λ (ls : List Line). lines.Begin r.options word ∷ ls) all.report ∙ first_line;
      options = refl;
      submitted = all.submitted;
      before = refl;
      now = refl;
    }
  where
    first_line : (lines.Begin r.options word ∷ flat_map (recorded word) (lines_of r.steps (pipeline_of r.options))) ≡ flat_map (recorded word) (run_report r)
    first_line = sym (flat_map-append (recorded word) (lines.Begin r.options r.detail ∷ []) (lines_of r.steps (pipeline_of r.options)))
