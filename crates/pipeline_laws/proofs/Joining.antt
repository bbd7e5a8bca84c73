-- Steps after steps: what holds of both holds of all, for a machine that makes its steps a few at a time.
use Rattle.std.proofs.Common.{◌≡◌, ℕ, List, [], ◌∷◌, ◌++◌, refl, ap, sym, ◌∙◌, append_assoc, subst}
use Rattle.std.proofs.lemmas.List.Elements.{filter_map-append}
use Rattle.schedule_text.specs.declared.line.Line.{Line}
use Rattle.pipeline_laws.specs.Pipeline.{Pipeline, Step, next, step_lines, after_steps, lines_of}
use Rattle.pipeline_laws.specs.Allowed.{AreAllowed}
use Rattle.pipeline_laws.specs.Disk.{DiskRuns}
use Rattle.pipeline_laws.specs.Submissions.{submitted_at, submitted_of}

pub after_append : (steps rest : List Step) (p : Pipeline) → after_steps (steps ++ rest) p ≡ after_steps rest (after_steps steps p)
after_append [] rest p = refl
after_append (s ∷ steps) rest p = after_append steps rest (next p s)

pub allowed_append : (steps rest : List Step) (p : Pipeline) → AreAllowed steps p → AreAllowed rest (after_steps steps p) → AreAllowed (steps ++ rest) p
allowed_append [] rest p may further = further
allowed_append (s ∷ steps) rest p may further = (may.0, allowed_append steps rest (next p s) may.1 further)

pub lines_append : (steps rest : List Step) (p : Pipeline) → lines_of (steps ++ rest) p ≡ lines_of steps p ++ lines_of rest (after_steps steps p)
lines_append [] rest p = refl
lines_append (s ∷ steps) rest p = ap (λ (ls : List Line). step_lines p s ++ ls) (lines_append steps rest (next p s)) ∙ sym (append_assoc (step_lines p s) (lines_of steps (next p s)) (lines_of rest (after_steps steps (next p s))))

pub runs_append : (steps rest : List Step) (before between after : List (List ℕ)) → DiskRuns steps before between → DiskRuns rest between after → DiskRuns (steps ++ rest) before after
runs_append [] rest before between after runs further = subst (λ (c : List (List ℕ)). DiskRuns rest c after) runs further
runs_append (s ∷ steps) rest before between after runs further = (runs.0, runs.1, runs_append steps rest runs.0 between after runs.2 further)

pub submitted_append : (steps rest : List Step) → submitted_of (steps ++ rest) ≡ submitted_of steps ++ submitted_of rest
submitted_append steps rest = filter_map-append submitted_at steps rest
