-- The report of the pipeline obeys a rule where each of its steps does.
use Rattle.std.proofs.Common.{◌≡◌, ℕ, true, inl, inr, List, [], ◌∷◌, ◌++◌, sym, subst, append_assoc}
use Rattle.std.proofs.lemmas.List.{append-nil}
use Rattle.schedule_text.specs.declared.line.Line.{Line}
use Rattle.report_rules.specs.Obeys.{Obeys}
use Rattle.report_rules.proofs.Obeys.{obeys_more}
use Rattle.pipeline_laws.specs.Move.{Move, move_lines}
use Rattle.pipeline_laws.specs.Pipeline.{Pipeline, Step, next, step_lines, lines_of}
use Rattle.pipeline_laws.specs.Allowed.{IsAllowed, AreAllowed}
use Rattle.pipeline_laws.specs.Disk.{DiskRuns}
use Rattle.pipeline_laws.proofs.Running.{is_of_request, move_shows, IsSoFar, so_far_more}

-- a move obeys a rule that lets each line of a request stand
pub move_obeys : (IsRight : List Line → Line → Type 0) (before : List Line) (k : ℕ) (move : Move) → ((line : Line) → is_of_request line ≡ true → IsRight before line) → Obeys IsRight before → Obeys IsRight (before ++ move_lines k move)
move_obeys IsRight before k move right obeys = elim (move_shows k move) [
  | inl none ↦ subst (λ (ls : List Line). Obeys IsRight (before ++ ls)) (sym none) (subst (λ (ls : List Line). Obeys IsRight ls) (sym (append-nil before)) obeys)
  | inr one ↦ subst (λ (ls : List Line). Obeys IsRight (before ++ ls)) (sym one.1) (obeys_more IsRight before one.0 obeys (right one.0 one.2))
]

-- a rule that each step obeys, wherever the pipeline stands
abbrev pub Holds : (List Line → Line → Type 0) → Type 0
Holds IsRight = (before : List Line) (p : Pipeline) (content : List (List ℕ)) (s : Step) → IsAllowed p s → IsSoFar [] before p content → Obeys IsRight before → Obeys IsRight (before ++ step_lines p s)

pub all_obey : (IsRight : List Line → Line → Type 0) (steps : List Step) (before : List Line) (p : Pipeline) (content later : List (List ℕ)) → Holds IsRight → AreAllowed steps p → DiskRuns steps content later → IsSoFar [] before p content → Obeys IsRight before → Obeys IsRight (before ++ lines_of steps p)
all_obey IsRight [] before p content later holds may runs so obeys = subst (λ (ls : List Line). Obeys IsRight ls) (sym (append-nil before)) obeys
all_obey IsRight (s ∷ steps) before p content later holds may runs so obeys =
    subst (λ (ls : List Line). Obeys IsRight ls) (append_assoc before (step_lines p s) (lines_of steps (next p s)))
    (all_obey IsRight steps (before ++ step_lines p s) (next p s) runs.0 later holds may.1 runs.2 (so_far_more [] before p content runs.0 s may.0 runs.1 so) (holds before p content s may.0 so obeys))
