-- The front begins to close once in a run.
use Rattle.std.proofs.Common.{◌≡◌, Bool, true, false, true≢false, ◌||◌, List, [], ◌∷◌, ◌++◌, refl, sym, ◌∙◌, subst, append_assoc}
use Rattle.std.specs.List.{list_any}
use Rattle.std.proofs.lemmas.List.Folds.{list_any-append}
use Rattle.std.proofs.Math.Bool.{or-false}
use Rattle.schedule_text.specs.declared.line.Detail.{Detail}
use Rattle.schedule_text.specs.declared.line.Detail.TheVariants.{Lines, Moves}
use Rattle.schedule_text.specs.declared.line.Line.{Line}
use Rattle.schedule_text.specs.declared.line.Line.TheVariants as lines
use Rattle.schedule_text.specs.Recorder.{kept_of}
use Rattle.vbd_laws.specs.StateLines.{is_closing, new_front, said_by, StandsHere, StandAsSaid}
use Rattle.event_laws.specs.Closing.{ClosesOnce}
use Rattle.event_laws.proofs.Closing.{begun_shown}

one_more : (a b : Bool) → (a || (b || false)) ≡ (b || a)
one_more true true = refl
one_more true false = refl
one_more false true = refl
one_more false false = refl

-- where the lines of the front's state stand as they are due
pub stands_once : (before ls : List Line) → StandAsSaid (before ++ ls) → ClosesOnce (list_any is_closing before) ls
stands_once before [] stand = tt
stands_once before (line ∷ ls) stand = (
  λ closing. (let is : StandsHere (said_by before) line = stand before ls line refl in sym (begun_shown new_front before ∙ or-false (list_any is_closing before)) ∙ is.once closing),
  subst (λ (b : Bool). ClosesOnce b ls) (list_any-append is_closing before (line ∷ []) ∙ one_more (list_any is_closing before) (is_closing line))
      (stands_once (before ++ line ∷ []) ls (subst (λ (l : List Line). StandAsSaid l) (sym (append_assoc before (line ∷ []) ls)) stand)),
)

-- so with any recorder
pub kept_once : (detail : Detail) (begun : Bool) (ls : List Line) → ClosesOnce begun (kept_of Moves ls) → ClosesOnce begun (kept_of detail ls)
kept_once detail begun [] once = tt
kept_once detail begun (lines.Begin config word ∷ ls) once = (λ closing. absurd (true≢false (sym closing)), kept_once detail begun ls once.1)
kept_once Lines begun (lines.Move move ∷ ls) once = kept_once Lines begun ls once.1
kept_once detail begun (line ∷ ls) once = (once.0, kept_once detail (is_closing line || begun) ls once.1)
