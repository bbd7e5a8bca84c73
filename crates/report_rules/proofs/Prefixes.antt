-- What looks back over the lines, one line further on.
use Rattle.std.proofs.Common.{◌≡◌, List, [], ◌∷◌, ◌++◌, refl, ap, ◌∙◌}
use Rattle.std.specs.Prelude.{reverse}
use Rattle.std.proofs.lemmas.List.{reverse-append, reverse-reverse}
use Rattle.schedule_text.specs.declared.line.Line.{Line}
use Rattle.report_rules.specs.Stretch.{fetching_after, fetching_back, fetching_of}
use Rattle.report_rules.specs.Reply.{answered_after, answered_in, back_before}

-- what was fetched, with one line more
pub fetching_more : (before : List Line) (line : Line) → fetching_of (before ++ line ∷ []) ≡ fetching_after (fetching_of before) before line
fetching_more before line = ap fetching_back (reverse-append before (line ∷ [])) ∙ ap (λ (ls : List Line). fetching_after (fetching_back (reverse before)) ls line) (reverse-reverse before)

-- the jobs that had their reply, with one line more
pub answered_more : (before : List Line) (line : Line) → answered_in (before ++ line ∷ []) ≡ answered_after (answered_in before) before line
answered_more before line = rw (reverse-append before (line ∷ []), reverse-reverse before) refl

-- no word more is to be passed
pub none_passed : (before xs : List Line) → back_before before 0 xs ≡ xs
none_passed before [] = refl
none_passed before (x ∷ xs) = refl
