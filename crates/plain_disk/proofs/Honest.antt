-- The honest part of a report, line by line.
use Rattle.std.proofs.Common.{◌≡◌, Bool, true, false, List, [], ◌∷◌, ◌++◌, cond, ap, ◌∙◌}
use Rattle.std.proofs.lemmas.List.Sums.{take_while-cons}
use Rattle.schedule_text.specs.declared.line.Line.{Line}
use Rattle.plain_disk.specs.Honest.{is_honest, honest_part}

-- an honest line belongs to it, and a hostile one ends it
pub honest_more : (line : Line) (rest : List Line) → is_honest line ≡ true → honest_part (line ∷ rest) ≡ line ∷ honest_part rest
honest_more line rest honest = take_while-cons is_honest line rest ∙ ap (λ (b : Bool). cond b (line ∷ honest_part rest) []) honest

pub honest_ends : (line : Line) (rest : List Line) → is_honest line ≡ false → honest_part (line ∷ rest) ≡ []
honest_ends line rest hostile = take_while-cons is_honest line rest ∙ ap (λ (b : Bool). cond b (line ∷ honest_part rest) []) hostile
