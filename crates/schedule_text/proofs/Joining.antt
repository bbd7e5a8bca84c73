-- Words put after words.
use Rattle.std.proofs.Common.{◌≡◌, ℕ, List, [], ◌∷◌, ◌++◌, refl, sym, ap, ◌∙◌, append_assoc}
use Rattle.line_text.specs.Words.{spaced}

pub spaced-append : (a b : List (List ℕ)) → spaced (a ++ b) ≡ spaced a ++ spaced b
spaced-append [] b = refl
spaced-append (w ∷ ws) b = ap (λ (x : List ℕ). 32 ∷ (w ++ x)) (spaced-append ws b) ∙ ap (λ (x : List ℕ). 32 ∷ x) (sym (append_assoc w (spaced ws) (spaced b)))
