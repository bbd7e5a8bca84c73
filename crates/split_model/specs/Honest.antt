-- What happened before a hostile hand first overwrote a word or a key.
use Rattle.std.specs.Prelude.{List, [], ◌∷◌}
use Rattle.split_model.specs.Happening.{Happening, Pokes, OverwritesKey}

-- all of it where no word and no key was overwritten
abbrev pub honest_history : List Happening → List Happening
honest_history [] = []
honest_history (Pokes frame word value ∷ history) = []
honest_history (OverwritesKey name text ∷ history) = []
honest_history (h ∷ history) = h ∷ honest_history history
