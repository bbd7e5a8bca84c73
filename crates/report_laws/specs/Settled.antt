-- No `settle` runs out of rounds: settling ends where all is found quiet (own).
use Rattle.std.specs.Prelude.{◌≡◌, Bool, true, false, List, All}
use Rattle.std.specs.List.{list_all}
use Rattle.schedule_text.specs.declared.line.Line.{Line}
use Rattle.schedule_text.specs.declared.line.Line.TheVariants as lines
use Rattle.split_model.specs.Happening.{Happening, Settles}

abbrev pub is_unsettled : Line → Bool
is_unsettled lines.Unsettled = true
is_unsettled line = false

-- no line says that rounds ran out
abbrev pub IsSettled : List Line → Type 0
IsSettled report = All (λ (line : Line). is_unsettled line ≡ false) report

-- settling ended in quiet, where this is its end
abbrev pub ends_quiet : Happening → Bool
ends_quiet (Settles quiet) = quiet
ends_quiet h = true

abbrev pub AreSettled : List Happening → Type 0
AreSettled history = list_all ends_quiet history ≡ true
