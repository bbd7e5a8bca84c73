-- Lists of lines of the grammar.
use Rattle.std.proofs.Common.{◌≡◌, true, List, [], ◌∷◌, ◌++◌}
use Rattle.std.specs.List.{AllByRecursion}
use Rattle.schedule_text.specs.declared.line.Line.{Line}
use Rattle.schedule_text.specs.Range.{IsInRange, HasWidths, is_allowed}

abbrev pub AreGood : List Line → Type 0
AreGood ls = AllByRecursion IsInRange ls

pub good : (line : Line) → HasWidths line → is_allowed line ≡ true → IsInRange line
good line widths allowed = record { widths = widths; allowed = allowed }

pub both_good : (a b : List Line) → AreGood a → AreGood b → AreGood (a ++ b)
both_good [] b p q = q
both_good (line ∷ a) b p q = (p.0, both_good a b p.1 q)
