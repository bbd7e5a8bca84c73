-- A fact about this machine, and no rule of reports: the numbers of mappings ascend by one from 1, over all epochs. (A rule is only that a map's number is new.)
use Rattle.std.specs.Prelude.{◌≡◌, ℕ, ◌+◌, max, List, fold, Option, Some, None}
use Rattle.blk_base.specs.declared.moves.Move.TheVariants as moves
use Rattle.schedule_text.specs.declared.line.Line.{Line}
use Rattle.schedule_text.specs.declared.line.Line.TheVariants as lines
use Rattle.report_rules.specs.declared.standing.Standing.{Standing}
use Rattle.report_rules.specs.Obeys.{Obeys}
use Rattle.report_rules.specs.Standing.{mapping_made}

abbrev pub greater_number : ℕ → Option Standing → ℕ
greater_number greatest None = greatest
greater_number greatest (Some made) = max greatest made.number

-- the greatest number that a mapping got so far, in any epoch; 0 where none was made
abbrev pub greatest_number : List Line → ℕ
greatest_number before = fold (λ (greatest : ℕ) (line : Line). greater_number greatest (mapping_made line)) 0 before

abbrev pub IsNumberedAt : List Line → Line → Type 0
IsNumberedAt before (lines.Move (moves.Map who gref mode number frame)) = number ≡ greatest_number before + 1
IsNumberedAt before line = Unit {0}

-- each mapping has the number one above all earlier ones
abbrev pub AreNumbered : List Line → Type 0
AreNumbered report = Obeys IsNumberedAt report
