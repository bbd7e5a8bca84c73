-- How a report begins: with a `begin` line, which says the options of the run and whether moves are shown.
use Rattle.std.specs.Prelude.{◌≡◌, Bool, true, false, List, [], ◌∷◌, All}
use Rattle.blk_base.specs.Options.{Options}
use Rattle.schedule_text.specs.declared.line.Detail.{Detail}
use Rattle.schedule_text.specs.declared.line.Detail.TheVariants.{Lines}
use Rattle.schedule_text.specs.declared.line.Line.{Line}
use Rattle.schedule_text.specs.declared.line.Line.TheVariants as lines

abbrev pub is_begin : Line → Bool
is_begin (lines.Begin config detail) = true
is_begin line = false

abbrev pub is_move : Line → Bool
is_move (lines.Move move) = true
is_move line = false

-- `begin` is the first line and stands nowhere else, and the lines of moves stand only where it says `moves`
pub record IsBegun (config : Options) (detail : Detail) (report : List Line) : Type 0 where
  pub rest : List Line
  pub first : report ≡ lines.Begin config detail ∷ rest
  pub once : All (λ (line : Line). is_begin line ≡ false) rest
  pub unmoved : detail ≡ Lines → All (λ (line : Line). is_move line ≡ false) rest

-- so is the beginning of a report, once it has a line
abbrev pub IsBegunSoFar : Options → Detail → List Line → Type 0
IsBegunSoFar config detail [] = Unit {0}
IsBegunSoFar config detail (line ∷ rest) = IsBegun config detail (line ∷ rest)
