-- The lines that a report begins and ends with, and those of moves.
use Rattle.std.specs.Prelude.{Bool, true, false}
use Rattle.schedule_text.specs.declared.line.Detail.TheVariants as detail
use Rattle.schedule_text.specs.declared.line.Line.{Line}
use Rattle.schedule_text.specs.declared.line.Line.TheVariants as lines

abbrev pub is_begin : Line → Bool
is_begin (lines.Begin config detail) = true
is_begin line = false

-- `begin` says that moves are shown
abbrev pub shows_moves : Line → Bool
shows_moves (lines.Begin config detail.Moves) = true
shows_moves line = false

abbrev pub is_end : Line → Bool
is_end lines.End = true
is_end line = false

abbrev pub is_move : Line → Bool
is_move (lines.Move move) = true
is_move line = false
