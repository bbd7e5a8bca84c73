-- The outline of a report: whether it has begun and ended, whether it shows moves, and whether a hostile line came. It is kept as a state that takes one step a line.
use Rattle.std.specs.Prelude.{Bool, true, false, not, ◌&&◌, ◌||◌, if◌then◌else◌, List, fold}
use Rattle.schedule_text.specs.declared.line.Line.{Line}
use Rattle.plain_disk.specs.Honest.{is_honest}
use Rattle.checked_rules.specs.Lines.{is_begin, shows_moves, is_end, is_move}

pub record Outline : Type 0 where
  pub begun : Bool
  pub shown : Bool
  pub hostile : Bool
  pub ended : Bool

abbrev pub no_lines : Outline
no_lines = record { begun = false; shown = false; hostile = false; ended = false }

-- the outline one line further on
abbrev pub outlined : Outline → Line → Outline
outlined o line = record {
  begun = true;
  shown = o.shown || shows_moves line;
  hostile = o.hostile || not (is_honest line);
  ended = o.ended || is_end line;
}

abbrev pub outline_of : List Line → Outline
outline_of before = fold outlined no_lines before

-- the line may come next in such an outline
abbrev pub allows_order : Outline → Line → Bool
allows_order o line = (if o.begun then not (is_begin line) else is_begin line) && not o.ended && (not (is_move line) || o.shown)
