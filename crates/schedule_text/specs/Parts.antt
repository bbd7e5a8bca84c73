-- What the functions promise that read or write one part of a line.
use Rattle.std.specs.Prelude.{◌≡◌, ℕ, ◌<◌, ◌≤◌, List, ◌++◌}
use Rattle.arrayvec.specs.ArrayString.{ArrayString, array_string_len}
use Rattle.line_text.specs.Words.{spaced}
use Rattle.schedule_text.specs.declared.line.Line.{Line}
use Rattle.schedule_text.specs.Line.{text_of}
use Rattle.schedule_text.specs.Range.{HasWidths}

-- these words were added to the text, each after a space, and it has that many bytes at most
pub record AddsWords (words : List (List ℕ)) (most : ℕ) (before after : ArrayString) : Type 0 where
  pub bytes : after.bytes ≡ before.bytes ++ spaced words
  pub len : array_string_len after ≤ most

-- the text is that of the line, and there is room for what may follow
pub record IsWritten (line : Line) (text : ArrayString) : Type 0 where
  pub written : text.bytes ≡ text_of line
  pub short : array_string_len text < 1000

-- what was read is this line, and its numbers have their widths
pub record IsReadAs (said : Line) (line : Line) : Type 0 where
  pub says : line ≡ said
  pub widths : HasWidths line
