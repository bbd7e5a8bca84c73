-- The exit status and the line of the error output, for each reason why the status isn't 0.
use Rattle.std.specs.Prelude.{ℕ, List, [], ◌∷◌, ◌++◌, codes, decimal, Option, Some, None}
use Rattle.commands.specs.declared.status.Stop.{Stop}
use Rattle.commands.specs.declared.status.Stop.TheVariants.{Broken, Length, Words, BadLine, Source, Sink, OutOfMemory, Image, TooLong}

abbrev pub status_of : Stop → ℕ
status_of Broken = 1
status_of (Length count expected) = 1
status_of Words = 2
status_of (BadLine number) = 3
status_of Source = 4
status_of Sink = 5
status_of OutOfMemory = 6
status_of Image = 7
status_of TooLong = 8

-- a line of the error output
abbrev pub error_line : List ℕ → List ℕ
error_line reason = codes "blkring: " ++ reason ++ 10 ∷ []

-- where a report breaks a rule the output says which, and the error output nothing
abbrev pub line_of : Stop → Option (List ℕ)
line_of Broken = None
line_of (Length count expected) = Some (error_line (decimal count ++ codes " bytes, expected " ++ decimal expected))
line_of Words = Some (error_line (codes "bad command line"))
line_of (BadLine number) = Some (error_line (codes "line " ++ decimal number ++ codes ": not in the grammar"))
line_of Source = Some (error_line (codes "the input failed"))
line_of Sink = Some (error_line (codes "the output failed"))
line_of OutOfMemory = Some (error_line (codes "out of memory"))
line_of Image = Some (error_line (codes "the image failed"))
line_of TooLong = Some (error_line (codes "the input is too long"))
