-- Worked reports that answer wrongly.
use Rattle.std.specs.Prelude.{List, [], ◌∷◌}
use Rattle.blk_base.specs.declared.operation.Status.TheVariants.{Okay, Error, Unsupported}
use Rattle.schedule_text.specs.declared.line.Line.{Line}
use Rattle.schedule_text.specs.declared.line.Line.TheVariants as lines

-- request 1 is answered `error`, and the disk didn't fail
abbrev pub failed_alone : List Line
failed_alone = lines.Answer 1 Error ∷ []

-- it is answered `error`, and the disk failed at another request
abbrev pub failed_at_another : List Line
failed_at_another = lines.Fault 2 0 ∷ lines.Answer 1 Error ∷ []

-- it is answered `ok` after the disk failed at it
abbrev pub okay_after_fault : List Line
okay_after_fault = lines.Fault 1 0 ∷ lines.Answer 1 Okay ∷ []

-- it is answered `error`, and the disk failed at it in the epoch before
abbrev pub failed_before : List Line
failed_before = lines.Fault 1 0 ∷ lines.Epoch ∷ lines.Answer 1 Error ∷ []

-- it is answered `unsupported`
abbrev pub unsupported : List Line
unsupported = lines.Answer 1 Unsupported ∷ []
