-- Which frames the back and its jobs touch: of those that domain 1 may grant, 2 to 1023, and no word of the grant table, which is frames 0 and 1, or of the other domain's.
use Rattle.std.specs.Prelude.{◌≤◌, List}
use Rattle.blk_base.specs.declared.moves.Move.TheVariants as moves
use Rattle.schedule_text.specs.declared.line.Line.{Line}
use Rattle.schedule_text.specs.declared.line.Line.TheVariants as lines
use Rattle.report_rules.specs.Obeys.{Obeys}

abbrev pub IsGrantableAt : List Line → Line → Type 0
IsGrantableAt before (lines.Move (moves.Read who number frame word value)) = (2 ≤ frame) × (frame ≤ 1023)
IsGrantableAt before (lines.Move (moves.Write who number frame word value)) = (2 ≤ frame) × (frame ≤ 1023)
IsGrantableAt before line = Unit {0}

-- each read and write of the back or a job shows such a frame
abbrev pub AreGrantable : List Line → Type 0
AreGrantable report = Obeys IsGrantableAt report
