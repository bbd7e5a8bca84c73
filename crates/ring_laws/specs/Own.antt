-- A fact about this machine, and no rule of reports: its jobs touch the guest's memory only through mappings that they made themselves, since it keeps none for later requests. (A rule is that a job goes through the mapping that its own map of the segment gave, or through one that is kept.)
use Rattle.std.specs.Prelude.{◌≡◌, true, List, is_some}
use Rattle.blk_base.specs.declared.moves.BackMover.TheVariants as back
use Rattle.blk_base.specs.declared.moves.Move.TheVariants as moves
use Rattle.schedule_text.specs.declared.line.Line.{Line}
use Rattle.schedule_text.specs.declared.line.Line.TheVariants as lines
use Rattle.report_rules.specs.Obeys.{Obeys}
use Rattle.report_rules.specs.Standing.{numbered}
use Rattle.report_rules.specs.Made.{held_by}

-- a job reads and writes through a mapping that stands and that it made itself
abbrev pub IsOwnAt : List Line → Line → Type 0
IsOwnAt before (lines.Move (moves.Read (back.Job k) number frame word value)) = is_some (numbered number (held_by k before)) ≡ true
IsOwnAt before (lines.Move (moves.Write (back.Job k) number frame word value)) = is_some (numbered number (held_by k before)) ≡ true
IsOwnAt before line = Unit {0}

abbrev pub AreOwn : List Line → Type 0
AreOwn report = Obeys IsOwnAt report
