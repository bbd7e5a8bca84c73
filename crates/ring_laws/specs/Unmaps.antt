-- A fact about this machine, and no rule of reports: its jobs unmap only what they hold. (A rule is only that at a reply no mapping of its job stands but a kept one, whoever unmapped the others.)
use Rattle.std.specs.Prelude.{◌≡◌, true, List, is_some}
use Rattle.blk_base.specs.declared.moves.BackMover.TheVariants as back
use Rattle.blk_base.specs.declared.moves.Move.TheVariants as moves
use Rattle.schedule_text.specs.declared.line.Line.{Line}
use Rattle.schedule_text.specs.declared.line.Line.TheVariants as lines
use Rattle.report_rules.specs.Obeys.{Obeys}
use Rattle.report_rules.specs.Standing.{numbered}
use Rattle.report_rules.specs.Made.{held_by}

-- a job unmaps a mapping that stands and that it made itself
abbrev pub IsUnmapAt : List Line → Line → Type 0
IsUnmapAt before (lines.Move (moves.Unmap (back.Job k) number)) = is_some (numbered number (held_by k before)) ≡ true
IsUnmapAt before line = Unit {0}

abbrev pub AreUnmaps : List Line → Type 0
AreUnmaps report = Obeys IsUnmapAt report
