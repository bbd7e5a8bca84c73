-- The touch rule: the back and its jobs touch the guest's memory through mappings that stand, and through no other (`grant_table.h`).
use Rattle.std.specs.Prelude.{◌≡◌, List, IsSomeAnd}
use Rattle.blk_base.specs.declared.parts.Mode.TheVariants.{ReadWrite}
use Rattle.blk_base.specs.declared.moves.Move.TheVariants as moves
use Rattle.schedule_text.specs.declared.line.Line.{Line}
use Rattle.schedule_text.specs.declared.line.Line.TheVariants as lines
use Rattle.report_rules.specs.Obeys.{Obeys}
use Rattle.report_rules.specs.Standing.{standing_after, numbered}

-- a read or write names a mapping that stands, and shows its frame; a write goes through a mapping for writing
abbrev pub IsTouchAt : List Line → Line → Type 0
IsTouchAt before (lines.Move (moves.Read who number frame word value)) =
    IsSomeAnd (numbered number (standing_after before)) (λ s. s.frame ≡ frame)
IsTouchAt before (lines.Move (moves.Write who number frame word value)) =
    IsSomeAnd (numbered number (standing_after before)) (λ s. (s.frame ≡ frame) × (s.mode ≡ ReadWrite))
IsTouchAt before line = Unit {0}

abbrev pub AreTouches : List Line → Type 0
AreTouches report = Obeys IsTouchAt report
