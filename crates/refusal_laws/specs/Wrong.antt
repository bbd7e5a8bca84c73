-- Worked reports that no machine gives, each with a hostile line before the submission.
use Rattle.std.specs.Prelude.{List, [], ◌∷◌}
use Rattle.blk_base.specs.Options.{Options}
use Rattle.blk_base.specs.declared.config.Submission.TheVariants.{Read}
use Rattle.schedule_text.specs.declared.line.Detail.{Detail}
use Rattle.blk_base.specs.declared.refusal.Refusal.TheVariants as refusal
use Rattle.schedule_text.specs.declared.line.Line.{Line}
use Rattle.schedule_text.specs.declared.line.Line.TheVariants as lines

-- a read of one sector is refused as one too many, where no request is open
abbrev pub full_though_empty : Options → Detail → List Line
full_though_empty config detail = lines.Begin config detail ∷ lines.Ready ∷ lines.Poke 2 0 1 ∷ lines.Refuse refusal.Full ∷ []

-- one is accepted while the front closes
abbrev pub taken_while_closing : Options → Detail → List Line
taken_while_closing config detail = lines.Begin config detail ∷ lines.Ready ∷ lines.Poke 2 0 1 ∷ lines.Closing ∷ lines.Submit 1 (Read 0 1) ∷ []

-- a write to a disk that is read-only is refused as past its end
abbrev pub range_though_read_only : Options → Detail → List Line
range_though_read_only config detail = lines.Begin config detail ∷ lines.Ready ∷ lines.Poke 2 0 1 ∷ lines.Refuse refusal.Range ∷ []
