-- What the rules on moves say of a report whose first line says that moves are shown.
use Rattle.std.specs.Prelude.{List, ◌∷◌}
use Rattle.blk_base.specs.Options.{Options}
use Rattle.schedule_text.specs.declared.line.Detail.TheVariants.{Moves}
use Rattle.schedule_text.specs.declared.line.Line.{Line}
use Rattle.schedule_text.specs.declared.line.Line.TheVariants as lines
use Rattle.checked_rules.specs.Rules.{move_rules, ObeysEach}

-- so it is of each that keeps them
abbrev pub OfShown : (List Line → Type 0) → Type 0
OfShown Claim = (config : Options) (rest : List Line) → ObeysEach move_rules (lines.Begin config Moves ∷ rest) → Claim (lines.Begin config Moves ∷ rest)
