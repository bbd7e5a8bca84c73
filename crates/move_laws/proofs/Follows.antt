-- Lines that the rules on memory and mappings allow, and that tell what is there.
use Rattle.std.specs.Prelude.{ℕ, List}
use Rattle.grant_table.specs.Table.{GrantTable}
use Rattle.schedule_text.specs.declared.line.Line.{Line}
use Rattle.report_rules.specs.Obeys.{Obeys}
use Rattle.report_rules.specs.Coherent.{IsCoherentAt}
use Rattle.report_rules.specs.Mapped.{IsMapAnswerAt}
use Rattle.report_rules.specs.Touch.{IsTouchAt}
use Rattle.move_laws.specs.Grantable.{IsGrantableAt}
use Rattle.move_laws.specs.Numbers.{IsNumberedAt}
use Rattle.move_laws.specs.Tells.{Tells}

-- the line may follow these by the rules on memory and mappings
pub record IsAllowed (before : List Line) (line : Line) : Type 0 where
  pub coherent : IsCoherentAt before line
  pub answered : IsMapAnswerAt before line
  pub numbered : IsNumberedAt before line
  pub touched : IsTouchAt before line
  pub grantable : IsGrantableAt before line

-- each of the lines may, and together they tell what is there
pub record Follows (lines : List Line) (pages : List ℕ) (table : GrantTable) : Type 0 where
  pub obeys : Obeys IsAllowed lines
  pub tells : Tells lines pages table
