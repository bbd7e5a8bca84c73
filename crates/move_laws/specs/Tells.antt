-- The machine and its report side by side: what the lines tell of memory and mappings is what lies there.
use Rattle.std.specs.Prelude.{◌≡◌, ℕ, ◌<◌, List, length, map, All}
use Rattle.grant_table.specs.declared.held.Held.{Held}
use Rattle.grant_table.specs.Table.{GrantTable}
use Rattle.grant_table.specs.Sound.{IsGrantable}
use Rattle.xen_pages.specs.Pages.{word_of}
use Rattle.schedule_text.specs.declared.line.Line.{Line}
use Rattle.report_rules.specs.declared.standing.Standing.{Standing}
use Rattle.report_rules.specs.Standing.{standing_after}
use Rattle.report_rules.specs.Value.{value_before}
use Rattle.move_laws.specs.Numbers.{greatest_number}

-- a live mapping as a report knows it
abbrev pub standing_of : Held → Standing
standing_of held = record { number = held.mapping.number; gref = held.mapping.gref; mode = held.mapping.mode; frame = held.frame }

-- each word of the 1088 frames has the value that the lines tell; the mappings that stand are those that live, and the greatest number is that of the last one made
pub record Tells (lines : List Line) (pages : List ℕ) (table : GrantTable) : Type 0 where
  pub sized : length pages ≡ 1114112
  pub values : (frame word : ℕ) → frame < 1088 → word < 1024 → value_before lines frame word ≡ word_of pages frame word
  pub standing : standing_after lines ≡ map standing_of table.live
  pub made : greatest_number lines ≡ table.made
  pub grantable : All IsGrantable table.live
