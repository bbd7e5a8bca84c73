-- A report is lines of the grammar, and its text gives back exactly these lines.
use Rattle.std.specs.Prelude.{◌≡◌, List, All}
use Rattle.schedule_text.specs.declared.line.Line.{Line}
use Rattle.schedule_text.specs.Range.{IsInRange}
use Rattle.schedule_text.specs.Recorder.{report_text}

-- each line is one of the grammar: its numbers and texts are in range
abbrev pub AreInGrammar : List Line → Type 0
AreInGrammar report = All IsInRange report

-- and whatever lines of the grammar have this text are these
pub record IsInGrammar (report : List Line) : Type 0 where
  pub lines : AreInGrammar report
  pub exact : (other : List Line) → AreInGrammar other → report_text other ≡ report_text report → other ≡ report
