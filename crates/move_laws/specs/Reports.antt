-- What is said of every history of the machine, and of its report, with the options of a ring of 1 to 16 pages.
use Rattle.std.specs.Prelude.{◌≤◌, List}
use Rattle.blk_base.specs.Options.{Options}
use Rattle.schedule_text.specs.declared.line.Detail.{Detail}
use Rattle.schedule_text.specs.declared.line.Line.{Line}
use Rattle.split_model.specs.World.{start_of}
use Rattle.split_model.specs.Happening.{Happening, lines_of}
use Rattle.split_model.specs.Report.{report_of, ended_report_of}

-- of the lines of each history
abbrev pub OfLines : (List Line → Type 0) → Type 0
OfLines Rule = (config : Options) (history : List Happening) → config.order ≤ 4 → Rule (lines_of history (start_of config))

-- of its report
abbrev pub OfReports : (List Line → Type 0) → Type 0
OfReports Rule = (config : Options) (detail : Detail) (history : List Happening) → config.order ≤ 4 → Rule (report_of config detail history)

-- of its report with its last line
abbrev pub OfEnded : (List Line → Type 0) → Type 0
OfEnded Rule = (config : Options) (detail : Detail) (history : List Happening) → config.order ≤ 4 → Rule (ended_report_of config detail history)
