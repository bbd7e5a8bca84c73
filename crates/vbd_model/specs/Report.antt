-- The report of a history of the machine.
use Rattle.std.specs.Prelude.{List, [], ◌∷◌, ◌++◌}
use Rattle.blk_base.specs.Options.{Options}
use Rattle.schedule_text.specs.declared.line.Detail.{Detail}
use Rattle.schedule_text.specs.declared.line.Line.{Line}
use Rattle.schedule_text.specs.declared.line.Line.TheVariants.{Begin, End}
use Rattle.vbd_model.specs.World.{start_of}
use Rattle.vbd_model.specs.Happening.{Happening, lines_of}

-- its first line, and the lines of all that happened from the start
abbrev pub report_of : Options → Detail → List Happening → List Line
report_of config detail history = Begin config detail ∷ lines_of history (start_of config)

-- with its last line
abbrev pub ended_report_of : Options → Detail → List Happening → List Line
ended_report_of config detail history = report_of config detail history ++ End ∷ []
