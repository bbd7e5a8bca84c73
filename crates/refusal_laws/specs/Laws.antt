-- What is said of every report of the machine, whatever happens, hostile hands, suspends and closes among it.
use Rattle.std.specs.Prelude.{List, Option, Some, None}
use Rattle.std.specs.List.{filter_map}
use Rattle.blk_base.specs.Options.{Options}
use Rattle.blk_base.specs.declared.config.Submission.{Submission}
use Rattle.schedule_text.specs.declared.line.Detail.{Detail}
use Rattle.schedule_text.specs.Range.{AreOptions}
use Rattle.schedule_text.specs.Recorder.{kept_of}
use Rattle.vbd_model.specs.World.{start_of}
use Rattle.vbd_model.specs.Happening.{Happening, Submits}
use Rattle.vbd_model.specs.Possible.{ArePossible}
use Rattle.vbd_model.specs.Report.{report_of, ended_report_of}
use Rattle.refusal_laws.specs.Ruled.{AreRuled}

-- the requests that a history submits, in order
abbrev pub submitted_at : Happening → Option Submission
submitted_at (Submits submission) = Some submission
submitted_at h = None

abbrev pub submitted_of : List Happening → List Submission
submitted_of history = filter_map submitted_at history

-- each submission of each history is answered by the first rule that applies, with options of the grammar, in the report with moves and in that without
abbrev pub EachReportIsRuled : Type 0
EachReportIsRuled =
    (config : Options) (detail : Detail) (history : List Happening) → AreOptions config → ArePossible history (start_of config)
    → AreRuled (submitted_of history) (kept_of detail (report_of config detail history))

-- so it is with the last line
abbrev pub EachEndedIsRuled : Type 0
EachEndedIsRuled =
    (config : Options) (detail : Detail) (history : List Happening) → AreOptions config → ArePossible history (start_of config)
    → AreRuled (submitted_of history) (kept_of detail (ended_report_of config detail history))
