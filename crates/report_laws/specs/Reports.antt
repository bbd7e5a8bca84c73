-- What is said of every report of the machine, as a recorder keeps it, whatever its options, its detail and what happens.
use Rattle.std.specs.Prelude.{◌<◌, ◌^◌, List, length}
use Rattle.blk_base.specs.Options.{Options}
use Rattle.schedule_text.specs.declared.line.Detail.{Detail}
use Rattle.schedule_text.specs.declared.line.Detail.TheVariants.{Moves}
use Rattle.schedule_text.specs.declared.line.Line.{Line}
use Rattle.split_model.specs.World.{World, start_of}
use Rattle.split_model.specs.Happening.{Happening, after}
use Rattle.schedule_text.specs.Range.{AreOptions}
use Rattle.schedule_text.specs.Recorder.{kept_of}
use Rattle.split_model.specs.Report.{report_of, ended_report_of}
use Rattle.machine_pipeline.specs.Plain.{IsPlain}
use Rattle.machine_pipeline.specs.Allowed.{AreServed, ArePossible}
use Rattle.report_laws.specs.Agreed.{AreAgreed}

-- of the report of each history
abbrev pub OfEachReport : (Options → Detail → List Line → Type 0) → Type 0
OfEachReport Rule = (config : Options) (detail : Detail) (history : List Happening) → Rule config detail (kept_of detail (report_of config detail history))

-- of each with its last line
abbrev pub OfEachEnded : (Options → Detail → List Line → Type 0) → Type 0
OfEachEnded Rule = (config : Options) (detail : Detail) (history : List Happening) → Rule config detail (kept_of detail (ended_report_of config detail history))

-- of the report of each history of reads, writes, barriers, flushes and discards
abbrev pub OfServedReports : (Options → Detail → List Line → Type 0) → Type 0
OfServedReports Rule =
    (config : Options) (detail : Detail) (history : List Happening) → AreServed history (start_of config)
    → Rule config detail (kept_of detail (report_of config detail history))

-- of each of these with its last line
abbrev pub OfServedEnded : (Options → Detail → List Line → Type 0) → Type 0
OfServedEnded Rule =
    (config : Options) (detail : Detail) (history : List Happening) → AreServed history (start_of config)
    → Rule config detail (kept_of detail (ended_report_of config detail history))

-- of the report of each history that may happen, with words and keys overwritten and the domain suspended, with options of the grammar, where it has fewer than 2 ^ 64 lines
abbrev pub OfShortReports : (Options → Detail → List Line → Type 0) → Type 0
OfShortReports Rule =
    (config : Options) (detail : Detail) (history : List Happening) → AreOptions config → ArePossible history (start_of config) → length (report_of config detail history) < 2 ^ 64
    → Rule config detail (kept_of detail (report_of config detail history))

-- of each of these with its last line
abbrev pub OfShortEnded : (Options → Detail → List Line → Type 0) → Type 0
OfShortEnded Rule =
    (config : Options) (detail : Detail) (history : List Happening) → AreOptions config → ArePossible history (start_of config) → length (report_of config detail history) < 2 ^ 64
    → Rule config detail (kept_of detail (ended_report_of config detail history))

-- of the report of each history of reads, writes, barriers, flushes and discards, on a ring of 1 to 16 pages over a disk that may be written
abbrev pub OfPlainReports : (Options → Detail → List Line → Type 0) → Type 0
OfPlainReports Rule =
    (config : Options) (detail : Detail) (history : List Happening) → IsPlain config → AreServed history (start_of config)
    → Rule config detail (kept_of detail (report_of config detail history))

-- of each of these with its last line
abbrev pub OfPlainEnded : (Options → Detail → List Line → Type 0) → Type 0
OfPlainEnded Rule =
    (config : Options) (detail : Detail) (history : List Happening) → IsPlain config → AreServed history (start_of config)
    → Rule config detail (kept_of detail (ended_report_of config detail history))

-- of the report with moves of each history in which both ends' keys say one state wherever all is found quiet
abbrev pub OfAgreedReports : (List Line → Type 0) → Type 0
OfAgreedReports Rule = (config : Options) (history : List Happening) → AreAgreed history (start_of config) → Rule (kept_of Moves (report_of config Moves history))

-- of each of these with its last line
abbrev pub OfAgreedEnded : (List Line → Type 0) → Type 0
OfAgreedEnded Rule = (config : Options) (history : List Happening) → AreAgreed history (start_of config) → Rule (kept_of Moves (ended_report_of config Moves history))

-- of the machine after each history of reads, writes, barriers, flushes and discards, on such a ring
abbrev pub OfPlainMachines : (World → Type 0) → Type 0
OfPlainMachines Holds =
    (config : Options) (history : List Happening) → IsPlain config → AreServed history (start_of config)
    → Holds (after history (start_of config))
