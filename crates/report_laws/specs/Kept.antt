-- The same of the machine whose back may keep mappings (`feature-persistent` of `io/blkif.h`): what is said of each of its reports, as a recorder keeps it.
use Rattle.std.specs.Prelude.{◌≡◌, ◌<◌, ◌^◌, Bool, true, List, [], ◌∷◌, length}
use Rattle.std.specs.List.{list_all}
use Rattle.blk_base.specs.Options.{Options}
use Rattle.schedule_text.specs.declared.line.Detail.{Detail}
use Rattle.schedule_text.specs.declared.line.Detail.TheVariants.{Moves}
use Rattle.schedule_text.specs.declared.line.Line.{Line}
use Rattle.schedule_text.specs.Range.{AreOptions}
use Rattle.schedule_text.specs.Recorder.{kept_of}
use Rattle.split_model.specs.World.{World, start_of, is_quiet}
use Rattle.split_model.specs.Happening.{Looks, Settles}
use Rattle.split_model.specs.Kept.{KeepingHappening, Plainly, happens_keeping}
use Rattle.move_laws.specs.Kept.{report_keeping, ended_report_keeping}
use Rattle.machine_pipeline.specs.Allowed.{IsPossible}
use Rattle.report_laws.specs.Settled.{ends_quiet}
use Rattle.report_laws.specs.Agreed.{IsAgreed}

-- of the report of each history
abbrev pub OfEachReportKeeping : (Options → Detail → List Line → Type 0) → Type 0
OfEachReportKeeping Rule = (config : Options) (detail : Detail) (history : List KeepingHappening)
    → Rule config detail (kept_of detail (report_keeping config detail history))

-- of each with its last line
abbrev pub OfEachEndedKeeping : (Options → Detail → List Line → Type 0) → Type 0
OfEachEndedKeeping Rule = (config : Options) (detail : Detail) (history : List KeepingHappening)
    → Rule config detail (kept_of detail (ended_report_keeping config detail history))

-- settling ended in quiet, where this is its end
abbrev pub ends_quiet_keeping : KeepingHappening → Bool
ends_quiet_keeping (Plainly h) = ends_quiet h
ends_quiet_keeping h = true

abbrev pub AreSettledKeeping : List KeepingHappening → Type 0
AreSettledKeeping history = list_all ends_quiet_keeping history ≡ true

-- each happening of a history is so, as the machine stands when it comes
abbrev pub AreEach : (World → KeepingHappening → Type 0) → List KeepingHappening → World → Type 0
AreEach Is [] w = Unit {0}
AreEach Is (h ∷ hs) w = Is w h × AreEach Is hs (happens_keeping w h)

-- where all is found quiet it is
abbrev pub IsFoundQuiet : World → KeepingHappening → Type 0
IsFoundQuiet w (Plainly (Looks quiet)) = quiet ≡ true → is_quiet w ≡ true
IsFoundQuiet w (Plainly (Settles quiet)) = quiet ≡ true → is_quiet w ≡ true
IsFoundQuiet w h = Unit {0}

-- and both ends' keys say one state there
abbrev pub IsAgreedKeeping : World → KeepingHappening → Type 0
IsAgreedKeeping w (Plainly h) = IsAgreed w h
IsAgreedKeeping w h = Unit {0}

-- of the report of each history in which all is quiet wherever it is found so
abbrev pub OfFoundReportsKeeping : (List Line → Type 0) → Type 0
OfFoundReportsKeeping Rule = (config : Options) (detail : Detail) (history : List KeepingHappening) → AreEach IsFoundQuiet history (start_of config)
    → Rule (kept_of detail (report_keeping config detail history))

-- of each of these with its last line
abbrev pub OfFoundEndedKeeping : (List Line → Type 0) → Type 0
OfFoundEndedKeeping Rule = (config : Options) (detail : Detail) (history : List KeepingHappening) → AreEach IsFoundQuiet history (start_of config)
    → Rule (kept_of detail (ended_report_keeping config detail history))

-- what may happen where a word of the guest's memory or a key of the front may be overwritten too
abbrev pub IsPossibleKeeping : World → KeepingHappening → Type 0
IsPossibleKeeping w (Plainly h) = IsPossible w h
IsPossibleKeeping w h = Unit {0}

-- of the report of each history that may happen, with options of the grammar, where it has fewer than 2 ^ 64 lines
abbrev pub OfShortReportsKeeping : (List Line → Type 0) → Type 0
OfShortReportsKeeping Rule = (config : Options) (detail : Detail) (history : List KeepingHappening) → AreOptions config
    → AreEach IsPossibleKeeping history (start_of config) → length (report_keeping config detail history) < 2 ^ 64
    → Rule (kept_of detail (report_keeping config detail history))

-- of each of these with its last line
abbrev pub OfShortEndedKeeping : (List Line → Type 0) → Type 0
OfShortEndedKeeping Rule = (config : Options) (detail : Detail) (history : List KeepingHappening) → AreOptions config
    → AreEach IsPossibleKeeping history (start_of config) → length (report_keeping config detail history) < 2 ^ 64
    → Rule (kept_of detail (ended_report_keeping config detail history))

-- of the report with moves of each history in which both ends' keys say one state wherever all is found quiet
abbrev pub OfAgreedReportsKeeping : (List Line → Type 0) → Type 0
OfAgreedReportsKeeping Rule = (config : Options) (history : List KeepingHappening) → AreEach IsAgreedKeeping history (start_of config)
    → Rule (kept_of Moves (report_keeping config Moves history))

-- of each of these with its last line
abbrev pub OfAgreedEndedKeeping : (List Line → Type 0) → Type 0
OfAgreedEndedKeeping Rule = (config : Options) (history : List KeepingHappening) → AreEach IsAgreedKeeping history (start_of config)
    → Rule (kept_of Moves (ended_report_keeping config Moves history))
