-- The same of the machine whose back may keep mappings for later requests (`feature-persistent` of `io/blkif.h`).
use Rattle.std.specs.Prelude.{◌≡◌, ℕ, ◌≤◌, List, [], ◌∷◌, ◌++◌}
use Rattle.std.specs.List.{AllByRecursion}
use Rattle.blk_io.specs.Disk.{DiskSeen}
use Rattle.blk_base.specs.Options.{Options}
use Rattle.schedule_text.specs.declared.line.Detail.{Detail}
use Rattle.schedule_text.specs.declared.line.Line.{Line}
use Rattle.schedule_text.specs.declared.line.Line.TheVariants.{Begin, End}
use Rattle.back_jobs.specs.Hands.{Names}
use Rattle.blk_back.specs.Keeping.{job_ask_keeping}
use Rattle.blk_back.specs.Hands.{hands_of}
use Rattle.split_model.specs.World.{World, start_of}
use Rattle.split_model.specs.Happening.{JobMoves}
use Rattle.split_model.specs.Kept.{KeepingHappening, Plainly, happens_keeping, lines_keeping, DiskGoesKeeping}
use Rattle.move_laws.specs.Permitted.{IsPermitted}
use Rattle.move_laws.specs.Dumped.{IsWished}

-- its report: the first line, and the lines of all that happened from the start
abbrev pub report_keeping : Options → Detail → List KeepingHappening → List Line
report_keeping config detail history = Begin config detail ∷ lines_keeping history (start_of config)

-- with its last line
abbrev pub ended_report_keeping : Options → Detail → List KeepingHappening → List Line
ended_report_keeping config detail history = report_keeping config detail history ++ End ∷ []

-- what is said of the lines of each history
abbrev pub OfLinesKeeping : (List Line → Type 0) → Type 0
OfLinesKeeping Rule = (config : Options) (history : List KeepingHappening) → config.order ≤ 4 → Rule (lines_keeping history (start_of config))

-- of its report
abbrev pub OfReportsKeeping : (List Line → Type 0) → Type 0
OfReportsKeeping Rule = (config : Options) (detail : Detail) (history : List KeepingHappening) → config.order ≤ 4 → Rule (report_keeping config detail history)

-- of its report with its last line
abbrev pub OfEndedKeeping : (List Line → Type 0) → Type 0
OfEndedKeeping Rule = (config : Options) (detail : Detail) (history : List KeepingHappening) → config.order ≤ 4
    → Rule (ended_report_keeping config detail history)

-- a job touches a word of a page whose mapping is in its hand, mapped by it or taken of those that are kept; all else is as without
abbrev pub IsPermittedKeeping : World → KeepingHappening → Type 0
IsPermittedKeeping w (Plainly (JobMoves number outcome)) = Names (hands_of w.back) (job_ask_keeping w.back number)
IsPermittedKeeping w (Plainly h) = IsPermitted w h
IsPermittedKeeping w h = Unit {0}

abbrev pub ArePermittedKeeping : List KeepingHappening → World → Type 0
ArePermittedKeeping [] w = Unit {0}
ArePermittedKeeping (h ∷ hs) w = IsPermittedKeeping w h × ArePermittedKeeping hs (happens_keeping w h)

-- the front's ring has the order that it wished, where another one isn't agreed
abbrev pub IsWishedKeeping : (order : ℕ) → KeepingHappening → Type 0
IsWishedKeeping order (Plainly h) = IsWished order h
IsWishedKeeping order h = Unit {0}

abbrev pub AreWishedKeeping : (order : ℕ) → List KeepingHappening → Type 0
AreWishedKeeping order history = AllByRecursion (IsWishedKeeping order) history

-- what all this makes of the disk
abbrev pub DiskRunsKeeping : List KeepingHappening → World → DiskSeen → DiskSeen → Type 0
DiskRunsKeeping [] w before after = after ≡ before
DiskRunsKeeping (h ∷ hs) w before after = (between : DiskSeen) × DiskGoesKeeping w h before between × DiskRunsKeeping hs (happens_keeping w h) between after
