-- A reader of a report doesn't know what the sectors held at first (`io/blkif.h`): what a disk with known sectors allows, a disk with unknown ones allows too.
use Rattle.std.specs.Prelude.{◌≡◌, ℕ, List, [], Option, Some}
use Rattle.schedule_text.specs.declared.line.Line.{Line}
use Rattle.plain_disk.specs.Disk.{Disk, disk_of}
use Rattle.plain_disk.specs.Step.{after}
use Rattle.pipeline_laws.specs.Run.{IsRun}
use Rattle.request_check.specs.Laws.{IsRunFromUnknown}

-- the disk, but nothing is known of what its sectors held at first
abbrev pub forgetting : Disk → Disk
forgetting d = record d { first = [] }

abbrev pub KnownIsUnknown : Type 0
KnownIsUnknown = (report : List Line) (first : List (List ℕ)) (d : Disk)
    → after report (disk_of first) ≡ Some d → after report (disk_of []) ≡ Some (forgetting d)

abbrev pub RunIsUnknown : Type 0
RunIsUnknown = (sectors : ℕ) (before now : Option (List (List ℕ))) (report : List Line) → IsRun sectors before now report → IsRunFromUnknown report
