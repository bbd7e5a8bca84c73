-- A beginning of a run of the plain disk.
use Rattle.std.specs.Prelude.{◌≡◌, ℕ, List, Option, Some}
use Rattle.schedule_text.specs.declared.line.Line.{Line}
use Rattle.plain_disk.specs.Disk.{Disk, disk_of}
use Rattle.plain_disk.specs.Step.{after}
use Rattle.pipeline_laws.specs.Run.{BeginsWith}

-- each of these lines can stand where it does, over what the disk held at first
pub record IsRunSoFar (before : Option (List (List ℕ))) (report : List Line) : Type 0 where
  pub first : List (List ℕ)
  pub begins : BeginsWith first before
  pub disk : Disk
  pub run : after report (disk_of first) ≡ Some disk
