-- What a disk may answer a job's call: the outcome is of the kind that the job asked for.
use Rattle.std.specs.Prelude.{List, [], ◌∷◌}
use Rattle.blk_io.specs.Disk.{DiskSeen}
use Rattle.hypervisor.specs.Disk.{DiskDoes}
use Rattle.blk_back.specs.Step.{job_ask_of}
use Rattle.vbd_model.specs.World.{World}
use Rattle.vbd_model.specs.Happening.{Happening, JobMoves, happens}

-- some disk may answer so; any call may fail
abbrev pub IsCall : World → Happening → Type 0
IsCall w (JobMoves number outcome) = (before : DiskSeen) × (after : DiskSeen) × DiskDoes (job_ask_of w.rings.back number) outcome before after
IsCall w h = Unit {0}

abbrev pub AreCalls : List Happening → World → Type 0
AreCalls [] w = Unit {0}
AreCalls (h ∷ hs) w = IsCall w h × AreCalls hs (happens w h)
