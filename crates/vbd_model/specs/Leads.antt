-- What happened between two moments: the machine, the disk and the recorder went along.
use Rattle.std.specs.Prelude.{◌≡◌, ℕ, ◌+◌, ◌<◌, ◌≤◌, ◌^◌, ◌⊎◌, false, List, [], ◌∷◌, ◌++◌, Some, Result, Ok, Err}
use Rattle.blk_io.specs.Disk.{DiskSeen, attached_of}
use Rattle.schedule_text.specs.declared.recorder.RecordStop.{RecordStop}
use Rattle.schedule_text.specs.declared.recorder.RecordStop.TheVariants.{OutOfMemory}
use Rattle.schedule_text.specs.Recorder.{RecorderSeen, Gained, StopsAmong}
use Rattle.hypervisor.specs.May.{FrontTakesMemory, BackTakesMemory}
use Rattle.split_model.specs.World.{may_suspend}
use Rattle.vbd_front.specs.Ask as front
use Rattle.vbd_back.specs.Ask as back
use Rattle.vbd_model.specs.World.{World, frontend_of, backend_of}
use Rattle.vbd_model.specs.Mappings.{mappings_of}
use Rattle.vbd_model.specs.Happening.{Happening, FrontMoves, BackMoves, OverwritesKey, Suspends, Looks, lines_at, after, lines_of, DiskRuns}

-- a moment: the machine, and what the disk and the recorder expose
pub record Moment : Type 0 where
  pub world : World
  pub disk : DiskSeen
  pub recorder : RecorderSeen

abbrev pub moment : World → DiskSeen → RecorderSeen → Moment
moment w disk recorder = record { world = w; disk = disk; recorder = recorder }

-- the disk is attached with the sectors that the back has, and there are numbers for the mappings that the jobs may come to make and for so many more
pub record IsReadyFor (n : ℕ) (w : World) (disk : DiskSeen) : Type 0 where
  pub attached : attached_of disk ≡ Some w.rings.back.jobs.info.sectors
  pub left : mappings_of w + n < 2 ^ 64

-- so many mappings more were made at most, or may come to be by the jobs that are held; what is attached stays
pub record Keeps (n : ℕ) (a b : Moment) : Type 0 where
  pub made : mappings_of b.world ≤ mappings_of a.world + n
  pub sectors : b.world.rings.back.jobs.info.sectors ≡ a.world.rings.back.jobs.info.sectors
  pub attachment : b.disk.attachment ≡ a.disk.attachment

-- happenings of this kind lead from the one moment to the other
pub record Leads (kind : List Happening → Type 0) (a b : Moment) : Type 0 where
  pub history : List Happening
  pub is_kind : kind history
  pub world : b.world ≡ after history a.world
  pub disk : DiskRuns history a.world a.disk b.disk
  pub told : Gained (lines_of history a.world) a.recorder b.recorder

-- the last of what happened was stopped at one of its lines, by the recorder
pub record StopsShowing (history : List Happening) (last : Happening) (stop : RecordStop) (a b : Moment) : Type 0 where
  pub world : b.world ≡ after (history ++ last ∷ []) a.world
  pub disk : DiskRuns (history ++ last ∷ []) a.world a.disk b.disk
  pub told : StopsAmong (lines_of history a.world) (lines_at (after history a.world) last) stop a.recorder b.recorder

-- what may happen that needs memory: an end's move that sets a key or a watch, by what it asks for; a key that a hostile hand sets; a suspend, for a new back and the keys of its epoch; and a suspend that finds no number for another port, of which nothing but a look is left
abbrev pub NeedsMemory : World → Happening → Type 0
NeedsMemory w FrontMoves = FrontTakesMemory (front.ask_of (frontend_of w))
NeedsMemory w BackMoves = BackTakesMemory (back.ask_of (backend_of w))
NeedsMemory w (OverwritesKey name text) = Unit {0}
NeedsMemory w Suspends = Unit {0}
NeedsMemory w (Looks quiet) = may_suspend w.rings ≡ false
NeedsMemory w happening = ⊥

-- or before anything of it happened, by want of memory for it
pub record LacksMemory (history : List Happening) (last : Happening) (stop : RecordStop) (a b : Moment) : Type 0 where
  pub lacks : stop ≡ OutOfMemory
  pub needed : NeedsMemory (after history a.world) last
  pub world : b.world ≡ after history a.world
  pub disk : DiskRuns history a.world a.disk b.disk
  pub told : Gained (lines_of history a.world) a.recorder b.recorder

-- happenings of this kind lead there, of which the last was stopped
pub record LeadsToStop (kind : List Happening → Type 0) (stop : RecordStop) (a b : Moment) : Type 0 where
  pub history : List Happening
  pub last : Happening
  pub is_kind : kind (history ++ last ∷ [])
  pub stopped : StopsShowing history last stop a b ⊎ LacksMemory history last stop a b

-- happenings of the one kind where the call was done, of the other where it was stopped
abbrev pub Ends : (kind so_far : List Happening → Type 0) → Result (Unit {0}) RecordStop → Moment → Moment → Type 0
Ends kind so_far (Ok done) a b = Leads kind a b
Ends kind so_far (Err stop) a b = LeadsToStop so_far stop a b

-- what a call made happen, with so many mappings more at most
pub record Goes (kind so_far : List Happening → Type 0) (n : ℕ) (result : Result (Unit {0}) RecordStop) (a b : Moment) : Type 0 where
  pub ends : Ends kind so_far result a b
  pub keeps : Keeps n a b

-- exactly this happened
abbrev pub Is : List Happening → List Happening → Type 0
Is happenings hs = hs ≡ happenings
