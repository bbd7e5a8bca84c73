-- What happened between two moments: the machine, the disk and the recorder went along.
use Rattle.std.specs.Prelude.{◌≡◌, ℕ, ◌+◌, ◌≤◌, List, [], ◌∷◌, ◌++◌, Result, Ok, Err}
use Rattle.blk_io.specs.Disk.{DiskSeen}
use Rattle.schedule_text.specs.declared.recorder.RecordStop.{RecordStop}
use Rattle.schedule_text.specs.Recorder.{RecorderSeen, Gained, StopsAmong}
use Rattle.hypervisor.specs.Act.{Outcome, IsGiven}
use Rattle.split_model.specs.World.{World}
use Rattle.split_model.specs.Happening.{Happening, JobMoves, lines_at, after, lines_of, DiskRuns}

-- a moment: the machine, and what the disk and the recorder expose
pub record Moment : Type 0 where
  pub world : World
  pub disk : DiskSeen
  pub recorder : RecorderSeen

abbrev pub moment : World → DiskSeen → RecorderSeen → Moment
moment w disk recorder = record { world = w; disk = disk; recorder = recorder }

-- so many mappings more were made at most; what is attached stays
pub record Keeps (n : ℕ) (a b : Moment) : Type 0 where
  pub made : b.world.under.grants.made ≤ a.world.under.grants.made + n
  pub sectors : b.world.back.jobs.info.sectors ≡ a.world.back.jobs.info.sectors
  pub attachment : b.disk.attachment ≡ a.disk.attachment

-- happenings of this kind lead from the one moment to the other
pub record Leads (kind : List Happening → Type 0) (a b : Moment) : Type 0 where
  pub history : List Happening
  pub is_kind : kind history
  pub world : b.world ≡ after history a.world
  pub disk : DiskRuns history a.world a.disk b.disk
  pub told : Gained (lines_of history a.world) a.recorder b.recorder

-- happenings of this kind lead there, and at a line of the last of them the recorder stopped
pub record LeadsToStop (kind : List Happening → Type 0) (stop : RecordStop) (a b : Moment) : Type 0 where
  pub history : List Happening
  pub last : Happening
  pub is_kind : kind (history ++ last ∷ [])
  pub world : b.world ≡ after (history ++ last ∷ []) a.world
  pub disk : DiskRuns (history ++ last ∷ []) a.world a.disk b.disk
  pub told : StopsAmong (lines_of history a.world) (lines_at (after history a.world) last) stop a.recorder b.recorder

-- happenings of the one kind where the call was done, of the other where the recorder stopped it
abbrev pub Ends : (kind so_far : List Happening → Type 0) → Result (Unit {0}) RecordStop → Moment → Moment → Type 0
Ends kind so_far (Ok done) a b = Leads kind a b
Ends kind so_far (Err stop) a b = LeadsToStop so_far stop a b

-- what a call made happen, with so many mappings more at most
pub record Goes (kind so_far : List Happening → Type 0) (n : ℕ) (result : Result (Unit {0}) RecordStop) (a b : Moment) : Type 0 where
  pub ends : Ends kind so_far result a b
  pub keeps : Keeps n a b

-- exactly this happened
abbrev pub Is : List Happening → List Happening → Type 0
Is happenings hs = hs ≡ happenings

-- one move of the job of a number
abbrev pub IsJobMove : ℕ → List Happening → Type 0
IsJobMove number hs = (outcome : Outcome) × (hs ≡ JobMoves number outcome ∷ []) × IsGiven outcome
