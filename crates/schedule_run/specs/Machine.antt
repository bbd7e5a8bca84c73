-- What contracts see of the runner's machine.
use Rattle.std.specs.Prelude.{◌≡◌, ℕ, ◌*◌, ◌^◌, ◌≤◌, List}
use Rattle.vbd_laws.specs.Waits.{FrontWaitsAfter, BackWaitsAfter, JobWaitsAfter}
use Rattle.blk_base.specs.Options.{Options}
use Rattle.machine_pipeline.specs.Plain.{IsPlain}
use Rattle.vbd_model.specs.World.{World, start_of}
use Rattle.vbd_model.specs.Happening.{Happening, after}
use Rattle.vbd_model.specs.Mappings.{mappings_of}

-- the machine, and how many events it carried out
pub record Run : Type 0 where
  pub world : World
  pub events : ℕ

-- each event so far made fewer mappings than that, also with those that the jobs held may come to make, and there are fewer events than make a number overflow
abbrev pub HasSmallCounts : World → ℕ → Type 0
HasSmallCounts w events = (mappings_of w ≤ events * 10 ^ 10) × (events ≤ 10 ^ 9)

-- happenings led to this machine, from options whose numbers have their bounds
pub record IsReached (w : World) : Type 0 where
  pub config : Options
  pub history : List Happening
  pub plain : IsPlain config
  pub here : w ≡ after history (start_of config)

-- what is true of the runner's machine
pub record IsRunning (w : World) (events : ℕ) : Type 0 where
  pub counts : HasSmallCounts w events
  pub reached : IsReached w

-- after this history each end, and each job, waits exactly in its cases
pub record WaitsAfter (config : Options) (history : List Happening) : Type 0 where
  pub front : FrontWaitsAfter config history
  pub back : BackWaitsAfter config history
  pub job : (number : ℕ) → JobWaitsAfter config history number

-- so it is of this machine, by whatever happenings led to it
abbrev pub WaitsByCauses : World → Type 0
WaitsByCauses w = (config : Options) (history : List Happening) → config.indirect ≤ 960 → w ≡ after history (start_of config) → WaitsAfter config history
