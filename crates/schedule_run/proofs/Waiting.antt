-- A machine that happenings led to waits by its causes.
use Rattle.std.proofs.Common.{List, ◌≤◌}
use Rattle.blk_base.specs.Options.{Options}
use Rattle.vbd_model.specs.Happening.{Happening}
use Rattle.vbd_laws.proofs.WaitsFrontAlone.{front_waits_alone}
use Rattle.vbd_laws.proofs.WaitsBackAlone.{back_waits_alone}
use Rattle.vbd_laws.proofs.WaitsJobsHeld.{job_waits_alone}
use Rattle.schedule_run.specs.Machine.{WaitsAfter}

pub waits_after : (config : Options) (history : List Happening) → config.indirect ≤ 960 → WaitsAfter config history
waits_after config history few = record {
  front = front_waits_alone config history few;
  back = back_waits_alone config history few;
  job = λ number. job_waits_alone config history number few;
}
