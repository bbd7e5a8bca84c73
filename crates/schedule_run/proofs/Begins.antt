-- A machine just made, with its first line told, carried out no events.
use Rattle.std.proofs.Common.{◌<◌, ◌^◌, [], ◌∷◌, refl, arith}
use Rattle.blk_base.specs.Options.{Options}
use Rattle.blk_io.specs.Disk.{DiskSeen}
use Rattle.schedule_text.specs.declared.line.Detail.{Detail}
use Rattle.schedule_text.specs.declared.line.Line.TheVariants.{Begin}
use Rattle.schedule_text.specs.Recorder.{RecorderSeen, Gained}
use Rattle.vbd_model.specs.World.{start_of}
use Rattle.vbd_model.specs.Kind.{AreOfAll}
use Rattle.vbd_model.specs.Leads.{moment}
use Rattle.vbd_model.proofs.Running.{leads_nowhere}
use Rattle.machine_pipeline.specs.Plain.{IsPlain}
use Rattle.schedule_run.specs.Outcome.{IsServed, HasCarried, outside}
use Rattle.schedule_run.specs.Machine.{IsRunning}
use Rattle.schedule_run.proofs.Counts.{reached_start}

-- options that are served: the numbers of their ring and of its requests have their bounds
pub plain_of : (config : Options) → IsServed config → IsPlain config
plain_of config served =
    let options = served.options in
    let start : config.start < 2 ^ 32 = options.3 in
    let sectors : config.sectors < 2 ^ 64 = options.4 in
    record { order = options.0; indirect = options.2; start = start; sectors = omega arith }

pub running_start : (config : Options) → IsServed config → IsRunning (start_of config) 0
running_start config served = record { counts = (omega arith, omega arith); reached = reached_start config (plain_of config served) }

pub run_begins : (config : Options) (disk : DiskSeen) (r s : RecorderSeen) → IsServed config → (word : Detail) → Gained (Begin config word ∷ []) r s → HasCarried config [] (outside disk r) (moment (start_of config) disk s)
run_begins config disk r s served word took = record {
  served = served;
  few = omega arith;
  began = s;
  first = record { told = took.told; detail = took.detail; faults = took.faults; lender = took.lender };
  leads = leads_nowhere (AreOfAll [] (start_of config)) (moment (start_of config) disk s) refl;
}
