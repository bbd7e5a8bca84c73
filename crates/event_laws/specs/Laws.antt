-- The laws on what events leave in the report of each history.
use Rattle.std.specs.Prelude.{◌≡◌, true, List}
use Rattle.blk_base.specs.Options.{Options}
use Rattle.blk_io.specs.Disk.{DiskSeen}
use Rattle.schedule_text.specs.declared.event.Event.{Event}
use Rattle.schedule_text.specs.declared.line.Detail.{Detail}
use Rattle.schedule_text.specs.Range.{AreOptions}
use Rattle.schedule_text.specs.Recorder.{kept_of}
use Rattle.move_laws.specs.Dumped.{AreWished}
use Rattle.vbd_model.specs.World.{start_of}
use Rattle.vbd_model.specs.Happening.{Happening, DiskRuns, all_does}
use Rattle.vbd_model.specs.Kind.{are_carried, AreOfAll}
use Rattle.vbd_model.specs.Report.{report_of, ended_report_of}
use Rattle.event_laws.specs.Parts.{IsByEvents, IsAllByEvents}
use Rattle.event_laws.specs.Faults.{faults_in, IsRaised}

-- these events made this history, from options that are carried out, and the front agrees the order of its ring that it wished
pub record AreMade (config : Options) (schedule : List Event) (history : List Happening) : Type 0 where
  pub carried : are_carried config ≡ true
  pub options : AreOptions config
  pub wished : AreWished config.order (all_does history (start_of config))
  pub made : AreOfAll schedule (start_of config) history

abbrev pub EachReportIsByEvents : Type 0
EachReportIsByEvents =
    (config : Options) (detail : Detail) (schedule : List Event) (history : List Happening) → AreMade config schedule history
    → IsByEvents config detail schedule (kept_of detail (report_of config detail history))

abbrev pub EachEndedIsByEvents : Type 0
EachEndedIsByEvents =
    (config : Options) (detail : Detail) (schedule : List Event) (history : List Happening) → AreMade config schedule history
    → IsAllByEvents config detail schedule (kept_of detail (ended_report_of config detail history))

-- whatever the disk does
abbrev pub TheFaultsAreTold : Type 0
TheFaultsAreTold =
    (config : Options) (detail : Detail) (history : List Happening) (a b : DiskSeen) → DiskRuns history (start_of config) a b
    → IsRaised (faults_in (kept_of detail (report_of config detail history))) a.faults b.faults

abbrev pub TheEndedFaultsAreTold : Type 0
TheEndedFaultsAreTold =
    (config : Options) (detail : Detail) (history : List Happening) (a b : DiskSeen) → DiskRuns history (start_of config) a b
    → IsRaised (faults_in (kept_of detail (ended_report_of config detail history))) a.faults b.faults
