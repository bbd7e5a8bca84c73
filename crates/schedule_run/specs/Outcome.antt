-- How a run may end, and what then stands.
use Rattle.std.specs.Prelude.{◌≡◌, ◌≤◌, ◌^◌, ◌⊎◌, true, List, [], ◌∷◌, length, ℕ, Option, Some, Result, Ok, Err}
use Rattle.blk_base.specs.Options.{Options}
use Rattle.blk_io.specs.Outside.{Rose, SourceSeen}
use Rattle.blk_io.specs.Disk.{DiskSeen, attached_of}
use Rattle.schedule_text.specs.declared.event.Event.{Event}
use Rattle.schedule_text.specs.declared.line.Detail.{Detail}
use Rattle.schedule_text.specs.declared.line.Line.TheVariants.{Begin, End}
use Rattle.schedule_text.specs.declared.recorder.RecordStop.{RecordStop}
use Rattle.schedule_text.specs.declared.recorder.RecordStop.TheVariants as record_stop
use Rattle.schedule_text.specs.Recorder.{RecorderSeen, Gained, StopsAmong, FailsHandingOn, gained, kept_of}
use Rattle.schedule_text.specs.Range.{AreOptions}
use Rattle.vbd_model.specs.World.{World, start_of}
use Rattle.vbd_model.specs.Kind.{AreOfAll, AreOfSoFar, are_carried}
use Rattle.vbd_model.specs.Leads.{Leads, LeadsToStop, Moment, moment}
use Rattle.schedule_run.specs.Reading.{IsWholeSchedule, HasBadLine, IsTooLong, HasBegun, HasComeTo, HasReadTo, Tells, TellsRest}
use Rattle.schedule_run.specs.declared.schedule.RunStop.{RunStop}
use Rattle.schedule_run.specs.declared.schedule.RunStop.TheVariants as stop

-- where a run begins and where it stands: what the disk and the recorder expose
pub record Outside : Type 0 where
  pub disk : DiskSeen
  pub recorder : RecorderSeen

abbrev pub content_of : Outside → Option (List (List ℕ))
content_of o = o.disk.content

abbrev pub outside : DiskSeen → RecorderSeen → Outside
outside disk recorder = record { disk = disk; recorder = recorder }

-- options that the machine serves, with the widths that every `Config` has
pub record IsServed (config : Options) : Type 0 where
  pub carried : are_carried config ≡ true
  pub options : AreOptions config

-- options that the machine serves, a limit of bytes, and a disk that is attached with the options' sectors
pub record MayRun (config : Options) (limit : ℕ) (disk : DiskSeen) : Type 0 where
  pub carried : are_carried config ≡ true
  pub few : limit ≤ 4294967296
  pub attached : attached_of disk ≡ Some config.sectors

-- the recorder took the first line, and then the happenings of these events lead to this moment
pub record HasCarried (config : Options) (events : List Event) (old : Outside) (now : Moment) : Type 0 where
  pub served : IsServed config
  pub few : length events ≤ 10 ^ 9
  pub began : RecorderSeen
  pub first : Gained (Begin config old.recorder.detail ∷ []) old.recorder began
  pub leads : Leads (AreOfAll events (start_of config)) (moment (start_of config) old.disk began) now

-- these events, whole, and nothing else were carried out
abbrev pub HasCarriedOut : Options → List Event → Outside → Outside → Type 0
HasCarriedOut config events old new = (w : World) × HasCarried config events old (moment w new.disk new.recorder)

-- the last line was taken, and nothing is kept back
pub record HasEnded (before after : RecorderSeen) : Type 0 where
  pub told : after.told ≡ gained before.told (kept_of before.detail (End ∷ []))
  pub detail : after.detail ≡ before.detail
  pub faults : after.faults ≡ before.faults
  pub lender : after.lender ≡ before.lender
  pub kept_back : after.kept_back ≡ 0

-- the whole schedule was carried out, and the report ends
pub record EndsWhole (config : Options) (limit : ℕ) (source source' : SourceSeen) (old new : Outside) : Type 0 where
  pub events : List Event
  pub schedule : Tells (λ bytes. IsWholeSchedule limit bytes events) source.left
  pub unfailed : source'.faults ≡ source.faults
  pub before : RecorderSeen
  pub carried : HasCarriedOut config events old (outside new.disk before)
  pub ended : HasEnded before new.recorder

-- the recorder stopped at the first line; or at a line of the last happening of an event; or at the last line
pub record StopsAtBegin (config : Options) (why : RecordStop) (old new : Outside) : Type 0 where
  pub word : Detail
  pub told : StopsAmong [] (Begin config word ∷ []) why old.recorder new.recorder
  pub disk : new.disk ≡ old.disk

pub record StopsInEvent (config : Options) (left : Option (List ℕ)) (why : RecordStop) (old new : Outside) : Type 0 where
  pub events : List Event
  pub event : Event
  pub schedule : Tells (λ bytes. HasComeTo bytes events event) left
  pub middle : Moment
  pub carried : HasCarried config events old middle
  pub last : World
  pub stopped : LeadsToStop (AreOfSoFar event middle.world) why middle (moment last new.disk new.recorder)

pub record StopsAtEnd (config : Options) (limit : ℕ) (left : Option (List ℕ)) (why : RecordStop) (old new : Outside) : Type 0 where
  pub events : List Event
  pub schedule : Tells (λ bytes. IsWholeSchedule limit bytes events) left
  pub before : RecorderSeen
  pub carried : HasCarriedOut config events old (outside new.disk before)
  pub told : StopsAmong [] (End ∷ []) why before new.recorder

abbrev pub IsCut : Options → ℕ → Option (List ℕ) → RecordStop → Outside → Outside → Type 0
IsCut config limit left why old new =
    StopsAtBegin config why old new ⊎ StopsInEvent config left why old new ⊎ StopsAtEnd config limit left why old new

-- whole events were carried out, and then the recorder failed to hand on what it kept back
pub record IsUnsent (config : Options) (left : Option (List ℕ)) (old new : Outside) : Type 0 where
  pub events : List Event
  pub schedule : Tells (λ bytes. HasBegun bytes events) left
  pub before : RecorderSeen
  pub carried : HasCarriedOut config events old (outside new.disk before)
  pub failed : FailsHandingOn before new.recorder

-- whole events, of which this is so, were carried out
abbrev pub HasRead : Options → (List Event → Type 0) → Outside → Outside → Type 0
HasRead config claim old new = (events : List Event) × claim events × HasCarriedOut config events old new

-- what stands at a stop, before the recorder hands on what it kept back; the source failed exactly where that is the reason
abbrev pub StandsAtStop : Options → ℕ → SourceSeen → SourceSeen → RunStop → Outside → Outside → Type 0
StandsAtStop config limit a b (stop.BadLine n) old new = (b.faults ≡ a.faults) × HasRead config (λ events. Tells (λ bytes. HasBadLine limit bytes events n) a.left) old new
StandsAtStop config limit a b stop.Source old new = Rose a.faults b.faults × HasRead config (λ events. TellsRest (λ bytes rest. HasReadTo bytes rest events) a.left b.left) old new
StandsAtStop config limit a b stop.TooLong old new = (b.faults ≡ a.faults) × HasRead config (λ events. Tells (λ bytes. IsTooLong limit bytes events) a.left) old new
StandsAtStop config limit a b stop.Sink old new = (b.faults ≡ a.faults) × (IsCut config limit a.left record_stop.Failed old new ⊎ IsUnsent config a.left old new)
StandsAtStop config limit a b stop.OutOfMemory old new = (b.faults ≡ a.faults) × ((new ≡ old) ⊎ IsCut config limit a.left record_stop.OutOfMemory old new)

-- a recorder handed on what it kept back, or failed to; it tells the same
pub record TriesToHandOn (a b : RecorderSeen) : Type 0 where
  pub told : b.told ≡ a.told
  pub detail : b.detail ≡ a.detail
  pub lender : b.lender ≡ a.lender
  pub outcome : ((b.kept_back ≡ 0) × (b.faults ≡ a.faults)) ⊎ Rose a.faults b.faults

-- a run stopped, and then the recorder handed on what it kept back, or failed to, which changes no reason
pub record StopsWith (config : Options) (limit : ℕ) (a b : SourceSeen) (why : RunStop) (old new : Outside) : Type 0 where
  pub before : RecorderSeen
  pub stands : StandsAtStop config limit a b why old (outside new.disk before)
  pub handed_on : TriesToHandOn before new.recorder

-- the whole schedule was carried out and the last line taken, and then the recorder failed to hand on what it kept back
pub record EndsUnsent (config : Options) (limit : ℕ) (a b : SourceSeen) (old new : Outside) : Type 0 where
  pub before : RecorderSeen
  pub done : EndsWhole config limit a b old (outside new.disk before)
  pub told : new.recorder.told ≡ before.told
  pub detail : new.recorder.detail ≡ before.detail
  pub lender : new.recorder.lender ≡ before.lender
  pub rose : Rose before.faults new.recorder.faults

-- how a run that isn't done ends: it stopped, or was done but for what is kept back, of which the sink is the reason
abbrev pub FailsWith : Options → ℕ → SourceSeen → SourceSeen → RunStop → Outside → Outside → Type 0
FailsWith config limit a b stop.Sink old new = StopsWith config limit a b stop.Sink old new ⊎ EndsUnsent config limit a b old new
FailsWith config limit a b why old new = StopsWith config limit a b why old new

-- the whole schedule was carried out and the last line taken
pub record IsAllTold (config : Options) (limit : ℕ) (a b : SourceSeen) (old new : Outside) : Type 0 where
  pub events : List Event
  pub schedule : Tells (λ bytes. IsWholeSchedule limit bytes events) a.left
  pub unfailed : b.faults ≡ a.faults
  pub before : RecorderSeen
  pub carried : HasCarriedOut config events old (outside new.disk before)
  pub ended : Gained (End ∷ []) before new.recorder

-- a run, before the recorder hands on what it kept back
abbrev pub RunsTo : Options → ℕ → Result (Unit {0}) RunStop → SourceSeen → SourceSeen → Outside → Outside → Type 0
RunsTo config limit (Ok done) a b old new = IsAllTold config limit a b old new
RunsTo config limit (Err why) a b old new = StandsAtStop config limit a b why old new

-- a run with these options and this limit of bytes
abbrev pub Runs : Options → ℕ → Result (Unit {0}) RunStop → SourceSeen → SourceSeen → Outside → Outside → Type 0
Runs config limit (Ok done) a b old new = EndsWhole config limit a b old new
Runs config limit (Err why) a b old new = FailsWith config limit a b why old new

-- why the run stops where the recorder does
abbrev pub stop_of : RecordStop → RunStop
stop_of record_stop.Failed = stop.Sink
stop_of record_stop.OutOfMemory = stop.OutOfMemory
