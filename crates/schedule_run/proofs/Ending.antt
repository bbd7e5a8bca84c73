-- How a run ends, by how reading its schedule ends.
use Rattle.std.proofs.Common.{◌≡◌, ◌⊎◌, ℕ, ◌≤◌, ◌^◌, List, [], ◌∷◌, length, Option, Result, Ok, Err, inl, inr, refl, ap, ◌∙◌, arith}
use Rattle.blk_base.specs.Options.{Options}
use Rattle.blk_io.specs.Outside.{SourceSeen}
use Rattle.blk_io.specs.Disk.{DiskSeen}
use Rattle.schedule_text.specs.declared.event.Event.{Event}
use Rattle.schedule_text.specs.declared.line.Detail.{Detail}
use Rattle.schedule_text.specs.declared.line.Line.TheVariants.{Begin, End}
use Rattle.schedule_text.specs.declared.recorder.RecordStop.{RecordStop}
use Rattle.schedule_text.specs.declared.recorder.RecordStop.TheVariants as record_stop
use Rattle.schedule_text.specs.Recorder.{RecorderSeen, Gained, StopsAmong, HandsOnLines, FailsHandingOn}
use Rattle.vbd_model.specs.World.{World, start_of}
use Rattle.vbd_model.specs.Leads.{Moment, moment}
use Rattle.schedule_run.specs.Carrying.{EventsLead, Reads, ReadsToStop, ReadsUnsent, ReadStops, ReadsAll}
use Rattle.schedule_run.specs.Outcome.{Outside, outside, IsServed, HasCarried, HasRead, EndsWhole, IsCut, IsUnsent, IsAllTold, RunsTo, StandsAtStop, TriesToHandOn, FailsWith, Runs, StopsInEvent, StopsAtEnd, stop_of}
use Rattle.schedule_run.specs.declared.schedule.RunStop.{RunStop}
use Rattle.schedule_run.specs.declared.schedule.RunStop.TheVariants as stop

-- the recorder took the first line: what was carried out after it
pub record HasFirst (config : Options) (old : Outside) (began : RecorderSeen) : Type 0 where
  pub served : IsServed config
  pub first : Gained (Begin config old.recorder.detail ∷ []) old.recorder began

-- whichever word the first line has, the recorder says its own
pub begun_by : (config : Options) (word : Detail) (old : Outside) (began : RecorderSeen) → IsServed config → Gained (Begin config word ∷ []) old.recorder began → HasFirst config old began
begun_by config word old began served p = record { served = served; first = record { told = p.told; detail = p.detail; faults = p.faults; lender = p.lender } }

abbrev at_first : Options → Outside → RecorderSeen → Moment
at_first config old began = moment (start_of config) old.disk began

carried : (config : Options) (events : List Event) (old : Outside) (began : RecorderSeen) (now : Moment) → HasFirst config old began → length events ≤ 10 ^ 9 → EventsLead events (at_first config old began) now → HasCarried config events old now
carried config events old began now begun few leads = record { served = begun.served; few = few; began = began; first = begun.first; leads = leads }

has_read : (config : Options) (claim : List Event → Type 0) (old new : Outside) (began : RecorderSeen) (w : World) → HasFirst config old began → Reads claim (at_first config old began) (moment w new.disk new.recorder) → HasRead config claim old new
has_read config claim old new began w begun h = (h.events, h.schedule, (w, carried config h.events old began (moment w new.disk new.recorder) begun h.few h.leads))

in_event : (config : Options) (left : Option (List ℕ)) (why : RecordStop) (old new : Outside) (began : RecorderSeen) (w : World) → HasFirst config old began → ReadsToStop left why (at_first config old began) (moment w new.disk new.recorder) → StopsInEvent config left why old new
in_event config left why old new began w begun h = record {
  events = h.events;
  event = h.event;
  schedule = h.schedule;
  middle = h.middle;
  carried = carried config h.events old began h.middle begun (let few = h.few in omega arith) h.leads;
  last = w;
  stopped = h.stopped;
}

unsent : (config : Options) (left : Option (List ℕ)) (old new : Outside) (began : RecorderSeen) (w : World) → HasFirst config old began → ReadsUnsent left (at_first config old began) (moment w new.disk new.recorder) → IsUnsent config left old new
unsent config left old new began w begun h = record {
  events = h.carried.events;
  schedule = h.carried.schedule;
  before = h.before;
  carried = (w, carried config h.carried.events old began (moment w new.disk h.before) begun h.carried.few h.carried.leads);
  failed = h.failed;
}

cut_or_unsent : (config : Options) (limit : ℕ) (left : Option (List ℕ)) (old new : Outside) (began : RecorderSeen) (w : World) → HasFirst config old began → (ReadsToStop left record_stop.Failed (at_first config old began) (moment w new.disk new.recorder) ⊎ ReadsUnsent left (at_first config old began) (moment w new.disk new.recorder)) → (IsCut config limit left record_stop.Failed old new ⊎ IsUnsent config left old new)
cut_or_unsent config limit left old new began w begun (inl h) = inl (inr (inl (in_event config left record_stop.Failed old new began w begun h)))
cut_or_unsent config limit left old new began w begun (inr h) = inr (unsent config left old new began w begun h)

-- reading the schedule stopped
pub reading_stopped : (config : Options) (limit : ℕ) (a b : SourceSeen) (why : RunStop) (old new : Outside) (began : RecorderSeen) (w : World) → HasFirst config old began → ReadStops limit a b why (at_first config old began) (moment w new.disk new.recorder) → StandsAtStop config limit a b why old new
reading_stopped config limit a b (stop.BadLine n) old new began w begun h = (h.0, has_read config _ old new began w begun h.1)
reading_stopped config limit a b stop.Source old new began w begun h = (h.0, has_read config _ old new began w begun h.1)
reading_stopped config limit a b stop.TooLong old new began w begun h = (h.0, has_read config _ old new began w begun h.1)
reading_stopped config limit a b stop.Sink old new began w begun h = (h.0, cut_or_unsent config limit a.left old new began w begun h.1)
reading_stopped config limit a b stop.OutOfMemory old new began w begun h = (h.0, inr (inr (inl (in_event config a.left record_stop.OutOfMemory old new began w begun h.1))))

-- the recorder stopped at the first line
pub begin_stopped : (config : Options) (limit : ℕ) (a : SourceSeen) (word : Detail) (why : RecordStop) (disk : DiskSeen) (r s : RecorderSeen) → StopsAmong [] (Begin config word ∷ []) why r s → StandsAtStop config limit a a (stop_of why) (outside disk r) (outside disk s)
begin_stopped config limit a word record_stop.Failed disk r s h = (refl, inl (inl (record { word = word; told = h; disk = refl })))
begin_stopped config limit a word record_stop.OutOfMemory disk r s h = (refl, inr (inl (record { word = word; told = h; disk = refl })))

-- or at the last one
pub end_stopped : (config : Options) (limit : ℕ) (a b : SourceSeen) (why : RecordStop) (old : Outside) (disk : DiskSeen) (began before after : RecorderSeen) (w : World) → HasFirst config old began → ReadsAll limit (Ok tt) a b (at_first config old began) (moment w disk before) → StopsAmong [] (End ∷ []) why before after → StandsAtStop config limit a b (stop_of why) old (outside disk after)
end_stopped config limit a b why old disk began before after w begun h stopped = by why stopped
  where
    ends : (why : RecordStop) → StopsAmong [] (End ∷ []) why before after → StopsAtEnd config limit a.left why old (outside disk after)
    ends why s = record {
      events = h.1.events;
      schedule = h.1.schedule;
      before = before;
      carried = (w, carried config h.1.events old began (moment w disk before) begun h.1.few h.1.leads);
      told = s;
    }

    by : (why : RecordStop) → StopsAmong [] (End ∷ []) why before after → StandsAtStop config limit a b (stop_of why) old (outside disk after)
    by record_stop.Failed s = (h.0, inl (inr (inr (ends record_stop.Failed s))))
    by record_stop.OutOfMemory s = (h.0, inr (inr (inr (ends record_stop.OutOfMemory s))))

-- all was told
pub all_told : (config : Options) (limit : ℕ) (a b : SourceSeen) (old : Outside) (disk : DiskSeen) (began before after : RecorderSeen) (w : World) → HasFirst config old began → ReadsAll limit (Ok tt) a b (at_first config old began) (moment w disk before) → Gained (End ∷ []) before after → IsAllTold config limit a b old (outside disk after)
all_told config limit a b old disk began before after w begun h ended = record {
  events = h.1.events;
  schedule = h.1.schedule;
  unfailed = h.0;
  before = before;
  carried = (w, carried config h.1.events old began (moment w disk before) begun h.1.few h.1.leads);
  ended = ended;
}

-- The recorder handed on what it kept back, or failed to.
done_as : (config : Options) (limit : ℕ) (a b : SourceSeen) (old : Outside) (disk : DiskSeen) (r s : RecorderSeen) → IsAllTold config limit a b old (outside disk r) → s ≡ record r { kept_back = 0 } → EndsWhole config limit a b old (outside disk s)
done_as config limit a b old disk r s h same = record {
  events = h.events;
  schedule = h.schedule;
  unfailed = h.unfailed;
  before = h.before;
  carried = h.carried;
  ended = record {
    told = ap (λ (x : RecorderSeen). x.told) same ∙ h.ended.told;
    detail = ap (λ (x : RecorderSeen). x.detail) same ∙ h.ended.detail;
    faults = ap (λ (x : RecorderSeen). x.faults) same ∙ h.ended.faults;
    lender = ap (λ (x : RecorderSeen). x.lender) same ∙ h.ended.lender;
    kept_back = ap (λ (x : RecorderSeen). x.kept_back) same;
  };
}

tries : {E : Type 0} → (handed : Result (Unit {0}) E) (r s : RecorderSeen) → HandsOnLines handed r s → TriesToHandOn r s
tries (Ok done) r s same = record {
  told = ap (λ (x : RecorderSeen). x.told) same;
  detail = ap (λ (x : RecorderSeen). x.detail) same;
  lender = ap (λ (x : RecorderSeen). x.lender) same;
  outcome = inl (ap (λ (x : RecorderSeen). x.kept_back) same, ap (λ (x : RecorderSeen). x.faults) same);
}
tries (Err why) r s h = record { told = h.told; detail = h.detail; lender = h.lender; outcome = inr h.rose }

-- the first reason stands
pub stopped_then : (config : Options) (limit : ℕ) (a b : SourceSeen) (why : RunStop) (old : Outside) (disk : DiskSeen) (r s : RecorderSeen) → StandsAtStop config limit a b why old (outside disk r) → TriesToHandOn r s → FailsWith config limit a b why old (outside disk s)
stopped_then config limit a b (stop.BadLine n) old disk r s h t = record { before = r; stands = h; handed_on = t }
stopped_then config limit a b stop.Source old disk r s h t = record { before = r; stands = h; handed_on = t }
stopped_then config limit a b stop.TooLong old disk r s h t = record { before = r; stands = h; handed_on = t }
stopped_then config limit a b stop.Sink old disk r s h t = inl (record { before = r; stands = h; handed_on = t })
stopped_then config limit a b stop.OutOfMemory old disk r s h t = record { before = r; stands = h; handed_on = t }

-- a run was done, and then all was handed on
pub handed_done : (config : Options) (limit : ℕ) (ended : Result (Unit {0}) RunStop) (a b : SourceSeen) (old : Outside) (disk : DiskSeen) (r s : RecorderSeen) → RunsTo config limit ended a b old (outside disk r) → HandsOnLines {E = Unit {0}} (Ok tt) r s → Runs config limit ended a b old (outside disk s)
handed_done config limit (Ok done) a b old disk r s h same = done_as config limit a b old disk r s h same
handed_done config limit (Err why) a b old disk r s h same = stopped_then config limit a b why old disk r s h (tries {E = Unit {0}} (Ok tt) r s same)

-- a run was done, and then not all could be handed on
pub done_unsent : (config : Options) (limit : ℕ) (a b : SourceSeen) (old : Outside) (disk : DiskSeen) (r s : RecorderSeen) → IsAllTold config limit a b old (outside disk r) → FailsHandingOn r s → FailsWith config limit a b stop.Sink old (outside disk s)
done_unsent config limit a b old disk r s h failed = inr (record {
  before = record r { kept_back = 0 };
  done = done_as config limit a b old disk r (record r { kept_back = 0 }) h refl;
  told = failed.told;
  detail = failed.detail;
  lender = failed.lender;
  rose = failed.rose;
})
