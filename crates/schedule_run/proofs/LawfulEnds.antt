-- However a run ends, what was told of it is lawful.
use Rattle.std.proofs.Common.{◌≡◌, ℕ, List, [], ◌∷◌, ◌++◌, Option, Some, None, Result, Ok, Err, inl, inr, ◌⊎◌, refl, ap, sym, ◌∙◌, subst, append-nil, arith}
use Rattle.blk_base.specs.Options.{Options}
use Rattle.blk_base.specs.declared.config.Submission.{Submission}
use Rattle.blk_io.specs.Outside.{SourceSeen}
use Rattle.blk_io.specs.Disk.{HasLength}
use Rattle.schedule_text.specs.declared.event.Event.{Event}
use Rattle.schedule_text.specs.declared.line.Detail.{Detail}
use Rattle.schedule_text.specs.declared.line.Line.TheVariants.{End}
use Rattle.schedule_text.specs.declared.recorder.RecordStop.{RecordStop}
use Rattle.schedule_text.specs.declared.recorder.RecordStop.TheVariants as record_stop
use Rattle.schedule_text.specs.Recorder.{Told, RecorderSeen, gained, kept_of}
use Rattle.schedule_text.proofs.Gaining.{gained_none, gained_twice}
use Rattle.plain_disk.specs.Echo.{AnswersAll, Echoes}
use Rattle.vbd_model.specs.World.{start_of}
use Rattle.vbd_model.specs.Happening.{lines_of}
use Rattle.vbd_model.specs.Leads.{moment}
use Rattle.vbd_model.specs.Report.{report_of, ended_report_of}
use Rattle.vbd_model.proofs.Running.{kept_of-append}
use Rattle.vbd_model.proofs.Echo.{echo_of, schedule_echo, kept_echo}
use Rattle.vbd_model.proofs.Submitting.{events_submit}
use Rattle.schedule_run.specs.Outcome.{Outside, outside, HasCarriedOut, EndsWhole, IsCut, IsUnsent, HasRead, StandsAtStop, StopsWith, EndsUnsent, Runs}
use Rattle.schedule_run.specs.Reading.{IsWholeSchedule, HasBegun, HasComeTo, IsReadSoFar, Tells}
use Rattle.schedule_run.specs.Lawful.{IsLawful, IsLawfulSoFar, HasLawfulReport, IsToldSoFar, HasLawfulBeginning, IsLawfulRun, ToldOf, BeginsLawfully, IsLawfulStop, RunsLawfully}
use Rattle.schedule_run.specs.declared.schedule.RunStop.{RunStop}
use Rattle.schedule_run.specs.declared.schedule.RunStop.TheVariants as stop
use Rattle.schedule_run.proofs.Lawful.{nothing_lawful}
use Rattle.schedule_run.proofs.Image.{whole_image, nothing_image}
use Rattle.event_laws.proofs.Parts.{ended_by_events}
use Rattle.event_laws.proofs.Faults.{ended_raised, no_faults}
use Rattle.schedule_run.proofs.Whole.{submitted, ended_lawful, begun_lawful, ended_honest_run, content_kept}
use Rattle.schedule_run.proofs.Told.{told_of, is_told, are_made, carried_lawful, carried_so_far, stopped_at_first, stopped_in_event, stopped_at_end, have_widths}

-- what was read, as it is told where the recorder stopped the run
read_none : (limit : ℕ) (left : Option (List ℕ)) → Tells (λ (bytes : List ℕ). IsReadSoFar limit bytes []) left
read_none limit None = tt
read_none limit (Some bytes) = inl (record { lines = []; rest = bytes; all = refl; are_lines = refl })

read_begun : (limit : ℕ) (events : List Event) (left : Option (List ℕ)) → Tells (λ (bytes : List ℕ). HasBegun bytes events) left → Tells (λ (bytes : List ℕ). IsReadSoFar limit bytes events) left
read_begun limit events None h = tt
read_begun limit events (Some bytes) h = inl h

read_come : (limit : ℕ) (events : List Event) (event : Event) (left : Option (List ℕ)) → Tells (λ (bytes : List ℕ). HasComeTo bytes events event) left → Tells (λ (bytes : List ℕ). IsReadSoFar limit bytes (events ++ event ∷ [])) left
read_come limit events event None h = tt
read_come limit events event (Some bytes) h = inr (inl (events, event, refl, h))

read_whole : (limit : ℕ) (events : List Event) (left : Option (List ℕ)) → Tells (λ (bytes : List ℕ). IsWholeSchedule limit bytes events) left → Tells (λ (bytes : List ℕ). IsReadSoFar limit bytes events) left
read_whole limit events None h = tt
read_whole limit events (Some bytes) h = inr (inr h)

-- a recorder that tells the same tells a report that is as lawful, or a beginning
report_same : (config : Options) (events : List Event) (old new : Outside) (before : RecorderSeen) → HasLawfulReport config events old (outside new.disk before) → new.recorder.told ≡ before.told → HasLawfulReport config events old new
report_same config events old new before h same =
    record { report = h.report; told = same ∙ h.told; echo = h.echo; parts = h.parts; faults = h.faults; widths = h.widths; lawful = h.lawful }

beginning_same : (config : Options) (why : RecordStop) (events : List Event) (old new : Outside) (before : RecorderSeen) → HasLawfulBeginning config why events old (outside new.disk before) → new.recorder.told ≡ before.told → HasLawfulBeginning config why events old new
beginning_same config why events old new before h same = record {
  report = h.report;
  told = subst (IsToldSoFar why old.recorder.detail h.report old.recorder.told) (sym same) h.told;
  lawful = h.lawful;
  image = h.image;
  faults = h.faults;
  kept = h.kept;
}

-- a run that was stopped by its recorder, wherever
begins_same : (config : Options) (limit : ℕ) (why : RecordStop) (a : SourceSeen) (old new : Outside) (before : RecorderSeen) → BeginsLawfully config limit why a old (outside new.disk before) → new.recorder.told ≡ before.told → BeginsLawfully config limit why a old new
begins_same config limit why a old new before h same = (h.0, h.1, beginning_same config why h.0 old new before h.2 same)

-- the whole report, with its last line
done_told : (config : Options) (events : List Event) (old new : Outside) (before : RecorderSeen) → (h : HasCarriedOut config events old (outside new.disk before)) → new.recorder.told ≡ gained before.told (kept_of before.detail (End ∷ [])) → (let carried = h.1 in let leads = carried.leads in new.recorder.told ≡ gained old.recorder.told (kept_of old.recorder.detail (ended_report_of config old.recorder.detail leads.history)))
done_told config events old new before h ended =
    let carried = h.1 in
    let leads = carried.leads in
    let detail = old.recorder.detail in
    let report = report_of config detail leads.history in
    let told = told_of config events old (moment h.0 new.disk before) carried in
    ended
    ∙ (ap (λ (d : Detail). gained before.told (kept_of d (End ∷ []))) told.detail
    ∙ (ap (λ (t : Told). gained t (kept_of detail (End ∷ []))) told.told
    ∙ (gained_twice old.recorder.told (kept_of detail report) (kept_of detail (End ∷ []))
    ∙ ap (gained old.recorder.told) (sym (kept_of-append detail report (End ∷ []))))))

echoes : (config : Options) (events : List Event) (old : Outside) (new : Outside) (before : RecorderSeen) → (h : HasCarriedOut config events old (outside new.disk before)) → (let carried = h.1 in let leads = carried.leads in Echoes config old.recorder.detail events (kept_of old.recorder.detail (ended_report_of config old.recorder.detail leads.history)))
echoes config events old new before h =
    let carried = h.1 in
    let leads = carried.leads in
    let detail = old.recorder.detail in
    let lines = lines_of leads.history (start_of config) in
    let answers : AnswersAll config.order events (echo_of (kept_of detail lines)) =
    subst (AnswersAll config.order events) (sym (kept_echo detail lines)) (schedule_echo config.order events (start_of config) leads.history (omega arith) leads.is_kind) in
    (kept_of detail (report_of config detail leads.history), kept_of-append detail (report_of config detail leads.history) (End ∷ []), (kept_of detail lines, refl, answers))

done_lawful : (config : Options) (limit : ℕ) (a b : SourceSeen) (old new : Outside) → HasLength old.disk.content config.sectors → EndsWhole config limit a b old new → IsLawfulRun config limit a.left old new
done_lawful config limit a b old new long done =
    let carried = (let h = done.carried in h.1) in
    let leads = carried.leads in
    let detail = old.recorder.detail in
    let ended = done.ended in
    record {
      events = done.events;
      schedule = done.schedule;
      report = kept_of detail (ended_report_of config detail leads.history);
      told = done_told config done.events old new done.before done.carried ended.told;
      echo = echoes config done.events old new done.before done.carried;
      parts = ended_by_events config detail done.events leads.history (are_made config done.events old (moment (let h = done.carried in h.0) new.disk done.before) carried);
      faults = ended_raised config detail leads.history old.disk new.disk leads.disk;
      widths = have_widths config done.events old (moment (let h = done.carried in h.0) new.disk done.before) carried;
      lawful = subst (λ (jobs : List Submission). IsLawful config detail jobs old.disk.content new.disk.content (kept_of detail (ended_report_of config detail leads.history))) (events_submit done.events (start_of config) leads.history leads.is_kind)
          (ended_lawful config detail leads.history old.disk new.disk (is_told config done.events old (moment (let h = done.carried in h.0) new.disk done.before) carried) long leads.disk);
    }

-- it was told whole, but not handed on
unsent_lawful : (config : Options) (limit : ℕ) (a b : SourceSeen) (old new : Outside) → HasLength old.disk.content config.sectors → EndsUnsent config limit a b old new → BeginsLawfully config limit record_stop.Failed a old new
unsent_lawful config limit a b old new long h =
    let done = h.done in
    let ended = done.ended in
    let carried = (let c = done.carried in c.1) in
    let leads = carried.leads in
    let detail = old.recorder.detail in
    let report = ended_report_of config detail leads.history in
    let told = is_told config done.events old (moment (let c = done.carried in c.0) new.disk done.before) carried in (
      done.events,
      read_whole limit done.events a.left done.schedule,
      record {
        report = kept_of detail report;
        told = inl (h.told ∙ done_told config done.events old (outside new.disk h.before) done.before done.carried ended.told);
        lawful = subst (λ (jobs : List Submission). IsLawfulSoFar config detail jobs old.disk.content (kept_of detail report)) (events_submit done.events (start_of config) leads.history leads.is_kind)
            (begun_lawful config detail leads.history old.disk.content report [] told (append-nil report)
            (ended_honest_run config detail leads.history old.disk new.disk told long leads.disk));
        image = λ honest.
            whole_image config detail (submitted config leads.history) old.disk.content new.disk.content (kept_of detail report)
            (ended_lawful config detail leads.history old.disk new.disk told long leads.disk) honest;
        faults = inl (ended_raised config detail leads.history old.disk new.disk leads.disk);
        kept = λ fixed. content_kept config leads.history old.disk new.disk fixed leads.disk;
      },
    )

-- the recorder stopped at the first line, in an event, or at the last line
cut_lawful : (config : Options) (limit : ℕ) (a : SourceSeen) (why : RecordStop) (old new : Outside) → HasLength old.disk.content config.sectors → IsCut config limit a.left why old new → BeginsLawfully config limit why a old new
cut_lawful config limit a why old new long (inl h) = ([], read_none limit a.left, stopped_at_first config h.word why old new long h.disk h.told)
cut_lawful config limit a why old new long (inr (inl h)) =
    (h.events ++ h.event ∷ [], read_come limit h.events h.event a.left h.schedule, stopped_in_event config h.events h.event why old h.middle (moment h.last new.disk new.recorder) long h.carried h.stopped)
cut_lawful config limit a why old new long (inr (inr h)) =
    let carried = h.carried in
    (h.events, read_whole limit h.events a.left h.schedule, stopped_at_end config h.events why old (moment carried.0 new.disk h.before) new refl long carried.1 h.told)

-- it failed to hand on what was told of whole events
kept_lawful : (config : Options) (limit : ℕ) (a : SourceSeen) (old new : Outside) → HasLength old.disk.content config.sectors → IsUnsent config a.left old new → BeginsLawfully config limit record_stop.Failed a old new
kept_lawful config limit a old new long h =
    let carried = h.carried in
    let failed = h.failed in
    (h.events, read_begun limit h.events a.left h.schedule, beginning_same config record_stop.Failed h.events old new h.before (carried_so_far config record_stop.Failed h.events old (moment carried.0 new.disk h.before) long carried.1) failed.told)

-- nothing was told
none_lawful : (config : Options) (limit : ℕ) (a : SourceSeen) (old new : Outside) → HasLength old.disk.content config.sectors → new ≡ old → BeginsLawfully config limit record_stop.OutOfMemory a old new
none_lawful config limit a old new long same = (
  [],
  read_none limit a.left,
  record {
    report = [];
    told = ap (λ (x : Outside). x.recorder.told) same ∙ sym (gained_none old.recorder.told);
    lawful = nothing_lawful config old.recorder.detail [] old.disk.content;
    image = λ honest. nothing_image config old.disk new.disk long (ap (λ (x : Outside). x.disk.content) same);
    faults = inl (no_faults old.disk.faults new.disk.faults (ap (λ (x : Outside). x.disk.faults) same));
    kept = λ fixed. ap (λ (x : Outside). x.disk.content) same;
  },
)

-- whole events were carried out
read_lawful : (config : Options) (claim : List Event → Type 0) (old new : Outside) → HasLength old.disk.content config.sectors → HasRead config claim old new → ToldOf config claim old new
read_lawful config claim old new long h =
    let carried = h.2 in
    (h.0, h.1, carried_lawful config h.0 old (moment carried.0 new.disk new.recorder) long carried.1)

stands_lawful : (config : Options) (limit : ℕ) (a b : SourceSeen) (why : RunStop) (old new : Outside) → HasLength old.disk.content config.sectors → StandsAtStop config limit a b why old new → IsLawfulStop config limit a b why old new
stands_lawful config limit a b (stop.BadLine n) old new long h = read_lawful config _ old new long h.1
stands_lawful config limit a b stop.Source old new long h = read_lawful config _ old new long h.1
stands_lawful config limit a b stop.TooLong old new long h = read_lawful config _ old new long h.1
stands_lawful config limit a b stop.Sink old new long h = by_end h.1
  where
    by_end : IsCut config limit a.left record_stop.Failed old new ⊎ IsUnsent config a.left old new → BeginsLawfully config limit record_stop.Failed a old new
    by_end (inl cut) = cut_lawful config limit a record_stop.Failed old new long cut
    by_end (inr kept) = kept_lawful config limit a old new long kept
stands_lawful config limit a b stop.OutOfMemory old new long h = by_end h.1
  where
    by_end : (new ≡ old) ⊎ IsCut config limit a.left record_stop.OutOfMemory old new → BeginsLawfully config limit record_stop.OutOfMemory a old new
    by_end (inl same) = none_lawful config limit a old new long same
    by_end (inr cut) = cut_lawful config limit a record_stop.OutOfMemory old new long cut

told_same : (config : Options) (claim : List Event → Type 0) (old new : Outside) (before : RecorderSeen) → ToldOf config claim old (outside new.disk before) → new.recorder.told ≡ before.told → ToldOf config claim old new
told_same config claim old new before h same = (h.0, h.1, report_same config h.0 old new before h.2 same)

stop_same : (config : Options) (limit : ℕ) (a b : SourceSeen) (why : RunStop) (old new : Outside) (before : RecorderSeen) → IsLawfulStop config limit a b why old (outside new.disk before) → new.recorder.told ≡ before.told → IsLawfulStop config limit a b why old new
stop_same config limit a b (stop.BadLine n) old new before h same = told_same config _ old new before h same
stop_same config limit a b stop.Source old new before h same = told_same config _ old new before h same
stop_same config limit a b stop.TooLong old new before h same = told_same config _ old new before h same
stop_same config limit a b stop.Sink old new before h same = begins_same config limit record_stop.Failed a old new before h same
stop_same config limit a b stop.OutOfMemory old new before h same = begins_same config limit record_stop.OutOfMemory a old new before h same

stopped_lawful : (config : Options) (limit : ℕ) (a b : SourceSeen) (why : RunStop) (old new : Outside) → HasLength old.disk.content config.sectors → StopsWith config limit a b why old new → IsLawfulStop config limit a b why old new
stopped_lawful config limit a b why old new long h =
    let handed = h.handed_on in
    stop_same config limit a b why old new h.before (stands_lawful config limit a b why old (outside new.disk h.before) long h.stands) handed.told

-- as the run's result says
pub run_lawful : (config : Options) (limit : ℕ) (result : Result (Unit {0}) RunStop) (a b : SourceSeen) (old new : Outside) → HasLength old.disk.content config.sectors → Runs config limit result a b old new → RunsLawfully config limit result a b old new
run_lawful config limit (Ok done) a b old new long h = done_lawful config limit a b old new long h
run_lawful config limit (Err (stop.BadLine n)) a b old new long h = stopped_lawful config limit a b (stop.BadLine n) old new long h
run_lawful config limit (Err stop.Source) a b old new long h = stopped_lawful config limit a b stop.Source old new long h
run_lawful config limit (Err stop.TooLong) a b old new long h = stopped_lawful config limit a b stop.TooLong old new long h
run_lawful config limit (Err stop.Sink) a b old new long (inl h) = stopped_lawful config limit a b stop.Sink old new long h
run_lawful config limit (Err stop.Sink) a b old new long (inr h) = unsent_lawful config limit a b old new long h
run_lawful config limit (Err stop.OutOfMemory) a b old new long h = stopped_lawful config limit a b stop.OutOfMemory old new long h
