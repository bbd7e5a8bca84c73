-- What was told of events that were carried out is lawful; so is what was told until the recorder stopped.
use Rattle.std.proofs.Common.{◌≡◌, ℕ, ◌^◌, ◌<◌, ◌≤◌, ◌⊎◌, List, [], ◌∷◌, ◌++◌, length, Result, Ok, Err, inl, inr, refl, ap, sym, ◌∙◌, subst, append_assoc, append-nil, length-append, arith}
use Rattle.blk_base.specs.Options.{Options}
use Rattle.blk_base.specs.declared.config.Submission.{Submission}
use Rattle.blk_io.specs.Disk.{DiskSeen, HasLength}
use Rattle.std.specs.Prelude.{All}
use Rattle.std.specs.List.{AllByRecursion}
use Rattle.std.proofs.lemmas.List.Elements.{All-from_recursion}
use Rattle.schedule_text.specs.Range.{SubmissionHasWidths}
use Rattle.schedule_text.specs.declared.event.Event.{Event}
use Rattle.schedule_text.specs.declared.event.Event.TheVariants as events
use Rattle.schedule_text.specs.declared.line.Detail.{Detail}
use Rattle.schedule_text.specs.declared.line.Line.{Line}
use Rattle.schedule_text.specs.declared.line.Line.TheVariants.{Begin, End}
use Rattle.schedule_text.specs.declared.recorder.RecordStop.{RecordStop}
use Rattle.schedule_text.specs.declared.recorder.RecordStop.TheVariants.{Failed, OutOfMemory}
use Rattle.schedule_text.specs.Recorder.{Told, RecorderSeen, kept_of, recorded, gained, Gained, StopsAt, StopsAmong}
use Rattle.schedule_text.proofs.Adding.{gained_twice, stopped_later}
use Rattle.plain_disk.specs.Echo.{AnswersAll}
use Rattle.vbd_model.specs.World.{World, start_of}
use Rattle.vbd_model.specs.Happening.{Happening, JobMoves, after, lines_at, lines_of, all_does}
use Rattle.vbd_model.specs.Kind.{AreOf, AreOfAll, AreOfSoFar}
use Rattle.vbd_model.specs.Leads.{Moment, moment, Leads, StopsShowing, LacksMemory, NeedsMemory, LeadsToStop, Goes}
use Rattle.vbd_model.specs.Report.{report_of, ended_report_of}
use Rattle.vbd_model.proofs.Running.{lines_of-append, leads_as, stops_on}
use Rattle.vbd_model.proofs.Echo.{schedule_echo, kept_echo}
use Rattle.vbd_model.proofs.Possible.{events_possible, events_so_far_possible}
use Rattle.machine_pipeline.specs.Submissions.{jobs_of}
use Rattle.vbd_model.proofs.Submitting.{events_submit, events_so_far_submit}
use Rattle.vbd_laws.proofs.Served.{rings_possible, rings_served}
use Rattle.vbd_laws.proofs.Quiet.{rings_agreed}
use Rattle.settle_laws.specs.Calls.{IsCall, AreCalls}
use Rattle.settle_laws.proofs.Settling.{each_schedule_settles, each_beginning_settles, calls_of, calls_more}
use Rattle.refusal_laws.proofs.Serves.{machine_serves}
use Rattle.disk_laws.proofs.Before.{HasRunSoFar}
use Rattle.plain_disk.specs.Honest.{honest_part, IsHonest}
use Rattle.pipeline_laws.specs.Effects.{IsOfADisk}
use Rattle.schedule_run.specs.Outcome.{Outside, outside, IsServed, HasCarried}
use Rattle.schedule_run.specs.Lawful.{IsLawful, IsLawfulSoFar, HasLawfulReport, IsToldSoFar, IsOneCallPast, HasLawfulBeginning, EventLeaves}
use Rattle.schedule_run.proofs.FewReads.{events_brief, events_so_far_brief}
use Rattle.schedule_run.proofs.Lawful.{nothing_lawful}
use Rattle.schedule_run.proofs.Wished.{possible_wished}
use Rattle.schedule_run.proofs.Image.{whole_image, nothing_image, image_at_stop, faults_at_stop}
use Rattle.event_laws.specs.Laws.{AreMade}
use Rattle.event_laws.specs.Faults.{faults_in, IsRaised}
use Rattle.event_laws.proofs.Parts.{report_by_events}
use Rattle.event_laws.proofs.Faults.{report_raised, no_faults}
use Rattle.schedule_run.proofs.Whole.{submitted, IsTold, history_first, content_kept, report_lawful, report_honest_run, begun_honest, begun_lawful, run_later}
use Rattle.schedule_run.proofs.Begins.{plain_of}
use Rattle.schedule_run.proofs.Carrying.{events_lead_on}

-- how what was told is told at a stop
told_whole : (why : RecordStop) (detail : Detail) (report : List Line) (old new : Told) → new ≡ gained old report → IsToldSoFar why detail report old new
told_whole Failed detail report old new all = inl all
told_whole OutOfMemory detail report old new all = all

told_at : (why : RecordStop) (detail : Detail) (report : List Line) (cut : Line) (old new : Told) → StopsAt why (gained old report) (recorded detail cut) new → IsToldSoFar why detail report old new
told_at Failed detail report cut old new stops = inr (cut, stops)
told_at OutOfMemory detail report cut old new stops = stops

-- the report of what was carried out was told
pub told_of : (config : Options) (events : List Event) (old : Outside) (now : Moment) (h : HasCarried config events old now) → (let leads = h.leads in Gained (report_of config old.recorder.detail leads.history) old.recorder now.recorder)
told_of config events old now h =
    let leads = h.leads in
    gained_twice (Begin config old.recorder.detail ∷ []) (lines_of leads.history (start_of config)) old.recorder h.began now.recorder h.first leads.told

pub is_told : (config : Options) (events : List Event) (old : Outside) (now : Moment) (h : HasCarried config events old now) → (let leads = h.leads in IsTold config old.recorder.detail leads.history)
is_told config events old now h =
    let leads = h.leads in
    let served = h.served in
    record {
      plain = plain_of config served;
      options = served.options;
      possible = rings_possible config leads.history served.carried served.options (events_possible events (start_of config) leads.history leads.is_kind);
      served = rings_served config leads.history served.carried served.options (events_possible events (start_of config) leads.history leads.is_kind);
      agreed = rings_agreed config leads.history served.carried served.options (events_possible events (start_of config) leads.history leads.is_kind);
      settled = each_schedule_settles config events leads.history served.carried served.options leads.is_kind (calls_of leads.history (start_of config) old.disk now.disk leads.disk);
      serving = machine_serves config leads.history served.options;
      brief = events_brief config old.recorder.detail events leads.history (plain_of config served) leads.is_kind h.few;
    }

-- each request that is submitted has numbers of the grammar
jobs_fit : (es : List Event) (w : World) (hs : List Happening) → AreOfAll es w hs → AllByRecursion SubmissionHasWidths (jobs_of es)
jobs_fit [] w hs are = tt
jobs_fit (events.Submit job ∷ es) w hs are = (are.3.1.1, jobs_fit es (after are.0 w) are.1 are.4)
jobs_fit (e ∷ es) w hs are = jobs_fit es (after are.0 w) are.1 are.4

pub have_widths : (config : Options) (events : List Event) (old : Outside) (now : Moment) → HasCarried config events old now → All SubmissionHasWidths (jobs_of events)
have_widths config events old now h = let leads = h.leads in All-from_recursion SubmissionHasWidths (jobs_of events) (jobs_fit events (start_of config) leads.history leads.is_kind)

-- these events made what happened
pub are_made : (config : Options) (events : List Event) (old : Outside) (now : Moment) (h : HasCarried config events old now) → (let leads = h.leads in AreMade config events leads.history)
are_made config events old now h =
    let leads = h.leads in
    let served = h.served in
    let told = is_told config events old now h in
    record { carried = served.carried; options = served.options; wished = possible_wished config (all_does leads.history (start_of config)) told.possible; made = leads.is_kind }

-- a whole report
pub carried_lawful : (config : Options) (events : List Event) (old : Outside) (now : Moment) → HasLength old.disk.content config.sectors → HasCarried config events old now → HasLawfulReport config events old (outside now.disk now.recorder)
carried_lawful config events old now long h =
    let leads = h.leads in
    let detail = old.recorder.detail in
    let report = report_of config detail leads.history in
    let told = told_of config events old now h in
    record {
      report = kept_of detail report;
      told = told.told;
      echo = subst (AnswersAll config.order events) (sym (kept_echo detail report)) (schedule_echo config.order events (start_of config) leads.history (omega arith) leads.is_kind);
      parts = report_by_events config detail events leads.history (are_made config events old now h);
      faults = report_raised config detail leads.history old.disk now.disk leads.disk;
      widths = have_widths config events old now h;
      lawful = subst (λ (jobs : List Submission). IsLawful config detail jobs old.disk.content now.disk.content (kept_of detail report)) (events_submit events (start_of config) leads.history leads.is_kind)
          (report_lawful config detail leads.history old.disk now.disk (is_told config events old now h) long leads.disk);
    }

-- the image is that of a whole report, and so are the faults
pub carried_image : (config : Options) (events : List Event) (old : Outside) (now : Moment) (long : HasLength old.disk.content config.sectors) (h : HasCarried config events old now)
    → (let leads = h.leads in let report = kept_of old.recorder.detail (report_of config old.recorder.detail leads.history) in IsHonest report → IsOneCallPast config.sectors old.disk.content now.disk.content report)
carried_image config events old now long h honest =
    let leads = h.leads in
    let detail = old.recorder.detail in
    whole_image config detail (submitted config leads.history) old.disk.content now.disk.content (kept_of detail (report_of config detail leads.history))
    (report_lawful config detail leads.history old.disk now.disk (is_told config events old now h) long leads.disk) honest

-- as the beginning of one
pub carried_so_far : (config : Options) (why : RecordStop) (events : List Event) (old : Outside) (now : Moment) → HasLength old.disk.content config.sectors → HasCarried config events old now → HasLawfulBeginning config why events old (outside now.disk now.recorder)
carried_so_far config why events old now long h =
    let leads = h.leads in
    let detail = old.recorder.detail in
    let report = report_of config detail leads.history in
    let told = told_of config events old now h in
    record {
      report = kept_of detail report;
      told = told_whole why detail (kept_of detail report) old.recorder.told now.recorder.told told.told;
      lawful = subst (λ (jobs : List Submission). IsLawfulSoFar config detail jobs old.disk.content (kept_of detail report)) (events_submit events (start_of config) leads.history leads.is_kind)
          (begun_lawful config detail leads.history old.disk.content report (End ∷ []) (is_told config events old now h) refl
          (report_honest_run config detail leads.history old.disk now.disk (is_told config events old now h) long leads.disk));
      image = carried_image config events old now long h;
      faults = inl (report_raised config detail leads.history old.disk now.disk leads.disk);
      kept = λ fixed. content_kept config leads.history old.disk now.disk fixed leads.disk;
    }

-- nothing was told whole: the recorder stopped at the first line
nothing_before : {X : Type 0} (x : X) (said : List X) (cut : X) (rest : List X) → x ∷ [] ≡ said ++ cut ∷ rest → said ≡ []
nothing_before x [] cut rest e = refl
nothing_before x (y ∷ []) cut rest e = absurd (cc)
nothing_before x (y ∷ z ∷ said) cut rest e = absurd (cc)

pub stopped_at_first : (config : Options) (word : Detail) (why : RecordStop) (old new : Outside) → HasLength old.disk.content config.sectors → new.disk ≡ old.disk → StopsAmong [] (Begin config word ∷ []) why old.recorder new.recorder → HasLawfulBeginning config why [] old new
stopped_at_first config word why old new long same s =
    let none : s.said ≡ [] = nothing_before (Begin config word) s.said s.cut s.rest s.all in
    let detail = old.recorder.detail in
    record {
      report = [];
      told = told_at why detail [] s.cut old.recorder.told new.recorder.told (subst (λ (l : List Line). StopsAt why (gained old.recorder.told (kept_of detail l)) (recorded detail s.cut) new.recorder.told) none s.stops);
      lawful = nothing_lawful config detail [] old.disk.content;
      image = λ honest. nothing_image config old.disk new.disk long (ap (λ (d : DiskSeen). d.content) same);
      faults = inl (no_faults old.disk.faults new.disk.faults (ap (λ (d : DiskSeen). d.faults) same));
      kept = λ fixed. ap (λ (d : DiskSeen). d.content) same;
    }

-- the lines of all that happened, cut among the last one's
cut_report : (config : Options) (detail : Detail) (history : List Happening) (last : Happening) (said rest : List Line) (cut : Line) → lines_at (after history (start_of config)) last ≡ said ++ cut ∷ rest → (report_of config detail history ++ said) ++ ((cut ∷ rest) ++ End ∷ []) ≡ ended_report_of config detail (history ++ last ∷ [])
cut_report config detail history last said rest cut all =
    let start = start_of config in
    let one = report_of config detail history in
    let more : lines_of (history ++ last ∷ []) start ≡ lines_of history start ++ (said ++ cut ∷ rest) =
    lines_of-append history (last ∷ []) start ∙ ap (λ (x : List Line). lines_of history start ++ x) (append-nil (lines_at (after history start) last) ∙ all) in
    sym (append_assoc (one ++ said) (cut ∷ rest) (End ∷ []))
    ∙ (ap (λ (x : List Line). x ++ End ∷ []) (append_assoc one said (cut ∷ rest))
    ∙ ap (λ (x : List Line). (Begin config detail ∷ x) ++ End ∷ []) (sym more))

-- the happenings of events, and of one more as far as it came
abbrev AreOfBoth : List Event → Event → World → List Happening → Type 0
AreOfBoth events event w hs = (xs : List Happening) × (ys : List Happening) × (hs ≡ xs ++ ys) × AreOfAll events w xs × AreOfSoFar event (after xs w) ys

both_told : (config : Options) (detail : Detail) (events : List Event) (event : Event) (hs : List Happening) → IsServed config → length events ≤ 10 ^ 9 → AreOfBoth events event (start_of config) hs → AreCalls hs (start_of config) → IsTold config detail hs
both_told config detail events event hs served few k calls =
    let start = start_of config in
    let plain = plain_of config served in
    subst (IsTold config detail) (sym k.2) (record {
      plain = plain;
      options = served.options;
      possible = rings_possible config (k.0 ++ k.1) served.carried served.options (events_so_far_possible events event start k.0 k.1 k.3 k.4);
      served = rings_served config (k.0 ++ k.1) served.carried served.options (events_so_far_possible events event start k.0 k.1 k.3 k.4);
      agreed = rings_agreed config (k.0 ++ k.1) served.carried served.options (events_so_far_possible events event start k.0 k.1 k.3 k.4);
      settled = each_beginning_settles config events event k.0 k.1 served.carried served.options k.3 k.4 (subst (λ (xs : List Happening). AreCalls xs start) k.2 calls);
      serving = machine_serves config (k.0 ++ k.1) served.options;
      brief = events_so_far_brief config detail events event k.0 k.1 plain k.3 k.4 few;
    })

-- the recorder stopped at a line of the last thing that happened
stopped_showing : (config : Options) (events : List Event) (event : Event) (why : RecordStop) (old : Outside) (began : RecorderSeen) (new : Moment) (history : List Happening) (last : Happening) → HasLength old.disk.content config.sectors → Gained (Begin config old.recorder.detail ∷ []) old.recorder began → IsTold config old.recorder.detail (history ++ last ∷ []) → submitted config (history ++ last ∷ []) ≡ jobs_of (events ++ event ∷ []) → StopsShowing history last why (moment (start_of config) old.disk began) new → HasLawfulBeginning config why (events ++ event ∷ []) old (outside new.disk new.recorder)
stopped_showing config events event why old began new history last long first both jobs s =
    let start = start_of config in
    let detail = old.recorder.detail in
    let told = stopped_later (Begin config detail ∷ []) (lines_of history start) (lines_at (after history start) last) why old.recorder began new.recorder first s.told in
    let all = history ++ last ∷ [] in
    let said = report_of config detail history ++ told.said in
    record {
      report = kept_of detail said;
      told = told_at why detail (kept_of detail said) told.cut old.recorder.told new.recorder.told told.stops;
      lawful = subst (λ (js : List Submission). IsLawfulSoFar config detail js old.disk.content (kept_of detail said)) jobs
          (begun_lawful config detail all old.disk.content said ((told.cut ∷ told.rest) ++ End ∷ []) both
          (cut_report config detail history last told.said told.rest told.cut told.all)
          (begun_honest config detail history last told.said told.cut told.rest old.disk new.disk both long s.disk (sym told.all)));
      image = image_at_stop config detail history last told.said told.rest told.cut old.disk new.disk both long s.disk told.all;
      faults = faults_at_stop config detail history last told.said told.rest told.cut old.disk new.disk s.disk told.all;
      kept = λ fixed. content_kept config all old.disk new.disk fixed s.disk;
    }

-- the lines of all that happened, before the last one's
before_last : (config : Options) (detail : Detail) (history : List Happening) (last : Happening) → report_of config detail history ++ (lines_at (after history (start_of config)) last ++ End ∷ []) ≡ ended_report_of config detail (history ++ last ∷ [])
before_last config detail history last =
    let start = start_of config in
    let line = lines_at (after history start) last in
    let lines : lines_of (history ++ last ∷ []) start ≡ lines_of history start ++ line = lines_of-append history (last ∷ []) start ∙ ap (λ (x : List Line). lines_of history start ++ x) (append-nil line) in
    sym (append_assoc (report_of config detail history) line (End ∷ [])) ∙ ap (λ (x : List Line). (Begin config detail ∷ x) ++ End ∷ []) (sym lines)

-- or there was no memory for it
lacked_memory : (config : Options) (events : List Event) (event : Event) (why : RecordStop) (old : Outside) (began : RecorderSeen) (new : Moment) (history : List Happening) (last : Happening) → HasLength old.disk.content config.sectors → Gained (Begin config old.recorder.detail ∷ []) old.recorder began → IsTold config old.recorder.detail (history ++ last ∷ []) → submitted config (history ++ last ∷ []) ≡ jobs_of (events ++ event ∷ []) → LacksMemory history last why (moment (start_of config) old.disk began) new → HasLawfulBeginning config why (events ++ event ∷ []) old (outside new.disk new.recorder)
lacked_memory config events event why old began new history last long first both jobs s =
    let start = start_of config in
    let detail = old.recorder.detail in
    let told = gained_twice (Begin config detail ∷ []) (lines_of history start) old.recorder began new.recorder first s.told in
    let said = report_of config detail history in
    record {
      report = kept_of detail said;
      told = told_whole why detail (kept_of detail said) old.recorder.told new.recorder.told told.told;
      image = λ honest.
          whole_image config detail (submitted config history) old.disk.content new.disk.content (kept_of detail said)
          (report_lawful config detail history old.disk new.disk (history_first config detail history last both) long s.disk) honest;
      faults = inl (report_raised config detail history old.disk new.disk s.disk);
      lawful = subst (λ (js : List Submission). IsLawfulSoFar config detail js old.disk.content (kept_of detail said)) jobs
          (begun_lawful config detail (history ++ last ∷ []) old.disk.content said (lines_at (after history start) last ++ End ∷ []) both (before_last config detail history last)
          (λ of. run_later config history last old.disk.content (honest_part (kept_of detail said)) (report_honest_run config detail history old.disk new.disk (history_first config detail history last both) long s.disk of)));
      kept = λ fixed. content_kept config history old.disk new.disk fixed s.disk;
    }

-- what lacked memory called no disk
lacking_call : (w : World) (h : Happening) → NeedsMemory w h → IsCall w h
lacking_call w (JobMoves number outcome) needs = absurd needs
lacking_call w h needs = tt

-- an event was stopped
pub stopped_in_event : (config : Options) (events : List Event) (event : Event) (why : RecordStop) (old : Outside) (middle new : Moment) → HasLength old.disk.content config.sectors → HasCarried config events old middle → LeadsToStop (AreOfSoFar event middle.world) why middle new → HasLawfulBeginning config why (events ++ event ∷ []) old (outside new.disk new.recorder)
stopped_in_event config events event why old middle new long h stopped = by_stop whole.stopped
  where
    start : World
    start = start_of config

    whole : LeadsToStop (AreOfBoth events event (start_of config)) why (moment (start_of config) old.disk h.began) new
    whole = stops_on (AreOfAll events start) (AreOfSoFar event middle.world) (AreOfBoth events event start) why (moment start old.disk h.began) middle new (λ xs ys k here f. (xs, ys, refl, k, subst (λ (w : World). AreOfSoFar event w ys) here f)) h.leads stopped

    calls : StopsShowing whole.history whole.last why (moment (start_of config) old.disk h.began) new ⊎ LacksMemory whole.history whole.last why (moment (start_of config) old.disk h.began) new → AreCalls (whole.history ++ whole.last ∷ []) (start_of config)
    calls (inl s) = calls_of (whole.history ++ whole.last ∷ []) (start_of config) old.disk new.disk s.disk
    calls (inr s) =
        calls_more whole.history whole.last (start_of config) (calls_of whole.history (start_of config) old.disk new.disk s.disk)
        (lacking_call (after whole.history (start_of config)) whole.last s.needed)

    both : IsTold config old.recorder.detail (whole.history ++ whole.last ∷ [])
    both = both_told config old.recorder.detail events event (whole.history ++ whole.last ∷ []) h.served h.few whole.is_kind (calls whole.stopped)

    jobs : submitted config (whole.history ++ whole.last ∷ []) ≡ jobs_of (events ++ event ∷ [])
    jobs = let k = whole.is_kind in ap (submitted config) k.2 ∙ events_so_far_submit events event start k.0 k.1 k.3 k.4

    by_stop : StopsShowing whole.history whole.last why (moment (start_of config) old.disk h.began) new ⊎ LacksMemory whole.history whole.last why (moment (start_of config) old.disk h.began) new → HasLawfulBeginning config why (events ++ event ∷ []) old (outside new.disk new.recorder)
    by_stop (inl s) = stopped_showing config events event why old h.began new whole.history whole.last long h.first both jobs s
    by_stop (inr s) = lacked_memory config events event why old h.began new whole.history whole.last long h.first both jobs s

-- or at the last line
pub stopped_at_end : (config : Options) (events : List Event) (why : RecordStop) (old : Outside) (before : Moment) (new : Outside) → new.disk ≡ before.disk → HasLength old.disk.content config.sectors → HasCarried config events old before → StopsAmong [] (End ∷ []) why before.recorder new.recorder → HasLawfulBeginning config why events old new
stopped_at_end config events why old before new same_disk long h s =
    let leads = h.leads in
    let detail = old.recorder.detail in
    let report = report_of config detail leads.history in
    let told = stopped_later report [] (End ∷ []) why old.recorder before.recorder new.recorder (told_of config events old before h) s in
    let said = (report ++ []) ++ told.said in
    let all : said ++ told.cut ∷ told.rest ≡ report ++ End ∷ [] =
    append_assoc (report ++ []) told.said (told.cut ∷ told.rest)
    ∙ (ap (λ (x : List Line). (report ++ []) ++ x) (sym told.all)
    ∙ ap (λ (x : List Line). x ++ End ∷ []) (append-nil report)) in
    let same : said ≡ report = ap (λ (x : List Line). (report ++ []) ++ x) (nothing_before End told.said told.cut told.rest told.all) ∙ (append-nil (report ++ []) ∙ append-nil report) in
    let whole = is_told config events old before h in
    record {
      report = kept_of detail said;
      told = told_at why detail (kept_of detail said) told.cut old.recorder.told new.recorder.told told.stops;
      image = subst (λ (d : DiskSeen). IsHonest (kept_of detail said) → IsOneCallPast config.sectors old.disk.content d.content (kept_of detail said)) (sym same_disk)
          (subst (λ (ls : List Line). IsHonest (kept_of detail ls) → IsOneCallPast config.sectors old.disk.content before.disk.content (kept_of detail ls)) (sym same) (carried_image config events old before long h));
      faults = inl (subst (λ (d : DiskSeen). IsRaised (faults_in (kept_of detail said)) old.disk.faults d.faults) (sym same_disk)
          (subst (λ (ls : List Line). IsRaised (faults_in (kept_of detail ls)) old.disk.faults before.disk.faults) (sym same) (report_raised config detail leads.history old.disk before.disk leads.disk)));
      lawful = subst (λ (jobs : List Submission). IsLawfulSoFar config detail jobs old.disk.content (kept_of detail said)) (events_submit events (start_of config) leads.history leads.is_kind)
          (begun_lawful config detail leads.history old.disk.content said (told.cut ∷ told.rest) whole all
          (subst (λ (ls : List Line). IsOfADisk config.sectors old.disk.content (honest_part (kept_of detail ls)) → HasRunSoFar (submitted config leads.history) old.disk.content (honest_part (kept_of detail ls))) (sym same)
          (report_honest_run config detail leads.history old.disk before.disk whole long leads.disk)));
      kept = λ fixed. ap (λ (d : DiskSeen). d.content) same_disk ∙ content_kept config leads.history old.disk before.disk fixed leads.disk;
    }

-- one event more
carried_on : (config : Options) (events : List Event) (event : Event) (old : Outside) (a b : Moment) → length events < 10 ^ 9 → HasCarried config events old a → Leads (AreOf event a.world) a b → HasCarried config (events ++ event ∷ []) old b
carried_on config events event old a b few h leads = record {
  served = h.served;
  few = let more = length-append events (event ∷ []) in omega arith;
  began = h.began;
  first = h.first;
  leads = events_lead_on events (event ∷ []) (moment (start_of config) old.disk h.began) a b h.leads
      (leads_as (AreOf event a.world) (AreOfAll (event ∷ []) a.world) a b (λ xs k. (xs, [], sym (append-nil xs), k, refl)) leads);
}

-- an event leaves the report lawful
pub event_lawful : (config : Options) (events : List Event) (event : Event) (old : Outside) (n : ℕ) (result : Result (Unit {0}) RecordStop) (a b : Moment) → length events < 10 ^ 9 → HasLength old.disk.content config.sectors → HasCarried config events old a → Goes (AreOf event a.world) (AreOfSoFar event a.world) n result a b → EventLeaves config (events ++ event ∷ []) old result b
event_lawful config events event old n (Ok done) a b few long h goes =
    let carried = carried_on config events event old a b few h goes.ends in
    record { carried = carried; told = carried_lawful config (events ++ event ∷ []) old b long carried }
event_lawful config events event old n (Err why) a b few long h goes = stopped_in_event config events event why old a b long h goes.ends
