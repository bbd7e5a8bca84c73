-- What a run did to the counts of faults, to what is attached, and to its recorder's sink.
use Rattle.std.proofs.Common.{◌≡◌, ◌⊎◌, ℕ, ◌-◌, ◌<◌, ◌^◌, List, [], ◌∷◌, ◌++◌, Option, Result, Ok, Err, inl, inr, sym, ap, ◌∙◌, subst, arith}
use Rattle.blk_base.specs.Options.{Options}
use Rattle.blk_io.specs.Outside.{Rose, SourceSeen}
use Rattle.schedule_text.specs.declared.event.Event.{Event}
use Rattle.schedule_text.specs.declared.recorder.RecordStop.{RecordStop}
use Rattle.schedule_text.specs.declared.recorder.RecordStop.TheVariants as record_stop
use Rattle.schedule_text.specs.Recorder.{RecorderSeen, Because}
use Rattle.vbd_model.specs.World.{start_of}
use Rattle.vbd_model.specs.Happening.{Happening}
use Rattle.vbd_model.specs.Leads.{Moment, moment, StopsShowing, LacksMemory}
use Rattle.vbd_model.proofs.Running.{runs_attachment}
use Rattle.schedule_run.specs.Outcome.{Outside, outside, HasCarried, EndsWhole, IsCut, HasRead, StandsAtStop, StopsWith, EndsUnsent, Runs}
use Rattle.schedule_run.specs.declared.schedule.RunStop.{RunStop}
use Rattle.schedule_run.specs.declared.schedule.RunStop.TheVariants as run

-- what is attached, what the recorder keeps and where it writes are as before
pub record Stays (old new : Outside) : Type 0 where
  pub attachment : new.disk.attachment ≡ old.disk.attachment
  pub detail : new.recorder.detail ≡ old.recorder.detail
  pub lender : new.recorder.lender ≡ old.recorder.lender

-- and the recorder didn't fail
record Unfailed (old new : Outside) : Type 0 where
  pub stays : Stays old new
  pub faults : new.recorder.faults ≡ old.recorder.faults

carried : (config : Options) (events : List Event) (old : Outside) (now : Moment) → HasCarried config events old now → Unfailed old (outside now.disk now.recorder)
carried config events old now h = record {
  stays = record {
    attachment = runs_attachment h.leads.history (start_of config) old.disk now.disk h.leads.disk;
    detail = h.leads.told.detail ∙ h.first.detail;
    lender = h.leads.told.lender ∙ h.first.lender;
  };
  faults = h.leads.told.faults ∙ h.first.faults;
}

-- the recorder stopped for this reason
record StopsFor (why : RecordStop) (old new : Outside) : Type 0 where
  pub stays : Stays old new
  pub because : Because why old.recorder.faults new.recorder.faults

-- what a stop keeps, of whichever kind it is
record StopStays (why : RecordStop) (a b : Moment) : Type 0 where
  pub attachment : b.disk.attachment ≡ a.disk.attachment
  pub detail : b.recorder.detail ≡ a.recorder.detail
  pub lender : b.recorder.lender ≡ a.recorder.lender
  pub because : Because why a.recorder.faults b.recorder.faults

stop_stays : (history : List Happening) (last : Happening) (why : RecordStop) (a b : Moment) → StopsShowing history last why a b ⊎ LacksMemory history last why a b → StopStays why a b
stop_stays history last why a b (inl s) = record {
  attachment = runs_attachment (history ++ last ∷ []) a.world a.disk b.disk s.disk;
  detail = s.told.detail;
  lender = s.told.lender;
  because = s.told.because;
}
stop_stays history last why a b (inr s) = record {
  attachment = runs_attachment history a.world a.disk b.disk s.disk;
  detail = s.told.detail;
  lender = s.told.lender;
  because = subst (λ (w : RecordStop). Because w a.recorder.faults b.recorder.faults) (sym s.lacks) s.told.faults;
}

cut : (config : Options) (limit : ℕ) (left : Option (List ℕ)) (why : RecordStop) (old new : Outside) → IsCut config limit left why old new → StopsFor why old new
cut config limit left why old new (inl h) = record {
  stays = record { attachment = ap (λ d. d.attachment) h.disk; detail = h.told.detail; lender = h.told.lender };
  because = h.told.because;
}
cut config limit left why old new (inr (inl h)) =
    let before = carried config h.events old h.middle h.carried in
    let stop = h.stopped in
    let stays = stop_stays stop.history stop.last why h.middle (moment h.last new.disk new.recorder) stop.stopped in
    record {
      stays = record {
        attachment = stays.attachment ∙ before.stays.attachment;
        detail = stays.detail ∙ before.stays.detail;
        lender = stays.lender ∙ before.stays.lender;
      };
      because = subst (λ f. Because why f new.recorder.faults) before.faults stays.because;
    }
cut config limit left why old new (inr (inr h)) =
    let before = carried config h.events old _ h.carried.1 in
    record {
      stays = record { attachment = before.stays.attachment; detail = h.told.detail ∙ before.stays.detail; lender = h.told.lender ∙ before.stays.lender };
      because = subst (λ f. Because why f new.recorder.faults) before.faults h.told.because;
    }

-- how often the source failed since, and how often a recorder that stopped
abbrev pub SourceAt : Result (Unit {0}) RunStop → ℕ → ℕ → Type 0
SourceAt (Err run.Source) before after = Rose before after
SourceAt result before after = after ≡ before

abbrev RecorderAt : RunStop → ℕ → ℕ → Type 0
RecorderAt run.Sink before after = Rose before after
RecorderAt why before after = after ≡ before

record Stood (why : RunStop) (a b : SourceSeen) (old new : Outside) : Type 0 where
  pub source : SourceAt (Err why) a.faults b.faults
  pub stays : Stays old new
  pub recorder : RecorderAt why old.recorder.faults new.recorder.faults

was_read : (config : Options) (claim : List Event → Type 0) (old new : Outside) → HasRead config claim old new → Unfailed old new
was_read config claim old new h = carried config h.0 old _ h.2.1

nothing : (old new : Outside) → new ≡ old → Unfailed old new
nothing old new same = record {
  stays = record { attachment = ap (λ o. o.disk.attachment) same; detail = ap (λ o. o.recorder.detail) same; lender = ap (λ o. o.recorder.lender) same };
  faults = ap (λ o. o.recorder.faults) same;
}

stood : (config : Options) (limit : ℕ) (a b : SourceSeen) (why : RunStop) (old new : Outside) → StandsAtStop config limit a b why old new → Stood why a b old new
stood config limit a b (run.BadLine n) old new h = let u = was_read config _ old new h.1 in record { source = h.0; stays = u.stays; recorder = u.faults }
stood config limit a b run.Source old new h = let u = was_read config _ old new h.1 in record { source = h.0; stays = u.stays; recorder = u.faults }
stood config limit a b run.TooLong old new h = let u = was_read config _ old new h.1 in record { source = h.0; stays = u.stays; recorder = u.faults }
stood config limit a b run.Sink old new (same, inl h) = let u = cut config limit a.left record_stop.Failed old new h in record { source = same; stays = u.stays; recorder = u.because }
stood config limit a b run.Sink old new (same, inr h) =
    let u = carried config h.events old _ h.carried.1 in
    let failed = h.failed in
    record {
      source = same;
      stays = record { attachment = u.stays.attachment; detail = failed.detail ∙ u.stays.detail; lender = failed.lender ∙ u.stays.lender };
      recorder = subst (λ f. Rose f new.recorder.faults) u.faults failed.rose;
    }
stood config limit a b run.OutOfMemory old new (same, inl h) = let u = nothing old new h in record { source = same; stays = u.stays; recorder = u.faults }
stood config limit a b run.OutOfMemory old new (same, inr h) = let u = cut config limit a.left record_stop.OutOfMemory old new h in record { source = same; stays = u.stays; recorder = u.because }

-- what the recorder's sink keeps back in the end, and how often it failed
abbrev pub SinkAt : Result (Unit {0}) RunStop → RecorderSeen → RecorderSeen → Type 0
SinkAt (Ok done) r s = (s.kept_back ≡ 0) × (s.faults ≡ r.faults)
SinkAt (Err run.Sink) r s = Rose r.faults s.faults
SinkAt (Err why) r s = ((s.kept_back ≡ 0) × (s.faults ≡ r.faults)) ⊎ Rose r.faults s.faults

rose_then : (a b c : ℕ) → Rose a b → Rose b c → Rose a c
rose_then a b c p q =
    let first = p.later in
    let last = q.later in
    record { later = omega arith; above = above q.above }
  where
    above : ((b < c) ⊎ (c ≡ 2 ^ 64 - 1)) → ((a < c) ⊎ (c ≡ 2 ^ 64 - 1))
    above (inl more) = let first = p.later in inl (omega arith)
    above (inr most) = inr most

-- the recorder tried to hand on what it kept back
tried : (why : RunStop) (r s t : RecorderSeen) → RecorderAt why r.faults s.faults → (((t.kept_back ≡ 0) × (t.faults ≡ s.faults)) ⊎ Rose s.faults t.faults) → SinkAt (Err why) r t
tried (run.BadLine n) r s t same (inl h) = inl (h.0, h.1 ∙ same)
tried (run.BadLine n) r s t same (inr h) = inr (subst (λ f. Rose f t.faults) same h)
tried run.Source r s t same (inl h) = inl (h.0, h.1 ∙ same)
tried run.Source r s t same (inr h) = inr (subst (λ f. Rose f t.faults) same h)
tried run.TooLong r s t same (inl h) = inl (h.0, h.1 ∙ same)
tried run.TooLong r s t same (inr h) = inr (subst (λ f. Rose f t.faults) same h)
tried run.OutOfMemory r s t same (inl h) = inl (h.0, h.1 ∙ same)
tried run.OutOfMemory r s t same (inr h) = inr (subst (λ f. Rose f t.faults) same h)
tried run.Sink r s t rose (inl h) = subst (λ f. Rose r.faults f) (sym h.1) rose
tried run.Sink r s t rose (inr h) = rose_then r.faults s.faults t.faults rose h

-- all of this, of a run that ended so
pub record Left (result : Result (Unit {0}) RunStop) (a b : SourceSeen) (old new : Outside) : Type 0 where
  pub source : SourceAt result a.faults b.faults
  pub stays : Stays old new
  pub sink : SinkAt result old.recorder new.recorder

done : (config : Options) (limit : ℕ) (a b : SourceSeen) (old new : Outside) → EndsWhole config limit a b old new → Left (Ok tt) a b old new
done config limit a b old new h =
    let u = carried config h.events old _ h.carried.1 in
    let e = h.ended in
    record {
      source = h.unfailed;
      stays = record { attachment = u.stays.attachment; detail = e.detail ∙ u.stays.detail; lender = e.lender ∙ u.stays.lender };
      sink = (e.kept_back, e.faults ∙ u.faults);
    }

has_stopped : (config : Options) (limit : ℕ) (a b : SourceSeen) (why : RunStop) (old new : Outside) → StopsWith config limit a b why old new → Left (Err why) a b old new
has_stopped config limit a b why old new h =
    let u = stood config limit a b why old _ h.stands in
    let t = h.handed_on in
    record {
      source = u.source;
      stays = record { attachment = u.stays.attachment; detail = t.detail ∙ u.stays.detail; lender = t.lender ∙ u.stays.lender };
      sink = tried why old.recorder h.before new.recorder u.recorder t.outcome;
    }

done_unsent : (config : Options) (limit : ℕ) (a b : SourceSeen) (old new : Outside) → EndsUnsent config limit a b old new → Left (Err run.Sink) a b old new
done_unsent config limit a b old new h =
    let u = done config limit a b old _ h.done in
    record {
      source = u.source;
      stays = record { attachment = u.stays.attachment; detail = h.detail ∙ u.stays.detail; lender = h.lender ∙ u.stays.lender };
      sink = subst (λ f. Rose f new.recorder.faults) u.sink.1 h.rose;
    }

pub run_left : (config : Options) (limit : ℕ) (result : Result (Unit {0}) RunStop) (a b : SourceSeen) (old new : Outside) → Runs config limit result a b old new → Left result a b old new
run_left config limit (Ok tt) a b old new h = done config limit a b old new h
run_left config limit (Err (run.BadLine n)) a b old new h = has_stopped config limit a b (run.BadLine n) old new h
run_left config limit (Err run.Source) a b old new h = has_stopped config limit a b run.Source old new h
run_left config limit (Err run.TooLong) a b old new h = has_stopped config limit a b run.TooLong old new h
run_left config limit (Err run.OutOfMemory) a b old new h = has_stopped config limit a b run.OutOfMemory old new h
run_left config limit (Err run.Sink) a b old new (inl h) = has_stopped config limit a b run.Sink old new h
run_left config limit (Err run.Sink) a b old new (inr h) = done_unsent config limit a b old new h
