-- What happens after more has happened; and what it is to the ring's machine.
use Rattle.std.proofs.Common.{◌≡◌, ℕ, ◌+◌, ◌*◌, ◌<◌, ◌≤◌, inl, inr, List, [], ◌∷◌, ◌++◌, Some, Result, Ok, Err, refl, ap, sym, ◌∙◌, subst, append_assoc, arith}
use Rattle.std.specs.Prelude.{◌⊎◌}
use Rattle.std.proofs.lemmas.List.{append-nil}
use Rattle.std.proofs.Math.Nat.{mul-le-mul_left}
use Rattle.blk_base.specs.Options.{Options}
use Rattle.blk_io.specs.Disk.{DiskSeen, sectors_of}
use Rattle.schedule_text.specs.declared.line.Detail.{Detail}
use Rattle.schedule_text.specs.declared.line.Line.{Line}
use Rattle.schedule_text.specs.declared.line.Line.TheVariants.{Begin, End}
use Rattle.schedule_text.specs.declared.recorder.RecordStop.{RecordStop}
use Rattle.schedule_text.specs.declared.recorder.RecordStop.TheVariants.{OutOfMemory}
use Rattle.schedule_text.specs.Recorder.{RecorderSeen, Gained, StopsAmong, Adds}
use Rattle.schedule_text.proofs.Adding.{gained_none, gained_twice, stopped_later}
use Rattle.split_model.specs.Happening as ring
use Rattle.split_model.specs.Report as ring_report
use Rattle.split_model.proofs.Running as ring_running
use Rattle.vbd_model.specs.World.{World, start_of}
use Rattle.vbd_model.specs.Happening.{Happening, does, happens, lines_at, after, lines_of, DiskRuns, DiskGoes, all_does}
use Rattle.vbd_model.specs.Mappings.{mappings_of}
use Rattle.vbd_model.specs.Report.{report_of, ended_report_of}
use Rattle.vbd_model.specs.Leads.{Moment, IsReadyFor, Keeps, Leads, StopsShowing, NeedsMemory, LacksMemory, LeadsToStop, Ends, Goes}
use Rattle.vbd_model.proofs.Keeping.{disk_attachment}
pub use Rattle.split_model.proofs.Running.{kept_of-append}

pub after-append : (first rest : List Happening) (w : World) → after (first ++ rest) w ≡ after rest (after first w)
after-append [] rest w = refl
after-append (h ∷ first) rest w = after-append first rest (happens w h)

pub lines_of-append : (first rest : List Happening) (w : World) → lines_of (first ++ rest) w ≡ lines_of first w ++ lines_of rest (after first w)
lines_of-append [] rest w = refl
lines_of-append (h ∷ first) rest w =
    ap (λ l. lines_at w h ++ l) (lines_of-append first rest (happens w h))
    ∙ sym (append_assoc (lines_at w h) (lines_of first (happens w h)) (lines_of rest (after first (happens w h))))

pub disk_runs-append : (first rest : List Happening) (w : World) (a b c : DiskSeen) → DiskRuns first w a b → DiskRuns rest (after first w) b c → DiskRuns (first ++ rest) w a c
disk_runs-append [] rest w a b c p q = subst (λ x. DiskRuns rest w x c) p q
disk_runs-append (h ∷ first) rest w a b c p q = (p.0, p.1, disk_runs-append first rest (happens w h) p.0 b c p.2 q)

-- what more is to the ring's machine comes after the rest
pub all_does-append : (first rest : List Happening) (w : World) → all_does (first ++ rest) w ≡ all_does first w ++ all_does rest (after first w)
all_does-append [] rest w = refl
all_does-append (h ∷ first) rest w =
    ap (λ (l : List ring.Happening). does w h ++ l) (all_does-append first rest (happens w h))
    ∙ sym (append_assoc (does w h) (all_does first (happens w h)) (all_does rest (after first (happens w h))))

-- the ring's machine goes along
pub after_rings : (hs : List Happening) (w : World) → (let v : World = after hs w in v.rings) ≡ ring.after (all_does hs w) w.rings
after_rings [] w = refl
after_rings (h ∷ hs) w = after_rings hs (happens w h) ∙ sym (ring_running.after-append (does w h) (all_does hs (happens w h)) w.rings)

-- and shows the same lines
pub lines_lift : (hs : List Happening) (w : World) → lines_of hs w ≡ ring.lines_of (all_does hs w) w.rings
lines_lift [] w = refl
lines_lift (h ∷ hs) w =
    ap (λ (l : List Line). lines_at w h ++ l) (lines_lift hs (happens w h))
    ∙ sym (ring_running.lines_of-append (does w h) (all_does hs (happens w h)) w.rings)

-- and does the same to the disk
pub disk_lift : (hs : List Happening) (w : World) (a b : DiskSeen) → DiskRuns hs w a b → ring.DiskRuns (all_does hs w) w.rings a b
disk_lift [] w a b p = p
disk_lift (h ∷ hs) w a b p = ring_running.disk_runs-append (does w h) (all_does hs (happens w h)) w.rings a p.0 b p.1 (disk_lift hs (happens w h) p.0 b p.2)

-- its report is that of the ring's machine
pub report_lift : (config : Options) (detail : Detail) (hs : List Happening) → report_of config detail hs ≡ ring_report.report_of config detail (all_does hs (start_of config))
report_lift config detail hs = ap (λ (l : List Line). Begin config detail ∷ l) (lines_lift hs (start_of config))

pub ended_report_lift : (config : Options) (detail : Detail) (hs : List Happening) → ended_report_of config detail hs ≡ ring_report.ended_report_of config detail (all_does hs (start_of config))
ended_report_lift config detail hs = ap (λ (l : List Line). l ++ End ∷ []) (report_lift config detail hs)

-- what is attached stays
pub runs_attachment : (hs : List Happening) (w : World) (a b : DiskSeen) → DiskRuns hs w a b → b.attachment ≡ a.attachment
runs_attachment [] w a b p = ap (λ (d : DiskSeen). d.attachment) p
runs_attachment (h ∷ hs) w a b p = runs_attachment hs (happens w h) p.0 b p.2 ∙ disk_attachment w h a p.0 p.1

-- nothing happened
pub leads_nowhere : (kind : List Happening → Type 0) (m : Moment) → kind [] → Leads kind m m
leads_nowhere kind m k = record { history = []; is_kind = k; world = refl; disk = refl; told = gained_none m.recorder }

-- the machine, the disk and the lines of what happened, and then of more
went_on : (xs ys : List Happening) (w v u : World) → v ≡ after xs w → u ≡ after ys v → u ≡ after (xs ++ ys) w
went_on xs ys w v u here there = there ∙ (ap (after ys) here ∙ sym (after-append xs ys w))

disk_went_on : (xs ys : List Happening) (w v : World) (a b c : DiskSeen) → v ≡ after xs w → DiskRuns xs w a b → DiskRuns ys v b c → DiskRuns (xs ++ ys) w a c
disk_went_on xs ys w v a b c here p q = disk_runs-append xs ys w a b c p (subst (λ (u : World). DiskRuns ys u b c) here q)

gained_on : (xs ys : List Happening) (w v : World) (r s t : RecorderSeen) → v ≡ after xs w → Gained (lines_of xs w) r s → Gained (lines_of ys v) s t → Gained (lines_of (xs ++ ys) w) r t
gained_on xs ys w v r s t here p q =
    subst (λ l. Gained l r t) (sym (lines_of-append xs ys w))
    (gained_twice (lines_of xs w) (lines_of ys (after xs w)) r s t p (subst (λ (u : World). Gained (lines_of ys u) s t) here q))

-- what happened, and then more
pub leads_on : (one other both : List Happening → Type 0) (a b c : Moment) → ((xs ys : List Happening) → one xs → b.world ≡ after xs a.world → other ys → both (xs ++ ys)) → Leads one a b → Leads other b c → Leads both a c
leads_on one other both a b c join p q = record {
  history = p.history ++ q.history;
  is_kind = join p.history q.history p.is_kind p.world q.is_kind;
  world = went_on p.history q.history a.world b.world c.world p.world q.world;
  disk = disk_went_on p.history q.history a.world b.world a.disk b.disk c.disk p.world p.disk q.disk;
  told = gained_on p.history q.history a.world b.world a.recorder b.recorder c.recorder p.world p.told q.told;
}

-- it is of another kind too, as the machine then stands
pub leads_into : (one other : List Happening → Type 0) (a b : Moment) → ((xs : List Happening) → one xs → b.world ≡ after xs a.world → other xs) → Leads one a b → Leads other a b
leads_into one other a b into p = record { history = p.history; is_kind = into p.history p.is_kind p.world; world = p.world; disk = p.disk; told = p.told }

pub leads_as : (one other : List Happening → Type 0) (a b : Moment) → ((xs : List Happening) → one xs → other xs) → Leads one a b → Leads other a b
leads_as one other a b into p = leads_into one other a b (λ xs k here. into xs k) p

pub stops_as : (one other : List Happening → Type 0) (stop : RecordStop) (a b : Moment) → ((xs : List Happening) → one xs → other xs) → LeadsToStop one stop a b → LeadsToStop other stop a b
stops_as one other stop a b into p = record { history = p.history; last = p.last; is_kind = into (p.history ++ p.last ∷ []) p.is_kind; stopped = p.stopped }

-- the lines before a stop, where the machine had gone on
stopped_on : (xs ys : List Happening) (last : Happening) (stop : RecordStop) (w v : World) (r s t : RecorderSeen) → v ≡ after xs w → Gained (lines_of xs w) r s → StopsAmong (lines_of ys v) (lines_at (after ys v) last) stop s t → StopsAmong (lines_of (xs ++ ys) w) (lines_at (after (xs ++ ys) w) last) stop r t
stopped_on xs ys last stop w v r s t here p q =
    let there : after (xs ++ ys) w ≡ after ys (after xs w) = after-append xs ys w in
    let moved : StopsAmong (lines_of ys (after xs w)) (lines_at (after ys (after xs w)) last) stop s t = subst (λ u. StopsAmong (lines_of ys u) (lines_at (after ys u) last) stop s t) here q in
    subst (λ l. StopsAmong l (lines_at (after (xs ++ ys) w) last) stop r t) (sym (lines_of-append xs ys w))
    (subst (λ u. StopsAmong (lines_of xs w ++ lines_of ys (after xs w)) (lines_at u last) stop r t) (sym there)
    (stopped_later (lines_of xs w) (lines_of ys (after xs w)) (lines_at (after ys (after xs w)) last) stop r s t p moved))

-- what was stopped after more had happened
stop_shown_on : (xs ys : List Happening) (last : Happening) (stop : RecordStop) (a b c : Moment) → b.world ≡ after xs a.world → DiskRuns xs a.world a.disk b.disk → Gained (lines_of xs a.world) a.recorder b.recorder → StopsShowing ys last stop b c → StopsShowing (xs ++ ys) last stop a c
stop_shown_on xs ys last stop a b c here disk told q =
    let same : (xs ++ ys) ++ last ∷ [] ≡ xs ++ (ys ++ last ∷ []) = append_assoc xs ys (last ∷ []) in
    record {
      world = went_on xs (ys ++ last ∷ []) a.world b.world c.world here q.world ∙ ap (λ (hs : List Happening). after hs a.world) (sym same);
      disk = subst (λ (hs : List Happening). DiskRuns hs a.world a.disk c.disk) (sym same) (disk_went_on xs (ys ++ last ∷ []) a.world b.world a.disk b.disk c.disk here disk q.disk);
      told = stopped_on xs ys last stop a.world b.world a.recorder b.recorder c.recorder here told q.told;
    }

memory_lacks_on : (xs ys : List Happening) (last : Happening) (stop : RecordStop) (a b c : Moment) → b.world ≡ after xs a.world → DiskRuns xs a.world a.disk b.disk → Gained (lines_of xs a.world) a.recorder b.recorder → LacksMemory ys last stop b c → LacksMemory (xs ++ ys) last stop a c
memory_lacks_on xs ys last stop a b c here disk told q = record {
  lacks = q.lacks;
  needed = subst (λ (w : World). NeedsMemory w last) (ap (after ys) here ∙ sym (after-append xs ys a.world)) q.needed;
  world = went_on xs ys a.world b.world c.world here q.world;
  disk = disk_went_on xs ys a.world b.world a.disk b.disk c.disk here disk q.disk;
  told = gained_on xs ys a.world b.world a.recorder b.recorder c.recorder here told q.told;
}

stopped_after : (xs ys : List Happening) (last : Happening) (stop : RecordStop) (a b c : Moment) → b.world ≡ after xs a.world → DiskRuns xs a.world a.disk b.disk → Gained (lines_of xs a.world) a.recorder b.recorder → StopsShowing ys last stop b c ⊎ LacksMemory ys last stop b c → StopsShowing (xs ++ ys) last stop a c ⊎ LacksMemory (xs ++ ys) last stop a c
stopped_after xs ys last stop a b c here disk told (inl q) = inl (stop_shown_on xs ys last stop a b c here disk told q)
stopped_after xs ys last stop a b c here disk told (inr q) = inr (memory_lacks_on xs ys last stop a b c here disk told q)

-- what happened, and then more, of which the last was stopped
pub stops_on : (one other both : List Happening → Type 0) (stop : RecordStop) (a b c : Moment) → ((xs ys : List Happening) → one xs → b.world ≡ after xs a.world → other ys → both (xs ++ ys)) → Leads one a b → LeadsToStop other stop b c → LeadsToStop both stop a c
stops_on one other both stop a b c join p q = record {
  history = p.history ++ q.history;
  last = q.last;
  is_kind = subst both (sym (append_assoc p.history q.history (q.last ∷ []))) (join p.history (q.history ++ q.last ∷ []) p.is_kind p.world q.is_kind);
  stopped = stopped_after p.history q.history q.last stop a b c p.world p.disk p.told q.stopped;
}

-- one thing happened
pub leads_one : (h : Happening) (a b : Moment) → b.world ≡ happens a.world h → DiskGoes a.world h a.disk b.disk → Gained (lines_at a.world h) a.recorder b.recorder → Leads (λ hs. hs ≡ h ∷ []) a b
leads_one h a b world disk told = record {
  history = h ∷ [];
  is_kind = refl;
  world = world;
  disk = (b.disk, disk, refl);
  told = subst (λ l. Gained l a.recorder b.recorder) (sym (append-nil (lines_at a.world h))) told;
}

-- one thing happened, and the recorder stopped at one of its lines
pub stops_one : (h : Happening) (stop : RecordStop) (a b : Moment) → b.world ≡ happens a.world h → DiskGoes a.world h a.disk b.disk → StopsAmong [] (lines_at a.world h) stop a.recorder b.recorder → LeadsToStop (λ hs. hs ≡ h ∷ []) stop a b
stops_one h stop a b world disk told = record { history = []; last = h; is_kind = refl; stopped = inl (record { world = world; disk = (b.disk, disk, refl); told = told }) }

-- nothing of it happened, by want of memory
pub lacks_one : (h : Happening) (a b : Moment) → NeedsMemory a.world h → b.world ≡ a.world → b.disk ≡ a.disk → b.recorder ≡ a.recorder → LeadsToStop (λ hs. hs ≡ h ∷ []) OutOfMemory a b
lacks_one h a b needed world disk recorder = record {
  history = [];
  last = h;
  is_kind = refl;
  stopped = inr (record { lacks = refl; needed = needed; world = world; disk = disk; told = subst (λ (r : RecorderSeen). Gained [] a.recorder r) (sym recorder) (gained_none a.recorder) });
}

pub ends_one : (h : Happening) (result : Result (Unit {0}) RecordStop) (a b : Moment) → b.world ≡ happens a.world h → DiskGoes a.world h a.disk b.disk → Adds (lines_at a.world h) result a.recorder b.recorder → Ends (λ hs. hs ≡ h ∷ []) (λ hs. hs ≡ h ∷ []) result a b
ends_one h (Ok done) a b world disk told = leads_one h a b world disk told
ends_one h (Err stop) a b world disk told = stops_one h stop a b world disk told

pub ends_as : (one one_far other other_far : List Happening → Type 0) (result : Result (Unit {0}) RecordStop) (a b : Moment) → ((xs : List Happening) → one xs → other xs) → ((xs : List Happening) → one_far xs → other_far xs) → Ends one one_far result a b → Ends other other_far result a b
ends_as one one_far other other_far (Ok done) a b into far p = leads_as one other a b into p
ends_as one one_far other other_far (Err stop) a b into far p = stops_as one_far other_far stop a b far p

-- one thing happened, of these kinds
pub goes_one : (kind so_far : List Happening → Type 0) (n : ℕ) (h : Happening) (result : Result (Unit {0}) RecordStop) (a b : Moment) → kind (h ∷ []) → so_far (h ∷ []) → b.world ≡ happens a.world h → mappings_of b.world ≤ mappings_of a.world + n → b.world.rings.back.jobs.info.sectors ≡ a.world.rings.back.jobs.info.sectors → DiskGoes a.world h a.disk b.disk → Adds (lines_at a.world h) result a.recorder b.recorder → Goes kind so_far n result a b
goes_one kind so_far n h result a b is far world made sectors disk told = record {
  ends = ends_as (λ hs. hs ≡ h ∷ []) (λ hs. hs ≡ h ∷ []) kind so_far result a b (λ xs e. subst kind (sym e) is) (λ xs e. subst so_far (sym e) far) (ends_one h result a b world disk told);
  keeps = record { made = made; sectors = sectors; attachment = disk_attachment a.world h a.disk b.disk disk };
}

-- nothing of one thing happened, by want of memory
pub goes_lacking : (kind so_far : List Happening → Type 0) (n : ℕ) (h : Happening) (a b : Moment) → so_far (h ∷ []) → NeedsMemory a.world h → b.world ≡ a.world → b.disk ≡ a.disk → b.recorder ≡ a.recorder → Goes kind so_far n (Err OutOfMemory) a b
goes_lacking kind so_far n h a b far needed world disk recorder =
    let made : mappings_of b.world ≡ mappings_of a.world = ap mappings_of world in
    record {
      ends = stops_as (λ hs. hs ≡ h ∷ []) so_far OutOfMemory a b (λ xs e. subst so_far (sym e) far) (lacks_one h a b needed world disk recorder);
      keeps = record { made = omega arith; sectors = ap (λ (w : World). w.rings.back.jobs.info.sectors) world; attachment = ap (λ (d : DiskSeen). d.attachment) disk };
    }

-- nothing happened, which is of this kind
pub goes_nowhere : (kind so_far : List Happening → Type 0) (n : ℕ) (m : Moment) → kind [] → Goes kind so_far n (Ok tt) m m
goes_nowhere kind so_far n m k = record { ends = leads_nowhere kind m k; keeps = record { made = omega arith; sectors = refl; attachment = refl } }

-- both keep, with the mappings of both
pub keeps_on : (n m k : ℕ) (a b c : Moment) → n + m ≤ k → Keeps n a b → Keeps m b c → Keeps k a c
keeps_on n m k a b c le p q =
    let one = p.made in
    let two = q.made in
    record { made = omega arith; sectors = q.sectors ∙ p.sectors; attachment = q.attachment ∙ p.attachment }

-- a call was done, and then another was made
pub then_goes : (one one_far other other_far both both_far : List Happening → Type 0) (n m k : ℕ) (result : Result (Unit {0}) RecordStop) (a b c : Moment) → n + m ≤ k → ((xs ys : List Happening) → one xs → b.world ≡ after xs a.world → other ys → both (xs ++ ys)) → ((xs ys : List Happening) → one xs → b.world ≡ after xs a.world → other_far ys → both_far (xs ++ ys)) → Goes one one_far n (Ok tt) a b → Goes other other_far m result b c → Goes both both_far k result a c
then_goes one one_far other other_far both both_far n m k (Ok done) a b c le join far p q = record { ends = leads_on one other both a b c join p.ends q.ends; keeps = keeps_on n m k a b c le p.keeps q.keeps }
then_goes one one_far other other_far both both_far n m k (Err stop) a b c le join far p q = record { ends = stops_on one other_far both_far stop a b c far p.ends q.ends; keeps = keeps_on n m k a b c le p.keeps q.keeps }

-- it is of another kind too, with more room
pub goes_as : (one one_far other other_far : List Happening → Type 0) (n m : ℕ) (result : Result (Unit {0}) RecordStop) (a b : Moment) → n ≤ m → ((xs : List Happening) → one xs → other xs) → ((xs : List Happening) → one_far xs → other_far xs) → Goes one one_far n result a b → Goes other other_far m result a b
goes_as one one_far other other_far n m result a b le into far p =
    let made = p.keeps.made in
    record { ends = ends_as one one_far other other_far result a b into far p.ends; keeps = record { made = omega arith; sectors = p.keeps.sectors; attachment = p.keeps.attachment } }

-- a call was done, and the next was stopped
pub then_stops : (one one_far other other_far both both_far : List Happening → Type 0) (n m k : ℕ) (stop : RecordStop) (a b c : Moment) → n + m ≤ k → ((xs ys : List Happening) → one xs → b.world ≡ after xs a.world → other_far ys → both_far (xs ++ ys)) → Goes one one_far n (Ok tt) a b → Goes other other_far m (Err stop) b c → Goes both both_far k (Err stop) a c
then_stops one one_far other other_far both both_far n m k stop a b c le far p q =
    record { ends = stops_on one other_far both_far stop a b c far p.ends q.ends; keeps = keeps_on n m k a b c le p.keeps q.keeps }

-- it is of another kind, as the machine then stands
pub goes_into : (one one_far other other_far : List Happening → Type 0) (n m : ℕ) (a b : Moment) → n ≤ m → ((xs : List Happening) → one xs → b.world ≡ after xs a.world → other xs) → Goes one one_far n (Ok tt) a b → Goes other other_far m (Ok tt) a b
goes_into one one_far other other_far n m a b le into p =
    let made = p.keeps.made in
    record { ends = leads_into one other a b into p.ends; keeps = record { made = omega arith; sectors = p.keeps.sectors; attachment = p.keeps.attachment } }

-- what is left after a call is enough for the next
pub ready_on : (n m k : ℕ) (a b : Moment) → n + m ≤ k → IsReadyFor k a.world a.disk → Keeps n a b → IsReadyFor m b.world b.disk
ready_on n m k a b le p q =
    let left = p.left in
    let made = q.made in
    record { attached = ap sectors_of q.attachment ∙ (p.attached ∙ ap Some (sym q.sectors)); left = omega arith }

pub ready_less : (n k : ℕ) (w : World) (d : DiskSeen) → n ≤ k → IsReadyFor k w d → IsReadyFor n w d
ready_less n k w d le p =
    let left = p.left in
    record { attached = p.attached; left = omega arith }

-- the first call was stopped
pub stops_first : (one one_far other other_far : List Happening → Type 0) (n m : ℕ) (stop : RecordStop) (a b : Moment) → n ≤ m → ((xs : List Happening) → one_far xs → other_far xs) → Goes one one_far n (Err stop) a b → Goes other other_far m (Err stop) a b
stops_first one one_far other other_far n m stop a b le far p =
    let made = p.keeps.made in
    record { ends = stops_as one_far other_far stop a b far p.ends; keeps = record { made = omega arith; sectors = p.keeps.sectors; attachment = p.keeps.attachment } }

-- in a loop: so many times, of so many, and happenings of this kind led here
pub record HasGone (kind : List Happening → Type 0) (each times count : ℕ) (a b : Moment) : Type 0 where
  pub went : Goes kind kind (each * times) (Ok tt) a b
  pub within : times ≤ count

each_more : (each n count : ℕ) → n < count → each * n + each ≤ each * count
each_more each n count less =
    let one : n + 1 ≤ count = omega arith in
    let most = mul-le-mul_left each one in
    let more : each * (n + 1) ≡ each * n + each = omega arith in
    omega arith

-- a loop begins
pub not_gone : (kind : List Happening → Type 0) (each count : ℕ) (a : Moment) → kind [] → HasGone kind each 0 count a a
not_gone kind each count a k = record { went = goes_nowhere kind kind (each * 0) a k; within = omega arith }

-- once more
pub gone_on : (one next other other_far : List Happening → Type 0) (each n count : ℕ) (a b c : Moment) → n < count → ((xs ys : List Happening) → one xs → b.world ≡ after xs a.world → other ys → next (xs ++ ys)) → HasGone one each n count a b → Goes other other_far each (Ok tt) b c → HasGone next each (n + 1) count a c
gone_on one next other other_far each n count a b c less join p q =
    let more : each * n + each ≤ each * (n + 1) = each_more each n (n + 1) (omega arith) in
    record {
      went = record { ends = leads_on one other next a b c join p.went.ends q.ends; keeps = keeps_on (each * n) each (each * (n + 1)) a b c more p.went.keeps q.keeps };
      within = omega arith;
    }

-- the loop was stopped
pub gone_to_stop : (one other other_far both both_far : List Happening → Type 0) (each n count most : ℕ) (stop : RecordStop) (a b c : Moment) → n < count → each * count ≤ most → ((xs ys : List Happening) → one xs → b.world ≡ after xs a.world → other_far ys → both_far (xs ++ ys)) → HasGone one each n count a b → Goes other other_far each (Err stop) b c → Goes both both_far most (Err stop) a c
gone_to_stop one other other_far both both_far each n count most stop a b c less le far p q =
    let more = each_more each n count less in
    then_stops one one other other_far both both_far (each * n) each most stop a b c (omega arith) far p.went q

-- what is left for the next time
pub ready_again : (kind : List Happening → Type 0) (each n count : ℕ) (a b : Moment) → n < count → IsReadyFor (each * count) a.world a.disk → HasGone kind each n count a b → IsReadyFor each b.world b.disk
ready_again kind each n count a b less ready p = ready_on (each * n) each (each * count) a b (each_more each n count less) ready p.went.keeps

-- the loop is done
pub gone : (kind other other_far : List Happening → Type 0) (each n count most : ℕ) (a b : Moment) → each * count ≤ most → ((xs : List Happening) → kind xs → b.world ≡ after xs a.world → other xs) → HasGone kind each n count a b → Goes other other_far most (Ok tt) a b
gone kind other other_far each n count most a b le into p =
    let within = p.within in
    let all = mul-le-mul_left each within in
    goes_into kind kind other other_far (each * n) most a b (omega arith) into p.went
