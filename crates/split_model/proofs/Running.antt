-- What happens after more has happened.
use Rattle.std.proofs.Common.{◌≡◌, ℕ, ◌+◌, ◌≤◌, List, [], ◌∷◌, ◌++◌, Result, Ok, Err, refl, ap, sym, ◌∙◌, subst, append_assoc}
use Rattle.std.proofs.lemmas.List.{append-nil}
use Rattle.std.proofs.lemmas.List.Concat.{flat_map-append}
use Rattle.blk_io.specs.Disk.{DiskSeen}
use Rattle.schedule_text.specs.declared.line.Detail.{Detail}
use Rattle.schedule_text.specs.declared.line.Line.{Line}
use Rattle.schedule_text.specs.declared.recorder.RecordStop.{RecordStop}
use Rattle.schedule_text.specs.Recorder.{recorded, kept_of, Gained, StopsAmong, Adds}
use Rattle.split_model.specs.World.{World}
use Rattle.split_model.specs.Happening.{Happening, happens, lines_at, after, lines_of, DiskRuns, DiskGoes}
use Rattle.split_model.specs.Leads.{Moment, Leads, LeadsToStop, Ends, Goes}
use Rattle.split_model.proofs.Keeping.{disk_attachment}

pub after-append : (first rest : List Happening) (w : World) → after (first ++ rest) w ≡ after rest (after first w)
after-append [] rest w = refl
after-append (h ∷ first) rest w = after-append first rest (happens w h)

pub lines_of-append : (first rest : List Happening) (w : World) → lines_of (first ++ rest) w ≡ lines_of first w ++ lines_of rest (after first w)
lines_of-append [] rest w = refl
lines_of-append (h ∷ first) rest w =
    ap (λ l. lines_at w h ++ l) (lines_of-append first rest (happens w h))
    ∙ sym (append_assoc (lines_at w h) (lines_of first (happens w h)) (lines_of rest (after first (happens w h))))

pub disk_runs-append : (first rest : List Happening) (w : World) (a b c : DiskSeen) → DiskRuns first w a b → DiskRuns rest (after first w) b c → DiskRuns (first ++ rest) w a c
disk_runs-append [] rest w a b c p q = subst (λ x. DiskRuns rest w x c) p q
disk_runs-append (h ∷ first) rest w a b c p q = (p.0, p.1, disk_runs-append first rest (happens w h) p.0 b c p.2 q)

-- what is attached stays
pub runs_attachment : (hs : List Happening) (w : World) (a b : DiskSeen) → DiskRuns hs w a b → b.attachment ≡ a.attachment
runs_attachment [] w a b p = ap (λ (d : DiskSeen). d.attachment) p
runs_attachment (h ∷ hs) w a b p = runs_attachment hs (happens w h) p.0 b p.2 ∙ disk_attachment w h a p.0 p.1

pub kept_of-append : (detail : Detail) (a b : List Line) → kept_of detail (a ++ b) ≡ kept_of detail a ++ kept_of detail b
kept_of-append detail a b = flat_map-append (recorded detail) a b

-- it is of another kind too, as the machine then stands
pub leads_into : (one other : List Happening → Type 0) (a b : Moment) → ((xs : List Happening) → one xs → b.world ≡ after xs a.world → other xs) → Leads one a b → Leads other a b
leads_into one other a b into p = record { history = p.history; is_kind = into p.history p.is_kind p.world; world = p.world; disk = p.disk; told = p.told }

pub leads_as : (one other : List Happening → Type 0) (a b : Moment) → ((xs : List Happening) → one xs → other xs) → Leads one a b → Leads other a b
leads_as one other a b into p = leads_into one other a b (λ xs k here. into xs k) p

pub stops_as : (one other : List Happening → Type 0) (stop : RecordStop) (a b : Moment) → ((xs : List Happening) → one xs → other xs) → LeadsToStop one stop a b → LeadsToStop other stop a b
stops_as one other stop a b into p = record { history = p.history; last = p.last; is_kind = into (p.history ++ p.last ∷ []) p.is_kind; world = p.world; disk = p.disk; told = p.told }

-- one thing happened
pub leads_one : (h : Happening) (a b : Moment) → b.world ≡ happens a.world h → DiskGoes a.world h a.disk b.disk → Gained (lines_at a.world h) a.recorder b.recorder → Leads (λ hs. hs ≡ h ∷ []) a b
leads_one h a b world disk told = record {
  history = h ∷ [];
  is_kind = refl;
  world = world;
  disk = (b.disk, disk, refl);
  told = subst (λ l. Gained l a.recorder b.recorder) (sym (append-nil (lines_at a.world h))) told;
}

-- one thing happened, and the recorder stopped at one of its lines
pub stops_one : (h : Happening) (stop : RecordStop) (a b : Moment) → b.world ≡ happens a.world h → DiskGoes a.world h a.disk b.disk → StopsAmong [] (lines_at a.world h) stop a.recorder b.recorder → LeadsToStop (λ hs. hs ≡ h ∷ []) stop a b
stops_one h stop a b world disk told = record { history = []; last = h; is_kind = refl; world = world; disk = (b.disk, disk, refl); told = told }

pub ends_one : (h : Happening) (result : Result (Unit {0}) RecordStop) (a b : Moment) → b.world ≡ happens a.world h → DiskGoes a.world h a.disk b.disk → Adds (lines_at a.world h) result a.recorder b.recorder → Ends (λ hs. hs ≡ h ∷ []) (λ hs. hs ≡ h ∷ []) result a b
ends_one h (Ok done) a b world disk told = leads_one h a b world disk told
ends_one h (Err stop) a b world disk told = stops_one h stop a b world disk told

pub ends_as : (one one_far other other_far : List Happening → Type 0) (result : Result (Unit {0}) RecordStop) (a b : Moment) → ((xs : List Happening) → one xs → other xs) → ((xs : List Happening) → one_far xs → other_far xs) → Ends one one_far result a b → Ends other other_far result a b
ends_as one one_far other other_far (Ok done) a b into far p = leads_as one other a b into p
ends_as one one_far other other_far (Err stop) a b into far p = stops_as one_far other_far stop a b far p

-- one thing happened, of these kinds
pub goes_one : (kind so_far : List Happening → Type 0) (n : ℕ) (h : Happening) (result : Result (Unit {0}) RecordStop) (a b : Moment) → kind (h ∷ []) → so_far (h ∷ []) → b.world ≡ happens a.world h → b.world.under.grants.made ≤ a.world.under.grants.made + n → b.world.back.jobs.info.sectors ≡ a.world.back.jobs.info.sectors → DiskGoes a.world h a.disk b.disk → Adds (lines_at a.world h) result a.recorder b.recorder → Goes kind so_far n result a b
goes_one kind so_far n h result a b is far world made sectors disk told = record {
  ends = ends_as (λ hs. hs ≡ h ∷ []) (λ hs. hs ≡ h ∷ []) kind so_far result a b (λ xs e. subst kind (sym e) is) (λ xs e. subst so_far (sym e) far) (ends_one h result a b world disk told);
  keeps = record { made = made; sectors = sectors; attachment = disk_attachment a.world h a.disk b.disk disk };
}
