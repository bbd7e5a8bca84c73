-- What was read of a source, and what of it was carried out.
use Rattle.std.proofs.Common.{◌≡◌, ◌≢◌, ℕ, ◌+◌, ◌*◌, ◌<◌, ◌≤◌, List, [], ◌∷◌, ◌++◌, length, take, drop, Option, Some, None, inl, inr, Result, Ok, Err, refl, sym, ap, ◌∙◌, subst, arith, append_assoc, append-nil, length-append}
use Rattle.std.proofs.lemmas.List.{take-append-drop, length-take, take-append-le, take_all}
use Rattle.std.proofs.lemmas.List.Elements.{All-nil}
use Rattle.blk_io.specs.Outside.{IsRead, SourceSeen}
use Rattle.blk_io.specs.Disk.{DiskSeen, attached_of}
use Rattle.schedule_text.specs.declared.event.Event.{Event}
use Rattle.schedule_text.specs.declared.line.Line.{Line}
use Rattle.schedule_text.specs.declared.recorder.RecordStop.{RecordStop}
use Rattle.schedule_text.specs.declared.recorder.RecordStop.TheVariants as record_stop
use Rattle.schedule_text.specs.Recorder.{RecorderSeen, Gained, HandsOnLines, FailsHandingOn}
use Rattle.vbd_model.specs.Happening.{lines_of, DiskRuns}
use Rattle.vbd_model.specs.Leads.{Moment, moment}
use Rattle.schedule_run.specs.Machine.{Run}
use Rattle.schedule_run.specs.Reading.{text_of, HasNoLineFeed, IsBadLine, AreLinesOf, last_line, IsWholeSchedule, HasBadLine, IsTooLong, HasBegun, HasComeTo, HasReadTo, Tells, TellsRest}
use Rattle.schedule_run.specs.Carrying.{ReadSoFar, read_so_far, IsFresh, IsReadyToTake, EventsLead, StopsInLine, StopsAtLine, CarriesLast, Finishes, Carries, MeetsBad, MeetsStop, Halts, Reads, ReadsToStop, ReadsUnsent, ReadStops, ReadsAll}
use Rattle.schedule_run.specs.declared.schedule.RunStop.{RunStop}
use Rattle.schedule_run.specs.declared.schedule.RunStop.TheVariants as stop
use Rattle.schedule_run.proofs.Lines.{lines_on, first_line_all, events_few, text-cons}
use Rattle.schedule_run.proofs.Carrying.{carries_nothing, carries_on, halts_on, events_lead_on, ready_after}

-- these bytes were read, and the rest is left
abbrev pub SoFar : Option (List ℕ) → Option (List ℕ) → List ℕ → Type 0
SoFar None now done = now ≡ None
SoFar (Some all) now done = (rest : List ℕ) × (all ≡ done ++ rest) × (now ≡ Some rest)

pub so_far_none : (left : Option (List ℕ)) → SoFar left left []
so_far_none None = refl
so_far_none (Some all) = (all, refl, refl)

pub so_far_more : (left now after : Option (List ℕ)) (done buffer : List ℕ) (n : ℕ) → SoFar left now done → IsRead n now after buffer → SoFar left after (done ++ take n buffer)
so_far_more None now after done buffer n s r = subst (λ h. IsRead n h after buffer) s r
so_far_more (Some all) now after done buffer n s r =
    let t = subst (λ h. IsRead n h after buffer) s.2 r in
    let rest = s.0 in
    let parts : all ≡ (done ++ take n buffer) ++ drop n rest =
    s.1 ∙ (ap (λ b. done ++ b) (sym (take-append-drop n rest)) ∙ (sym (append_assoc done (take n rest) (drop n rest)) ∙ ap (λ b. (done ++ b) ++ drop n rest) (sym t.1))) in
    (drop n rest, parts, t.2)

-- what is so of these bytes with any others after them
pub tells : (claim : List ℕ → Type 0) (left now : Option (List ℕ)) (done : List ℕ) → SoFar left now done → ((rest : List ℕ) → claim (done ++ rest)) → Tells claim left
tells claim None now done s f = tt
tells claim (Some all) now done s f = subst claim (sym s.1) (f s.0)

-- what is so of these bytes, where nothing is left
pub tells_all : (claim : List ℕ → Type 0) (left now after : Option (List ℕ)) (done buffer : List ℕ) (n : ℕ) → n ≡ 0 → 0 < length buffer → SoFar left now done → IsRead n now after buffer → claim done → Tells claim left
tells_all claim None now after done buffer n e some s r f = tt
tells_all claim (Some all) now after done buffer n e some s r f =
    let t = subst (λ h. IsRead n h after buffer) s.2 r in
    subst claim (sym (s.1 ∙ (ap (λ b. done ++ b) (t.3 e some) ∙ append-nil done))) f

-- the reader began with nothing, and took these bytes
pub record HasTaken (left now : Option (List ℕ)) (limit room : ℕ) (old new : ReadSoFar) : Type 0 where
  pub done : List ℕ
  pub so_far : SoFar left now done
  pub size : length done + room ≡ limit
  pub carried : Carries done old new

unbroken_none : (part : List ℕ) → part ≡ [] → HasNoLineFeed part
unbroken_none part none = subst HasNoLineFeed (sym none) (All-nil (λ (b : ℕ). b ≢ 10))

pub taken_none : (left : Option (List ℕ)) (limit : ℕ) (s : ReadSoFar) → s.part ≡ [] → HasTaken left left limit limit s s
taken_none left limit s none = record {
  done = [];
  so_far = so_far_none left;
  size = omega arith;
  carried = carries_nothing s (unbroken_none s.part none) (let e : length s.part ≡ 0 = ap length none in omega arith);
}

pub taken_more : (left now after : Option (List ℕ)) (limit room room' n : ℕ) (buffer : List ℕ) (s t u : ReadSoFar) → n ≤ length buffer → room' + n ≡ room → IsRead n now after buffer → HasTaken left now limit room s t → Carries (take n buffer) t u → HasTaken left after limit room' s u
taken_more left now after limit room room' n buffer s t u fits less read h more = record {
  done = h.done ++ take n buffer;
  so_far = so_far_more left now after h.done buffer n h.so_far read;
  size = let e = length-append h.done (take n buffer) in let f = length-take n buffer in let g = h.size in omega arith;
  carried = carries_on h.done (take n buffer) s t u h.carried more;
}

-- the recorder handed on what it kept back
handed_at : (a b c : Moment) (events : List Event) → HandsOnLines {E = Unit {0}} (Ok tt) b.recorder c.recorder → c.world ≡ b.world → c.disk ≡ b.disk → EventsLead events a b → EventsLead events a c
handed_at a b c events handed world disk p = record {
  history = p.history;
  is_kind = p.is_kind;
  world = world ∙ p.world;
  disk = subst (λ d. DiskRuns p.history a.world a.disk d) (sym disk) p.disk;
  told = gained_handed (lines_of p.history a.world) a.recorder b.recorder c.recorder p.told handed;
}
  where
    gained_handed : (xs : List Line) (r s t : RecorderSeen) → Gained xs r s → t ≡ record s { kept_back = 0 } → Gained xs r t
    gained_handed xs r s t p same = record {
      told = ap (λ (x : RecorderSeen). x.told) same ∙ p.told;
      detail = ap (λ (x : RecorderSeen). x.detail) same ∙ p.detail;
      faults = ap (λ (x : RecorderSeen). x.faults) same ∙ p.faults;
      lender = ap (λ (x : RecorderSeen). x.lender) same ∙ p.lender;
    }

pub taken_handed : (left now : Option (List ℕ)) (limit room : ℕ) (s : ReadSoFar) (run : Run) (part : List ℕ) (lines : ℕ) (disk : DiskSeen) (r t : RecorderSeen) → HandsOnLines {E = Unit {0}} (Ok tt) r t → HasTaken left now limit room s (read_so_far run part lines disk r) → HasTaken left now limit room s (read_so_far run part lines disk t)
taken_handed left now limit room s run part lines disk r t handed h = record {
  done = h.done;
  so_far = h.so_far;
  size = h.size;
  carried = record {
    whole = h.carried.whole;
    asked = h.carried.asked;
    all = h.carried.all;
    are_lines = h.carried.are_lines;
    unbroken = h.carried.unbroken;
    fits = h.carried.fits;
    lines = h.carried.lines;
    events = h.carried.events;
    leads = handed_at s.at (moment run.world disk r) (moment run.world disk t) h.carried.asked handed refl refl h.carried.leads;
  };
}

-- there are few events, since each has its bytes
few_asked : (part p rest : List ℕ) (whole : List (List ℕ)) (asked : List Event) → part ++ p ≡ text_of whole ++ rest → AreLinesOf whole asked → 5 * length asked + length rest ≤ length part + length p
few_asked part p rest whole asked all are =
    let few = events_few whole asked are in
    let long : length part + length p ≡ length (text_of whole) + length rest = sym (length-append part p) ∙ (ap length all ∙ length-append (text_of whole) rest) in
    omega arith

-- the reader began with nothing, and the limit is small
pub record IsFirst (limit : ℕ) (s : ReadSoFar) : Type 0 where
  pub fresh : IsFresh s
  pub small : limit ≤ 4294967296

few_taken : (left now : Option (List ℕ)) (limit room : ℕ) (s t : ReadSoFar) → IsFirst limit s → (h : HasTaken left now limit room s t) → 5 * length h.carried.asked + length t.part ≤ 4294967296
few_taken left now limit room s t first h =
    let few = few_asked s.part h.done t.part h.carried.whole h.carried.asked h.carried.all h.carried.are_lines in
    let none : length s.part ≡ 0 = ap length first.fresh.part in
    let size = h.size in
    let small = first.small in
    omega arith

-- the beginning has no part
whole_of : (done : List ℕ) (s t : ReadSoFar) → s.part ≡ [] → (c : Carries done s t) → done ≡ text_of c.whole ++ t.part
whole_of done s t none c = ap (λ (p : List ℕ). p ++ done) (sym none) ∙ c.all

-- what was begun to be read
begun_by : (left now : Option (List ℕ)) (limit room : ℕ) (s t : ReadSoFar) → s.part ≡ [] → (h : HasTaken left now limit room s t) → Tells (λ bytes. HasBegun bytes h.carried.asked) left
begun_by left now limit room s t none h = tells (λ bytes. HasBegun bytes h.carried.asked) left now h.done h.so_far (λ rest. record {
  lines = h.carried.whole;
  rest = t.part ++ rest;
  all = ap (λ (b : List ℕ). b ++ rest) (whole_of h.done s t none h.carried) ∙ append_assoc (text_of h.carried.whole) t.part rest;
  are_lines = h.carried.are_lines;
})

-- the recorder failed to hand on what it kept back
pub read_unsent : (left now : Option (List ℕ)) (limit room : ℕ) (s : ReadSoFar) (run : Run) (part : List ℕ) (lines : ℕ) (disk : DiskSeen) (r t : RecorderSeen) → IsFirst limit s → FailsHandingOn r t → HasTaken left now limit room s (read_so_far run part lines disk r) → ReadsUnsent left s.at (moment run.world disk t)
read_unsent left now limit room s run part lines disk r t first failed h = record {
  before = r;
  carried = record { events = h.carried.asked; few = let few = few_taken left now limit room s (read_so_far run part lines disk r) first h in omega arith; schedule = begun_by left now limit room s (read_so_far run part lines disk r) first.fresh.part h; leads = h.carried.leads };
  failed = failed;
}

-- the source failed: all whole lines that were read by then were carried out
read_to : (left now : Option (List ℕ)) (done : List ℕ) (events : List Event) → SoFar left now done → ((rest : List ℕ) → HasReadTo (done ++ rest) rest events) → TellsRest (λ bytes rest. HasReadTo bytes rest events) left now
read_to None now done events s f = tt
read_to (Some all) now done events s f =
    subst (λ (x : Option (List ℕ)). TellsRest (λ bytes rest. HasReadTo bytes rest events) (Some all) x) (sym s.2)
    (subst (λ (b : List ℕ). HasReadTo b s.0 events) (sym s.1) (f s.0))

pub read_failed : (left now after : Option (List ℕ)) (limit room : ℕ) (s t : ReadSoFar) → IsFirst limit s → after ≡ now → HasTaken left now limit room s t → Reads (λ events. TellsRest (λ bytes rest. HasReadTo bytes rest events) left after) s.at t.at
read_failed left now after limit room s t first same h = record {
  events = h.carried.asked;
  few = let few = few_taken left now limit room s t first h in omega arith;
  schedule = subst (λ (x : Option (List ℕ)). TellsRest (λ bytes rest. HasReadTo bytes rest h.carried.asked) left x) (sym same) (read_to left now h.done h.carried.asked h.so_far (λ rest. record {
    lines = h.carried.whole;
    part = t.part;
    all = ap (λ (b : List ℕ). b ++ rest) (whole_of h.done s t first.fresh.part h.carried);
    are_lines = h.carried.are_lines;
    unbroken = h.carried.unbroken;
  }));
  leads = h.carried.leads;
}

-- no room is left
pub read_too_long : (left now : Option (List ℕ)) (limit room : ℕ) (s t : ReadSoFar) → IsFirst limit s → room ≡ 0 → HasTaken left now limit room s t → Reads (λ events. Tells (λ bytes. IsTooLong limit bytes events) left) s.at t.at
read_too_long left now limit room s t first full h = record {
  events = h.carried.asked;
  few = let few = few_taken left now limit room s t first h in omega arith;
  schedule = tells (λ bytes. IsTooLong limit bytes h.carried.asked) left now h.done h.so_far (λ rest.
      let size : length h.done ≡ limit = let g = h.size in omega arith in
      record {
        lines = h.carried.whole;
        part = t.part;
        reached = omega (arith, length-append h.done rest);
        all = subst (λ n. take n (h.done ++ rest) ≡ text_of h.carried.whole ++ t.part) size (take_front h.done rest ∙ whole_of h.done s t first.fresh.part h.carried);
        are_lines = h.carried.are_lines;
        unbroken = h.carried.unbroken;
        fits = h.carried.fits;
      });
  leads = h.carried.leads;
}
  where
    take_front : (a b : List ℕ) → take (length a) (a ++ b) ≡ a
    take_front a b = take-append-le (length a) a b (omega arith) ∙ take_all (length a) a (omega arith)

few_last : (part : List ℕ) (asked : List Event) → AreLinesOf (last_line part) asked → 5 * length asked ≤ length part + 1
few_last [] asked are = let few = events_few [] asked are in omega arith
few_last (b ∷ part) asked are =
    let few = events_few ((b ∷ part) ∷ []) asked are in
    let long = text-cons (b ∷ part) [] in
    omega arith

-- nothing is left to read
pub read_done : (left now after : Option (List ℕ)) (limit room n : ℕ) (buffer : List ℕ) (s t : ReadSoFar) (new : Moment) → IsFirst limit s → n ≡ 0 → 0 < length buffer → 0 < room → IsRead n now after buffer → HasTaken left now limit room s t → CarriesLast t.part t.at new → Reads (λ events. Tells (λ bytes. IsWholeSchedule limit bytes events) left) s.at new
read_done left now after limit room n buffer s t new first zero some room_left read h last = record {
  events = h.carried.asked ++ last.asked;
  few =
      let few = few_taken left now limit room s t first h in
      let more = few_last t.part last.asked last.are_lines in
      let both = length-append h.carried.asked last.asked in
      omega arith;
  schedule = tells_all (λ bytes. IsWholeSchedule limit bytes (h.carried.asked ++ last.asked)) left now after h.done buffer n zero some h.so_far read (record {
    lines = h.carried.whole;
    last = t.part;
    all = whole_of h.done s t first.fresh.part h.carried;
    below = let g = h.size in omega arith;
    are_lines = lines_on h.carried.whole (last_line t.part) h.carried.asked last.asked h.carried.are_lines last.are_lines;
  });
  leads = events_lead_on h.carried.asked last.asked s.at t.at new h.carried.leads last.leads;
}

-- the last line is bad
last_bad : (left now after : Option (List ℕ)) (limit room n number : ℕ) (buffer : List ℕ) (s t : ReadSoFar) (new : Moment) → IsFirst limit s → n ≡ 0 → 0 < length buffer → 0 < room → 1 ≤ length t.part → IsRead n now after buffer → HasTaken left now limit room s t → number ≡ t.lines + 1 → IsBadLine t.part → new ≡ t.at → Reads (λ events. Tells (λ bytes. HasBadLine limit bytes events number) left) s.at new
last_bad left now after limit room n number buffer s t new first zero some room_left some_part read h is_number bad same = record {
  events = h.carried.asked;
  few = let few = few_taken left now limit room s t first h in omega arith;
  schedule = tells_all (λ bytes. HasBadLine limit bytes h.carried.asked number) left now after h.done buffer n zero some h.so_far read (record {
    lines = h.carried.whole;
    rest = t.part;
    all = whole_of h.done s t first.fresh.part h.carried;
    some = λ e. let f : length t.part ≡ 0 = ap length e in omega arith;
    are_lines = h.carried.are_lines;
    bad = subst IsBadLine (sym (first_line_all t.part h.carried.unbroken)) bad;
    is_number = let e = h.carried.lines in let f = first.fresh.lines in omega arith;
    before = inl (let g = h.size in omega arith);
  });
  leads = subst (EventsLead h.carried.asked s.at) (sym same) h.carried.leads;
}

-- the recorder stopped in a line
stopped_in : (left : Option (List ℕ)) (limit : ℕ) (p : List ℕ) (s : ReadSoFar) (why : RecordStop) (new : Moment) (now : Option (List ℕ)) → IsFirst limit s → length p ≤ limit → SoFar left now p → MeetsStop p why s new → ReadsToStop left why s.at new
stopped_in left limit p s why new now first fits so_far h =
    let event = h.stops.event in
    record {
      events = h.asked;
      few =
          let few = few_asked s.part p (h.line ++ h.rest) h.whole h.asked h.all h.are_lines in
          let none : length s.part ≡ 0 = ap length first.fresh.part in
          let small = first.small in
          omega arith;
      event = event;
      schedule = tells (λ bytes. HasComeTo bytes h.asked event) left now p so_far (λ rest. record {
        lines = h.whole;
        line = h.line;
        rest = h.rest ++ rest;
        all =
            ap (λ (b : List ℕ). (b ++ p) ++ rest) (sym first.fresh.part)
            ∙ (ap (λ (b : List ℕ). b ++ rest) h.all
            ∙ (append_assoc (text_of h.whole) (h.line ++ h.rest) rest
            ∙ ap (λ (b : List ℕ). text_of h.whole ++ b) (append_assoc h.line h.rest rest)));
        are_lines = h.are_lines;
        is_line = h.stops.is_line;
      });
      middle = h.middle;
      leads = h.leads;
      stopped = h.stops.stopped;
    }

last_stopped : (left now : Option (List ℕ)) (limit room : ℕ) (s t : ReadSoFar) (why : RecordStop) (new : Moment) → IsFirst limit s → HasTaken left now limit room s t → StopsInLine t.part why t.at new → ReadsToStop left why s.at new
last_stopped left now limit room s t why new first h stops =
    stopped_in left limit h.done s why new now first (let size = h.size in omega arith) h.so_far (record {
      whole = h.carried.whole;
      asked = h.carried.asked;
      line = t.part;
      rest = [];
      all = h.carried.all ∙ ap (λ (b : List ℕ). text_of h.carried.whole ++ b) (sym (append-nil t.part));
      are_lines = h.carried.are_lines;
      middle = t.at;
      leads = h.carried.leads;
      stops = stops;
    })

-- the last line stopped the run
read_stopped_last : (left now : Option (List ℕ)) (limit room n : ℕ) (buffer : List ℕ) (s t : ReadSoFar) (a b : SourceSeen) (why : RunStop) (new : Moment) → a.left ≡ left → IsFirst limit s → n ≡ 0 → 0 < length buffer → 0 < room → 1 ≤ length t.part → b.faults ≡ a.faults → IsRead n now b.left buffer → HasTaken left now limit room s t → StopsAtLine t.part (t.lines + 1) why t.at new → ReadStops limit a b why s.at new
read_stopped_last left now limit room n buffer s t a b (stop.BadLine number) new same first zero some room_left some_part unfailed read h stops =
    (unfailed, subst (λ (l : Option (List ℕ)). Reads (λ events. Tells (λ bytes. HasBadLine limit bytes events number) l) s.at new) (sym same) (last_bad left now b.left limit room n number buffer s t new first zero some room_left some_part read h stops.0 stops.1 stops.2))
read_stopped_last left now limit room n buffer s t a b stop.Source new same first zero some room_left some_part unfailed read h stops = absurd stops
read_stopped_last left now limit room n buffer s t a b stop.TooLong new same first zero some room_left some_part unfailed read h stops = absurd stops
read_stopped_last left now limit room n buffer s t a b stop.Sink new same first zero some room_left some_part unfailed read h stops =
    (unfailed, inl (subst (λ (l : Option (List ℕ)). ReadsToStop l record_stop.Failed s.at new) (sym same) (last_stopped left now limit room s t record_stop.Failed new first h stops)))
read_stopped_last left now limit room n buffer s t a b stop.OutOfMemory new same first zero some room_left some_part unfailed read h stops =
    (unfailed, subst (λ (l : Option (List ℕ)). ReadsToStop l record_stop.OutOfMemory s.at new) (sym same) (last_stopped left now limit room s t record_stop.OutOfMemory new first h stops))

-- a line in a piece is bad
piece_bad : (left now : Option (List ℕ)) (limit number : ℕ) (p : List ℕ) (s : ReadSoFar) (new : Moment) → IsFirst limit s → length p ≤ limit → SoFar left now p → MeetsBad p s number new → Reads (λ events. Tells (λ bytes. HasBadLine limit bytes events number) left) s.at new
piece_bad left now limit number p s new first fits so_far h = record {
  events = h.asked;
  few =
      let few = few_asked s.part p h.rest h.whole h.asked h.all h.are_lines in
      let none : length s.part ≡ 0 = ap length first.fresh.part in
      let small = first.small in
      omega arith;
  schedule = tells (λ bytes. HasBadLine limit bytes h.asked number) left now p so_far (λ further.
      let parts : p ≡ text_of h.whole ++ h.rest = ap (λ (b : List ℕ). b ++ p) (sym first.fresh.part) ∙ h.all in
      let size : length p ≡ length (text_of h.whole) + length h.rest = ap length parts ∙ length-append (text_of h.whole) h.rest in
      let seen = h.bad.seen further in
      record {
        lines = h.whole;
        rest = h.rest ++ further;
        all = ap (λ (b : List ℕ). b ++ further) parts ∙ append_assoc (text_of h.whole) h.rest further;
        some = λ e. let f : length (h.rest ++ further) ≡ 0 = ap length e in omega (arith, length-append h.rest further);
        are_lines = h.are_lines;
        bad = h.bad.bad further;
        is_number = let e = h.is_number in let f = first.fresh.lines in omega arith;
        before = inr (omega arith);
      });
  leads = h.leads;
}

-- a line in a piece stopped the run
read_stopped : (left now : Option (List ℕ)) (limit room n : ℕ) (buffer : List ℕ) (s t : ReadSoFar) (a b : SourceSeen) (why : RunStop) (new : Moment) → a.left ≡ left → IsFirst limit s → n ≤ room → b.faults ≡ a.faults → IsRead n now b.left buffer → HasTaken left now limit room s t → Halts (take n buffer) t why new → ReadStops limit a b why s.at new
read_stopped left now limit room n buffer s t a b why new same first fits unfailed read h halts =
    by why (halts_on h.done (take n buffer) s t why new h.carried halts)
  where
    so_far : SoFar left b.left (h.done ++ take n buffer)
    so_far = so_far_more left now b.left h.done buffer n h.so_far read

    size : length (h.done ++ take n buffer) ≤ limit
    size = let e = length-append h.done (take n buffer) in let f = length-take n buffer in let g = h.size in omega arith

    by : (why : RunStop) → Halts (h.done ++ take n buffer) s why new → ReadStops limit a b why s.at new
    by (stop.BadLine number) whole =
        (unfailed, subst (λ (l : Option (List ℕ)). Reads (λ events. Tells (λ bytes. HasBadLine limit bytes events number) l) s.at new) (sym same) (piece_bad left b.left limit number (h.done ++ take n buffer) s new first size so_far whole))
    by stop.Source whole = absurd whole
    by stop.TooLong whole = absurd whole
    by stop.Sink whole = (unfailed, inl (subst (λ (l : Option (List ℕ)). ReadsToStop l record_stop.Failed s.at new) (sym same) (stopped_in left limit (h.done ++ take n buffer) s record_stop.Failed new b.left first size so_far whole)))
    by stop.OutOfMemory whole = (unfailed, subst (λ (l : Option (List ℕ)). ReadsToStop l record_stop.OutOfMemory s.at new) (sym same) (stopped_in left limit (h.done ++ take n buffer) s record_stop.OutOfMemory new b.left first size so_far whole))

-- the bytes that were read stand at the beginning of the buffer
pub taken_front : (left now after : Option (List ℕ)) (limit room room' n : ℕ) (buffer tail : List ℕ) (s t u : ReadSoFar) → n ≤ length buffer → room' + n ≡ room → IsRead n now after buffer → HasTaken left now limit room s t → Carries (take n (buffer ++ tail)) t u → HasTaken left after limit room' s u
taken_front left now after limit room room' n buffer tail s t u fits less read h more =
    taken_more left now after limit room room' n buffer s t u fits less read h
    (subst (λ (p : List ℕ). Carries p t u) (take-append-le n buffer tail fits) more)

pub stopped_front : (now : Option (List ℕ)) (limit room n : ℕ) (buffer tail : List ℕ) (s t : ReadSoFar) (a b : SourceSeen) (why : RunStop) (new : Moment) → IsFirst limit s → n ≤ length buffer → n ≤ room → b.faults ≡ a.faults → IsRead n now b.left buffer → HasTaken a.left now limit room s t → Halts (take n (buffer ++ tail)) t why new → ReadStops limit a b why s.at new
stopped_front now limit room n buffer tail s t a b why new first in_buffer fits unfailed read h halts =
    read_stopped a.left now limit room n buffer s t a b why new refl first fits unfailed read h
    (subst (λ (p : List ℕ). Halts p t why new) (take-append-le n buffer tail in_buffer) halts)

-- by what the call answered at the end
pub at_end : (now : Option (List ℕ)) (limit room n : ℕ) (buffer : List ℕ) (s t u : ReadSoFar) (a b : SourceSeen) (result : Result (Unit {0}) RunStop) → IsFirst limit s → n ≡ 0 → 0 < length buffer → 0 < room → b.faults ≡ a.faults → IsRead n now b.left buffer → HasTaken a.left now limit room s t → Finishes result t u → ReadsAll limit result a b s.at u.at
at_end now limit room n buffer s t u a b (Ok done) first zero some room_left unfailed read h last =
    (unfailed, read_done a.left now b.left limit room n buffer s t u.at first zero some room_left read h last)
at_end now limit room n buffer s t u a b (Err why) first zero some room_left unfailed read h last =
    read_stopped_last a.left now limit room n buffer s t a b why u.at refl first zero some room_left last.0 unfailed read h last.1

-- the reader is ready for what is left of the limit
pub ready_taken : (left now : Option (List ℕ)) (limit room n : ℕ) (s t : ReadSoFar) → IsFirst limit s → n ≤ room → attached_of s.at.disk ≡ Some s.at.world.rings.back.jobs.info.sectors → HasTaken left now limit room s t → IsReadyToTake n t
ready_taken left now limit room n s t first le attached h =
    let size = h.size in
    let small = first.small in
    ready_after h.done n 4294967296 s t (omega arith) (record {
      unbroken = unbroken_none s.part first.fresh.part;
      fits = let e : length s.part ≡ 0 = ap length first.fresh.part in omega arith;
      few = let e : length s.part ≡ 0 = ap length first.fresh.part in let f = first.fresh.events in omega arith;
      lines = let e : length s.part ≡ 0 = ap length first.fresh.part in let f = first.fresh.lines in omega arith;
      attached = attached;
    }) h.carried
