-- What was carried out, and then more.
use Rattle.std.proofs.Common.{◌≡◌, ◌≢◌, ℕ, ◌+◌, ◌*◌, ◌<◌, ◌≤◌, List, [], ◌∷◌, ◌++◌, length, get_or, take, drop, Option, Some, None, option_to_list, Result, Ok, Err, refl, sym, ap, ◌∙◌, subst, arith, append_assoc, append-nil, length-append}
use Rattle.std.proofs.lemmas.List.Elements.{All-push, All-nil}
use Rattle.std.proofs.lemmas.List.{take_more, take-append-drop, length-take}
use Rattle.blk_io.specs.Disk.{attached_of, sectors_of}
use Rattle.schedule_text.specs.declared.event.BadLine.{BadLine}
use Rattle.schedule_text.specs.declared.event.Event.{Event}
use Rattle.schedule_text.specs.Event.{IsReadOf, IsEventOf, IsSilent}
use Rattle.schedule_text.specs.declared.recorder.RecordStop.{RecordStop}
use Rattle.schedule_text.specs.declared.recorder.RecordStop.TheVariants as record_stop
use Rattle.vbd_model.specs.World.{World}
use Rattle.vbd_model.specs.Happening.{Happening, after}
use Rattle.vbd_model.specs.Kind.{AreOf, AreOfAll, AreOfSoFar}
use Rattle.vbd_model.specs.Leads.{Leads, LeadsToStop, Goes, Moment}
use Rattle.vbd_model.proofs.Running.{after-append, runs_attachment, leads_nowhere, leads_on, leads_as}
use Rattle.schedule_run.specs.Outcome.{stop_of}
use Rattle.schedule_run.specs.Reading.{text_of, HasNoLineFeed, first_line, IsBadLine, AreLinesOf, last_line}
use Rattle.schedule_run.specs.Carrying.{ReadSoFar, IsReadyToTake, EventsLead, CarriesLine, StopsInLine, StopsAtLine, Feeds, Finishes, CarriesLast, Carries, IsSurelyBad, MeetsBad, MeetsStop, Halts, Takes}
use Rattle.schedule_run.specs.declared.schedule.RunStop.{RunStop}
use Rattle.schedule_run.specs.declared.schedule.RunStop.TheVariants as stop
use Rattle.vbd_model.proofs.Keeping.{sectors_after}
use Rattle.schedule_run.proofs.Lines.{long_is_bad, events_few, lines_few, lines_on, text_on, lines_one, first_line_long, first_line_whole}

-- a line of which nothing is read is a bad one
abbrev refused : BadLine → Result (Option Event) BadLine
refused why = Err why

pub unread : (line : List ℕ) (why : BadLine) → (IsSilent line → refused why ≡ Ok None) → ((event : Event) → IsEventOf event line → refused why ≡ Ok (Some event)) → IsBadLine line
unread line why silent only None is = let e = silent is in cc
unread line why silent only (Some event) is = let e = only event is in cc

-- a line's event was carried out
pub line_carried : (line : List ℕ) (event : Event) (events events' : ℕ) (old new : Moment) → IsEventOf event line → events' ≡ events + 1 → Leads (AreOf event old.world) old new → CarriesLine line events events' old new
line_carried line event events events' old new is counted leads = record {
  read = Some event;
  is_line = is;
  counted = counted;
  leads = leads_as (AreOf event old.world) (AreOfAll (event ∷ []) old.world) old new (λ xs k. (xs, [], sym (append-nil xs), k, refl)) leads;
}

-- and where the machine didn't stop
pub line_goes : (line line' : List ℕ) (read : Option Event) (event : Event) (events events' n : ℕ) (result : Result (Unit {0}) RecordStop) (old new : Moment) → ((why : RecordStop) → result ≡ Err why → ⊥) → line' ≡ line → read ≡ Some event → IsReadOf read line' → events' ≡ events + 1 → Goes (AreOf event old.world) (AreOfSoFar event old.world) n result old new → CarriesLine line events events' old new
line_goes line line' read event events events' n (Ok done) old new ok same some is counted goes = line_carried line event events events' old new (subst (λ r. IsReadOf r line) some (subst (λ l. IsReadOf read l) same is)) counted goes.ends
line_goes line line' read event events events' n (Err why) old new ok same some is counted goes = absurd (ok why refl)

-- and where it did
pub line_stops : (line line' : List ℕ) (read : Option Event) (event : Event) (number n : ℕ) (result : Result (Unit {0}) RecordStop) (why : RecordStop) (old new : Moment) → result ≡ Err why → line' ≡ line → read ≡ Some event → IsReadOf read line' → Goes (AreOf event old.world) (AreOfSoFar event old.world) n result old new → StopsAtLine line number (stop_of why) old new
line_stops line line' read event number n result why old new stopped same some is goes =
    by why (record {
      event = event;
      is_line = subst (λ r. IsReadOf r line) some (subst (λ l. IsReadOf read l) same is);
      stopped = stops (subst (λ r. Goes (AreOf event old.world) (AreOfSoFar event old.world) n r old new) stopped goes);
    })
  where
    stops : Goes (AreOf event old.world) (AreOfSoFar event old.world) n (Err why) old new → LeadsToStop (AreOfSoFar event old.world) why old new
    stops g = g.ends

    by : (why : RecordStop) → StopsInLine line why old new → StopsAtLine line number (stop_of why) old new
    by record_stop.Failed h = h
    by record_stop.OutOfMemory h = h

-- a line asks for nothing
pub line_silent : (line line' : List ℕ) (read : Option Event) (events events' : ℕ) (old : Moment) → line' ≡ line → read ≡ None → IsReadOf read line' → events' ≡ events → CarriesLine line events events' old old
line_silent line line' read events events' old same none is counted = record {
  read = None;
  is_line = subst (λ r. IsReadOf r line) none (subst (λ l. IsReadOf read l) same is);
  counted = omega arith;
  leads = leads_nowhere (AreOfAll [] old.world) old refl;
}

-- the happenings of events, and then of more
are_all_on : (es fs : List Event) (w : World) (xs ys : List Happening) → AreOfAll es w xs → AreOfAll fs (after xs w) ys → AreOfAll (es ++ fs) w (xs ++ ys)
are_all_on [] fs w xs ys a b =
    let here = subst (λ zs. AreOfAll fs (after zs w) ys) a b in
    subst (λ zs. AreOfAll fs w (zs ++ ys)) (sym a) here
are_all_on (e ∷ es) fs w xs ys a b =
    let here = subst (λ v. AreOfAll fs v ys) (ap (λ zs. after zs w) a.2 ∙ after-append a.0 a.1 w) b in
    (a.0, a.1 ++ ys, ap (λ zs. zs ++ ys) a.2 ∙ append_assoc a.0 a.1 ys, a.3, are_all_on es fs (after a.0 w) a.1 ys a.4 here)

pub events_lead_on : (es fs : List Event) (a b c : Moment) → EventsLead es a b → EventsLead fs b c → EventsLead (es ++ fs) a c
events_lead_on es fs a b c p q =
    leads_on (AreOfAll es a.world) (AreOfAll fs b.world) (AreOfAll (es ++ fs) a.world) a b c
    (λ xs ys k world m. are_all_on es fs a.world xs ys k (subst (λ w. AreOfAll fs w ys) world m)) p q

pub events_lead_nowhere : (a b : Moment) → b ≡ a → EventsLead [] a b
events_lead_nowhere a b same = subst (EventsLead [] a) (sym same) (leads_nowhere (AreOfAll [] a.world) a refl)

-- bytes after bytes
pub bytes_joined : (part p q text mid text' rest : List ℕ) → part ++ p ≡ text ++ mid → mid ++ q ≡ text' ++ rest → part ++ (p ++ q) ≡ (text ++ text') ++ rest
bytes_joined part p q text mid text' rest e f =
    sym (append_assoc part p q)
    ∙ (ap (λ (b : List ℕ). b ++ q) e
    ∙ (append_assoc text mid q
    ∙ (ap (λ (b : List ℕ). text ++ b) f
    ∙ sym (append_assoc text text' rest))))

pub joined_lines : (part p q mid rest : List ℕ) (a b : List (List ℕ)) → part ++ p ≡ text_of a ++ mid → mid ++ q ≡ text_of b ++ rest → part ++ (p ++ q) ≡ text_of (a ++ b) ++ rest
joined_lines part p q mid rest a b e f =
    bytes_joined part p q (text_of a) mid (text_of b) rest e f ∙ ap (λ (t : List ℕ). t ++ rest) (sym (text_on a b))

-- nothing was taken
pub carries_nothing : (s : ReadSoFar) → HasNoLineFeed s.part → length s.part ≤ 128 → Carries [] s s
carries_nothing s u fits = record {
  whole = [];
  asked = [];
  all = append-nil s.part;
  are_lines = refl;
  unbroken = u;
  fits = fits;
  lines = omega arith;
  events = omega arith;
  leads = events_lead_nowhere s.at s.at refl;
}

-- a piece, and then one more
pub carries_on : (p q : List ℕ) (s t u : ReadSoFar) → Carries p s t → Carries q t u → Carries (p ++ q) s u
carries_on p q s t u a b = record {
  whole = a.whole ++ b.whole;
  asked = a.asked ++ b.asked;
  all = joined_lines s.part p q t.part u.part a.whole b.whole a.all b.all;
  are_lines = lines_on a.whole b.whole a.asked b.asked a.are_lines b.are_lines;
  unbroken = b.unbroken;
  fits = b.fits;
  lines = let e = length-append a.whole b.whole in let f = a.lines in let g = b.lines in omega arith;
  events = let e = length-append a.asked b.asked in let f = a.events in let g = b.events in omega arith;
  leads = events_lead_on a.asked b.asked s.at t.at u.at a.leads b.leads;
}

-- how many lines and events there are at most
pub carries_few : (p : List ℕ) (s t : ReadSoFar) → Carries p s t → 5 * t.events + length t.part ≤ 5 * s.events + length s.part + length p
carries_few p s t a =
    let few = events_few a.whole a.asked a.are_lines in
    let long : length s.part + length p ≡ length (text_of a.whole) + length t.part = sym (length-append s.part p) ∙ (ap length a.all ∙ length-append (text_of a.whole) t.part) in
    let e = a.events in
    omega arith

pub carries_few_lines : (p : List ℕ) (s t : ReadSoFar) → Carries p s t → t.lines + length t.part ≤ s.lines + length s.part + length p
carries_few_lines p s t a =
    let few = lines_few a.whole in
    let long : length s.part + length p ≡ length (text_of a.whole) + length t.part = sym (length-append s.part p) ∙ (ap length a.all ∙ length-append (text_of a.whole) t.part) in
    let e = a.lines in
    omega arith

-- a stop after what was carried out
bad_on : (p q : List ℕ) (s t : ReadSoFar) (n : ℕ) (new : Moment) → Carries p s t → MeetsBad q t n new → MeetsBad (p ++ q) s n new
bad_on p q s t n new a b = record {
  whole = a.whole ++ b.whole;
  asked = a.asked ++ b.asked;
  rest = b.rest;
  all = joined_lines s.part p q t.part b.rest a.whole b.whole a.all b.all;
  are_lines = lines_on a.whole b.whole a.asked b.asked a.are_lines b.are_lines;
  is_number = let e = length-append a.whole b.whole in let f = a.lines in let g = b.is_number in omega arith;
  bad = b.bad;
  leads = events_lead_on a.asked b.asked s.at t.at new a.leads b.leads;
}

stop_on : (p q : List ℕ) (s t : ReadSoFar) (why : RecordStop) (new : Moment) → Carries p s t → MeetsStop q why t new → MeetsStop (p ++ q) why s new
stop_on p q s t why new a b = record {
  whole = a.whole ++ b.whole;
  asked = a.asked ++ b.asked;
  line = b.line;
  rest = b.rest;
  all = joined_lines s.part p q t.part (b.line ++ b.rest) a.whole b.whole a.all b.all;
  are_lines = lines_on a.whole b.whole a.asked b.asked a.are_lines b.are_lines;
  middle = b.middle;
  leads = events_lead_on a.asked b.asked s.at t.at b.middle a.leads b.leads;
  stops = b.stops;
}

pub halts_on : (p q : List ℕ) (s t : ReadSoFar) (why : RunStop) (new : Moment) → Carries p s t → Halts q t why new → Halts (p ++ q) s why new
halts_on p q s t (stop.BadLine n) new carried halts = bad_on p q s t n new carried halts
halts_on p q s t stop.Source new carried halts = halts
halts_on p q s t stop.TooLong new carried halts = halts
halts_on p q s t stop.Sink new carried halts = stop_on p q s t record_stop.Failed new carried halts
halts_on p q s t stop.OutOfMemory new carried halts = stop_on p q s t record_stop.OutOfMemory new carried halts

-- a stop before further bytes
more : (part p q text rest : List ℕ) → part ++ p ≡ text ++ rest → part ++ (p ++ q) ≡ text ++ (rest ++ q)
more part p q text rest e = sym (append_assoc part p q) ∙ (ap (λ (b : List ℕ). b ++ q) e ∙ append_assoc text rest q)

surely_more : (rest q : List ℕ) → IsSurelyBad rest → IsSurelyBad (rest ++ q)
surely_more rest q bad = record {
  bad = λ further. subst (λ (b : List ℕ). IsBadLine (first_line b)) (sym (append_assoc rest q further)) (bad.bad (q ++ further));
  seen = λ further.
      let seen = bad.seen (q ++ further) in
      let e = length-append rest q in
      let f : length (first_line (rest ++ (q ++ further))) ≡ length (first_line ((rest ++ q) ++ further)) = ap (λ (b : List ℕ). length (first_line b)) (sym (append_assoc rest q further)) in
      omega arith;
}

bad_more : (p q : List ℕ) (s : ReadSoFar) (n : ℕ) (new : Moment) → MeetsBad p s n new → MeetsBad (p ++ q) s n new
bad_more p q s n new h = record {
  whole = h.whole;
  asked = h.asked;
  rest = h.rest ++ q;
  all = more s.part p q (text_of h.whole) h.rest h.all;
  are_lines = h.are_lines;
  is_number = h.is_number;
  bad = surely_more h.rest q h.bad;
  leads = h.leads;
}

stop_more : (p q : List ℕ) (s : ReadSoFar) (why : RecordStop) (new : Moment) → MeetsStop p why s new → MeetsStop (p ++ q) why s new
stop_more p q s why new h = record {
  whole = h.whole;
  asked = h.asked;
  line = h.line;
  rest = h.rest ++ q;
  all = more s.part p q (text_of h.whole) (h.line ++ h.rest) h.all ∙ ap (λ (b : List ℕ). text_of h.whole ++ b) (append_assoc h.line h.rest q);
  are_lines = h.are_lines;
  middle = h.middle;
  leads = h.leads;
  stops = h.stops;
}

pub halts_more : (p q : List ℕ) (s : ReadSoFar) (why : RunStop) (new : Moment) → Halts p s why new → Halts (p ++ q) s why new
halts_more p q s (stop.BadLine n) new h = bad_more p q s n new h
halts_more p q s stop.Source new h = h
halts_more p q s stop.TooLong new h = h
halts_more p q s stop.Sink new h = stop_more p q s record_stop.Failed new h
halts_more p q s stop.OutOfMemory new h = stop_more p q s record_stop.OutOfMemory new h

-- a line feed came
feed_text : (line part : List ℕ) (byte : ℕ) → byte ≡ 10 → part ≡ [] → line ++ byte ∷ [] ≡ text_of (line ∷ []) ++ part
feed_text line part byte feed e =
    ap (λ b. line ++ b ∷ []) feed
    ∙ (sym (append-nil (line ++ 10 ∷ []))
    ∙ (sym (append-nil ((line ++ 10 ∷ []) ++ [])) ∙ ap (λ (b : List ℕ). ((line ++ 10 ∷ []) ++ []) ++ b) (sym e)))

pub feed_carried : (byte : ℕ) (s t : ReadSoFar) → byte ≡ 10 → HasNoLineFeed s.part → t.part ≡ [] → t.lines ≡ s.lines + 1 → CarriesLine s.part s.events t.events s.at t.at → Carries (byte ∷ []) s t
feed_carried byte s t feed u none lines a = record {
  whole = s.part ∷ [];
  asked = option_to_list a.read;
  all = feed_text s.part t.part byte feed none;
  are_lines = lines_one s.part a.read u a.is_line;
  unbroken = subst HasNoLineFeed (sym none) (All-nil (λ (b : ℕ). b ≢ 10));
  fits = let e : length t.part ≡ 0 = ap length none in omega arith;
  lines = lines;
  events = a.counted;
  leads = a.leads;
}

feed_bad : (part further : List ℕ) (byte : ℕ) → byte ≡ 10 → HasNoLineFeed part → first_line ((part ++ byte ∷ []) ++ further) ≡ part
feed_bad part further byte feed u =
    ap first_line (append_assoc part (byte ∷ []) further)
    ∙ (ap (λ b. first_line (part ++ b ∷ further)) feed ∙ first_line_whole part further u)

surely_fed : (part : List ℕ) (byte : ℕ) → byte ≡ 10 → HasNoLineFeed part → IsBadLine part → IsSurelyBad (part ++ byte ∷ [])
surely_fed part byte feed u bad = record {
  bad = λ further. subst IsBadLine (sym (feed_bad part further byte feed u)) bad;
  seen = λ further.
      let e = length-append part (byte ∷ []) in
      let f : length (first_line ((part ++ byte ∷ []) ++ further)) ≡ length part = ap length (feed_bad part further byte feed u) in
      omega arith;
}

bad_here : (p : List ℕ) (s : ReadSoFar) (n : ℕ) (new : Moment) → n ≡ s.lines + 1 → IsSurelyBad (s.part ++ p) → new ≡ s.at → MeetsBad p s n new
bad_here p s n new number bad same = record {
  whole = [];
  asked = [];
  rest = s.part ++ p;
  all = refl;
  are_lines = refl;
  is_number = omega arith;
  bad = bad;
  leads = events_lead_nowhere s.at new same;
}

stop_here : (p : List ℕ) (s : ReadSoFar) (why : RecordStop) (new : Moment) → StopsInLine s.part why s.at new → MeetsStop p why s new
stop_here p s why new stops = record {
  whole = [];
  asked = [];
  line = s.part;
  rest = p;
  all = refl;
  are_lines = refl;
  middle = s.at;
  leads = events_lead_nowhere s.at s.at refl;
  stops = stops;
}

feed_stopped : (byte : ℕ) (s : ReadSoFar) (why : RunStop) (new : Moment) → byte ≡ 10 → HasNoLineFeed s.part → StopsAtLine s.part (s.lines + 1) why s.at new → Halts (byte ∷ []) s why new
feed_stopped byte s (stop.BadLine n) new feed u h = bad_here (byte ∷ []) s n new h.0 (surely_fed s.part byte feed u h.1) h.2
feed_stopped byte s stop.Source new feed u h = h
feed_stopped byte s stop.TooLong new feed u h = h
feed_stopped byte s stop.Sink new feed u h = stop_here (byte ∷ []) s record_stop.Failed new h
feed_stopped byte s stop.OutOfMemory new feed u h = stop_here (byte ∷ []) s record_stop.OutOfMemory new h

-- another byte came
pub byte_taken : (byte : ℕ) (s t : ReadSoFar) → byte ≢ 10 → HasNoLineFeed s.part → length s.part < 128 → t.part ≡ s.part ++ byte ∷ [] → t.lines ≡ s.lines → t.events ≡ s.events → t.at ≡ s.at → Carries (byte ∷ []) s t
byte_taken byte s t other u room part lines events at = record {
  whole = [];
  asked = [];
  all = sym part;
  are_lines = refl;
  unbroken = subst HasNoLineFeed (sym part) (All-push (λ (b : ℕ). b ≢ 10) s.part byte u other);
  fits = let e : length t.part ≡ length (s.part ++ byte ∷ []) = ap length part in let f = length-append s.part (byte ∷ []) in omega arith;
  lines = omega arith;
  events = omega arith;
  leads = events_lead_nowhere s.at t.at at;
}

-- a line's 129th byte came
pub byte_refused : (byte : ℕ) (s : ReadSoFar) (n : ℕ) → byte ≢ 10 → HasNoLineFeed s.part → length s.part ≡ 128 → n ≡ s.lines + 1 → MeetsBad (byte ∷ []) s n s.at
byte_refused byte s n other u full number =
    let whole : HasNoLineFeed (s.part ++ byte ∷ []) = All-push (λ (b : ℕ). b ≢ 10) s.part byte u other in
    let long = length-append s.part (byte ∷ []) in
    bad_here (byte ∷ []) s n s.at number
    (record {
      bad = λ further. long_is_bad (first_line ((s.part ++ byte ∷ []) ++ further)) (let e = first_line_long (s.part ++ byte ∷ []) further whole in omega arith);
      seen = λ further. omega arith;
    })
    refl

-- by what the call answered
pub fed : (byte : ℕ) (s t : ReadSoFar) (result : Result (Unit {0}) RunStop) → byte ≡ 10 → HasNoLineFeed s.part → Feeds result s t → Takes (byte ∷ []) result s t
fed byte s t (Ok done) feed u h = feed_carried byte s t feed u h.part h.lines h.carried
fed byte s t (Err why) feed u h = feed_stopped byte s why t.at feed u h

-- a piece, byte by byte
pub carries_more : (piece : List ℕ) (i : ℕ) (s t u : ReadSoFar) → i < length piece → Carries (take i piece) s t → Carries (get_or piece i 0 ∷ []) t u → Carries (take (i + 1) piece) s u
carries_more piece i s t u lt a b = subst (λ (p : List ℕ). Carries p s u) (sym (take_more piece i 0 lt)) (carries_on (take i piece) (get_or piece i 0 ∷ []) s t u a b)

pub halts_in : (piece : List ℕ) (i : ℕ) (s t : ReadSoFar) (why : RunStop) (new : Moment) → i < length piece → Carries (take i piece) s t → Halts (get_or piece i 0 ∷ []) t why new → Halts piece s why new
halts_in piece i s t why new lt carried h =
    let so_far : Halts (take i piece ++ get_or piece i 0 ∷ []) s why new = halts_on (take i piece) (get_or piece i 0 ∷ []) s t why new carried h in
    let whole : (take i piece ++ get_or piece i 0 ∷ []) ++ drop (i + 1) piece ≡ piece =
    ap (λ (p : List ℕ). p ++ drop (i + 1) piece) (sym (take_more piece i 0 lt)) ∙ take-append-drop (i + 1) piece in
    subst (λ (p : List ℕ). Halts p s why new) whole (halts_more (take i piece ++ get_or piece i 0 ∷ []) (drop (i + 1) piece) s why new so_far)

-- what is attached stays, and so do the front's sectors
pub leads_attached : (kind : List Happening → Type 0) (a b : Moment) → Leads kind a b → attached_of a.disk ≡ Some a.world.rings.back.jobs.info.sectors → attached_of b.disk ≡ Some b.world.rings.back.jobs.info.sectors
leads_attached kind a b p attached =
    ap sectors_of (runs_attachment p.history a.world a.disk b.disk p.disk)
    ∙ (attached ∙ ap Some (sym (ap (λ (w : World). w.rings.back.jobs.info.sectors) p.world ∙ sectors_after p.history a.world)))

-- the reader is ready for more bytes where it was ready for all
pub ready_after : (p : List ℕ) (n m : ℕ) (s t : ReadSoFar) → length p + n ≤ m → IsReadyToTake m s → Carries p s t → IsReadyToTake n t
ready_after p n m s t le ready a =
    let events = carries_few p s t a in
    let lines = carries_few_lines p s t a in
    let few = ready.few in
    let room = ready.lines in
    record { unbroken = a.unbroken; fits = a.fits; few = omega arith; lines = omega arith; attached = leads_attached _ s.at t.at a.leads ready.attached }

pub ready_in : (piece : List ℕ) (i : ℕ) (s t : ReadSoFar) → i < length piece → IsReadyToTake (length piece) s → Carries (take i piece) s t → IsReadyToTake 1 t
ready_in piece i s t lt ready a =
    let long = length-take i piece in
    ready_after (take i piece) 1 (length piece) s t (omega arith) ready a

pub ready_less : (n m : ℕ) (s : ReadSoFar) → n ≤ m → IsReadyToTake m s → IsReadyToTake n s
ready_less n m s le ready =
    let few = ready.few in
    let lines = ready.lines in
    record { unbroken = ready.unbroken; fits = ready.fits; few = omega arith; lines = omega arith; attached = ready.attached }

-- the last line, where there is none, and where it lacks its line feed
pub last_none : (line : List ℕ) (at : Moment) → line ≡ [] → CarriesLast line at at
last_none line at none = record {
  asked = [];
  are_lines = subst (λ (l : List ℕ). AreLinesOf (last_line l) []) (sym none) refl;
  leads = events_lead_nowhere at at refl;
}

last_of : (line : List ℕ) (asked : List Event) → 1 ≤ length line → AreLinesOf (line ∷ []) asked → AreLinesOf (last_line line) asked
last_of [] asked some are = absurd (omega arith)
last_of (b ∷ line) asked some are = are

pub last_some : (line : List ℕ) (events events' : ℕ) (old new : Moment) → HasNoLineFeed line → 1 ≤ length line → CarriesLine line events events' old new → CarriesLast line old new
last_some line events events' old new u some a = record {
  asked = option_to_list a.read;
  are_lines = last_of line (option_to_list a.read) some (lines_one line a.read u a.is_line);
  leads = a.leads;
}

pub last_fed : (s t : ReadSoFar) (result : Result (Unit {0}) RunStop) → HasNoLineFeed s.part → 1 ≤ length s.part → Feeds result s t → Finishes result s t
last_fed s t (Ok done) u some h = last_some s.part s.events t.events s.at t.at u some h.carried
last_fed s t (Err why) u some h = (some, h)

pub no_bytes : (bytes : List ℕ) → length bytes ≡ 0 → bytes ≡ []
no_bytes [] e = refl
no_bytes (b ∷ bytes) e = absurd (omega arith)
