-- How many words the back reads, and how many requests it fetches and mappings there are, at most.
use Rattle.std.proofs.Common.{◌≡◌, ℕ, Bool, true, false, if◌then◌else◌, refl, ap, ◌∙◌, ◌+◌, ◌*◌, ◌^◌, ◌<◌, ◌≤◌, List, [], ◌∷◌, ◌++◌, length, Option, Some, None, arith, length-append}
use Rattle.std.specs.Prelude.{map, sum_by}
use Rattle.std.proofs.lemmas.List.{length-map}
use Rattle.std.proofs.lemmas.List.Sums.{sum_by-cons, sum_by-append}
use Rattle.blk_base.specs.Options.{Options}
use Rattle.blk_base.specs.declared.parts.End.{End}
use Rattle.blk_base.specs.declared.ask.BackAnswer.{BackAnswer}
use Rattle.schedule_text.specs.declared.event.Event.{Event}
use Rattle.schedule_text.specs.declared.line.Line.{Line}
use Rattle.schedule_text.specs.declared.line.Line.TheVariants.{Begin, Move}
use Rattle.schedule_text.specs.declared.line.Detail.{Detail}
use Rattle.hypervisor.specs.Act.{FrontAct, BackAct, Outcome, Took, back_act}
use Rattle.blk_front.specs.declared.told.Told.{Told}
use Rattle.blk_front.specs.declared.told.Told.TheVariants as front_told
use Rattle.blk_front.specs.View as front
use Rattle.blk_front.specs.Step as front_step
use Rattle.blk_back.specs.declared.told.BackTold.{BackTold}
use Rattle.blk_back.specs.declared.told.BackTold.TheVariants as back_told
use Rattle.blk_base.specs.declared.halt.Halt.{Halt}
use Rattle.blk_back.specs.View as back
use Rattle.blk_back.specs.Step as back_step
use Rattle.split_model.specs.World as rings
use Rattle.vbd_model.specs.World.{World, start_of, frontend_of, backend_of}
use Rattle.split_model.specs.Shown.{front_lines, back_lines, halt_lines}
use Rattle.split_model.specs.Happening.{is_guest_word, word_lines, ring_lines, enter_lines, front_shows, back_shows, job_shows, front_turn, back_turn, job_turn, is_guest_key}
use Rattle.split_model.specs.Happening as ring
use Rattle.vbd_model.specs.Happening.{Happening, FrontMoves, BackMoves, JobMoves, Closes, does, front_key, back_key, entered_at, reasons_of, halted_at, front_enters, back_halts, back_negotiates, back_bus_after, attaches, closes_does, is_fronts_ring, is_backs_ring, happens, after, all_does}
use Rattle.vbd_model.specs.Kind.{AreOfAll, AreOfSoFar}
use Rattle.blk_base.specs.declared.parts.End.TheVariants as end
use Rattle.blk_front.specs.declared.state.FrontState.{FrontState}
use Rattle.blk_front.specs.declared.state.Offers.{Offers}
use Rattle.xenbus_state.specs.declared.front.FrontNews.{FrontNews}
use Rattle.xenbus_state.specs.declared.table.BackHalt.{BackHalt}
use Rattle.xenbus_state.specs.declared.back.BackBusAsk.{BackBusAsk}
use Rattle.xenbus_state.specs.FrontAsk as bus_asks
use Rattle.xenbus_state.specs.declared.front.FrontBusAsk.{FrontBusAsk}
use Rattle.xenbus_state.specs.declared.front.FrontBusAsk.TheVariants as front_ask
use Rattle.vbd_front.specs.View as frontend
use Rattle.vbd_front.specs.Ask as front_asks
use Rattle.vbd_front.specs.Step as frontend_step
use Rattle.vbd_back.specs.Ask as back_asks
use Rattle.vbd_back.specs.Step as backend_step
use Rattle.vbd_model.specs.Happening as vbd_happening
use Rattle.machine_pipeline.specs.Plain.{IsPlain}
use Rattle.schedule_run.proofs.Counts.{others_at, others_of, most_others, event_so_far_few, events_few}
use Rattle.blk_base.specs.declared.ask.BackAsk.{BackAsk}
use Rattle.blk_base.specs.declared.ask.BackAnswer.TheVariants as back_answer
use Rattle.blk_base.specs.declared.moves.BackMover.TheVariants as back_mover
use Rattle.hypervisor.specs.Hypervisor.{Hypervisor}
use Rattle.split_model.specs.Report as ring_report
use Rattle.split_model.proofs.Running as ring_running
use Rattle.split_model.proofs.Acting.{BackRead, back_acts}
use Rattle.split_model.proofs.Showing.{MayShow, lines_are}
use Rattle.blk_base.specs.declared.moves.Move.TheVariants as moves
use Rattle.blk_base.specs.declared.moves.BackMover.{BackMover}
use Rattle.std.specs.List.{AllByRecursion}
use Rattle.xenbus_state.specs.BackView.{BackView}
use Rattle.xenbus_state.specs.FrontView.{ring_order}
use Rattle.vbd_model.specs.Mappings.{mappings_in}
use Rattle.vbd_model.proofs.Mappings.{cost_of, ring_left}
use Rattle.report_laws.proofs.Numbers.{HaveNumbers, fetches_at, fetched_happens}
use Rattle.vbd_laws.proofs.FitChannels.{IsOfJob}
use Rattle.ring_laws.proofs.BackReads.{reads_at, reads_of, reads_short}

front_few : (told : Option Told) → length (front_lines told) ≤ 1
front_few None = omega arith
front_few (Some (front_told.Answer id status)) = omega arith
front_few (Some (front_told.Sector id index words)) = omega arith
front_few (Some (front_told.Broken word)) = omega arith

back_few : (told : Option BackTold) (answer : BackAnswer) → length (back_lines told answer) ≤ 1
back_few None answer = omega arith
back_few (Some (back_told.Effect id index)) answer = omega arith
back_few (Some (back_told.Flushed id)) answer = omega arith
back_few (Some (back_told.Trimmed id)) answer = omega arith
back_few (Some (back_told.Fault id index)) answer = omega arith
back_few (Some (back_told.Reply id status)) answer = omega arith

halt_few : (before now : Option Halt) → length (halt_lines before now) ≤ 1
halt_few None None = omega arith
halt_few None (Some why) = omega arith
halt_few (Some was) now = omega arith

front_shows_few : (w : rings.World) (act : Option FrontAct) → length (front_shows w act) ≤ 3
front_shows_few w None = omega arith
front_shows_few w (Some a) =
    let f : front.View = front_step.step_of w.front a.answer in
    let few = front_few f.told in
    omega arith

back_shows_few : (w : rings.World) (act : Option BackAct) → length (back_shows w act) ≤ 3
back_shows_few w None = omega arith
back_shows_few w (Some a) =
    let b : back.View = back_step.step_of w.back a.answer in
    let few = back_few b.told a.answer in
    let halts = halt_few w.back.halted b.halted in
    let both = length-append (back_lines b.told a.answer) (halt_lines w.back.halted b.halted) in
    omega arith

abbrev IsNoRead : BackAct → Type 0
IsNoRead a = reads_at (Move a.shown) ≡ 0

job_reads_none : (who : BackMover) (mapping frame word value : ℕ) → IsOfJob who → reads_at (Move (moves.Read who mapping frame word value)) ≡ 0
job_reads_none back_mover.Back mapping frame word value job = absurd job
job_reads_none (back_mover.Job k) mapping frame word value job = refl

-- a job shows no word that the back itself reads
job_act_reads : (h : Hypervisor) (k : ℕ) (ask : BackAsk) (o : Outcome) (a : BackAct) → back_act h (back_mover.Job k) ask o ≡ Some a → IsNoRead a
job_act_reads h k ask o a e = (elim (back_acts h (back_mover.Job k) ask o a e) as (λ who asked outcome x acts. IsOfJob who → IsNoRead x) [
  | BackRead m word ↦ λ job. job_reads_none _ _ _ _ _ job
  | acts ↦ λ job. refl
]) tt

told_reads : (told : Option BackTold) (answer : BackAnswer) → reads_of (back_lines told answer) ≡ 0
told_reads None answer = refl
told_reads (Some (back_told.Effect id index)) (back_answer.Sector words) = refl
told_reads (Some (back_told.Effect id index)) answer = refl
told_reads (Some (back_told.Flushed id)) answer = refl
told_reads (Some (back_told.Trimmed id)) answer = refl
told_reads (Some (back_told.Fault id index)) answer = refl
told_reads (Some (back_told.Reply id status)) answer = refl

job_reads : (w : rings.World) (number : ℕ) (o : Outcome) (act : Option BackAct) → job_turn w number o ≡ act → reads_of (job_shows w number act) ≡ 0
job_reads w number o None e = refl
job_reads w number o (Some a) e =
    let b : back.View = back_step.job_step w.back number a.answer in
    let move = job_act_reads w.under number (back_step.job_ask_of w.back number) o a e in
    let more = told_reads b.told a.answer in
    let both = sum_by-cons reads_at (Move a.shown) (back_lines b.told a.answer) in
    omega arith

short_reads : (ls : List Line) → length ls ≤ 3 → reads_of ls ≤ 3
short_reads ls few = let short = reads_short ls in omega arith

-- what happens to the ring's machine besides the moves of jobs, thrice
abbrev tally_at : ring.Happening → ℕ
tally_at (ring.JobMoves number outcome) = 0
tally_at h = 3

abbrev tally_of : List ring.Happening → ℕ
tally_of hs = sum_by tally_at hs

-- nor does anything but the moves of the ends
abbrev MovesNoEnd : ring.Happening → Type 0
MovesNoEnd ring.FrontMoves = ⊥
MovesNoEnd ring.BackMoves = ⊥
MovesNoEnd (ring.JobMoves number outcome) = ⊥
MovesNoEnd h = Unit {0}

unread : (h : ring.Happening) (line : Line) → MovesNoEnd h → MayShow h line → reads_at line ≡ 0
unread ring.FrontMoves line other shows = absurd other
unread ring.BackMoves line other shows = absurd other
unread (ring.JobMoves number outcome) line other shows = absurd other
unread h (Move (moves.Read who mapping frame word value)) other shows = absurd shows
unread h line other shows = refl

none_read : (ls : List Line) → AllByRecursion (λ (line : Line). reads_at line ≡ 0) ls → reads_of ls ≡ 0
none_read [] none = refl
none_read (line ∷ ls) none = let rest = none_read ls none.1 in let both = sum_by-cons reads_at line ls in omega (arith, none.0)

ring_few : (w : rings.World) (h : ring.Happening) → reads_of (ring.lines_at w h) ≤ tally_at h
ring_few w ring.FrontMoves = short_reads (ring.lines_at w ring.FrontMoves) (front_shows_few w (front_turn w))
ring_few w ring.BackMoves = short_reads (ring.lines_at w ring.BackMoves) (back_shows_few w (back_turn w Took))
ring_few w (ring.JobMoves number outcome) = let none = job_reads w number outcome (job_turn w number outcome) refl in omega arith
ring_few w h = let none = none_read (ring.lines_at w h) (lines_are (λ (line : Line). reads_at line ≡ 0) w h (λ line shows. unread h line tt shows)) in omega arith

ring_by : (hs : List ring.Happening) (w : rings.World) → reads_of (ring.lines_of hs w) ≤ tally_of hs
ring_by [] w = omega arith
ring_by (h ∷ hs) w =
    let one = ring_few w h in
    let rest = ring_by hs (ring.happens w h) in
    let both = sum_by-append reads_at (ring.lines_at w h) (ring.lines_of hs (ring.happens w h)) in
    let all = sum_by-cons tally_at h hs in
    omega arith

-- one happening of the machine is three of the ring's at most, of which one may be a move of the back
abbrev fetches_of : List ring.Happening → ℕ
fetches_of hs = sum_by fetches_at hs

record IsSmall (hs : List ring.Happening) : Type 0 where
  few : length hs ≤ 3
  fetches : fetches_of hs ≤ 1

-- a move of an end with the keys, and two more at most that fetch nothing
record IsShort (hs : List ring.Happening) : Type 0 where
  few : length hs ≤ 2
  none : fetches_of hs ≡ 0

states_fetch : (states : List FrontState) → fetches_of (map ring.FrontEnters states) ≡ 0
states_fetch [] = refl
states_fetch (s ∷ states) = let rest = states_fetch states in let both = sum_by-cons fetches_at (ring.FrontEnters s) (map ring.FrontEnters states) in omega arith

entered_few : (w : World) (act : Option FrontAct) → length (entered_at w act) ≤ 2
entered_few w None = omega arith
entered_few w (Some a) =
    let f : frontend.View = frontend_of w in
    by_both (frontend_step.offers_of (frontend_step.bus_after f a.answer)) (frontend_step.news_of f a.answer) (bus_asks.ask_of (frontend_step.bus_after f a.answer) (frontend.is_unoccupied f.ring)) (ring_order (frontend_step.bus_after f a.answer))
  where
    due_few : (ask : FrontBusAsk) (order : ℕ) → length (frontend_step.states_due ask order) ≤ 1
    due_few (front_ask.WriteRingWord word) order = omega arith
    due_few (front_ask.EndGrant page) order = omega arith
    due_few ask order = omega arith

    by_both : (offers : Offers) (news : Option FrontNews) (ask : FrontBusAsk) (order : ℕ) → length (frontend_step.states_entered offers news ask order) ≤ 2
    by_both offers None ask order = let few = due_few ask order in omega arith
    by_both offers (Some n) ask order = let few = due_few ask order in omega arith

enters_short : (speaks : Bool) (w : World) → IsShort (front_enters speaks w)
enters_short true w =
    let states : List FrontState = entered_at w (vbd_happening.front_turn w) in
    let few = entered_few w (vbd_happening.front_turn w) in
    let same = length-map states ring.FrontEnters in
    record { few = omega arith; none = states_fetch states }
enters_short false w = record { few = omega arith; none = refl }

reasons_short : (why : Option BackHalt) → IsShort (map ring.BackHalts (reasons_of why))
reasons_short None = record { few = omega arith; none = refl }
reasons_short (Some why) = record { few = omega arith; none = sum_by-cons fetches_at (ring.BackHalts (backend_step.ring_halt why)) [] }

halts_short : (speaks : Bool) (w : World) → IsShort (back_halts speaks w)
halts_short true w = by_act (vbd_happening.back_turn w)
  where
    by_act : (act : Option BackAct) → IsShort (map ring.BackHalts (halted_at w act))
    by_act None = record { few = omega arith; none = refl }
    by_act (Some a) = reasons_short (backend_step.halt_of (backend_of w) a.answer)
halts_short false w = record { few = omega arith; none = refl }

one_fetch : (h : ring.Happening) → fetches_at h ≤ 1
one_fetch ring.BackMoves = omega arith
one_fetch h = omega arith

alone_small : (h : ring.Happening) → IsSmall (h ∷ [])
alone_small h = let one = one_fetch h in let all = sum_by-cons fetches_at h [] in record { few = omega arith; fetches = omega arith }

with_small : (h : ring.Happening) (more : List ring.Happening) → IsShort more → IsSmall (h ∷ more)
with_small h more short =
    let few = short.few in
    let rest = short.none in
    let one = one_fetch h in
    let all = sum_by-cons fetches_at h more in
    record { few = omega arith; fetches = omega arith }

either_small : (b : Bool) (hs more : List ring.Happening) → IsSmall hs → IsSmall more → IsSmall (if b then hs else more)
either_small true hs more p q = p
either_small false hs more p q = q

negotiates_small : (attached : Bool) (w : World) (b : BackView) → IsSmall (back_negotiates attached w b)
negotiates_small true w b = alone_small (ring.BackAttaches (backend_step.shape_read b) b.grefs b.terms.port)
negotiates_small false w b =
    let a : BackBusAsk = back_asks.bus_ask_of (backend_of w) in
    with_small (ring.Negotiates end.Back (back_key a)) (back_halts (back_asks.bus_moves a w.rings.back.stage) w) (halts_short (back_asks.bus_moves a w.rings.back.stage) w)

closes_small : (at : End) → IsSmall (closes_does at)
closes_small end.Front = record { few = omega arith; fetches = omega arith }
closes_small end.Back = record { few = omega arith; fetches = omega arith }

small : (w : World) (h : Happening) → IsSmall (does w h)
small w FrontMoves =
    let a : FrontBusAsk = front_asks.bus_ask_of (frontend_of w) in
    either_small (is_fronts_ring w) (ring.FrontMoves ∷ []) (ring.Negotiates end.Front (front_key a) ∷ front_enters (front_asks.speaks a) w) (alone_small ring.FrontMoves)
    (with_small (ring.Negotiates end.Front (front_key a)) (front_enters (front_asks.speaks a) w) (enters_short (front_asks.speaks a) w))
small w BackMoves =
    let b : BackView = back_bus_after w (vbd_happening.back_turn w) in
    either_small (is_backs_ring w) (ring.BackMoves ∷ []) (back_negotiates (attaches w b) w b) (alone_small ring.BackMoves) (negotiates_small (attaches w b) w b)
small w (Closes at) = closes_small at
small w h = alone_small _

one_tally : (h : ring.Happening) → tally_at h ≤ 3
one_tally (ring.JobMoves number outcome) = omega arith
one_tally h = omega arith

tally_few : (hs : List ring.Happening) → tally_of hs ≤ 3 * length hs
tally_few [] = omega arith
tally_few (h ∷ hs) = let one = one_tally h in let rest = tally_few hs in let both = sum_by-cons tally_at h hs in omega arith

by_small : {hs : List ring.Happening} → IsSmall hs → (tally_of hs ≤ 9 * 1) × (fetches_of hs ≤ 1)
by_small {hs} s = let few = s.few in let tally = tally_few hs in (omega arith, s.fetches)

-- and of a move of a job none
does_few : (w : World) (h : Happening) → (tally_of (does w h) ≤ 9 * others_at h) × (fetches_of (does w h) ≤ others_at h)
does_few w (JobMoves number outcome) =
    let tally = sum_by-cons tally_at (ring.JobMoves number outcome) [] in
    let fetches = sum_by-cons fetches_at (ring.JobMoves number outcome) [] in
    (omega arith, omega arith)
does_few w h = by_small (small w h)

all_few : (hs : List Happening) (w : World) → (tally_of (all_does hs w) ≤ 9 * others_of hs) × (fetches_of (all_does hs w) ≤ others_of hs)
all_few [] w = (omega arith, omega arith)
all_few (h ∷ hs) w =
    let one = does_few w h in
    let tally = one.0 in
    let fetches = one.1 in
    let rest = all_few hs (happens w h) in
    let more_tally = rest.0 in
    let more_fetches = rest.1 in
    let others = sum_by-cons others_at h hs in
    let tallies = sum_by-append tally_at (does w h) (all_does hs (happens w h)) in
    let both = sum_by-append fetches_at (does w h) (all_does hs (happens w h)) in
    (omega arith, omega arith)

-- So there are numbers for all that happens.
cost_few : (h : ring.Happening) → cost_of h ≤ 41 * fetches_at h
cost_few ring.BackMoves = omega arith
cost_few h = omega arith

by_fetches : (hs : List ring.Happening) (n : ℕ) (w : rings.World) → mappings_in w ≤ 41 * n → w.back.fetched ≤ n → 41 * (n + fetches_of hs) + 1 < 2 ^ 64 → HaveNumbers hs w
by_fetches [] n w made fetched few = tt
by_fetches (h ∷ hs) n w made fetched few =
    let more = ring_left w h in
    let cost = cost_few h in
    let later = fetched_happens w h in
    let all = sum_by-cons fetches_at h hs in
    ((omega arith, omega arith), by_fetches hs (n + fetches_at h) (ring.happens w h) (omega arith) (omega arith) (omega arith))

-- what a history of few happenings comes to
pub record IsBrief (config : Options) (detail : Detail) (history : List ring.Happening) : Type 0 where
  pub numbers : HaveNumbers history (rings.start_of config)
  pub reads : reads_of (ring_report.report_of config detail history) < 2 ^ 64

brief_by : (config : Options) (detail : Detail) (history : List Happening) → others_of history ≤ most_others * 10 ^ 9 + most_others → IsBrief config detail (all_does history (start_of config))
brief_by config detail history few =
    let does = all_does history (start_of config) in
    let both = all_few history (start_of config) in
    let tally = both.0 in
    let fetches = both.1 in
    let lines = ring_by does (rings.start_of config) in
    let first = sum_by-cons reads_at (Begin config detail) (ring.lines_of does (rings.start_of config)) in
    record { numbers = by_fetches does 0 (rings.start_of config) (omega arith) (omega arith) (omega arith); reads = omega arith }

-- the history of 10^9 events is one
pub events_brief : (config : Options) (detail : Detail) (es : List Event) (history : List Happening) → IsPlain config → AreOfAll es (start_of config) history → length es ≤ 10 ^ 9 → IsBrief config detail (all_does history (start_of config))
events_brief config detail es history plain are few = let all = events_few config [] es history plain are in brief_by config detail history (omega arith)

-- and so it is with one more, as far as it came
pub events_so_far_brief : (config : Options) (detail : Detail) (es : List Event) (e : Event) (first more : List Happening) → IsPlain config → AreOfAll es (start_of config) first → AreOfSoFar e (after first (start_of config)) more → length es ≤ 10 ^ 9 → IsBrief config detail (all_does (first ++ more) (start_of config))
events_so_far_brief config detail es e first more plain are far few =
    let all = events_few config [] es first plain are in
    let last = event_so_far_few config first e more plain far in
    let both = sum_by-append others_at first more in
    brief_by config detail (first ++ more) (omega arith)

-- the first of what happened
numbers_first : (first rest : List ring.Happening) (w : rings.World) → HaveNumbers (first ++ rest) w → HaveNumbers first w
numbers_first [] rest w h = tt
numbers_first (x ∷ first) rest w h = (h.0, numbers_first first rest (ring.happens w x) h.1)

pub brief_first : (config : Options) (detail : Detail) (first rest : List ring.Happening) → IsBrief config detail (first ++ rest) → IsBrief config detail first
brief_first config detail first rest h =
    let start : rings.World = rings.start_of config in
    let one = sum_by-cons reads_at (Begin config detail) (ring.lines_of first start) in
    let both = sum_by-cons reads_at (Begin config detail) (ring.lines_of (first ++ rest) start) in
    let lines = ap reads_of (ring_running.lines_of-append first rest start) ∙ sum_by-append reads_at (ring.lines_of first start) (ring.lines_of rest (ring.after first start)) in
    let reads = h.reads in
    record { numbers = numbers_first first rest start h.numbers; reads = omega arith }
