-- What happens echoes the schedule: an event's lines of the kinds that echo are those that answer it.
use Rattle.std.proofs.Common.{◌≡◌, ℕ, zero, suc, ◌≤◌, List, [], ◌∷◌, ◌++◌, Bool, true, false, if◌then◌else◌, refl, ap, sym, ◌∙◌, subst, arith}
use Rattle.std.specs.Prelude.{◌*◌, ◌^◌, map, replicate}
use Rattle.std.specs.List.{AllByRecursion}
use Rattle.blk_base.specs.declared.parts.End.TheVariants as end
use Rattle.blk_front.specs.Submit as front_submit
use Rattle.schedule_text.specs.declared.event.Event.{Event}
use Rattle.schedule_text.specs.Event.{is_event_allowed}
use Rattle.schedule_text.specs.declared.event.Event.TheVariants as events
use Rattle.schedule_text.specs.declared.line.Line.{Line}
use Rattle.schedule_text.specs.declared.line.Line.TheVariants as lines
use Rattle.plain_disk.specs.Echo.{Answers, AnswersAll, AnswersSettle, AnswersLook, AreRingWords}
use Rattle.blk_front.specs.declared.state.FrontState.{FrontState}
use Rattle.blk_base.specs.declared.halt.Halt.{Halt}
use Rattle.split_model.specs.Happening as ring
use Rattle.split_model.proofs.Echo.{echo_of, echo-append, is_move as is_ring_move, moves_silent as ring_moves_silent, are_moves-append as ring_moves-append, submit_answers, poke_echo, dump_answers, overwritten_echo, suspend_echo}
use Rattle.xenbus_state.specs.BackView.{BackView}
use Rattle.vbd_front.specs.Ask as front
use Rattle.vbd_back.specs.Ask as back
use Rattle.vbd_model.specs.World.{World, is_quiet, frontend_of, backend_of}
use Rattle.vbd_model.specs.Happening.{Happening, FrontMoves, BackMoves, Closes, Submits, Pokes, OverwritesKey, Suspends, Dumps, Looks, Settles, front_key, entered_at, halted_at, front_enters, back_halts, back_negotiates, back_bus_after, attaches, front_turn, back_turn, is_fronts_ring, is_backs_ring, does, happens, after, lines_of, all_does}
use Rattle.vbd_model.specs.Kind.{Makes, AreOf, AreOfAll, AreJobMoves, AreEachJobs, round_start, IsRound, AreRounds, never}
use Rattle.split_model.specs.World as rings
use Rattle.split_model.proofs.Narrow.{after_narrow}
use Rattle.vbd_model.proofs.Running.{lines_of-append, lines_lift, after_rings}
pub use Rattle.split_model.proofs.Echo.{echo_of, kept_echo}

-- no submission, no word or key that is overwritten, no suspend, and no look
abbrev pub is_move : Happening → Bool
is_move (Submits job) = false
is_move (Pokes frame word value) = false
is_move (OverwritesKey name text) = false
is_move Suspends = false
is_move Dumps = false
is_move (Looks quiet) = false
is_move (Settles quiet) = false
is_move h = true

-- what a move is to the ring's machine are moves too
abbrev AreRingMoves : List ring.Happening → Type 0
AreRingMoves hs = AllByRecursion (λ (x : ring.Happening). is_ring_move x ≡ true) hs

states_move : (states : List FrontState) → AreRingMoves (map ring.FrontEnters states)
states_move [] = tt
states_move (s ∷ states) = (refl, states_move states)

halts_move : (reasons : List Halt) → AreRingMoves (map ring.BackHalts reasons)
halts_move [] = tt
halts_move (why ∷ reasons) = (refl, halts_move reasons)

enters_move : (speaks : Bool) (w : World) → AreRingMoves (front_enters speaks w)
enters_move true w = states_move (entered_at w (front_turn w))
enters_move false w = tt

halting_moves : (speaks : Bool) (w : World) → AreRingMoves (back_halts speaks w)
halting_moves true w = halts_move (halted_at w (back_turn w))
halting_moves false w = tt

front_does_moves : (ringed speaks : Bool) (w : World) → AreRingMoves (if ringed then ring.FrontMoves ∷ [] else ring.Negotiates end.Front (front_key (front.bus_ask_of (frontend_of w))) ∷ front_enters speaks w)
front_does_moves true speaks w = (refl, tt)
front_does_moves false speaks w = (refl, enters_move speaks w)

back_does_moves : (ringed attached : Bool) (w : World) (b : BackView) → AreRingMoves (if ringed then ring.BackMoves ∷ [] else back_negotiates attached w b)
back_does_moves true attached w b = (refl, tt)
back_does_moves false true w b = (refl, tt)
back_does_moves false false w b = (refl, halting_moves (back.bus_moves (back.bus_ask_of (backend_of w)) w.rings.back.stage) w)

does_moves : (w : World) (h : Happening) → is_move h ≡ true → AreRingMoves (does w h)
does_moves w FrontMoves m = front_does_moves (is_fronts_ring w) (front.speaks (front.bus_ask_of (frontend_of w))) w
does_moves w BackMoves m = let b : BackView = back_bus_after w (back_turn w) in back_does_moves (is_backs_ring w) (attaches w b) w b
does_moves w (Closes end.Front) m = (refl, tt)
does_moves w (Closes end.Back) m = tt
does_moves w h m = (m, tt)

pub all_do_moves : (hs : List Happening) (w : World) → AllByRecursion (λ (h : Happening). is_move h ≡ true) hs → AllByRecursion (λ (x : ring.Happening). is_ring_move x ≡ true) (all_does hs w)
all_do_moves [] w m = tt
all_do_moves (h ∷ hs) w m = ring_moves-append (does w h) (all_does hs (happens w h)) (does_moves w h m.0) (all_do_moves hs (happens w h) m.1)

-- moves show no line that echoes
pub moves_silent : (hs : List Happening) (w : World) → AllByRecursion (λ (h : Happening). is_move h ≡ true) hs → echo_of (lines_of hs w) ≡ []
moves_silent hs w m = ap echo_of (lines_lift hs w) ∙ ring_moves_silent (all_does hs w) w.rings (all_do_moves hs w m)

pub are_moves-append : (a b : List Happening) → AllByRecursion (λ (h : Happening). is_move h ≡ true) a → AllByRecursion (λ (h : Happening). is_move h ≡ true) b → AllByRecursion (λ (h : Happening). is_move h ≡ true) (a ++ b)
are_moves-append [] b p q = q
are_moves-append (h ∷ a) b p q = (p.0, are_moves-append a b p.1 q)

repeated : (n : ℕ) (h : Happening) → is_move h ≡ true → AllByRecursion (λ (x : Happening). is_move x ≡ true) (replicate n h)
repeated zero h m = tt
repeated (suc n) h m = (m, repeated n h m)

pub front_are_moves : (n : ℕ) → AllByRecursion (λ (h : Happening). is_move h ≡ true) (replicate n FrontMoves)
front_are_moves n = repeated n FrontMoves refl

pub back_are_moves : (n : ℕ) → AllByRecursion (λ (h : Happening). is_move h ≡ true) (replicate n BackMoves)
back_are_moves n = repeated n BackMoves refl

pub job_are_moves : (number : ℕ) (hs : List Happening) → AreJobMoves number hs → AllByRecursion (λ (h : Happening). is_move h ≡ true) hs
job_are_moves number [] j = tt
job_are_moves number (h ∷ hs) j = (ap is_move j.1, job_are_moves number hs j.3)

pub each_are_moves : (from to : ℕ) (w : World) (hs : List Happening) → AreEachJobs from to w hs → AllByRecursion (λ (h : Happening). is_move h ≡ true) hs
each_are_moves from to w [] j = tt
each_are_moves from to w (h ∷ hs) j = (ap is_move j.2, each_are_moves j.0 to (happens w h) hs j.5)

pub start_are_moves : AllByRecursion (λ (h : Happening). is_move h ≡ true) round_start
start_are_moves = (refl, (refl, tt))

pub round_are_moves : (w : World) (hs : List Happening) → IsRound w hs → AllByRecursion (λ (h : Happening). is_move h ≡ true) hs
round_are_moves w hs r =
    subst (λ (l : List Happening). AllByRecursion (λ (h : Happening). is_move h ≡ true) l) (sym r.all)
    (are_moves-append round_start r.jobs start_are_moves (each_are_moves 0 r.are_jobs.to (after round_start w) r.jobs r.are_jobs.each))

pub rounds_are_moves : (test : World → Bool) (n : ℕ) (w : World) (hs : List Happening) → AreRounds test n w hs → AllByRecursion (λ (h : Happening). is_move h ≡ true) hs
rounds_are_moves test zero w hs r = subst (λ (l : List Happening). AllByRecursion (λ (h : Happening). is_move h ≡ true) l) (sym r) tt
rounds_are_moves test (suc n) w hs r =
    let p = r.1 in
    subst (λ (l : List Happening). AllByRecursion (λ (h : Happening). is_move h ≡ true) l) (sym p.2) (are_moves-append p.0 p.1 (round_are_moves w p.0 p.3) (rounds_are_moves test n (after p.0 w) p.1 p.4))

look_answers : (quiet : Bool) → (line : Line) × (echo_of ((if quiet then lines.Quiet else lines.Busy) ∷ []) ≡ line ∷ []) × AnswersLook line
look_answers true = (lines.Quiet, refl, tt)
look_answers false = (lines.Busy, refl, tt)

settle_answers : (quiet : Bool) → (line : Line) × (echo_of ((if quiet then lines.Quiet else lines.Unsettled) ∷ []) ≡ line ∷ []) × AnswersSettle line
settle_answers true = (lines.Quiet, refl, tt)
settle_answers false = (lines.Unsettled, refl, tt)

settle_echo : (w : World) (rounds : List Happening) (quiet : Bool) → AllByRecursion (λ (h : Happening). is_move h ≡ true) rounds → echo_of (lines_of (rounds ++ Settles quiet ∷ []) w) ≡ echo_of ((if quiet then lines.Quiet else lines.Unsettled) ∷ [])
settle_echo w rounds quiet m =
    ap echo_of (lines_of-append rounds (Settles quiet ∷ []) w)
    ∙ (echo-append (lines_of rounds w) (lines_of (Settles quiet ∷ []) (after rounds w))
    ∙ (ap (λ (l : List Line). l ++ echo_of (lines_of (Settles quiet ∷ []) (after rounds w))) (moves_silent rounds w m)))

-- one thing that happens shows what it shows of the ring's machine
shows_same : (w : World) (h : Happening) (x : ring.Happening) (hs : List Happening) → does w h ≡ x ∷ [] → hs ≡ h ∷ [] → lines_of hs w ≡ ring.lines_of (x ∷ []) w.rings
shows_same w h x hs same all = ap (λ (l : List Happening). lines_of l w) all ∙ (lines_lift (h ∷ []) w ∙ ap (λ (l : List ring.Happening). ring.lines_of (l ++ []) w.rings) same)

-- the lines of an event that echo are those that answer it
made_echo : (order : ℕ) (e : Event) (w : World) (hs : List Happening) → (let v : rings.World = w.rings in v.front.shape.order) ≤ order → is_event_allowed e ≡ true → Makes e w hs → Answers order e (echo_of (lines_of hs w))
made_echo order (events.Submit job) w hs narrow c k =
    let a = submit_answers job (front_submit.submit_of w.rings.front job).0 in
    (a.0, ap echo_of (shows_same w (Submits job) (ring.Submits job) hs refl k.0) ∙ a.1, a.2)
made_echo order (events.Front n) w hs narrow c k = ap (λ (l : List Happening). echo_of (lines_of l w)) k ∙ moves_silent (replicate n FrontMoves) w (front_are_moves n)
made_echo order (events.Back n) w hs narrow c k = ap (λ (l : List Happening). echo_of (lines_of l w)) k ∙ moves_silent (replicate n BackMoves) w (back_are_moves n)
made_echo order (events.Job number n) w hs narrow c k = moves_silent hs w (job_are_moves number hs k.0)
made_echo order (events.Turn n) w hs narrow c k = moves_silent hs w (rounds_are_moves never n w hs k)
made_echo order events.Settle w hs narrow c k =
    let a = settle_answers (is_quiet (after k.rounds w)) in
    (a.0, ap (λ (l : List Happening). echo_of (lines_of l w)) k.all ∙ (settle_echo w k.rounds (is_quiet (after k.rounds w)) (rounds_are_moves is_quiet k.are_rounds.count w k.rounds k.are_rounds.are_rounds) ∙ a.1), a.2)
made_echo order events.Look w hs narrow c k =
    let a = look_answers (is_quiet w) in
    (a.0, ap (λ (l : List Happening). echo_of (lines_of l w)) k ∙ a.1, a.2)
made_echo order events.Suspend w hs narrow c k = ap echo_of (shows_same w Suspends ring.Suspends hs refl k.0) ∙ suspend_echo w.rings k.1
made_echo order (events.Close at) w hs narrow c k = ap (λ (l : List Happening). echo_of (lines_of l w)) k ∙ moves_silent (Closes at ∷ []) w (refl, tt)
made_echo order (events.Poke frame word value) w hs narrow c k = ap echo_of (shows_same w (Pokes frame word value) (ring.Pokes frame word value) hs refl k.0) ∙ poke_echo w.rings frame word value c
made_echo order (events.Key name text) w hs narrow c k = ap echo_of (shows_same w (OverwritesKey name text) (ring.OverwritesKey name text) hs refl k) ∙ overwritten_echo w.rings name text c
made_echo order events.Dump w hs narrow c k =
    subst (AreRingWords 0 (1024 * 2 ^ order)) (sym (ap echo_of (shows_same w Dumps ring.Dumps hs refl k))) (dump_answers order w.rings narrow)
made_echo order e w hs narrow c k = ap (λ (l : List Happening). echo_of (lines_of l w)) k

pub event_echo : (order : ℕ) (e : Event) (w : World) (hs : List Happening) → (let v : rings.World = w.rings in v.front.shape.order) ≤ order → AreOf e w hs → Answers order e (echo_of (lines_of hs w))
event_echo order e w hs narrow k = made_echo order e w hs narrow k.0 k.1

-- the front's ring gets no more pages
narrow_after : (order : ℕ) (hs : List Happening) (w : World) → (let v : rings.World = w.rings in v.front.shape.order) ≤ order → (let v : World = after hs w in v.rings.front.shape.order) ≤ order
narrow_after order hs w narrow =
    let less = after_narrow (all_does hs w) w.rings in
    subst (λ (r : rings.World). r.front.shape.order ≤ order) (sym (after_rings hs w)) (omega (arith, less, narrow))

-- what the events make happen answers them, one after another
pub schedule_echo : (order : ℕ) (es : List Event) (w : World) (hs : List Happening) → (let v : rings.World = w.rings in v.front.shape.order) ≤ order → AreOfAll es w hs → AnswersAll order es (echo_of (lines_of hs w))
schedule_echo order [] w hs narrow k = ap (λ (l : List Happening). echo_of (lines_of l w)) k
schedule_echo order (e ∷ es) w hs narrow k = (
  echo_of (lines_of k.0 w),
  echo_of (lines_of k.1 (after k.0 w)),
  ap (λ (l : List Happening). echo_of (lines_of l w)) k.2 ∙ (ap echo_of (lines_of-append k.0 k.1 w) ∙ echo-append (lines_of k.0 w) (lines_of k.1 (after k.0 w))),
  event_echo order e w k.0 narrow k.3,
  schedule_echo order es (after k.0 w) k.1 (narrow_after order k.0 w narrow) k.4,
)
