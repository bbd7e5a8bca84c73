-- Where `closing` stands in the lines of an event.
use Rattle.std.proofs.Common.{◌≡◌, ℕ, ◌≤◌, Bool, true, false, true≢false, not, ◌&&◌, ◌||◌, ◌⊎◌, inl, inr, if◌then◌else◌, List, [], ◌∷◌, ◌++◌, refl, ap, sym, ◌∙◌, subst}
use Rattle.std.specs.Prelude.{Option, Some, None}
use Rattle.std.specs.List.{AllByRecursion, list_any}
use Rattle.std.specs.Str.{bytes_eq}
use Rattle.std.proofs.lemmas.List.Folds.{list_any-append}
use Rattle.std.proofs.lemmas.Bool.{or_parts}
use Rattle.std.proofs.Math.Bool.{or-false}
use Rattle.blk_base.specs.Options.{Options}
use Rattle.blk_base.specs.declared.parts.End.TheVariants as end
use Rattle.blk_base.specs.declared.moves.Move.{Move}
use Rattle.blk_base.specs.declared.moves.Mover.TheVariants as mover
use Rattle.blk_base.specs.declared.moves.Move.TheVariants as moves
use Rattle.schedule_text.specs.declared.event.Event.{Event}
use Rattle.schedule_text.specs.declared.event.Event.TheVariants as events
use Rattle.schedule_text.specs.declared.line.Detail.{Detail}
use Rattle.schedule_text.specs.declared.line.Detail.TheVariants.{Lines, Moves}
use Rattle.schedule_text.specs.declared.line.Line.{Line}
use Rattle.schedule_text.specs.declared.line.Line.TheVariants as lines
use Rattle.schedule_text.specs.Recorder.{kept_of}
use Rattle.hypervisor.specs.Act.{FrontAct}
use Rattle.blk_front.specs.declared.told.Told.{Told}
use Rattle.blk_front.specs.declared.told.Told.TheVariants as front_told
use Rattle.blk_front.specs.State.{is_open}
use Rattle.xenbus_state.specs.declared.front.FrontNews.{FrontNews}
use Rattle.negotiation_laws.specs.Negotiation.{back_state}
use Rattle.split_model.specs.Shown.{front_lines}
use Rattle.split_model.specs.World as rings
use Rattle.report_laws.specs.Ready.{says_over}
use Rattle.report_laws.proofs.Gone.{report_over}
use Rattle.vbd_front.specs.View as front_view
use Rattle.vbd_front.specs.Step as front_step
use Rattle.vbd_model.specs.World.{World, start_of, frontend_of}
use Rattle.vbd_model.specs.Happening.{Happening, FrontMoves, Closes, all_does, front_turn, happens, lines_at, lines_of, after}
use Rattle.vbd_model.specs.News.{news_lines}
use Rattle.vbd_model.specs.Fit.{IsFit}
use Rattle.vbd_model.specs.Kind.{Makes}
use Rattle.vbd_model.specs.Report.{report_of}
use Rattle.vbd_model.proofs.Running.{after_rings, lines_lift, report_lift}
use Rattle.vbd_laws.specs.Halts.{state_said}
use Rattle.vbd_laws.specs.Moves.{IsFrontMove, IsNoMove}
use Rattle.vbd_laws.specs.StateLines.{StateDue, NoState, state_due, read_due, move_due, due_after, is_closing, StateSight, new_front, from, BeginsToClose, ClosingComes}
use Rattle.vbd_laws.specs.StateLines as states
use Rattle.vbd_laws.proofs.Fit.{fit_start, fit_happens, fit_after}
use Rattle.vbd_laws.proofs.MovesFront.{front_move_is, front_move_none}
use Rattle.vbd_laws.proofs.StateLines.{comes}
use Rattle.vbd_laws.proofs.StateLinesBegun.{begun}
use Rattle.vbd_laws.proofs.StateLinesMoves.{Tells, front_tells}
use Rattle.event_laws.specs.Closing.{AreDue, is_past, ClosingStands}
use Rattle.event_laws.proofs.Made.{MayMake, moves_front, is_front_close, made_all}

-- what a recorder leaves out or rewrites is neither
kept_any : (test : Line → Bool) (detail : Detail) (ls : List Line) → ((config : Options) (word : Detail) → test (lines.Begin config word) ≡ false) → ((move : Move) → test (lines.Move move) ≡ false)
    → list_any test (kept_of detail ls) ≡ list_any test ls
kept_any test detail [] begins moves_so = refl
kept_any test detail (lines.Begin config word ∷ ls) begins moves_so =
    ap (λ (b : Bool). b || list_any test (kept_of detail ls)) (begins config detail ∙ sym (begins config word)) ∙ ap (λ (b : Bool). test (lines.Begin config word) || b) (kept_any test detail ls begins moves_so)
kept_any test Lines (lines.Move move ∷ ls) begins moves_so = kept_any test Lines ls begins moves_so ∙ ap (λ (b : Bool). b || list_any test ls) (sym (moves_so move))
kept_any test detail (line ∷ ls) begins moves_so = ap (λ (b : Bool). test line || b) (kept_any test detail ls begins moves_so)

pub kept_closing : (detail : Detail) (ls : List Line) → list_any is_closing (kept_of detail ls) ≡ list_any is_closing ls
kept_closing detail ls = kept_any is_closing detail ls (λ config word. refl) (λ move. refl)

kept_due : (due : StateDue) (ls : List Line) → AreDue due ls → AreDue due (kept_of Moves ls)
kept_due due [] all = tt
kept_due due (lines.Begin config word ∷ ls) all = (λ is. absurd (true≢false (sym is)), kept_due NoState ls all.1)
kept_due due (line ∷ ls) all = (all.0, kept_due (due_after false line) ls all.1)

-- lines of which none is `closing`
none_due : (due : StateDue) (ls : List Line) → list_any is_closing ls ≡ false → AreDue due ls
none_due due [] none = tt
none_due due (line ∷ ls) none =
    let both = or_parts (is_closing line) (list_any is_closing ls) none in (λ is. absurd (true≢false (sym is ∙ both.0)), none_due (due_after false line) ls both.1)

due_on : (due : StateDue) (a b : List Line) → AreDue due a → ((d : StateDue) → AreDue d b) → AreDue due (a ++ b)
due_on due [] b first rest = rest due
due_on due (line ∷ a) b first rest = (first.0, due_on (due_after false line) a b first.1 rest)

-- a read by which a front that has begun would begin is none
begun_reads : (said : Option ℕ) → BeginsToClose (state_due true said) → ⊥
begun_reads None begins = begins
begun_reads (Some s) begins = begins

begins_first : (b : Bool) (m : Move) → BeginsToClose (move_due b m) → BeginsToClose (move_due false m)
begins_first false m begins = begins
begins_first true (moves.GetKey mover.Front path text) begins = absurd (by_path (bytes_eq path back_state) begins)
  where
    by_path : (c : Bool) → BeginsToClose (if c then state_due true (state_said text) else NoState) → ⊥
    by_path true is = begun_reads (state_said text) is
    by_path false is = is
begins_first true (moves.SetKey mover.Front path text) begins = begins
begins_first true m begins = absurd begins

-- what the front tells after a move of its
news_due : (due : StateDue) (n : Option FrontNews) → (list_any is_closing (news_lines n) ≡ true → BeginsToClose due) → AreDue due (news_lines n)
news_due due None begins = tt
news_due due (Some n) begins = (λ is. begins (ap (λ (b : Bool). b || false) is), tt)

told_none : (t : Option Told) → list_any is_closing (front_lines t ++ []) ≡ false
told_none None = refl
told_none (Some (front_told.Answer id status)) = refl
told_none (Some (front_told.Sector id index words)) = refl
told_none (Some (front_told.Broken word)) = refl

tells_due : (b opened : Bool) (shown : Move) (x : front_view.View) → Tells b opened shown x → (list_any is_closing (front_lines x.ring.told ++ news_lines x.news) ≡ true → BeginsToClose (move_due false shown))
    → AreDue (move_due false shown) (front_lines x.ring.told ++ news_lines x.news)
tells_due b opened shown x tells begins = by_alone tells.alone
  where
    by_alone : (x.ring.told ≡ None) ⊎ ((move_due b shown ≡ NoState) × (x.news ≡ None)) → AreDue (move_due false shown) (front_lines x.ring.told ++ news_lines x.news)
    by_alone (inl silent) =
        subst (λ (t : Option Told). AreDue (move_due false shown) (front_lines t ++ news_lines x.news)) (sym silent)
        (news_due (move_due false shown) x.news (λ is. begins (ap (λ (t : Option Told). list_any is_closing (front_lines t ++ news_lines x.news)) silent ∙ is)))
    by_alone (inr quiet) = subst (λ (n : Option FrontNews). AreDue (move_due false shown) (front_lines x.ring.told ++ news_lines n)) (sym quiet.1) (none_due (move_due false shown) (front_lines x.ring.told ++ []) (told_none x.ring.told))

-- each happening, whatever the lines before it
come : (w : World) (h : Happening) → IsFit w → ClosingComes w.rings.front.closing w h (lines_at w h)
come w h fit = comes (record { begun = w.rings.front.closing; over = false; due = NoState }) w h fit (record { begun = refl; over = λ over. absurd (true≢false (sym over)); due = refl })

front_due : (w : World) (act : Option FrontAct) → IsFit w → front_turn w ≡ act → (due : StateDue) → AreDue due (lines_at w FrontMoves)
front_due w None fit e due = let is : IsNoMove w FrontMoves = front_move_none w fit e in subst (AreDue due) (sym is.lines) tt
front_due w (Some a) fit e due =
    let is : IsFrontMove w a = front_move_is w a fit e in
    let x : front_view.View = front_step.step_of (frontend_of w) a.answer in
    let more : List Line = front_lines x.ring.told ++ news_lines x.news in
    let after_it : AreDue (move_due false a.shown) more =
    tells_due w.rings.front.closing (is_open w.rings.front.stage) a.shown x (front_tells w.rings.front.closing w a fit refl e) (λ has. begins_first w.rings.front.closing a.shown (come w FrontMoves fit a.shown more is.lines has)) in
    subst (AreDue due) (sym is.lines) (λ no_line. absurd (true≢false (sym no_line)), after_it)

one_due : (e : Event) (w : World) (h : Happening) → IsFit w → is_front_close e ≡ false → MayMake e h → (due : StateDue) → AreDue due (lines_at w h)
one_due e w FrontMoves fit unasked may due = front_due w (front_turn w) fit refl due
one_due e w (Closes end.Front) fit unasked may due = absurd (true≢false (sym may ∙ unasked))
one_due e w h fit unasked may due = none_due due (lines_at w h) (come w h fit)

all_due : (e : Event) (w : World) (hs : List Happening) → IsFit w → is_front_close e ≡ false → AllByRecursion (MayMake e) hs → (due : StateDue) → AreDue due (lines_of hs w)
all_due e w [] fit unasked may due = tt
all_due e w (h ∷ hs) fit unasked may due = due_on due (lines_at w h) (lines_of hs (happens w h)) (one_due e w h fit unasked may.0 due) (all_due e (happens w h) hs (fit_happens w h fit) unasked may.1)

-- an event that neither moves the front nor asks it to close
one_none : (e : Event) (w : World) (h : Happening) → IsFit w → moves_front e ≡ false → is_front_close e ≡ false → MayMake e h → list_any is_closing (lines_at w h) ≡ false
one_none e w FrontMoves fit still unasked may = absurd (true≢false (sym may ∙ still))
one_none e w (Closes end.Front) fit still unasked may = absurd (true≢false (sym may ∙ unasked))
one_none e w h fit still unasked may = come w h fit

all_none : (e : Event) (w : World) (hs : List Happening) → IsFit w → moves_front e ≡ false → is_front_close e ≡ false → AllByRecursion (MayMake e) hs → list_any is_closing (lines_of hs w) ≡ false
all_none e w [] fit still unasked may = refl
all_none e w (h ∷ hs) fit still unasked may =
    list_any-append is_closing (lines_at w h) (lines_of hs (happens w h))
    ∙ (ap (λ (b : Bool). b || list_any is_closing (lines_of hs (happens w h))) (one_none e w h fit still unasked may.0) ∙ all_none e (happens w h) hs (fit_happens w h fit) still unasked may.1)

-- what the lines say of the front is what the machine knows
turned : (a b c : Bool) → (b || (a || c)) ≡ ((a || b) || c)
turned true true c = refl
turned true false c = refl
turned false b c = refl

pub begun_shown : (k : StateSight) (ls : List Line) → (from k ls).begun ≡ (list_any is_closing ls || k.begun)
begun_shown k [] = refl
begun_shown k (line ∷ ls) = begun_shown (states.after k line) ls ∙ turned (is_closing line) (list_any is_closing ls) k.begun

closing_said : (config : Options) (detail : Detail) (h0 : List Happening) → list_any is_closing (kept_of detail (report_of config detail h0)) ≡ (let v : World = after h0 (start_of config) in v.rings.front.closing)
closing_said config detail h0 =
    let start : World = start_of config in
    let does = all_does h0 start in
    kept_closing detail (report_of config detail h0)
    ∙ (sym (or-false (list_any is_closing (lines_of h0 start)))
    ∙ (sym (begun_shown new_front (lines_of h0 start))
    ∙ (ap (λ (ls : List Line). (from new_front ls).begun) (lines_lift h0 start)
    ∙ (begun does new_front start.rings refl ∙ ap (λ (r : rings.World). r.front.closing) (sym (after_rings h0 start))))))

over_said : (config : Options) (detail : Detail) (h0 : List Happening) → list_any says_over (kept_of detail (report_of config detail h0)) ≡ not (is_open (let v : World = after h0 (start_of config) in v.rings.front.stage))
over_said config detail h0 =
    kept_any says_over detail (report_of config detail h0) (λ c word. refl) (λ move. refl)
    ∙ (ap (list_any says_over) (report_lift config detail h0)
    ∙ (report_over config detail (all_does h0 (start_of config)) ∙ ap (λ (r : rings.World). not (is_open r.front.stage)) (sym (after_rings h0 (start_of config)))))

-- the front is asked to close
asked_lines : (detail : Detail) (a b : Bool) → kept_of detail ((if not a && b then lines.Closing ∷ [] else []) ++ []) ≡ (if a || not b then [] else lines.Closing ∷ [])
asked_lines detail true b = refl
asked_lines Lines false true = refl
asked_lines Moves false true = refl
asked_lines detail false false = refl

close_stands : (config : Options) (detail : Detail) (h0 : List Happening) (w : World) → IsFit w → after h0 (start_of config) ≡ w
    → kept_of detail (lines_of (Closes end.Front ∷ []) w) ≡ (if is_past (kept_of detail (report_of config detail h0)) then [] else lines.Closing ∷ [])
close_stands config detail h0 w fit at =
    let report = kept_of detail (report_of config detail h0) in
    let closing : list_any is_closing report ≡ w.rings.front.closing = closing_said config detail h0 ∙ ap (λ (x : World). x.rings.front.closing) at in
    let over : list_any says_over report ≡ not (is_open w.rings.front.stage) = over_said config detail h0 ∙ ap (λ (x : World). not (is_open x.rings.front.stage)) at in
    ap (λ (ls : List Line). kept_of detail (ls ++ [])) (come w (Closes end.Front) fit)
    ∙ (asked_lines detail w.rings.front.closing (is_open w.rings.front.stage)
    ∙ (ap (λ (b : Bool). if b || not (is_open w.rings.front.stage) then [] else lines.Closing ∷ []) (sym closing)
    ∙ ap (λ (b : Bool). if list_any is_closing report || b then [] else lines.Closing ∷ []) (sym over)))

moved_due : (detail : Detail) (e : Event) (w : World) (hs : List Happening) → IsFit w → is_front_close e ≡ false → Makes e w hs → detail ≡ Moves → AreDue NoState (kept_of detail (lines_of hs w))
moved_due detail e w hs fit unasked made same = subst (λ (d : Detail). AreDue NoState (kept_of d (lines_of hs w))) (sym same) (kept_due NoState (lines_of hs w) (all_due e w hs fit unasked (made_all e w hs made) NoState))

by_event : (config : Options) (detail : Detail) (e : Event) (h0 : List Happening) (w : World) (hs : List Happening) → IsFit w → after h0 (start_of config) ≡ w → Makes e w hs
    → ClosingStands detail (kept_of detail (report_of config detail h0)) e (kept_of detail (lines_of hs w))
by_event config detail (events.Close end.Front) h0 w hs fit at made =
    ap (λ (l : List Happening). kept_of detail (lines_of l w)) made ∙ close_stands config detail h0 w fit at
by_event config detail (events.Front n) h0 w hs fit at made = moved_due detail (events.Front n) w hs fit refl made
by_event config detail (events.Turn n) h0 w hs fit at made = moved_due detail (events.Turn n) w hs fit refl made
by_event config detail events.Settle h0 w hs fit at made = moved_due detail events.Settle w hs fit refl made
by_event config detail e h0 w hs fit at made = kept_closing detail (lines_of hs w) ∙ all_none e w hs fit refl refl (made_all e w hs made)

pub part_closing : (config : Options) (detail : Detail) (e : Event) (h0 : List Happening) (w : World) (hs : List Happening) → config.indirect ≤ 960 → after h0 (start_of config) ≡ w → Makes e w hs
    → ClosingStands detail (kept_of detail (report_of config detail h0)) e (kept_of detail (lines_of hs w))
part_closing config detail e h0 w hs few at made = by_event config detail e h0 w hs (subst IsFit at (fit_after h0 (start_of config) (fit_start config few))) at made
