-- Whatever happens, each line of the front's state stands where it is due.
use Rattle.std.proofs.Common.{◌≡◌, ℕ, ◌≤◌, Bool, true, false, true≢false, not, ◌&&◌, if◌then◌else◌, List, [], ◌∷◌, ◌++◌, refl, sym, ap, ◌∙◌, subst, append_assoc, append-nil}
use Rattle.std.specs.Prelude.{Option, Some, None}
use Rattle.std.specs.List.{AllByRecursion, list_any}
use Rattle.blk_base.specs.Options.{Options}
use Rattle.blk_base.specs.declared.parts.End.TheVariants as end
use Rattle.blk_base.specs.declared.ask.BackAsk.{BackAsk}
use Rattle.blk_base.specs.declared.moves.BackMover.{BackMover}
use Rattle.blk_base.specs.declared.moves.BackMover.TheVariants as back_mover
use Rattle.blk_base.specs.declared.moves.Move.{Move}
use Rattle.schedule_text.specs.declared.line.Detail.TheVariants.{Moves}
use Rattle.schedule_text.specs.declared.line.Line.{Line}
use Rattle.schedule_text.specs.declared.line.Line.TheVariants as lines
use Rattle.hypervisor.specs.Hypervisor.{Hypervisor}
use Rattle.hypervisor.specs.Act.{FrontAct, BackAct, Outcome, Took, back_act}
use Rattle.blk_front.specs.declared.told.Told.{Told}
use Rattle.blk_front.specs.declared.told.Told.TheVariants as front_told
use Rattle.blk_front.specs.State.{is_open}
use Rattle.blk_back.specs.Step as ring_step
use Rattle.report_rules.proofs.Obeys.{obeys_none, obeys_more}
use Rattle.xenbus_state.specs.declared.front.FrontNews.{FrontNews}
use Rattle.xenbus_state.specs.declared.front.FrontNews.TheVariants as news
use Rattle.split_model.specs.World as rings
use Rattle.split_model.specs.Happening as ring
use Rattle.split_model.specs.Shown.{front_lines, back_lines, halt_lines}
use Rattle.split_model.proofs.Acting.{back_acts, BackEvent}
use Rattle.split_model.proofs.Outside.{IsOutside}
use Rattle.split_model.proofs.Showing.{IsTold, IsOfBack, MayShow, back_told_is, halt_is, both_all, lines_are}
use Rattle.vbd_front.specs.View as front_view
use Rattle.vbd_front.specs.Step as front_step
use Rattle.vbd_back.specs.View as back_view
use Rattle.vbd_back.specs.Ask as back_asked
use Rattle.vbd_back.specs.Step as back_step
use Rattle.vbd_model.specs.World.{World, start_of, frontend_of, backend_of}
use Rattle.vbd_model.specs.Happening.{Happening, FrontMoves, BackMoves, JobMoves, Closes, does, front_turn, back_turn, happens, lines_at, lines_of, after as after_all}
use Rattle.vbd_model.specs.News.{news_lines}
use Rattle.vbd_model.specs.Fit.{IsFit}
use Rattle.vbd_model.specs.Report.{report_of, ended_report_of}
use Rattle.vbd_laws.specs.Moves.{IsFrontMove, IsBackMove, IsNoMove}
use Rattle.vbd_laws.specs.StateLines.{StateDue, NoState, ReadyDue, ClosedDue, move_due, is_closing, StateSight, new_front, from, said_by, Stands, IsStateLineAt, StandAsSaid, EachReportsStates, EachEndedsStates, BeginsToClose, ClosingComes, EachClosingComes}
use Rattle.vbd_laws.proofs.StateLinesBegun.{from-append, begun}
use Rattle.vbd_laws.proofs.StateLinesOver.{over}
use Rattle.vbd_laws.proofs.StateLinesFront.{Agrees}
use Rattle.vbd_laws.proofs.MovesFront.{front_move_is, front_move_none}
use Rattle.vbd_laws.proofs.MovesBack.{back_move_is, back_move_none}
use Rattle.vbd_laws.proofs.Fit.{fit_start, fit_happens}
use Rattle.vbd_laws.proofs.StateLinesMoves.{follows_on, Goes, IsPlain, plain_goes, plain_closing, plain_may, news_may, Tells, tells_goes, front_tells}
use Rattle.vbd_laws.proofs.Recorded.{report_recorded, ended_recorded}

-- the back and a job read and set no key as the front
back_plain : (h : Hypervisor) (who : BackMover) (ask : BackAsk) (o : Outcome) (a : BackAct) → back_act h who ask o ≡ Some a → IsPlain (lines.Move a.shown)
back_plain h who ask o a e = elim (back_acts h who ask o a e) as (λ by asked outcome x acts. IsPlain (lines.Move x.shown)) [ BackEvent ↦ refl | acts ↦ refl ]

back_told_plain : (line : Line) → IsTold line → IsOfBack line → IsPlain line
back_told_plain (lines.Move shown) told shows = absurd told
back_told_plain lines.Ready told shows = absurd shows
back_told_plain lines.Closing told shows = absurd shows
back_told_plain lines.Closed told shows = absurd shows
back_told_plain line told shows = refl

back_are : (w : World) (act : Option BackAct) → IsFit w → back_turn w ≡ act → AllByRecursion IsPlain (lines_at w BackMoves)
back_are w None fit e = let is : IsNoMove w BackMoves = back_move_none w fit e in subst (λ (ls : List Line). AllByRecursion IsPlain ls) (sym is.lines) tt
back_are w (Some a) fit e =
    let is : IsBackMove w a = back_move_is w a fit e in
    let v : back_view.View = back_step.step_of (backend_of w) a.answer in
    subst (λ (ls : List Line). AllByRecursion IsPlain ls) (sym is.lines)
    (back_plain w.rings.under back_mover.Back (back_asked.ask_of (backend_of w)) Took a e, both_all IsPlain (back_lines v.ring.told a.answer) (halt_lines w.rings.back.halted v.ring.halted) (back_told_is IsPlain back_told_plain v.ring.told a.answer) (halt_is IsPlain (λ why. refl) w.rings.back.halted v.ring.halted))

job_are : (w : rings.World) (number : ℕ) (o : Outcome) (act : Option BackAct) → ring.job_turn w number o ≡ act → AllByRecursion IsPlain (ring.job_shows w number act)
job_are w number o None e = tt
job_are w number o (Some a) e = (back_plain w.under (back_mover.Job number) (ring_step.job_ask_of w.back number) o a e, back_told_is IsPlain back_told_plain _ a.answer)

-- no move of an end or of a job or on the keys, and no state that the front enters
abbrev IsStill : ring.Happening → Type 0
IsStill (ring.Submits job) = Unit {0}
IsStill ring.Suspends = Unit {0}
IsStill (ring.Negotiates at move) = ⊥
IsStill x = IsOutside x

still_plain : (x : ring.Happening) (line : Line) → IsStill x → MayShow x line → IsPlain line
still_plain ring.FrontMoves line still shows = absurd still
still_plain ring.BackMoves line still shows = absurd still
still_plain (ring.JobMoves number outcome) line still shows = absurd still
still_plain (ring.Negotiates at move) line still shows = absurd still
still_plain (ring.FrontEnters state) line still shows = absurd still
still_plain (ring.BackAttaches shape grefs port) line still shows = absurd still
still_plain (ring.BackHalts why) line still shows = absurd still
still_plain x (lines.Move shown) still shows = absurd shows
still_plain x lines.Ready still shows = absurd shows
still_plain x lines.Closing still shows = absurd shows
still_plain x lines.Closed still shows = absurd shows
still_plain x line still shows = refl

still_are : (w : World) (h : Happening) (x : ring.Happening) → does w h ≡ x ∷ [] → IsStill x → AllByRecursion IsPlain (lines_at w h)
still_are w h x one still =
    let same : lines_at w h ≡ ring.lines_at w.rings x = ap (λ (xs : List ring.Happening). ring.lines_of xs w.rings) one ∙ append-nil (ring.lines_at w.rings x) in
    subst (λ (ls : List Line). AllByRecursion IsPlain ls) (sym same) (lines_are IsPlain w.rings x (λ line shows. still_plain x line still shows))

-- whatever happens but for a move of the front and its being asked to close
abbrev IsOther : Happening → Type 0
IsOther FrontMoves = ⊥
IsOther (Closes end.Front) = ⊥
IsOther h = Unit {0}

others : (w : World) (h : Happening) → IsOther h → IsFit w → AllByRecursion IsPlain (lines_at w h)
others w FrontMoves other fit = absurd other
others w (Closes end.Front) other fit = absurd other
others w (Closes end.Back) other fit = tt
others w BackMoves other fit = back_are w (back_turn w) fit refl
others w (JobMoves number o) other fit = subst (λ (ls : List Line). AllByRecursion IsPlain ls) (sym (append-nil _)) (job_are w.rings number o (ring.job_turn w.rings number o) refl)
others w h other fit = still_are w h _ refl tt

-- the front is asked to close
close_lines : (k : StateSight) (w : World) → k.begun ≡ w.rings.front.closing → lines_at w (Closes end.Front) ≡ (if not k.begun && is_open w.rings.front.stage then lines.Closing ∷ [] else [])
close_lines k w same = append-nil _ ∙ ap (λ (b : Bool). if not b && is_open w.rings.front.stage then lines.Closing ∷ [] else []) (sym same)

close_goes : (k : StateSight) (opened : Bool) → k.due ≡ NoState → (k.over ≡ true → opened ≡ false) → Goes k (if not k.begun && opened then lines.Closing ∷ [] else [])
close_goes k opened none closed = by_test k.begun opened refl refl
  where
    stands : Stands k.due lines.Closing
    stands = subst (λ (d : StateDue). Stands d lines.Closing) (sym none) refl

    going : (b : Bool) → k.over ≡ b → opened ≡ true → b ≡ false
    going true over on = absurd (true≢false (sym on ∙ closed over))
    going false over on = refl

    by_test : (b c : Bool) → k.begun ≡ b → opened ≡ c → Goes k (if not b && c then lines.Closing ∷ [] else [])
    by_test true c is on = record { follows = tt; rests = none }
    by_test false true is on = news_may k lines.Closing (going k.over refl on) stands (λ closing. is) (λ closed. absurd (true≢false (sym closed))) refl
    by_test false false is on = record { follows = tt; rests = none }

-- what the lines say is what the machine knows, and no line is due
pub record Knowing (k : StateSight) (w : World) : Type 0 where
  pub begun : k.begun ≡ w.rings.front.closing
  pub over : k.over ≡ true → is_open w.rings.front.stage ≡ false
  pub due : k.due ≡ NoState

front_goes : (k : StateSight) (w : World) (act : Option FrontAct) → IsFit w → Knowing k w → front_turn w ≡ act → Goes k (lines_at w FrontMoves)
front_goes k w None fit has e = let is : IsNoMove w FrontMoves = front_move_none w fit e in subst (λ (ls : List Line). Goes k ls) (sym is.lines) (record { follows = tt; rests = has.due })
front_goes k w (Some a) fit has e =
    let is : IsFrontMove w a = front_move_is w a fit e in
    subst (λ (ls : List Line). Goes k ls) (sym is.lines) (tells_goes k (is_open w.rings.front.stage) a.shown (front_step.step_of (frontend_of w) a.answer) has.due has.over (front_tells k.begun w a fit has.begun e))

one : (k : StateSight) (w : World) (h : Happening) → IsFit w → Knowing k w → Goes k (lines_at w h)
one k w FrontMoves fit has = front_goes k w (front_turn w) fit has refl
one k w (Closes end.Front) fit has = subst (λ (ls : List Line). Goes k ls) (sym (close_lines k w has.begun)) (close_goes k (is_open w.rings.front.stage) has.due has.over)
one k w h fit has = plain_goes k (lines_at w h) has.due (others w h tt fit)

next : (k : StateSight) (w : World) (h : Happening) → IsFit w → Knowing k w → Knowing (from k (lines_at w h)) (happens w h)
next k w h fit has = let goes : Goes k (lines_at w h) = one k w h fit has in record { begun = begun (does w h) k w.rings has.begun; over = over (does w h) k w.rings fit.safe has.over; due = goes.rests }

run : (history : List Happening) (w : World) (before : List Line) → IsFit w → Knowing (said_by before) w → StandAsSaid before → StandAsSaid (before ++ lines_of history w)
run [] w before fit has obeys = subst (λ (ls : List Line). StandAsSaid ls) (sym (append-nil before)) obeys
run (h ∷ history) w before fit has obeys =
    let goes : Goes (said_by before) (lines_at w h) = one (said_by before) w h fit has in
    let knows : Knowing (said_by (before ++ lines_at w h)) (happens w h) = subst (λ (k : StateSight). Knowing k (happens w h)) (sym (from-append new_front before (lines_at w h))) (next (said_by before) w h fit has) in
    subst (λ (ls : List Line). StandAsSaid ls) (append_assoc before (lines_at w h) (lines_of history (happens w h)))
    (run history (happens w h) (before ++ lines_at w h) (fit_happens w h fit) knows (follows_on before (lines_at w h) obeys goes.follows))

-- the machine after a history, and what its lines say
record Reached (config : Options) (history : List Happening) : Type 0 where
  fit : IsFit (after_all history (start_of config))
  knows : Knowing (from new_front (lines_of history (start_of config))) (after_all history (start_of config))

at_end : (history : List Happening) (k : StateSight) (w : World) → IsFit w → Knowing k w → IsFit (after_all history w) × Knowing (from k (lines_of history w)) (after_all history w)
at_end [] k w fit has = (fit, has)
at_end (h ∷ history) k w fit has =
    let rest = at_end history (from k (lines_at w h)) (happens w h) (fit_happens w h fit) (next k w h fit has) in
    (rest.0, subst (λ (x : StateSight). Knowing x (after_all history (happens w h))) (sym (from-append k (lines_at w h) (lines_of history (happens w h)))) rest.1)

reached : (config : Options) (history : List Happening) → config.indirect ≤ 960 → Reached config history
reached config history few = let is = at_end history new_front (start_of config) (fit_start config few) (record { begun = refl; over = λ over. absurd (true≢false (sym over)); due = refl }) in record { fit = is.0; knows = is.1 }

report_runs : (config : Options) (history : List Happening) → config.indirect ≤ 960 → StandAsSaid (report_of config Moves history)
report_runs config history few =
    run history (start_of config) (lines.Begin config Moves ∷ []) (fit_start config few) (record { begun = refl; over = λ over. absurd (true≢false (sym over)); due = refl })
    (obeys_more IsStateLineAt [] (lines.Begin config Moves) (obeys_none IsStateLineAt) (record { due = refl; once = λ closing. refl; later = λ closed. absurd (true≢false (sym closed)); last = λ enters. refl }))

ended_runs : (config : Options) (history : List Happening) → config.indirect ≤ 960 → StandAsSaid (ended_report_of config Moves history)
ended_runs config history few =
    let is = reached config history few in
    obeys_more IsStateLineAt (report_of config Moves history) lines.End (report_runs config history few) (plain_may (said_by (report_of config Moves history)) lines.End is.knows.due refl)

pub report_states : EachReportsStates
report_states config detail history few same = report_recorded StandAsSaid config detail history same (report_runs config history few)

pub ended_states : EachEndedsStates
ended_states config detail history few same = ended_recorded StandAsSaid config detail history same (ended_runs config history few)

-- Each `closing` line comes of a read, or as the front is asked to close.
news_opens : (n : Option FrontNews) → list_any is_closing (news_lines n) ≡ true → n ≡ Some news.Closing
news_opens None has = absurd (true≢false (sym has))
news_opens (Some news.Ready) has = absurd (true≢false (sym has))
news_opens (Some news.Closing) has = refl
news_opens (Some news.Closed) has = absurd (true≢false (sym has))
news_opens (Some (news.Broken word)) has = absurd (true≢false (sym has))

told_opens : (t : Option Told) (n : Option FrontNews) → list_any is_closing (front_lines t ++ news_lines n) ≡ true → n ≡ Some news.Closing
told_opens None n has = news_opens n has
told_opens (Some (front_told.Answer id status)) n has = news_opens n has
told_opens (Some (front_told.Sector id index words)) n has = news_opens n has
told_opens (Some (front_told.Broken word)) n has = news_opens n has

agrees_begins : (b : Bool) (d : StateDue) → Agrees b d (Some news.Closing) → BeginsToClose d
agrees_begins b NoState is = absurd (true≢false is)
agrees_begins b ReadyDue is = absurd (cc)
agrees_begins b ClosedDue is = let same : Some news.Closing ≡ Some news.Closed = is.0 in absurd (cc)
agrees_begins b other is = tt

front_begins : (k : StateSight) (w : World) (act : Option FrontAct) → IsFit w → Knowing k w → front_turn w ≡ act → ClosingComes k.begun w FrontMoves (lines_at w FrontMoves)
front_begins k w None fit has e move more is closes =
    let still : IsNoMove w FrontMoves = front_move_none w fit e in
    let none : lines.Move move ∷ more ≡ [] = sym is ∙ still.lines in absurd (cc)
front_begins k w (Some a) fit has e move more is closes =
    let moves_so : IsFrontMove w a = front_move_is w a fit e in
    let x : front_view.View = front_step.step_of (frontend_of w) a.answer in
    let shown : lines.Move move ∷ more ≡ lines.Move a.shown ∷ (front_lines x.ring.told ++ news_lines x.news) = sym is ∙ moves_so.lines in
    let same : move ≡ a.shown = cc in
    let rest : more ≡ front_lines x.ring.told ++ news_lines x.news = cc in
    let told : x.news ≡ Some news.Closing = told_opens x.ring.told x.news (sym (ap (list_any is_closing) rest) ∙ closes) in
    let tells : Tells k.begun (is_open w.rings.front.stage) a.shown x = front_tells k.begun w a fit has.begun e in
    subst (λ (m : Move). BeginsToClose (move_due k.begun m)) (sym same) (agrees_begins k.begun (move_due k.begun a.shown) (subst (λ (n : Option FrontNews). Agrees k.begun (move_due k.begun a.shown) n) told tells.agrees))

pub comes : (k : StateSight) (w : World) (h : Happening) → IsFit w → Knowing k w → ClosingComes k.begun w h (lines_at w h)
comes k w FrontMoves fit has = front_begins k w (front_turn w) fit has refl
comes k w (Closes end.Front) fit has = close_lines k w has.begun
comes k w h fit has = plain_closing (lines_at w h) (others w h tt fit)

pub closing_comes : EachClosingComes
closing_comes config history h few =
    let is = reached config history few in
    comes (from new_front (lines_of history (start_of config))) (after_all history (start_of config)) h is.fit is.knows
