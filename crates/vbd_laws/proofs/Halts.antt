-- Whatever happens, the back halts exactly by its causes.
use Rattle.std.proofs.Common.{◌≡◌, ℕ, ◌≤◌, Bool, true, false, true≢false, ◌||◌, ◌&&◌, if◌then◌else◌, codes, inl, List, [], ◌∷◌, ◌++◌, refl, sym, ap, ◌∙◌, subst, append_assoc, append-nil}
use Rattle.std.specs.Prelude.{Option, Some, None, is_some, unwrap_or}
use Rattle.std.specs.List.{AllByRecursion}
use Rattle.std.specs.Str.{bytes_eq}
use Rattle.std.proofs.lemmas.Option.{none-some}
use Rattle.blk_base.specs.Options.{Options}
use Rattle.blk_base.specs.declared.parts.End.TheVariants as end
use Rattle.blk_base.specs.declared.ask.FrontAsk.{FrontAsk}
use Rattle.blk_base.specs.declared.ask.BackAsk.TheVariants as back_ask
use Rattle.blk_base.specs.declared.moves.BackMover.TheVariants as back_mover
use Rattle.schedule_text.specs.declared.line.Detail.TheVariants.{Moves as AllMoves}
use Rattle.blk_base.specs.declared.moves.Move.TheVariants as moves
use Rattle.blk_base.specs.declared.moves.Mover.TheVariants as mover
use Rattle.schedule_text.specs.declared.line.Line.{Line}
use Rattle.schedule_text.specs.declared.line.Line.TheVariants as lines
use Rattle.hypervisor.specs.Hypervisor.{Hypervisor}
use Rattle.hypervisor.specs.Act.{FrontAct, BackAct, Outcome, front_act, back_act}
use Rattle.blk_front.specs.declared.state.FrontState.TheVariants as enter
use Rattle.blk_front.specs.State.{is_open, may_enter}
use Rattle.blk_front.specs.declared.told.Told.{Told}
use Rattle.blk_front.specs.declared.told.Told.TheVariants as front_told
use Rattle.back_jobs.specs.Jobs.{ask_job}
use Rattle.blk_base.specs.declared.halt.Halt.{Halt}
use Rattle.blk_back.specs.Step as ring_step
use Rattle.report_rules.proofs.Obeys.{obeys_none, obeys_more}
use Rattle.xenbus_state.specs.declared.front.FrontNews.{FrontNews}
use Rattle.xenbus_state.specs.declared.front.FrontNews.TheVariants as news
use Rattle.xenbus_state.specs.BackView.{BackView, is_halting}
use Rattle.xenbus_state.specs.declared.keys.FrontKey.TheVariants as key
use Rattle.negotiation_laws.specs.Negotiation.{back_state, front_path}
use Rattle.split_model.specs.World as rings
use Rattle.split_model.specs.Happening as ring
use Rattle.split_model.specs.Shown.{front_lines, back_lines, halt_lines}
use Rattle.split_model.proofs.Acting.{front_acts, FrontEvent, back_acts, BackMapRefused, BackBindRefused, BackGet, BackSet}
use Rattle.split_model.proofs.SafeAnswers.{IsJobs, jobs_of}
use Rattle.split_model.proofs.Outside.{IsOutside}
use Rattle.split_model.proofs.Showing.{IsTold, IsOfBack, MayShow, back_told_is, both_all, lines_are}
use Rattle.vbd_front.specs.View as front_view
use Rattle.vbd_front.specs.Ask as front_asks
use Rattle.vbd_front.specs.Step as front_step
use Rattle.vbd_back.specs.View as back_view
use Rattle.vbd_back.specs.Step as back_step
use Rattle.vbd_model.specs.World.{World, start_of, frontend_of, backend_of}
use Rattle.vbd_model.specs.Happening.{Happening, FrontMoves, BackMoves, JobMoves, Closes, Suspends, does, front_turn, back_turn, front_bus, back_bus, renewed_bus, happens, lines_at, lines_of, after as after_all}
use Rattle.vbd_model.specs.News.{news_lines}
use Rattle.vbd_model.specs.Fit.{IsFit}
use Rattle.vbd_model.specs.Report.{report_of, ended_report_of}
use Rattle.vbd_laws.specs.Moves.{IsFrontMove, IsBackMove, IsClose, IsNoMove}
use Rattle.vbd_laws.specs.Halts.{BackSight, order_said, new_back, told, after, from, said_by, IsHaltAt, HaltsByCauses, EachReportHalts, EachEndedHalts, EachHaltIsWorded, asked_after, asked_by}
use Rattle.vbd_laws.proofs.FitChannels.{IsOfJob}
use Rattle.vbd_laws.specs.StateLines.{StateSight, NoState, is_over}
use Rattle.vbd_laws.specs.StateLines.{after as states_after, from as states_from}
use Rattle.vbd_laws.proofs.StateLinesOver.{over}
use Rattle.vbd_laws.proofs.HaltsKnown.{Knows}
use Rattle.vbd_laws.proofs.HaltsMoves.{Moves, back_moves}
use Rattle.vbd_laws.proofs.MovesFront.{front_move_is, front_move_none, close_is}
use Rattle.vbd_laws.proofs.MovesBack.{back_move_is, back_move_none}
use Rattle.vbd_laws.proofs.Fit.{fit_start, fit_happens}
use Rattle.vbd_laws.proofs.HaltsLines.{AllFollow, from-append, follows_on, all_worded, is_idle, IsIdle, idle_follow, halted_by, Ends, ends, rests_due}
use Rattle.vbd_laws.proofs.Recorded.{report_recorded, ended_recorded}

-- what the lines say is what the machine knows, and no halt is due
pub record Knowing (asked : Bool) (k : BackSight) (w : World) : Type 0 where
  pub bus : Knows asked k w.back
  pub due : k.due ≡ None

-- where a line says that the front is closed or broken it is
abbrev pub IsShut : BackSight → World → Type 0
IsShut k w = k.over ≡ true → is_open w.rings.front.stage ≡ false

line_over : (k : BackSight) (line : Line) → (let x : BackSight = after k line in x.over) ≡ is_over line || k.over
line_over k (lines.Move (moves.GetKey mover.Back path text)) = by_test (bytes_eq path (front_path key.RingPageOrder))
  where
    by_test : (b : Bool) → (let x : BackSight = (if b then record k { order = unwrap_or (order_said text) k.order } else k) in x.over) ≡ k.over
    by_test true = refl
    by_test false = refl
line_over k (lines.Move (moves.SetKey mover.Back path text)) = by_test (bytes_eq path back_state && bytes_eq text (codes "4"))
  where
    by_test : (b : Bool) → (let x : BackSight = (if b then record k { connected = true } else k) in x.over) ≡ k.over
    by_test true = refl
    by_test false = refl
line_over k line = refl

alike_over : (k : BackSight) (f : StateSight) (ls : List Line) → k.over ≡ f.over → (let x : BackSight = from k ls in x.over) ≡ (let y : StateSight = states_from f ls in y.over)
alike_over k f [] same = same
alike_over k f (line ∷ ls) same = alike_over (after k line) (states_after f line) ls (line_over k line ∙ ap (λ (b : Bool). is_over line || b) same)

shut_next : (k : BackSight) (w : World) (h : Happening) → IsFit w → IsShut k w → IsShut (from k (lines_at w h)) (happens w h)
shut_next k w h fit shut said = let f : StateSight = record { begun = false; over = k.over; due = NoState } in over (does w h) f w.rings fit.safe shut (sym (alike_over k f (lines_at w h) refl) ∙ said)

record Goes (asked : Bool) (k : BackSight) (w : World) (h : Happening) : Type 0 where
  follows : AllFollow asked k (lines_at w h)
  knows : Knowing (asked_after asked w h) (from k (lines_at w h)) (happens w h)

idle_goes : (asked : Bool) (k : BackSight) (w : World) (h : Happening) → AllByRecursion (IsIdle k.halted) (lines_at w h) → asked_after asked w h ≡ asked → (let x : World = happens w h in x.back) ≡ w.back → Knowing asked k w → Goes asked k w h
idle_goes asked k w h all same back has =
    let is = idle_follow asked k (lines_at w h) has.due all in
    let now : Knowing asked (record k { over = is.1.over }) (happens w h) = record { bus = subst (λ (v : BackView). Knows asked (record k { over = is.1.over }) v) (sym back) (record { order = has.bus.order; connected = has.bus.connected; closing = has.bus.closing; halted = has.bus.halted; early = has.bus.early }); due = has.due } in
    record { follows = is.0; knows = subst (λ (b : Bool). Knowing b (from k (lines_at w h)) (happens w h)) (sym same) (subst (λ (x : BackSight). Knowing asked x (happens w h)) (sym is.1.same) now) }

-- where nothing happens
none_goes : (asked : Bool) (k : BackSight) (w : World) (h : Happening) → lines_at w h ≡ [] → happens w h ≡ w → asked_after asked w h ≡ asked → Knowing asked k w → Goes asked k w h
none_goes asked k w h none same asks has = idle_goes asked k w h (subst (λ (ls : List Line). AllByRecursion (IsIdle k.halted) ls) (sym none) tt) asks (ap (λ (x : World). x.back) same) has

-- a move of the front
front_idle : (k : BackSight) (h : Hypervisor) (ask : FrontAsk) (a : FrontAct) → front_act h ask ≡ Some a → IsIdle k.halted (lines.Move a.shown)
front_idle k h ask a e = elim (front_acts h ask a e) as (λ asked x acts. IsIdle k.halted (lines.Move x.shown)) [ FrontEvent ↦ record { idle = refl; rests = λ halted. refl } | acts ↦ record { idle = refl; rests = λ halted. refl } ]

front_lines_idle : (k : BackSight) (t : Option Told) → AllByRecursion (IsIdle k.halted) (front_lines t)
front_lines_idle k None = tt
front_lines_idle k (Some (front_told.Answer id status)) = (record { idle = refl; rests = λ halted. refl }, tt)
front_lines_idle k (Some (front_told.Sector id index words)) = (record { idle = refl; rests = λ halted. refl }, tt)
front_lines_idle k (Some (front_told.Broken word)) = (record { idle = refl; rests = λ halted. refl }, tt)

news_idle : (k : BackSight) (n : Option FrontNews) → AllByRecursion (IsIdle k.halted) (news_lines n)
news_idle k None = tt
news_idle k (Some news.Ready) = (record { idle = refl; rests = λ halted. refl }, tt)
news_idle k (Some news.Closing) = (record { idle = refl; rests = λ halted. refl }, tt)
news_idle k (Some news.Closed) = (record { idle = refl; rests = λ halted. refl }, tt)
news_idle k (Some (news.Broken word)) = (record { idle = refl; rests = λ halted. refl }, tt)

front_goes : (asked : Bool) (k : BackSight) (w : World) (act : Option FrontAct) → IsFit w → Knowing asked k w → front_turn w ≡ act → Goes asked k w FrontMoves
front_goes asked k w None fit has e = let is : IsNoMove w FrontMoves = front_move_none w fit e in none_goes asked k w FrontMoves is.lines is.world refl has
front_goes asked k w (Some a) fit has e =
    let is : IsFrontMove w a = front_move_is w a fit e in
    let v : front_view.View = front_step.step_of (frontend_of w) a.answer in
    idle_goes asked k w FrontMoves
    (subst (λ (ls : List Line). AllByRecursion (IsIdle k.halted) ls) (sym is.lines) (front_idle k w.rings.under (front_asks.ask_of (frontend_of w)) a e, both_all (IsIdle k.halted) (front_lines v.ring.told) (news_lines v.news) (front_lines_idle k v.ring.told) (news_idle k v.news)))
    refl (ap (λ (x : World). x.back) is.world) has

-- of a job: one of a back that has halted has none
job_waits : (w : rings.World) (number : ℕ) (o : Outcome) (a : BackAct) → is_some w.back.halted ≡ true → ring.job_turn w number o ≡ Some a → ⊥
job_waits w number o a over e = by_test (is_some w.back.halted) over e
  where
    by_test : (b : Bool) → b ≡ true → back_act w.under (back_mover.Job number) (if b then back_ask.Wait else ask_job w.back.jobs number) o ≡ Some a → ⊥
    by_test true over e = none-some a e
    by_test false over e = true≢false (sym over)

knows_over : (asked : Bool) (k : BackSight) (w : World) → IsFit w → Knows asked k w.back → k.halted ≡ true → is_some w.rings.back.halted ≡ true
knows_over asked k w fit has halted = fit.halted ∙ has.halted halted

job_idle : (asked : Bool) (k : BackSight) (w : World) (number : ℕ) (o : Outcome) (act : Option BackAct) → IsFit w → Knows asked k w.back → ring.job_turn w.rings number o ≡ act → AllByRecursion (IsIdle k.halted) (ring.job_shows w.rings number act)
job_idle asked k w number o None fit has e = tt
job_idle asked k w number o (Some a) fit has e = (
  record { idle = shown_idle; rests = λ halted. absurd (none (knows_over asked k w fit has halted)) },
  back_told_is (IsIdle k.halted) (λ line told shows. record { idle = told_idle line told shows; rests = λ halted. absurd (none (knows_over asked k w fit has halted)) }) _ a.answer,
)
  where
    none : is_some w.rings.back.halted ≡ true → ⊥
    none over = job_waits w.rings number o a over e

    told_idle : (line : Line) → IsTold line → IsOfBack line → is_idle line ≡ true
    told_idle (lines.Move shown) told shows = absurd told
    told_idle (lines.Halt why) told shows = absurd told
    told_idle lines.Epoch told shows = absurd shows
    told_idle line told shows = refl

    shown_idle : is_idle (lines.Move a.shown) ≡ true
    shown_idle = (elim (back_acts w.rings.under (back_mover.Job number) (ring_step.job_ask_of w.rings.back number) o a e) as (λ by wish outcome x acts. IsOfJob by → IsJobs wish → is_idle (lines.Move x.shown) ≡ true) [
      | BackMapRefused {who = back_mover.Back} gref mode refusal is ↦ λ job asks. absurd job
      | BackMapRefused {who = back_mover.Job n} gref mode refusal is ↦ λ job asks. refl
      | BackBindRefused p ↦ λ job asks. absurd asks
      | BackGet path ↦ λ job asks. absurd job
      | BackSet path text own ↦ λ job asks. absurd job
      | acts ↦ λ job asks. refl
    ]) tt (jobs_of w.rings.back number)

-- of the back
back_goes : (asked : Bool) (k : BackSight) (w : World) (act : Option BackAct) → IsFit w → Knowing asked k w → back_turn w ≡ act → Goes asked k w BackMoves
back_goes asked k w None fit has e = let is : IsNoMove w BackMoves = back_move_none w fit e in none_goes asked k w BackMoves is.lines is.world refl has
back_goes asked k w (Some a) fit has e =
    let is : IsBackMove w a = back_move_is w a fit e in
    let v : back_view.View = back_step.step_of (backend_of w) a.answer in
    let does : Moves asked k w a v = back_moves asked k w a fit has.bus e in
    let later : IsFit (happens w BackMoves) = fit_happens w BackMoves fit in
    let stops : is_some v.ring.halted ≡ is_halting v.bus.stage = subst (λ (x : World). is_some x.rings.back.halted ≡ is_halting x.back.stage) is.world later.halted in
    let known : BackSight = after k (lines.Move a.shown) in
    let rest : Ends asked known w.rings.back.halted v.ring.halted (back_lines v.ring.told a.answer ++ halt_lines w.rings.back.halted v.ring.halted) =
    ends asked known v.ring.told a.answer w.rings.back.halted v.ring.halted (λ running. let halts = does.runs running in (halts.due, halts.word, halts.quiet))
    (λ halted. inl (stops ∙ does.known.halted halted)) (λ over. (rests_due k (lines.Move a.shown) (does.idle over), does.quiet over)) in
    record {
      follows = subst (λ (ls : List Line). AllFollow asked k ls) (sym is.lines) (record { halts = sym has.due; rests = λ halted. does.idle (knows_over asked k w fit has.bus halted) }, tt, rest.follows);
      knows = subst (λ (ls : List Line). Knowing asked (from k ls) (happens w BackMoves)) (sym is.lines) (subst (λ (x : BackSight). Knowing asked x (happens w BackMoves)) (sym rest.known)
          (subst (λ (x : World). Knowing asked (record (halted_by known w.rings.back.halted v.ring.halted) { over = rest.over; due = None }) x) (sym is.world) (record { bus = told_bus rest.over does.known stops; due = refl })));
    }
  where
    told_bus : (over : Bool) → Knows asked (told k (lines.Move a.shown)) (let v : back_view.View = back_step.step_of (backend_of w) a.answer in v.bus)
        → (let v : back_view.View = back_step.step_of (backend_of w) a.answer in is_some v.ring.halted ≡ is_halting v.bus.stage)
        → (let v : back_view.View = back_step.step_of (backend_of w) a.answer in Knows asked (record (halted_by (after k (lines.Move a.shown)) w.rings.back.halted v.ring.halted) { over = over; due = None }) v.bus)
    told_bus over knows stops = let v : back_view.View = back_step.step_of (backend_of w) a.answer in by_halts w.rings.back.halted v.ring.halted refl
      where
        by_halts : (old new : Option Halt) → (let v : back_view.View = back_step.step_of (backend_of w) a.answer in v.ring.halted ≡ new)
            → (let v : back_view.View = back_step.step_of (backend_of w) a.answer in Knows asked (record (halted_by (after k (lines.Move a.shown)) old new) { over = over; due = None }) v.bus)
        by_halts None (Some x) is = record { order = knows.order; connected = knows.connected; closing = knows.closing; halted = λ halted. sym stops ∙ ap is_some is; early = knows.early }
        by_halts None None is = record { order = knows.order; connected = knows.connected; closing = knows.closing; halted = knows.halted; early = knows.early }
        by_halts (Some g) new is = record { order = knows.order; connected = knows.connected; closing = knows.closing; halted = knows.halted; early = knows.early }

-- an end is asked to close
close_idle : (k : BackSight) (b : Bool) → AllByRecursion (IsIdle k.halted) (news_lines (if b then Some news.Closing else None))
close_idle k true = (record { idle = refl; rests = λ halted. refl }, tt)
close_idle k false = tt

front_closes : (asked : Bool) (k : BackSight) (w : World) → IsFit w → Knowing asked k w → Goes asked k w (Closes end.Front)
front_closes asked k w fit has =
    let is : IsClose w end.Front = close_is w end.Front fit in
    idle_goes asked k w (Closes end.Front) (subst (λ (ls : List Line). AllByRecursion (IsIdle k.halted) ls) (sym is.lines) (close_idle k (may_enter enter.Closing w.rings.front))) refl (ap (λ (x : World). x.back) is.world) has

back_closes : (asked : Bool) (k : BackSight) (w : World) → Knowing asked k w → Goes asked k w (Closes end.Back)
back_closes asked k w has = record { follows = tt; knows = record { bus = by_test (is_halting w.back.stage) refl; due = has.due } }
  where
    by_test : (b : Bool) → is_halting w.back.stage ≡ b → Knows true k (let v : BackView = w.back in if b then v else record v { unplugged = true })
    by_test true halts = record { order = has.bus.order; connected = has.bus.connected; closing = λ on. absurd (true≢false (sym halts ∙ on)); halted = has.bus.halted; early = λ on unasked. absurd (true≢false unasked) }
    by_test false on = record { order = has.bus.order; connected = has.bus.connected; closing = λ on. refl; halted = has.bus.halted; early = λ on unasked. absurd (true≢false unasked) }

-- The domain is suspended: of the new back no line says anything.
record GoesTo (asked : Bool) (k : BackSight) (ls : List Line) (after_asked : Bool) (x : World) : Type 0 where
  follows : AllFollow asked k ls
  knows : Knowing after_asked (from k ls) x

suspends_to : (asked : Bool) (k : BackSight) (w : World) → IsShut k w → Knowing asked k w → GoesTo asked k (lines_at w Suspends) (asked_after asked w Suspends) (happens w Suspends)
suspends_to asked k w shut has = by_may (rings.may_suspend w.rings)
  where
    renewed : (opened : Bool) → is_open w.rings.front.stage ≡ opened → Knows false (after k lines.Epoch) (renewed_bus opened w.back)
    renewed true on = record { order = refl; connected = λ on. refl; closing = λ on. refl; halted = λ e. absurd (true≢false (sym on ∙ shut e)); early = λ on unasked. refl }
    renewed false on = record { order = refl; connected = λ on. absurd (true≢false on); closing = λ on. refl; halted = λ e. refl; early = λ on. absurd (true≢false on) }

    by_may : (may : Bool) → GoesTo asked k ((if may then lines.Epoch ∷ [] else []) ++ []) (if may then false else asked) (record {
      rings = if may then rings.suspended w.rings else w.rings;
      front = front_bus w Suspends;
      back = if may then renewed_bus (is_open w.rings.front.stage) w.back else w.back;
    })
    by_may true = record { follows = (record { halts = sym has.due; rests = λ halted. refl }, tt, tt); knows = record { bus = renewed (is_open w.rings.front.stage) refl; due = refl } }
    by_may false = record { follows = tt; knows = record { bus = has.bus; due = has.due } }

suspends_goes : (asked : Bool) (k : BackSight) (w : World) → IsShut k w → Knowing asked k w → Goes asked k w Suspends
suspends_goes asked k w shut has = let to = suspends_to asked k w shut has in record { follows = to.follows; knows = to.knows }

-- no move of an end or of a job or on the keys, no state that the front enters, no halt and no suspend
abbrev IsStill : ring.Happening → Type 0
IsStill (ring.Submits job) = Unit {0}
IsStill (ring.Negotiates at move) = ⊥
IsStill x = IsOutside x

still_idle : (k : BackSight) (x : ring.Happening) (line : Line) → IsStill x → MayShow x line → IsIdle k.halted line
still_idle k ring.FrontMoves line still shows = absurd still
still_idle k ring.BackMoves line still shows = absurd still
still_idle k (ring.JobMoves number outcome) line still shows = absurd still
still_idle k (ring.Negotiates at move) line still shows = absurd still
still_idle k (ring.FrontEnters state) line still shows = absurd still
still_idle k (ring.BackAttaches shape grefs port) line still shows = absurd still
still_idle k (ring.BackHalts why) line still shows = absurd still
still_idle k ring.Suspends line still shows = absurd still
still_idle k x (lines.Move shown) still shows = absurd shows
still_idle k x (lines.Halt why) still shows = absurd shows
still_idle k x lines.Epoch still shows = absurd shows
still_idle k x (lines.Effect id index) still shows = absurd shows
still_idle k x (lines.EffectRead id index words) still shows = absurd shows
still_idle k x (lines.Flushed id) still shows = absurd shows
still_idle k x (lines.Trimmed id) still shows = absurd shows
still_idle k x (lines.Fault id index) still shows = absurd shows
still_idle k x (lines.Reply id status) still shows = absurd shows
still_idle k x line still shows = record { idle = refl; rests = λ halted. refl }

still_goes : (asked : Bool) (k : BackSight) (w : World) (h : Happening) (x : ring.Happening) → does w h ≡ x ∷ [] → IsStill x → asked_after asked w h ≡ asked → back_bus w h ≡ w.back → Knowing asked k w → Goes asked k w h
still_goes asked k w h x one still asks back has =
    let lines_one : lines_at w h ≡ ring.lines_at w.rings x = ap (λ (xs : List ring.Happening). ring.lines_of xs w.rings) one ∙ append-nil (ring.lines_at w.rings x) in
    idle_goes asked k w h (subst (λ (ls : List Line). AllByRecursion (IsIdle k.halted) ls) (sym lines_one) (lines_are (IsIdle k.halted) w.rings x (λ line shows. still_idle k x line still shows))) asks back has

-- whatever happens
one : (asked : Bool) (k : BackSight) (w : World) (h : Happening) → IsFit w → IsShut k w → Knowing asked k w → Goes asked k w h
one asked k w FrontMoves fit shut has = front_goes asked k w (front_turn w) fit has refl
one asked k w BackMoves fit shut has = back_goes asked k w (back_turn w) fit has refl
one asked k w (JobMoves number o) fit shut has =
    idle_goes asked k w (JobMoves number o)
    (subst (λ (ls : List Line). AllByRecursion (IsIdle k.halted) ls) (sym (append-nil (ring.job_shows w.rings number (ring.job_turn w.rings number o)))) (job_idle asked k w number o (ring.job_turn w.rings number o) fit has.bus refl)) refl refl has
one asked k w (Closes end.Front) fit shut has = front_closes asked k w fit has
one asked k w (Closes end.Back) fit shut has = back_closes asked k w has
one asked k w Suspends fit shut has = suspends_goes asked k w shut has
one asked k w h fit shut has = still_goes asked k w h _ refl tt refl refl has

run : (history : List Happening) (asked : Bool) (w : World) (before : List Line) → IsFit w → IsShut (said_by before) w → Knowing asked (said_by before) w → HaltsByCauses before → HaltsByCauses (before ++ lines_of history w)
run [] asked w before fit shut has obeys = subst (λ (ls : List Line). HaltsByCauses ls) (sym (append-nil before)) obeys
run (h ∷ history) asked w before fit shut has obeys =
    let goes : Goes asked (said_by before) w h = one asked (said_by before) w h fit shut has in
    let knows : Knowing (asked_after asked w h) (said_by (before ++ lines_at w h)) (happens w h) = subst (λ (k : BackSight). Knowing (asked_after asked w h) k (happens w h)) (sym (from-append new_back before (lines_at w h))) goes.knows in
    subst (λ (ls : List Line). HaltsByCauses ls) (append_assoc before (lines_at w h) (lines_of history (happens w h)))
    (run history (asked_after asked w h) (happens w h) (before ++ lines_at w h) (fit_happens w h fit) (subst (λ (k : BackSight). IsShut k (happens w h)) (sym (from-append new_back before (lines_at w h))) (shut_next (said_by before) w h fit shut)) knows (follows_on asked before (lines_at w h) obeys goes.follows))

starts : (config : Options) → Knowing false new_back (start_of config)
starts config = record { bus = record { order = refl; connected = λ on. refl; closing = λ on. refl; halted = λ e. absurd (true≢false (sym e)); early = λ on unasked. refl }; due = refl }

report_runs : (config : Options) (history : List Happening) → config.indirect ≤ 960 → HaltsByCauses (report_of config AllMoves history)
report_runs config history few =
    run history false (start_of config) (lines.Begin config AllMoves ∷ []) (fit_start config few) (λ over. absurd (true≢false (sym over))) (starts config)
    (obeys_more IsHaltAt [] (lines.Begin config AllMoves) (obeys_none IsHaltAt) (record { halts = refl; rests = λ halted. refl }))

-- what is known after each happening
pub record KnowsAll (asked : Bool) (k : BackSight) (w : World) : Type 0 where
  pub knows : Knowing asked k w
  pub shut : IsShut k w

-- the last line follows too: none of the others asks for a halt
at_end : (history : List Happening) (asked : Bool) (k : BackSight) (w : World) → IsFit w → IsShut k w → Knowing asked k w → KnowsAll (asked_by asked history w) (from k (lines_of history w)) (after_all history w)
at_end [] asked k w fit shut has = record { knows = has; shut = shut }
at_end (h ∷ history) asked k w fit shut has =
    let goes : Goes asked k w h = one asked k w h fit shut has in
    subst (λ (x : BackSight). KnowsAll (asked_by (asked_after asked w h) history (happens w h)) x (after_all history (happens w h))) (sym (from-append k (lines_at w h) (lines_of history (happens w h))))
    (at_end history (asked_after asked w h) (from k (lines_at w h)) (happens w h) (fit_happens w h fit) (shut_next k w h fit shut) goes.knows)

ended_runs : (config : Options) (history : List Happening) → config.indirect ≤ 960 → HaltsByCauses (ended_report_of config AllMoves history)
ended_runs config history few =
    let last = at_end history false new_back (start_of config) (fit_start config few) (λ over. absurd (true≢false (sym over))) (starts config) in
    obeys_more IsHaltAt (report_of config AllMoves history) lines.End (report_runs config history few) (record { halts = sym last.knows.due; rests = λ halted. refl })

pub report_halts : EachReportHalts
report_halts config detail history few same = report_recorded HaltsByCauses config detail history same (report_runs config history few)

pub ended_halts : EachEndedHalts
ended_halts config detail history few same = ended_recorded HaltsByCauses config detail history same (ended_runs config history few)

-- the word of each halt for a front that is gone
fit_after : (history : List Happening) (w : World) → IsFit w → IsFit (after_all history w)
fit_after [] w fit = fit
fit_after (h ∷ history) w fit = fit_after history (happens w h) (fit_happens w h fit)

pub halts_worded : EachHaltIsWorded
halts_worded config history h few =
    let fit = fit_start config few in
    let last = at_end history false new_back (start_of config) fit (λ over. absurd (true≢false (sym over))) (starts config) in
    let asked = asked_by false history (start_of config) in
    let k = from new_back (lines_of history (start_of config)) in
    let goes : Goes asked k (after_all history (start_of config)) h = one asked k (after_all history (start_of config)) h (fit_after history (start_of config) fit) last.shut last.knows in
    all_worded asked k (lines_at (after_all history (start_of config)) h) goes.follows

-- what is known of the back at the start, and after one happening more
pub known_first : (config : Options) → KnowsAll false new_back (start_of config)
known_first config = record { knows = starts config; shut = λ over. absurd (true≢false (sym over)) }

pub known_next : (asked : Bool) (k : BackSight) (w : World) (h : Happening) → IsFit w → KnowsAll asked k w → KnowsAll (asked_after asked w h) (from k (lines_at w h)) (happens w h)
known_next asked k w h fit has = let goes : Goes asked k w h = one asked k w h fit has.shut has.knows in record { knows = goes.knows; shut = shut_next k w h fit has.shut }
