-- Whatever happens, `broken` stands exactly where it is due, and each answer is the response that was read.
use Rattle.std.proofs.Common.{◌≡◌, ℕ, ◌&&◌, Bool, true, false, true≢false, if◌then◌else◌, List, [], ◌∷◌, ◌++◌, refl, sym, ap, ◌∙◌, subst, append-nil}
use Rattle.std.specs.Prelude.{Option, Some, None, Result, Ok, Err, fold}
use Rattle.std.specs.List.{AllByRecursion}
use Rattle.std.proofs.lemmas.List.Sums.{fold-append}
use Rattle.blk_base.specs.declared.config.Submission.{Submission}
use Rattle.blk_base.specs.declared.parts.End.TheVariants as end
use Rattle.blk_base.specs.declared.ask.BackAsk.{BackAsk}
use Rattle.blk_base.specs.declared.ask.BackAnswer.{BackAnswer}
use Rattle.blk_base.specs.declared.moves.BackMover.{BackMover}
use Rattle.blk_base.specs.declared.moves.BackMover.TheVariants as back_mover
use Rattle.schedule_text.specs.declared.line.Line.{Line}
use Rattle.schedule_text.specs.declared.line.Line.TheVariants as lines
use Rattle.hypervisor.specs.Hypervisor.{Hypervisor}
use Rattle.blk_base.specs.declared.moves.Move.TheVariants as moves
use Rattle.hypervisor.specs.Act.{mover_of, FrontAct, BackAct, Outcome, Took, back_act}
use Rattle.blk_front.specs.declared.stage.FrontStage.{FrontStage}
use Rattle.blk_front.specs.declared.state.FrontState.TheVariants as enter
use Rattle.blk_base.specs.declared.refusal.Refusal.{Refusal}
use Rattle.blk_front.specs.View as front
use Rattle.blk_front.specs.State.{is_open, may_enter, enters}
use Rattle.blk_front.specs.Submit.{submit_of}
use Rattle.blk_front.specs.Suspend.{resumed}
use Rattle.blk_back.specs.declared.told.BackTold.{BackTold}
use Rattle.blk_base.specs.declared.halt.Halt.{Halt}
use Rattle.blk_back.specs.Step as back_step
use Rattle.xenbus_state.specs.declared.stage.FrontBusStage.{FrontBusStage}
use Rattle.xenbus_state.specs.declared.stage.FrontBusStage.TheVariants as stage
use Rattle.xenbus_state.specs.declared.front.FrontNews.TheVariants as news
use Rattle.xenbus_state.specs.FrontView.{FrontView, suspended_at, suspended as front_suspended, closed}
use Rattle.split_model.specs.World as rings
use Rattle.split_model.specs.Happening as ring
use Rattle.split_model.specs.Shown.{front_lines, back_lines, halt_lines}
use Rattle.split_model.proofs.Acting.{back_acts, BackFence, BackSend, BackClose}
use Rattle.split_model.proofs.Outside.{IsOutside}
use Rattle.split_model.proofs.SafeFront.{submit_kept}
use Rattle.split_model.proofs.Showing.{IsTold, IsOfBack, MayShow, back_told_is, lines_are}
use Rattle.vbd_front.specs.View as front_view
use Rattle.vbd_front.specs.Step as front_step
use Rattle.vbd_back.specs.View as back_view
use Rattle.vbd_back.specs.Ask as back
use Rattle.vbd_back.specs.Step as vbd_back_step
use Rattle.vbd_model.specs.World.{World, frontend_of, backend_of}
use Rattle.vbd_model.specs.Happening.{Happening, FrontMoves, BackMoves, JobMoves, Closes, Submits, Suspends, happens, lines_at, lines_of, after, front_turn, back_turn, renewed_bus, does, front_bus}
use Rattle.vbd_model.specs.News.{news_lines}
use Rattle.vbd_model.specs.Fit.{IsFit}
use Rattle.vbd_model.proofs.Tight.{IsTight, tight_after}
use Rattle.negotiation_laws.proofs.Choices.{closed_cases}
use Rattle.vbd_laws.specs.Moves.{IsFrontMove, IsBackMove, IsClose, IsNoMove, close_lines}
use Rattle.vbd_laws.specs.Breaks.{FrontSight, after_line, broken_by, is_of_front}
use Rattle.vbd_laws.specs.AnswersRead.{IsReadAfter}
use Rattle.vbd_laws.proofs.BreaksKeys.{reads_state}
use Rattle.vbd_laws.proofs.BreaksEnters.{Knows, enters_knows, submit_knows, resumed_knows}
use Rattle.line_text.proofs.Both.{both_true}
use Rattle.vbd_laws.proofs.BreaksOver.{shut_refuses}
use Rattle.vbd_laws.proofs.BreaksMoves.{AllGood, Holds, FrontGoes, front_goes}
use Rattle.vbd_laws.proofs.BreaksPlaced.{IsPlaced, closed_placed, suspended_placed}
use Rattle.vbd_laws.proofs.Fit.{fit_happens}
use Rattle.vbd_laws.proofs.MovesFront.{front_move_is, front_move_none, close_is}
use Rattle.vbd_laws.proofs.MovesBack.{back_move_is, back_move_none}
use Rattle.vbd_laws.proofs.ServedPossible.{Stands, stands_on}
use Rattle.vbd_laws.proofs.StateLinesOver.{job_stays}

-- what each happening leaves
record Goes (s : FrontSight) (w : World) (h : Happening) : Type 0 where
  good : AllGood s (lines_at w h)
  holds : Holds (fold after_line s (lines_at w h)) (happens w h)

-- a line that tells nothing of the front
record IsAside (line : Line) : Type 0 where
  same : (s : FrontSight) → after_line s line ≡ record s { due = None }
  whole : broken_by line ≡ None
  read : (s : FrontSight) → IsReadAfter s line
  other : is_of_front line ≡ false

abbrev AreAside : List Line → Type 0
AreAside ls = AllByRecursion IsAside ls

record Passes (s : FrontSight) (ls : List Line) : Type 0 where
  good : AllGood s ls
  same : fold after_line s ls ≡ s

passes : (s : FrontSight) (ls : List Line) → s.due ≡ None → AreAside ls → Passes s ls
passes s [] none all = record { good = tt; same = refl }
passes s (line ∷ ls) none all =
    let aside = all.0 in
    let here : after_line s line ≡ s = aside.same s ∙ ap (λ (d : Option ℕ). record s { due = d }) (sym none) in
    let rest : Passes s ls = passes s ls none all.1 in
    record {
      good = ((aside.whole ∙ sym none, aside.read s, λ over. aside.other), subst (λ (x : FrontSight). AllGood x ls) (sym here) rest.good);
      same = ap (λ (x : FrontSight). fold after_line x ls) here ∙ rest.same;
    }

aside_goes : (s : FrontSight) (w : World) (h : Happening) → AreAside (lines_at w h) → Holds s w → Holds s (happens w h) → Goes s w h
aside_goes s w h all holds after =
    let goes : Passes s (lines_at w h) = passes s (lines_at w h) holds.due all in
    record { good = goes.good; holds = subst (λ (x : FrontSight). Holds x (happens w h)) (sym goes.same) after }

none_goes : (s : FrontSight) (w : World) (h : Happening) → happens w h ≡ w → lines_at w h ≡ [] → Holds s w → Goes s w h
none_goes s w h world none holds = record {
  good = subst (λ (ls : List Line). AllGood s ls) (sym none) tt;
  holds = subst (λ (ls : List Line). Holds (fold after_line s ls) (happens w h)) (sym none) (subst (λ (x : World). Holds s x) (sym world) holds);
}

-- what a front that was heard has
heard : (s : FrontSight) (f : front.View) → Knows s f → Knows s (record f { told = None })
heard s f knows opened = let known = knows opened in record { agree = known.agree; at = known.at }

-- a move of the front
front_one : (s : FrontSight) (w : World) (act : Option FrontAct) → Stands w → IsTight w → Holds s w → front_turn w ≡ act → Goes s w FrontMoves
front_one s w None stands tight holds e = let is : IsNoMove w FrontMoves = front_move_none w stands.fit e in none_goes s w FrontMoves is.world is.lines holds
front_one s w (Some a) stands tight holds e =
    let is : IsFrontMove w a = front_move_is w a stands.fit e in
    let v : front_view.View = front_step.step_of (frontend_of w) a.answer in
    let modest = tight.front in
    let goes : FrontGoes s a.shown v = front_goes w s a stands modest.order holds e in
    let fits : IsFit (record { rings = record { front = (front_view.heard v).ring; back = w.rings.back; under = a.under }; front = v.bus; back = w.back }) = subst IsFit is.world (fit_happens w FrontMoves stands.fit) in
    record {
      good = subst (λ (ls : List Line). AllGood s ls) (sym is.lines) ((sym holds.due, goes.read, goes.waits), goes.good);
      holds = subst (λ (ls : List Line). Holds (fold after_line s ls) (happens w FrontMoves)) (sym is.lines) (subst (λ (x : World). Holds (fold after_line s (lines.Move a.shown ∷ (front_lines v.ring.told ++ news_lines v.news))) x) (sym is.world) (record {
        due = goes.due;
        known = heard (fold after_line (after_line s (lines.Move a.shown)) (front_lines v.ring.told ++ news_lines v.news)) v.ring goes.known;
        placed = goes.placed;
        still = goes.still fits.front;
        over = goes.over;
      }));
    }

-- a move of the back or of a job reads no word as the front
fences : (who : BackMover) → is_of_front (lines.Move (moves.Fence (mover_of who))) ≡ false
fences back_mover.Back = refl
fences (back_mover.Job k) = refl

sends : (who : BackMover) → is_of_front (lines.Move (moves.Send (mover_of who))) ≡ false
sends back_mover.Back = refl
sends (back_mover.Job k) = refl

closes_port : (who : BackMover) → is_of_front (lines.Move (moves.ClosePort (mover_of who))) ≡ false
closes_port back_mover.Back = refl
closes_port (back_mover.Job k) = refl

back_aside : (h : Hypervisor) (who : BackMover) (ask : BackAsk) (o : Outcome) (a : BackAct) → back_act h who ask o ≡ Some a → IsAside (lines.Move a.shown)
back_aside h who ask o a e = elim (back_acts h who ask o a e) as (λ by asked outcome x acts. IsAside (lines.Move x.shown)) [
  | BackFence {who} ↦ record { same = λ s. refl; whole = refl; read = λ s. tt; other = fences who }
  | BackSend {who} ↦ record { same = λ s. refl; whole = refl; read = λ s. tt; other = sends who }
  | BackClose {who} ↦ record { same = λ s. refl; whole = refl; read = λ s. tt; other = closes_port who }
  | acts ↦ record { same = λ s. refl; whole = refl; read = λ s. tt; other = refl }
]

told_aside : (t : Option BackTold) (x : BackAnswer) → AreAside (back_lines t x)
told_aside t x = back_told_is IsAside aside t x
  where
    aside : (line : Line) → IsTold line → IsOfBack line → IsAside line
    aside (lines.Effect id index) told shows = record { same = λ s. refl; whole = refl; read = λ s. tt; other = refl }
    aside (lines.EffectRead id index words) told shows = record { same = λ s. refl; whole = refl; read = λ s. tt; other = refl }
    aside (lines.Flushed id) told shows = record { same = λ s. refl; whole = refl; read = λ s. tt; other = refl }
    aside (lines.Trimmed id) told shows = record { same = λ s. refl; whole = refl; read = λ s. tt; other = refl }
    aside (lines.Fault id index) told shows = record { same = λ s. refl; whole = refl; read = λ s. tt; other = refl }
    aside (lines.Reply id status) told shows = record { same = λ s. refl; whole = refl; read = λ s. tt; other = refl }
    aside (lines.Move shown) told shows = absurd told
    aside (lines.Halt why) told shows = absurd told
    aside line told shows = absurd shows

halt_aside : (old new : Option Halt) → AreAside (halt_lines old new)
halt_aside None None = tt
halt_aside None (Some k) = (record { same = λ s. refl; whole = refl; read = λ s. tt; other = refl }, tt)
halt_aside (Some g) new = tt

both_aside : (a b : List Line) → AreAside a → AreAside b → AreAside (a ++ b)
both_aside [] b p q = q
both_aside (line ∷ a) b p q = (p.0, both_aside a b p.1 q)

nil_aside : (ls : List Line) → AreAside ls → AreAside (ls ++ [])
nil_aside ls all = subst (λ (l : List Line). AreAside l) (sym (append-nil ls)) all

back_one : (s : FrontSight) (w : World) (act : Option BackAct) → IsFit w → Holds s w → back_turn w ≡ act → Goes s w BackMoves
back_one s w None fit holds e = let is : IsNoMove w BackMoves = back_move_none w fit e in none_goes s w BackMoves is.world is.lines holds
back_one s w (Some a) fit holds e =
    let is : IsBackMove w a = back_move_is w a fit e in
    let v : back_view.View = vbd_back_step.step_of (backend_of w) a.answer in
    aside_goes s w BackMoves
    (subst (λ (ls : List Line). AreAside ls) (sym is.lines) (back_aside w.rings.under back_mover.Back (back.ask_of (backend_of w)) Took a e, both_aside (back_lines v.ring.told a.answer) (halt_lines w.rings.back.halted v.ring.halted) (told_aside v.ring.told a.answer) (halt_aside w.rings.back.halted v.ring.halted)))
    holds (subst (λ (x : World). Holds s x) (sym is.world) (record { due = holds.due; known = holds.known; placed = holds.placed; still = holds.still; over = holds.over }))

job_aside : (w : rings.World) (k : ℕ) (o : Outcome) (act : Option BackAct) → ring.job_turn w k o ≡ act → AreAside (ring.job_shows w k act)
job_aside w k o None e = tt
job_aside w k o (Some a) e = (back_aside w.under (back_mover.Job k) (back_step.job_ask_of w.back k) o a e, told_aside _ a.answer)

-- what leaves the front and its negotiation as they were
pub same_holds : (s : FrontSight) (w : World) (x : rings.World) (v : World) → v.rings.front ≡ w.rings.front → v.front ≡ w.front → Holds s w → Holds s v
same_holds s w x v ring bus holds = record {
  due = holds.due;
  known = subst (λ (f : front.View). Knows s f) (sym ring) holds.known;
  placed = subst (λ (f : FrontView). IsPlaced f.stage) (sym bus) holds.placed;
  still = subst (λ (f : front.View). reads_state v.front.stage ≡ true → front_view.is_still f.stage ≡ true) (sym ring) (subst (λ (f : FrontView). reads_state f.stage ≡ true → front_view.is_still w.rings.front.stage ≡ true) (sym bus) holds.still);
  over = λ over. subst (λ (f : front.View). is_open f.stage ≡ false) (sym ring) (holds.over over);
}

abbrev IsStill : ring.Happening → Type 0
IsStill (ring.Negotiates at move) = ⊥
IsStill x = IsOutside x

still_aside : (x : ring.Happening) (line : Line) → IsStill x → MayShow x line → IsAside line
still_aside ring.FrontMoves line still shows = absurd still
still_aside ring.BackMoves line still shows = absurd still
still_aside (ring.JobMoves number outcome) line still shows = absurd still
still_aside (ring.Negotiates at move) line still shows = absurd still
still_aside (ring.FrontEnters state) line still shows = absurd still
still_aside (ring.BackAttaches shape grefs port) line still shows = absurd still
still_aside (ring.BackHalts why) line still shows = absurd still
still_aside (ring.Submits job) line still shows = absurd still
still_aside ring.Suspends line still shows = absurd still
still_aside x (lines.Poke frame word value) still shows = record { same = λ s. refl; whole = refl; read = λ s. tt; other = refl }
still_aside x (lines.Key name text) still shows = record { same = λ s. refl; whole = refl; read = λ s. tt; other = refl }
still_aside x (lines.Word frame word value) still shows = record { same = λ s. refl; whole = refl; read = λ s. tt; other = refl }
still_aside x lines.Quiet still shows = record { same = λ s. refl; whole = refl; read = λ s. tt; other = refl }
still_aside x lines.Busy still shows = record { same = λ s. refl; whole = refl; read = λ s. tt; other = refl }
still_aside x lines.Unsettled still shows = record { same = λ s. refl; whole = refl; read = λ s. tt; other = refl }
still_aside x line still shows = absurd (assumption)

still_goes : (s : FrontSight) (w : World) (h : Happening) (x : ring.Happening) → does w h ≡ x ∷ [] → IsStill x → front_bus w h ≡ w.front → (let r : rings.World = ring.happens w.rings x in r.front) ≡ w.rings.front → Holds s w → Goes s w h
still_goes s w h x one still bus same holds =
    aside_goes s w h (rw one (nil_aside (ring.lines_at w.rings x) (lines_are IsAside w.rings x (λ line shows. still_aside x line still shows)))) holds
    (same_holds s w w.rings (happens w h) (rw one same) bus holds)

-- a submission
record IsOfSubmission (s : FrontSight) (line : Line) : Type 0 where
  whole : broken_by line ≡ None
  read : IsReadAfter s line
  none : (let u : FrontSight = after_line s line in u.due) ≡ None
  same : (let u : FrontSight = after_line s line in u.over) ≡ s.over

of_submission : (s : FrontSight) (job : Submission) (r : Result ℕ Refusal) → IsOfSubmission s (ring.submit_line job r)
of_submission s job (Ok number) = record { whole = refl; read = tt; none = refl; same = refl }
of_submission s job (Err why) = record { whole = refl; read = tt; none = refl; same = refl }

submit_goes : (s : FrontSight) (w : World) (job : Submission) → IsTight w → Holds s w → Goes s w (Submits job)
submit_goes s w job tight holds =
    let x : Result ℕ Refusal × front.View = submit_of w.rings.front job in
    let modest = tight.front in
    let shown : IsOfSubmission s (ring.submit_line job x.0) = of_submission s job x.0 in
    record {
      good = ((shown.whole ∙ sym holds.due, shown.read, λ over. shut_refuses w.rings.front job (holds.over over)), tt);
      holds = record {
        due = shown.none;
        known = submit_knows s w.rings.front job modest.size holds.known;
        placed = holds.placed;
        still = λ reads. subst (λ (t : FrontStage). front_view.is_still t ≡ true) (sym (submit_kept w.rings.front job).stage) (holds.still reads);
        over = λ over. subst (λ (t : FrontStage). is_open t ≡ false) (sym (submit_kept w.rings.front job).stage) (holds.over (sym shown.same ∙ over));
      };
    }

-- the front is asked to close
closing_goes : (s : FrontSight) (b : Bool) → s.due ≡ None → (b ≡ true → s.over ≡ false) → Passes s (news_lines (if b then Some news.Closing else None))
closing_goes s true none live = record { good = ((sym none, tt, λ over. absurd (true≢false (sym over ∙ live refl))), tt); same = ap (λ (d : Option ℕ). record s { due = d }) (sym none) }
closing_goes s false none live = record { good = tt; same = refl }

closed_stage : (v : FrontView) → (closed v).stage ≡ v.stage
closed_stage v = closed_cases (λ (u : FrontView). u.stage ≡ v.stage) v refl refl

closing_stage : (f : front.View) → (enters enter.Closing f).stage ≡ f.stage
closing_stage f = by_test (may_enter enter.Closing f)
  where
    by_test : (b : Bool) → (let x : front.View = (if b then record f { closing = true } else f) in x.stage) ≡ f.stage
    by_test true = refl
    by_test false = refl

front_closes : (s : FrontSight) (w : World) → IsFit w → Holds s w → Goes s w (Closes end.Front)
front_closes s w fit holds =
    let is : IsClose w end.Front = close_is w end.Front fit in
    let goes : Passes s (close_lines w end.Front) = closing_goes s (may_enter enter.Closing w.rings.front) holds.due live in
    record {
      good = subst (λ (ls : List Line). AllGood s ls) (sym is.lines) goes.good;
      holds = subst (λ (ls : List Line). Holds (fold after_line s ls) (happens w (Closes end.Front))) (sym is.lines)
          (subst (λ (x : FrontSight). Holds x (happens w (Closes end.Front))) (sym goes.same) (subst (λ (x : World). Holds s x) (sym is.world) (record {
            due = holds.due;
            known = heard s (enters enter.Closing w.rings.front) (enters_knows s enter.Closing w.rings.front tt holds.known);
            placed = closed_placed w.front holds.placed;
            still = λ reads. subst (λ (t : FrontStage). front_view.is_still t ≡ true) (sym (closing_stage w.rings.front)) (holds.still (sym (ap reads_state (closed_stage w.front)) ∙ reads));
            over = λ over. subst (λ (t : FrontStage). is_open t ≡ false) (sym (closing_stage w.rings.front)) (holds.over over);
          })));
    }
  where
    live : may_enter enter.Closing w.rings.front ≡ true → s.over ≡ false
    live may = by_test s.over refl
      where
        by_test : (b : Bool) → s.over ≡ b → b ≡ false
        by_test false is = refl
        by_test true is = absurd (true≢false (sym (both_true _ (is_open w.rings.front.stage) may).1 ∙ holds.over is))

-- the domain is suspended
anew_unread : (b : FrontBusStage) (v : FrontView) → v.stage ≡ b → reads_state (suspended_at b v).stage ≡ false
anew_unread stage.Closed v here = ap reads_state here
anew_unread (stage.Broken word) v here = ap reads_state here
anew_unread b v here = refl

record GoesTo (s : FrontSight) (ls : List Line) (x : World) : Type 0 where
  good : AllGood s ls
  holds : Holds (fold after_line s ls) x

suspends_goes : (s : FrontSight) (w : World) → IsTight w → Holds s w → Goes s w Suspends
suspends_goes s w tight holds = let to : GoesTo s (lines_at w Suspends) (happens w Suspends) = by_may (rings.may_suspend w.rings) in record { good = to.good; holds = to.holds }
  where
    anew : FrontSight
    anew = after_line s lines.Epoch

    front_anew : (opened : Bool) → is_open w.rings.front.stage ≡ opened → Knows anew (if opened then resumed w.rings.front else w.rings.front)
    front_anew true is = resumed_knows s w.rings.front tight.start (holds.known is)
    front_anew false shut = λ opened. absurd (true≢false (sym opened ∙ shut))

    placed_anew : (opened : Bool) → (let v : FrontView = (if opened then front_suspended w.front else w.front) in IsPlaced v.stage)
    placed_anew true = suspended_placed w.front holds.placed
    placed_anew false = holds.placed

    still_anew : (opened : Bool) → (let v : FrontView = (if opened then front_suspended w.front else w.front) in let f : front.View = (if opened then resumed w.rings.front else w.rings.front) in reads_state v.stage ≡ true → front_view.is_still f.stage ≡ true)
    still_anew true = λ reads. absurd (true≢false (sym reads ∙ anew_unread w.front.stage w.front refl))
    still_anew false = holds.still

    over_anew : (opened : Bool) → opened ≡ false → is_open w.rings.front.stage ≡ false → (let f : front.View = (if opened then resumed w.rings.front else w.rings.front) in is_open f.stage ≡ false)
    over_anew true same shut = absurd (true≢false same)
    over_anew false same shut = shut

    by_may : (may : Bool) → GoesTo s ((if may then lines.Epoch ∷ [] else []) ++ []) (record {
      rings = if may then rings.suspended w.rings else w.rings;
      front = if may && is_open w.rings.front.stage then front_suspended w.front else w.front;
      back = if may then renewed_bus (is_open w.rings.front.stage) w.back else w.back;
    })
    by_may true = record {
      good = ((sym holds.due, tt, λ over. refl), tt);
      holds = record {
        due = refl;
        known = front_anew (is_open w.rings.front.stage) refl;
        placed = placed_anew (is_open w.rings.front.stage);
        still = still_anew (is_open w.rings.front.stage);
        over = λ over. over_anew (is_open w.rings.front.stage) (holds.over over) (holds.over over);
      };
    }
    by_may false = record { good = tt; holds = record { due = holds.due; known = holds.known; placed = holds.placed; still = holds.still; over = holds.over } }

-- whatever happens
one : (s : FrontSight) (w : World) (h : Happening) → Stands w → IsTight w → Holds s w → Goes s w h
one s w FrontMoves stands tight holds = front_one s w (front_turn w) stands tight holds refl
one s w BackMoves stands tight holds = back_one s w (back_turn w) stands.fit holds refl
one s w (JobMoves k o) stands tight holds =
    aside_goes s w (JobMoves k o) (nil_aside (ring.job_shows w.rings k (ring.job_turn w.rings k o)) (job_aside w.rings k o (ring.job_turn w.rings k o) refl)) holds
    (same_holds s w w.rings (happens w (JobMoves k o)) (job_stays w.rings k (ring.job_turn w.rings k o)) refl holds)
one s w (Closes end.Front) stands tight holds = front_closes s w stands.fit holds
one s w (Closes end.Back) stands tight holds = aside_goes s w (Closes end.Back) tt holds (same_holds s w w.rings (happens w (Closes end.Back)) refl refl holds)
one s w (Submits job) stands tight holds = submit_goes s w job tight holds
one s w Suspends stands tight holds = suspends_goes s w tight holds
one s w h stands tight holds = still_goes s w h _ refl tt refl refl holds

both_good : (s : FrontSight) (a b : List Line) → AllGood s a → AllGood (fold after_line s a) b → AllGood s (a ++ b)
both_good s [] b p q = q
both_good s (line ∷ a) b p q = (p.0, both_good (after_line s line) a b p.1 q)

pub run : (s : FrontSight) (history : List Happening) (w : World) → Stands w → IsTight w → Holds s w → AllGood s (lines_of history w) × ((let x : FrontSight = fold after_line s (lines_of history w) in x.due) ≡ None)
run s [] w stands tight holds = (tt, holds.due)
run s (h ∷ history) w stands tight holds =
    let goes : Goes s w h = one s w h stands tight holds in
    let rest = run (fold after_line s (lines_at w h)) history (happens w h) (stands_on w h stands) (tight_after (h ∷ []) w tight) goes.holds in (
      both_good s (lines_at w h) (lines_of history (happens w h)) goes.good rest.0,
      subst (λ (x : FrontSight). x.due ≡ None) (sym (fold-append after_line s (lines_at w h) (lines_of history (happens w h)))) rest.1,
    )
