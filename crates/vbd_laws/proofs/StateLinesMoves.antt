-- Lines that may follow others by the rule on the lines of the front's state, and those of its move.
use Rattle.std.proofs.Common.{◌≡◌, Bool, true, false, if◌then◌else◌, true≢false, ◌⊎◌, inl, inr, List, [], ◌∷◌, ◌++◌, refl, sym, ap, ◌∙◌, subst, append_assoc, append-nil}
use Rattle.std.specs.Prelude.{Option, Some, None}
use Rattle.std.specs.List.{AllByRecursion, list_any}
use Rattle.std.proofs.lemmas.Option.{none-some}
use Rattle.blk_base.specs.declared.ask.FrontAsk.{FrontAsk}
use Rattle.blk_base.specs.declared.ask.FrontAsk.TheVariants as front_ask
use Rattle.blk_base.specs.declared.ask.FrontAnswer.{FrontAnswer}
use Rattle.blk_base.specs.declared.moves.Move.{Move}
use Rattle.blk_base.specs.declared.moves.Move.TheVariants as moves
use Rattle.blk_base.specs.declared.moves.Mover.TheVariants as mover
use Rattle.schedule_text.specs.declared.line.Line.{Line}
use Rattle.schedule_text.specs.declared.line.Line.TheVariants as lines
use Rattle.hypervisor.specs.Hypervisor.{Hypervisor}
use Rattle.hypervisor.specs.Act.{FrontAct, front_act}
use Rattle.blk_front.specs.declared.told.Told.{Told}
use Rattle.blk_front.specs.declared.told.Told.TheVariants as front_told
use Rattle.blk_front.specs.Ask as ring_asked
use Rattle.blk_front.specs.declared.state.Offers.{Offers}
use Rattle.blk_front.specs.View as front
use Rattle.blk_front.specs.State.{is_open, may_enter}
use Rattle.blk_front.specs.Submit.{is_initialised}
use Rattle.report_rules.proofs.Obeys.{obeys_more}
use Rattle.xenbus_state.specs.declared.state.BusState.TheVariants as state
use Rattle.xenbus_state.specs.declared.stage.FrontBusStage.{FrontBusStage}
use Rattle.xenbus_state.specs.declared.stage.FrontBusStage.TheVariants as stage
use Rattle.xenbus_state.specs.declared.front.FrontBusAsk.{FrontBusAsk}
use Rattle.xenbus_state.specs.declared.front.FrontNews.{FrontNews}
use Rattle.xenbus_state.specs.declared.front.FrontNews.TheVariants as news
use Rattle.split_model.specs.Happening as ring
use Rattle.split_model.specs.Shown.{front_lines}
use Rattle.split_model.proofs.Acting.{front_acts, FrontGet, FrontSet}
use Rattle.split_model.proofs.SafeAnswers.{AsksNoKey, fronts_no_key}
use Rattle.split_model.proofs.Showing.{both_all}
use Rattle.vbd_front.specs.View as front_view
use Rattle.vbd_front.specs.Ask as front_asked
use Rattle.vbd_front.specs.Step as front_step
use Rattle.vbd_model.specs.World.{World, frontend_of}
use Rattle.vbd_model.specs.Happening.{does, front_turn}
use Rattle.vbd_model.specs.News.{news_lines}
use Rattle.vbd_model.specs.Fit.{IsFit, FrontGoesWith}
use Rattle.vbd_laws.specs.StateLines.{is_closed, StateDue, NoState, ReadyDue, ClosedDue, ClosingDue, LeavingDue, move_due, due_after, is_closing, is_entry, StateSight, new_front, after, from, said_by, Stands, StandsHere, IsStateLineAt, StandAsSaid}
use Rattle.vbd_laws.proofs.FitFront.{asks_cases}
use Rattle.vbd_laws.proofs.FitFrontBus.{rests_open, open_whole}
use Rattle.vbd_laws.proofs.StateLinesOver.{enters_open, still_over}
use Rattle.vbd_laws.proofs.StateLinesBegun.{from-append}
use Rattle.vbd_laws.proofs.StateLinesFront.{is_state, Agrees, MayTell, tells}
use Rattle.vbd_laws.proofs.MovesTurns.{front_asks, front_cases}
use Rattle.vbd_laws.proofs.MovesFront.{entered_told}
use Rattle.vbd_laws.proofs.FitFrontSpoken.{bare_whole}

-- each of these lines may follow those before it
abbrev pub AllFollow : StateSight → List Line → Type 0
AllFollow k [] = Unit {0}
AllFollow k (line ∷ ls) = StandsHere k line × AllFollow (after k line) ls

pub follows_on : (before ls : List Line) → StandAsSaid before → AllFollow (said_by before) ls → StandAsSaid (before ++ ls)
follows_on before [] obeys all = subst (λ (l : List Line). StandAsSaid l) (sym (append-nil before)) obeys
follows_on before (line ∷ ls) obeys all =
    subst (λ (l : List Line). StandAsSaid l) (append_assoc before (line ∷ []) ls)
    (follows_on (before ++ line ∷ []) ls (obeys_more IsStateLineAt before line obeys all.0) (subst (λ (k : StateSight). AllFollow k ls) (sym (from-append new_front before (line ∷ []))) all.1))

-- these may, and after them no line is due
pub record Goes (k : StateSight) (ls : List Line) : Type 0 where
  pub follows : AllFollow k ls
  pub rests : (from k ls).due ≡ NoState

-- a line that is no state of the front, after which none is due
abbrev pub is_plain : Line → Bool
is_plain lines.Ready = false
is_plain lines.Closing = false
is_plain lines.Closed = false
is_plain (lines.Move (moves.GetKey mover.Front path text)) = false
is_plain (lines.Move (moves.SetKey mover.Front path text)) = false
is_plain line = true

abbrev pub IsPlain : Line → Type 0
IsPlain line = is_plain line ≡ true

record Plain (line : Line) : Type 0 where
  entry : is_entry line ≡ false
  closing : is_closing line ≡ false
  closed : is_closed line ≡ false
  due : (begun : Bool) → due_after begun line ≡ NoState

plain_is : (line : Line) → IsPlain line → Plain line
plain_is lines.Ready is = absurd (true≢false (sym is))
plain_is lines.Closing is = absurd (true≢false (sym is))
plain_is lines.Closed is = absurd (true≢false (sym is))
plain_is (lines.Move (moves.GetKey mover.Front path text)) is = absurd (true≢false (sym is))
plain_is (lines.Move (moves.SetKey mover.Front path text)) is = absurd (true≢false (sym is))
plain_is line is = record { entry = refl; closing = refl; closed = refl; due = λ b. refl }

pub plain_may : (k : StateSight) (line : Line) → k.due ≡ NoState → IsPlain line → StandsHere k line
plain_may k line none is =
    let plain = plain_is line is in
    record {
      due = subst (λ (d : StateDue). Stands d line) (sym none) plain.entry;
      once = λ closing. absurd (true≢false (sym closing ∙ plain.closing));
      later = λ closed. absurd (true≢false (sym closed ∙ plain.closed));
      last = λ enters. absurd (true≢false (sym enters ∙ rw (plain.entry, plain.closing) refl));
    }

pub plain_goes : (k : StateSight) (ls : List Line) → k.due ≡ NoState → AllByRecursion IsPlain ls → Goes k ls
plain_goes k [] none all = record { follows = tt; rests = none }
plain_goes k (line ∷ ls) none all =
    let plain = plain_is line all.0 in
    let rest = plain_goes (after k line) ls (plain.due k.begun) all.1 in
    record { follows = (plain_may k line none all.0, rest.follows); rests = rest.rests }

pub plain_closing : (ls : List Line) → AllByRecursion IsPlain ls → list_any is_closing ls ≡ false
plain_closing [] all = refl
plain_closing (line ∷ ls) all = let plain = plain_is line all.0 in rw (plain.closing, plain_closing ls all.1) refl

-- the news that is due comes
pub news_may : (k : StateSight) (line : Line) → k.over ≡ false → Stands k.due line → (is_closing line ≡ true → k.begun ≡ false) → (is_closed line ≡ true → k.begun ≡ true) → due_after k.begun line ≡ NoState → Goes k (line ∷ [])
news_may k line going stands once later rests = record { follows = (record { due = stands; once = once; later = later; last = λ enters. going }, tt); rests = rests }

news_goes : (k : StateSight) (d : StateDue) (n : Option FrontNews) → k.over ≡ false → k.due ≡ d → Agrees k.begun d n → Goes k (news_lines n)
news_goes k NoState None going here is = record { follows = tt; rests = here }
news_goes k NoState (Some news.Ready) going here is = absurd (true≢false is)
news_goes k NoState (Some news.Closing) going here is = absurd (true≢false is)
news_goes k NoState (Some news.Closed) going here is = absurd (true≢false is)
news_goes k NoState (Some (news.Broken word)) going here is = plain_goes k (lines.Broken word ∷ []) here (refl, tt)
news_goes k ReadyDue n going here is =
    subst (λ (m : Option FrontNews). Goes k (news_lines m)) (sym is) (news_may k lines.Ready going (subst (λ (d : StateDue). Stands d lines.Ready) (sym here) refl) (λ closing. absurd (true≢false (sym closing))) (λ closed. absurd (true≢false (sym closed))) refl)
news_goes k ClosedDue n going here is =
    subst (λ (m : Option FrontNews). Goes k (news_lines m)) (sym is.0) (news_may k lines.Closed going (subst (λ (d : StateDue). Stands d lines.Closed) (sym here) refl) (λ closing. absurd (true≢false (sym closing))) (λ closed. is.1) refl)
news_goes k ClosingDue n going here is =
    subst (λ (m : Option FrontNews). Goes k (news_lines m)) (sym is.0) (news_may k lines.Closing going (subst (λ (d : StateDue). Stands d lines.Closing) (sym here) refl) (λ closing. is.1) (λ closed. absurd (true≢false (sym closed))) refl)
news_goes k LeavingDue n going here is = elim is.0 [
  | inl closes ↦ subst (λ (m : Option FrontNews). Goes k (news_lines m)) (sym closes) (news_may k lines.Closing going (subst (λ (d : StateDue). Stands d lines.Closing) (sym here) (inl refl)) (λ closing. is.1) (λ closed. absurd (true≢false (sym closed))) refl)
  | inr breaks ↦
      subst (λ (m : Option FrontNews). Goes k (news_lines m)) (sym breaks.1)
      (news_may k (lines.Broken breaks.0) going (subst (λ (d : StateDue). Stands d (lines.Broken breaks.0)) (sym here) (inr refl)) (λ closing. absurd (true≢false (sym closing))) (λ closed. absurd (true≢false (sym closed))) refl)
]

-- what the front's move tells: a state that is due, or what its end of the ring tells, and then none is due; and nothing where that isn't open
pub record Tells (b opened : Bool) (shown : Move) (x : front_view.View) : Type 0 where
  pub agrees : Agrees b (move_due b shown) x.news
  pub alone : (x.ring.told ≡ None) ⊎ ((move_due b shown ≡ NoState) × (x.news ≡ None))
  pub over : opened ≡ false → (x.ring.told ≡ None) × (x.news ≡ None)

told_plain : (t : Option Told) → AllByRecursion IsPlain (front_lines t)
told_plain None = tt
told_plain (Some (front_told.Answer id status)) = (refl, tt)
told_plain (Some (front_told.Sector id index words)) = (refl, tt)
told_plain (Some (front_told.Broken word)) = (refl, tt)

-- none is due where nothing is told
none_due : (b : Bool) (d : StateDue) → Agrees b d None → d ≡ NoState
none_due b NoState is = refl
none_due b ReadyDue is = absurd (none-some _ is)
none_due b LeavingDue is = elim is.0 [ inl closes ↦ absurd (none-some _ closes) | inr breaks ↦ absurd (none-some _ breaks.1) ]
none_due b other is = absurd (none-some _ is.0)

pub tells_goes : (k : StateSight) (opened : Bool) (shown : Move) (x : front_view.View) → k.due ≡ NoState → (k.over ≡ true → opened ≡ false) → Tells k.begun opened shown x → Goes k (lines.Move shown ∷ (front_lines x.ring.told ++ news_lines x.news))
tells_goes k opened shown x none closed is = record {
  follows = (record { due = subst (λ (d : StateDue). Stands d (lines.Move shown)) (sym none) refl; once = λ closing. absurd (true≢false (sym closing)); later = λ closed. absurd (true≢false (sym closed)); last = λ enters. absurd (true≢false (sym enters)) }, (rest k.over refl).follows);
  rests = (rest k.over refl).rests;
}
  where
    next : StateSight
    next = after k (lines.Move shown)

    rest : (b : Bool) → k.over ≡ b → Goes (after k (lines.Move shown)) (front_lines x.ring.told ++ news_lines x.news)
    rest true over =
        let quiet = is.over (closed over) in
        let idle : move_due k.begun shown ≡ NoState = none_due k.begun (move_due k.begun shown) (subst (λ (n : Option FrontNews). Agrees k.begun (move_due k.begun shown) n) quiet.1 is.agrees) in
        let start : Goes (after k (lines.Move shown)) (front_lines None ++ news_lines None) = record { follows = tt; rests = idle } in
        subst (λ (t : Option Told). Goes (after k (lines.Move shown)) (front_lines t ++ news_lines x.news)) (sym quiet.0) (subst (λ (n : Option FrontNews). Goes (after k (lines.Move shown)) (front_lines None ++ news_lines n)) (sym quiet.1) start)
    rest false going = elim is.alone [
      | inl quiet ↦ subst (λ (t : Option Told). Goes (after k (lines.Move shown)) (front_lines t ++ news_lines x.news)) (sym quiet) (news_goes (after k (lines.Move shown)) (move_due k.begun shown) x.news going refl is.agrees)
      | inr ring ↦
          subst (λ (n : Option FrontNews). Goes (after k (lines.Move shown)) (front_lines x.ring.told ++ news_lines n)) (sym ring.1)
          (plain_goes (after k (lines.Move shown)) (front_lines x.ring.told ++ []) ring.0 (both_all IsPlain (front_lines x.ring.told) [] (told_plain x.ring.told) tt))
    ]

-- its negotiation speaks: the end of the ring may enter the state
may_tell : (w : World) → IsFit w → MayTell w.front.stage w.front w.rings.front
may_tell w fit = by_stage w.front.stage fit.front
  where
    by_stage : (b : FrontBusStage) → FrontGoesWith b w.front w.rings.front.stage → MayTell b w.front w.rings.front
    by_stage stage.ReadState goes =
        let opened = rests_open w.front.state w.front.gone w.front.port w.rings.front.stage goes in (opened, fit.closing (open_whole w.rings.front.stage opened))
    by_stage (stage.WriteState state.Connected) goes = ap is_initialised goes.1
    by_stage (stage.WriteState state.Closed) goes = rw (fit.through goes.0 (bare_whole w.rings.front.stage goes.1), goes.1) refl
    by_stage b goes = tt

closed_tells : (offers : Offers) (n : Option FrontNews) (r : front.View) → is_open r.stage ≡ false → front_step.news_told offers n r ≡ None
closed_tells offers None r closed = refl
closed_tells offers (Some n) r closed = by_test (may_enter (front_step.state_of_news offers n) r) refl
  where
    by_test : (b : Bool) → may_enter (front_step.state_of_news offers n) r ≡ b → (if b then Some n else None) ≡ None
    by_test true may = absurd (true≢false (sym (enters_open (front_step.state_of_news offers n) r may) ∙ closed))
    by_test false may = refl

says : (b : Bool) (w : World) (a : FrontAct) → IsFit w → b ≡ w.rings.front.closing → front_asked.speaks (front_asks w) ≡ true → front_act w.rings.under (front_asked.key_ask (front_asks w)) ≡ Some a
    → Tells b (is_open w.rings.front.stage) a.shown (front_step.spoken (frontend_of w) a.answer)
says b w a fit same =
    asks_cases (λ (ask : FrontBusAsk). front_asked.speaks ask ≡ true → front_act w.rings.under (front_asked.key_ask ask) ≡ Some a → Tells b (is_open w.rings.front.stage) a.shown (front_step.spoken (frontend_of w) a.answer)) w
    (λ left speaks e. absurd (true≢false (sym speaks)))
    (λ none speaks e. record {
      agrees = tells b (front_view.is_unoccupied w.rings.front) (λ (x : FrontAnswer). front_step.offers_of (front_step.bus_after (frontend_of w) x)) w.front w.rings.front w.rings.under a same (may_tell w fit) speaks e;
      alone = inl (entered_told (front_step.states_after (frontend_of w) a.answer) w.rings.front ∙ fit.safe.front_told);
      over = λ closed. (
        entered_told (front_step.states_after (frontend_of w) a.answer) w.rings.front ∙ fit.safe.front_told,
        closed_tells (front_step.offers_of (front_step.bus_after (frontend_of w) a.answer)) (front_step.news_of (frontend_of w) a.answer) w.rings.front closed,
      );
    })

-- its end of the ring moves, or both wait
unkeyed : (b : Bool) (h : Hypervisor) (ask : FrontAsk) (a : FrontAct) → AsksNoKey ask → front_act h ask ≡ Some a → move_due b a.shown ≡ NoState
unkeyed b h ask a none e = (elim (front_acts h ask a e) as (λ asked x acts. AsksNoKey asked → move_due b x.shown ≡ NoState) [ FrontGet path ↦ λ none. absurd none | FrontSet path text own ↦ λ none. absurd none | acts ↦ λ none. refl ]) none

untold : (b opened : Bool) (shown : Move) (x : front_view.View) → move_due b shown ≡ NoState → x.news ≡ None → (opened ≡ false → x.ring.told ≡ None) → Tells b opened shown x
untold b opened shown x none quiet still = record { agrees = subst (λ (d : StateDue). Agrees b d x.news) (sym none) (ap is_state quiet); alone = inr (none, quiet); over = λ closed. (still closed, quiet) }

abbrev FrontOf : Bool → World → FrontAct → List ring.Happening → FrontAsk → (FrontAnswer → front_view.View) → Type 0
FrontOf b w a does ask step = front_act w.rings.under ask ≡ Some a → Tells b (is_open w.rings.front.stage) a.shown (step a.answer)

pub front_tells : (b : Bool) (w : World) (a : FrontAct) → IsFit w → b ≡ w.rings.front.closing → front_turn w ≡ Some a → Tells b (is_open w.rings.front.stage) a.shown (front_step.step_of (frontend_of w) a.answer)
front_tells b w a fit same turn =
    front_cases (FrontOf b w a) w (λ speaks e. says b w a fit same speaks e)
    (λ quiet does e. untold b (is_open w.rings.front.stage) a.shown (front_step.ring_step true (front_asks w) (frontend_of w) a.answer) (unkeyed b w.rings.under (ring_asked.ask_of w.rings.front) a (fronts_no_key w.rings.front) e) refl
    (λ closed. ap (λ (v : front.View). v.told) (still_over w.rings.front.stage w.rings.front a.answer closed) ∙ fit.safe.front_told))
    (λ quiet still e. untold b (is_open w.rings.front.stage) a.shown (front_step.ring_step false (front_asks w) (frontend_of w) a.answer) (unkeyed b w.rings.under front_ask.Wait a tt e) refl (λ closed. fit.safe.front_told)) turn
