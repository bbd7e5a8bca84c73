-- A front that is closed or broken: no state is entered any more, its negotiation doesn't speak, and no submission is accepted.
use Rattle.std.proofs.Common.{inl, inr, ◌≡◌, ℕ, ◌==◌, ◌&&◌, Bool, true, false, true≢false, not, if◌then◌else◌, List, [], ◌∷◌, refl, sym, ap, ◌∙◌}
use Rattle.std.specs.Prelude.{Option, Some, None, Err}
use Rattle.std.proofs.Math.Bool.{and-false}
use Rattle.blk_base.specs.declared.refusal.Refusal.TheVariants as refusal
use Rattle.line_text.proofs.Both.{both_true}
use Rattle.blk_base.specs.declared.config.Submission.{Submission}
use Rattle.blk_base.specs.declared.ask.FrontAnswer.{FrontAnswer}
use Rattle.blk_base.specs.declared.moves.Move.{Move}
use Rattle.blk_base.specs.declared.moves.Move.TheVariants as moves
use Rattle.schedule_text.specs.declared.line.Line.{Line}
use Rattle.blk_front.specs.declared.stage.FrontStage.{FrontStage}
use Rattle.blk_front.specs.declared.stage.FrontStage.TheVariants as stage
use Rattle.blk_front.specs.declared.state.FrontState.{FrontState}
use Rattle.blk_front.specs.declared.state.FrontState.TheVariants as enter
use Rattle.blk_front.specs.declared.state.Offers.{Offers}
use Rattle.blk_front.specs.State.{is_open, is_made, may_enter, in_state, enters}
use Rattle.blk_front.specs.Submit.{is_ready, unfinished, wish_of, submit_one, submit_of}
use Rattle.blk_front.specs.Suspend.{is_left}
use Rattle.blk_front.specs.Step.{step_at}
use Rattle.blk_front.specs.View.{View}
use Rattle.xenbus_state.specs.declared.state.BusState.TheVariants as state
use Rattle.xenbus_state.specs.declared.stage.FrontBusStage.{FrontBusStage}
use Rattle.xenbus_state.specs.declared.stage.FrontBusStage.TheVariants as bus_stage
use Rattle.xenbus_state.specs.declared.front.FrontBusAsk.{FrontBusAsk}
use Rattle.xenbus_state.specs.declared.front.FrontNews.{FrontNews}
use Rattle.xenbus_state.specs.declared.front.FrontNews.TheVariants as news
use Rattle.xenbus_state.specs.FrontView.{FrontView}
use Rattle.xenbus_state.specs.FrontAsk as bus
use Rattle.split_model.specs.Happening.{submit_line}
use Rattle.split_model.proofs.States.{enters_cases}
use Rattle.vbd_front.specs.View.{is_broken, is_still, is_unoccupied}
use Rattle.vbd_front.specs.Ask as front
use Rattle.vbd_front.specs.Step.{state_of_news, states_entered, states_due, all_entered, news_told}
use Rattle.vbd_model.specs.Fit.{IsUnbegun, FrontGoesWith}
use Rattle.vbd_laws.specs.Breaks.{FrontSight, with_word, with_producer, after_move, is_of_front}
use Rattle.vbd_laws.proofs.BreaksEnters.{initialised_open, made_open}
use Rattle.vbd_laws.proofs.FitFrontBus.{rests_open}
use Rattle.vbd_laws.proofs.FitFrontClose.{bare_open}

-- a move tells nothing of that
pub over_same : (s : FrontSight) (m : Move) → (let u : FrontSight = after_move s m in u.over) ≡ s.over
over_same s (moves.FrontWrite frame word value) = by_test ((frame == 2) && (word == 0))
  where
    by_test : (b : Bool) → (let u : FrontSight = (if b then with_producer s value else with_word s frame word value) in u.over) ≡ s.over
    by_test true = refl
    by_test false = refl
over_same s m = refl

-- what the negotiation makes happen tells it
abbrev pub over_by : Option FrontNews → Bool → Bool
over_by (Some news.Closed) over = true
over_by (Some (news.Broken word)) over = true
over_by n over = over

-- a state that is entered leaves it closed or broken
in_state_shut : (state : FrontState) (v : View) → may_enter state v ≡ true → is_open v.stage ≡ false → is_open (in_state state v).stage ≡ false
in_state_shut (enter.Connected offers) v may shut = absurd (true≢false (sym (initialised_open v.stage may) ∙ shut))
in_state_shut enter.Leaving v may shut = absurd (true≢false (sym (made_open v.stage (both_true _ (is_made v.stage) may).1) ∙ shut))
in_state_shut enter.Closed v may shut = refl
in_state_shut (enter.Broken word) v may shut = refl
in_state_shut other v may shut = shut

enters_shut : (state : FrontState) (v : View) → is_open v.stage ≡ false → is_open (enters state v).stage ≡ false
enters_shut state v shut = enters_cases (λ (x : View) (shown : List Line). is_open x.stage ≡ false) state v (λ may. in_state_shut state v may shut) shut

all_shut : (states : List FrontState) (v : View) → is_open v.stage ≡ false → is_open (all_entered states v).stage ≡ false
all_shut [] v shut = shut
all_shut (state ∷ states) v shut = all_shut states (enters state v) (enters_shut state v shut)

-- so it is once that has happened
pub news_shut : (offers : Offers) (n : Option FrontNews) (due : FrontBusAsk) (order : ℕ) (v : View) → over_by (news_told offers n v) false ≡ true → is_open (all_entered (states_entered offers n due order) v).stage ≡ false
news_shut offers None due order v over = absurd (true≢false (sym over))
news_shut offers (Some news.Ready) due order v over = by_test (may_enter (state_of_news offers news.Ready) v) over
  where
    by_test : {P : Type 0} (b : Bool) → over_by (if b then Some news.Ready else None) false ≡ true → P
    by_test true over = absurd (true≢false (sym over))
    by_test false over = absurd (true≢false (sym over))
news_shut offers (Some news.Closing) due order v over = by_test (may_enter (state_of_news offers news.Closing) v) over
  where
    by_test : {P : Type 0} (b : Bool) → over_by (if b then Some news.Closing else None) false ≡ true → P
    by_test true over = absurd (true≢false (sym over))
    by_test false over = absurd (true≢false (sym over))
news_shut offers (Some news.Closed) due order v over = all_shut (states_due due order) (enters enter.Closed v) (by_test (may_enter enter.Closed v) refl over)
  where
    by_test : (b : Bool) → may_enter enter.Closed v ≡ b → over_by (if b then Some news.Closed else None) false ≡ true → is_open (enters enter.Closed v).stage ≡ false
    by_test true may over = ap (λ (b : Bool). is_open (let x : View = (if b then in_state enter.Closed v else v) in x.stage)) may
    by_test false may over = absurd (true≢false (sym over))
news_shut offers (Some (news.Broken word)) due order v over = all_shut (states_due due order) (enters (enter.Broken word) v) (by_test (may_enter (enter.Broken word) v) refl over)
  where
    by_test : (b : Bool) → may_enter (enter.Broken word) v ≡ b → over_by (if b then Some (news.Broken word) else None) false ≡ true → is_open (enters (enter.Broken word) v).stage ≡ false
    by_test true may over = ap (λ (b : Bool). is_open (let x : View = (if b then in_state (enter.Broken word) v else v) in x.stage)) may
    by_test false may over = absurd (true≢false (sym over))

-- its negotiation speaks only while it is open
unbegun_open : (r : FrontStage) → IsUnbegun r → is_open r ≡ true
unbegun_open r (inl begins) = ap is_open begins
unbegun_open r (inr left) = by_stage r left
  where
    by_stage : (r : FrontStage) → is_left r ≡ true → is_open r ≡ true
    by_stage (stage.LeftData n) left = refl
    by_stage r left = absurd (true≢false (sym left))

broken_busy : (r : FrontStage) → is_broken r ≡ true → is_still r ≡ false
broken_busy (stage.Broken word) broken = refl
broken_busy r broken = absurd (true≢false (sym broken))

pub speaks_open : (v : FrontView) (f : View) (b : FrontBusStage) → v.stage ≡ b → FrontGoesWith b v f.stage → front.speaks (bus.ask_of v (is_unoccupied f)) ≡ true → is_open f.stage ≡ true
speaks_open v f bus_stage.Start here goes says = unbegun_open f.stage goes.1
speaks_open v f bus_stage.Rest here (inl rests) says = rests_open v.state v.gone v.port f.stage rests
speaks_open v f bus_stage.Rest here (inr broken) says = absurd (true≢false (sym says ∙ silent))
  where
    idle : is_unoccupied f ≡ false
    idle = ap (λ (b : Bool). unfinished f == 0 && b) (broken_busy f.stage broken) ∙ and-false (unfinished f == 0)

    rest : (closing : Bool) → front.speaks (bus.ask_at (if closing && false then bus.closing_stage v.state v else bus_stage.Rest) v) ≡ false
    rest true = refl
    rest false = refl

    silent : front.speaks (bus.ask_of v (is_unoccupied f)) ≡ false
    silent =
        ap (λ (i : Bool). front.speaks (bus.ask_of v i)) idle
        ∙ (ap (λ (s : FrontBusStage). front.speaks (bus.ask_at (bus.due_at s v false) v)) here ∙ rest v.closing)
speaks_open v f bus_stage.ReadState here goes says = rests_open v.state v.gone v.port f.stage goes
speaks_open v f (bus_stage.ReadFeature k) here goes says = ap is_open goes.1
speaks_open v f (bus_stage.Publish k) here goes says = ap is_open goes.1
speaks_open v f (bus_stage.ReadFact k) here goes says = ap is_open goes.1
speaks_open v f (bus_stage.WriteState state.Initialised) here goes says = ap is_open goes.1
speaks_open v f (bus_stage.WriteState state.Connected) here goes says = ap is_open goes.1
speaks_open v f (bus_stage.WriteState state.Closed) here goes says = bare_open f.stage goes.1
speaks_open v f (bus_stage.WriteState own) here goes says = absurd goes
speaks_open v f b here goes says = absurd (true≢false (sym says ∙ ap (λ (s : FrontBusStage). front.speaks (bus.ask_at (bus.due_at s v (is_unoccupied f)) v)) here))

-- it has no move but to wait, and is told nothing
pub shut_told : (t : FrontStage) (v : View) (x : FrontAnswer) → is_open t ≡ false → (step_at t v x).told ≡ v.told
shut_told stage.Closed v x shut = refl
shut_told (stage.Broken word) v x shut = refl
shut_told t v x shut = absurd (true≢false shut)

-- and refuses what is submitted
shut_unready : (t : FrontStage) → is_open t ≡ false → is_ready t ≡ false
shut_unready stage.Closed shut = refl
shut_unready (stage.Broken word) shut = refl
shut_unready t shut = absurd (true≢false shut)

pub shut_refuses : (v : View) (job : Submission) → is_open v.stage ≡ false → is_of_front (submit_line job (submit_of v job).0) ≡ false
shut_refuses v job shut = by_test (v.last == 4294967295) v.closing (is_ready v.stage) (shut_unready v.stage shut)
  where
    by_test : (spent closing ready : Bool) → ready ≡ false → is_of_front (submit_line job (if spent then (Err refusal.Spent, v) else (if closing then (Err refusal.Closing, v) else (if not ready then (Err refusal.NotReady, v) else submit_one v (wish_of v.offers job)))).0) ≡ false
    by_test true closing ready none = refl
    by_test false true ready none = refl
    by_test false false true none = absurd (true≢false none)
    by_test false false false none = refl
