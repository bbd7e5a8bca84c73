-- A move of the front, with what follows it: `broken` stands where it is due, and an answer is the response that was read.
use Rattle.std.proofs.Common.{◌⊎◌, inl, inr, ◌≡◌, ℕ, ◌≤◌, Bool, true, false, true≢false, if◌then◌else◌, List, [], ◌∷◌, ◌++◌, length, ◌==◌, refl, sym, ap, ◌∙◌, subst, append-nil}
use Rattle.std.specs.Prelude.{Option, Some, None, fold}
use Rattle.std.specs.List.{AllByRecursion}
use Rattle.blk_base.specs.declared.ask.FrontAsk.{FrontAsk}
use Rattle.blk_base.specs.declared.ask.FrontAsk.TheVariants as front_ask
use Rattle.blk_base.specs.declared.ask.FrontAnswer.{FrontAnswer}
use Rattle.blk_base.specs.declared.moves.Move.{Move}
use Rattle.blk_base.specs.declared.moves.Move.TheVariants as moves
use Rattle.blk_base.specs.declared.moves.Mover.TheVariants as mover
use Rattle.schedule_text.specs.declared.line.Line.{Line}
use Rattle.schedule_text.specs.declared.line.Line.TheVariants as lines
use Rattle.hypervisor.specs.Act.{FrontAct, front_act}
use Rattle.blk_front.specs.declared.stage.FrontStage.{FrontStage}
use Rattle.blk_front.specs.declared.stage.FrontStage.TheVariants as ring_stage
use Rattle.blk_front.specs.declared.state.FrontState.{FrontState}
use Rattle.blk_front.specs.declared.told.Told.{Told}
use Rattle.blk_front.specs.declared.told.Told.TheVariants as told
use Rattle.blk_front.specs.View as ring
use Rattle.blk_front.specs.Ask as ring_asks
use Rattle.blk_front.specs.Step as ring_step
use Rattle.blk_front.specs.State.{is_open, enters}
use Rattle.xenbus_state.specs.declared.front.FrontBusAsk.{FrontBusAsk}
use Rattle.xenbus_state.specs.declared.front.FrontBusAsk.TheVariants as bus_ask
use Rattle.xenbus_state.specs.declared.front.FrontNews.{FrontNews}
use Rattle.xenbus_state.specs.declared.front.FrontNews.TheVariants as news
use Rattle.xenbus_state.specs.FrontView.{FrontView}
use Rattle.xenbus_state.specs.FrontAsk as bus
use Rattle.split_model.specs.Happening as ring_happens
use Rattle.split_model.specs.Shown.{front_lines}
use Rattle.split_model.proofs.SafeActs.{front_wait, front_keys, AsksFrontKey, IsKeyMove}
use Rattle.vbd_front.specs.View as front_view
use Rattle.vbd_front.specs.Ask as front
use Rattle.vbd_front.specs.Step as front_step
use Rattle.vbd_model.specs.World.{World, frontend_of}
use Rattle.vbd_model.specs.Happening.{front_turn}
use Rattle.vbd_model.specs.News.{news_lines}
use Rattle.vbd_model.specs.Fit.{IsFit, FrontGoesWith}
use Rattle.vbd_laws.specs.Breaks.{FrontSight, due_after, after_move, after_line, broken_by, is_of_front}
use Rattle.vbd_laws.proofs.BreaksOver.{over_same, over_by, news_shut, speaks_open, shut_told}
use Rattle.std.proofs.lemmas.Option.{none-some}
use Rattle.xenbus_state.specs.FrontView.{ring_order}
use Rattle.vbd_laws.specs.AnswersRead.{IsReadAfter}
use Rattle.vbd_laws.proofs.BreaksRing.{word_of_told, AnswerIsRead, RingGoes, calm}
use Rattle.vbd_laws.proofs.BreaksStages.{ring_goes}
use Rattle.vbd_laws.proofs.BreaksKeys.{word_of_news, reads_state, due_reading, due_state, open_reading, idle_owes, key_due}
use Rattle.vbd_laws.proofs.BreaksEnters.{Knows, enters_knows}
use Rattle.vbd_laws.proofs.BreaksStill.{is_watched, is_resting, spoken_unread, followed_unread, waited_unread, watched_still, rests_still, ready_moves, reading_speaks, still_unleft, reading_rests}
use Rattle.vbd_laws.proofs.BreaksPlaced.{IsPlaced, due_placed, told_placed, followed_placed, waited_placed}
use Rattle.vbd_laws.proofs.FitFront.{asks_cases}
use Rattle.vbd_laws.proofs.FitFrontBus.{rests_open, open_whole}
use Rattle.vbd_laws.proofs.MovesFront.{entered_told}
use Rattle.vbd_laws.proofs.MovesTurns.{front_asks, front_cases, front_spoken}
use Rattle.vbd_laws.proofs.NegotiatedAgreed.{keeps_order}
use Rattle.vbd_laws.proofs.ServedPossible.{Stands, IsWord, same_is, entered_words}

-- what each line obeys after those before it
abbrev pub IsGood : FrontSight → Line → Type 0
IsGood s line = (broken_by line ≡ s.due) × IsReadAfter s line × (s.over ≡ true → is_of_front line ≡ false)

abbrev pub AllGood : FrontSight → List Line → Type 0
AllGood s [] = Unit {0}
AllGood s (line ∷ ls) = IsGood s line × AllGood (after_line s line) ls

-- what is known of the machine after these lines
pub record Holds (s : FrontSight) (w : World) : Type 0 where
  pub due : s.due ≡ None
  pub known : Knows s w.rings.front
  pub placed : IsPlaced w.front.stage
  pub still : reads_state w.front.stage ≡ true → front_view.is_still w.rings.front.stage ≡ true
  pub over : s.over ≡ true → is_open w.rings.front.stage ≡ false

-- what its end of the ring tells
pub told_good : (u : FrontSight) (t : Option Told) → u.due ≡ word_of_told t → AnswerIsRead u.response t → (u.over ≡ true → t ≡ None) → AllGood u (front_lines t) × ((let x : FrontSight = fold after_line u (front_lines t) in x.due) ≡ None)
told_good u None due read live = (tt, due)
told_good u (Some (told.Answer id status)) due read live = (((sym due, read, λ over. absurd (none-some _ (sym (live over)))), tt), refl)
told_good u (Some other) due read live = (((sym due, tt, λ over. absurd (none-some _ (sym (live over)))), tt), refl)

-- and its negotiation
pub news_good : (u : FrontSight) (n : Option FrontNews) → u.due ≡ word_of_news n → u.over ≡ false → AllGood u (news_lines n) × (fold after_line u (news_lines n) ≡ record u { over = over_by n u.over; due = None })
news_good u None due live = (tt, ap (λ (d : Option ℕ). record u { due = d }) due)
news_good u (Some news.Ready) due live = (((sym due, tt, λ over. absurd (true≢false (sym over ∙ live))), tt), refl)
news_good u (Some news.Closing) due live = (((sym due, tt, λ over. absurd (true≢false (sym over ∙ live))), tt), refl)
news_good u (Some news.Closed) due live = (((sym due, tt, λ over. absurd (true≢false (sym over ∙ live))), tt), refl)
news_good u (Some (news.Broken word)) due live = (((sym due, tt, λ over. absurd (true≢false (sym over ∙ live))), tt), refl)

-- where a line tells that its end of the ring is closed or broken it was, or that is told
told_over : (u : FrontSight) (t : Option Told) → (let x : FrontSight = fold after_line u (front_lines t) in x.over) ≡ true → (u.over ≡ true) ⊎ ((word_of_told t ≡ None) → ⊥)
told_over u None over = inl over
told_over u (Some (told.Answer id status)) over = inl over
told_over u (Some (told.Sector id index words)) over = inl over
told_over u (Some (told.Broken word)) over = inr (λ none. none-some word (sym none))

-- a move, and the lines after it
pub record FrontGoes (s : FrontSight) (shown : Move) (v : front_view.View) : Type 0 where
  pub read : IsReadAfter s (lines.Move shown)
  pub good : AllGood (after_line s (lines.Move shown)) (front_lines v.ring.told ++ news_lines v.news)
  pub due : (let x : FrontSight = fold after_line (after_line s (lines.Move shown)) (front_lines v.ring.told ++ news_lines v.news) in x.due) ≡ None
  pub known : Knows (fold after_line (after_line s (lines.Move shown)) (front_lines v.ring.told ++ news_lines v.news)) v.ring
  pub placed : IsPlaced v.bus.stage
  pub still : FrontGoesWith v.bus.stage v.bus v.ring.stage → reads_state v.bus.stage ≡ true → front_view.is_still v.ring.stage ≡ true
  pub waits : s.over ≡ true → is_of_front (lines.Move shown) ≡ false
  pub over : (let x : FrontSight = fold after_line (after_line s (lines.Move shown)) (front_lines v.ring.told ++ news_lines v.news) in x.over) ≡ true → is_open v.ring.stage ≡ false

-- a move on a key shows no word
record IsOfKey (s : FrontSight) (m : Move) : Type 0 where
  same : after_move s m ≡ s
  read : IsReadAfter s (lines.Move m)

key_moves : (s : FrontSight) (m : Move) → IsKeyMove mover.Front m → IsOfKey s m
key_moves s (moves.Watch who path) is = record { same = refl; read = tt }
key_moves s (moves.Watched who path) is = record { same = refl; read = tt }
key_moves s (moves.GetKey who path text) is = record { same = refl; read = tt }
key_moves s (moves.SetKey who path text) is = record { same = refl; read = tt }
key_moves s m is = absurd is

asks_key : (b : FrontBusAsk) → front.speaks b ≡ true → AsksFrontKey (front.key_ask b)
asks_key = front_spoken (λ b. AsksFrontKey (front.key_ask b)) tt tt (λ key. tt) (λ s. tt) (λ key value. tt)

-- the states that its end of the ring enters
all_know : (n : ℕ) (states : List FrontState) (f : ring.View) (s : FrontSight) → f.shape.order ≡ n → AllByRecursion (IsWord n) states → Knows s f → Knows s (front_step.all_entered states f)
all_know n [] f s own are knows = knows
all_know n (state ∷ states) f s own are knows =
    let same = same_is n f.shape.order state own are.0 in
    all_know n states (enters state f) s (keeps_order state f same ∙ own) are.1 (enters_knows s state f same knows)

known_at : (s : FrontSight) (over : Bool) (d : Option ℕ) (f : ring.View) → Knows s f → Knows (record s { over = over; due = d }) f
known_at s over d f knows = knows

module _ (w : World) (s : FrontSight) (a : FrontAct) (stands : Stands w) (few : w.rings.front.shape.order ≤ 4) (holds : Holds s w) (turn : front_turn w ≡ Some a) where
  fit : IsFit w
  fit = stands.fit

  abbrev idle : Bool
  idle = front_view.is_unoccupied w.rings.front

  -- its negotiation speaks
  says : front.speaks (bus.ask_of w.front idle) ≡ true → front.speaks (front_asks w) ≡ true → front_act w.rings.under (front.key_ask (bus.ask_of w.front idle)) ≡ Some a → FrontGoes s a.shown (front_step.spoken (frontend_of w) a.answer)
  says speaks asks e = record {
    read = shows.read;
    good = subst (λ (t : Option Told). AllGood u (front_lines t ++ news_lines n)) (sym quiet) told.0;
    due = subst (λ (t : Option Told). (let x : FrontSight = fold after_line u (front_lines t ++ news_lines n) in x.due) ≡ None) (sym quiet) (ap (λ (x : FrontSight). x.due) told.1);
    known = subst (λ (t : Option Told). Knows (fold after_line u (front_lines t ++ news_lines n)) (front_step.all_entered states w.rings.front)) (sym quiet)
        (subst (λ (x : FrontSight). Knows x (front_step.all_entered states w.rings.front)) (sym (told.1 ∙ ap (λ (x : FrontSight). record x { over = over_by n x.over; due = None }) shows.same))
        (known_at s (over_by n s.over) None (front_step.all_entered states w.rings.front) (all_know w.rings.front.shape.order states w.rings.front s refl (entered_words w (Some a) stands turn asks) holds.known)));
    placed = told_placed w.front idle a.answer holds.placed;
    still = λ goes reads. absurd (true≢false (sym reads ∙ spoken_unread w.rings.under w.front idle a speaks e));
    waits = λ over. absurd (true≢false (sym over ∙ live));
    over = λ over.
        news_shut (front_step.offers_of (front_step.bus_after (frontend_of w) a.answer)) (front_step.news_of (frontend_of w) a.answer) (bus.ask_of (front_step.bus_after (frontend_of w) a.answer) idle) (ring_order (front_step.bus_after (frontend_of w) a.answer)) w.rings.front
        (subst (λ (b : Bool). over_by n b ≡ true) (over_same s a.shown ∙ live)
        (sym (ap (λ (x : FrontSight). x.over) told.1) ∙ subst (λ (t : Option Told). (let x : FrontSight = fold after_line u (front_lines t ++ news_lines n) in x.over) ≡ true) quiet over));
  }
    where
      live : s.over ≡ false
      live = by_test s.over refl
        where
          by_test : (b : Bool) → s.over ≡ b → b ≡ false
          by_test false is = refl
          by_test true is = absurd (true≢false (sym (speaks_open w.front w.rings.front w.front.stage refl fit.front speaks) ∙ holds.over is))

      states : List FrontState
      states = front_step.states_after (frontend_of w) a.answer

      n : Option FrontNews
      n = (front_step.spoken (frontend_of w) a.answer).news

      u : FrontSight
      u = after_line s (lines.Move a.shown)

      quiet : (front_step.all_entered states w.rings.front).told ≡ None
      quiet = entered_told states w.rings.front ∙ fit.safe.front_told

      shows : IsOfKey s a.shown
      shows = front_keys (λ (x : FrontAct). IsOfKey s x.shown) w.rings.under (front.key_ask (bus.ask_of w.front idle)) a (asks_key (bus.ask_of w.front idle) speaks) (λ x is. key_moves s x.shown is.shown) e

      owes : reads_state (bus.due w.front idle) ≡ true → idle ≡ (length s.owed == 0)
      owes reads =
          let begun = due_state w.front idle reads in
          let opened = rests_open w.front.state w.front.gone w.front.port w.rings.front.stage (reading_rests w.front.stage w.front w.rings.front.stage fit.front begun) in
          idle_owes s w.rings.front (holds.still begun) (holds.known opened)

      due : due_after s a.shown ≡ word_of_news n
      due =
          key_due s w.rings.under (bus.due w.front idle) w.front w.rings.front idle (front_step.offers_of (front_step.bus_after (frontend_of w) a.answer)) a (due_placed w.front idle holds.placed)
          (λ reads. open_reading w.front.stage w.front w.rings.front.stage fit.front (due_reading w.front idle reads)) owes speaks e

      told : AllGood u (news_lines n) × (fold after_line u (news_lines n) ≡ record u { over = over_by n u.over; due = None })
      told = news_good u n due (over_same s a.shown ∙ live)

  speaks_first : front.speaks (front_asks w) ≡ true → front_act w.rings.under (front.key_ask (front_asks w)) ≡ Some a → FrontGoes s a.shown (front_step.spoken (frontend_of w) a.answer)
  speaks_first speaks e =
      asks_cases (λ (b : FrontBusAsk). front.speaks b ≡ true → front_act w.rings.under (front.key_ask b) ≡ Some a → FrontGoes s a.shown (front_step.spoken (frontend_of w) a.answer)) w
      (λ left says e. absurd (true≢false (sym says))) (λ other says_so e. says says_so speaks e) speaks e

  -- where it doesn't speak it doesn't read the state
  quiet_unread : front.speaks (front_asks w) ≡ false → reads_state w.front.stage ≡ false
  quiet_unread silent = by_test (reads_state w.front.stage) refl
    where
      by_test : (b : Bool) → reads_state w.front.stage ≡ b → b ≡ false
      by_test false e = refl
      by_test true e =
          absurd (true≢false (sym (ap (λ (left : Bool). front.speaks (if left then bus_ask.Wait else bus.ask_of w.front idle)) (still_unleft w.rings.front.stage (holds.still e)) ∙ reading_speaks w.front idle w.front.stage refl e) ∙ silent))

  -- its end of the ring has the move: one that is closed or broken waits
  shut_goes : (t : FrontStage) (v : ring.View) → v.stage ≡ t → v.told ≡ None → is_open t ≡ false → front_act w.rings.under (ring_asks.ask_at t v) ≡ Some a → RingGoes s a.shown (ring_step.step_at t v a.answer)
  shut_goes ring_stage.Closed v here quiet shut e = front_wait (λ (x : FrontAct). RingGoes s x.shown v) w.rings.under a (calm s _ v quiet refl tt (λ opened. absurd (true≢false (sym opened ∙ (ap is_open here ∙ shut))))) (λ path. calm s _ v quiet refl tt (λ opened. absurd (true≢false (sym opened ∙ (ap is_open here ∙ shut))))) e
  shut_goes (ring_stage.Broken word) v here quiet shut e = front_wait (λ (x : FrontAct). RingGoes s x.shown v) w.rings.under a (calm s _ v quiet refl tt (λ opened. absurd (true≢false (sym opened ∙ (ap is_open here ∙ shut))))) (λ path. calm s _ v quiet refl tt (λ opened. absurd (true≢false (sym opened ∙ (ap is_open here ∙ shut))))) e
  shut_goes t v here quiet shut e = absurd (true≢false shut)

  shut_stays : (t : FrontStage) (v : ring.View) (x : FrontAnswer) → v.stage ≡ t → is_open t ≡ false → is_open (ring_step.step_at t v x).stage ≡ false
  shut_stays ring_stage.Closed v x here shut = ap is_open here
  shut_stays (ring_stage.Broken word) v x here shut = ap is_open here
  shut_stays t v x here shut = absurd (true≢false shut)

  shut_waits : (t : FrontStage) (v : ring.View) → is_open t ≡ false → front_act w.rings.under (ring_asks.ask_at t v) ≡ Some a → is_of_front (lines.Move a.shown) ≡ false
  shut_waits ring_stage.Closed v shut e = front_wait (λ (x : FrontAct). is_of_front (lines.Move x.shown) ≡ false) w.rings.under a refl (λ path. refl) e
  shut_waits (ring_stage.Broken word) v shut e = front_wait (λ (x : FrontAct). is_of_front (lines.Move x.shown) ≡ false) w.rings.under a refl (λ path. refl) e
  shut_waits t v shut e = absurd (true≢false shut)

  goes_on : (opened : Bool) → is_open w.rings.front.stage ≡ opened → front_act w.rings.under (ring_asks.ask_of w.rings.front) ≡ Some a → RingGoes s a.shown (ring_step.step_of w.rings.front a.answer)
  goes_on true opened e = ring_goes s w.rings.front w.rings.under a fit.safe.front_told few w.rings.front.stage refl (holds.known opened) e
  goes_on false shut e = shut_goes w.rings.front.stage w.rings.front refl fit.safe.front_told shut e

  still_on : (opened watched : Bool) → is_open w.rings.front.stage ≡ opened → is_watched a.answer ≡ watched → front.speaks (front_asks w) ≡ false → front_act w.rings.under (ring_asks.ask_of w.rings.front) ≡ Some a
      → (let x : front_view.View = front_step.ring_step true (front_asks w) (frontend_of w) a.answer in FrontGoesWith x.bus.stage x.bus x.ring.stage → reads_state x.bus.stage ≡ true → front_view.is_still x.ring.stage ≡ true)
  still_on opened false is other silent e goes reads = absurd (true≢false (sym reads ∙ followed_unread (front_asks w) _ idle w.front a.answer other (quiet_unread silent)))
  still_on true true is some silent e goes reads = watched_still s w.rings.front w.rings.under a w.rings.front.stage refl (holds.known is) (open_whole w.rings.front.stage is) e some
  still_on false true is some silent e goes reads =
      absurd (true≢false (sym (rests_open _ _ _ _ (reading_rests _ _ _ goes reads)) ∙ shut_stays w.rings.front.stage w.rings.front a.answer refl is))

  moved : front.speaks (front_asks w) ≡ false → front_act w.rings.under (ring_asks.ask_of w.rings.front) ≡ Some a → FrontGoes s a.shown (front_step.ring_step true (front_asks w) (frontend_of w) a.answer)
  moved silent e = record {
    read = goes.read;
    good = subst (λ (ls : List Line). AllGood u ls) (sym (append-nil (front_lines x.told))) told.0;
    due = subst (λ (ls : List Line). (let y : FrontSight = fold after_line u ls in y.due) ≡ None) (sym (append-nil (front_lines x.told))) told.1;
    known = subst (λ (ls : List Line). Knows (fold after_line u ls) x) (sym (append-nil (front_lines x.told))) goes.known;
    placed = followed_placed (front_asks w) x.stage w.front idle a.answer holds.placed;
    still = still_on (is_open w.rings.front.stage) (is_watched a.answer) refl refl silent e;
    waits = λ over. shut_waits w.rings.front.stage w.rings.front (holds.over over) e;
    over = λ over. over_on (subst (λ (ls : List Line). (let y : FrontSight = fold after_line u ls in y.over) ≡ true) (append-nil (front_lines x.told)) over);
  }
    where
      x : ring.View
      x = ring_step.step_of w.rings.front a.answer

      u : FrontSight
      u = after_line s (lines.Move a.shown)

      goes : RingGoes s a.shown x
      goes = goes_on (is_open w.rings.front.stage) refl e

      told : AllGood u (front_lines x.told) × ((let y : FrontSight = fold after_line u (front_lines x.told) in y.due) ≡ None)
      told = told_good u x.told goes.due goes.answer (λ over. shut_told w.rings.front.stage w.rings.front a.answer (holds.over (sym (over_same s a.shown) ∙ over)) ∙ fit.safe.front_told)

      over_on : (let y : FrontSight = fold after_line u (front_lines x.told) in y.over) ≡ true → is_open x.stage ≡ false
      over_on over = by_test (is_open x.stage) refl
        where
          by_test : (b : Bool) → is_open x.stage ≡ b → b ≡ false
          by_test false is = refl
          by_test true is = elim (told_over u x.told over) [
            | inl was ↦ absurd (true≢false (sym is ∙ shut_stays w.rings.front.stage w.rings.front a.answer refl (holds.over (sym (over_same s a.shown) ∙ was))))
            | inr broke ↦ absurd (broke (goes.whole is))
          ]

  -- both wait
  waits : front.speaks (front_asks w) ≡ false → front.ring_moves (front_asks w) w.rings.front.stage ≡ false → front_act w.rings.under front_ask.Wait ≡ Some a → FrontGoes s a.shown (front_step.ring_step false (front_asks w) (frontend_of w) a.answer)
  waits silent rests e =
      front_wait (λ (x : FrontAct). FrontGoes s x.shown (front_step.ring_step false (front_asks w) (frontend_of w) x.answer)) w.rings.under a (waited_goes (moves.Event mover.Front) _ refl tt refl refl) (λ path. waited_goes (moves.Watched mover.Front path) _ refl tt refl refl) e
    where
      wait_moves : (b : FrontBusAsk) (r : FrontStage) → is_resting b ≡ true → front.ring_moves b r ≡ false → front.ring_moves bus_ask.Wait r ≡ false
      wait_moves bus_ask.Wait r is none = none
      wait_moves b r is none = absurd (true≢false (sym is))

      still_rest : (resting : Bool) (x : FrontAnswer) → is_resting (front_asks w) ≡ resting
          → (let y : FrontView = front_step.waited (front_asks w) idle w.front x in FrontGoesWith y.stage y w.rings.front.stage → reads_state y.stage ≡ true → front_view.is_still w.rings.front.stage ≡ true)
      still_rest false x is goes reads = absurd (true≢false (sym reads ∙ waited_unread (front_asks w) idle w.front x is (quiet_unread silent)))
      still_rest true x is goes reads = rests_still _ _ _ w.rings.front.stage (reading_rests _ _ _ goes reads) (λ ready. absurd (true≢false (sym (ready_moves w.rings.front.stage ready) ∙ wait_moves (front_asks w) w.rings.front.stage is rests)))

      waited_goes : (m : Move) (x : FrontAnswer) → after_move s m ≡ s → IsReadAfter s (lines.Move m) → due_after s m ≡ None → is_of_front (lines.Move m) ≡ false → FrontGoes s m (front_step.ring_step false (front_asks w) (frontend_of w) x)
      waited_goes m x same read none other = record {
        read = read;
        good = subst (λ (t : Option Told). AllGood (after_line s (lines.Move m)) (front_lines t ++ [])) (sym fit.safe.front_told) tt;
        due = subst (λ (t : Option Told). (let y : FrontSight = fold after_line (after_line s (lines.Move m)) (front_lines t ++ []) in y.due) ≡ None) (sym fit.safe.front_told) none;
        known = subst (λ (t : Option Told). Knows (fold after_line (after_line s (lines.Move m)) (front_lines t ++ [])) w.rings.front) (sym fit.safe.front_told)
            (subst (λ (y : FrontSight). Knows (record y { due = due_after s m }) w.rings.front) (sym same) (known_at s s.over (due_after s m) w.rings.front holds.known));
        placed = waited_placed (front_asks w) w.front idle x holds.placed;
        still = still_rest (is_resting (front_asks w)) x refl;
        waits = λ over. other;
        over = λ over. holds.over (sym (over_same s m) ∙ subst (λ (t : Option Told). (let y : FrontSight = fold after_line (after_line s (lines.Move m)) (front_lines t ++ []) in y.over) ≡ true) fit.safe.front_told over);
      }

  pub front_goes : FrontGoes s a.shown (front_step.step_of (frontend_of w) a.answer)
  front_goes =
      front_cases (λ (does : List ring_happens.Happening) (ask : FrontAsk) (step : FrontAnswer → front_view.View). front_act w.rings.under ask ≡ Some a → FrontGoes s a.shown (step a.answer)) w
      (λ speaks e. speaks_first speaks e) (λ silent does e. moved silent e) (λ silent rests e. waits silent rests e) turn
