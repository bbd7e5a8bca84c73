-- No honest end breaks the negotiation.
use Rattle.std.proofs.Common.{◌≡◌, ◌∙◌, ap, sym, subst, ℕ, ◌+◌, ◌<◌, ◌≤◌, ◌==◌, nat_lt, Bool, true, false, true≢false, List, [], ◌∷◌, refl, arith, unwrap_or, if◌then◌else◌}
use Rattle.std.specs.Prelude.{Option, None, Some, is_some}
use Rattle.blk_base.specs.declared.parts.Mapping.{Mapping}
use Rattle.key_directory.specs.Directory.{key_of}
use Rattle.key_directory.specs.Watches.{next_watch}
use Rattle.xenbus_state.specs.States.{state_number, state_read}
use Rattle.xenbus_state.specs.Tables.{front_action, back_action}
use Rattle.xenbus_state.specs.Reading.{count_read, fact_read}
use Rattle.xenbus_state.specs.Programs.{next_published}
use Rattle.xenbus_state.specs.declared.keys.BackKey.{BackKey}
use Rattle.xenbus_state.specs.declared.keys.BackKey.TheVariants as back_key
use Rattle.xenbus_state.specs.declared.keys.FrontKey.{FrontKey}
use Rattle.xenbus_state.specs.declared.offer.Features.{Features}
use Rattle.xenbus_state.specs.declared.offer.DiskFacts.{DiskFacts}
use Rattle.xenbus_state.specs.declared.state.BusState.{BusState}
use Rattle.xenbus_state.specs.declared.state.BusState.TheVariants as state
use Rattle.xenbus_state.specs.declared.stage.FrontBusStage.{FrontBusStage}
use Rattle.xenbus_state.specs.declared.stage.FrontBusStage.TheVariants as front
use Rattle.xenbus_state.specs.declared.stage.BackBusStage.{BackBusStage}
use Rattle.xenbus_state.specs.declared.stage.BackBusStage.TheVariants as back
use Rattle.xenbus_state.specs.declared.table.FrontAction.{FrontAction}
use Rattle.xenbus_state.specs.declared.table.FrontAction.TheVariants as front_act
use Rattle.xenbus_state.specs.declared.table.BackAction.{BackAction}
use Rattle.xenbus_state.specs.declared.table.BackAction.TheVariants as back_act
use Rattle.xenbus_state.specs.declared.table.BackHalt.{BackHalt}
use Rattle.xenbus_state.specs.declared.front.FrontNews.{FrontNews}
use Rattle.xenbus_state.specs.declared.front.FrontNews.TheVariants as news
use Rattle.xenbus_state.specs.declared.back.BackBusAsk.TheVariants as back_ask
use Rattle.xenbus_state.specs.FrontView.{FrontView, ring_order, pages_of, terms_of, is_broken, closed}
use Rattle.xenbus_state.specs.FrontAsk as front_asks
use Rattle.xenbus_state.specs.FrontAsk.{due, due_at, leaving, closing_stage}
use Rattle.xenbus_state.specs.FrontStep as front_step
use Rattle.xenbus_state.specs.FrontSound as front_sound
use Rattle.xenbus_state.specs.BackView.{BackView}
use Rattle.xenbus_state.specs.BackAsk as back_asks
use Rattle.xenbus_state.specs.BackReading as reading
use Rattle.xenbus_state.specs.BackStep as back_step
use Rattle.xenbus_state.specs.BackSound.{IsPlaced}
use Rattle.xenbus_state.proofs.Early.{resting_early}
use Rattle.negotiation_laws.specs.Negotiation.{Negotiation, front_path, back_path, front_state, back_state, front_answered, back_answered, front_woken}
use Rattle.negotiation_laws.specs.Happening.{Happening, FrontMoves, FrontCloses, IsServed, AreServed, happened, after}
use Rattle.negotiation_laws.specs.Within.{HavePorts}
use Rattle.negotiation_laws.specs.Run.{now, begins}
use Rattle.negotiation_laws.specs.Said.{front_texts, back_texts}
use Rattle.negotiation_laws.specs.Laws.{gone_halt, BackHaltsAsTheFrontIsGone, FrontBreaksOnlyUnserved, FrontIsUnbroken}
use Rattle.negotiation_laws.proofs.Choices.{closed_cases, due_cases, either}
use Rattle.negotiation_laws.proofs.Shown.{state_shown}
use Rattle.negotiation_laws.proofs.FrontActs as front_acts
use Rattle.negotiation_laws.proofs.BackActs as back_acts
use Rattle.negotiation_laws.proofs.FrontSteps as front_steps
use Rattle.negotiation_laws.proofs.FrontSteps.{due_holds, feature_holds, fact_holds}
use Rattle.negotiation_laws.proofs.BackSteps.{key_holds}
use Rattle.negotiation_laws.proofs.Holds.{Holds, start_holds, happening_holds, back_shows, front_shows, front_acts_now, due_timely, acts_at}
use Rattle.negotiation_laws.proofs.Found.{run_holds}
use Rattle.negotiation_laws.proofs.Subjects.{IsFrontState, state_needs, serves, FrontHolds, BackHolds}

-- what is none is not some
some_other : {A : Type 0} (x : A) → None ≡ Some x → ⊥
some_other {A} x e = true≢false (sym (ap (λ (o : Option A). is_some o) e))

some_same : {A : Type 0} (x y : A) → Some x ≡ Some y → y ≡ x
some_same {A} x y e = sym (ap (λ (o : Option A). unwrap_or o x) e)

-- a front that is on its way out and still reads has written Closing
pub is_closing : (own : BusState) → IsFrontState own → 5 ≤ state_number own → state_number own < 6 → own ≡ state.Closing
is_closing state.Closing h late low = refl
is_closing state.Initialising h late low = absurd (omega arith)
is_closing state.Initialised h late low = absurd (omega arith)
is_closing state.Connected h late low = absurd (omega arith)
is_closing state.Closed h late low = absurd (omega arith)
is_closing own h late low = absurd h

-- the back's halts
record HaltsGone (v : BackView) (fs : BusState) (reason : BackHalt) : Type 0 where
  late : 5 ≤ state_number fs
  before : state_number v.state < 6
  same : reason ≡ gone_halt v.unplugged fs

acted_halts : (act : BackAction) (v : BackView) (fs : BusState) (reason : BackHalt) → state_number v.state < 6 → back_acts.ActsFor act v.state fs v.unplugged
    → back_step.action_halt act ≡ Some reason → HaltsGone v fs reason
acted_halts (back_act.Halt why) v fs reason low acts e = record { late = acts.0; before = low; same = some_same why reason e ∙ acts.1 }
acted_halts other v fs reason low acts e = absurd (some_other reason e)

module _ (f : Features) (d : DiskFacts) (t : Negotiation) where
  state_halts : (reason : BackHalt) → state_number t.back.state < 6
      → back_acts.ActsFor (back_action t.back.state t.back.unplugged (Some t.front.state)) t.back.state t.front.state t.back.unplugged → Holds f d t
      → back_step.action_halt (back_action t.back.state t.back.unplugged (state_read (key_of t.keys.keys front_state))) ≡ Some reason
      → HaltsGone t.back t.front.state reason
  state_halts reason low acts h e =
      let read = subst (λ (r : Option BusState). back_step.action_halt (back_action t.back.state t.back.unplugged r) ≡ Some reason) (state_shown (key_of t.keys.keys front_state) t.front.state (front_shows f d t h).state) e in
      acted_halts (back_action t.back.state t.back.unplugged (Some t.front.state)) t.back t.front.state reason low acts read

  key_halts : (k : FrontKey) (reason : BackHalt) (o : Option BackView) (u : BackView) (n : ℕ) → u.state ≡ state.InitWait
      → serves (back_step.kept_or_halted o u).stage (back_step.kept_or_halted o u).state ≡ true → back_step.key_halt k o ≡ Some reason
      → HaltsGone t.back t.front.state reason
  key_halts k reason None u n own goes e = absurd (true≢false (sym (subst (λ (s : BusState). serves back.UnmapOthers s ≡ true) own goes)))
  key_halts k reason (Some w) u n own goes e = absurd (some_other reason e)

  halts_at : (s : BackBusStage) (page : Mapping) (reason : BackHalt) → t.back.stage ≡ s → IsPlaced s t.back
      → BackHolds s t.back (state_number t.front.state) t.front.port (terms_of t.front) f d (back_texts t.keys.keys) → Holds f d t
      → back_step.halt_at s (back_step.at s t.back) (back_answered (back_asks.ask_at s t.back) page t.keys) ≡ Some reason → HaltsGone t.back t.front.state reason
  halts_at back.ReadState page reason same placed held h e =
      state_halts reason (resting_early t.back.state t.back placed) (acts_at f d t back.ReadState placed same h) h e
  halts_at (back.ReadKey k) page reason same placed held h e =
      let shows = front_shows f d t h in
      let late = held.serving_after refl in
      let goes = key_holds (state_number t.front.state) t.front.port (terms_of t.front) f d k t.back t.keys.keys placed.2 shows.order shows.fits (shows.said late.0 late.1) held in
      key_halts k reason (reading.key_read k (key_of t.keys.keys (front_path k)) (back_step.at (back.ReadKey k) t.back)) (back_step.at (back.ReadKey k) t.back) (state_number t.front.state) placed.0 goes.1 e
  halts_at back.Watch page reason same placed held h e = absurd (some_other reason e)
  halts_at s page reason same placed held h e = absurd (some_other reason e)

  halts_now : (page : Mapping) (reason : BackHalt) → Holds f d t
      → back_step.halt_of t.back (back_answered (back_asks.ask_of t.back) page t.keys) ≡ Some reason → HaltsGone t.back t.front.state reason
  halts_now page reason h = by_test (back_asks.says_closing t.back)
    where
      by_test : (says : Bool)
          → (if says then None else back_step.halt_at t.back.stage t.back (back_answered (if says then back_ask.SetState state.Closing else back_asks.ask_at t.back.stage t.back) page t.keys)) ≡ Some reason
          → HaltsGone t.back t.front.state reason
      by_test true e = absurd (some_other reason e)
      by_test false e = halts_at t.back.stage page reason refl h.back_sound.placed h.back h e

  -- a front that is gone is seen closed only by a back that is closed
  front_closing : Holds f d t → 5 ≤ state_number t.front.state → state_number t.back.state < 6 → t.front.state ≡ state.Closing
  front_closing h late low = by_state t.front.state h.front.own late h.front.state_after
    where
      by_state : (own : BusState) → IsFrontState own → 5 ≤ state_number own → state_needs own ≤ state_number t.back.state → own ≡ state.Closing
      by_state state.Closing own late after = refl
      by_state state.Initialising own late after = absurd (omega arith)
      by_state state.Initialised own late after = absurd (omega arith)
      by_state state.Connected own late after = absurd (omega arith)
      by_state state.Closed own late after = absurd (omega arith)
      by_state s own late after = absurd own

pub halts_as_gone : BackHaltsAsTheFrontIsGone
halts_as_gone r page reason e =
    let h = run_holds r in
    let t = now r in
    let gone = halts_now r.offer r.facts t page reason h e in
    let closing = front_closing r.offer r.facts t h gone.late gone.before in
    (closing, subst (λ (s : BusState). reason ≡ gone_halt t.back.unplugged s) closing gone.same)

-- the front's breaks
abbrev tells_broken : Option FrontNews → Bool
tells_broken (Some (news.Broken word)) = true
tells_broken o = false

untold : (o : Option FrontNews) (word : ℕ) → tells_broken o ≡ false → o ≡ Some (news.Broken word) → ⊥
untold o word quiet e = true≢false (sym (ap tells_broken e) ∙ quiet)

closing_quiet : (closing : Bool) → tells_broken (front_step.closing_news closing) ≡ false
closing_quiet true = refl
closing_quiet false = refl

written_quiet : (s : BusState) → tells_broken (front_step.written_news s) ≡ false
written_quiet state.Connected = refl
written_quiet s = refl

record Breaks (v : FrontView) (idle : Bool) (b : BusState) : Type 0 where
  busy : idle ≡ false
  gone : b ≡ state.Closed

acted_breaks : (act : FrontAction) (v : FrontView) (idle : Bool) (b : BusState) (word : ℕ) → front_acts.ActsFor act v.state v.closing v.gone idle b
    → front_step.action_news act v.closing ≡ Some (news.Broken word) → (word ≡ 6) × Breaks v idle b
acted_breaks (front_act.Break w) v idle b word acts e =
    let same : word ≡ w = ap word_of (some_same (news.Broken w) (news.Broken word) e) in
    (same ∙ acts.1, record { busy = acts.2; gone = acts.0 })
  where
    word_of : FrontNews → ℕ
    word_of (news.Broken m) = m
    word_of other = 0
acted_breaks front_act.Nothing v idle b word acts e = absurd (untold None word refl e)
acted_breaks front_act.Publish v idle b word acts e = absurd (untold None word refl e)
acted_breaks front_act.Connect v idle b word acts e = absurd (untold None word refl e)
acted_breaks other v idle b word acts e = absurd (untold (front_step.closing_news v.closing) word (closing_quiet v.closing) e)

module _ (f : Features) (d : DiskFacts) (t : Negotiation) where
  -- a key that the front reads is read: it would be broken while the back is closed, long before it closes itself
  unread : (own : BusState) → IsFrontState own → state_number own < 5 → 6 ≤ state_number t.back.state → Holds f d t → t.front.state ≡ own → ⊥
  unread own honest low late h e = let high = (back_shows f d t h).closed late in let same : state_number t.front.state ≡ state_number own = ap state_number e in omega arith

  feature_breaks : (k : BackKey) (o : Option ℕ) (word : ℕ) → t.front.state ≡ state.Initialising → Holds f d t
      → front_steps.Stands (state_number t.back.state) f d (front_step.feature_step k o (front_step.at (front.ReadFeature k) t.front)) t.keys.keys
      → front_step.read_news o ≡ Some (news.Broken word) → ⊥
  feature_breaks k None word own h stands e = unread state.Initialising tt (omega arith) stands.stage_after h own
  feature_breaks k (Some m) word own h stands e = untold None word refl e

  fact_breaks : (k : BackKey) (o : Option ℕ) (word : ℕ) → t.front.state ≡ state.Initialised → Holds f d t
      → front_steps.Stands (state_number t.back.state) f d (front_step.fact_step k o (front_step.at (front.ReadFact k) t.front)) t.keys.keys
      → front_step.read_news o ≡ Some (news.Broken word) → ⊥
  fact_breaks k None word own h stands e = unread state.Initialised tt (omega arith) stands.stage_after h own
  fact_breaks k (Some m) word own h stands e = untold None word refl e

  record BreaksSo (idle : Bool) (word : ℕ) : Type 0 where
    six : word ≡ 6
    breaks : Breaks t.front idle t.back.state
    early : state_number t.front.state < 6

  state_breaks : (idle : Bool) (word : ℕ) → state_number t.front.state < 6 → Holds f d t
      → front_step.action_news (front_action t.front.state t.front.closing idle (state_read (key_of t.keys.keys back_state))) t.front.closing ≡ Some (news.Broken word)
      → BreaksSo idle word
  state_breaks idle word low h e =
      let read = subst (λ (r : Option BusState). front_step.action_news (front_action t.front.state t.front.closing idle r) t.front.closing ≡ Some (news.Broken word)) (state_shown (key_of t.keys.keys back_state) t.back.state h.states.back) e in
      let so = acted_breaks (front_action t.front.state t.front.closing idle (Some t.back.state)) t.front idle t.back.state word (front_acts_now f d t idle h) read in
      record { six = so.0; breaks = so.1; early = low }

  breaks_at : (s : FrontBusStage) (idle : Bool) (port : ℕ) (word : ℕ) → front_sound.IsTimely s t.front.state
      → FrontHolds s t.front (state_number t.back.state) f d (front_texts t.keys.keys) → Holds f d t
      → front_step.news_at s (front_step.at s t.front) idle (front_answered (front_asks.ask_at s t.front) port t.keys) ≡ Some (news.Broken word) → BreaksSo idle word
  breaks_at front.ReadState idle port word timely held h e = state_breaks idle word timely h e
  breaks_at (front.ReadFeature k) idle port word timely held h e =
      let shows = back_shows f d t h in
      absurd (feature_breaks k (count_read (key_of t.keys.keys (back_path k))) word timely h (feature_holds (state_number t.back.state) f d k t.front t.keys.keys shows.indirect shows.order (shows.features held.stage_after) held) e)
  breaks_at (front.ReadFact k) idle port word timely held h e =
      let shows = back_shows f d t h in
      absurd (fact_breaks k (fact_read k (key_of t.keys.keys (back_path k))) word timely h (fact_holds (state_number t.back.state) f d k t.front t.keys.keys shows.sectors (shows.facts held.stage_after (rw timely (omega arith))) held) e)
  breaks_at (front.WriteState s) idle port word timely held h e = absurd (untold (front_step.written_news s) word (written_quiet s) e)
  breaks_at front.Start idle port word timely held h e = absurd (untold None word refl e)
  breaks_at s idle port word timely held h e = absurd (untold None word refl e)

  breaks_now : (idle : Bool) (port : ℕ) (word : ℕ) → Holds f d t
      → front_step.news_of t.front idle (front_answered (front_asks.ask_of t.front idle) port t.keys) ≡ Some (news.Broken word) → BreaksSo idle word
  breaks_now idle port word h e =
      let s = due t.front idle in
      breaks_at s idle port word (due_timely t.front.stage t.front idle h.front_sound.timely) (due_holds (state_number t.back.state) f d t.front.stage t.front idle (front_texts t.keys.keys) h.front) h e

  -- the front's own state then
  closing_then : (idle : Bool) → Breaks t.front idle t.back.state → state_number t.front.state < 6 → Holds f d t → t.front.state ≡ state.Closing
  closing_then idle breaks low h =
      let six : 6 ≤ state_number t.back.state = rw breaks.gone (omega arith) in
      is_closing t.front.state h.front.own ((back_shows f d t h).closed six) low

pub breaks_only_unserved : FrontBreaksOnlyUnserved
breaks_only_unserved r idle port word e =
    let h = run_holds r in
    let so = breaks_now r.offer r.facts (now r) idle port word h e in
    (so.six, so.breaks.busy, closing_then r.offer r.facts (now r) idle so.breaks so.early h, so.breaks.gone)

-- a front that is served is never broken
acted_unbroken : (act : FrontAction) (v : FrontView) (idle : Bool) (b : BusState) → front_acts.ActsFor act v.state v.closing v.gone idle b
    → (Breaks v idle b → ⊥) → is_broken (front_step.acted act (front_step.at front.ReadState v)).stage ≡ false
acted_unbroken (front_act.Break word) v idle b acts served = absurd (served (record { busy = acts.2; gone = acts.0 }))
acted_unbroken other v idle b acts served = refl

feature_unbroken : (k : BackKey) (m : ℕ) (v : FrontView) → is_broken (front_step.feature_step k (Some m) v).stage ≡ false
feature_unbroken back_key.FeatureBarrier m v = refl
feature_unbroken k m v = refl

fact_unbroken : (k : BackKey) (m : ℕ) (v : FrontView) → is_broken (front_step.fact_step k (Some m) v).stage ≡ false
fact_unbroken back_key.Sectors m v = refl
fact_unbroken k m v = refl

published_unbroken : (next : Option FrontKey) → is_broken (front_step.after_published next) ≡ false
published_unbroken (Some k) = refl
published_unbroken None = refl

written_unbroken : (s : BusState) → is_broken (front_step.after_state s) ≡ false
written_unbroken state.Closed = refl
written_unbroken s = refl

others_unbroken : (port : Option ℕ) → is_broken (front_step.after_grants port) ≡ false
others_unbroken (Some port) = refl
others_unbroken None = refl

woken_unbroken : (s : FrontBusStage) (o : Option (List ℕ)) (v : FrontView) (idle : Bool) → is_broken s ≡ false
    → is_broken (front_step.step_at s (front_step.at s v) idle (front_woken o)).stage ≡ false
woken_unbroken front.Rest None v idle e = refl
woken_unbroken front.Rest (Some path) v idle e = refl
woken_unbroken s None v idle e = e
woken_unbroken s (Some path) v idle e = e

module _ (f : Features) (d : DiskFacts) (t : Negotiation) where
  read_unbroken : (k : BackKey) (o : Option ℕ) → t.front.state ≡ state.Initialising → Holds f d t
      → front_steps.Stands (state_number t.back.state) f d (front_step.feature_step k o (front_step.at (front.ReadFeature k) t.front)) t.keys.keys
      → is_broken (front_step.feature_step k o (front_step.at (front.ReadFeature k) t.front)).stage ≡ false
  read_unbroken k None own h stands = absurd (unread f d t state.Initialising tt (omega arith) stands.stage_after h own)
  read_unbroken k (Some m) own h stands = feature_unbroken k m (front_step.at (front.ReadFeature k) t.front)

  known_unbroken : (k : BackKey) (o : Option ℕ) → t.front.state ≡ state.Initialised → Holds f d t
      → front_steps.Stands (state_number t.back.state) f d (front_step.fact_step k o (front_step.at (front.ReadFact k) t.front)) t.keys.keys
      → is_broken (front_step.fact_step k o (front_step.at (front.ReadFact k) t.front)).stage ≡ false
  known_unbroken k None own h stands = absurd (unread f d t state.Initialised tt (omega arith) stands.stage_after h own)
  known_unbroken k (Some m) own h stands = fact_unbroken k m (front_step.at (front.ReadFact k) t.front)

  state_unbroken : (idle : Bool) → state_number t.front.state < 6 → (t.front.state ≡ state.Closing → idle ≡ true) → Holds f d t
      → is_broken (front_step.acted (front_action t.front.state t.front.closing idle (state_read (key_of t.keys.keys back_state))) (front_step.at front.ReadState t.front)).stage ≡ false
  state_unbroken idle low served h =
      let never : Breaks t.front idle t.back.state → ⊥ = λ b. true≢false (sym (served (closing_then f d t idle b low h)) ∙ b.busy) in
      subst (λ (r : Option BusState). is_broken (front_step.acted (front_action t.front.state t.front.closing idle r) (front_step.at front.ReadState t.front)).stage ≡ false) (sym (state_shown (key_of t.keys.keys back_state) t.back.state h.states.back))
      (acted_unbroken (front_action t.front.state t.front.closing idle (Some t.back.state)) t.front idle t.back.state (front_acts_now f d t idle h) never)

  unbroken_at : (s : FrontBusStage) (idle : Bool) (port : ℕ) → front_sound.IsTimely s t.front.state
      → FrontHolds s t.front (state_number t.back.state) f d (front_texts t.keys.keys) → (t.front.state ≡ state.Closing → idle ≡ true) → is_broken s ≡ false
      → Holds f d t
      → is_broken (front_step.step_at s (front_step.at s t.front) idle (front_answered (front_asks.ask_at s t.front) port t.keys)).stage ≡ false
  unbroken_at front.Rest idle port timely held served e h = woken_unbroken front.Rest (next_watch t.keys.front) t.front idle refl
  unbroken_at front.ReadState idle port timely held served e h = state_unbroken idle timely served h
  unbroken_at (front.ReadFeature k) idle port timely held served e h =
      let shows = back_shows f d t h in
      read_unbroken k (count_read (key_of t.keys.keys (back_path k))) timely h (feature_holds (state_number t.back.state) f d k t.front t.keys.keys shows.indirect shows.order (shows.features held.stage_after) held)
  unbroken_at (front.RingWord word) idle port timely held served e h = either (λ (one : FrontBusStage). is_broken one ≡ false) (word == 15) (front.Grant 0) (front.RingWord (word + 1)) refl refl
  unbroken_at (front.Grant page) idle port timely held served e h = either (λ (one : FrontBusStage). is_broken one ≡ false) (nat_lt (page + 1) (pages_of t.front)) (front.Grant (page + 1)) front.NewPort refl refl
  unbroken_at (front.Publish k) idle port timely held served e h = published_unbroken (next_published (ring_order t.front) k)
  unbroken_at (front.ReadFact k) idle port timely held served e h =
      let shows = back_shows f d t h in
      known_unbroken k (fact_read k (key_of t.keys.keys (back_path k))) timely h (fact_holds (state_number t.back.state) f d k t.front t.keys.keys shows.sectors (shows.facts held.stage_after (rw timely (omega arith))) held)
  unbroken_at (front.WriteState s) idle port timely held served e h = written_unbroken s
  unbroken_at (front.EndGrant page) idle port timely held served e h =
      either (λ (one : FrontBusStage). is_broken one ≡ false) (nat_lt (page + 1) (pages_of t.front)) (front.EndGrant (page + 1)) front.EndOtherGrants refl refl
  unbroken_at front.EndOtherGrants idle port timely held served e h = others_unbroken t.front.port
  unbroken_at front.Closed idle port timely held served e h = woken_unbroken front.Closed (next_watch t.keys.front) t.front idle refl
  unbroken_at (front.Broken word) idle port timely held served e h = absurd (true≢false e)
  unbroken_at other idle port timely held served e h = refl

due_unbroken : (s : FrontBusStage) (v : FrontView) (idle : Bool) → is_broken s ≡ false → is_broken (due_at s v idle) ≡ false
due_unbroken s v idle e = due_cases (λ (d : FrontBusStage). is_broken d ≡ false) s v idle e refl refl refl

closed_unbroken : (v : FrontView) → is_broken v.stage ≡ false → is_broken (closed v).stage ≡ false
closed_unbroken v e = closed_cases (λ (w : FrontView). is_broken w.stage ≡ false) v e e

unbroken_once : (f : Features) (d : DiskFacts) (x : Happening) (t : Negotiation) → IsServed x t → is_broken t.front.stage ≡ false → Holds f d t
    → is_broken (happened x t).front.stage ≡ false
unbroken_once f d (FrontMoves idle port) t served e h =
    let s = due t.front idle in
    let held = due_holds (state_number t.back.state) f d t.front.stage t.front idle (front_texts t.keys.keys) h.front in
    unbroken_at f d t s idle port (due_timely t.front.stage t.front idle h.front_sound.timely) held served (due_unbroken t.front.stage t.front idle e) h
unbroken_once f d FrontCloses t served e h = closed_unbroken t.front e
unbroken_once f d other t served e h = e

all_unbroken : (f : Features) (d : DiskFacts) (xs : List Happening) (t : Negotiation) → HavePorts xs → AreServed xs t → is_broken t.front.stage ≡ false
    → Holds f d t → is_broken (after xs t).front.stage ≡ false
all_unbroken f d [] t fits served e h = e
all_unbroken f d (x ∷ xs) t fits served e h = all_unbroken f d xs (happened x t) fits.1 served.1 (unbroken_once f d x t served.0 e h) (happening_holds f d x t fits.0 h)

pub never_broken : FrontIsUnbroken
never_broken r served = all_unbroken r.offer r.facts r.happenings (begins r) r.ports served refl (start_holds r.front r.offer r.facts r.within)
