-- A move of the front goes with what it heard of the back's state.
use Rattle.std.proofs.Common.{inl, inr, ◌≡◌, ◌∙◌, ap, sym, subst, refl, ℕ, ◌&&◌, Bool, true, false, true≢false, if◌then◌else◌, List, [], ◌++◌, length, arith}
use Rattle.std.specs.Prelude.{Option, Some, None, ◌==◌}
use Rattle.std.proofs.lemmas.Bool.Decides.{nat_tests}
use Rattle.line_text.proofs.Both.{both_true}
use Rattle.blk_base.specs.declared.ask.FrontAsk.{FrontAsk}
use Rattle.blk_base.specs.declared.ask.FrontAsk.TheVariants as front_ask
use Rattle.blk_base.specs.declared.ask.FrontAnswer.{FrontAnswer}
use Rattle.blk_base.specs.declared.ask.FrontAnswer.TheVariants as answer
use Rattle.blk_front.specs.declared.stage.FrontStage.{FrontStage}
use Rattle.blk_front.specs.declared.stage.FrontStage.TheVariants as ring_stage
use Rattle.blk_front.specs.declared.state.FrontState.TheVariants as enter
use Rattle.blk_front.specs.View as ends
use Rattle.blk_front.specs.Ask as front_ring
use Rattle.blk_front.specs.Step as ring_step
use Rattle.blk_front.specs.declared.state.FrontState.{FrontState}
use Rattle.blk_front.specs.State.{may_enter}
use Rattle.blk_front.specs.Suspend.{is_left}
use Rattle.blk_front.specs.Submit.{unfinished}
use Rattle.xenbus_state.specs.declared.state.BusState.{BusState}
use Rattle.xenbus_state.specs.declared.state.BusState.TheVariants as state
use Rattle.xenbus_state.specs.declared.stage.FrontBusStage.{FrontBusStage}
use Rattle.xenbus_state.specs.declared.stage.FrontBusStage.TheVariants as stage
use Rattle.xenbus_state.specs.declared.table.FrontAction.{FrontAction}
use Rattle.xenbus_state.specs.declared.table.FrontAction.TheVariants as action
use Rattle.xenbus_state.specs.declared.front.FrontNews.{FrontNews}
use Rattle.xenbus_state.specs.declared.front.FrontBusAsk.{FrontBusAsk}
use Rattle.xenbus_state.specs.declared.front.FrontBusAsk.TheVariants as bus_ask
use Rattle.xenbus_state.specs.States.{state_read}
use Rattle.xenbus_state.specs.Tables.{front_action}
use Rattle.xenbus_state.specs.FrontView.{FrontView, ring_order}
use Rattle.xenbus_state.specs.FrontAsk as bus
use Rattle.xenbus_state.specs.declared.keys.BackKey.{BackKey}
use Rattle.xenbus_state.specs.Reading.{count_read, fact_read}
use Rattle.xenbus_state.specs.FrontStep.{at, acted, closing_news, action_news, feature_step, fact_step, step_at, step_of, news_at}
use Rattle.split_model.proofs.SafeAnswers.{AsksNoKey, fronts_no_key}
use Rattle.vbd_front.specs.View as front_view
use Rattle.vbd_front.specs.Ask as front
use Rattle.vbd_front.specs.Step as front_step
use Rattle.vbd_front.specs.Step.{settled_at, settled}
use Rattle.vbd_laws.proofs.FitFrontSpoken.{LeavesIdle, action_leaves}
use Rattle.vbd_model.specs.World.{World, frontend_of}
use Rattle.vbd_model.specs.Fit.{FrontRests, FrontGoesWith}
use Rattle.vbd_laws.specs.Waits.{Check, Heard, front_hears}
use Rattle.vbd_laws.proofs.FitFrontBus.{due_ways, rests_due}
use Rattle.vbd_laws.proofs.FitFrontRing.{broken_step, unfinished_step}
use Rattle.vbd_laws.proofs.FitFrontMoves.{left_starts}
use Rattle.vbd_laws.proofs.FitFront.{all_fewer}
use Rattle.vbd_laws.proofs.WaitsFront.{Knows, bus_asks_on, asks_on, BusWaits, bus_waits}
use Rattle.vbd_laws.proofs.WaitsFrontRing.{left_asks}
use Rattle.vbd_laws.proofs.WaitsFrontCases.{bus_asks, rests_whole, only_rests, broken_waits}
use Rattle.vbd_laws.proofs.WaitsFrontHeard.{HearsAt, Hears, settled_hears, hears_as}
use Rattle.vbd_laws.proofs.WaitsFrontTold.{told_hears, follows_hears, heard_waiting, woken_hears, IsKept, settled_kept, follows_kept, woken_kept}
use Rattle.vbd_laws.proofs.MovesTurns.{front_key_asks}
use Rattle.vbd_laws.proofs.WaitsFrontStages.{ending_idle}

abbrev pub IsWhole : World → Type 0
IsWhole w = front_view.is_broken w.rings.front.stage ≡ false

-- it hasn't written Closing
abbrev pub is_early : BusState → Bool
is_early state.Initialising = true
is_early state.Initialised = true
is_early state.Connected = true
is_early s = false

-- nothing of a request is left
abbrev pub IsFree : ends.View → Type 0
IsFree f = unfinished f ≡ 0

idle_free : (f : ends.View) → front_view.is_unoccupied f ≡ true → IsFree f
idle_free f idle = let zero = (both_true (unfinished f == 0) (front_view.is_still f.stage) idle).0 in grind (arith, nat_tests)

-- a front that read that the back is gone, and hasn't written Closing, does so next
abbrev pub LeavesNext : FrontView → ends.View → Type 0
LeavesNext v f = v.gone ≡ true → is_early v.state ≡ true → (v.closing && front_view.is_unoccupied f) ≡ true

-- where its end of the ring isn't broken, its negotiation goes with what it heard
pub record Listens (v : FrontView) (f : ends.View) (h : Heard) : Type 0 where
  pub bus : front_view.is_broken f.stage ≡ false → Hears (IsFree f) v h
  pub leaves : front_view.is_broken f.stage ≡ false → LeavesNext v f

-- an ask for no key hears a watch alone
wait_heard : (x : FrontAnswer) (h : Heard) → front_hears front_ask.Wait x h ≡ heard_waiting x h
wait_heard (answer.Watched path) h = refl
wait_heard other h = refl

ring_heard : (a : FrontAsk) (x : FrontAnswer) (h : Heard) → AsksNoKey a → front_ring.IsAnswer a x → front_hears a x h ≡ heard_waiting x h
ring_heard front_ask.Wait x h none allowed = wait_heard x h
ring_heard a (answer.Watched path) h none allowed = absurd allowed
ring_heard (front_ask.Watch path) x h none allowed = absurd none
ring_heard (front_ask.GetKey path) x h none allowed = absurd none
ring_heard a x h none allowed = refl

-- where it isn't a wait no watch is taken
unwatched : (a : FrontAsk) (x : FrontAnswer) (h : Heard) → (a ≡ front_ask.Wait → ⊥) → front_ring.IsAnswer a x → heard_waiting x h ≡ h
unwatched front_ask.Wait x h on allowed = absurd (on refl)
unwatched a (answer.Watched path) h on allowed = absurd allowed
unwatched a x h on allowed = refl

module _ (w : World) (c : Check) (h : Heard) (k : Knows w c) (l : Listens w.front w.rings.front h) where
  abbrev idle : Bool
  idle = front_view.is_unoccupied w.rings.front

  -- while it rests and waits it hasn't read that the back is gone
  pub rest_gone : IsWhole w → bus_asks w ≡ bus_ask.Wait → w.front.stage ≡ stage.Rest → w.front.gone ≡ false
  rest_gone whole e here = by_bus (bus_waits w.front idle e)
    where
      by_gone : (gone : Bool) → w.front.gone ≡ gone → (w.front.closing && idle) ≡ false → gone ≡ false
      by_gone false g still = refl
      by_gone true g still = by_state w.front.state refl (rests_whole w c k here whole)
        where
          by_port : (gone : Bool) (port : Option ℕ) → w.front.gone ≡ gone → w.front.state ≡ state.Closing → FrontRests state.Closing gone port w.rings.front.stage → true ≡ false
          by_port false port f own rests = sym g ∙ f
          by_port true None f own rests = absurd rests
          by_port true (Some p) f own rests =
              let through = k.fit.through own whole in
              let free : idle ≡ true = ending_idle w.rings.front w.rings.front.stage refl rests through in
              let closing : w.front.closing ≡ true = sym (k.fit.closing whole) ∙ (both_true w.rings.front.closing (length w.rings.front.requests == 0) through).0 in
              sym (rw (closing, free) refl) ∙ still

          by_state : (own : BusState) → w.front.state ≡ own → FrontRests own w.front.gone w.front.port w.rings.front.stage → true ≡ false
          by_state state.Initialising own rests = sym (l.leaves whole g (ap is_early own)) ∙ still
          by_state state.Initialised own rests = sym (l.leaves whole g (ap is_early own)) ∙ still
          by_state state.Connected own rests = sym (l.leaves whole g (ap is_early own)) ∙ still
          by_state state.Closing own rests = by_port w.front.gone w.front.port refl own rests
          by_state own at_own rests = absurd rests

      by_bus : BusWaits w.front idle → w.front.gone ≡ false
      by_bus (inl found) = elim found.1 [ inl still ↦ by_gone w.front.gone refl still | inr closes ↦ closes.1 ]
      by_bus (inr (inl over)) = let differ : stage.Rest ≡ stage.Closed = sym here ∙ over in absurd (cc)
      by_bus (inr (inr found)) = let differ : stage.Rest ≡ stage.Broken found.0 = sym here ∙ found.1 in absurd (cc)

  -- a front that read that the back is gone, and hasn't written Closing, is about to
  busy : IsWhole w → front.speaks (bus_asks w) ≡ false → w.front.gone ≡ true → is_early w.front.state ≡ true → ⊥
  busy whole quiet gone early = by_stage w.front.stage refl (l.bus whole) k.fit.front
    where
      closes : (own : BusState) → is_early own ≡ true → front.speaks (bus.ask_at (bus.closing_stage own w.front) w.front) ≡ true
      closes state.Initialising is = refl
      closes state.Initialised is = refl
      closes state.Connected is = refl
      closes own is = absurd (true≢false (sym is))

      late : (own : BusState) → w.front.state ≡ own → is_early own ≡ false → ⊥
      late own at_own is = true≢false (sym early ∙ (ap is_early at_own ∙ is))

      by_stage : (s : FrontBusStage) → w.front.stage ≡ s → HearsAt (IsFree w.rings.front) s w.front.state w.front.closing w.front.gone h → FrontGoesWith s w.front w.rings.front.stage → ⊥
      by_stage stage.Rest here is goes =
          let e = rests_due w.front idle true here (l.leaves whole gone early) in
          true≢false (sym (ap (λ (d : FrontBusStage). front.speaks (bus.ask_at d w.front)) e ∙ closes w.front.state early) ∙ quiet)
      by_stage (stage.WriteState state.Initialised) here is goes = true≢false (sym gone ∙ is.1)
      by_stage (stage.WriteState state.Connected) here is goes = true≢false (sym gone ∙ is.1)
      by_stage (stage.WriteState state.Closed) here is goes = late state.Closing goes.0 refl
      by_stage (stage.WriteState s) here is goes = goes
      by_stage (stage.EndGrant page) here is goes = late state.Closing goes.0 refl
      by_stage stage.EndOtherGrants here is goes = goes
      by_stage stage.ClosePort here is goes = late state.Closing goes.0 refl
      by_stage stage.Closed here is goes = late state.Closed goes.0 refl
      by_stage (stage.Broken word) here is goes = true≢false (sym goes ∙ whole)
      by_stage other here is goes = true≢false (sym gone ∙ is.1)

  -- what its negotiation is told, and its end of the ring after it
  abbrev f_after : FrontView → Option FrontNews → ends.View
  f_after u n = front_step.all_entered (front_step.states_entered (front_step.offers_of (settled idle u)) n (bus.ask_of (settled idle u) idle) (ring_order (settled idle u))) w.rings.front

  abbrev Ends : FrontAnswer → FrontBusStage → Type 0
  Ends x d =
      front.speaks (bus.ask_at d w.front) ≡ true → bus.IsAnswer (bus.ask_at d w.front) x
      → let u = step_at d (at d w.front) idle x in u.gone ≡ true → is_early u.state ≡ true → ((settled idle u).closing && front_view.is_unoccupied (f_after u (news_at d (at d w.front) idle x))) ≡ true

  -- it read that the back is gone
  leaves_so : (u : FrontView) (was : Bool) → u.stage ≡ stage.Rest → u.closing ≡ true → idle ≡ true → is_early u.state ≡ true → ((settled idle u).closing && front_view.is_unoccupied (f_after u (closing_news was))) ≡ true
  leaves_so u was here closing free early =
      subst (λ (t : FrontView). (t.closing && front_view.is_unoccupied (front_step.all_entered (front_step.states_entered (front_step.offers_of t) (closing_news was) (bus.ask_of t idle) (ring_order t)) w.rings.front)) ≡ true) (sym same)
      (subst (λ (b : FrontBusAsk). (u.closing && front_view.is_unoccupied (front_step.all_entered (front_step.states_entered (front_step.offers_of u) (closing_news was) b (ring_order u)) w.rings.front)) ≡ true) (sym asks)
      (ap (λ (t : Bool). t && front_view.is_unoccupied (front_step.all_entered (front_step.states_of_news (front_step.offers_of u) (closing_news was) ++ []) w.rings.front)) closing ∙ by_was was))
    where
      by_state : (own : BusState) → is_early own ≡ true → bus.ask_at (bus.closing_stage own u) u ≡ bus_ask.SetState state.Closing
      by_state state.Initialising is = refl
      by_state state.Initialised is = refl
      by_state state.Connected is = refl
      by_state own is = absurd (true≢false (sym is))

      asks : bus.ask_of u idle ≡ bus_ask.SetState state.Closing
      asks = ap (λ (d : FrontBusStage). bus.ask_at d u) (rests_due u idle true here (rw (closing, free) refl)) ∙ by_state u.state early

      same : settled idle u ≡ u
      same = ap (λ (b : FrontBusAsk). settled_at b idle u) asks

      by_was : (was : Bool) → front_view.is_unoccupied (front_step.all_entered (front_step.states_of_news (front_step.offers_of u) (closing_news was) ++ []) w.rings.front) ≡ true
      by_was true = free
      by_was false = elim (may_enter enter.Closing w.rings.front) as (λ may. front_view.is_unoccupied (if may then record w.rings.front { closing = true } else w.rings.front) ≡ true) [ true ↦ free | false ↦ free ]

  acted_ends : (act : FrontAction) → LeavesIdle idle act → w.front.gone ≡ false
      → let u = acted act (at stage.ReadState w.front) in u.gone ≡ true → is_early u.state ≡ true → ((settled idle u).closing && front_view.is_unoccupied (f_after u (action_news act w.front.closing))) ≡ true
  acted_ends action.Leave leaves was gone early = leaves_so (acted action.Leave (at stage.ReadState w.front)) w.front.closing refl refl leaves early
  acted_ends other leaves was gone early = absurd (true≢false (sym gone ∙ was))

  feature_gone : (key : BackKey) (n : Option ℕ) (v : FrontView) → (feature_step key n v).gone ≡ v.gone
  feature_gone key None v = refl
  feature_gone key (Some n) v = refl

  fact_gone : (key : BackKey) (n : Option ℕ) (v : FrontView) → (fact_step key n v).gone ≡ v.gone
  fact_gone key None v = refl
  fact_gone key (Some n) v = refl

  begun_ends : (s : FrontBusStage) (x : FrontAnswer) → HearsAt (IsFree w.rings.front) s w.front.state w.front.closing w.front.gone h → FrontGoesWith s w.front w.rings.front.stage → Ends x s
  begun_ends stage.Start answer.Done is goes says allowed gone early = absurd (true≢false (sym gone ∙ is.1))
  begun_ends stage.ReadState (answer.Key text) is goes says allowed gone early =
      acted_ends (front_action w.front.state w.front.closing idle (state_read text)) (action_leaves w.front.state w.front.closing idle (state_read text)) is.1 gone early
  begun_ends (stage.ReadFeature key) (answer.Key text) is goes says allowed gone early = absurd (true≢false (sym gone ∙ (feature_gone key (count_read text) (at (stage.ReadFeature key) w.front) ∙ is.1)))
  begun_ends (stage.ReadFact key) (answer.Key text) is goes says allowed gone early = absurd (true≢false (sym gone ∙ (fact_gone key (fact_read key text) (at (stage.ReadFact key) w.front) ∙ is.1)))
  begun_ends (stage.Publish key) answer.Done is goes says allowed gone early = absurd (true≢false (sym gone ∙ is.1))
  begun_ends (stage.WriteState state.Initialised) answer.Done is goes says allowed gone early = absurd (true≢false (sym gone ∙ is.1))
  begun_ends (stage.WriteState state.Connected) answer.Done is goes says allowed gone early = absurd (true≢false (sym gone ∙ is.1))
  begun_ends (stage.WriteState state.Closed) answer.Done is goes says allowed gone early = absurd (true≢false (sym early))
  begun_ends (stage.WriteState s) answer.Done is goes says allowed gone early = absurd goes
  begun_ends stage.Start x is goes says allowed gone early = absurd allowed
  begun_ends stage.ReadState x is goes says allowed gone early = absurd allowed
  begun_ends (stage.ReadFeature key) x is goes says allowed gone early = absurd allowed
  begun_ends (stage.ReadFact key) x is goes says allowed gone early = absurd allowed
  begun_ends (stage.Publish key) x is goes says allowed gone early = absurd allowed
  begun_ends (stage.WriteState s) x is goes says allowed gone early = absurd allowed
  begun_ends s x is goes says allowed gone early = absurd (true≢false (sym says))

  writes_ends : (x : FrontAnswer) → Ends x (stage.WriteState state.Closing)
  writes_ends answer.Done = λ says allowed gone early. absurd (true≢false (sym early))
  writes_ends x = λ says allowed gone early. absurd allowed

  spoken_leaves : IsWhole w → (x : FrontAnswer) → front.speaks (bus_asks w) ≡ true → bus.IsAnswer (bus_asks w) x → LeavesNext (front_step.bus_after (frontend_of w) x) (front_step.all_entered (front_step.states_after (frontend_of w) x) w.rings.front)
  spoken_leaves whole x says allowed gone early =
      let u = step_of w.front idle x in
      let kept = settled_kept idle u in
      due_ways (Ends x) w.front idle (begun_ends w.front.stage x (l.bus whole) k.fit.front) (λ here closing. writes_ends x)
      (λ here left says. absurd (true≢false (sym says))) (λ here left says. absurd (true≢false (sym says))) says allowed (sym kept.0 ∙ gone) (ap is_early (sym kept.1) ∙ early)

  -- one that speaks isn't broken
  says_whole : front.speaks (bus_asks w) ≡ true → IsWhole w
  says_whole says = by_broken (front_view.is_broken w.rings.front.stage) refl
    where
      by_broken : (b : Bool) → front_view.is_broken w.rings.front.stage ≡ b → front_view.is_broken w.rings.front.stage ≡ false
      by_broken false is = is
      by_broken true is =
          asks_on (front.key_ask (bus_asks w)) (front_key_asks (bus_asks w) says)
          (sym (ap (λ (t : Bool). if t then front.key_ask (bus_asks w) else front.ring_ask (front.ring_moves (bus_asks w) w.rings.front.stage) (frontend_of w)) says) ∙ broken_waits w c k is)

  pub says_goes : (x : FrontAnswer) → front.speaks (bus_asks w) ≡ true → bus.IsAnswer (bus_asks w) x
      → Listens (front_step.bus_after (frontend_of w) x) (front_step.all_entered (front_step.states_after (frontend_of w) x) w.rings.front) (front_hears (front.key_ask (bus_asks w)) x h)
  says_goes x says allowed = record {
    bus = λ still.
        hears_as (IsFree w.rings.front) (IsFree after) u.stage u.state u.closing u.gone _ (λ closing free. let fewer = all_fewer states w.rings.front in omega arith)
        (settled_hears (IsFree w.rings.front) idle (step_of w.front idle x) _ (told_hears (IsFree w.rings.front) w.front idle w.rings.front.stage h x (idle_free w.rings.front) k.fit.front (l.bus (says_whole says)) says allowed));
    leaves = λ still. spoken_leaves (says_whole says) x says allowed;
  }
    where
      states : List FrontState
      states = front_step.states_after (frontend_of w) x

      after : ends.View
      after = front_step.all_entered states w.rings.front

      u : FrontView
      u = front_step.bus_after (frontend_of w) x

  -- the negotiation is left as it was, or took a watch
  kept_leaves : (u : FrontView) (f : ends.View) → IsWhole w → front.speaks (bus_asks w) ≡ false → IsKept w.front u → LeavesNext u f
  kept_leaves u f whole quiet kept gone early = absurd (busy whole quiet (sym kept.0 ∙ gone) (ap is_early (sym kept.1) ∙ early))

  -- where the front's ask is no wait its negotiation's is none
  asks_wait : front.speaks (bus_asks w) ≡ false → front.ring_moves (bus_asks w) w.rings.front.stage ≡ true → front_ring.ask_of w.rings.front ≡ front_ask.Wait → front.ask_at (bus_asks w) (frontend_of w) ≡ front_ask.Wait
  asks_wait quiet moves e =
      ap (λ (t : Bool). if t then front.key_ask (bus_asks w) else front.ring_ask (front.ring_moves (bus_asks w) w.rings.front.stage) (frontend_of w)) quiet
      ∙ (ap (λ (t : Bool). front.ring_ask t (frontend_of w)) moves ∙ e)

  pub moves_goes : (x : FrontAnswer) → front.speaks (bus_asks w) ≡ false → front.ring_moves (bus_asks w) w.rings.front.stage ≡ true → front_ring.IsAnswer (front_ring.ask_of w.rings.front) x
      → Listens (front_step.followed (bus_asks w) (ring_step.step_of w.rings.front x).stage idle w.front x) (ring_step.step_of w.rings.front x) (front_hears (front_ring.ask_of w.rings.front) x h)
  moves_goes x quiet moves allowed = record { bus = λ still. hears_as (IsFree w.rings.front) (IsFree (ring_step.step_of w.rings.front x)) u.stage u.state u.closing u.gone _ (λ closing free. let fewer = unfinished_step w.rings.front x in omega arith) (hears still); leaves = left }
    where
      u : FrontView
      u = front_step.followed (bus_asks w) (ring_step.step_of w.rings.front x).stage idle w.front x

      whole_before : front_view.is_broken (ring_step.step_of w.rings.front x).stage ≡ false → IsWhole w
      whole_before still = by_broken (front_view.is_broken w.rings.front.stage) refl
        where
          by_broken : (b : Bool) → front_view.is_broken w.rings.front.stage ≡ b → front_view.is_broken w.rings.front.stage ≡ false
          by_broken false is = is
          by_broken true is = absurd (true≢false (sym (broken_step w.rings.front x is) ∙ still))

      is_wait_ask : (b : FrontBusAsk) → front_view.rests b ≡ true → b ≡ bus_ask.Wait
      is_wait_ask bus_ask.Wait is = refl
      is_wait_ask b is = absurd (true≢false (sym is))

      heard_is : front_hears (front_ring.ask_of w.rings.front) x h ≡ heard_waiting x h
      heard_is = ring_heard (front_ring.ask_of w.rings.front) x h (fronts_no_key w.rings.front) allowed

      hears : front_view.is_broken (ring_step.step_of w.rings.front x).stage ≡ false → Hears (IsFree w.rings.front) (front_step.followed (bus_asks w) (ring_step.step_of w.rings.front x).stage idle w.front x) (front_hears (front_ring.ask_of w.rings.front) x h)
      hears still = by_rests (front_view.rests (bus_asks w)) refl
        where
          by_rests : (b : Bool) → front_view.rests (bus_asks w) ≡ b → Hears (IsFree w.rings.front) (front_step.followed (bus_asks w) (ring_step.step_of w.rings.front x).stage idle w.front x) (front_hears (front_ring.ask_of w.rings.front) x h)
          by_rests true is =
              let e = is_wait_ask (bus_asks w) is in
              subst (λ (b : FrontBusAsk). Hears (IsFree w.rings.front) (front_step.followed b (ring_step.step_of w.rings.front x).stage idle w.front x) (front_hears (front_ring.ask_of w.rings.front) x h)) (sym e)
              (subst (λ (t : Heard). Hears (IsFree w.rings.front) (front_step.woken (front_view.is_broken (ring_step.step_of w.rings.front x).stage) idle w.front x) t) (sym heard_is)
              (woken_hears (IsFree w.rings.front) (front_view.is_broken (ring_step.step_of w.rings.front x).stage) idle w.front h x still (l.bus (whole_before still)) e (rest_gone (whole_before still) e)))
          by_rests false is =
              let on : front_ring.ask_of w.rings.front ≡ front_ask.Wait → ⊥ = λ e. bus_asks_on (bus_asks w) is (only_rests w c k (whole_before still) (asks_wait quiet moves e)) in
              subst (λ (t : Heard). Hears (IsFree w.rings.front) (front_step.followed (bus_asks w) (ring_step.step_of w.rings.front x).stage idle w.front x) t) (sym (heard_is ∙ unwatched (front_ring.ask_of w.rings.front) x h on allowed))
              (follows_hears (IsFree w.rings.front) w.front idle (ring_step.step_of w.rings.front x).stage h x (l.bus (whole_before still)) quiet is)

      left : front_view.is_broken (ring_step.step_of w.rings.front x).stage ≡ false → LeavesNext (front_step.followed (bus_asks w) (ring_step.step_of w.rings.front x).stage idle w.front x) (ring_step.step_of w.rings.front x)
      left still = by_rests (front_view.rests (bus_asks w)) refl
        where
          by_rests : (b : Bool) → front_view.rests (bus_asks w) ≡ b → LeavesNext (front_step.followed (bus_asks w) (ring_step.step_of w.rings.front x).stage idle w.front x) (ring_step.step_of w.rings.front x)
          by_rests true is =
              let e = is_wait_ask (bus_asks w) is in
              kept_leaves (front_step.followed (bus_asks w) (ring_step.step_of w.rings.front x).stage idle w.front x) (ring_step.step_of w.rings.front x) (whole_before still) quiet
              (subst (λ (b : FrontBusAsk). IsKept w.front (front_step.followed b (ring_step.step_of w.rings.front x).stage idle w.front x)) (sym e) (woken_kept (front_view.is_broken (ring_step.step_of w.rings.front x).stage) idle w.front x e))
          by_rests false is =
              kept_leaves (front_step.followed (bus_asks w) (ring_step.step_of w.rings.front x).stage idle w.front x) (ring_step.step_of w.rings.front x) (whole_before still) quiet (follows_kept w.front idle (ring_step.step_of w.rings.front x).stage x is)

  pub waits_goes : (x : FrontAnswer) → front.speaks (bus_asks w) ≡ false → front.ring_moves (bus_asks w) w.rings.front.stage ≡ false
      → Listens (front_step.waited (bus_asks w) idle w.front x) w.rings.front (front_hears front_ask.Wait x h)
  waits_goes x quiet stands = record {
    bus = λ whole.
        let e = rests_now whole in
        subst (λ (b : FrontBusAsk). Hears (IsFree w.rings.front) (front_step.waited b idle w.front x) (front_hears front_ask.Wait x h)) (sym e)
        (subst (λ (t : Heard). Hears (IsFree w.rings.front) (front_step.woken false idle w.front x) t) (sym (wait_heard x h)) (woken_hears (IsFree w.rings.front) false idle w.front h x refl (l.bus whole) e (rest_gone whole e)));
    leaves = λ whole.
        let e = rests_now whole in
        kept_leaves (front_step.waited (bus_asks w) idle w.front x) w.rings.front whole quiet (subst (λ (b : FrontBusAsk). IsKept w.front (front_step.waited b idle w.front x)) (sym e) (woken_kept false idle w.front x e));
  }
    where
      rests_now : IsWhole w → bus_asks w ≡ bus_ask.Wait
      rests_now whole =
          only_rests w c k whole (ap (λ (t : Bool). if t then front.key_ask (bus_asks w) else front.ring_ask (front.ring_moves (bus_asks w) w.rings.front.stage) (frontend_of w)) quiet ∙ ap (λ (t : Bool). front.ring_ask t (frontend_of w)) stands)

  -- data that are left after a suspend are told while the negotiation begins anew
  pub left_goes : (x : FrontAnswer) → is_left w.rings.front.stage ≡ true → front_ring.IsAnswer (front_ring.ask_of w.rings.front) x
      → Listens (front_step.followed bus_ask.Wait (ring_step.step_of w.rings.front x).stage idle w.front x) (ring_step.step_of w.rings.front x) (front_hears (front_ring.ask_of w.rings.front) x h)
  left_goes x left allowed =
      subst (λ (v : FrontView). Listens v (ring_step.step_of w.rings.front x) (front_hears (front_ring.ask_of w.rings.front) x h)) (sym (unwoken (front_view.is_broken (ring_step.step_of w.rings.front x).stage) x))
      (subst (λ (t : Heard). Listens w.front (ring_step.step_of w.rings.front x) t) (sym same) (record {
        bus = λ still. subst (λ (s : FrontBusStage). HearsAt (IsFree (ring_step.step_of w.rings.front x)) s w.front.state w.front.closing w.front.gone h) (sym here) heard;
        leaves = λ still gone early. absurd (true≢false (sym gone ∙ heard.1));
      }))
    where
      here : w.front.stage ≡ stage.Start
      here = left_starts w.front.stage w.front w.rings.front.stage k.fit.front left

      whole : IsWhole w
      whole = by_stage w.rings.front.stage left
        where
          by_stage : (s : FrontStage) → is_left s ≡ true → front_view.is_broken s ≡ false
          by_stage (ring_stage.LeftData n) is = refl
          by_stage s is = absurd (true≢false (sym is))

      heard : HearsAt (IsFree w.rings.front) stage.Start w.front.state w.front.closing w.front.gone h
      heard = subst (λ (s : FrontBusStage). HearsAt (IsFree w.rings.front) s w.front.state w.front.closing w.front.gone h) here (l.bus whole)

      same : front_hears (front_ring.ask_of w.rings.front) x h ≡ h
      same =
          ring_heard (front_ring.ask_of w.rings.front) x h (fronts_no_key w.rings.front) allowed
          ∙ unwatched (front_ring.ask_of w.rings.front) x h (λ e. left_asks w.rings.front.stage w.rings.front c left k.ring e) allowed

      -- it takes no watch yet
      unwoken : (broken : Bool) (x : FrontAnswer) → front_step.woken broken idle w.front x ≡ w.front
      unwoken false (answer.Watched path) =
          ap (λ (d : FrontBusStage). settled idle (step_at d (at d w.front) idle (answer.Watched path))) (ap (λ (s : FrontBusStage). bus.due_at s w.front idle) here) ∙ ap (λ (s : FrontBusStage). at s w.front) (sym here)
      unwoken false answer.Event = refl
      unwoken false answer.Done = refl
      unwoken false (answer.Word word) = refl
      unwoken false (answer.Port port) = refl
      unwoken false (answer.Key text) = refl
      unwoken true x = refl
