-- The front waits in its three cases alone.
use Rattle.std.proofs.Common.{◌⊎◌, inl, inr, ◌≡◌, ◌∙◌, ap, sym, subst, refl, ℕ, ◌&&◌, Bool, true, false, true≢false, if◌then◌else◌, List, [], ◌∷◌}
use Rattle.std.proofs.Common.{◌||◌, not}
use Rattle.std.specs.Prelude.{Option, Some, None, Err, ◌==◌}
use Rattle.line_text.proofs.Both.{both_true}
use Rattle.blk_base.specs.declared.config.Submission.{Submission}
use Rattle.blk_base.specs.declared.parts.End.TheVariants as end
use Rattle.blk_base.specs.declared.ask.FrontAsk.{FrontAsk}
use Rattle.blk_base.specs.declared.ask.FrontAsk.TheVariants as front_ask
use Rattle.blk_base.specs.declared.ask.FrontAnswer.{FrontAnswer}
use Rattle.hypervisor.specs.Act.{FrontAct, BackAct, front_act}
use Rattle.blk_front.specs.declared.stage.FrontStage.{FrontStage}
use Rattle.blk_front.specs.declared.stage.FrontStage.TheVariants as ring_stage
use Rattle.blk_front.specs.declared.state.FrontState.TheVariants as enter
use Rattle.blk_front.specs.View as ends
use Rattle.blk_front.specs.Ask as front_ring
use Rattle.blk_front.specs.State.{is_open, may_enter, enters}
use Rattle.blk_front.specs.Suspend.{resumed}
use Rattle.blk_front.specs.Submit.{is_ready, submit_one, submit_of, wish_of}
use Rattle.blk_base.specs.declared.refusal.Refusal.TheVariants as refusal
use Rattle.xenbus_state.specs.declared.state.BusState.{BusState}
use Rattle.xenbus_state.specs.declared.state.BusState.TheVariants as state
use Rattle.xenbus_state.specs.declared.stage.FrontBusStage.{FrontBusStage}
use Rattle.xenbus_state.specs.declared.stage.FrontBusStage.TheVariants as stage
use Rattle.xenbus_state.specs.declared.table.FrontAction.TheVariants as action
use Rattle.xenbus_state.specs.declared.front.FrontBusAsk.{FrontBusAsk}
use Rattle.xenbus_state.specs.declared.front.FrontBusAsk.TheVariants as bus_ask
use Rattle.xenbus_state.specs.Tables.{on_offer, on_connected, on_closing, on_gone}
use Rattle.xenbus_state.specs.FrontView.{FrontView, closed, suspended, is_broken as is_broken_bus}
use Rattle.xenbus_state.specs.FrontAsk as bus
use Rattle.split_model.specs.World as rings
use Rattle.split_model.specs.Happening as ring
use Rattle.split_model.proofs.SafeFront.{submit_kept}
use Rattle.split_model.proofs.SafeAnswers.{front_answered}
use Rattle.vbd_front.specs.View as front_view
use Rattle.vbd_front.specs.Ask as front
use Rattle.vbd_front.specs.Step as front_step
use Rattle.vbd_model.specs.World.{World, start_of, frontend_of}
use Rattle.vbd_model.specs.Happening.{Happening, FrontMoves, BackMoves, JobMoves, Closes, Submits, Suspends, front_does, happens, after}
use Rattle.vbd_model.specs.Fit.{FrontRests, FrontGoesWith}
use Rattle.vbd_laws.specs.Waits as waits
use Rattle.vbd_laws.specs.Waits.{Check, Awake, Heard, Unwatched, Watching, Fired, Read, front_hears, front_check, front_check_in, front_heard_by, front_heard_in, front_heard, is_unserved, FrontWaits}
use Rattle.vbd_laws.proofs.FitFrontBus.{rests_due}
use Rattle.vbd_laws.proofs.FitFrontMoves.{left_moves}
use Rattle.vbd_laws.proofs.FitFront.{asks_cases}
use Rattle.vbd_laws.proofs.FitSuspended.{anew_at}
use Rattle.vbd_laws.proofs.MovesTurns.{front_cases, front_told}
use Rattle.vbd_laws.proofs.WaitsFront.{Knows, knows_start, knows_on, knows_after, BusWaits, bus_waits}
use Rattle.vbd_laws.proofs.WaitsFrontCases.{bus_asks, MayWait, rests_whole, may_wait, waits as waits_so}
use Rattle.vbd_laws.proofs.WaitsFrontHeard.{IsDealt, IsGone, HearsAt, dealt_gone, hears_closed, hears_as}
use Rattle.vbd_laws.proofs.WaitsFrontMoves.{IsFree, IsWhole, is_early, Listens, rest_gone, says_goes, moves_goes, waits_goes, left_goes}
use Rattle.vbd_laws.proofs.MovesFront.{after_front_move}
use Rattle.vbd_laws.proofs.MovesBack.{after_back_move}

abbrev Goes : World → Heard → FrontAct → List ring.Happening → FrontAsk → (FrontAnswer → front_view.View) → Type 0
Goes w h a does ask step = front_act w.rings.under ask ≡ Some a → (let x : front_view.View = step a.answer in Listens x.bus x.ring (front_hears ask a.answer h))

goes : (w : World) (c : Check) (h : Heard) (a : FrontAct) → Knows w c → Listens w.front w.rings.front h → Goes w h a (front_does w) (front.ask_of (frontend_of w)) (λ x. front_step.step_of (frontend_of w) x)
goes w c h a k l =
    front_cases (Goes w h a) w
    (asks_cases (λ (b : FrontBusAsk). front.speaks b ≡ true → front_act w.rings.under (front.key_ask b) ≡ Some a → (let x : front_view.View = front_step.spoken (frontend_of w) a.answer in Listens x.bus x.ring (front_hears (front.key_ask b) a.answer h))) w
    (λ left says e. absurd (true≢false (sym says))) (λ none says e. says_goes w c h k l a.answer says (front_told w.rings.under (bus_asks w) a says e)))
    (asks_cases (λ (b : FrontBusAsk). front.speaks b ≡ false → front.ring_moves b w.rings.front.stage ≡ true → front_act w.rings.under (front_ring.ask_of w.rings.front) ≡ Some a
    → (let x : front_view.View = front_step.ring_step true b (frontend_of w) a.answer in Listens x.bus x.ring (front_hears (front_ring.ask_of w.rings.front) a.answer h))) w
    (λ left quiet moves e. left_goes w c h k l a.answer left (front_answered w.rings.under w.rings.front a e)) (λ none quiet moves e. moves_goes w c h k l a.answer quiet moves (front_answered w.rings.under w.rings.front a e)))
    (asks_cases (λ (b : FrontBusAsk). front.speaks b ≡ false → front.ring_moves b w.rings.front.stage ≡ false → front_act w.rings.under front_ask.Wait ≡ Some a
    → (let x : front_view.View = front_step.ring_step false b (frontend_of w) a.answer in Listens x.bus x.ring (front_hears front_ask.Wait a.answer h))) w
    (λ left quiet stands e. absurd (true≢false (sym (left_moves w.rings.front.stage left) ∙ stands))) (λ none quiet stands e. waits_goes w c h k l a.answer quiet stands))

abbrev ListensIn : Heard → World → Type 0
ListensIn h u = Listens u.front u.rings.front h

job_turns : (w : World) (h : Heard) (number : ℕ) (act : Option BackAct) → Listens w.front w.rings.front h → (let r : rings.World = ring.job_after w.rings number act in Listens w.front r.front h)
job_turns w h number None l = l
job_turns w h number (Some a) l = l

-- it is asked to close
close_turns : (v : FrontView) (f : ends.View) (h : Heard) → Listens v f h → Listens (closed v) (enters enter.Closing f) h
close_turns v f h l = by_test (v.closing || is_broken_bus v.stage) (may_enter enter.Closing f) refl
  where
    by_test : (done may : Bool) → (v.closing || is_broken_bus v.stage) ≡ done → Listens (if done then v else record v { closing = true }) (if may then record f { closing = true } else f) h
    by_test true true d = record { bus = l.bus; leaves = l.leaves }
    by_test true false d = l
    by_test false true d = record { bus = λ whole. hears_closed (IsFree f) v.stage v.state v.closing v.gone h (l.bus whole); leaves = λ whole gone early. (both_true v.closing (front_view.is_unoccupied f) (l.leaves whole gone early)).1 }
    by_test false false d = record { bus = λ whole. hears_closed (IsFree f) v.stage v.state v.closing v.gone h (l.bus whole); leaves = λ whole gone early. (both_true v.closing (front_view.is_unoccupied f) (l.leaves whole gone early)).1 }

-- a front that closes takes no request
refused : (f : ends.View) (job : Submission) → f.closing ≡ true → (submit_of f job).1 ≡ f
refused f job closing = by_test (f.last == 4294967295) f.closing closing
  where
    by_test : (b c : Bool) → c ≡ true → (if b then (Err refusal.Spent, f) else (if c then (Err refusal.Closing, f) else (if not (is_ready f.stage) then (Err refusal.NotReady, f) else submit_one f (wish_of f.offers job)))).1 ≡ f
    by_test true c is = refl
    by_test false true is = refl
    by_test false false is = absurd (true≢false (sym is))

submit_turns : (w : World) (c : Check) (h : Heard) (job : Submission) → Knows w c → Listens w.front w.rings.front h → Listens w.front (submit_of w.rings.front job).1 h
submit_turns w c h job k l =
    let same : (submit_of w.rings.front job).1.stage ≡ w.rings.front.stage = (submit_kept w.rings.front job).stage in
    record {
      bus = λ whole.
          let before = ap front_view.is_broken (sym same) ∙ whole in
          hears_as (IsFree w.rings.front) (IsFree (submit_of w.rings.front job).1) w.front.stage w.front.state w.front.closing w.front.gone h
          (λ closing free. subst IsFree (sym (refused w.rings.front job (k.fit.closing before ∙ closing))) free) (l.bus before);
      leaves = λ whole gone early.
          let before = ap front_view.is_broken (sym same) ∙ whole in
          let both = l.leaves before gone early in
          let closes = (both_true w.front.closing (front_view.is_unoccupied w.rings.front) both).0 in
          subst (λ (f : ends.View). (w.front.closing && front_view.is_unoccupied f) ≡ true) (sym (refused w.rings.front job (k.fit.closing before ∙ closes))) both;
    }

-- the domain is suspended: an open front begins anew, and has heard nothing
suspends : (w : World) (c : Check) (h : Heard) → Knows w c → Listens w.front w.rings.front h → ListensIn (front_heard_in w Suspends h) (happens w Suspends)
suspends w c h k l = by_may (rings.may_suspend w.rings)
  where
    by_open : (o : Bool) → is_open w.rings.front.stage ≡ o → Listens (if o then suspended w.front else w.front) (if o then resumed w.rings.front else w.rings.front) (if o then Unwatched else h)
    by_open true opened =
        subst (λ (v : FrontView). Listens v (resumed w.rings.front) Unwatched) (sym (anew_at w.front.stage w.front w.rings.front.stage k.fit.front opened))
        (record { bus = λ whole. (refl, refl); leaves = λ whole gone early. absurd (true≢false (sym gone)) })
    by_open false over = l

    by_may : (may : Bool) → Listens (if may && is_open w.rings.front.stage then suspended w.front else w.front) (let r : rings.World = if may then rings.suspended w.rings else w.rings in r.front) (if may && is_open w.rings.front.stage then Unwatched else h)
    by_may true = by_open (is_open w.rings.front.stage) refl
    by_may false = l

listens_on : (w : World) (happening : Happening) (c : Check) (h : Heard) → Knows w c → Listens w.front w.rings.front h → ListensIn (front_heard_in w happening h) (happens w happening)
listens_on w FrontMoves c h k l =
    after_front_move (λ act u. ListensIn (front_heard_by w act h) u) w k.fit l (λ a e. let after = goes w c h a k l e in record { bus = after.bus; leaves = after.leaves })
listens_on w BackMoves c h k l = after_back_move (λ act u. ListensIn h u) w k.fit l (λ a e. l)
listens_on w (JobMoves number outcome) c h k l = job_turns w h number (ring.job_turn w.rings number outcome) l
listens_on w (Closes end.Front) c h k l = close_turns w.front w.rings.front h l
listens_on w (Closes end.Back) c h k l = l
listens_on w (Submits job) c h k l = submit_turns w c h job k l
listens_on w Suspends c h k l = suspends w c h k l
listens_on w happening c h k l = l

listens_after : (hs : List Happening) (w : World) (c : Check) (h : Heard) → Knows w c → Listens w.front w.rings.front h → ListensIn (front_heard hs w h) (after hs w)
listens_after [] w c h k l = l
listens_after (x ∷ hs) w c h k l = listens_after hs (happens w x) (front_check_in w x c) (front_heard_in w x h) (knows_on w x c k) (listens_on w x c h k l)

-- where nothing of a request is left a front at nothing is unoccupied
idle_early : (f : ends.View) (s : FrontStage) → f.stage ≡ s → front_view.is_still s ≡ true → IsFree f → front_view.is_unoccupied f ≡ true
idle_early f s here still free = rw (free, here, still) refl

module _ (w : World) (c : Check) (h : Heard) (k : Knows w c) (l : Listens w.front w.rings.front h) (whole : IsWhole w) where
  abbrev idle : Bool
  idle = front_view.is_unoccupied w.rings.front

  -- where its negotiation rests and asks for nothing it has done what the table gives
  offer_done : (own : BusState) → FrontRests own w.front.gone w.front.port w.rings.front.stage → (w.front.closing && idle) ≡ false → (own ≡ state.Initialising → (w.front.closing ≡ true) × IsFree w.rings.front) → waits.GivesNoMore w.front.closing (on_offer own)
  offer_done state.Initialising rests still is =
      let both = is refl in
      absurd (true≢false (sym (rw (both.0, idle_early w.rings.front (ring_stage.RingWord 0) rests.0 refl both.1) refl) ∙ still))
  offer_done own rests still is = tt

  connect_done : (own : BusState) → FrontRests own w.front.gone w.front.port w.rings.front.stage → (w.front.closing && idle) ≡ false → (own ≡ state.Initialised → (w.front.closing ≡ true) × IsFree w.rings.front) → waits.GivesNoMore w.front.closing (on_connected own)
  connect_done state.Initialised rests still is =
      let both = is refl in
      absurd (true≢false (sym (rw (both.0, idle_early w.rings.front ring_stage.Initialised rests.0 refl both.1) refl) ∙ still))
  connect_done own rests still is = tt

  close_done : (own : BusState) (free : Bool) → idle ≡ free → FrontRests own w.front.gone w.front.port w.rings.front.stage → w.front.closing ≡ true → (own ≡ state.Initialised → IsFree w.rings.front) → waits.GivesNoMore w.front.closing (on_closing own free)
  close_done state.Initialised false f rests closing is = absurd (true≢false (sym (idle_early w.rings.front ring_stage.Initialised rests.0 refl (is refl)) ∙ f))
  close_done state.Initialised true f rests closing is = closing
  close_done own free f rests closing is = closing

  done_by : (x : Heard) → IsDealt (IsFree w.rings.front) w.front.state w.front.closing w.front.gone x → w.front.gone ≡ false → FrontRests w.front.state w.front.gone w.front.port w.rings.front.stage → waits.FrontHasDone w.front.state w.front.closing idle x
  done_by Unwatched is gone rests = is
  done_by Fired is gone rests = is
  done_by Watching is gone rests = tt
  done_by (Read None) is gone rests = absurd is
  done_by (Read (Some state.InitWait)) is gone rests = by_test (w.front.closing && idle) refl
    where
      by_test : (b : Bool) → (w.front.closing && idle) ≡ b → waits.GivesNoMore w.front.closing (if b then action.Nothing else on_offer w.front.state)
      by_test true e = tt
      by_test false e = offer_done w.front.state rests e is.1
  done_by (Read (Some state.Connected)) is gone rests = by_test (w.front.closing && idle) refl
    where
      by_test : (b : Bool) → (w.front.closing && idle) ≡ b → waits.GivesNoMore w.front.closing (if b then action.Nothing else on_connected w.front.state)
      by_test true e = tt
      by_test false e = connect_done w.front.state rests e is.1
  done_by (Read (Some state.Closing)) is gone rests = close_done w.front.state idle refl rests is.1 is.2
  done_by (Read (Some state.Closed)) is gone rests = absurd (true≢false (sym is.0 ∙ gone))
  done_by (Read (Some state.Unknown)) is gone rests = absurd (true≢false (sym is.0 ∙ gone))
  done_by (Read (Some state.Initialising)) is gone rests = tt
  done_by (Read (Some state.Initialised)) is gone rests = tt
  done_by (Read (Some state.Reconfiguring)) is gone rests = tt
  done_by (Read (Some state.Reconfigured)) is gone rests = tt

  rests_done : bus_asks w ≡ bus_ask.Wait → w.front.stage ≡ stage.Rest → waits.FrontRests w h
  rests_done e here = record {
    done = done_by h (subst (λ (s : FrontBusStage). HearsAt (IsFree w.rings.front) s w.front.state w.front.closing w.front.gone h) here (l.bus whole)) (rest_gone w c h k l whole e here) (rests_whole w c k here whole);
    closes = λ both. by_bus (bus_waits w.front idle e) both;
  }
    where
      by_bus : BusWaits w.front idle → (w.front.closing && idle) ≡ true → w.front.state ≡ state.Closing
      by_bus (inl found) both = elim found.1 [ inl still ↦ absurd (true≢false (sym both ∙ still)) | inr closes ↦ closes.0 ]
      by_bus (inr (inl over)) both = let differ : stage.Rest ≡ stage.Closed = sym here ∙ over in absurd (cc)
      by_bus (inr (inr found)) both = let differ : stage.Rest ≡ stage.Broken found.0 = sym here ∙ found.1 in absurd (cc)

  -- and where it has done that, it asks for nothing
  gone_undone : (x : Heard) → IsGone x → waits.FrontHasDone w.front.state w.front.closing idle x → ⊥
  gone_undone (Read (Some state.Closed)) is done = by_idle idle done
    where
      by_idle : (free : Bool) → waits.GivesNoMore w.front.closing (on_gone free 6) → ⊥
      by_idle true done = done
      by_idle false done = done
  gone_undone (Read (Some state.Unknown)) is done = by_idle idle done
    where
      by_idle : (free : Bool) → waits.GivesNoMore w.front.closing (on_gone free 0) → ⊥
      by_idle true done = done
      by_idle false done = done
  gone_undone x is done = is

  unlike_closing : (own : BusState) → w.front.state ≡ own → is_early own ≡ true → w.front.state ≡ state.Closing → ⊥
  unlike_closing own at_own early is = true≢false (sym early ∙ ap is_early (sym at_own ∙ is))

  publishes_undone : w.front.state ≡ state.Initialising → h ≡ Read (Some state.InitWait) → waits.FrontRests w h → ⊥
  publishes_undone own e rests = by_test (w.front.closing && idle) refl (subst (λ (s : BusState). waits.FrontHasDone s w.front.closing idle (Read (Some state.InitWait))) own (subst (λ (x : Heard). waits.FrontHasDone w.front.state w.front.closing idle x) e rests.done))
    where
      by_test : (b : Bool) → (w.front.closing && idle) ≡ b → waits.GivesNoMore w.front.closing (if b then action.Nothing else action.Publish) → ⊥
      by_test true t done = unlike_closing state.Initialising own refl (rests.closes t)
      by_test false t done = done

  connects_undone : w.front.state ≡ state.Initialised → (h ≡ Read (Some state.Connected)) ⊎ ((h ≡ Read (Some state.Closing)) × (w.front.closing ≡ true)) → waits.FrontRests w h → ⊥
  connects_undone own (inl e) rests = by_test (w.front.closing && idle) refl (subst (λ (s : BusState). waits.FrontHasDone s w.front.closing idle (Read (Some state.Connected))) own (subst (λ (x : Heard). waits.FrontHasDone w.front.state w.front.closing idle x) e rests.done))
    where
      by_test : (b : Bool) → (w.front.closing && idle) ≡ b → waits.GivesNoMore w.front.closing (if b then action.Nothing else action.Connect) → ⊥
      by_test true t done = unlike_closing state.Initialised own refl (rests.closes t)
      by_test false t done = done
  connects_undone own (inr e) rests = by_idle idle refl (subst (λ (s : BusState). waits.FrontHasDone s w.front.closing idle (Read (Some state.Closing))) own (subst (λ (x : Heard). waits.FrontHasDone w.front.state w.front.closing idle x) e.0 rests.done))
    where
      by_idle : (free : Bool) → idle ≡ free → waits.GivesNoMore w.front.closing (on_closing state.Initialised free) → ⊥
      by_idle true f done = unlike_closing state.Initialised own refl (rests.closes (rw (e.1, f) refl))
      by_idle false f done = done

  done_rests : waits.FrontRests w h → (w.front.state ≡ state.Closed → ⊥) → bus_asks w ≡ bus_ask.Wait
  done_rests rests unclosed = by_stage w.front.stage refl (l.bus whole) k.fit.front
    where
      ends : IsGone h → bus_asks w ≡ bus_ask.Wait
      ends gone = absurd (gone_undone h gone rests.done)

      leaving_waits : (gone : Bool) (port : Option ℕ) → gone ≡ false → bus.ask_at (bus.leaving gone port) w.front ≡ bus_ask.Wait
      leaving_waits false port is = refl
      leaving_waits true port is = absurd (true≢false is)

      at_rest : w.front.stage ≡ stage.Rest → IsDealt (IsFree w.rings.front) w.front.state w.front.closing w.front.gone h → bus_asks w ≡ bus_ask.Wait
      at_rest here dealt = by_test (w.front.closing && idle) refl
        where
          not_gone : w.front.gone ≡ false
          not_gone = by_gone w.front.gone refl
            where
              by_gone : (gone : Bool) → w.front.gone ≡ gone → gone ≡ false
              by_gone false g = refl
              by_gone true g = absurd (gone_undone h (dealt_gone (IsFree w.rings.front) w.front.state w.front.closing w.front.gone h dealt g) rests.done)

          by_test : (b : Bool) → (w.front.closing && idle) ≡ b → bus_asks w ≡ bus_ask.Wait
          by_test false t = ap (λ (d : FrontBusStage). bus.ask_at d w.front) (rests_due w.front idle false here t)
          by_test true t =
              ap (λ (d : FrontBusStage). bus.ask_at d w.front) (rests_due w.front idle true here t)
              ∙ (ap (λ (s : BusState). bus.ask_at (bus.closing_stage s w.front) w.front) (rests.closes t) ∙ leaving_waits w.front.gone w.front.port not_gone)

      unheard : (x : Heard) → h ≡ x → (waits.FrontHasDone w.front.state w.front.closing idle x → ⊥) → bus_asks w ≡ bus_ask.Wait
      unheard x e none = absurd (none (subst (λ (y : Heard). waits.FrontHasDone w.front.state w.front.closing idle y) e rests.done))

      by_stage : (s : FrontBusStage) → w.front.stage ≡ s → HearsAt (IsFree w.rings.front) s w.front.state w.front.closing w.front.gone h → FrontGoesWith s w.front w.rings.front.stage → bus_asks w ≡ bus_ask.Wait
      by_stage stage.Rest here is goes = at_rest here is
      by_stage stage.Start here is goes = unheard Unwatched is.0 (λ done. done)
      by_stage stage.ReadState here is goes = unheard Fired is.0 (λ done. done)
      by_stage (stage.WriteState state.Initialised) here is goes = absurd (publishes_undone goes.0 is.0 rests)
      by_stage (stage.ReadFact key) here is goes = absurd (connects_undone goes.0 is.0 rests)
      by_stage (stage.WriteState state.Connected) here is goes = absurd (connects_undone goes.0 is.0 rests)
      by_stage (stage.WriteState state.Closed) here is goes = ends is
      by_stage (stage.WriteState s) here is goes = absurd goes
      by_stage (stage.EndGrant page) here is goes = ends is
      by_stage stage.EndOtherGrants here is goes = absurd goes
      by_stage stage.ClosePort here is goes = ends is
      by_stage stage.Closed here is goes = absurd (unclosed goes.0)
      by_stage (stage.Broken word) here is goes = absurd (true≢false (sym goes ∙ whole))
      by_stage other here is goes = absurd (publishes_undone goes.0 is.0 rests)

  -- it rests where its negotiation asks for nothing and it isn't closed
  rests_here : bus_asks w ≡ bus_ask.Wait → (w.front.state ≡ state.Closed → ⊥) → w.front.stage ≡ stage.Rest
  rests_here e unclosed = by_bus (bus_waits w.front idle e)
    where
      by_bus : BusWaits w.front idle → w.front.stage ≡ stage.Rest
      by_bus (inl found) = found.0
      by_bus (inr (inl here)) = let goes : FrontGoesWith stage.Closed w.front w.rings.front.stage = subst (λ (s : FrontBusStage). FrontGoesWith s w.front w.rings.front.stage) here k.fit.front in absurd (unclosed goes.0)
      by_bus (inr (inr found)) = let goes : FrontGoesWith (stage.Broken found.0) w.front w.rings.front.stage = subst (λ (s : FrontBusStage). FrontGoesWith s w.front w.rings.front.stage) found.1 k.fit.front in absurd (true≢false (sym goes ∙ whole))

-- what is open isn't closed
unserved_open : (own : BusState) → is_unserved own ≡ true → own ≡ state.Closed → ⊥
unserved_open own is closed_is = true≢false (sym is ∙ ap is_unserved closed_is)

connected_open : (own : BusState) → own ≡ state.Connected → own ≡ state.Closed → ⊥
connected_open own is closed_is = true≢false (sym (ap is_early is) ∙ ap is_early closed_is)

module _ (w : World) (c : Check) (h : Heard) (k : Knows w c) (l : Listens w.front w.rings.front h) where
  told : MayWait w c → waits.FrontMayWait w c h
  told may = by_broken (front_view.is_broken w.rings.front.stage) refl may
    where
      by_broken : (b : Bool) → front_view.is_broken w.rings.front.stage ≡ b → MayWait w c → waits.FrontMayWait w c h
      by_broken true is may = inr (inr (inr is))
      by_broken false whole (inl may) = inl (may.0, rests_done w c h k l whole may.1 (rests_here w c h k l whole may.1 (unserved_open w.front.state may.0)))
      by_broken false whole (inr (inl may)) = inr (inl (record {
        connected = may.connected;
        rests = rests_done w c h k l whole may.rests (rests_here w c h k l whole may.rests (connected_open w.front.state may.connected));
        nothing_found = may.nothing_found;
        none_waits = may.none_waits;
        none_begun = may.none_begun;
      }))
      by_broken false whole (inr (inr may)) = inr (inr may)

  untold : waits.FrontMayWait w c h → MayWait w c
  untold may = by_broken (front_view.is_broken w.rings.front.stage) refl may
    where
      by_broken : (b : Bool) → front_view.is_broken w.rings.front.stage ≡ b → waits.FrontMayWait w c h → MayWait w c
      by_broken true is may = inr (inr (inr is))
      by_broken false whole (inl may) = inl (may.0, done_rests w c h k l whole may.1 (unserved_open w.front.state may.0))
      by_broken false whole (inr (inl may)) = inr (inl (record {
        connected = may.connected;
        rests = done_rests w c h k l whole may.rests (connected_open w.front.state may.connected);
        nothing_found = may.nothing_found;
        none_waits = may.none_waits;
        none_begun = may.none_begun;
      }))
      by_broken false whole (inr (inr may)) = inr (inr may)

pub front_waits_alone : FrontWaits
front_waits_alone config hs few =
    let w = after hs (start_of config) in
    let c = front_check hs (start_of config) Awake in
    let h = front_heard hs (start_of config) Unwatched in
    let first = knows_start config few in
    let k = knows_after hs (start_of config) Awake first in
    let l = listens_after hs (start_of config) Awake Unwatched first (record { bus = λ whole. (refl, refl); leaves = λ whole gone. absurd (true≢false (sym gone)) }) in
    (λ e. told w c h k l (may_wait w c k e), λ may. waits_so w c k (untold w c h k l may))
