-- Where the front's negotiation reads the back's state, its end of the ring has begun no step: that watch was taken as both waited.
use Rattle.std.proofs.Common.{◌≡◌, ℕ, ◌+◌, ◌==◌, Bool, true, false, true≢false, refl, sym, ap, ◌∙◌, subst}
use Rattle.std.specs.Prelude.{Option, Some, None, nat_lt}
use Rattle.blk_base.specs.declared.ask.FrontAsk.{FrontAsk}
use Rattle.blk_base.specs.declared.ask.FrontAnswer.{FrontAnswer}
use Rattle.blk_base.specs.declared.ask.FrontAnswer.TheVariants as answer
use Rattle.hypervisor.specs.Hypervisor.{Hypervisor}
use Rattle.hypervisor.specs.Act.{FrontAct, front_act}
use Rattle.blk_front.specs.declared.request.Request.{Request}
use Rattle.blk_front.specs.declared.stage.FrontStage.{FrontStage}
use Rattle.blk_front.specs.declared.stage.FrontStage.TheVariants as ring_stage
use Rattle.blk_front.specs.State.{is_made}
use Rattle.blk_front.specs.Submit.{is_ready, is_wait}
use Rattle.blk_front.specs.Suspend.{is_left}
use Rattle.blk_front.specs.View as ring
use Rattle.blk_front.specs.View.{next_request, slot_frame, slot_word}
use Rattle.blk_front.specs.Ask as ring_asks
use Rattle.blk_front.specs.Ask.{is_through, data_ask, page_ask, name_ask, grant_ask, revoke_ask, end_ask, read_ask, issue_ask, loop_ask}
use Rattle.blk_front.specs.Step as ring_step
use Rattle.xenbus_state.specs.declared.state.BusState.{BusState}
use Rattle.xenbus_state.specs.declared.state.BusState.TheVariants as state
use Rattle.xenbus_state.specs.declared.stage.FrontBusStage.{FrontBusStage}
use Rattle.xenbus_state.specs.declared.stage.FrontBusStage.TheVariants as stage
use Rattle.xenbus_state.specs.declared.front.FrontBusAsk.{FrontBusAsk}
use Rattle.xenbus_state.specs.declared.front.FrontBusAsk.TheVariants as bus_ask
use Rattle.xenbus_state.specs.declared.keys.BackKey.{BackKey}
use Rattle.xenbus_state.specs.declared.table.FrontAction.{FrontAction}
use Rattle.xenbus_state.specs.declared.table.FrontAction.TheVariants as action
use Rattle.xenbus_state.specs.States.{state_read}
use Rattle.xenbus_state.specs.Tables.{front_action}
use Rattle.xenbus_state.specs.Reading.{count_read, fact_read}
use Rattle.xenbus_state.specs.Programs.{next_feature, next_fact, next_published}
use Rattle.xenbus_state.specs.FrontView.{FrontView, ring_order, pages_of}
use Rattle.xenbus_state.specs.FrontAsk as bus
use Rattle.xenbus_state.specs.FrontStep.{at, acted, feature_step, fact_step, after_feature, after_fact, after_published, after_grants, after_state, step_at, step_of}
use Rattle.split_model.proofs.SafeActs.{of_front}
use Rattle.split_model.proofs.Acting.{FrontWatched, front_acts}
use Rattle.vbd_front.specs.View.{is_still, is_broken}
use Rattle.vbd_front.specs.Ask as front
use Rattle.vbd_front.specs.Step.{settled_at, settled, bus_told, woken, followed, waited}
use Rattle.vbd_model.specs.Fit.{FrontRests, IsEndingPage, FrontGoesWith}
use Rattle.negotiation_laws.proofs.Choices.{either}
use Rattle.vbd_laws.specs.Breaks.{FrontSight}
use Rattle.vbd_laws.proofs.BreaksKept.{KnownBy}
use Rattle.vbd_laws.proofs.BreaksKeys.{reads_state, due_state}
use Rattle.vbd_laws.proofs.WaitsFront.{issue_asks}

abbrev pub is_watched : FrontAnswer → Bool
is_watched (answer.Watched path) = true
is_watched x = false

-- what isn't so of the stage that was begun isn't so of what is due
due_unread : (v : FrontView) (idle : Bool) → reads_state v.stage ≡ false → reads_state (bus.due v idle) ≡ false
due_unread v idle none = by_test (reads_state (bus.due v idle)) refl
  where
    by_test : (b : Bool) → reads_state (bus.due v idle) ≡ b → b ≡ false
    by_test false e = refl
    by_test true e = absurd (true≢false (sym (due_state v idle e) ∙ none))

-- no answer but a watch has it read the state next

acted_unread : (act : FrontAction) (v : FrontView) → reads_state (acted act v).stage ≡ false
acted_unread action.Nothing v = refl
acted_unread other v = refl

feature_unread : (k : BackKey) (n : Option ℕ) (v : FrontView) → reads_state (feature_step k n v).stage ≡ false
feature_unread k None v = refl
feature_unread k (Some n) v = elim (next_feature k) as (λ next. reads_state (after_feature next) ≡ false) [ None ↦ refl | Some key ↦ refl ]

fact_unread : (k : BackKey) (n : Option ℕ) (v : FrontView) → reads_state (fact_step k n v).stage ≡ false
fact_unread k None v = refl
fact_unread k (Some n) v = elim (next_fact k) as (λ next. reads_state (after_fact next) ≡ false) [ None ↦ refl | Some key ↦ refl ]

written_unread : (own : BusState) → reads_state (after_state own) ≡ false
written_unread state.Closed = refl
written_unread own = refl

step_unread : (b : FrontBusStage) (v : FrontView) (idle : Bool) (x : FrontAnswer) → is_watched x ≡ false → reads_state b ≡ false → reads_state (step_at b (at b v) idle x).stage ≡ false
step_unread stage.Rest v idle (answer.Watched path) other none = absurd (true≢false other)
step_unread stage.ReadState v idle x other none = absurd (true≢false none)
step_unread (stage.ReadFeature k) v idle (answer.Key text) other none = feature_unread k (count_read text) (at (stage.ReadFeature k) v)
step_unread stage.NewPort v idle (answer.Port number) other none = refl
step_unread (stage.ReadFact k) v idle (answer.Key text) other none = fact_unread k (fact_read k text) (at (stage.ReadFact k) v)
step_unread (stage.WriteState own) v idle answer.Done other none = written_unread own
step_unread stage.ClosePort v idle answer.Done other none = refl
step_unread (stage.RingWord word) v idle answer.Done other none = either (λ (one : FrontBusStage). reads_state one ≡ false) (word == 15) (stage.Grant 0) (stage.RingWord (word + 1)) refl refl
step_unread (stage.Grant page) v idle answer.Done other none = either (λ (one : FrontBusStage). reads_state one ≡ false) (nat_lt (page + 1) (pages_of v)) (stage.Grant (page + 1)) stage.NewPort refl refl
step_unread (stage.Publish k) v idle answer.Done other none = elim (next_published (ring_order v) k) as (λ next. reads_state (after_published next) ≡ false) [ None ↦ refl | Some key ↦ refl ]
step_unread (stage.EndGrant page) v idle answer.Done other none = either (λ (one : FrontBusStage). reads_state one ≡ false) (nat_lt (page + 1) (pages_of v)) (stage.EndGrant (page + 1)) stage.EndOtherGrants refl refl
step_unread stage.EndOtherGrants v idle answer.Done other none = elim v.port as (λ port. reads_state (after_grants port) ≡ false) [ None ↦ refl | Some port ↦ refl ]
step_unread stage.Start v idle answer.Done other none = refl
step_unread b v idle answer.Done other none = none
step_unread b v idle x other none = none

settled_unread : (idle : Bool) (u : FrontView) → reads_state u.stage ≡ false → reads_state (settled idle u).stage ≡ false
settled_unread idle u none = by_ask (bus.ask_of u idle)
  where
    by_ask : (a : FrontBusAsk) → reads_state (settled_at a idle u).stage ≡ false
    by_ask bus_ask.EndOtherGrants = step_unread (bus.due u idle) u idle answer.Done refl (due_unread u idle none)
    by_ask a = none

told_unread : (idle : Bool) (v : FrontView) (x : FrontAnswer) → is_watched x ≡ false → reads_state v.stage ≡ false → reads_state (bus_told idle v x).stage ≡ false
told_unread idle v x other none = settled_unread idle (step_of v idle x) (step_unread (bus.due v idle) v idle x other (due_unread v idle none))

-- it speaks: where it reads the state it is told a text
pub spoken_unread : (h : Hypervisor) (v : FrontView) (idle : Bool) (a : FrontAct) → front.speaks (bus.ask_of v idle) ≡ true → front_act h (front.key_ask (bus.ask_of v idle)) ≡ Some a → reads_state (bus_told idle v a.answer).stage ≡ false
spoken_unread h v idle a = by_due (bus.due v idle) refl
  where
    by_due : (b : FrontBusStage) → bus.due v idle ≡ b → front.speaks (bus.ask_at b v) ≡ true → front_act h (front.key_ask (bus.ask_at b v)) ≡ Some a → reads_state (bus_told idle v a.answer).stage ≡ false
    by_due b is says e = settled_unread idle (step_of v idle a.answer) (subst (λ (d : FrontBusStage). reads_state (step_at d (at d v) idle a.answer).stage ≡ false) (sym is) (at_stage b says e))
      where
        at_stage : (b : FrontBusStage) → front.speaks (bus.ask_at b v) ≡ true → front_act h (front.key_ask (bus.ask_at b v)) ≡ Some a → reads_state (step_at b (at b v) idle a.answer).stage ≡ false
        at_stage stage.Start says e = of_front (λ (x : FrontAct). reads_state (step_at stage.Start (at stage.Start v) idle x.answer).stage ≡ false) _ a refl e
        at_stage stage.ReadState says e = of_front (λ (x : FrontAct). reads_state (step_at stage.ReadState (at stage.ReadState v) idle x.answer).stage ≡ false) _ a (acted_unread (front_action v.state v.closing idle (state_read _)) (at stage.ReadState v)) e
        at_stage (stage.ReadFeature k) says e = of_front (λ (x : FrontAct). reads_state (step_at (stage.ReadFeature k) (at (stage.ReadFeature k) v) idle x.answer).stage ≡ false) _ a (feature_unread k _ (at (stage.ReadFeature k) v)) e
        at_stage (stage.ReadFact k) says e = of_front (λ (x : FrontAct). reads_state (step_at (stage.ReadFact k) (at (stage.ReadFact k) v) idle x.answer).stage ≡ false) _ a (fact_unread k _ (at (stage.ReadFact k) v)) e
        at_stage (stage.Publish k) says e = of_front (λ (x : FrontAct). reads_state (step_at (stage.Publish k) (at (stage.Publish k) v) idle x.answer).stage ≡ false) _ a (elim (next_published (ring_order v) k) as (λ next. reads_state (after_published next) ≡ false) [ None ↦ refl | Some key ↦ refl ]) e
        at_stage (stage.WriteState own) says e = of_front (λ (x : FrontAct). reads_state (step_at (stage.WriteState own) (at (stage.WriteState own) v) idle x.answer).stage ≡ false) _ a (written_unread own) e
        at_stage b says e = absurd (true≢false (sym says))

-- it follows a move of its end of the ring, or waits
woken_unread : (broken idle : Bool) (v : FrontView) (x : FrontAnswer) → is_watched x ≡ false → reads_state v.stage ≡ false → reads_state (woken broken idle v x).stage ≡ false
woken_unread false idle v (answer.Watched path) other none = absurd (true≢false other)
woken_unread broken idle v x other none = none

pub followed_unread : (b : FrontBusAsk) (later : FrontStage) (idle : Bool) (v : FrontView) (x : FrontAnswer) → is_watched x ≡ false → reads_state v.stage ≡ false → reads_state (followed b later idle v x).stage ≡ false
followed_unread (bus_ask.WriteRingWord word) later idle v x other none = told_unread idle v x other none
followed_unread (bus_ask.Grant page) (ring_stage.RingFrame k) idle v x other none = told_unread idle v x other none
followed_unread (bus_ask.Grant page) ring_stage.NewPort idle v x other none = told_unread idle v x other none
followed_unread bus_ask.NewPort later idle v x other none = told_unread idle v x other none
followed_unread (bus_ask.EndGrant page) (ring_stage.RingRead k) idle v x other none = told_unread idle v answer.Done refl none
followed_unread (bus_ask.EndGrant page) ring_stage.ClosePort idle v x other none = told_unread idle v answer.Done refl none
followed_unread bus_ask.ClosePort later idle v x other none = told_unread idle v x other none
followed_unread bus_ask.Wait later idle v x other none = woken_unread (is_broken later) idle v x other none
followed_unread b later idle v x other none = none

abbrev pub is_resting : FrontBusAsk → Bool
is_resting bus_ask.Wait = true
is_resting b = false

pub waited_unread : (b : FrontBusAsk) (idle : Bool) (v : FrontView) (x : FrontAnswer) → is_resting b ≡ false → reads_state v.stage ≡ false → reads_state (waited b idle v x).stage ≡ false
waited_unread bus_ask.Wait idle v x busy none = absurd (true≢false busy)
waited_unread b idle v x busy none = none

-- its end of the ring waits where it has begun no step: another ask takes no watch
ask_unwatched : (h : Hypervisor) (asked : FrontAsk) (a : FrontAct) → is_wait asked ≡ false → front_act h asked ≡ Some a → is_watched a.answer ≡ false
ask_unwatched h asked a on e = (elim (front_acts h asked a e) as (λ wish x acts. is_wait wish ≡ false → is_watched x.answer ≡ false) [
  | FrontWatched path first ↦ λ on. absurd (true≢false on)
  | acts ↦ λ on. refl
]) on

module _ (s : FrontSight) (v : ring.View) (h : Hypervisor) (a : FrontAct) where
  abbrev Still : FrontStage → Type 0
  Still t = is_watched a.answer ≡ true → is_still (ring_step.step_at t v a.answer).stage ≡ true

  unwatched : {P : Type 0} → is_watched a.answer ≡ false → is_watched a.answer ≡ true → P
  unwatched none some = absurd (true≢false (sym some ∙ none))

  -- in the loop
  loop_still : (o : Option Request) → v.stage ≡ ring_stage.Loop → front_act h (loop_ask v o) ≡ Some a → is_watched a.answer ≡ true → is_still (ring_step.loop_step v o a.answer).stage ≡ true
  loop_still (Some r) here e some = unwatched (ask_unwatched h _ a (issue_asks v r r.transfer) e) some
  loop_still None here e some = by_answer a.answer some
    where
      by_answer : (x : FrontAnswer) → is_watched x ≡ true → is_still (ring_step.loop_step v None x).stage ≡ true
      by_answer (answer.Watched path) some = ap is_still here
      by_answer x some = absurd (true≢false (sym some))

  -- whatever stage it is at
  pub watched_still : (t : FrontStage) → v.stage ≡ t → KnownBy s t v → is_broken t ≡ false → front_act h (ring_asks.ask_at t v) ≡ Some a → Still t
  watched_still ring_stage.Initialised here known whole e some = ap is_still here
  watched_still ring_stage.Loop here known whole e some = loop_still (next_request v) here e some
  watched_still (ring_stage.Data n) here known whole e some = let at = known.at in unwatched (ask_unwatched h (data_ask (next_request v) n) a (rw at.next_is refl) e) some
  watched_still (ring_stage.Pages n) here known whole e some = let at = known.at in unwatched (ask_unwatched h (page_ask (next_request v) n) a (rw at.next_is refl) e) some
  watched_still (ring_stage.GrantFrame place) here known whole e some = let at = known.at in unwatched (ask_unwatched h (name_ask (next_request v) place) a (rw at.next_is refl) e) some
  watched_still (ring_stage.GrantFlags place) here known whole e some = let at = known.at in unwatched (ask_unwatched h (grant_ask (next_request v) place) a (rw at.next_is refl) e) some
  watched_still (ring_stage.GrantRead place) here known whole e some = let at = known.at in unwatched (ask_unwatched h (revoke_ask v.ending place) a (rw at.ending_is refl) e) some
  watched_still (ring_stage.GrantEnd place old) here known whole e some = let at = known.at in unwatched (ask_unwatched h (end_ask v.ending place old) a (rw at.ending_is refl) e) some
  watched_still (ring_stage.ReadData n) here known whole e some = let at = known.at in unwatched (ask_unwatched h (read_ask v.ending n) a (rw at.ending_is refl) e) some
  watched_still (ring_stage.LeftData n) here known whole e some = let at = known.at.1 in unwatched (ask_unwatched h (read_ask v.ending n) a (rw at.ending_is refl) e) some
  watched_still (ring_stage.KeptRead frame) here known whole e some = ap is_still here
  watched_still (ring_stage.KeptEnd frame seen) here known whole e some = ap is_still here
  watched_still ring_stage.Left here known whole e some = ap is_still here
  watched_still ring_stage.Closed here known whole e some = ap is_still here
  watched_still (ring_stage.Broken word) here known whole e some = absurd (true≢false whole)
  watched_still other here known whole e some = unwatched (of_front (λ (x : FrontAct). is_watched x.answer ≡ false) _ a refl e) some

-- where the ring isn't ready, or has begun no step, the negotiation's rest finds it so
pub rests_still : (own : BusState) (gone : Bool) (port : Option ℕ) (r : FrontStage) → FrontRests own gone port r → (is_ready r ≡ true → is_still r ≡ true) → is_still r ≡ true
rests_still state.Initialising gone port r rests ready = ap is_still rests.0
rests_still state.Initialised gone port r rests ready = ap is_still rests.0
rests_still state.Connected gone port r rests ready = ready rests.0
rests_still state.Closing false None r rests ready = ap is_still rests
rests_still state.Closing false (Some p) r rests ready = made_still r rests
  where
    made_still : (r : FrontStage) → is_made r ≡ true → is_still r ≡ true
    made_still ring_stage.Initialised made = refl
    made_still ring_stage.Loop made = refl
    made_still r made = absurd (true≢false (sym made))
rests_still state.Closing true (Some p) r rests ready = ending_still r rests
  where
    ending_still : (r : FrontStage) → IsEndingPage 0 r → is_still r ≡ true
    ending_still (ring_stage.RingRead page) ending = refl
    ending_still (ring_stage.RingEnd page seen) ending = refl
    ending_still r ending = absurd ending
rests_still own gone port r rests ready = absurd rests

pub ready_moves : (r : FrontStage) → is_ready r ≡ true → front.ring_moves bus_ask.Wait r ≡ true
ready_moves (ring_stage.RingWord k) ready = absurd (true≢false (sym ready))
ready_moves (ring_stage.RingFrame page) ready = absurd (true≢false (sym ready))
ready_moves (ring_stage.RingFence page) ready = absurd (true≢false (sym ready))
ready_moves (ring_stage.RingFlags page) ready = absurd (true≢false (sym ready))
ready_moves ring_stage.NewPort ready = absurd (true≢false (sym ready))
ready_moves r ready = refl

-- reading the state is speaking
pub reading_speaks : (v : FrontView) (idle : Bool) (b : FrontBusStage) → v.stage ≡ b → reads_state b ≡ true → front.speaks (bus.ask_of v idle) ≡ true
reading_speaks v idle stage.ReadState here reads = ap (λ (b : FrontBusStage). front.speaks (bus.ask_at (bus.due_at b v idle) v)) here
reading_speaks v idle b here reads = absurd (true≢false (sym reads))

pub still_unleft : (r : FrontStage) → is_still r ≡ true → is_left r ≡ false
still_unleft (ring_stage.LeftData n) still = absurd (true≢false (sym still))
still_unleft r still = refl

pub reading_rests : (b : FrontBusStage) (v : FrontView) (r : FrontStage) → FrontGoesWith b v r → reads_state b ≡ true → FrontRests v.state v.gone v.port r
reading_rests stage.ReadState v r goes reads = goes
reading_rests b v r goes reads = absurd (true≢false (sym reads))
