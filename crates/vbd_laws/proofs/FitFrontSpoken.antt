-- What an answer to the front's negotiation makes of it and of its end of the ring.
use Rattle.std.proofs.Common.{◌≡◌, ℕ, ◌≤◌, Bool, true, false, true≢false, inl, inr, refl, sym, ap, ◌∙◌, subst, arith, decimal}
use Rattle.std.specs.Prelude.{Option, Some, None, IsSome, length, min, ◌==◌}
use Rattle.std.proofs.lemmas.Option.{same_Some}
use Rattle.line_text.proofs.Both.{both_true}
use Rattle.blk_base.specs.declared.ask.FrontAnswer.{FrontAnswer}
use Rattle.blk_base.specs.declared.ask.FrontAnswer.TheVariants as answer
use Rattle.blk_front.specs.declared.stage.FrontStage.{FrontStage}
use Rattle.blk_front.specs.declared.stage.FrontStage.TheVariants as ring
use Rattle.blk_front.specs.declared.state.FrontState.TheVariants as enter
use Rattle.blk_front.specs.declared.state.Offers.{Offers}
use Rattle.ring_words.specs.Shape.{entries_of}
use Rattle.blk_front.specs.View as ends
use Rattle.blk_front.specs.State.{is_open, is_bare, enters}
use Rattle.blk_front.specs.Suspend.{is_left}
use Rattle.xenbus_state.specs.declared.keys.BackKey.{BackKey}
use Rattle.xenbus_state.specs.declared.keys.BackKey.TheVariants as key
use Rattle.xenbus_state.specs.declared.keys.FrontKey.{FrontKey}
use Rattle.xenbus_state.specs.declared.state.BusState.{BusState}
use Rattle.xenbus_state.specs.declared.state.BusState.TheVariants as state
use Rattle.xenbus_state.specs.declared.stage.FrontBusStage.{FrontBusStage}
use Rattle.xenbus_state.specs.declared.stage.FrontBusStage.TheVariants as stage
use Rattle.xenbus_state.specs.declared.table.FrontAction.{FrontAction}
use Rattle.xenbus_state.specs.declared.table.FrontAction.TheVariants as action
use Rattle.xenbus_state.specs.States.{state_read}
use Rattle.xenbus_state.specs.Tables.{front_action, on_offer, on_connected, on_closing, on_gone, SuitsFront}
use Rattle.xenbus_state.specs.Programs.{IsFeature, next_fact, next_published}
use Rattle.xenbus_state.specs.Reading.{count_read, fact_read}
use Rattle.xenbus_state.specs.FrontView.{FrontView, ring_order, broken}
use Rattle.xenbus_state.specs.FrontAsk.{leaving, ask_at, ask_of, IsAnswer}
use Rattle.xenbus_state.specs.FrontStep.{at, acted, closing_news, action_news, feature_step, fact_step, after_fact, after_published, read_news, step_at, step_of, news_at, news_of}
use Rattle.xenbus_state.proofs.FrontKeeps.{action_suits}
use Rattle.negotiation_laws.proofs.Shown.{count_shown}
use Rattle.vbd_front.specs.View.{is_still, is_broken}
use Rattle.vbd_front.specs.Ask.{speaks}
use Rattle.vbd_front.specs.Step.{states_of_news, all_entered}
use Rattle.vbd_model.specs.Fit.{FrontRests, IsUnbegun, FrontGoesWith, IsWished, PortOrdered, FrontOrdered}
use Rattle.vbd_laws.proofs.FitFrontBus.{FrontFits, IsUnoccupied, due_cases, closing_cases, rests_open, open_whole, Settles, settles_begun, settles_rest, settles_closing}

-- the front leaves, once the back is gone, only where no request is left
abbrev pub LeavesIdle : Bool → FrontAction → Type 0
LeavesIdle idle action.Leave = idle ≡ true
LeavesIdle idle act = Unit {0}

offer_leaves : (own : BusState) (idle : Bool) → LeavesIdle idle (on_offer own)
offer_leaves state.Initialising idle = tt
offer_leaves own idle = tt

connected_leaves : (own : BusState) (idle : Bool) → LeavesIdle idle (on_connected own)
connected_leaves state.Initialised idle = tt
connected_leaves own idle = tt

closing_leaves : (own : BusState) (idle : Bool) → LeavesIdle idle (on_closing own idle)
closing_leaves state.Initialised false = tt
closing_leaves state.Initialised true = tt
closing_leaves own idle = tt

gone_leaves : (idle : Bool) (word : ℕ) → LeavesIdle idle (on_gone idle word)
gone_leaves true word = refl
gone_leaves false word = tt

pub action_leaves : (own : BusState) (closing idle : Bool) (read : Option BusState) → LeavesIdle idle (front_action own closing idle read)
action_leaves own true true (Some state.InitWait) = tt
action_leaves own true false (Some state.InitWait) = offer_leaves own false
action_leaves own false idle (Some state.InitWait) = offer_leaves own idle
action_leaves own true true (Some state.Connected) = tt
action_leaves own true false (Some state.Connected) = connected_leaves own false
action_leaves own false idle (Some state.Connected) = connected_leaves own idle
action_leaves own closing idle (Some state.Closing) = closing_leaves own idle
action_leaves own closing idle (Some state.Closed) = gone_leaves idle 6
action_leaves own closing idle (Some state.Unknown) = gone_leaves idle 0
action_leaves own closing idle (Some other) = tt
action_leaves own closing idle None = tt

-- they fit at this stage, where the end of the ring is opened
pub fits_at : (v u : FrontView) (f : ends.View) → FrontGoesWith u.stage u f.stage → u.closing ≡ v.closing → u.state ≡ v.state → FrontOrdered u.stage u f.shape.order → FrontFits v f → FrontFits u f
fits_at v u f goes closing own ordered h = record { goes = goes; closing = λ whole. h.closing whole ∙ sym closing; through = λ e whole. h.through (sym own ∙ e) whole; ordered = ordered }

-- a word breaks both
breaks : (word : ℕ) (v : FrontView) (f : ends.View) → is_open f.stage ≡ true → PortOrdered v.port v.order v.features.order f.shape.order → FrontFits (broken word v) (enters (enter.Broken word) f)
breaks word v f opened ordered =
    let entered : enters (enter.Broken word) f ≡ record f { stage = ring.Broken word } = rw opened refl in
    subst (λ (x : ends.View). FrontFits (broken word v) x) (sym entered) (record { goes = refl; closing = λ whole. absurd (true≢false whole); through = λ e whole. absurd (true≢false whole); ordered = ordered })

-- both begin to close
begun : (offers : Offers) (P : ends.View → Type 0) (c : Bool) (f : ends.View) → f.closing ≡ c → is_open f.stage ≡ true → P (record f { closing = true }) → P (all_entered (states_of_news offers (closing_news c)) f)
begun offers P true f closing opened holds = let same : record f { closing = true } ≡ f = ap (λ (c : Bool). record f { closing = c }) (sym closing) in subst P same holds
begun offers P false f closing opened holds = let entered : enters enter.Closing f ≡ record f { closing = true } = rw (closing, opened) refl in subst P (sym entered) holds

-- and fit, as before, at a stage that the close leaves
pub begun_fits : (v u : FrontView) (f : ends.View) → is_open f.stage ≡ true → FrontGoesWith u.stage u f.stage → u.closing ≡ true → u.state ≡ v.state → FrontOrdered u.stage u f.shape.order → FrontFits v f
    → FrontFits u (record f { closing = true })
begun_fits v u f opened goes closing own ordered h = record {
  goes = goes;
  closing = λ whole. sym closing;
  through = λ e whole. (both_true f.closing (length f.requests == 0) (h.through (sym own ∙ e) whole)).1;
  ordered = ordered;
}

-- an order that was agreed in an earlier epoch is agreed again
still_wished : (wished before offered order : ℕ) → offered ≡ 4 → IsWished wished before order → IsWished wished offered order
still_wished wished before offered order four (inl is) = inl is
still_wished wished before offered order four (inr is) = inr (is.0 ∙ ap (λ (n : ℕ). min wished n) (is.1 ∙ sym four), four)

-- the back's state was read
acted_settles : (offers : Offers) (act : FrontAction) (v : FrontView) (f : ends.View) (idle : Bool) → SuitsFront v.state act → LeavesIdle idle act → (idle ≡ true → IsUnoccupied f) → FrontFits v f → FrontRests v.state v.gone v.port f.stage
    → PortOrdered v.port v.order v.features.order f.shape.order → Settles idle (acted act v) (all_entered (states_of_news offers (action_news act v.closing)) f)
acted_settles offers act v f idle suits leaves free h rests ordered = by_act act suits leaves
  where
    opened : is_open f.stage ≡ true
    opened = rests_open v.state v.gone v.port f.stage rests

    same_closing : f.closing ≡ v.closing
    same_closing = h.closing (open_whole f.stage opened)

    still : idle ≡ true → is_still f.stage ≡ true
    still e = let is = free e in is.still

    rested : FrontRests v.state true v.port f.stage → Settles idle (acted action.Leave v) (record f { closing = true })
    rested kept = settles_rest idle (acted action.Leave v) (record f { closing = true }) refl still kept (begun_fits v (acted action.Leave v) f opened (inl kept) refl refl ordered h)

    gone : (own : BusState) (was : Bool) (port : Option ℕ) → v.state ≡ own → v.gone ≡ was → v.port ≡ port → idle ≡ true → FrontRests own was port f.stage
        → Settles idle (acted action.Leave v) (record f { closing = true })
    gone state.Closing false port is g p e rests =
        let was = free e in
        settles_closing idle (acted action.Leave v) (record f { closing = true }) refl is refl e (record { none = was.none; still = was.still; whole = was.whole }) refl ordered (rw p rests)
    gone state.Closing true port is g p e rests = rested (rw (is, p) rests)
    gone state.Initialising was port is g p e rests = rested (rw (is, p) rests)
    gone state.Initialised was port is g p e rests = rested (rw (is, p) rests)
    gone state.Connected was port is g p e rests = rested (rw (is, p) rests)
    gone own was port is g p e rests = absurd rests

    by_act : (act : FrontAction) → SuitsFront v.state act → LeavesIdle idle act → Settles idle (acted act v) (all_entered (states_of_news offers (action_news act v.closing)) f)
    by_act action.Nothing suits leaves = settles_rest idle (acted action.Nothing v) f refl still rests (fits_at v (acted action.Nothing v) f (inl rests) refl refl ordered h)
    by_act action.Close suits leaves =
        begun offers (λ (x : ends.View). Settles idle (acted action.Close v) x) v.closing f same_closing opened
        (settles_rest idle (acted action.Close v) (record f { closing = true }) refl still rests (begun_fits v (acted action.Close v) f opened (inl rests) refl refl ordered h))
    by_act action.CloseAndConnect suits leaves =
        begun offers (λ (x : ends.View). Settles idle (acted action.CloseAndConnect v) x) v.closing f same_closing opened
        (begun_fits v (acted action.CloseAndConnect v) f opened (let here = rw suits at rests in (suits, here.0, here.1)) refl refl ordered h)
    by_act action.Leave suits leaves = begun offers (λ (x : ends.View). Settles idle (acted action.Leave v) x) v.closing f same_closing opened (gone v.state v.gone v.port refl refl refl leaves rests)
    by_act (action.Break word) suits leaves = breaks word v f opened ordered
    by_act other suits leaves = fits_at v (acted other v) f (let here = rw suits at rests in (suits, here.0, here.1)) refl refl ordered h

-- a key of the back was read: the last one says how large a ring the back takes
feature_settles : (offers : Offers) (k : BackKey) (n : Option ℕ) (v : FrontView) (f : ends.View) (idle : Bool) → v.state ≡ state.Initialising → f.stage ≡ ring.RingWord 0 → v.port ≡ None
    → PortOrdered v.port v.order v.features.order f.shape.order → length f.requests ≤ entries_of (min v.order 4) → IsFeature k → (k ≡ key.MaxRingPageOrder → n ≡ Some 4) → FrontFits v f
    → Settles idle (feature_step k n v) (all_entered (states_of_news offers (read_news n)) f)
feature_settles offers k None v f idle own here port ordered few feature four h = breaks 9 v f (ap is_open here) ordered
feature_settles offers k (Some n) v f idle own here port ordered few feature four h = by_key k feature four
  where
    by_key : (j : BackKey) → IsFeature j → (j ≡ key.MaxRingPageOrder → Some n ≡ Some 4) → Settles idle (feature_step j (Some n) v) f
    by_key key.FeatureBarrier is says = fits_at v _ f (own, here, port) refl refl ordered h
    by_key key.FeatureFlushCache is says = fits_at v _ f (own, here, port) refl refl ordered h
    by_key key.FeatureDiscard is says = fits_at v _ f (own, here, port) refl refl ordered h
    by_key key.FeaturePersistent is says = fits_at v _ f (own, here, port) refl refl ordered h
    by_key key.FeatureMaxIndirectSegments is says = fits_at v _ f (own, here, port) refl refl ordered h
    by_key key.MaxRingPageOrder is says =
        let same : n ≡ 4 = same_Some n 4 (says refl) in
        settles_begun _ f refl own port here same (still_wished v.order v.features.order n f.shape.order same (rw port at ordered)) few h.closing
    by_key j is says = absurd is

fact_settles : (offers : Offers) (k : BackKey) (n : Option ℕ) (v : FrontView) (f : ends.View) (idle : Bool) → v.state ≡ state.Initialised → f.stage ≡ ring.Initialised → IsSome v.port → PortOrdered v.port v.order v.features.order f.shape.order → FrontFits v f
    → Settles idle (fact_step k n v) (all_entered (states_of_news offers (read_news n)) f)
fact_settles offers k None v f idle own here port ordered h = breaks 9 v f (ap is_open here) ordered
fact_settles offers k (Some n) v f idle own here port ordered h = by_next (next_fact k)
  where
    by_next : (next : Option BackKey) → Settles idle (record (fact_step k (Some n) v) { stage = after_fact next }) f
    by_next (Some k) = fits_at v _ f (own, here, port) refl refl ordered h
    by_next None = fits_at v _ f (own, here, port) refl refl ordered h

published_settles : (next : Option FrontKey) (v : FrontView) (f : ends.View) (idle : Bool) → v.state ≡ state.Initialising → f.stage ≡ ring.Initialised → IsSome v.port → PortOrdered v.port v.order v.features.order f.shape.order → FrontFits v f
    → Settles idle (at (after_published next) v) f
published_settles (Some k) v f idle own here port ordered h = fits_at v _ f (own, here, port) refl refl ordered h
published_settles None v f idle own here port ordered h = fits_at v _ f (own, here, port) refl refl ordered h

-- its own state was written
connects_settles : (offers : Offers) (v : FrontView) (f : ends.View) (idle : Bool) → f.stage ≡ ring.Initialised → IsSome v.port → PortOrdered v.port v.order v.features.order f.shape.order → FrontFits v f
    → Settles idle (record v { state = state.Connected; stage = stage.Rest }) (enters (enter.Connected offers) f)
connects_settles offers v f idle here port ordered h =
    let entered : enters (enter.Connected offers) f ≡ record f { offers = offers; stage = ring.Loop } = rw here refl in
    subst (λ (x : ends.View). Settles idle (record v { state = state.Connected; stage = stage.Rest }) x) (sym entered)
    (settles_rest idle (record v { state = state.Connected; stage = stage.Rest }) (record f { offers = offers; stage = ring.Loop }) refl (λ e. refl) (refl, port)
    (record { goes = inl (refl, port); closing = λ whole. h.closing (rw here refl); through = λ e whole. absurd (cc); ordered = ordered }))

pub bare_whole : (r : FrontStage) → is_bare r ≡ true → is_broken r ≡ false
bare_whole (ring.Broken word) bare = absurd (true≢false (sym bare))
bare_whole r bare = refl

closes_settles : (v : FrontView) (f : ends.View) (idle : Bool) → v.state ≡ state.Closing → is_bare f.stage ≡ true → PortOrdered v.port v.order v.features.order f.shape.order → FrontFits v f
    → Settles idle (record v { state = state.Closed; stage = stage.Closed }) (enters enter.Closed f)
closes_settles v f idle own bare ordered h =
    let whole = bare_whole f.stage bare in
    let through = h.through own whole in
    let closing = sym (h.closing whole) ∙ (both_true f.closing (length f.requests == 0) through).0 in
    let entered : enters enter.Closed f ≡ record f { stage = ring.Closed } = rw (through, bare) refl in
    subst (λ (x : ends.View). Settles idle (record v { state = state.Closed; stage = stage.Closed }) x) (sym entered)
    (record { goes = (refl, refl, closing); closing = λ e. h.closing whole; through = λ e. absurd (cc); ordered = ordered })

-- what was begun was answered
abbrev Told : Offers → FrontBusStage → FrontView → ends.View → FrontAnswer → Bool → Type 0
Told offers d v f x idle = Settles idle (step_at d (at d v) idle x) (all_entered (states_of_news offers (news_at d (at d v) idle x)) f)

-- a front that reads what the back offers reads a key that says some of it, the last one as the back says it
abbrev pub ReadsOrder : FrontBusStage → FrontAnswer → Type 0
ReadsOrder (stage.ReadFeature k) (answer.Key text) = IsFeature k × (k ≡ key.MaxRingPageOrder → text ≡ Some (decimal 4))
ReadsOrder d x = Unit {0}

-- so is an answer to a negotiation at this stage; no data are left after a suspend, and a ring of the order that is agreed has an entry for each request
pub record Answers (d : FrontBusStage) (v : FrontView) (f : ends.View) (x : FrontAnswer) : Type 0 where
  pub reads : ReadsOrder d x
  pub none_left : is_left f.stage ≡ false
  pub few : length f.requests ≤ entries_of (min v.order 4)

begins_ring : (r : FrontStage) → IsUnbegun r → is_left r ≡ false → r ≡ ring.RingWord 0
begins_ring r (inl is) none = is
begins_ring r (inr is) none = absurd (true≢false (sym is ∙ none))

told_settles : (offers : Offers) (d : FrontBusStage) (v : FrontView) (f : ends.View) (x : FrontAnswer) (idle : Bool) → Answers d v f x → (idle ≡ true → IsUnoccupied f) → FrontFits (at d v) f → speaks (ask_at d v) ≡ true → IsAnswer (ask_at d v) x
    → Told offers d v f x idle
told_settles offers stage.Start v f answer.Done idle may free h says allowed =
    let goes = h.goes in
    let begins = begins_ring f.stage goes.1 may.none_left in
    let rests : FrontRests v.state v.gone v.port f.stage = rw goes.0 (begins, goes.2) in
    settles_rest idle (at stage.Rest v) f refl (λ e. ap is_still begins) rests (fits_at (at stage.Start v) (at stage.Rest v) f (inl rests) refl refl h.ordered h)
told_settles offers stage.ReadState v f (answer.Key text) idle may free h says allowed =
    acted_settles offers (front_action v.state v.closing idle (state_read text)) (at stage.ReadState v) f idle (action_suits v.state v.closing idle (state_read text))
    (action_leaves v.state v.closing idle (state_read text)) free h h.goes h.ordered
told_settles offers (stage.ReadFeature k) v f (answer.Key text) idle may free h says allowed =
    let goes = h.goes in feature_settles offers k (count_read text) (at (stage.ReadFeature k) v) f idle goes.0 goes.1 goes.2 h.ordered may.few may.reads.0 (λ is. count_shown text 4 (omega arith) (may.reads.1 is)) h
told_settles offers (stage.Publish k) v f answer.Done idle may free h says allowed =
    let goes = h.goes in published_settles (next_published (ring_order v) k) (at (stage.Publish k) v) f idle goes.0 goes.1 goes.2 h.ordered h
told_settles offers (stage.ReadFact k) v f (answer.Key text) idle may free h says allowed =
    let goes = h.goes in fact_settles offers k (fact_read k text) (at (stage.ReadFact k) v) f idle goes.0 goes.1 goes.2 h.ordered h
told_settles offers (stage.WriteState state.Initialised) v f answer.Done idle may free h says allowed =
    let goes = h.goes in
    let u : FrontView = record v { state = state.Initialised; stage = stage.Rest } in
    settles_rest idle u f refl (λ e. ap is_still goes.1) (goes.1, goes.2) (record { goes = inl (goes.1, goes.2); closing = h.closing; through = λ e. absurd (cc); ordered = h.ordered })
told_settles offers (stage.WriteState state.Connected) v f answer.Done idle may free h says allowed =
    let goes = h.goes in connects_settles offers (at (stage.WriteState state.Connected) v) f idle goes.1 goes.2 h.ordered h
told_settles offers (stage.WriteState state.Closed) v f answer.Done idle may free h says allowed =
    let goes = h.goes in closes_settles (at (stage.WriteState state.Closed) v) f idle goes.0 goes.1 h.ordered h
told_settles offers (stage.WriteState own) v f answer.Done idle may free h says allowed = absurd h.goes
told_settles offers stage.Start v f x idle may free h says allowed = absurd allowed
told_settles offers stage.ReadState v f x idle may free h says allowed = absurd allowed
told_settles offers (stage.ReadFeature k) v f x idle may free h says allowed = absurd allowed
told_settles offers (stage.Publish k) v f x idle may free h says allowed = absurd allowed
told_settles offers (stage.ReadFact k) v f x idle may free h says allowed = absurd allowed
told_settles offers (stage.WriteState own) v f x idle may free h says allowed = absurd allowed
told_settles offers d v f x idle may free h says allowed = absurd (true≢false (sym says))

-- a closing front without unfinished requests says that it closes
says_settles : (offers : Offers) (v : FrontView) (f : ends.View) (x : FrontAnswer) (idle : Bool) → v.closing ≡ true → idle ≡ true → IsUnoccupied f → FrontFits v f → PortOrdered v.port v.order v.features.order f.shape.order
    → FrontRests state.Closing false v.port f.stage → IsAnswer (ask_at (stage.WriteState state.Closing) v) x → Told offers (stage.WriteState state.Closing) v f x idle
says_settles offers v f answer.Done idle closing is_idle free h ordered rests allowed =
    settles_closing idle (record v { state = state.Closing; stage = stage.Rest }) f refl refl closing is_idle free (h.closing free.whole ∙ closing) ordered rests
says_settles offers v f x idle closing is_idle free h ordered rests allowed = absurd allowed

-- a front that rests goes with a whole end of the ring where nothing of a request is left
pub whole_rests : (v : FrontView) (f : ends.View) → v.stage ≡ stage.Rest → is_broken f.stage ≡ false → FrontFits v f → FrontRests v.state v.gone v.port f.stage
whole_rests v f here whole h = let goes : FrontGoesWith stage.Rest v f.stage = rw here at h.goes in elim goes [ inl rests ↦ rests | inr is ↦ absurd (true≢false (sym is ∙ whole)) ]

pub whole_ordered : (v : FrontView) (f : ends.View) → v.stage ≡ stage.Rest → FrontFits v f → PortOrdered v.port v.order v.features.order f.shape.order
whole_ordered v f here h = rw here at h.ordered

-- the negotiation was answered
pub spoken_settles : (offers : Offers) (v : FrontView) (f : ends.View) (x : FrontAnswer) (idle : Bool) → Answers v.stage v f x → (idle ≡ true → IsUnoccupied f) → FrontFits v f → speaks (ask_of v idle) ≡ true → IsAnswer (ask_of v idle) x
    → Settles idle (step_of v idle x) (all_entered (states_of_news offers (news_of v idle x)) f)
spoken_settles offers v f x idle may free h =
    due_cases (λ (d : FrontBusStage). speaks (ask_at d v) ≡ true → IsAnswer (ask_at d v) x → Told offers d v f x idle) v idle (told_settles offers v.stage v f x idle may free h)
    (λ here closing is_idle.
    let is = free is_idle in
    closing_cases (λ (d : FrontBusStage). speaks (ask_at d v) ≡ true → IsAnswer (ask_at d v) x → Told offers d v f x idle) v f.stage is.still (whole_rests v f here is.whole h)
    (λ rests says. says_settles offers v f x idle closing is_idle is h (whole_ordered v f here h) rests) (λ own ending. leaves v.gone v.port))
  where
    leaves : (gone : Bool) (port : Option ℕ) → speaks (ask_at (leaving gone port) v) ≡ true → IsAnswer (ask_at (leaving gone port) v) x → Told offers (leaving gone port) v f x idle
    leaves false port says allowed = absurd (true≢false (sym says))
    leaves true None says allowed = absurd (true≢false (sym says))
    leaves true (Some p) says allowed = absurd (true≢false (sym says))
