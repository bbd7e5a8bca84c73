-- What the back's negotiation knows is what the lines say of the back.
use Rattle.std.proofs.Common.{◌≡◌, ℕ, ◌+◌, ◌<◌, Bool, true, false, true≢false, ◌&&◌, if◌then◌else◌, List, [], ◌∷◌, refl, sym, ap, ◌∙◌, subst, decimal, arith}
use Rattle.std.specs.Prelude.{Option, Some, None, ◌==◌, unwrap_or}
use Rattle.std.specs.Option.{option_map}
use Rattle.std.proofs.lemmas.Fmt.{decimal_digit}
use Rattle.blk_base.specs.declared.parts.End.TheVariants as end
use Rattle.blk_base.specs.declared.parts.Mapping.{Mapping}
use Rattle.blk_base.specs.declared.ask.BackAnswer.{BackAnswer}
use Rattle.blk_base.specs.declared.ask.BackAnswer.TheVariants as answer
use Rattle.xenbus_state.specs.declared.keys.FrontKey.{FrontKey}
use Rattle.xenbus_state.specs.declared.keys.FrontKey.TheVariants as key
use Rattle.xenbus_state.specs.declared.keys.BackKey.{BackKey}
use Rattle.xenbus_state.specs.declared.keys.BackKey.TheVariants as own_key
use Rattle.xenbus_state.specs.declared.state.BusState.{BusState}
use Rattle.xenbus_state.specs.declared.state.BusState.TheVariants as state
use Rattle.xenbus_state.specs.declared.stage.BackBusStage.{BackBusStage}
use Rattle.xenbus_state.specs.declared.stage.BackBusStage.TheVariants as stage
use Rattle.xenbus_state.specs.declared.back.BackBusAsk.TheVariants as ask
use Rattle.xenbus_state.specs.declared.table.BackAction.{BackAction}
use Rattle.xenbus_state.specs.declared.table.BackAction.TheVariants as action
use Rattle.xenbus_state.specs.States.{state_number}
use Rattle.xenbus_state.specs.Numbers.{number_of}
use Rattle.xenbus_state.specs.Tables.{is_connected}
use Rattle.xenbus_state.specs.Keys.{back_name, path_under}
use Rattle.xenbus_state.specs.Reading.{count_read}
use Rattle.xenbus_state.specs.BackReading.{order_of, layout_read, key_read, with_order}
use Rattle.xenbus_state.specs.BackSound.{IsPlaced}
use Rattle.xenbus_state.specs.BackView.{BackView, is_halting, halted}
use Rattle.xenbus_state.specs.BackAsk.{says_closing, says_closing_at, unmap_ask, ask_at, ask_of}
use Rattle.xenbus_state.specs.BackStep.{at, acted, kept_or_halted, last_state, unmapping_next, other_pages, after_feature, after_fact, step_at, step_of}
use Rattle.vbd_back.specs.Ask as back
use Rattle.negotiation_laws.specs.Negotiation.{front_path}
use Rattle.vbd_laws.specs.Halts.{is_gone, BackSight, with_read, with_set}
use Rattle.vbd_laws.proofs.FitBackBus.{last_halts}
use Rattle.line_text.proofs.Both.{both_true}

-- the back closes (5), is closed (6), or has no state (0)
abbrev pub is_late : BusState → Bool
is_late own = is_gone (state_number own)

-- what the lines say of the back is what its negotiation knows; and until it is asked to close it says neither
pub record Knows (asked : Bool) (k : BackSight) (v : BackView) : Type 0 where
  pub order : k.order ≡ v.terms.order
  pub connected : is_halting v.stage ≡ false → k.connected ≡ is_connected v.state
  pub closing : is_halting v.stage ≡ false → asked ≡ v.unplugged
  pub halted : k.halted ≡ true → is_halting v.stage ≡ true
  pub early : is_halting v.stage ≡ false → asked ≡ false → is_late v.state ≡ false

-- a step of which no line says anything
pub record Keeps (v u : BackView) : Type 0 where
  pub order : u.terms.order ≡ v.terms.order
  pub going : is_halting u.stage ≡ false → is_halting v.stage ≡ false
  pub state : u.state ≡ v.state
  pub asked : u.unplugged ≡ v.unplugged

pub still_halting : (v u : BackView) → (is_halting u.stage ≡ false → is_halting v.stage ≡ false) → is_halting v.stage ≡ true → is_halting u.stage ≡ true
still_halting v u going halts = by_test (is_halting u.stage) refl
  where
    by_test : (b : Bool) → is_halting u.stage ≡ b → b ≡ true
    by_test true e = refl
    by_test false e = absurd (true≢false (sym halts ∙ going e))

pub known_kept : (asked : Bool) (k : BackSight) (v u : BackView) → Knows asked k v → Keeps v u → Knows asked k u
known_kept asked k v u has keeps = record {
  order = has.order ∙ sym keeps.order;
  connected = λ on. has.connected (keeps.going on) ∙ ap is_connected (sym keeps.state);
  closing = λ on. has.closing (keeps.going on) ∙ sym keeps.asked;
  halted = λ e. still_halting v u keeps.going (has.halted e);
  early = λ on unasked. ap is_late keeps.state ∙ has.early (keeps.going on) unasked;
}

pub keeps_same : (v : BackView) → Keeps v v
keeps_same v = record { order = refl; going = λ on. on; state = refl; asked = refl }

-- from a step that isn't a halt's to another stage
pub goes_to : (v : BackView) (s next : BackBusStage) → v.stage ≡ s → is_halting s ≡ false → Keeps v (at next v)
goes_to v s next here running = record { order = refl; going = λ on. ap is_halting here ∙ running; state = refl; asked = refl }

-- to one of a halt
pub halts_on : (v u : BackView) → u.terms.order ≡ v.terms.order → is_halting u.stage ≡ true → u.state ≡ v.state → u.unplugged ≡ v.unplugged → Keeps v u
halts_on v u order halts state asked = record { order = order; going = λ on. absurd (true≢false (sym halts ∙ on)); state = state; asked = asked }

unmapping_halts : (pages : List Mapping) (bound : Bool) (own : BusState) → is_halting (unmapping_next pages bound own) ≡ true
unmapping_halts (page ∷ pages) bound own = refl
unmapping_halts [] true own = refl
unmapping_halts [] false own = last_halts own

-- what its negotiation is told where it doesn't speak
pub speaks_none : (pages : List Mapping) → back.speaks (unmap_ask pages) ≡ false
speaks_none [] = refl
speaks_none (page ∷ pages) = refl

silent_at : (s : BackBusStage) (v : BackView) (x : BackAnswer) → v.stage ≡ s → back.speaks (ask_at s v) ≡ false → Keeps v (step_at s v x)
silent_at (stage.Publish k) v x here quiet = absurd (true≢false quiet)
silent_at (stage.WriteState s) v x here quiet = absurd (true≢false quiet)
silent_at stage.Watch v x here quiet = absurd (true≢false quiet)
silent_at stage.ReadState v x here quiet = absurd (true≢false quiet)
silent_at (stage.ReadKey k) v x here quiet = absurd (true≢false quiet)
silent_at (stage.PublishFact k) v x here quiet = absurd (true≢false quiet)
silent_at stage.Rest v (answer.Watched path) here quiet = goes_to v stage.Rest stage.ReadState here refl
silent_at stage.MapPage v (answer.Mapped page) here quiet = record { order = refl; going = λ on. ap is_halting here; state = refl; asked = refl }
silent_at stage.MapPage v (answer.MapRefused status) here quiet = halts_on v (halted v) refl refl refl refl
silent_at stage.Bind v answer.Done here quiet = record { order = refl; going = λ on. ap is_halting here; state = refl; asked = refl }
silent_at stage.Bind v answer.BindRefused here quiet = halts_on v (halted v) refl refl refl refl
silent_at stage.UnmapOthers v answer.Done here quiet = halts_on v (at (unmapping_next v.pages v.bound v.state) v) refl (unmapping_halts v.pages v.bound v.state) refl refl
silent_at stage.UnmapPage v answer.Done here quiet =
    halts_on v (record v { pages = other_pages v.pages; stage = unmapping_next (other_pages v.pages) v.bound v.state }) refl (unmapping_halts (other_pages v.pages) v.bound v.state) refl refl
silent_at stage.ClosePort v answer.Done here quiet = halts_on v (record v { bound = false; stage = stage.WriteState (last_state v.state) }) refl (last_halts v.state) refl refl
silent_at s v x here quiet = keeps_same v

pub silent_step : (v : BackView) (x : BackAnswer) → back.speaks (ask_of v) ≡ false → Keeps v (step_of v x)
silent_step v x quiet = by_test (says_closing v) quiet
  where
    by_test : (b : Bool) → back.speaks (if b then ask.SetState state.Closing else ask_at v.stage v) ≡ false → Keeps v (if b then record v { state = state.Closing } else step_at v.stage v x)
    by_test true quiet = absurd (true≢false quiet)
    by_test false quiet = silent_at v.stage v x refl quiet

-- a connected back that was asked to close says so between two steps
says_when : (s : BackBusStage) (own : BusState) → says_closing_at s own ≡ true → (is_halting s ≡ false) × (own ≡ state.Connected)
says_when stage.Rest state.Connected says = (refl, refl)
says_when stage.ReadState state.Connected says = (refl, refl)
says_when s own says = absurd (true≢false (sym says))

pub both_says : (a b : Bool) → (a && b) ≡ true → b ≡ true
both_says true b e = e
both_says false b e = absurd (true≢false (sym e))

pub says_not : (v : BackView) → is_halting v.stage ≡ true → says_closing v ≡ false
says_not v halts = by_test (says_closing v) refl
  where
    by_test : (b : Bool) → says_closing v ≡ b → b ≡ false
    by_test true e = absurd (true≢false (sym halts ∙ (says_when v.stage v.state (both_says v.unplugged (says_closing_at v.stage v.state) e)).0))
    by_test false e = refl

-- what it learns of a key that it reads
pub acted_keeps : (act : BackAction) (v : BackView) → v.stage ≡ stage.ReadState → Keeps v (acted act v)
acted_keeps action.Nothing v here = goes_to v stage.ReadState stage.Rest here refl
acted_keeps action.Connect v here = goes_to v stage.ReadState (stage.ReadKey key.RingPageOrder) here refl
acted_keeps (action.Halt reason) v here = halts_on v (halted v) refl refl refl refl

kept_keeps : {A : Type 0} (n : Option A) (v : BackView) (f : A → BackView) → ((x : A) → Keeps v (f x)) → Keeps v (kept_or_halted (option_map f n) v)
kept_keeps None v f keeps = halts_on v (halted v) refl refl refl refl
kept_keeps (Some n) v f keeps = keeps n

learnt : (v u : BackView) (k : FrontKey) → v.stage ≡ stage.ReadKey k → u.terms.order ≡ v.terms.order → u.state ≡ v.state → u.unplugged ≡ v.unplugged → Keeps v u
learnt v u k here order own asked = record { order = order; going = λ on. ap is_halting here; state = own; asked = asked }

page_keeps : (b : Bool) (v : BackView) (k : FrontKey) → v.stage ≡ stage.ReadKey k → Keeps v (kept_or_halted (if b then Some (at (stage.ReadKey key.RingRef) v) else None) v)
page_keeps true v k here = learnt v (at (stage.ReadKey key.RingRef) v) k here refl refl refl
page_keeps false v k here = halts_on v (halted v) refl refl refl refl

order_known : (asked : Bool) (known : BackSight) (v : BackView) (next : FrontKey) (order : ℕ) → v.stage ≡ stage.ReadKey key.RingPageOrder → Knows asked known v → Knows asked (record known { order = order }) (with_order v next order)
order_known asked known v next order here has = record {
  order = refl;
  connected = λ on. has.connected (ap is_halting here);
  closing = λ on. has.closing (ap is_halting here);
  halted = λ e. absurd (true≢false (sym (has.halted e) ∙ ap is_halting here));
  early = λ on. has.early (ap is_halting here);
}

ordered : (asked : Bool) (known : BackSight) (v : BackView) (n : Option ℕ) → v.stage ≡ stage.ReadKey key.RingPageOrder → Knows asked known v
    → Knows asked (record known { order = unwrap_or n known.order }) (kept_or_halted (option_map (with_order v (key.RingRefOf 0)) n) v)
ordered asked known v None here has = known_kept asked known v (halted v) has (halts_on v (halted v) refl refl refl refl)
ordered asked known v (Some order) here has = order_known asked known v (key.RingRefOf 0) order here has

pub key_known : (asked : Bool) (known : BackSight) (k : FrontKey) (text : Option (List ℕ)) (v : BackView) → v.stage ≡ stage.ReadKey k → Knows asked known v → Knows asked (with_read known (front_path k) text) (kept_or_halted (key_read k text v) v)
key_known asked known key.RingPageOrder None v here has = order_known asked known v key.RingRef 0 here has
key_known asked known key.RingPageOrder (Some text) v here has = ordered asked known v (order_of (number_of text)) here has
key_known asked known (key.RingRefOf page) None v here has = known_kept asked known v _ has (page_keeps (v.terms.order == 0) v (key.RingRefOf page) here)
key_known asked known (key.RingRefOf page) (Some text) v here has = known_kept asked known v _ has (kept_keeps (number_of text) v _ (λ x. learnt v _ (key.RingRefOf page) here refl refl refl))
key_known asked known key.RingRef (Some text) v here has = known_kept asked known v _ has (kept_keeps (number_of text) v _ (λ x. learnt v _ key.RingRef here refl refl refl))
key_known asked known key.EventChannel (Some text) v here has = known_kept asked known v _ has (kept_keeps (number_of text) v _ (λ x. learnt v _ key.EventChannel here refl refl refl))
key_known asked known key.Protocol text v here has = known_kept asked known v _ has (kept_keeps (layout_read text) v _ (λ x. learnt v _ key.Protocol here refl refl refl))
key_known asked known key.FeaturePersistent text v here has = known_kept asked known v _ has (kept_keeps (count_read text) v _ (λ x. learnt v _ key.FeaturePersistent here refl refl refl))
key_known asked known other None v here has = known_kept asked known v (halted v) has (halts_on v (halted v) refl refl refl refl)

-- and of its own state, as it writes it
closing_known : (asked : Bool) (k : BackSight) (v u : BackView) → Knows asked k v → u.terms.order ≡ v.terms.order → is_halting u.stage ≡ true → Knows asked k u
closing_known asked k v u has order halts = record {
  order = has.order ∙ sym order;
  connected = λ on. absurd (true≢false (sym halts ∙ on));
  closing = λ on. absurd (true≢false (sym halts ∙ on));
  halted = λ e. halts;
  early = λ on. absurd (true≢false (sym halts ∙ on));
}

-- the digit that it writes
set_digit : (k : BackSight) (n : ℕ) → n < 10 → with_set k back.own_state (decimal n) ≡ with_set k back.own_state ((48 + n) ∷ [])
set_digit k n small = ap (λ (text : List ℕ). with_set k back.own_state text) (decimal_digit n small)

written : (asked : Bool) (k : BackSight) (s : BusState) (v : BackView) → state_number s < 10 → Knows asked (with_set k back.own_state ((48 + state_number s) ∷ [])) v → Knows asked (with_set k back.own_state (decimal (state_number s))) v
written asked k s v small has = subst (λ (known : BackSight). Knows asked known v) (sym (set_digit k (state_number s) small)) has

pub state_known : (asked : Bool) (k : BackSight) (s : BusState) (v : BackView) → v.stage ≡ stage.WriteState s → IsPlaced (stage.WriteState s) v → Knows asked k v
    → Knows asked (with_set k back.own_state (decimal (state_number s))) (step_at (stage.WriteState s) v answer.Done)
state_known asked k state.InitWait v here placed has =
    let known : Knows asked k (step_at (stage.WriteState state.InitWait) v answer.Done) = record {
      order = has.order;
      connected = λ on. has.connected (ap is_halting here) ∙ ap is_connected placed.0;
      closing = λ on. has.closing (ap is_halting here);
      halted = λ e. absurd (true≢false (sym (has.halted e) ∙ ap is_halting here));
      early = λ on unasked. refl;
    } in
    written asked k state.InitWait _ (omega arith) known
state_known asked k state.Connected v here placed has =
    let known : Knows asked (record k { connected = true }) (step_at (stage.WriteState state.Connected) v answer.Done) = record {
      order = has.order;
      connected = λ on. refl;
      closing = λ on. has.closing (ap is_halting here);
      halted = λ e. absurd (true≢false (sym (has.halted e) ∙ ap is_halting here));
      early = λ on unasked. refl;
    } in
    written asked k state.Connected _ (omega arith) known
state_known asked k state.Closing v here placed has = written asked k state.Closing _ (omega arith) (closing_known asked k v _ has refl refl)
state_known asked k state.Closed v here placed has = written asked k state.Closed _ (omega arith) (closing_known asked k v _ has refl refl)
state_known asked k s v here placed has = absurd placed

-- where it was asked to close it says that it closes (5)
pub says_known : (asked : Bool) (k : BackSight) (v : BackView) → says_closing v ≡ true → Knows asked k v → Knows asked (with_set k back.own_state (decimal (state_number state.Closing))) (record v { state = state.Closing })
says_known asked k v says has =
    let is = says_when v.stage v.state (both_says v.unplugged (says_closing_at v.stage v.state) says) in
    let known : Knows asked k (record v { state = state.Closing }) = record { order = has.order; connected = λ on. has.connected on ∙ ap is_connected is.1; closing = has.closing; halted = has.halted; early = λ on unasked. absurd (true≢false (sym (both_true v.unplugged (says_closing_at v.stage v.state) says).0 ∙ (sym (has.closing on) ∙ unasked))) } in
    written asked k state.Closing _ (omega arith) known

-- another key of its own
pub set_other : (k : BackSight) (own : BackKey) (text : List ℕ) → with_set k (path_under end.Back (back_name own)) text ≡ k
set_other k own_key.FeatureBarrier text = refl
set_other k other text = refl

pub feature_going : (next : Option BackKey) → is_halting (after_feature next) ≡ false
feature_going None = refl
feature_going (Some k) = refl

pub fact_going : (next : Option BackKey) → is_halting (after_fact next) ≡ false
fact_going None = refl
fact_going (Some k) = refl
