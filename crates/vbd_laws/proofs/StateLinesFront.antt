-- A move of the front: the line of its state that is due comes, and no other.
use Rattle.std.proofs.Common.{◌≡◌, ℕ, ◌+◌, ◌<◌, Bool, true, false, true≢false, ◌&&◌, if◌then◌else◌, List, [], ◌∷◌, ◌⊎◌, inl, inr, refl, sym, ap, ◌∙◌, subst, decimal, arith, not}
use Rattle.std.specs.Prelude.{length, ◌==◌, Option, Some, None}
use Rattle.std.specs.Option.{option_map}
use Rattle.std.proofs.lemmas.Fmt.{decimal_digit}
use Rattle.line_text.proofs.Both.{both_true}
use Rattle.blk_base.specs.declared.parts.End.TheVariants as end
use Rattle.blk_base.specs.declared.ask.FrontAsk.TheVariants as front_ask
use Rattle.blk_base.specs.declared.ask.FrontAnswer.{FrontAnswer}
use Rattle.blk_base.specs.declared.ask.FrontAnswer.TheVariants as answer
use Rattle.blk_base.specs.declared.moves.Move.TheVariants as moves
use Rattle.blk_base.specs.declared.moves.Mover.TheVariants as mover
use Rattle.hypervisor.specs.Hypervisor.{Hypervisor}
use Rattle.hypervisor.specs.Act.{FrontAct, front_act, key_at, key_set, is_own_path}
use Rattle.blk_front.specs.declared.state.FrontState.TheVariants as enter
use Rattle.blk_front.specs.declared.state.Offers.{Offers}
use Rattle.blk_front.specs.View as ring
use Rattle.blk_front.specs.Ask.{is_through}
use Rattle.blk_front.specs.State.{is_open, is_bare, may_enter}
use Rattle.blk_front.specs.Submit.{is_initialised}
use Rattle.xenbus_state.specs.declared.keys.FrontKey.{FrontKey}
use Rattle.xenbus_state.specs.declared.keys.FrontKey.TheVariants as front_key
use Rattle.xenbus_state.specs.declared.keys.BackKey.{BackKey}
use Rattle.xenbus_state.specs.declared.keys.BackKey.TheVariants as back_key
use Rattle.xenbus_state.specs.declared.state.BusState.{BusState}
use Rattle.xenbus_state.specs.declared.state.BusState.TheVariants as state
use Rattle.xenbus_state.specs.declared.stage.FrontBusStage.{FrontBusStage}
use Rattle.xenbus_state.specs.declared.stage.FrontBusStage.TheVariants as stage
use Rattle.xenbus_state.specs.declared.front.FrontNews.{FrontNews}
use Rattle.xenbus_state.specs.declared.front.FrontNews.TheVariants as news
use Rattle.xenbus_state.specs.declared.table.FrontAction.{FrontAction}
use Rattle.xenbus_state.specs.States.{state_number, state_read}
use Rattle.xenbus_state.specs.Tables.{on_offer, on_connected, on_closing, on_gone, front_action}
use Rattle.xenbus_state.specs.Keys.{front_name, back_name, path_under}
use Rattle.xenbus_state.specs.Reading.{count_read, fact_read}
use Rattle.xenbus_state.specs.Values.{text_of, front_value}
use Rattle.xenbus_state.specs.FrontView.{FrontView, terms_of}
use Rattle.xenbus_state.specs.FrontAsk.{ask_at, ask_of, due}
use Rattle.xenbus_state.specs.FrontStep.{at, closing_news, action_news, read_news, written_news, news_at, news_of}
use Rattle.split_model.proofs.SafeActs.{of_front, front_test}
use Rattle.vbd_front.specs.Ask as front
use Rattle.vbd_front.specs.Step.{state_of_news, news_told}
use Rattle.negotiation_laws.proofs.Choices.{either, due_cases}
use Rattle.vbd_laws.specs.Halts.{state_said}
use Rattle.vbd_laws.specs.StateLines.{StateDue, NoState, ReadyDue, ClosedDue, ClosingDue, LeavingDue, set_due, state_due, read_due, move_due}

-- what the front tells is what is due
abbrev pub is_state : Option FrontNews → Bool
is_state None = false
is_state (Some (news.Broken word)) = false
is_state (Some n) = true

abbrev pub Agrees : (begun : Bool) → StateDue → Option FrontNews → Type 0
Agrees begun NoState told = is_state told ≡ false
Agrees begun ReadyDue told = told ≡ Some news.Ready
Agrees begun ClosedDue told = (told ≡ Some news.Closed) × (begun ≡ true)
Agrees begun ClosingDue told = (told ≡ Some news.Closing) × (begun ≡ false)
Agrees begun LeavingDue told = ((told ≡ Some news.Closing) ⊎ ((word : ℕ) × (told ≡ Some (news.Broken word)))) × (begun ≡ false)

-- what is true of the end of the ring where its negotiation may tell a state
abbrev pub MayTell : FrontBusStage → FrontView → ring.View → Type 0
MayTell stage.ReadState v r = (is_open r.stage ≡ true) × (r.closing ≡ v.closing)
MayTell (stage.WriteState state.Connected) v r = is_initialised r.stage ≡ true
MayTell (stage.WriteState state.Closed) v r = (is_through r && is_bare r.stage) ≡ true
MayTell s v r = Unit {0}

-- it enters the state that it is told
told_as : (offers : Offers) (n : FrontNews) (r : ring.View) → may_enter (state_of_news offers n) r ≡ true → news_told offers (Some n) r ≡ Some n
told_as offers n r may = ap (λ (b : Bool). if b then Some n else None) may

no_state : (offers : Offers) (n : Option FrontNews) (r : ring.View) → is_state n ≡ false → is_state (news_told offers n r) ≡ false
no_state offers None r none = refl
no_state offers (Some n) r none = elim (may_enter (state_of_news offers n) r) as (λ b. is_state (if b then Some n else None) ≡ false) [ true ↦ none | false ↦ refl ]

-- it reads the back's state
may_close : (r : ring.View) → is_open r.stage ≡ true → r.closing ≡ false → may_enter enter.Closing r ≡ true
may_close r opened still = ap (λ (b : Bool). not b && is_open r.stage) still ∙ opened

abbrev Reads : (begun : Bool) → Offers → Option FrontNews → ring.View → Option ℕ → Type 0
Reads begun offers n r said = Agrees begun (state_due begun said) (news_told offers n r)

quiet_reads : (begun : Bool) (offers : Offers) (n : Option FrontNews) (r : ring.View) (said : Option ℕ) → is_state n ≡ false → state_due begun said ≡ NoState → Reads begun offers n r said
quiet_reads begun offers n r said none quiet = subst (λ (d : StateDue). Agrees begun d (news_told offers n r)) (sym quiet) (no_state offers n r none)

begun_quiet : (said : Option ℕ) → state_due true said ≡ NoState
begun_quiet None = refl
begun_quiet (Some s) = refl

closing_reads : (begun : Bool) (offers : Offers) (r : ring.View) → begun ≡ r.closing → is_open r.stage ≡ true → Reads begun offers (closing_news begun) r (Some 5)
closing_reads true offers r same opened = refl
closing_reads false offers r same opened = (told_as offers news.Closing r (may_close r opened (sym same)), refl)

leaving_reads : (begun : Bool) (offers : Offers) (r : ring.View) (said : ℕ) → state_due false (Some said) ≡ LeavingDue → begun ≡ r.closing → is_open r.stage ≡ true → Reads begun offers (closing_news begun) r (Some said)
leaving_reads true offers r said leaves same opened = refl
leaving_reads false offers r said leaves same opened = subst (λ (d : StateDue). Agrees false d (news_told offers (Some news.Closing) r)) (sym leaves) (inl (told_as offers news.Closing r (may_close r opened (sym same))), refl)

broken_reads : (begun : Bool) (offers : Offers) (r : ring.View) (said word : ℕ) → state_due false (Some said) ≡ LeavingDue → is_open r.stage ≡ true → Reads begun offers (Some (news.Broken word)) r (Some said)
broken_reads true offers r said word leaves opened = no_state offers (Some (news.Broken word)) r refl
broken_reads false offers r said word leaves opened = subst (λ (d : StateDue). Agrees false d (news_told offers (Some (news.Broken word)) r)) (sym leaves) (inr (word, told_as offers (news.Broken word) r opened), refl)

offer_quiet : (own : BusState) (closing : Bool) → is_state (action_news (on_offer own) closing) ≡ false
offer_quiet state.Initialising closing = refl
offer_quiet own closing = refl

connected_quiet : (own : BusState) (closing : Bool) → is_state (action_news (on_connected own) closing) ≡ false
connected_quiet state.Initialised closing = refl
connected_quiet own closing = refl

close_is : (own : BusState) (idle closing : Bool) → action_news (on_closing own idle) closing ≡ closing_news closing
close_is state.Initialised true closing = refl
close_is state.Initialised false closing = refl
close_is own idle closing = refl

gone_reads : (begun idle : Bool) (offers : Offers) (r : ring.View) (said : ℕ) → state_due false (Some said) ≡ LeavingDue → begun ≡ r.closing → is_open r.stage ≡ true → Reads begun offers (action_news (on_gone idle said) begun) r (Some said)
gone_reads begun true offers r said leaves same opened = leaving_reads begun offers r said leaves same opened
gone_reads begun false offers r said leaves same opened = broken_reads begun offers r said said leaves opened

-- a state for which nothing begins
none_due : (begun : Bool) (s : ℕ) → state_due false (Some s) ≡ NoState → state_due begun (Some s) ≡ NoState
none_due true s none = refl
none_due false s none = none

state_reads : (own : BusState) (begun idle : Bool) (offers : Offers) (r : ring.View) (said : Option BusState) → begun ≡ r.closing → is_open r.stage ≡ true
    → Reads begun offers (action_news (front_action own begun idle said) begun) r (option_map state_number said)
state_reads own begun idle offers r None same opened = no_state offers (Some (news.Broken 9)) r refl
state_reads own begun idle offers r (Some state.Initialising) same opened = quiet_reads begun offers None r (Some 1) refl (none_due begun 1 refl)
state_reads own begun idle offers r (Some state.InitWait) same opened =
    quiet_reads begun offers _ r (Some 2) (either (λ (one : FrontAction). is_state (action_news one begun) ≡ false) (begun && idle) _ (on_offer own) refl (offer_quiet own begun)) (none_due begun 2 refl)
state_reads own begun idle offers r (Some state.Initialised) same opened = quiet_reads begun offers None r (Some 3) refl (none_due begun 3 refl)
state_reads own begun idle offers r (Some state.Connected) same opened =
    quiet_reads begun offers _ r (Some 4) (either (λ (one : FrontAction). is_state (action_news one begun) ≡ false) (begun && idle) _ (on_connected own) refl (connected_quiet own begun)) (none_due begun 4 refl)
state_reads own begun idle offers r (Some state.Closing) same opened = subst (λ (n : Option FrontNews). Reads begun offers n r (Some 5)) (sym (close_is own idle begun)) (closing_reads begun offers r same opened)
state_reads own begun idle offers r (Some state.Closed) same opened = gone_reads begun idle offers r 6 refl same opened
state_reads own begun idle offers r (Some state.Unknown) same opened = gone_reads begun idle offers r 0 refl same opened
state_reads own begun idle offers r (Some state.Reconfiguring) same opened = quiet_reads begun offers None r (Some 7) refl (none_due begun 7 refl)
state_reads own begun idle offers r (Some state.Reconfigured) same opened = quiet_reads begun offers None r (Some 8) refl (none_due begun 8 refl)

-- it reads another key, and sets one
key_unstated : (begun : Bool) (k : BackKey) (text : Option (List ℕ)) → read_due begun (path_under end.Back (back_name k)) text ≡ NoState
key_unstated begun back_key.FeatureBarrier text = refl
key_unstated begun other text = refl

own_unstated : (k : FrontKey) (text : List ℕ) → set_due (path_under end.Front (front_name k)) text ≡ NoState
own_unstated front_key.RingPageOrder text = refl
own_unstated other text = refl

read_unstated : (n : Option ℕ) → is_state (read_news n) ≡ false
read_unstated None = refl
read_unstated (Some n) = refl

-- it sets its state
by_digit : (begun : Bool) (s : BusState) (told : Option FrontNews) → state_number s < 10 → Agrees begun (set_due front.own_state ((48 + state_number s) ∷ [])) told → Agrees begun (set_due front.own_state (decimal (state_number s))) told
by_digit begun s told small is = subst (λ (d : StateDue). Agrees begun d told) (sym (ap (λ (text : List ℕ). set_due front.own_state text) (decimal_digit (state_number s) small))) is

writes : (begun : Bool) (s : BusState) (offers : Offers) (v : FrontView) (r : ring.View) → begun ≡ r.closing → MayTell (stage.WriteState s) v r → Agrees begun (set_due front.own_state (decimal (state_number s))) (news_told offers (written_news s) r)
writes begun state.Connected offers v r same may = by_digit begun state.Connected (news_told offers (Some news.Ready) r) (omega arith) (told_as offers news.Ready r may)
writes begun state.Closed offers v r same may = by_digit begun state.Closed (news_told offers (Some news.Closed) r) (omega arith) (told_as offers news.Closed r may, same ∙ (both_true r.closing (length r.requests == 0) (both_true (is_through r) (is_bare r.stage) may).0).0)
writes begun other offers v r same may = by_digit begun other None (omega arith) refl

-- its negotiation speaks
abbrev Tells : (begun idle : Bool) → (FrontAnswer → Offers) → FrontBusStage → FrontView → ring.View → FrontAct → Type 0
Tells begun idle offers s v r a = Agrees begun (move_due begun a.shown) (news_told (offers a.answer) (news_at s (at s v) idle a.answer) r)

set_acts : (P : FrontAct → Type 0) (h : Hypervisor) (path text : List ℕ) (a : FrontAct) → P (record { answer = answer.Done; under = key_set h path text; shown = moves.SetKey mover.Front path text })
    → front_act h (front_ask.SetKey path text) ≡ Some a → P a
set_acts P h path text a holds e = front_test P (is_own_path end.Front path) (record { answer = answer.Done; under = key_set h path text; shown = moves.SetKey mover.Front path text }) a holds e

tells_at : (begun idle : Bool) (offers : FrontAnswer → Offers) (s : FrontBusStage) (v : FrontView) (r : ring.View) (h : Hypervisor) (a : FrontAct) → begun ≡ r.closing → MayTell s v r → front.speaks (ask_at s v) ≡ true
    → front_act h (front.key_ask (ask_at s v)) ≡ Some a → Tells begun idle offers s v r a
tells_at begun idle offers stage.Start v r h a same may speaks e = of_front (Tells begun idle offers stage.Start v r) _ a refl e
tells_at begun idle offers stage.ReadState v r h a same may speaks e =
    of_front (Tells begun idle offers stage.ReadState v r) _ a
    (subst (λ (b : Bool). Agrees begun (state_due begun (state_said (key_at h front.other_state))) (news_told (offers (answer.Key (key_at h front.other_state))) (action_news (front_action v.state b idle (state_read (key_at h front.other_state))) b) r)) (same ∙ may.1)
    (state_reads v.state begun idle (offers (answer.Key (key_at h front.other_state))) r (state_read (key_at h front.other_state)) same may.0)) e
tells_at begun idle offers (stage.ReadFeature k) v r h a same may speaks e =
    let text : Option (List ℕ) = key_at h (path_under end.Back (back_name k)) in
    of_front (Tells begun idle offers (stage.ReadFeature k) v r) _ a
    (subst (λ (d : StateDue). Agrees begun d (news_told (offers (answer.Key text)) (read_news (count_read text)) r)) (sym (key_unstated begun k text)) (no_state (offers (answer.Key text)) (read_news (count_read text)) r (read_unstated (count_read text)))) e
tells_at begun idle offers (stage.ReadFact k) v r h a same may speaks e =
    let text : Option (List ℕ) = key_at h (path_under end.Back (back_name k)) in
    of_front (Tells begun idle offers (stage.ReadFact k) v r) _ a
    (subst (λ (d : StateDue). Agrees begun d (news_told (offers (answer.Key text)) (read_news (fact_read k text)) r)) (sym (key_unstated begun k text)) (no_state (offers (answer.Key text)) (read_news (fact_read k text)) r (read_unstated (fact_read k text)))) e
tells_at begun idle offers (stage.Publish k) v r h a same may speaks e =
    set_acts (Tells begun idle offers (stage.Publish k) v r) h (path_under end.Front (front_name k)) (text_of (front_value (terms_of v) k)) a
    (subst (λ (d : StateDue). Agrees begun d None) (sym (own_unstated k (text_of (front_value (terms_of v) k)))) refl) e
tells_at begun idle offers (stage.WriteState s) v r h a same may speaks e =
    set_acts (Tells begun idle offers (stage.WriteState s) v r) h front.own_state (decimal (state_number s)) a (writes begun s (offers answer.Done) v r same may) e
tells_at begun idle offers s v r h a same may speaks e = absurd (true≢false (sym speaks))

pub tells : (begun idle : Bool) (offers : FrontAnswer → Offers) (v : FrontView) (r : ring.View) (h : Hypervisor) (a : FrontAct) → begun ≡ r.closing → MayTell v.stage v r → front.speaks (ask_of v idle) ≡ true
    → front_act h (front.key_ask (ask_of v idle)) ≡ Some a → Agrees begun (move_due begun a.shown) (news_told (offers a.answer) (news_of v idle a.answer) r)
tells begun idle offers v r h a same may speaks e =
    tells_at begun idle offers (due v idle) v r h a same (due_cases (λ (s : FrontBusStage). MayTell s v r) v.stage v idle may tt tt tt) speaks e
