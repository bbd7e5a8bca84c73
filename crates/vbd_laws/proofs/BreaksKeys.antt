-- A move of the front's negotiation: it breaks the front exactly where the lines say so.
use Rattle.std.proofs.Common.{◌≡◌, ℕ, ◌+◌, ◌==◌, ◌&&◌, Bool, true, false, true≢false, not, if◌then◌else◌, List, length, refl, sym, ap, ◌∙◌, arith}
use Rattle.std.specs.Prelude.{Option, Some, None, is_some}
use Rattle.std.specs.Option.{option_map}
use Rattle.std.proofs.Math.Bool.{and-true}
use Rattle.blk_base.specs.declared.parts.End.TheVariants as end
use Rattle.hypervisor.specs.Hypervisor.{Hypervisor}
use Rattle.hypervisor.specs.Act.{FrontAct, front_act, key_at}
use Rattle.blk_front.specs.declared.stage.FrontStage.{FrontStage}
use Rattle.blk_front.specs.declared.stage.FrontStage.TheVariants as ring_stage
use Rattle.blk_front.specs.declared.state.Offers.{Offers}
use Rattle.blk_front.specs.View as ring
use Rattle.blk_front.specs.State.{is_open, may_enter}
use Rattle.blk_front.specs.Submit.{ending_of}
use Rattle.xenbus_state.specs.declared.state.BusState.{BusState}
use Rattle.xenbus_state.specs.declared.state.BusState.TheVariants as state
use Rattle.xenbus_state.specs.declared.stage.FrontBusStage.{FrontBusStage}
use Rattle.xenbus_state.specs.declared.stage.FrontBusStage.TheVariants as stage
use Rattle.xenbus_state.specs.declared.front.FrontNews.{FrontNews}
use Rattle.xenbus_state.specs.declared.front.FrontNews.TheVariants as news
use Rattle.xenbus_state.specs.declared.keys.BackKey.{BackKey}
use Rattle.xenbus_state.specs.declared.keys.BackKey.TheVariants as key
use Rattle.xenbus_state.specs.States.{state_number, state_read}
use Rattle.xenbus_state.specs.Tables.{on_offer, on_connected, on_closing, on_gone, front_action}
use Rattle.xenbus_state.specs.Keys.{back_name, path_under}
use Rattle.xenbus_state.specs.Programs.{IsFeature, IsFact}
use Rattle.xenbus_state.specs.Reading.{count_read, fact_read}
use Rattle.xenbus_state.specs.FrontView.{FrontView}
use Rattle.xenbus_state.specs.FrontAsk as bus
use Rattle.xenbus_state.specs.FrontStep.{at, closing_news, action_news, read_news, written_news, news_at}
use Rattle.split_model.proofs.SafeActs.{of_front}
use Rattle.vbd_front.specs.View.{is_still, is_unoccupied}
use Rattle.vbd_front.specs.Ask as front
use Rattle.vbd_front.specs.Step.{news_told, state_of_news}
use Rattle.vbd_model.specs.Fit.{FrontGoesWith}
use Rattle.negotiation_laws.proofs.Choices.{due_cases}
use Rattle.vbd_laws.specs.Halts.{state_said}
use Rattle.vbd_laws.specs.Breaks.{FrontSight, due_of_state, due_of_text, due_after}
use Rattle.vbd_laws.proofs.BreaksCounts.{none_left}
use Rattle.vbd_laws.proofs.BreaksKept.{KnownBy}
use Rattle.vbd_laws.proofs.BreaksPlaced.{IsPlaced}
use Rattle.vbd_laws.proofs.FitFrontBus.{rests_open}

-- the word of what it makes happen, where that breaks the front
abbrev pub word_of_news : Option FrontNews → Option ℕ
word_of_news (Some (news.Broken word)) = Some word
word_of_news n = None

pub told_word : (offers : Offers) (n : Option FrontNews) (f : ring.View) → is_open f.stage ≡ true → word_of_news (news_told offers n f) ≡ word_of_news n
told_word offers None f opened = refl
told_word offers (Some (news.Broken word)) f opened = ap (λ (b : Bool). word_of_news (if b then Some (news.Broken word) else None)) opened
told_word offers (Some news.Ready) f opened = by_test (may_enter (state_of_news offers news.Ready) f)
  where
    by_test : (b : Bool) → word_of_news (if b then Some news.Ready else None) ≡ None
    by_test true = refl
    by_test false = refl
told_word offers (Some news.Closing) f opened = by_test (may_enter (state_of_news offers news.Closing) f)
  where
    by_test : (b : Bool) → word_of_news (if b then Some news.Closing else None) ≡ None
    by_test true = refl
    by_test false = refl
told_word offers (Some news.Closed) f opened = by_test (may_enter (state_of_news offers news.Closed) f)
  where
    by_test : (b : Bool) → word_of_news (if b then Some news.Closed else None) ≡ None
    by_test true = refl
    by_test false = refl

unbroken_told : (offers : Offers) (n : Option FrontNews) (f : ring.View) → word_of_news n ≡ None → word_of_news (news_told offers n f) ≡ None
unbroken_told offers None f none = refl
unbroken_told offers (Some n) f none = by_test (may_enter (state_of_news offers n) f)
  where
    by_test : (b : Bool) → word_of_news (if b then Some n else None) ≡ None
    by_test true = none
    by_test false = refl

-- it reads the back's state
closing_none : (closing : Bool) → word_of_news (closing_news closing) ≡ None
closing_none true = refl
closing_none false = refl

offer_none : (own : BusState) (closing : Bool) → word_of_news (action_news (on_offer own) closing) ≡ None
offer_none state.Initialising closing = refl
offer_none own closing = refl

connected_none : (own : BusState) (closing : Bool) → word_of_news (action_news (on_connected own) closing) ≡ None
connected_none state.Initialised closing = refl
connected_none own closing = refl

close_none : (own : BusState) (idle closing : Bool) → word_of_news (action_news (on_closing own idle) closing) ≡ None
close_none state.Initialised true closing = closing_none closing
close_none state.Initialised false closing = closing_none closing
close_none own idle closing = closing_none closing

open_none : (closing idle : Bool) (own : BusState) → word_of_news (action_news (front_action own closing idle (Some state.InitWait)) closing) ≡ None
open_none true true own = refl
open_none true false own = offer_none own true
open_none false true own = offer_none own false
open_none false false own = offer_none own false

connect_none : (closing idle : Bool) (own : BusState) → word_of_news (action_news (front_action own closing idle (Some state.Connected)) closing) ≡ None
connect_none true true own = refl
connect_none true false own = connected_none own true
connect_none false true own = connected_none own false
connect_none false false own = connected_none own false

gone_is : (idle closing : Bool) (n : ℕ) → (if not idle && true then Some n else None) ≡ word_of_news (action_news (on_gone idle n) closing)
gone_is true closing n = sym (closing_none closing)
gone_is false closing n = refl

owes_other : (owes : Bool) (n : ℕ) → (if owes && false then Some n else None) ≡ None
owes_other true n = refl
owes_other false n = refl

state_due : (own : BusState) (closing idle : Bool) (said : Option BusState) → due_of_state (not idle) (option_map state_number said) ≡ word_of_news (action_news (front_action own closing idle said) closing)
state_due own closing idle None = refl
state_due own closing idle (Some state.Initialising) = owes_other (not idle) 1
state_due own closing idle (Some state.InitWait) = owes_other (not idle) 2 ∙ sym (open_none closing idle own)
state_due own closing idle (Some state.Initialised) = owes_other (not idle) 3
state_due own closing idle (Some state.Connected) = owes_other (not idle) 4 ∙ sym (connect_none closing idle own)
state_due own closing idle (Some state.Closing) = owes_other (not idle) 5 ∙ sym (close_none own idle closing)
state_due own closing idle (Some state.Closed) = gone_is idle closing 6
state_due own closing idle (Some state.Unknown) = gone_is idle closing 0
state_due own closing idle (Some state.Reconfiguring) = owes_other (not idle) 7
state_due own closing idle (Some state.Reconfigured) = owes_other (not idle) 8

-- and another of its keys
read_due : (n : Option ℕ) → (if is_some n then None else Some 9) ≡ word_of_news (read_news n)
read_due None = refl
read_due (Some n) = refl

feature_due : (s : FrontSight) (k : BackKey) (text : Option (List ℕ)) → IsFeature k → due_of_text s (path_under end.Back (back_name k)) text ≡ word_of_news (read_news (count_read text))
feature_due s key.FeatureBarrier text is = read_due (count_read text)
feature_due s key.FeatureFlushCache text is = read_due (count_read text)
feature_due s key.FeatureDiscard text is = read_due (count_read text)
feature_due s key.FeaturePersistent text is = read_due (count_read text)
feature_due s key.FeatureMaxIndirectSegments text is = read_due (count_read text)
feature_due s key.MaxRingPageOrder text is = read_due (count_read text)
feature_due s k text is = absurd is

fact_due : (s : FrontSight) (k : BackKey) (text : Option (List ℕ)) → IsFact k → due_of_text s (path_under end.Back (back_name k)) text ≡ word_of_news (read_news (fact_read k text))
fact_due s key.Sectors text is = read_due (fact_read key.Sectors text)
fact_due s key.SectorSize text is = read_due (fact_read key.SectorSize text)
fact_due s key.Info text is = read_due (fact_read key.Info text)
fact_due s k text is = absurd is

-- it reads a key of the back
abbrev pub is_reading : FrontBusStage → Bool
is_reading stage.ReadState = true
is_reading (stage.ReadFeature k) = true
is_reading (stage.ReadFact k) = true
is_reading b = false

abbrev pub reads_state : FrontBusStage → Bool
reads_state stage.ReadState = true
reads_state b = false

-- what is due is read where that was begun
pub due_reading : (v : FrontView) (idle : Bool) → is_reading (bus.due v idle) ≡ true → is_reading v.stage ≡ true
due_reading v idle = due_cases (λ (b : FrontBusStage). is_reading b ≡ true → is_reading v.stage ≡ true) v.stage v idle (λ is. is) (λ is. absurd (true≢false (sym is))) (λ is. absurd (true≢false (sym is))) (λ is. absurd (true≢false (sym is)))

pub due_state : (v : FrontView) (idle : Bool) → reads_state (bus.due v idle) ≡ true → reads_state v.stage ≡ true
due_state v idle = due_cases (λ (b : FrontBusStage). reads_state b ≡ true → reads_state v.stage ≡ true) v.stage v idle (λ is. is) (λ is. absurd (true≢false (sym is))) (λ is. absurd (true≢false (sym is))) (λ is. absurd (true≢false (sym is)))

-- its end of the ring is open then
pub open_reading : (b : FrontBusStage) (v : FrontView) (r : FrontStage) → FrontGoesWith b v r → is_reading b ≡ true → is_open r ≡ true
open_reading stage.ReadState v r goes is = rests_open v.state v.gone v.port r goes
open_reading (stage.ReadFeature k) v r goes is = ap is_open goes.1
open_reading (stage.ReadFact k) v r goes is = ap is_open goes.1
open_reading b v r goes is = absurd (true≢false (sym is))

-- and no request is left exactly where the lines owe none
still_going : (t : FrontStage) (s : FrontSight) (f : ring.View) → is_still t ≡ true → KnownBy s t f → (ending_of t ≡ 0) × ((length s.owed == 0) ≡ (length f.requests == 0))
still_going (ring_stage.RingWord k) s f still known = (refl, let agree = known.agree in none_left s.owed f.requests (λ n. let all = agree.owed n in omega arith))
still_going ring_stage.Initialised s f still known = (refl, let agree = known.agree in none_left s.owed f.requests (λ n. let all = agree.owed n in omega arith))
still_going ring_stage.Loop s f still known = (refl, let agree = known.agree in none_left s.owed f.requests (λ n. let all = agree.owed n in omega arith))
still_going (ring_stage.RingRead page) s f still known = (refl, let agree = known.agree in none_left s.owed f.requests (λ n. let all = agree.owed n in omega arith))
still_going (ring_stage.RingEnd page seen) s f still known = (refl, let agree = known.agree in none_left s.owed f.requests (λ n. let all = agree.owed n in omega arith))
still_going ring_stage.ClosePort s f still known = (refl, let agree = known.agree in none_left s.owed f.requests (λ n. let all = agree.owed n in omega arith))
still_going (ring_stage.KeptRead frame) s f still known = (refl, let agree = known.agree in none_left s.owed f.requests (λ n. let all = agree.owed n in omega arith))
still_going (ring_stage.KeptEnd frame seen) s f still known = (refl, let agree = known.agree in none_left s.owed f.requests (λ n. let all = agree.owed n in omega arith))
still_going ring_stage.Left s f still known = (refl, let agree = known.agree in none_left s.owed f.requests (λ n. let all = agree.owed n in omega arith))
still_going ring_stage.Closed s f still known = (refl, let agree = known.agree in none_left s.owed f.requests (λ n. let all = agree.owed n in omega arith))
still_going t s f still known = absurd (true≢false (sym still))

pub idle_owes : (s : FrontSight) (f : ring.View) → is_still f.stage ≡ true → KnownBy s f.stage f → is_unoccupied f ≡ (length s.owed == 0)
idle_owes s f still known =
    let goes = still_going f.stage s f still known in
    let none = goes.0 in
    let all : length f.requests + ending_of f.stage ≡ length f.requests = omega arith in
    ap (λ (n : ℕ). n == 0 && is_still f.stage) all ∙ (ap (λ (b : Bool). length f.requests == 0 && b) still ∙ (and-true (length f.requests == 0) ∙ sym goes.1))

-- a move of the negotiation: what it makes happen is due by what it showed
writes_none : (own : BusState) → word_of_news (written_news own) ≡ None
writes_none state.Connected = refl
writes_none own = refl

pub key_due : (s : FrontSight) (h : Hypervisor) (b : FrontBusStage) (v : FrontView) (f : ring.View) (idle : Bool) (offers : Offers) (a : FrontAct) → IsPlaced b → (is_reading b ≡ true → is_open f.stage ≡ true) → (reads_state b ≡ true → idle ≡ (length s.owed == 0))
    → front.speaks (bus.ask_at b v) ≡ true → front_act h (front.key_ask (bus.ask_at b v)) ≡ Some a
    → due_after s a.shown ≡ word_of_news (news_told offers (news_at b (at b v) idle a.answer) f)
key_due s h stage.Start v f idle offers a placed opened owes says e =
    of_front (λ (x : FrontAct). due_after s x.shown ≡ word_of_news (news_told offers (news_at stage.Start (at stage.Start v) idle x.answer) f)) _ a refl e
key_due s h stage.ReadState v f idle offers a placed opened owes says e =
    of_front (λ (x : FrontAct). due_after s x.shown ≡ word_of_news (news_told offers (news_at stage.ReadState (at stage.ReadState v) idle x.answer) f)) _ a
    (ap (λ (b : Bool). due_of_state (not b) (state_said (key_at h front.other_state))) (sym (owes refl)) ∙ (state_due v.state v.closing idle (state_read (key_at h front.other_state)) ∙ sym (told_word offers _ f (opened refl)))) e
key_due s h (stage.ReadFeature k) v f idle offers a placed opened owes says e =
    of_front (λ (x : FrontAct). due_after s x.shown ≡ word_of_news (news_told offers (news_at (stage.ReadFeature k) (at (stage.ReadFeature k) v) idle x.answer) f)) _ a
    (feature_due s k _ placed ∙ sym (told_word offers _ f (opened refl))) e
key_due s h (stage.ReadFact k) v f idle offers a placed opened owes says e =
    of_front (λ (x : FrontAct). due_after s x.shown ≡ word_of_news (news_told offers (news_at (stage.ReadFact k) (at (stage.ReadFact k) v) idle x.answer) f)) _ a
    (fact_due s k _ placed ∙ sym (told_word offers _ f (opened refl))) e
key_due s h (stage.Publish k) v f idle offers a placed opened owes says e =
    of_front (λ (x : FrontAct). due_after s x.shown ≡ word_of_news (news_told offers (news_at (stage.Publish k) (at (stage.Publish k) v) idle x.answer) f)) _ a refl e
key_due s h (stage.WriteState own) v f idle offers a placed opened owes says e =
    of_front (λ (x : FrontAct). due_after s x.shown ≡ word_of_news (news_told offers (news_at (stage.WriteState own) (at (stage.WriteState own) v) idle x.answer) f)) _ a
    (sym (unbroken_told offers (written_news own) f (writes_none own))) e
key_due s h b v f idle offers a placed opened owes says e = absurd (true≢false (sym says))
