-- Marks of events: an event that the front takes was pending, and no other move of it sets a mark but a send.
use Rattle.std.proofs.Common.{◌≡◌, ℕ, ◌+◌, ◌≤◌, ◌==◌, ◌||◌, Bool, true, false, if◌then◌else◌, List, refl, subst, arith}
use Rattle.std.specs.Prelude.{Option, Some, None, cond}
use Rattle.std.proofs.lemmas.Option.{none-some, same_Some}
use Rattle.blk_base.specs.declared.parts.End.TheVariants as end
use Rattle.blk_base.specs.declared.ask.FrontAsk.{FrontAsk}
use Rattle.blk_base.specs.declared.ask.FrontAsk.TheVariants as ask
use Rattle.blk_base.specs.declared.ask.FrontAnswer.{FrontAnswer}
use Rattle.blk_base.specs.declared.ask.FrontAnswer.TheVariants as answer
use Rattle.blk_base.specs.declared.moves.Mover.TheVariants as mover
use Rattle.blk_base.specs.declared.moves.Move.TheVariants as moves
use Rattle.event_channel.specs.Channels.{ChannelState, is_bound, sent, taken}
use Rattle.hypervisor.specs.Hypervisor.{Hypervisor}
use Rattle.hypervisor.specs.Act.{FrontAct, front_act, front_watched, watch_next, is_own_path, key_set}
use Rattle.ring_words.specs.Ring.{responses_of}
use Rattle.blk_front.specs.declared.request.Request.{Request}
use Rattle.blk_front.specs.declared.request.Transfer.{Transfer}
use Rattle.blk_front.specs.declared.request.Transfer.TheVariants as transfer
use Rattle.blk_front.specs.declared.stage.Ending.{Ending}
use Rattle.blk_front.specs.declared.stage.FrontStage.{FrontStage}
use Rattle.blk_front.specs.declared.stage.FrontStage.TheVariants as stage
use Rattle.blk_front.specs.Request.{is_indirect}
use Rattle.blk_front.specs.View.{View, next_request, slot_frame, slot_word}
use Rattle.blk_front.specs.Ask.{ask_at, ask_of, is_through, issue_ask, loop_ask, data_ask, page_ask, name_ask, grant_ask, revoke_ask, end_ask, read_ask}
use Rattle.ring_settle_laws.specs.Left.{marks_left}
use Rattle.ring_settle_laws.proofs.FrontEnd.{sent as sent_at}

-- what a send gives to a mark, and an event takes from one
abbrev pub asked_mark : FrontAsk → ℕ
asked_mark ask.Send = 5
asked_mark asked = 0

abbrev pub taken_mark : FrontAnswer → ℕ
taken_mark answer.Event = 5
taken_mark a = 0

abbrev Pays : Hypervisor → FrontAsk → FrontAct → Type 0
Pays h asked a = marks_left a.under.channels + taken_mark a.answer ≤ marks_left h.channels + asked_mark asked

is_act : (h : Hypervisor) (asked : FrontAsk) (x a : FrontAct) → Pays h asked x → Some x ≡ Some a → Pays h asked a
is_act h asked x a pays e = subst (Pays h asked) (same_Some x a e) pays

-- it takes its event, or its watch
wait_pays : (h : Hypervisor) (a : FrontAct) (pending : Bool) (next : Option (List ℕ)) → h.channels.front_pending ≡ pending
    → (if pending then Some (record { answer = answer.Event; under = record h { channels = taken h.channels end.Front }; shown = moves.Event mover.Front }) else front_watched h next) ≡ Some a → Pays h ask.Wait a
wait_pays h a true next is e = is_act h ask.Wait _ a (rw is (omega arith)) e
wait_pays h a false (Some path) is e = is_act h ask.Wait _ a (omega arith) e
wait_pays h a false None is e = absurd (none-some a e)

set_mark : (c : ChannelState) → marks_left (sent c end.Front) ≤ marks_left c + 5
set_mark c = elim (is_bound c) as (λ b. cond c.front_pending 5 0 + cond (if b then true else c.back_pending) 5 0 ≤ cond c.front_pending 5 0 + cond c.back_pending 5 0 + 5) [ true ↦ omega arith | false ↦ omega arith ]

set_pays : (h : Hypervisor) (path text : List ℕ) (a : FrontAct) (own : Bool)
    → (if own then Some (record { answer = answer.Done; under = key_set h path text; shown = moves.SetKey mover.Front path text }) else None) ≡ Some a → Pays h (ask.SetKey path text) a
set_pays h path text a true e = is_act h (ask.SetKey path text) _ a (omega arith) e
set_pays h path text a false e = absurd (none-some a e)

act_pays : (h : Hypervisor) (asked : FrontAsk) (a : FrontAct) → front_act h asked ≡ Some a → Pays h asked a
act_pays h ask.Wait a e = wait_pays h a h.channels.front_pending (watch_next h end.Front) refl e
act_pays h ask.Send a e = is_act h ask.Send _ a (omega (arith, set_mark h.channels)) e
act_pays h (ask.SetKey path text) a e = set_pays h path text a (is_own_path end.Front path) e
act_pays h asked a e = is_act h asked _ a (omega arith) e

-- no stage but that of a send asks for one
either_mark : (b : Bool) (x y : FrontAsk) → asked_mark x ≡ 0 → asked_mark y ≡ 0 → asked_mark (if b then x else y) ≡ 0
either_mark true x y p q = p
either_mark false x y p q = q

issue_mark : (v : View) (r : Request) (way : Transfer) → asked_mark (issue_ask v r way) ≡ 0
issue_mark v r transfer.Read = either_mark (is_indirect r.count) (page_ask (Some r) 0) (name_ask (Some r) 0) refl refl
issue_mark v r other = refl

loop_mark : (v : View) (o : Option Request) → asked_mark (loop_ask v o) ≡ 0
loop_mark v (Some r) = issue_mark v r r.transfer
loop_mark v None =
    either_mark (v.ring.asleep || is_through v) ask.Wait _ refl
    (either_mark (responses_of v.ring.indices v.ring.seen == 0) (ask.Read 2 2) (ask.Read (slot_frame v.shape v.ring.indices.cons 0) (slot_word v.shape v.ring.indices.cons 0)) refl refl)

-- an ask of a request that may be there or not
option_mark : {A : Type 0} (asks : Option A → FrontAsk) → asked_mark (asks None) ≡ 0 → ((x : A) → asked_mark (asks (Some x)) ≡ 0) → (o : Option A) → asked_mark (asks o) ≡ 0
option_mark asks none some None = none
option_mark asks none some (Some x) = some x

stage_mark : (s : FrontStage) (v : View) → asked_mark (ask_at s v) ≡ sent_at s
stage_mark stage.Loop v = loop_mark v (next_request v)
stage_mark (stage.Data n) v = option_mark (λ o. data_ask o n) refl (λ x. refl) (next_request v)
stage_mark (stage.Pages n) v = option_mark (λ o. page_ask o n) refl (λ x. refl) (next_request v)
stage_mark (stage.GrantFrame place) v = option_mark (λ o. name_ask o place) refl (λ x. refl) (next_request v)
stage_mark (stage.GrantFlags place) v = option_mark (λ o. grant_ask o place) refl (λ x. refl) (next_request v)
stage_mark (stage.GrantRead place) v = option_mark (λ o. revoke_ask o place) refl (λ x. refl) v.ending
stage_mark (stage.GrantEnd place before) v = option_mark (λ o. end_ask o place before) refl (λ x. refl) v.ending
stage_mark (stage.ReadData n) v = option_mark (λ o. read_ask o n) refl (λ x. refl) v.ending
stage_mark (stage.LeftData n) v = option_mark (λ o. read_ask o n) refl (λ x. refl) v.ending
stage_mark s v = refl

pub marks_fall : (h : Hypervisor) (v : View) (a : FrontAct) → front_act h (ask_of v) ≡ Some a → marks_left a.under.channels + taken_mark a.answer ≤ marks_left h.channels + sent_at v.stage
marks_fall h v a e = omega (arith, act_pays h (ask_of v) a e, stage_mark v.stage v)
