-- What an act leaves as it was, and that its answer is one that its ask allows.
use Rattle.std.proofs.Common.{◌≡◌, ℕ, ◌+◌, ◌≤◌, Bool, true, false, if◌then◌else◌, List, refl, subst, arith}
use Rattle.std.specs.Prelude.{Some, None}
use Rattle.std.proofs.lemmas.Option.{none-some, same_Some}
use Rattle.blk_base.specs.declared.parts.Mapping.{Mapping}
use Rattle.blk_base.specs.declared.parts.End.TheVariants as end
use Rattle.blk_base.specs.declared.ask.FrontAsk.{FrontAsk}
use Rattle.blk_base.specs.declared.ask.FrontAsk.TheVariants as front_ask
use Rattle.blk_base.specs.declared.ask.BackAsk.{BackAsk}
use Rattle.blk_base.specs.declared.ask.BackAsk.TheVariants as back_ask
use Rattle.blk_base.specs.declared.moves.BackMover.{BackMover}
use Rattle.blk_base.specs.declared.ask.FrontAnswer.TheVariants as front_answer
use Rattle.blk_base.specs.declared.ask.BackAnswer.TheVariants as back_answer
use Rattle.blk_base.specs.declared.moves.Mover.{Mover}
use Rattle.blk_base.specs.declared.moves.Mover.TheVariants as mover
use Rattle.blk_base.specs.declared.moves.Move.{Move}
use Rattle.blk_base.specs.declared.moves.Move.TheVariants as moves
use Rattle.event_channel.specs.Channels.{taken}
use Rattle.hypervisor.specs.Hypervisor.{Hypervisor}
use Rattle.hypervisor.specs.Act.{FrontAct, BackAct, Outcome, Took, front_act, back_act, wait_act, watch_next, watch_taken, is_own_path, with_keys}
use Rattle.back_jobs.specs.Hands.{HandsAfter}
use Rattle.split_model.specs.Safe.{AreHeld}
use Rattle.split_model.proofs.Acting.{FrontActs, FrontEvent, FrontWatched, FrontFence, front_acts, BackActs, BackEvent, BackWatched, BackFence, BackMap, BackUnmap, back_acts}
use Rattle.split_model.proofs.SafeHands.{held_more, held_less}

-- what holds of an act holds of the act that there is
pub of_front : (P : FrontAct → Type 0) (x a : FrontAct) → P x → Some x ≡ Some a → P a
of_front P x a h e = subst P (same_Some x a e) h

pub of_back : (P : BackAct → Type 0) (x a : BackAct) → P x → Some x ≡ Some a → P a
of_back P x a h e = subst P (same_Some x a e) h

pub front_test : (P : FrontAct → Type 0) (b : Bool) (x a : FrontAct) → P x → (if b then Some x else None) ≡ Some a → P a
front_test P true x a h e = of_front P x a h e
front_test P false x a h e = absurd (none-some a e)

pub back_test : (P : BackAct → Type 0) (b : Bool) (x a : BackAct) → P x → (if b then Some x else None) ≡ Some a → P a
back_test P true x a h e = of_back P x a h e
back_test P false x a h e = absurd (none-some a e)

-- a move of that mover on a key or a watch
abbrev pub IsKeyMove : Mover → Move → Type 0
IsKeyMove who (moves.Watch m path) = m ≡ who
IsKeyMove who (moves.Watched m path) = m ≡ who
IsKeyMove who (moves.GetKey m path text) = m ≡ who
IsKeyMove who (moves.SetKey m path text) = m ≡ who
IsKeyMove who move = ⊥

-- an act on keys changes keys alone
pub record IsFrontKeyAct (h : Hypervisor) (x : FrontAct) : Type 0 where
  pub under : x.under ≡ with_keys h x.under.keys
  pub shown : IsKeyMove mover.Front x.shown

abbrev pub AsksFrontKey : FrontAsk → Type 0
AsksFrontKey (front_ask.GetKey path) = Unit {0}
AsksFrontKey (front_ask.SetKey path text) = Unit {0}
AsksFrontKey (front_ask.Watch path) = Unit {0}
AsksFrontKey ask = ⊥

abbrev pub AsksBackKey : BackAsk → Type 0
AsksBackKey (back_ask.GetKey path) = Unit {0}
AsksBackKey (back_ask.SetKey path text) = Unit {0}
AsksBackKey (back_ask.Watch path) = Unit {0}
AsksBackKey ask = ⊥

-- what holds of every act on keys holds of an ask for a key
pub front_keys : (P : FrontAct → Type 0) (h : Hypervisor) (ask : FrontAsk) (a : FrontAct) → AsksFrontKey ask → ((x : FrontAct) → IsFrontKeyAct h x → P x) → front_act h ask ≡ Some a → P a
front_keys P h (front_ask.GetKey path) a asks all e = of_front P _ a (all _ (record { under = refl; shown = refl })) e
front_keys P h (front_ask.SetKey path text) a asks all e = front_test P (is_own_path end.Front path) _ a (all _ (record { under = refl; shown = refl })) e
front_keys P h (front_ask.Watch path) a asks all e = of_front P _ a (all _ (record { under = refl; shown = refl })) e
front_keys P h ask a asks all e = absurd asks

-- an end that waits takes its event, or else a watch
abbrev pub front_event : Hypervisor → FrontAct
front_event h = record { answer = front_answer.Event; under = record h { channels = taken h.channels end.Front }; shown = moves.Event mover.Front }

abbrev pub back_event : Hypervisor → BackAct
back_event h = record { answer = back_answer.Event; under = record h { channels = taken h.channels end.Back }; shown = moves.Event mover.Back }

abbrev pub front_watch : Hypervisor → List ℕ → FrontAct
front_watch h path = record { answer = front_answer.Watched path; under = watch_taken h end.Front; shown = moves.Watched mover.Front path }

abbrev pub back_watch : Hypervisor → List ℕ → BackAct
back_watch h path = record { answer = back_answer.Watched path; under = watch_taken h end.Back; shown = moves.Watched mover.Back path }

pub front_takes : (P : FrontAct → Type 0) (h : Hypervisor) (a : FrontAct) → P (front_event h) → ((path : List ℕ) → watch_next h end.Front ≡ Some path → P (front_watch h path)) → front_act h front_ask.Wait ≡ Some a → P a
front_takes P h a event watch e = by_acts a (front_acts h front_ask.Wait a e)
  where
    by_acts : (x : FrontAct) → FrontActs h front_ask.Wait x → P x
    by_acts x FrontEvent = event
    by_acts x (FrontWatched path first) = watch path first

pub back_takes : (P : BackAct → Type 0) (h : Hypervisor) (who : BackMover) (a : BackAct) → P (back_event h) → ((path : List ℕ) → watch_next h end.Back ≡ Some path → P (back_watch h path)) → wait_act h who ≡ Some a → P a
back_takes P h who a event watch e = by_acts who a (back_acts h who back_ask.Wait Took a e)
  where
    by_acts : (mover : BackMover) (x : BackAct) → BackActs h mover back_ask.Wait Took x → P x
    by_acts mover x BackEvent = event
    by_acts mover x (BackWatched path first) = watch path first

-- the same, whichever watch it is
pub front_wait : (P : FrontAct → Type 0) (h : Hypervisor) (a : FrontAct) → P (front_event h) → ((path : List ℕ) → P (front_watch h path)) → front_act h front_ask.Wait ≡ Some a → P a
front_wait P h a event watch e = front_takes P h a event (λ path first. watch path) e

pub back_wait : (P : BackAct → Type 0) (h : Hypervisor) (who : BackMover) (a : BackAct) → P (back_event h) → ((path : List ℕ) → P (back_watch h path)) → wait_act h who ≡ Some a → P a
back_wait P h who a event watch e = back_takes P h who a event (λ path first. watch path) e

-- the front's acts leave the mappings as they are
pub made_front : (h : Hypervisor) (ask : FrontAsk) (a : FrontAct) → front_act h ask ≡ Some a → a.under.grants ≡ h.grants
made_front h ask a e = elim (front_acts h ask a e) as (λ asked x acts. x.under.grants ≡ h.grants) [ FrontFence ↦ refl | acts ↦ refl ]

-- the mappings that live are those that are held before an act and after it
pub held_after : (h : Hypervisor) (who : BackMover) (ask : BackAsk) (o : Outcome) (a : BackAct) (hands hands' : List Mapping) → AreHeld h.grants hands → back_act h who ask o ≡ Some a → HandsAfter ask a.answer hands hands' → AreHeld a.under.grants hands'
held_after h who ask o a hands hands' held e = elim (back_acts h who ask o a e) as (λ mover asked outcome x acts. HandsAfter asked x.answer hands hands' → AreHeld x.under.grants hands') [
  | BackMap gref mode frame is ↦ λ after. held_more h.grants (record { number = h.grants.made + 1; gref = gref; mode = mode }) frame hands hands' refl held after
  | BackUnmap m ↦ λ after. held_less h.grants m hands hands' held after
  | acts ↦ λ after. rw after held
]

-- an act makes at most one mapping
pub made_back : (h : Hypervisor) (who : BackMover) (ask : BackAsk) (o : Outcome) (a : BackAct) → back_act h who ask o ≡ Some a → a.under.grants.made ≤ h.grants.made + 1
made_back h who ask o a e = elim (back_acts h who ask o a e) as (λ mover asked outcome x acts. x.under.grants.made ≤ h.grants.made + 1) [ BackFence ↦ omega arith | acts ↦ omega arith ]
