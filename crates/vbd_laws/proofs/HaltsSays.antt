-- The back's negotiation speaks: what is known after it, and its halt.
use Rattle.std.proofs.Common.{◌≡◌, ℕ, ◌≤◌, ◌^◌, Bool, true, false, true≢false, if◌then◌else◌, List, refl, sym, ap, ◌∙◌, subst, decimal, arith}
use Rattle.std.specs.Prelude.{Option, Some, None}
use Rattle.std.proofs.Math.Pow.{pow_mono}
use Rattle.blk_base.specs.declared.parts.End.TheVariants as end
use Rattle.blk_base.specs.declared.ask.BackAsk.TheVariants as back_ask
use Rattle.blk_base.specs.declared.ask.BackAnswer.TheVariants as answer
use Rattle.blk_base.specs.declared.moves.BackMover.TheVariants as back_mover
use Rattle.blk_base.specs.declared.moves.Move.TheVariants as moves
use Rattle.blk_base.specs.declared.moves.Mover.TheVariants as mover
use Rattle.schedule_text.specs.declared.line.Line.TheVariants as lines
use Rattle.hypervisor.specs.Hypervisor.{Hypervisor}
use Rattle.hypervisor.specs.Act.{BackAct, Took, back_act, key_at, key_set, is_own_path}
use Rattle.xenbus_state.specs.declared.keys.FrontKey.{FrontKey}
use Rattle.xenbus_state.specs.declared.keys.FrontKey.TheVariants as key
use Rattle.xenbus_state.specs.declared.keys.BackKey.{BackKey}
use Rattle.xenbus_state.specs.declared.state.BusState.TheVariants as state
use Rattle.xenbus_state.specs.declared.stage.BackBusStage.{BackBusStage}
use Rattle.xenbus_state.specs.declared.stage.BackBusStage.TheVariants as stage
use Rattle.xenbus_state.specs.declared.back.BackBusAsk.TheVariants as ask
use Rattle.xenbus_state.specs.declared.table.BackHalt.{BackHalt}
use Rattle.xenbus_state.specs.States.{state_number, state_read}
use Rattle.xenbus_state.specs.Tables.{back_action}
use Rattle.xenbus_state.specs.Keys.{back_name, path_under}
use Rattle.xenbus_state.specs.Values.{text_of, back_value}
use Rattle.xenbus_state.specs.Programs.{next_feature, next_fact}
use Rattle.xenbus_state.specs.BackSound.{IsSound, IsPlaced}
use Rattle.xenbus_state.specs.BackView.{BackView, is_halting}
use Rattle.xenbus_state.specs.BackAsk.{says_closing, ask_at, ask_of}
use Rattle.xenbus_state.specs.BackStep.{action_halt, after_feature, after_fact, step_at, step_of, halt_at, halt_of}
use Rattle.split_model.proofs.SafeActs.{of_back, back_test}
use Rattle.vbd_back.specs.Ask as back
use Rattle.negotiation_laws.specs.Negotiation.{front_path}
use Rattle.vbd_laws.specs.Halts.{BackSight, with_set, told, is_work}
use Rattle.vbd_laws.proofs.HaltsKeys.{IsReadKey}
use Rattle.vbd_laws.proofs.HaltsKnown.{Knows, Keeps, known_kept, goes_to, acted_keeps, key_known, state_known, says_known, set_other, speaks_none}
use Rattle.vbd_laws.proofs.HaltsDue.{IsWordedReason, Due, none_due, state_due, state_word, key_due}

-- what its negotiation does as it speaks: what is known after it, that it halts where that is due, and that it reads no key once it has halted
pub record Says (asked : Bool) (k : BackSight) (v : BackView) (a : BackAct) (u : BackView) (reason : Option BackHalt) : Type 0 where
  pub known : Knows asked (told k (lines.Move a.shown)) u
  pub due : Due asked k a.shown reason
  pub rests : is_halting v.stage ≡ true → is_work (lines.Move a.shown) ≡ false
  pub ends : is_halting v.stage ≡ true → reason ≡ None

set_acts : (P : BackAct → Type 0) (h : Hypervisor) (path text : List ℕ) (a : BackAct) → P (record { answer = answer.Done; under = key_set h path text; shown = moves.SetKey mover.Back path text })
    → back_act h back_mover.Back (back_ask.SetKey path text) Took ≡ Some a → P a
set_acts P h path text a holds e = back_test P (is_own_path end.Back path) (record { answer = answer.Done; under = key_set h path text; shown = moves.SetKey mover.Back path text }) a holds e

abbrev SaysAt : (asked : Bool) → BackSight → BackBusStage → BackView → BackAct → Type 0
SaysAt asked k s v a = Says asked k v a (step_at s v a.answer) (halt_at s v a.answer)

sets_known : (asked : Bool) (k : BackSight) (own : BackKey) (text : List ℕ) (v u : BackView) → Knows asked k v → Keeps v u → Knows asked (with_set k (path_under end.Back (back_name own)) text) u
sets_known asked k own text v u has keeps = subst (λ (known : BackSight). Knows asked known u) (sym (set_other k own text)) (known_kept asked k v u has keeps)

-- a ring has at most 16 pages
read_is : (k : FrontKey) (v : BackView) → v.terms.order ≤ 4 → IsPlaced (stage.ReadKey k) v → IsReadKey k
read_is (key.RingRefOf page) v few placed = let less : 2 ^ v.terms.order ≤ 2 ^ 4 = pow_mono few in let within = placed.2.1 in omega arith
read_is other v few placed = tt

says_at : (asked : Bool) (k : BackSight) (s : BackBusStage) (v : BackView) (h : Hypervisor) (a : BackAct) → v.stage ≡ s → v.terms.order ≤ 4 → IsPlaced s v → Knows asked k v → back.speaks (ask_at s v) ≡ true
    → back_act h back_mover.Back (back.key_ask (ask_at s v)) Took ≡ Some a → SaysAt asked k s v a
says_at asked k (stage.Publish own) v h a here few placed has says e =
    set_acts (SaysAt asked k (stage.Publish own) v) h (path_under end.Back (back_name own)) (text_of (back_value v.features v.disk own)) a (record {
      known = sets_known asked k own (text_of (back_value v.features v.disk own)) v _ has (goes_to v (stage.Publish own) (after_feature (next_feature own)) here refl);
      due = none_due asked k _ refl;
      rests = λ halts. refl;
      ends = λ halts. refl;
    }) e
says_at asked k (stage.WriteState s) v h a here few placed has says e =
    set_acts (SaysAt asked k (stage.WriteState s) v) h back.own_state (decimal (state_number s)) a (record { known = state_known asked k s v here placed has; due = none_due asked k _ refl; rests = λ halts. refl; ends = λ halts. refl }) e
says_at asked k stage.Watch v h a here few placed has says e =
    of_back (SaysAt asked k stage.Watch v) _ a (record { known = known_kept asked k v _ has (goes_to v stage.Watch stage.Rest here refl); due = none_due asked k _ refl; rests = λ halts. refl; ends = λ halts. refl }) e
says_at asked k stage.ReadState v h a here few placed has says e =
    let text : Option (List ℕ) = key_at h back.other_state in
    let running : is_halting v.stage ≡ false = ap is_halting here in
    of_back (SaysAt asked k stage.ReadState v) _ a (record {
      known = known_kept asked k v _ has (acted_keeps (back_action v.state v.unplugged (state_read text)) v here);
      due = record {
        due = state_due v.state v.unplugged k.connected (state_read text) (has.connected running);
        word = subst (λ (b : Bool). IsWordedReason b (action_halt (back_action v.state v.unplugged (state_read text)))) (sym (has.closing running)) (state_word v.state v.unplugged (state_read text));
      };
      rests = λ halts. absurd (true≢false (sym halts ∙ running));
      ends = λ halts. absurd (true≢false (sym halts ∙ running));
    }) e
says_at asked k (stage.ReadKey read) v h a here few placed has says e =
    let text : Option (List ℕ) = key_at h (front_path read) in
    let running : is_halting v.stage ≡ false = ap is_halting here in
    of_back (SaysAt asked k (stage.ReadKey read) v) _ a (record {
      known = key_known asked k read text v here has;
      due = key_due asked k read text v has.order (read_is read v few placed);
      rests = λ halts. absurd (true≢false (sym halts ∙ running));
      ends = λ halts. absurd (true≢false (sym halts ∙ running));
    }) e
says_at asked k (stage.PublishFact own) v h a here few placed has says e =
    set_acts (SaysAt asked k (stage.PublishFact own) v) h (path_under end.Back (back_name own)) (text_of (back_value v.features v.disk own)) a (record {
      known = sets_known asked k own (text_of (back_value v.features v.disk own)) v _ has (goes_to v (stage.PublishFact own) (after_fact (next_fact own)) here refl);
      due = none_due asked k _ refl;
      rests = λ halts. refl;
      ends = λ halts. refl;
    }) e
says_at asked k stage.UnmapPage v h a here few placed has says e = absurd (true≢false (sym says ∙ speaks_none v.pages))
says_at asked k s v h a here few placed has says e = absurd (true≢false (sym says))

pub says : (asked : Bool) (k : BackSight) (v : BackView) (h : Hypervisor) (a : BackAct) → IsSound v → Knows asked k v → back.speaks (ask_of v) ≡ true
    → back_act h back_mover.Back (back.key_ask (ask_of v)) Took ≡ Some a → Says asked k v a (step_of v a.answer) (halt_of v a.answer)
says asked k v h a sound has speaks e = by_test (says_closing v) refl speaks e
  where
    by_test : (b : Bool) → says_closing v ≡ b → back.speaks (if b then ask.SetState state.Closing else ask_at v.stage v) ≡ true
        → back_act h back_mover.Back (back.key_ask (if b then ask.SetState state.Closing else ask_at v.stage v)) Took ≡ Some a
        → Says asked k v a (if b then record v { state = state.Closing } else step_at v.stage v a.answer) (if b then None else halt_at v.stage v a.answer)
    by_test true says speaks e =
        set_acts (λ (x : BackAct). Says asked k v x (record v { state = state.Closing }) None) h back.own_state (decimal (state_number state.Closing)) a
        (record { known = says_known asked k v says has; due = none_due asked k _ refl; rests = λ halts. refl; ends = λ halts. refl }) e
    by_test false says speaks e = says_at asked k v.stage v h a refl sound.order sound.placed has speaks e
