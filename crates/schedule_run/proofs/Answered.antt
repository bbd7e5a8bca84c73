-- Each act's answer is one that the ask of an end allows, its negotiation's too.
use Rattle.std.proofs.Common.{◌≡◌, ℕ, List, Bool, true, false, if◌then◌else◌, Option, Some, None, refl, ap, sym, ◌∙◌, subst}
use Rattle.std.specs.Prelude.{decimal}
use Rattle.std.proofs.lemmas.Option.{none-some}
use Rattle.blk_base.specs.declared.ask.FrontAsk.{FrontAsk}
use Rattle.blk_base.specs.declared.ask.FrontAsk.TheVariants as front_asks
use Rattle.blk_base.specs.declared.ask.FrontAnswer.{FrontAnswer}
use Rattle.blk_base.specs.declared.ask.FrontAnswer.TheVariants as front_answer
use Rattle.blk_base.specs.declared.ask.BackAnswer.TheVariants as back_answer
use Rattle.blk_base.specs.declared.moves.Mover.TheVariants as mover
use Rattle.blk_base.specs.declared.moves.Move.TheVariants as moves
use Rattle.xenbus_state.specs.States.{state_number}
use Rattle.xenbus_state.specs.Keys.{front_name, back_name, path_under}
use Rattle.xenbus_state.specs.Values.{text_of}
use Rattle.blk_base.specs.declared.ask.BackAsk.{BackAsk}
use Rattle.blk_base.specs.declared.ask.BackAsk.TheVariants as back_asks
use Rattle.blk_base.specs.declared.ask.BackAnswer.{BackAnswer}
use Rattle.blk_base.specs.declared.parts.End.TheVariants as end
use Rattle.blk_base.specs.declared.moves.BackMover.TheVariants.{Back}
use Rattle.blk_base.specs.declared.moves.Move.{Move as Shown}
use Rattle.hypervisor.specs.Hypervisor.{Hypervisor}
use Rattle.std.proofs.lemmas.Option.{same_Some}
use Rattle.hypervisor.specs.Act.{FrontAct, BackAct, Outcome, front_shown, front_act, front_seen, back_act, back_seen, key_set, is_own_path, outcome_told}
use Rattle.xenbus_state.specs.declared.front.FrontBusAsk.{FrontBusAsk}
use Rattle.xenbus_state.specs.declared.front.FrontBusAsk.TheVariants as front_ask
use Rattle.xenbus_state.specs.declared.back.BackBusAsk.{BackBusAsk}
use Rattle.xenbus_state.specs.declared.back.BackBusAsk.TheVariants as back_ask
use Rattle.split_model.proofs.SafeActs.{of_front, of_back, front_wait, back_wait}
use Rattle.split_model.proofs.SafeAnswers.{front_answered, back_answered}
use Rattle.blk_front.specs.Ask as ring_front
use Rattle.blk_back.specs.Ask as ring_back
use Rattle.vbd_front.specs.View as front_view
use Rattle.vbd_front.specs.Ask as front
use Rattle.vbd_back.specs.View as back_view
use Rattle.vbd_back.specs.Ask as back

-- the front
where_front : (P : FrontAct → Type 0) (b : Bool) (x act : FrontAct) → P x → (if b then Some x else None) ≡ Some act → P act
where_front P true x act p e = of_front P x act p e
where_front P false x act p e = absurd (none-some act e)

abbrev AnswersFront : FrontAsk → FrontAct → Type 0
AnswersFront ask a = front.IsAnswer ask a.answer

waiting_front : (h : Hypervisor) (act : FrontAct) → front_act h front_asks.Wait ≡ Some act → AnswersFront front_asks.Wait act
waiting_front h act e = front_wait (AnswersFront front_asks.Wait) h act tt (λ path. tt) e

set_front : (h : Hypervisor) (path text : List ℕ) (act : FrontAct) → front_act h (front_asks.SetKey path text) ≡ Some act → AnswersFront (front_asks.SetKey path text) act
set_front h path text act e = where_front (AnswersFront (front_asks.SetKey path text)) (is_own_path end.Front path) (record { answer = front_answer.Done; under = key_set h path text; shown = moves.SetKey mover.Front path text }) act tt e

key_front : (h : Hypervisor) (a : FrontBusAsk) (act : FrontAct) → front_act h (front.key_ask a) ≡ Some act → AnswersFront (front.key_ask a) act
key_front h front_ask.Watch act e = of_front (AnswersFront (front.key_ask front_ask.Watch)) _ act tt e
key_front h front_ask.GetState act e = of_front (AnswersFront (front.key_ask front_ask.GetState)) _ act tt e
key_front h (front_ask.GetKey key) act e = of_front (AnswersFront (front.key_ask (front_ask.GetKey key))) _ act tt e
key_front h (front_ask.SetState s) act e = set_front h front.own_state (decimal (state_number s)) act e
key_front h (front_ask.SetKey key value) act e = set_front h (path_under end.Front (front_name key)) (text_of value) act e
key_front h a act e = waiting_front h act e

ring_too : (ask : FrontAsk) (a : FrontAnswer) → ring_front.IsAnswer ask a → front.IsAnswer ask a
ring_too (front_asks.GetKey path) a may = absurd may
ring_too (front_asks.SetKey path text) a may = absurd may
ring_too (front_asks.Watch path) a may = absurd may
ring_too ask a may = may

ring_front_answers : (b : Bool) (h : Hypervisor) (v : front_view.View) (act : FrontAct) → front_act h (front.ring_ask b v) ≡ Some act → AnswersFront (front.ring_ask b v) act
ring_front_answers true h v act e = ring_too (ring_front.ask_of v.ring) act.answer (front_answered h v.ring act e)
ring_front_answers false h v act e = waiting_front h act e

pub front_answers : (h : Hypervisor) (v : front_view.View) (act : FrontAct) → front_act h (front.ask_of v) ≡ Some act → front.IsAnswer (front.ask_of v) act.answer
front_answers h v act = by_test (front.speaks (front.bus_ask_of v))
  where
    a : FrontBusAsk
    a = front.bus_ask_of v

    by_test : (b : Bool) → front_act h (if b then front.key_ask a else front.ring_ask (front.ring_moves a v.ring.stage) v) ≡ Some act → front.IsAnswer (if b then front.key_ask a else front.ring_ask (front.ring_moves a v.ring.stage) v) act.answer
    by_test true e = key_front h a act e
    by_test false e = ring_front_answers (front.ring_moves a v.ring.stage) h v act e

front_seen_at : (act : Option FrontAct) (P : FrontAnswer → Type 0) (seen : FrontAnswer × Shown) → ((a : FrontAct) → act ≡ Some a → P a.answer) → Some seen ≡ front_seen act → P seen.0
front_seen_at None P seen all e = absurd (none-some seen (sym e))
front_seen_at (Some a) P seen all e = subst P (sym (ap (λ (s : FrontAnswer × Shown). s.0) (same_Some seen (a.answer, a.shown) e))) (all a refl)

-- what the frontend is told is an answer of its ask's kind
pub front_told : (h : Hypervisor) (v : front_view.View) (ask : FrontAsk) (answer : FrontAnswer) → ask ≡ front.ask_of v → Some (answer, front_shown ask answer) ≡ front_seen (front_act h ask) → front.IsAnswer (front.ask_of v) answer
front_told h v ask answer asked e =
    front_seen_at (front_act h ask) (front.IsAnswer (front.ask_of v)) (answer, front_shown ask answer) (λ a is. front_answers h v a (ap (front_act h) (sym asked) ∙ is)) e

-- the back
where_back : (P : BackAct → Type 0) (b : Bool) (x act : BackAct) → P x → (if b then Some x else None) ≡ Some act → P act
where_back P true x act p e = of_back P x act p e
where_back P false x act p e = absurd (none-some act e)

abbrev AnswersBack : BackAsk → BackAct → Type 0
AnswersBack ask a = back.IsAnswer ask a.answer

waiting_back : (h : Hypervisor) (o : Outcome) (act : BackAct) → back_act h Back back_asks.Wait o ≡ Some act → AnswersBack back_asks.Wait act
waiting_back h o act e = back_wait (AnswersBack back_asks.Wait) h Back act tt (λ path. tt) e

set_back : (h : Hypervisor) (path text : List ℕ) (o : Outcome) (act : BackAct) → back_act h Back (back_asks.SetKey path text) o ≡ Some act → AnswersBack (back_asks.SetKey path text) act
set_back h path text o act e = where_back (AnswersBack (back_asks.SetKey path text)) (is_own_path end.Back path) (record { answer = back_answer.Done; under = key_set h path text; shown = moves.SetKey mover.Back path text }) act tt e

key_back : (h : Hypervisor) (a : BackBusAsk) (o : Outcome) (act : BackAct) → back_act h Back (back.key_ask a) o ≡ Some act → AnswersBack (back.key_ask a) act
key_back h back_ask.Watch o act e = of_back (AnswersBack (back.key_ask back_ask.Watch)) _ act tt e
key_back h back_ask.GetState o act e = of_back (AnswersBack (back.key_ask back_ask.GetState)) _ act tt e
key_back h (back_ask.GetKey key) o act e = of_back (AnswersBack (back.key_ask (back_ask.GetKey key))) _ act tt e
key_back h (back_ask.SetState s) o act e = set_back h back.own_state (decimal (state_number s)) o act e
key_back h (back_ask.SetKey key value) o act e = set_back h (path_under end.Back (back_name key)) (text_of value) o act e
key_back h a o act e = waiting_back h o act e

ring_back_too : (ask : BackAsk) (a : BackAnswer) → ring_back.IsAnswer ask a → back.IsAnswer ask a
ring_back_too (back_asks.GetKey path) a may = absurd may
ring_back_too (back_asks.SetKey path text) a may = absurd may
ring_back_too (back_asks.Watch path) a may = absurd may
ring_back_too ask a may = may

ring_back_answers : (b : Bool) (h : Hypervisor) (v : back_view.View) (o : Outcome) (act : BackAct) → back_act h Back (back.ring_ask b v) o ≡ Some act → AnswersBack (back.ring_ask b v) act
ring_back_answers true h v o act e = ring_back_too (ring_back.ask_of v.ring) act.answer (back_answered h v.ring o act e)
ring_back_answers false h v o act e = waiting_back h o act e

pub back_answers : (h : Hypervisor) (v : back_view.View) (o : Outcome) (act : BackAct) → back_act h Back (back.ask_of v) o ≡ Some act → back.IsAnswer (back.ask_of v) act.answer
back_answers h v o act = by_test (back.bus_moves a v.ring.stage)
  where
    a : BackBusAsk
    a = back.bus_ask_of v

    by_test : (b : Bool) → back_act h Back (if b then back.key_ask a else back.ring_ask (back.ring_moves a v.ring.stage) v) o ≡ Some act → back.IsAnswer (if b then back.key_ask a else back.ring_ask (back.ring_moves a v.ring.stage) v) act.answer
    by_test true e = key_back h a o act e
    by_test false e = ring_back_answers (back.ring_moves a v.ring.stage) h v o act e

back_seen_at : (act : Option BackAct) (P : BackAnswer → Type 0) (seen : BackAnswer × Shown) → ((a : BackAct) → act ≡ Some a → P a.answer) → Some seen ≡ back_seen act → P seen.0
back_seen_at None P seen all e = absurd (none-some seen (sym e))
back_seen_at (Some a) P seen all e = subst P (sym (ap (λ (s : BackAnswer × Shown). s.0) (same_Some seen (a.answer, a.shown) e))) (all a refl)

-- what the backend is told is an answer that its ask allows
pub back_told : (h : Hypervisor) (v : back_view.View) (ask : BackAsk) (seen : BackAnswer × Shown) → ask ≡ back.ask_of v → Some seen ≡ back_seen (back_act h Back ask (outcome_told seen.0)) → back.IsAnswer (back.ask_of v) seen.0
back_told h v ask seen asked e =
    back_seen_at (back_act h Back ask (outcome_told seen.0)) (back.IsAnswer (back.ask_of v)) seen (λ a is. back_answers h v (outcome_told seen.0) a (ap (λ (x : BackAsk). back_act h Back x (outcome_told seen.0)) (sym asked) ∙ is)) e
