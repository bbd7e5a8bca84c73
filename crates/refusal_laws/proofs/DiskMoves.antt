-- A move of the back keeps what its keys say of its disk with its negotiation.
use Rattle.std.proofs.Common.{inl, inr, ◌≡◌, ◌∙◌, ap, sym, subst, ℕ, ◌≤◌, Bool, true, false, true≢false, ◌&&◌, if◌then◌else◌, List, [], ◌∷◌, map, refl, arith, decimal}
use Rattle.std.specs.Prelude.{Option, Some, None}
use Rattle.line_text.proofs.Both.{both_true}
use Rattle.blk_base.specs.declared.parts.End.TheVariants as end
use Rattle.blk_base.specs.declared.ask.BackAnswer.{BackAnswer}
use Rattle.blk_base.specs.declared.ask.BackAnswer.TheVariants as answer
use Rattle.key_directory.specs.Directory.{Directory, written}
use Rattle.hypervisor.specs.Act.{BackAct}
use Rattle.blk_back.specs.declared.stage.BackStage.{BackStage}
use Rattle.blk_back.specs.Ask.{is_led}
use Rattle.xenbus_state.specs.declared.keys.BackKey.{BackKey}
use Rattle.xenbus_state.specs.declared.keys.BackKey.TheVariants as key
use Rattle.xenbus_state.specs.declared.offer.Features.{Features}
use Rattle.xenbus_state.specs.declared.offer.DiskFacts.{DiskFacts}
use Rattle.xenbus_state.specs.declared.state.BusState.{BusState}
use Rattle.xenbus_state.specs.declared.state.BusState.TheVariants as state
use Rattle.xenbus_state.specs.declared.stage.BackBusStage.{BackBusStage}
use Rattle.xenbus_state.specs.declared.stage.BackBusStage.TheVariants as stage
use Rattle.xenbus_state.specs.declared.back.BackBusAsk.{BackBusAsk}
use Rattle.xenbus_state.specs.declared.back.BackBusAsk.TheVariants as back_ask
use Rattle.xenbus_state.specs.Keys.{back_name, path_under}
use Rattle.xenbus_state.specs.States.{state_number}
use Rattle.xenbus_state.specs.Values.{text_of, back_value}
use Rattle.xenbus_state.specs.Programs.{IsFeature, IsFact, next_feature, next_fact}
use Rattle.xenbus_state.specs.BackView.{BackView}
use Rattle.xenbus_state.specs.BackAsk.{says_closing_at, says_closing, ask_at, IsAnswer}
use Rattle.xenbus_state.specs.BackStep.{at, after_state, after_feature, after_fact, step_at, step_of}
use Rattle.negotiation_laws.specs.Negotiation.{back_state}
use Rattle.split_model.specs.Keys.{Sets, is_between, is_early, negotiated}
use Rattle.vbd_back.specs.Ask as back
use Rattle.vbd_back.specs.Step as back_step
use Rattle.vbd_model.specs.World.{World}
use Rattle.vbd_model.specs.Happening.{back_key}
use Rattle.vbd_model.specs.Fit.{BackGoesWith, IsFit}
use Rattle.vbd_laws.proofs.FitBackBus.{told_at}
use Rattle.vbd_laws.proofs.KeysSet.{back_may_set, back_state_set, may_turn, back_turns}
use Rattle.vbd_laws.proofs.MovesTurns.{back_asks}
use Rattle.refusal_laws.proofs.DiskKeys.{Same, IsDiskSaid, IsWhole, FactsAt, is_telling, whole_of, facts_of, set_says, set_said, feature_whole, set_own, state_own, state_texts, state_whole}
use Rattle.refusal_laws.proofs.DiskBack.{is_busy, busy_still, busy_quiet, told_kept, not_closing_at, asks_at, settled_kept}
use Rattle.refusal_laws.proofs.DiskSaid.{GoesWith, IsLate, Next, Goes, still_next, asks_same, keys_then, wrote, state_settles, fact_settles, feature_settles, closing_settles, state_done}
use Rattle.vbd_laws.proofs.FitBack.{told_done}

module _ (f : Features) (e : DiskFacts) where
  feature_next : (d : Directory) (k : BackKey) → IsFeature k → IsWhole f e d → FactsAt f e d (after_feature (next_feature k))
  feature_next d key.MaxRingPageOrder is whole = whole
  feature_next d key.Sectors is whole = absurd is
  feature_next d key.SectorSize is whole = absurd is
  feature_next d key.Info is whole = absurd is
  feature_next d other is whole = (tt, whole)

  fact_next : (d : Directory) (k : BackKey) → IsFact k → FactsAt f e d (stage.PublishFact k) → FactsAt f e (written d (path_under end.Back (back_name k)) (text_of (back_value f e k))) (after_fact (next_fact k))
  fact_next d key.Sectors is facts = set_said f e d key.Sectors
  fact_next d key.SectorSize is facts = set_says f e d key.SectorSize key.Sectors facts
  fact_next d key.Info is facts = record { sectors = set_says f e d key.Info key.Sectors facts; info = set_said f e d key.Info }
  fact_next d k is facts = absurd is

  state_next : (d : Directory) (s : BusState) (text : List ℕ) → FactsAt f e d (stage.WriteState s) → FactsAt f e (written d back_state text) (after_state s)
  state_next d state.Connected text said = inr (record { sectors = state_texts d text f e key.Sectors said.sectors; info = state_texts d text f e key.Info said.info })
  state_next d s text whole = state_whole d text f e whole

-- what is said stays said
state_says : (d : Directory) (text : List ℕ) (f : Features) (e : DiskFacts) → IsDiskSaid f e d → IsDiskSaid f e (written d back_state text)
state_says d text f e said = record { sectors = state_texts d text f e key.Sectors said.sectors; info = state_texts d text f e key.Info said.info }

key_says : (d : Directory) (k : BackKey) (f : Features) (e : DiskFacts) → IsDiskSaid f e d → IsDiskSaid f e (written d (path_under end.Back (back_name k)) (text_of (back_value f e k)))
key_says d k f e said = record { sectors = set_says f e d k key.Sectors said.sectors; info = set_says f e d k key.Info said.info }

-- a state that it writes is a later one
late_state : (s own : BusState) (r : BackStage) → BackGoesWith (stage.WriteState s) own r → IsLate own → IsLate s
late_state state.InitWait own r goes late = absurd (let first : state_number own ≡ 1 = ap state_number goes.0 in omega arith)
late_state state.Connected own r goes late = omega arith
late_state state.Closing own r goes late = omega arith
late_state state.Closed own r goes late = omega arith
late_state s own r goes late = absurd goes

-- so one that was connected publishes nothing
pub late_quiet : (b : BackBusStage) (own : BusState) (r : BackStage) → BackGoesWith b own r → IsLate own → is_telling b ≡ false
late_quiet (stage.Publish k) own r goes late = absurd (let first : state_number own ≡ 1 = ap state_number goes.0 in omega arith)
late_quiet (stage.PublishFact k) own r goes late = absurd (let second : state_number own ≡ 2 = ap state_number goes.0 in omega arith)
late_quiet (stage.WriteState state.Connected) own r goes late = absurd (let second : state_number own ≡ 2 = ap state_number goes.0 in omega arith)
late_quiet b own r goes late = refl

module _ (w : World) (a : BackAct) (r : BackStage) (fit : IsFit w) (g : Goes w) (moves : back.bus_moves (back_asks w) w.rings.back.stage ≡ true) (allowed : IsAnswer (back_asks w) a.answer) where
  abbrev d : Directory
  d = w.rings.under.keys

  abbrev v : BackView
  v = w.back

  goes_at : (b : BackBusStage) → v.stage ≡ b → BackGoesWith b v.state w.rings.back.stage
  goes_at b here = subst (λ (c : BackBusStage). BackGoesWith c v.state w.rings.back.stage) here fit.back

  facts_at : (b : BackBusStage) → v.stage ≡ b → FactsAt v.features v.disk d b
  facts_at b here = subst (λ (c : BackBusStage). FactsAt v.features v.disk d c) here g.facts

  between : is_between w.rings.back.stage ≡ true
  between = back_turns (back_asks w) w.rings.back.stage moves

  -- what it became, once its answer is known
  became : (b : BackBusStage) → v.stage ≡ b → says_closing v ≡ false → a.answer ≡ answer.Done → step_of v a.answer ≡ step_at b v answer.Done
  became b here on done = told_at v a.answer on ∙ (ap (λ (c : BackBusStage). step_at c v a.answer) here ∙ ap (λ (x : BackAnswer). step_at b v x) done)

  closing : says_closing v ≡ true → Next w (keys_then w) (back_step.settled r (step_of v a.answer))
  closing is =
      let ends = closing_settles v.stage v.state r (record v { state = state.Closing }) (both_true v.unplugged (says_closing_at v.stage v.state) is).1 in
      let asks : back_asks w ≡ back_ask.SetState state.Closing = ap (λ (c : Bool). if c then back_ask.SetState state.Closing else ask_at v.stage v) is in
      let keys : keys_then w ≡ written d back_state (decimal (state_number state.Closing)) =
      wrote w.rings.back.stage (back_asks w) back_state (decimal (state_number state.Closing)) d (ap back_key asks) (may_turn (back_key (back_ask.SetState state.Closing)) w.rings.back.stage between (λ early. absurd (true≢false (sym early)))) (back_state_set (decimal (state_number state.Closing))) in
      let told : step_of v a.answer ≡ record v { state = state.Closing } = ap (λ (c : Bool). if c then record v { state = state.Closing } else step_at v.stage v a.answer) is in
      let after : back_step.settled r (step_of v a.answer) ≡ record v { state = state.Closing } = ap (back_step.settled r) told ∙ ends.1 in
      subst (λ (x : Directory). Next w x (back_step.settled r (step_of v a.answer))) (sym keys)
      (subst (λ (u : BackView). Next w (written d back_state (decimal (state_number state.Closing))) u) (sym after) (record {
        goes = record {
          facts = facts_of v.features v.disk (written d back_state (decimal (state_number state.Closing))) v.stage (busy_still v.stage ends.0) (state_whole d (decimal (state_number state.Closing)) v.features v.disk (whole_of v.features v.disk d v.stage (busy_quiet v.stage ends.0) g.facts));
          own = state_own d state.Closing;
        };
        later = λ late. omega arith;
        says = state_says d (decimal (state_number state.Closing)) v.features v.disk;
      }))

  publishes : (k : BackKey) → v.stage ≡ stage.Publish k → Next w (keys_then w) (back_step.settled r (step_of v a.answer))
  publishes k here =
      let on = not_closing_at v (stage.Publish k) here (λ own. refl) in
      let asks = asks_at v (stage.Publish k) here on in
      let facts = facts_at (stage.Publish k) here in
      let keys : keys_then w ≡ written d (path_under end.Back (back_name k)) (text_of (back_value v.features v.disk k)) =
      wrote w.rings.back.stage (back_asks w) _ _ d (ap back_key asks) (may_turn (back_key (ask_at (stage.Publish k) v)) w.rings.back.stage between (λ early. ap is_led (goes_at (stage.Publish k) here).1)) (back_may_set v k fit.offers) in
      let told = became (stage.Publish k) here on (told_done k (back_value v.features v.disk k) a.answer (subst (λ (b : BackBusAsk). IsAnswer b a.answer) asks allowed)) in
      let after : back_step.settled r (step_of v a.answer) ≡ at (after_feature (next_feature k)) v = ap (back_step.settled r) told ∙ feature_settles (next_feature k) r (at (after_feature (next_feature k)) v) refl in
      subst (λ (x : Directory). Next w x (back_step.settled r (step_of v a.answer))) (sym keys)
      (subst (λ (u : BackView). Next w (written d (path_under end.Back (back_name k)) (text_of (back_value v.features v.disk k))) u) (sym after) (record {
        goes = record { facts = feature_next v.features v.disk _ k facts.0 (feature_whole v.features v.disk d k facts.0 facts.1); own = set_own d k _ v.state g.own };
        later = λ late. late;
        says = key_says d k v.features v.disk;
      }))

  publishes_fact : (k : BackKey) → v.stage ≡ stage.PublishFact k → Next w (keys_then w) (back_step.settled r (step_of v a.answer))
  publishes_fact k here =
      let on = not_closing_at v (stage.PublishFact k) here (λ own. refl) in
      let asks = asks_at v (stage.PublishFact k) here on in
      let goes = goes_at (stage.PublishFact k) here in
      let keys : keys_then w ≡ written d (path_under end.Back (back_name k)) (text_of (back_value v.features v.disk k)) =
      wrote w.rings.back.stage (back_asks w) _ _ d (ap back_key asks) (may_turn (back_key (ask_at (stage.PublishFact k) v)) w.rings.back.stage between (λ early. absurd (true≢false (sym early ∙ fact_late k goes.2)))) (back_may_set v k fit.offers) in
      let told = became (stage.PublishFact k) here on (told_done k (back_value v.features v.disk k) a.answer (subst (λ (b : BackBusAsk). IsAnswer b a.answer) asks allowed)) in
      let after : back_step.settled r (step_of v a.answer) ≡ at (after_fact (next_fact k)) v = ap (back_step.settled r) told ∙ fact_settles (next_fact k) r (at (after_fact (next_fact k)) v) refl in
      subst (λ (x : Directory). Next w x (back_step.settled r (step_of v a.answer))) (sym keys)
      (subst (λ (u : BackView). Next w (written d (path_under end.Back (back_name k)) (text_of (back_value v.features v.disk k))) u) (sym after) (record {
        goes = record { facts = fact_next v.features v.disk d k goes.2 (facts_at (stage.PublishFact k) here); own = set_own d k _ v.state g.own };
        later = λ late. late;
        says = key_says d k v.features v.disk;
      }))
    where
      fact_late : (k : BackKey) → IsFact k → is_early (Sets (path_under end.Back (back_name k)) (text_of (back_value v.features v.disk k))) ≡ false
      fact_late key.Sectors is = refl
      fact_late key.SectorSize is = refl
      fact_late key.Info is = refl
      fact_late k is = absurd is

  writes : (s : BusState) → v.stage ≡ stage.WriteState s → Next w (keys_then w) (back_step.settled r (step_of v a.answer))
  writes s here =
      let on = not_closing_at v (stage.WriteState s) here (λ own. refl) in
      let asks = asks_at v (stage.WriteState s) here on in
      let keys : keys_then w ≡ written d back_state (decimal (state_number s)) =
      wrote w.rings.back.stage (back_asks w) back_state (decimal (state_number s)) d (ap back_key asks) (may_turn (back_key (back_ask.SetState s)) w.rings.back.stage between (λ early. absurd (true≢false (sym early)))) (back_state_set (decimal (state_number s))) in
      let told = became (stage.WriteState s) here on (state_done s a.answer (subst (λ (b : BackBusAsk). IsAnswer b a.answer) asks allowed)) in
      let after : back_step.settled r (step_of v a.answer) ≡ record v { state = s; stage = after_state s } = ap (back_step.settled r) told ∙ state_settles s r (record v { state = s; stage = after_state s }) refl in
      subst (λ (x : Directory). Next w x (back_step.settled r (step_of v a.answer))) (sym keys)
      (subst (λ (u : BackView). Next w (written d back_state (decimal (state_number s))) u) (sym after) (record {
        goes = record { facts = state_next v.features v.disk d s (decimal (state_number s)) (facts_at (stage.WriteState s) here); own = state_own d s };
        later = late_state s v.state w.rings.back.stage (goes_at (stage.WriteState s) here);
        says = state_says d (decimal (state_number s)) v.features v.disk;
      }))

  pub says_next : Next w (keys_then w) (back_step.settled r (step_of v a.answer))
  says_next = by_test (says_closing v) refl
    where
      other : (b : BackBusStage) → v.stage ≡ b → is_busy b ≡ false → says_closing v ≡ false → Next w (keys_then w) (back_step.settled r (step_of v a.answer))
      other b here free on =
          let none : is_busy v.stage ≡ false = ap is_busy here ∙ free in
          still_next w (keys_then w) _ g none (settled_kept r v _ (told_kept v a.answer on none))
          (subst (λ (c : BackBusAsk). Same d (negotiated w.rings.back.stage end.Back (back_key c) d)) (sym (asks_at v b here on)) (asks_same w.rings.back.stage d b v free))

      by_stage : (b : BackBusStage) → v.stage ≡ b → says_closing v ≡ false → Next w (keys_then w) (back_step.settled r (step_of v a.answer))
      by_stage (stage.Publish k) here on = publishes k here
      by_stage (stage.PublishFact k) here on = publishes_fact k here
      by_stage (stage.WriteState s) here on = writes s here
      by_stage b here on = other b here refl on

      by_test : (c : Bool) → says_closing v ≡ c → Next w (keys_then w) (back_step.settled r (step_of v a.answer))
      by_test true is = closing is
      by_test false on = by_stage v.stage refl on
