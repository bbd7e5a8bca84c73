-- What is true of the back's negotiation through all that it is told, and a halt, is true after its move: so are its offer and its disk, that it has published its features, and that it has halted.
use Rattle.std.proofs.Common.{◌≡◌, ◌∙◌, ap, sym, subst, Bool, true, false, true≢false, ◌+◌, if◌then◌else◌, List, [], ◌∷◌, inl, inr, refl}
use Rattle.std.specs.Prelude.{Option, Some, None, nat_lt, length, ◌⊎◌}
use Rattle.blk_base.specs.declared.parts.Mapping.{Mapping}
use Rattle.blk_base.specs.declared.ask.BackAnswer.{BackAnswer}
use Rattle.blk_base.specs.declared.ask.BackAnswer.TheVariants as answer
use Rattle.blk_base.specs.declared.halt.Halt.{Halt}
use Rattle.blk_back.specs.declared.stage.BackStage.{BackStage}
use Rattle.blk_back.specs.declared.stage.BackStage.TheVariants as ring
use Rattle.xenbus_state.specs.declared.keys.FrontKey.{FrontKey}
use Rattle.xenbus_state.specs.declared.keys.FrontKey.TheVariants as key
use Rattle.xenbus_state.specs.declared.state.BusState.{BusState}
use Rattle.xenbus_state.specs.declared.state.BusState.TheVariants as state
use Rattle.xenbus_state.specs.declared.offer.Features.{Features}
use Rattle.xenbus_state.specs.declared.offer.DiskFacts.{DiskFacts}
use Rattle.xenbus_state.specs.declared.stage.BackBusStage.{BackBusStage}
use Rattle.xenbus_state.specs.declared.stage.BackBusStage.TheVariants as stage
use Rattle.xenbus_state.specs.declared.table.BackAction.{BackAction}
use Rattle.xenbus_state.specs.declared.table.BackAction.TheVariants as action
use Rattle.xenbus_state.specs.declared.back.BackBusAsk.{BackBusAsk}
use Rattle.xenbus_state.specs.declared.back.BackBusAsk.TheVariants as back_ask
use Rattle.xenbus_state.specs.States.{state_read}
use Rattle.xenbus_state.specs.Tables.{back_action}
use Rattle.xenbus_state.specs.Programs.{next_fact}
use Rattle.xenbus_state.specs.BackView.{BackView, is_halting, halted, stopped, unplugged}
use Rattle.xenbus_state.specs.BackAsk.{says_closing}
use Rattle.xenbus_state.specs.BackStep.{acted, kept_or_halted, after_state, unmapping_next, other_pages, after_fact, step_at, step_of}
use Rattle.vbd_back.specs.View.{View}
use Rattle.vbd_back.specs.Ask as back
use Rattle.vbd_back.specs.Step as back_step
use Rattle.negotiation_laws.proofs.Choices.{either, unplugged_cases}
use Rattle.vbd_laws.proofs.FitBackBus.{IsEarly, Follows, reads_key}

-- what the negotiation becomes in a move of the back: what it is told, and a halt, keep this
module _ (P : BackView → Type 0) (told : (v : BackView) (a : BackAnswer) → P v → P (step_of v a)) (stops : (v : BackView) → P v → P (stopped v)) where
  pub settled_is : (s : BackBusStage) (r : BackStage) (v : BackView) → P v → P (back_step.settled_at s r v)
  settled_is stage.UnmapOthers (ring.Abort m) v p = p
  settled_is stage.UnmapOthers r v p = told v answer.Done p
  settled_is s r v p = p

  halted_is : (why : Option Halt) (v : BackView) → P v → P (back_step.bus_halted why v)
  halted_is None v p = p
  halted_is (Some why) v p = stops v p

  woken_is : (v : BackView) (a : BackAnswer) → P v → P (back_step.woken v a)
  woken_is v (answer.Watched path) p = told v (answer.Watched path) p
  woken_is v a p = p

  followed_is : (b : BackBusAsk) (v : BackView) (a : BackAnswer) → P v → P (back_step.followed b v a)
  followed_is (back_ask.Map gref) v a p = told v a p
  followed_is (back_ask.Bind port) v a p = told v a p
  followed_is (back_ask.Unmap m) v a p = told v answer.Done p
  followed_is back_ask.ClosePort v a p = told v a p
  followed_is back_ask.Wait v a p = woken_is v a p
  followed_is b v a p = p

  waited_is : (b : BackBusAsk) (v : BackView) (a : BackAnswer) → P v → P (back_step.waited b v a)
  waited_is back_ask.Wait v a p = woken_is v a p
  waited_is b v a p = p

  pub ring_is : (moves : Bool) (b : BackBusAsk) (x : View) (a : BackAnswer) → P x.bus → (let y : View = back_step.ring_step moves b x a in P y.bus)
  ring_is true b x a p = settled_is _ _ _ (halted_is _ _ (followed_is b x.bus a p))
  ring_is false b x a p = waited_is b x.bus a p

  pub spoken_is : (x : View) (a : BackAnswer) → P x.bus → (let y : View = back_step.spoken x a in P y.bus)
  spoken_is x a p = settled_is _ _ _ (told x.bus a p)

  pub step_is : (x : View) (a : BackAnswer) → P x.bus → (let y : View = back_step.step_of x a in P y.bus)
  step_is x a p = by_test (back.bus_moves (back.bus_ask_of x) x.ring.stage) (back.bus_ask_of x)
    where
      by_test : (moves : Bool) (b : BackBusAsk) → (let y : View = if moves then back_step.spoken x a else back_step.ring_step (back.ring_moves b x.ring.stage) b x a in P y.bus)
      by_test true b = spoken_is x a p
      by_test false b = ring_is (back.ring_moves b x.ring.stage) b x a p

-- what the back offers, and what its disk is
abbrev pub Facts : Type 0
Facts = Features × DiskFacts

abbrev pub facts_in : BackView → Facts
facts_in v = (v.features, v.disk)

abbrev HasFacts : Facts → BackView → Type 0
HasFacts t v = facts_in v ≡ t

facts_acted : (t : Facts) (act : BackAction) (v : BackView) → HasFacts t v → HasFacts t (acted act v)
facts_acted t action.Nothing v is = is
facts_acted t other v is = is

facts_at : (t : Facts) (b : BackBusStage) (v : BackView) (x : BackAnswer) → HasFacts t v → HasFacts t (step_at b v x)
facts_at t (stage.Publish k) v answer.Done is = is
facts_at t (stage.WriteState s) v answer.Done is = is
facts_at t stage.Watch v answer.Done is = is
facts_at t stage.Rest v (answer.Watched path) is = is
facts_at t stage.ReadState v (answer.Key text) is = facts_acted t (back_action v.state v.unplugged (state_read text)) v is
facts_at t (stage.ReadKey k) v (answer.Key text) is = reads_key (λ (o : Option BackView). HasFacts t (kept_or_halted o v)) k text v (λ u reads. ap (λ (f : Features). (f, u.disk)) reads.features ∙ (ap (λ (d : DiskFacts). (v.features, d)) reads.disk ∙ is)) is
facts_at t stage.MapPage v (answer.Mapped page) is = is
facts_at t stage.MapPage v (answer.MapRefused status) is = is
facts_at t stage.Bind v answer.Done is = is
facts_at t stage.Bind v answer.BindRefused is = is
facts_at t (stage.PublishFact k) v answer.Done is = is
facts_at t stage.UnmapOthers v answer.Done is = is
facts_at t stage.UnmapPage v answer.Done is = is
facts_at t stage.ClosePort v answer.Done is = is
facts_at t b v x is = is

facts_told : (t : Facts) (v : BackView) (x : BackAnswer) → HasFacts t v → HasFacts t (step_of v x)
facts_told t v x is = either (HasFacts t) (says_closing v) (record v { state = state.Closing }) (step_at v.stage v x) is (facts_at t v.stage v x is)

facts_stopped : (t : Facts) (v : BackView) → HasFacts t v → HasFacts t (stopped v)
facts_stopped t v is = either (HasFacts t) (is_halting v.stage) v (halted v) is is

-- it publishes its features
abbrev pub is_publishing : BackBusStage → Bool
is_publishing (stage.Publish k) = true
is_publishing b = false

abbrev IsPast : BackView → Type 0
IsPast v = is_publishing v.stage ≡ false

past_state : (s : BusState) → is_publishing (after_state s) ≡ false
past_state state.InitWait = refl
past_state s = refl

past_up : (pages : List Mapping) (bound : Bool) (own : BusState) → is_publishing (unmapping_next pages bound own) ≡ false
past_up (page ∷ pages) bound own = refl
past_up [] true own = refl
past_up [] false own = refl

past_acted : (act : BackAction) (v : BackView) → IsPast (acted act v)
past_acted action.Nothing v = refl
past_acted other v = refl

past_early : (b : BackBusStage) → IsEarly b → is_publishing b ≡ false
past_early (stage.ReadKey k) early = refl
past_early b early = absurd early

past_next : (k : FrontKey) (v u : BackView) → Follows k v u → IsPast u
past_next key.Protocol v u next = ap is_publishing next.0
past_next key.FeaturePersistent v u next = ap is_publishing next.0
past_next k v u next = past_early u.stage next

past_at : (b : BackBusStage) (v : BackView) (x : BackAnswer) → v.stage ≡ b → is_publishing b ≡ false → IsPast (step_at b v x)
past_at (stage.Publish k) v x here past = absurd (true≢false past)
past_at (stage.WriteState s) v answer.Done here past = past_state s
past_at stage.Watch v answer.Done here past = refl
past_at stage.Rest v (answer.Watched path) here past = refl
past_at stage.ReadState v (answer.Key text) here past = past_acted (back_action v.state v.unplugged (state_read text)) v
past_at (stage.ReadKey k) v (answer.Key text) here past = reads_key (λ (o : Option BackView). IsPast (kept_or_halted o v)) k text v (λ u reads. past_next k v u reads.next) refl
past_at stage.MapPage v (answer.Mapped page) here past = elim (nat_lt (length v.pages + 1) (length v.grefs)) as (λ more. is_publishing (if more then stage.MapPage else stage.Bind) ≡ false) [ true ↦ refl | false ↦ refl ]
past_at stage.MapPage v (answer.MapRefused status) here past = refl
past_at stage.Bind v answer.Done here past = refl
past_at stage.Bind v answer.BindRefused here past = refl
past_at (stage.PublishFact k) v answer.Done here past = elim (next_fact k) as (λ k. is_publishing (after_fact k) ≡ false) [ None ↦ refl | Some k ↦ refl ]
past_at stage.UnmapOthers v answer.Done here past = past_up v.pages v.bound v.state
past_at stage.UnmapPage v answer.Done here past = past_up (other_pages v.pages) v.bound v.state
past_at stage.ClosePort v answer.Done here past = refl
past_at b v x here past = ap is_publishing here ∙ past

past_told : (v : BackView) (x : BackAnswer) → IsPast v → IsPast (step_of v x)
past_told v x past = either IsPast (says_closing v) (record v { state = state.Closing }) (step_at v.stage v x) past (past_at v.stage v x refl past)

-- this was said, once it has published all, or it has halted
abbrev pub HasSaid : Type 0 → BackView → Type 0
HasSaid said v = IsPast v × (said ⊎ (v.stage ≡ stage.Halted))

over_told : (v : BackView) (x : BackAnswer) → v.stage ≡ stage.Halted → (let u : BackView = step_of v x in u.stage) ≡ stage.Halted
over_told v x here = by_test (says_closing v)
  where
    by_test : (c : Bool) → (let u : BackView = if c then record v { state = state.Closing } else step_at v.stage v x in u.stage) ≡ stage.Halted
    by_test true = here
    by_test false = subst (λ (b : BackBusStage). (let u : BackView = step_at b v x in u.stage) ≡ stage.Halted) (sym here) here

said_told : (said : Type 0) (v : BackView) (x : BackAnswer) → HasSaid said v → HasSaid said (step_of v x)
said_told said v x has = (past_told v x has.0, elim has.1 [ inl is ↦ inl is | inr over ↦ inr (over_told v x over) ])

said_stopped : (said : Type 0) (v : BackView) → HasSaid said v → HasSaid said (stopped v)
said_stopped said v has = by_test (is_halting v.stage) refl
  where
    by_test : (c : Bool) → is_halting v.stage ≡ c → HasSaid said (if c then v else halted v)
    by_test true e = has
    by_test false e = (refl, elim has.1 [ inl is ↦ inl is | inr over ↦ absurd (true≢false (sym (ap is_halting over) ∙ e)) ])

-- each part of a move keeps all three
pub facts_settled : (s : BackStage) (v : BackView) (x : BackAnswer) → facts_in (back_step.settled s (step_of v x)) ≡ facts_in v
facts_settled s v x = settled_is (HasFacts (facts_in v)) (facts_told (facts_in v)) (facts_stopped (facts_in v)) (let u : BackView = step_of v x in u.stage) s (step_of v x) (facts_told (facts_in v) v x refl)

pub facts_moved : (moves : Bool) (b : BackBusAsk) (x : View) (a : BackAnswer) → (let y : View = back_step.ring_step moves b x a in facts_in y.bus) ≡ facts_in x.bus
facts_moved moves b x a = ring_is (HasFacts (facts_in x.bus)) (facts_told (facts_in x.bus)) (facts_stopped (facts_in x.bus)) moves b x a refl

-- so does a whole move
pub facts_stepped : (x : View) (a : BackAnswer) → (let y : View = back_step.step_of x a in facts_in y.bus) ≡ facts_in x.bus
facts_stepped x a = step_is (HasFacts (facts_in x.bus)) (facts_told (facts_in x.bus)) (facts_stopped (facts_in x.bus)) x a refl

pub said_settled : (said : Type 0) (s : BackStage) (v : BackView) (x : BackAnswer) → HasSaid said v → HasSaid said (back_step.settled s (step_of v x))
said_settled said s v x has = settled_is (HasSaid said) (said_told said) (said_stopped said) (let u : BackView = step_of v x in u.stage) s (step_of v x) (said_told said v x has)

pub said_moved : (said : Type 0) (moves : Bool) (b : BackBusAsk) (x : View) (a : BackAnswer) → HasSaid said x.bus → (let y : View = back_step.ring_step moves b x a in HasSaid said y.bus)
said_moved said moves b x a has = ring_is (HasSaid said) (said_told said) (said_stopped said) moves b x a has

-- a close leaves them
pub facts_closed : (v : BackView) → facts_in (unplugged v) ≡ facts_in v
facts_closed v = unplugged_cases (λ (u : BackView). facts_in u ≡ facts_in v) v refl refl

pub stage_closed : (v : BackView) → (let u : BackView = unplugged v in u.stage) ≡ v.stage
stage_closed v = unplugged_cases (λ (u : BackView). u.stage ≡ v.stage) v refl refl
