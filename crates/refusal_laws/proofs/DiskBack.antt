-- What the back's keys say of its disk, and its own state, go with its negotiation through each of its moves.
use Rattle.std.proofs.Common.{inl, inr, ◌≡◌, ◌∙◌, ap, sym, subst, ℕ, ◌≤◌, Bool, true, false, true≢false, ◌&&◌, if◌then◌else◌, List, [], ◌∷◌, map, refl, arith, decimal}
use Rattle.std.specs.Prelude.{Option, Some, None}
use Rattle.std.proofs.Math.Bool.{and-false}
use Rattle.line_text.proofs.Both.{both_true}
use Rattle.blk_base.specs.declared.parts.Mapping.{Mapping}
use Rattle.blk_base.specs.declared.parts.End.TheVariants as end
use Rattle.blk_base.specs.declared.ask.BackAsk.{BackAsk}
use Rattle.blk_base.specs.declared.ask.BackAnswer.{BackAnswer}
use Rattle.blk_base.specs.declared.ask.BackAnswer.TheVariants as answer
use Rattle.blk_base.specs.declared.moves.BackMover.TheVariants as back_mover
use Rattle.key_directory.specs.Directory.{Directory, written}
use Rattle.hypervisor.specs.Act.{BackAct, Took, back_act}
use Rattle.blk_back.specs.View as ends
use Rattle.blk_base.specs.declared.halt.Halt.{Halt}
use Rattle.blk_back.specs.declared.stage.BackStage.{BackStage}
use Rattle.blk_back.specs.declared.stage.BackStage.TheVariants as ring
use Rattle.xenbus_state.specs.declared.keys.FrontKey.{FrontKey}
use Rattle.xenbus_state.specs.declared.keys.FrontKey.TheVariants as front_key
use Rattle.xenbus_state.specs.declared.keys.BackKey.{BackKey}
use Rattle.xenbus_state.specs.declared.keys.BackKey.TheVariants as key
use Rattle.xenbus_state.specs.declared.state.BusState.{BusState}
use Rattle.xenbus_state.specs.declared.state.BusState.TheVariants as state
use Rattle.xenbus_state.specs.declared.stage.BackBusStage.{BackBusStage}
use Rattle.xenbus_state.specs.declared.stage.BackBusStage.TheVariants as stage
use Rattle.xenbus_state.specs.declared.table.BackAction.{BackAction}
use Rattle.xenbus_state.specs.declared.table.BackAction.TheVariants as action
use Rattle.xenbus_state.specs.declared.back.BackBusAsk.{BackBusAsk}
use Rattle.xenbus_state.specs.declared.back.BackBusAsk.TheVariants as back_ask
use Rattle.xenbus_state.specs.States.{state_number, state_read}
use Rattle.xenbus_state.specs.Tables.{back_action}
use Rattle.xenbus_state.specs.BackView.{BackView, is_halting, halted, stopped}
use Rattle.xenbus_state.specs.BackAsk.{says_closing_at, says_closing, ask_at, ask_of, unmap_ask, IsAnswer}
use Rattle.xenbus_state.specs.BackStep.{acted, kept_or_halted, last_state, unmapping_next, other_pages, step_at, step_of}
use Rattle.vbd_back.specs.View as back_view
use Rattle.vbd_back.specs.Ask as back
use Rattle.vbd_back.specs.Step as back_step
use Rattle.vbd_laws.proofs.FitBackBus.{IsEarly, Follows, reads_key, told_at}
use Rattle.refusal_laws.proofs.DiskKeys.{is_telling, is_still}

-- it sets a key of its own, or its state
abbrev pub is_busy : BackBusStage → Bool
is_busy (stage.Publish k) = true
is_busy (stage.PublishFact k) = true
is_busy (stage.WriteState s) = true
is_busy b = false

pub busy_still : (b : BackBusStage) → is_busy b ≡ false → is_still b ≡ true
busy_still (stage.Publish k) free = absurd (true≢false free)
busy_still (stage.PublishFact k) free = absurd (true≢false free)
busy_still (stage.WriteState s) free = absurd (true≢false free)
busy_still b free = refl

pub busy_quiet : (b : BackBusStage) → is_busy b ≡ false → is_telling b ≡ false
busy_quiet (stage.Publish k) free = absurd (true≢false free)
busy_quiet (stage.PublishFact k) free = absurd (true≢false free)
busy_quiet (stage.WriteState s) free = absurd (true≢false free)
busy_quiet b free = refl

-- it goes on in the same state, and doesn't publish its disk, but is about to
pub record Kept (v u : BackView) : Type 0 where
  pub still : is_still u.stage ≡ true
  pub state : u.state ≡ v.state

last_still : (own : BusState) → is_still (stage.WriteState (last_state own)) ≡ true
last_still state.Closing = refl
last_still own = refl

up_still : (pages : List Mapping) (bound : Bool) (own : BusState) → is_still (unmapping_next pages bound own) ≡ true
up_still (page ∷ pages) bound own = refl
up_still [] true own = refl
up_still [] false own = last_still own

more_still : (more : Bool) → is_still (if more then stage.MapPage else stage.Bind) ≡ true
more_still true = refl
more_still false = refl

acted_kept : (act : BackAction) (v : BackView) → Kept v (acted act v)
acted_kept action.Nothing v = record { still = refl; state = refl }
acted_kept other v = record { still = refl; state = refl }

early_still : (b : BackBusStage) → IsEarly b → is_still b ≡ true
early_still (stage.ReadKey k) early = refl
early_still b early = absurd early

next_still : (k : FrontKey) (v u : BackView) → Follows k v u → is_still u.stage ≡ true
next_still front_key.Protocol v u next = ap is_still next.0
next_still front_key.FeaturePersistent v u next = ap is_still next.0
next_still k v u next = early_still u.stage next

step_kept : (b : BackBusStage) (v : BackView) (x : BackAnswer) → v.stage ≡ b → is_busy b ≡ false → Kept v (step_at b v x)
step_kept (stage.Publish k) v x here free = absurd (true≢false free)
step_kept (stage.PublishFact k) v x here free = absurd (true≢false free)
step_kept (stage.WriteState s) v x here free = absurd (true≢false free)
step_kept stage.Watch v answer.Done here free = record { still = refl; state = refl }
step_kept stage.Rest v (answer.Watched path) here free = record { still = refl; state = refl }
step_kept stage.ReadState v (answer.Key text) here free = acted_kept (back_action v.state v.unplugged (state_read text)) v
step_kept (stage.ReadKey k) v (answer.Key text) here free =
    reads_key (λ (o : Option BackView). Kept v (kept_or_halted o v)) k text v (λ u reads. record { still = next_still k v u reads.next; state = reads.own }) (record { still = refl; state = refl })
step_kept stage.MapPage v (answer.Mapped page) here free = record { still = more_still _; state = refl }
step_kept stage.MapPage v (answer.MapRefused status) here free = record { still = refl; state = refl }
step_kept stage.Bind v answer.Done here free = record { still = refl; state = refl }
step_kept stage.Bind v answer.BindRefused here free = record { still = refl; state = refl }
step_kept stage.UnmapOthers v answer.Done here free = record { still = up_still v.pages v.bound v.state; state = refl }
step_kept stage.UnmapPage v answer.Done here free = record { still = up_still (other_pages v.pages) v.bound v.state; state = refl }
step_kept stage.ClosePort v answer.Done here free = record { still = last_still v.state; state = refl }
step_kept b v x here free = record { still = ap is_still here ∙ busy_still b free; state = refl }

pub told_kept : (v : BackView) (x : BackAnswer) → says_closing v ≡ false → is_busy v.stage ≡ false → Kept v (step_of v x)
told_kept v x on free = subst (Kept v) (sym (told_at v x on)) (step_kept v.stage v x refl free)

-- a stage in which it and-false says that it closes
pub not_closing_at : (v : BackView) (b : BackBusStage) → v.stage ≡ b → ((own : BusState) → says_closing_at b own ≡ false) → says_closing v ≡ false
not_closing_at v b here says = ap (λ (c : BackBusStage). v.unplugged && says_closing_at c v.state) here ∙ (ap (λ (c : Bool). v.unplugged && c) (says v.state) ∙ and-false v.unplugged)

pub asks_at : (v : BackView) (b : BackBusStage) → v.stage ≡ b → says_closing v ≡ false → ask_of v ≡ ask_at b v
asks_at v b here on = ap (λ (c : Bool). if c then back_ask.SetState state.Closing else ask_at v.stage v) on ∙ ap (λ (c : BackBusStage). ask_at c v) here

not_closing : (v : BackView) → back.speaks (ask_of v) ≡ false → says_closing v ≡ false
not_closing v = by_test (says_closing v) refl
  where
    by_test : (c : Bool) → says_closing v ≡ c → back.speaks (if c then back_ask.SetState state.Closing else ask_at v.stage v) ≡ false → says_closing v ≡ false
    by_test true e quiet = absurd (true≢false quiet)
    by_test false e quiet = e

-- what more a move makes of it
pub settled_kept : (r : BackStage) (v u : BackView) → Kept v u → Kept v (back_step.settled r u)
settled_kept r v u k = by_stage u.stage r refl
  where
    by_stage : (b : BackBusStage) (r : BackStage) → u.stage ≡ b → Kept v (back_step.settled_at b r u)
    by_stage stage.UnmapOthers (ring.Abort m) here = k
    by_stage stage.UnmapOthers r here =
        let one = told_kept u answer.Done (not_closing_at u stage.UnmapOthers here (λ own. refl)) (ap is_busy here) in
        record { still = one.still; state = one.state ∙ k.state }
    by_stage b r here = k

halted_kept : (why : Option Halt) (v u : BackView) → Kept v u → Kept v (back_step.bus_halted why u)
halted_kept None v u k = k
halted_kept (Some why) v u k = by_test (is_halting u.stage)
  where
    by_test : (c : Bool) → Kept v (if c then u else halted u)
    by_test true = k
    by_test false = record { still = refl; state = k.state }

module _ (v : BackView) (free : is_busy v.stage ≡ false) where
  pub kept : Kept v v
  kept = record { still = busy_still v.stage free; state = refl }

  heard : (b : BackBusAsk) (x : BackAnswer) → ask_of v ≡ b → back.speaks b ≡ false → Kept v (step_of v x)
  heard b x asks quiet = told_kept v x (not_closing v (ap back.speaks asks ∙ quiet)) free

  woken_kept : (x : BackAnswer) → ask_of v ≡ back_ask.Wait → Kept v (back_step.woken v x)
  woken_kept (answer.Watched path) asks = heard back_ask.Wait (answer.Watched path) asks refl
  woken_kept x asks = kept

  followed_kept : (b : BackBusAsk) (x : BackAnswer) → ask_of v ≡ b → Kept v (back_step.followed b v x)
  followed_kept (back_ask.Map gref) x asks = heard (back_ask.Map gref) x asks refl
  followed_kept (back_ask.Bind port) x asks = heard (back_ask.Bind port) x asks refl
  followed_kept (back_ask.Unmap m) x asks = heard (back_ask.Unmap m) answer.Done asks refl
  followed_kept back_ask.ClosePort x asks = heard back_ask.ClosePort x asks refl
  followed_kept back_ask.Wait x asks = woken_kept x asks
  followed_kept b x asks = kept

  waited_kept : (b : BackBusAsk) (x : BackAnswer) → ask_of v ≡ b → Kept v (back_step.waited b v x)
  waited_kept back_ask.Wait x asks = woken_kept x asks
  waited_kept b x asks = kept

  -- the end of the ring moves, or both wait
  pub moved_kept : (moves : Bool) (b : BackBusAsk) (r : ends.View) (x : BackAnswer) → ask_of v ≡ b → (let y : back_view.View = back_step.ring_step moves b (record { ring = r; bus = v }) x in Kept v y.bus)
  moved_kept true b r x asks = settled_kept _ v _ (halted_kept _ v _ (followed_kept b x asks))
  moved_kept false b r x asks = waited_kept b x asks
