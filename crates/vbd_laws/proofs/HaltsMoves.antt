-- A move of the back: what is known after it, and that it halts where the lines say so.
use Rattle.std.proofs.Common.{◌≡◌, Bool, true, false, true≢false, if◌then◌else◌, List, ◌⊎◌, inl, inr, refl, sym, ap, ◌∙◌, subst}
use Rattle.std.specs.Prelude.{Option, Some, None, is_some}
use Rattle.std.proofs.lemmas.Option.{none-some}
use Rattle.line_text.proofs.Both.{both_true}
use Rattle.blk_base.specs.declared.ask.BackAsk.{BackAsk}
use Rattle.blk_base.specs.declared.ask.BackAsk.TheVariants as back_ask
use Rattle.blk_base.specs.declared.ask.BackAnswer.{BackAnswer}
use Rattle.blk_base.specs.declared.ask.BackAnswer.TheVariants as answer
use Rattle.blk_base.specs.declared.moves.BackMover.TheVariants as back_mover
use Rattle.blk_base.specs.declared.moves.Move.{Move}
use Rattle.schedule_text.specs.declared.line.Line.TheVariants as lines
use Rattle.hypervisor.specs.Act.{BackAct, Took, back_act}
use Rattle.blk_back.specs.declared.stage.BackStage.{BackStage}
use Rattle.blk_back.specs.declared.stage.BackStage.TheVariants as ring
use Rattle.blk_base.specs.declared.halt.Halt.{Halt}
use Rattle.blk_back.specs.View as ends
use Rattle.blk_back.specs.Ask as ring_ask
use Rattle.blk_back.specs.Step as ring_step
use Rattle.xenbus_state.specs.declared.state.BusState.{BusState}
use Rattle.xenbus_state.specs.declared.state.BusState.TheVariants as state
use Rattle.xenbus_state.specs.declared.stage.BackBusStage.{BackBusStage}
use Rattle.xenbus_state.specs.declared.stage.BackBusStage.TheVariants as stage
use Rattle.xenbus_state.specs.declared.back.BackBusAsk.{BackBusAsk}
use Rattle.xenbus_state.specs.declared.back.BackBusAsk.TheVariants as ask
use Rattle.xenbus_state.specs.declared.table.BackHalt.{BackHalt}
use Rattle.xenbus_state.specs.BackView.{BackView, is_halting, halted}
use Rattle.xenbus_state.specs.BackAsk as bus_asks
use Rattle.xenbus_state.specs.BackStep as bus
use Rattle.split_model.specs.Happening as ring_happens
use Rattle.split_model.proofs.SafeActs.{back_wait}
use Rattle.split_model.proofs.SafeAnswers.{IsBacks, backs_of}
use Rattle.split_model.proofs.States.{is_unbound}
use Rattle.vbd_back.specs.View as back_view
use Rattle.vbd_back.specs.Ask as back
use Rattle.vbd_back.specs.Step as back_step
use Rattle.vbd_model.specs.World.{World, backend_of}
use Rattle.vbd_model.specs.Happening.{back_turn}
use Rattle.vbd_model.specs.Fit.{IsFit, BackGoesWith}
use Rattle.negotiation_laws.proofs.Choices.{either as either_way}
use Rattle.vbd_laws.specs.Halts.{BackSight, due_after, told, is_work}
use Rattle.vbd_laws.proofs.FitBackBus.{halts_ring, reads_between, waits_reading}
use Rattle.vbd_laws.proofs.HaltsKnown.{Knows, Keeps, known_kept, keeps_same, halts_on, silent_step, says_not}
use Rattle.vbd_laws.proofs.HaltsDue.{Due}
use Rattle.vbd_laws.proofs.HaltsSays.{Says, says}
use Rattle.vbd_laws.proofs.HaltsRing.{Halts, goes_on, either, may_learn, none_told, none_works, ring_halts, is_over, over_asks, over_tells}
use Rattle.vbd_laws.proofs.MovesTurns.{back_asks, back_cases}

-- the steps of which no line says anything
keeps_on : (v u x : BackView) → Keeps v u → Keeps u x → Keeps v x
keeps_on v u x p q = record { order = q.order ∙ p.order; going = λ on. p.going (q.going on); state = q.state ∙ p.state; asked = q.asked ∙ p.asked }

settled_keeps : (s : BackStage) (v : BackView) → Keeps v (back_step.settled s v)
settled_keeps s v = by_stage v.stage s refl
  where
    by_stage : (b : BackBusStage) (s : BackStage) → v.stage ≡ b → Keeps v (back_step.settled_at b s v)
    by_stage stage.UnmapOthers (ring.Abort m) here = keeps_same v
    by_stage stage.UnmapOthers s here =
        silent_step v answer.Done
        (ap (λ (b : Bool). back.speaks (if b then ask.SetState state.Closing else bus_asks.ask_at v.stage v)) (says_not v (ap is_halting here)) ∙ ap (λ (b : BackBusStage). back.speaks (bus_asks.ask_at b v)) here)
    by_stage b s here = keeps_same v

halted_keeps : (why : Option Halt) (v : BackView) → Keeps v (back_step.bus_halted why v)
halted_keeps None v = keeps_same v
halted_keeps (Some why) v = either_way (Keeps v) (is_halting v.stage) v (halted v) (keeps_same v) (halts_on v (halted v) refl refl refl refl)

woken_keeps : (v : BackView) (x : BackAnswer) → back.speaks (bus_asks.ask_of v) ≡ false → Keeps v (back_step.woken v x)
woken_keeps v (answer.Watched path) quiet = silent_step v (answer.Watched path) quiet
woken_keeps v x quiet = keeps_same v

followed_keeps : (b : BackBusAsk) (v : BackView) (x : BackAnswer) → bus_asks.ask_of v ≡ b → Keeps v (back_step.followed b v x)
followed_keeps (ask.Map gref) v x asks = silent_step v x (ap back.speaks asks)
followed_keeps (ask.Bind number) v x asks = silent_step v x (ap back.speaks asks)
followed_keeps (ask.Unmap m) v x asks = silent_step v answer.Done (ap back.speaks asks)
followed_keeps ask.ClosePort v x asks = silent_step v x (ap back.speaks asks)
followed_keeps ask.Wait v x asks = woken_keeps v x (ap back.speaks asks)
followed_keeps b v x asks = keeps_same v

waited_keeps : (b : BackBusAsk) (v : BackView) (x : BackAnswer) → bus_asks.ask_of v ≡ b → Keeps v (back_step.waited b v x)
waited_keeps ask.Wait v x asks = woken_keeps v x (ap back.speaks asks)
waited_keeps b v x asks = keeps_same v

-- a move of the back: what is known after it; until it has halted it halts where that is due; and then it asks for no work and tells nothing
pub record Moves (asked : Bool) (k : BackSight) (w : World) (a : BackAct) (x : back_view.View) : Type 0 where
  pub known : Knows asked (told k (lines.Move a.shown)) x.bus
  pub runs : w.rings.back.halted ≡ None → Halts asked k a.shown x.ring
  pub idle : is_some w.rings.back.halted ≡ true → is_work (lines.Move a.shown) ≡ false
  pub quiet : is_some w.rings.back.halted ≡ true → x.ring.told ≡ None

-- the end of the ring is led by what the negotiation read; where that halts it stands so that it does too
between : (s : BackBusStage) (v : BackView) (x : BackAnswer) (reason : BackHalt) (r : BackStage) → back.speaks (bus_asks.ask_at s v) ≡ true → bus.halt_at s v x ≡ Some reason → BackGoesWith s v.state r → (is_unbound r ≡ true) ⊎ (r ≡ ring.Loop)
between stage.ReadState v x reason r speaks halts goes = reads_between v.state r goes
between (stage.ReadKey k) v x reason r speaks halts goes = inl (waits_reading k v.state r goes).1
between stage.MapPage v x reason r speaks halts goes = absurd (true≢false (sym speaks))
between stage.Bind v x reason r speaks halts goes = absurd (true≢false (sym speaks))
between s v x reason r speaks halts goes = absurd (none-some reason halts)

halts_between : (v : BackView) (x : BackAnswer) (reason : BackHalt) (r : BackStage) → back.speaks (bus_asks.ask_of v) ≡ true → bus.halt_of v x ≡ Some reason → BackGoesWith v.stage v.state r → (is_unbound r ≡ true) ⊎ (r ≡ ring.Loop)
halts_between v x reason r speaks halts goes = by_test (bus_asks.says_closing v) speaks halts
  where
    by_test : (b : Bool) → back.speaks (if b then ask.SetState state.Closing else bus_asks.ask_at v.stage v) ≡ true → (if b then None else bus.halt_at v.stage v x) ≡ Some reason → (is_unbound r ≡ true) ⊎ (r ≡ ring.Loop)
    by_test true speaks halts = absurd (none-some reason halts)
    by_test false speaks halts = between v.stage v x reason r speaks halts goes

reason_halts : (asked : Bool) (k : BackSight) (shown : Move) (x : BackHalt) (r : ends.View) → r.told ≡ None → Due asked k shown (Some x) → (is_unbound r.stage ≡ true) ⊎ (r.stage ≡ ring.Loop) → Halts asked k shown (ring_step.halts (back_step.ring_halt x) r)
reason_halts asked k shown x r quiet due (inr here) =
    subst (λ (y : ends.View). Halts asked k shown y) (sym (halts_ring x r ring.Loop here)) (record { due = due.due; word = due.word; quiet = λ halts. quiet })
reason_halts asked k shown x r quiet due (inl here) = by_stage r.stage refl here
  where
    unbound_halts : Halts asked k shown (record r { halted = Some (back_step.ring_halt x); stage = ring_step.unbound r.pages })
    unbound_halts = record { due = due.due; word = due.word; quiet = λ halts. quiet }

    by_stage : (s : BackStage) → r.stage ≡ s → is_unbound s ≡ true → Halts asked k shown (ring_step.halts (back_step.ring_halt x) r)
    by_stage ring.InitWait e is = subst (λ (y : ends.View). Halts asked k shown y) (sym (halts_ring x r ring.InitWait e)) unbound_halts
    by_stage ring.MapRing e is = subst (λ (y : ends.View). Halts asked k shown y) (sym (halts_ring x r ring.MapRing e)) unbound_halts
    by_stage s e is = absurd (true≢false (sym is))

led_halts : (asked : Bool) (k : BackSight) (shown : Move) (reason : Option BackHalt) (reads : Bool) (b : BackView) (r : ends.View) → r.told ≡ None → r.halted ≡ None → Due asked k shown reason
    → ((x : BackHalt) → reason ≡ Some x → (is_unbound r.stage ≡ true) ⊎ (r.stage ≡ ring.Loop)) → Halts asked k shown (back_step.ring_led reason reads b r)
led_halts asked k shown (Some x) reads b r quiet running due place = reason_halts asked k shown x r quiet due (place x refl)
led_halts asked k shown None true b r quiet running due place =
    either asked k (ring_step.may_attach (back_step.shape_read b) b.grefs r) shown (ring_step.attached (back_step.shape_read b) b.grefs b.terms.port r) r
    (goes_on asked k shown (ring_step.attached (back_step.shape_read b) b.grefs b.terms.port r) running (sym due.due)) (goes_on asked k shown r running (sym due.due))
led_halts asked k shown None false b r quiet running due place = goes_on asked k shown r running (sym due.due)

led_quiet : (reason : Option BackHalt) (reads : Bool) (b : BackView) (r : ends.View) → reason ≡ None → r.told ≡ None → (let y : ends.View = back_step.ring_led reason reads b r in y.told) ≡ None
led_quiet (Some x) reads b r none quiet = absurd (none-some x (sym none))
led_quiet None true b r none quiet = by_test (ring_step.may_attach (back_step.shape_read b) b.grefs r)
  where
    by_test : (c : Bool) → (let y : ends.View = (if c then ring_step.attached (back_step.shape_read b) b.grefs b.terms.port r else r) in y.told) ≡ None
    by_test true = quiet
    by_test false = quiet
led_quiet None false b r none quiet = quiet

-- its negotiation speaks
says_moves : (asked : Bool) (k : BackSight) (w : World) (a : BackAct) → IsFit w → Knows asked k w.back → back.bus_moves (back_asks w) w.rings.back.stage ≡ true
    → back_act w.rings.under back_mover.Back (back.key_ask (back_asks w)) Took ≡ Some a → Moves asked k w a (back_step.spoken (backend_of w) a.answer)
says_moves asked k w a fit has speaks e =
    let spoke = (both_true (back.speaks (back_asks w)) (back.is_between w.rings.back.stage) speaks).0 in
    let u : BackView = bus.step_of w.back a.answer in
    let reason : Option BackHalt = bus.halt_of w.back a.answer in
    let reads : Bool = back_step.reads_layout (back_asks w) in
    let y : ends.View = back_step.ring_led reason reads u w.rings.back in
    let is : Says asked k w.back a u reason = says asked k w.back w.rings.under a fit.sound has spoke e in
    record {
      known = known_kept asked (told k (lines.Move a.shown)) u (back_step.settled y.stage u) is.known (settled_keeps y.stage u);
      runs = λ running. led_halts asked k a.shown reason reads u w.rings.back fit.safe.back_told running is.due (λ x halts. halts_between w.back a.answer x w.rings.back.stage spoke halts fit.back);
      idle = λ over. is.rests (sym fit.halted ∙ over);
      quiet = λ over. led_quiet reason reads u w.rings.back (is.ends (sym fit.halted ∙ over)) fit.safe.back_told;
    }

-- its end of the ring moves
backs_learn : (wish : BackAsk) → IsBacks wish → may_learn wish ≡ false
backs_learn (back_ask.GetKey path) is = absurd is
backs_learn (back_ask.SetKey path text) is = absurd is
backs_learn wish is = refl

goes_over : (b : BackBusStage) (own : BusState) (r : BackStage) → BackGoesWith b own r → is_halting b ≡ true → is_over r ≡ true
goes_over (stage.WriteState state.Closing) own r goes halts = ap is_over goes
goes_over (stage.WriteState state.Closed) own r goes halts = ap is_over goes.1
goes_over (stage.WriteState s) own r goes halts = absurd (true≢false (sym halts))
goes_over stage.UnmapOthers own (ring.Abort m) goes halts = refl
goes_over stage.UnmapOthers own r goes halts = absurd goes
goes_over stage.UnmapPage own ring.UnmapRing goes halts = refl
goes_over stage.UnmapPage own ring.UnmapUnbound goes halts = refl
goes_over stage.UnmapPage own r goes halts = absurd goes
goes_over stage.ClosePort own r goes halts = ap is_over goes
goes_over stage.Halted own r goes halts = ap is_over goes.1
goes_over b own r goes halts = absurd (true≢false (sym halts))

ring_over : (w : World) → IsFit w → is_some w.rings.back.halted ≡ true → is_over w.rings.back.stage ≡ true
ring_over w fit over = goes_over w.back.stage w.back.state w.rings.back.stage fit.back (sym fit.halted ∙ over)

ring_moves : (asked : Bool) (k : BackSight) (w : World) (a : BackAct) → IsFit w → Knows asked k w.back → back_act w.rings.under back_mover.Back (ring_ask.ask_of w.rings.back) Took ≡ Some a
    → Moves asked k w a (back_step.ring_step true (back_asks w) (backend_of w) a.answer)
ring_moves asked k w a fit has e =
    let r : ends.View = ring_step.step_of w.rings.back a.answer in
    let u : BackView = back_step.followed (back_asks w) w.back a.answer in
    let x : BackView = back_step.bus_halted r.halted u in
    let keeps : Keeps w.back (back_step.settled r.stage x) = keeps_on w.back x (back_step.settled r.stage x) (keeps_on w.back u x (followed_keeps (back_asks w) w.back a.answer refl) (halted_keeps r.halted u)) (settled_keeps r.stage x) in
    let same : told k (lines.Move a.shown) ≡ k = none_told k w.rings.under back_mover.Back (ring_ask.ask_of w.rings.back) Took a (backs_learn (ring_ask.ask_of w.rings.back) (backs_of w.rings.back)) e in
    record {
      known = subst (λ (b : BackSight). Knows asked b (back_step.settled r.stage x)) (sym same) (known_kept asked k w.back (back_step.settled r.stage x) has keeps);
      runs = λ running. ring_halts asked k w.rings.back.stage w.rings.back w.rings.under a running fit.safe.back_told e;
      idle = λ over. none_works w.rings.under back_mover.Back (ring_ask.ask_of w.rings.back) Took a (over_asks w.rings.back.stage w.rings.back (ring_over w fit over)) e;
      quiet = λ over. over_tells w.rings.back.stage w.rings.back a.answer (ring_over w fit over) fit.safe.back_told;
    }

-- both wait
record IsIdle (k : BackSight) (a : BackAct) : Type 0 where
  told : told k (lines.Move a.shown) ≡ k
  due : due_after k (lines.Move a.shown) ≡ None
  works : is_work (lines.Move a.shown) ≡ false

wait_moves : (asked : Bool) (k : BackSight) (w : World) (a : BackAct) → IsFit w → Knows asked k w.back → back_act w.rings.under back_mover.Back back_ask.Wait Took ≡ Some a
    → Moves asked k w a (back_step.ring_step false (back_asks w) (backend_of w) a.answer)
wait_moves asked k w a fit has e =
    let is : IsIdle k a = back_wait (IsIdle k) w.rings.under back_mover.Back a (record { told = refl; due = refl; works = refl }) (λ path. record { told = refl; due = refl; works = refl }) e in
    let u : BackView = back_step.waited (back_asks w) w.back a.answer in
    record {
      known = subst (λ (b : BackSight). Knows asked b u) (sym is.told) (known_kept asked k w.back u has (waited_keeps (back_asks w) w.back a.answer refl));
      runs = λ running. goes_on asked k a.shown w.rings.back running is.due;
      idle = λ over. is.works;
      quiet = λ over. fit.safe.back_told;
    }

abbrev MovesBy : (asked : Bool) (k : BackSight) (w : World) (a : BackAct) → List ring_happens.Happening → BackAsk → (BackAnswer → back_view.View) → Type 0
MovesBy asked k w a does wish step = back_act w.rings.under back_mover.Back wish Took ≡ Some a → Moves asked k w a (step a.answer)

pub back_moves : (asked : Bool) (k : BackSight) (w : World) (a : BackAct) → IsFit w → Knows asked k w.back → back_turn w ≡ Some a → Moves asked k w a (back_step.step_of (backend_of w) a.answer)
back_moves asked k w a fit has turn =
    back_cases (MovesBy asked k w a) w (λ speaks unattached e. says_moves asked k w a fit has speaks e) (λ speaks attached e. says_moves asked k w a fit has speaks e)
    (λ quiet moves e. ring_moves asked k w a fit has e) (λ quiet still e. wait_moves asked k w a fit has e) turn
