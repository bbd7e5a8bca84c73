-- Once the back has halted no end looks for anything, so what isn't seen then stays unseen: it costs no move.
use Rattle.std.proofs.Common.{◌≡◌, ℕ, ◌+◌, ◌*◌, ◌≤◌, List, length, inl, inr, Bool, cond, true, true≢false, refl, ap, sym, ◌∙◌, subst, arith}
use Rattle.std.specs.Prelude.{Option, Some, None, is_some, nat_le, ◌&&◌}
use Rattle.std.proofs.lemmas.Bool.{and_parts}
use Rattle.blk_base.specs.Options.{Options}
use Rattle.blk_base.specs.declared.parts.Mapping.{Mapping}
use Rattle.blk_base.specs.declared.ask.BackAsk.TheVariants as back_ask
use Rattle.blk_base.specs.declared.ask.BackAnswer.{BackAnswer}
use Rattle.blk_base.specs.declared.moves.BackMover.TheVariants as back_mover
use Rattle.ring_words.specs.Ring.{Ring}
use Rattle.ring_words.specs.Shape.{Shape}
use Rattle.blk_base.specs.Distance.{distance_of}
use Rattle.blk_base.specs.declared.halt.Halt.{Halt}
use Rattle.hypervisor.specs.Act.{FrontAct, BackAct, Outcome, Took, back_act}
use Rattle.blk_front.specs.declared.stage.FrontStage.{FrontStage}
use Rattle.blk_front.specs.declared.stage.FrontStage.TheVariants as front_stage
use Rattle.blk_front.specs.declared.state.FrontState.{FrontState}
use Rattle.blk_front.specs.declared.state.FrontState.TheVariants as state
use Rattle.blk_front.specs.State.{is_unmade, may_enter, in_state}
use Rattle.blk_front.specs.View as front
use Rattle.blk_back.specs.declared.stage.BackStage.{BackStage}
use Rattle.blk_back.specs.declared.stage.BackStage.TheVariants as back_stage
use Rattle.blk_back.specs.View as back
use Rattle.blk_back.specs.Step as back_step
use Rattle.pipeline_laws.specs.Pipeline.{Pipeline}
use Rattle.split_model.specs.World.{World}
use Rattle.split_model.specs.Happening.{Happening, FrontMoves, BackMoves, JobMoves, Negotiates, FrontEnters, BackAttaches, BackHalts, front_turn, back_turn, job_turn, front_after, back_after, job_after, happens}
use Rattle.split_model.proofs.Attaching.{attach_cases}
use Rattle.split_model.proofs.Shapes.{attaches_waiting}
use Rattle.split_model.proofs.States.{is_unbound, enters_cases, halts_cases}
use Rattle.machine_pipeline.specs.Allowed.{IsServed, MayEnter}
use Rattle.machine_pipeline.proofs.Over.{Over, IsKept, IsAborting, IsLeaving}
use Rattle.ring_settle_laws.specs.Left.{front_saw, back_saw, unseen_left}
use Rattle.ring_settle_laws.proofs.Stations.{IsEndsMove}
use Rattle.ring_settle_laws.proofs.FrontEnters.{AgreesEarly, unmade_unconnected}
use Rattle.ring_settle_laws.proofs.CalmMoves.{front_keeps}
use Rattle.ring_settle_laws.proofs.BoundRing.{late_left}

-- an order is agreed on only before the back has halted
abbrev pub IsInTime : World → Happening → Type 0
IsInTime w (FrontEnters s) = AgreesEarly w s
IsInTime w h = Unit {0}

-- both ends' indices, and what each saw of the other's, are as they were, and the back stays halted
pub record AreFixed (w v : World) : Type 0 where
  pub front : v.front.ring.indices ≡ w.front.ring.indices
  pub front_seen : v.front.ring.seen ≡ w.front.ring.seen
  pub back : v.back.ring.indices ≡ w.back.ring.indices
  pub back_seen : v.back.ring.seen ≡ w.back.ring.seen
  pub halted : is_some v.back.halted ≡ true

fixed : (w : World) → is_some w.back.halted ≡ true → AreFixed w w
fixed w halted = record { front = refl; front_seen = refl; back = refl; back_seen = refl; halted = halted }

abbrev IsFront : World → Ring → ℕ → Type 0
IsFront w indices seen = (indices ≡ w.front.ring.indices) × (seen ≡ w.front.ring.seen)

-- a back that has halted only gives up what it holds
abbrev IsBack : back.View → back.View → Type 0
IsBack v x = (x.ring.indices ≡ v.ring.indices) × (x.ring.seen ≡ v.ring.seen) × (x.halted ≡ v.halted)

gives_up : (b : BackStage) (v : back.View) (a : BackAnswer) → IsAborting v.pages b → IsBack v (back_step.step_at b v a)
gives_up back_stage.UnmapRing v a at = (refl, refl, refl)
gives_up back_stage.UnmapUnbound v a at = (refl, refl, refl)
gives_up back_stage.ClosePort v a at = (refl, refl, refl)
gives_up back_stage.Halted v a at = (refl, refl, refl)
gives_up b v a at = absurd at

-- it waits for no terms, and serves no more
unbound_over : {A : Type 0} (b : BackStage) (v : back.View) → is_unbound b ≡ true → IsAborting v.pages b → A
unbound_over back_stage.InitWait v un at = absurd at
unbound_over back_stage.MapRing v un at = absurd at
unbound_over b v un at = absurd (true≢false (sym un))

module _ (config : Options) (w : World) (d : Pipeline) (o : Over config w d w.front.stage w.back.stage) where
  front_fixed : (act : Option FrontAct) → (let x : World = front_after w act in IsFront w x.front.ring.indices x.front.ring.seen) → AreFixed w (front_after w act)
  front_fixed None is = fixed w o.halted
  front_fixed (Some a) is = record { front = is.0; front_seen = is.1; back = refl; back_seen = refl; halted = o.halted }

  back_fixed : (act : Option BackAct) → AreFixed w (back_after w act)
  back_fixed None = fixed w o.halted
  back_fixed (Some a) =
      let gave = gives_up w.back.stage w.back a.answer o.back_at in
      record { front = refl; front_seen = refl; back = gave.0; back_seen = gave.1; halted = ap is_some gave.2 ∙ o.halted }

  job_fixed : (number : ℕ) (outcome : Outcome) → AreFixed w (happens w (JobMoves number outcome))
  job_fixed number outcome =
      let asked : back_step.job_ask_of w.back number ≡ back_ask.Wait = rw o.halted refl in
      let none : job_turn w number outcome ≡ None = ap (λ ask. back_act w.under (back_mover.Job number) ask outcome) asked in
      subst (λ (act : Option BackAct). AreFixed w (job_after w number act)) (sym none) (fixed w o.halted)

  entered : (s : FrontState) → AgreesEarly w s → MayEnter w s → may_enter s w.front ≡ true → IsFront w (in_state s w.front).ring.indices (in_state s w.front).ring.seen
  entered (state.Agreed order) early may can =
      let unmade = (and_parts (is_unmade w.front.stage) (nat_le order w.front.shape.order) (and_parts (is_unmade w.front.stage && nat_le order w.front.shape.order) _ can).0).0 in
      absurd (true≢false (sym (early o.halted) ∙ unmade_unconnected w.front.stage unmade))
  entered (state.Broken word) early may can = absurd may
  entered s early may can = (refl, refl)

  entered_fixed : (s : FrontState) → AgreesEarly w s → MayEnter w s → AreFixed w (happens w (FrontEnters s))
  entered_fixed s early may =
      enters_cases (λ (v : front.View) shown. AreFixed w (record { front = v; back = w.back; under = w.under })) s w.front
      (λ can. let is = entered s early may can in record { front = is.0; front_seen = is.1; back = refl; back_seen = refl; halted = o.halted })
      (fixed w o.halted)

  backed_fixed : (v : back.View) → v ≡ w.back → AreFixed w (record { front = w.front; back = v; under = w.under })
  backed_fixed v same = subst (λ (x : back.View). AreFixed w (record { front = w.front; back = x; under = w.under })) (sym same) (fixed w o.halted)

  attached_fixed : (shape : Shape) (grefs : List ℕ) (port : ℕ) → AreFixed w (happens w (BackAttaches shape grefs port))
  attached_fixed shape grefs port =
      backed_fixed _
      (attach_cases (λ (v : back.View) shown. v ≡ w.back) w shape grefs port
      (λ may layout says. unbound_over w.back.stage w.back (ap is_unbound (attaches_waiting shape grefs w.back may)) o.back_at) refl)

  halted_fixed : (why : Halt) → AreFixed w (happens w (BackHalts why))
  halted_fixed why =
      backed_fixed _
      (halts_cases (λ (v : back.View). v ≡ w.back) why w.back (λ un. unbound_over w.back.stage w.back un o.back_at)
      (λ loop. absurd (subst (IsAborting w.back.pages) loop o.back_at)) refl)

  over_fixed : (h : Happening) → IsEndsMove h → IsServed w h → IsInTime w h → AreFixed w (happens w h)
  over_fixed FrontMoves ends may early =
      let is = front_keeps (IsFront w) config w d (may o.halted) o (refl, refl) in
      front_fixed (front_turn w) is
  over_fixed BackMoves ends may early = back_fixed (back_turn w Took)
  over_fixed (JobMoves number outcome) ends may early = job_fixed number outcome
  over_fixed (Negotiates at move) ends may early = record { front = refl; front_seen = refl; back = refl; back_seen = refl; halted = o.halted }
  over_fixed (FrontEnters s) ends may early = entered_fixed s early may
  over_fixed (BackAttaches shape grefs port) ends may early = attached_fixed shape grefs port
  over_fixed (BackHalts why) ends may early = halted_fixed why
  over_fixed h ends may early = absurd ends

-- an end that has left looks for nothing
left_saw : (connected : Bool) (made order : ℕ) (pages : List ℕ) (held : List Mapping) (b : BackStage) (s : FrontStage) (v : front.View) → IsLeaving connected made order pages held b s → front_saw s v ≡ v.ring.seen
left_saw connected made order pages held b front_stage.StoreEvent v at = absurd at
left_saw connected made order pages held b front_stage.EventFence v at = absurd at
left_saw connected made order pages held b front_stage.LookAgain v at = absurd at
left_saw connected made order pages held b s v at = refl

given_saw : (held : List Mapping) (b : BackStage) (v : back.View) → IsAborting held b → back_saw b v ≡ v.ring.seen
given_saw held back_stage.StoreEvent v at = absurd at
given_saw held back_stage.EventFence v at = absurd at
given_saw held back_stage.LookAgain v at = absurd at
given_saw held b v at = refl

abbrev far_apart : World → ℕ
far_apart w = 7 * distance_of w.front.ring.seen w.back.ring.indices.prod + 39 * distance_of w.back.ring.seen w.front.ring.indices.prod

over_unseen : (config : Options) (w : World) (d : Pipeline) → Over config w d w.front.stage w.back.stage → unseen_left w ≡ far_apart w
over_unseen config w d o =
    let f = left_saw d.front.connected (length w.under.channels.ports) w.front.shape.order w.under.pages w.back.pages w.back.stage w.front.stage w.front o.front_at in
    let b = given_saw w.back.pages w.back.stage w.back o.back_at in
    ap (λ (n : ℕ). 7 * distance_of n w.back.ring.indices.prod + 39 * distance_of (back_saw w.back.stage w.back) w.front.ring.indices.prod) f
    ∙ ap (λ (n : ℕ). 7 * distance_of w.front.ring.seen w.back.ring.indices.prod + 39 * distance_of n w.front.ring.indices.prod) b

fixed_apart : (w v : World) → AreFixed w v → far_apart v ≡ far_apart w
fixed_apart w v f =
    let front = f.front in
    let front_seen = f.front_seen in
    let back = f.back in
    let back_seen = f.back_seen in
    rw (front, front_seen, back, back_seen) refl

-- so what stays unseen never falls
pub late_kept : (config : Options) (w : World) (d e : Pipeline) (h : Happening) → IsKept config w d → IsKept config (happens w h) e → IsEndsMove h → IsServed w h → IsInTime w h → late_left w ≤ late_left (happens w h)
late_kept config w d e h (inl held) after ends may early = let h0 = held.1 in let none : late_left w ≡ 0 = rw h0.unhalted refl in omega (arith, none)
late_kept config w d e h (inr over) (inl held) ends may early =
    let f = over_fixed config w d over h ends may early in
    let h1 = held.1 in
    absurd (true≢false (sym f.halted ∙ ap is_some h1.unhalted))
late_kept config w d e h (inr over) (inr later) ends may early =
    let f = over_fixed config w d over h ends may early in
    let one : late_left w ≡ far_apart w = rw over.halted (over_unseen config w d over) in
    let other : late_left (happens w h) ≡ far_apart (happens w h) = ap (λ (b : Bool). cond b (unseen_left (happens w h)) 0) f.halted ∙ over_unseen config (happens w h) e later in
    omega (arith, one, other, fixed_apart w (happens w h) f)
