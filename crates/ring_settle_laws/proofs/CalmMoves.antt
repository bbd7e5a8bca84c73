-- Once the back has halted the front's indices, and what it saw of the back's, stay as the front moves.
use Rattle.std.proofs.Common.{◌≡◌, ℕ, ◌-◌, ◌==◌, ◌||◌, if◌then◌else◌, true, List, [], length, refl, ap, sym, ◌∙◌, subst}
use Rattle.std.specs.Prelude.{Option, Some, None, slice_get}
use Rattle.std.proofs.lemmas.Bool.{cond_both, or_right, true≢false}
use Rattle.ring_words.specs.Ring.{Ring}
use Rattle.blk_base.specs.Options.{Options}
use Rattle.blk_base.specs.declared.ask.FrontAsk.TheVariants.{Wait}
use Rattle.blk_base.specs.declared.ask.FrontAnswer.{FrontAnswer}
use Rattle.blk_base.specs.declared.ask.FrontAnswer.TheVariants.{Word}
use Rattle.blk_front.specs.declared.request.Request.{Request}
use Rattle.blk_front.specs.declared.stage.FrontStage.{FrontStage}
use Rattle.blk_front.specs.declared.stage.FrontStage.TheVariants as stage
use Rattle.blk_front.specs.Ask.{ask_at, loop_ask, is_through}
use Rattle.blk_front.specs.Step.{step_at, loop_step, is_mapped, broken, at, ring_left}
use Rattle.blk_front.specs.Submit.{is_connected}
use Rattle.blk_front.specs.View.{View, next_request}
use Rattle.hypervisor.specs.Hypervisor.{Hypervisor}
use Rattle.hypervisor.specs.Act.{FrontAct, front_act}
use Rattle.pipeline_laws.specs.Pipeline.{Pipeline}
use Rattle.split_model.specs.World.{World}
use Rattle.split_model.specs.Happening.{front_turn, front_after}
use Rattle.split_model.proofs.Acting.{FrontActs, FrontEvent, FrontWatched, front_acts}
use Rattle.machine_pipeline.proofs.Over.{Over}

-- with no request left none is next
none_next : (waiting : ℕ) (requests : List Request) → requests ≡ [] → (if waiting == 0 then None else slice_get requests (length requests - waiting)) ≡ None
none_next waiting requests none = rw none (cond_both (waiting == 0) _ _ (λ (r : Option Request). r ≡ None) (λ t. refl) (λ t. refl))

-- what holds of the indices and of what it saw of the back's
module _ (Holds : Ring → ℕ → Type 0) where
  abbrev HasKept : View → Type 0
  HasKept v = Holds v.ring.indices v.ring.seen

  -- it takes an event or a watch
  waited : (h : Hypervisor) (v : View) (a : FrontAct) → HasKept v → FrontActs h Wait a → HasKept (loop_step v None a.answer)
  waited h v a kept FrontEvent = kept
  waited h v a kept (FrontWatched path next) = kept

  -- in its loop it closes, and has no request left: it waits
  loop_keeps : (config : Options) (w : World) (d : Pipeline) (a : FrontAct) → Over config w d w.front.stage w.back.stage → HasKept w.front → front_act w.under (ask_at stage.Loop w.front) ≡ Some a → HasKept (step_at stage.Loop w.front a.answer)
  loop_keeps config w d a o kept e =
      let none : next_request w.front ≡ None = none_next w.front.waiting w.front.requests o.no_request in
      let sleeps : (w.front.ring.asleep || is_through w.front) ≡ true = or_right w.front.ring.asleep (is_through w.front) (rw (o.closes, o.no_request) refl) in
      let next : loop_ask w.front (next_request w.front) ≡ loop_ask w.front None = ap (loop_ask w.front) none in
      let asked : loop_ask w.front None ≡ Wait = rw sleeps refl in
      subst (λ (n : Option Request). HasKept (loop_step w.front n a.answer)) (sym none)
      (waited w.under w.front a kept (front_acts w.under Wait a (sym (ap (front_act w.under) (next ∙ asked)) ∙ e)))

  -- the grant of a page of the ring is ended
  read_keeps : (v : View) (page : ℕ) (a : FrontAnswer) → HasKept v → HasKept (step_at (stage.RingRead page) v a)
  read_keeps v page (Word word) kept = cond_both (is_mapped word) (broken word v) (at (stage.RingEnd page word) v) HasKept (λ t. kept) (λ t. kept)
  read_keeps v page a kept = kept

  end_keeps : (v : View) (page before : ℕ) (a : FrontAnswer) → HasKept v → HasKept (step_at (stage.RingEnd page before) v a)
  end_keeps v page before (Word word) kept = cond_both (word == before) (at (ring_left v page) v) (broken word v) HasKept (λ t. kept) (λ t. kept)
  end_keeps v page before a kept = kept

  step_keeps : (config : Options) (w : World) (d : Pipeline) (a : FrontAct) (s : FrontStage) → is_connected s ≡ true → Over config w d w.front.stage w.back.stage → Over config w d s w.back.stage → HasKept w.front → front_act w.under (ask_at s w.front) ≡ Some a → HasKept (step_at s w.front a.answer)
  step_keeps config w d a (stage.RingWord k) on here o kept e = absurd (true≢false (sym on))
  step_keeps config w d a stage.Initialised on here o kept e = kept
  step_keeps config w d a stage.Loop on here o kept e = loop_keeps config w d a here kept e
  step_keeps config w d a (stage.RingRead page) on here o kept e = read_keeps w.front page a.answer kept
  step_keeps config w d a (stage.RingEnd page before) on here o kept e = end_keeps w.front page before a.answer kept
  step_keeps config w d a stage.ClosePort on here o kept e = kept
  step_keeps config w d a stage.Left on here o kept e = kept
  step_keeps config w d a stage.Closed on here o kept e = kept
  step_keeps config w d a s on here o kept e = absurd o.front_at

  pub front_keeps : (config : Options) (w : World) (d : Pipeline) → is_connected w.front.stage ≡ true → Over config w d w.front.stage w.back.stage → HasKept w.front → HasKept (let x : World = front_after w (front_turn w) in x.front)
  front_keeps config w d on o kept = by_act (front_turn w) refl
    where
      by_act : (x : Option FrontAct) → front_turn w ≡ x → HasKept (let y : World = front_after w x in y.front)
      by_act None e = kept
      by_act (Some a) e = step_keeps config w d a w.front.stage on o o kept e
