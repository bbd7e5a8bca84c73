-- The ring has as many pages as the front wished, where no other order is agreed.
use Rattle.std.proofs.Common.{◌≡◌, ℕ, refl, sym, ap, ◌∙◌}
use Rattle.std.specs.Prelude.{Option, Some, None}
use Rattle.ring_words.specs.Shape.{Shape}
use Rattle.hypervisor.specs.Act.{FrontAct, BackAct, Took}
use Rattle.blk_front.specs.declared.state.FrontState.{FrontState}
use Rattle.blk_front.specs.declared.state.FrontState.TheVariants as state
use Rattle.blk_front.specs.View as front
use Rattle.blk_front.specs.State.{in_state}
use Rattle.split_model.specs.World.{World}
use Rattle.split_model.specs.Happening.{Happening, FrontMoves, BackMoves, JobMoves, FrontEnters, Submits, Suspends, happens, front_after, back_after, job_after, front_turn, back_turn, job_turn}
use Rattle.blk_back.specs.Ask.{is_led}
use Rattle.split_model.specs.Kept.{KeepingHappening, Plainly, BackOffers, BackKeeps, offered, reads_keeping, kept_so, back_after_keeping, job_turn_keeping, job_after_keeping, plainly_after, happens_keeping}
use Rattle.split_model.proofs.States.{enters_cases}
use Rattle.split_model.proofs.Shapes.{step_shape}
use Rattle.split_model.proofs.Narrow.{submit_shape}
use Rattle.split_model.proofs.Suspending.{suspend_cases, front_kept}
use Rattle.move_laws.specs.Dumped.{IsWished}
use Rattle.move_laws.specs.Kept.{IsWishedKeeping}
use Rattle.move_laws.proofs.KeptLines.{either_world}

abbrev pub HasOrder : (order : ℕ) → World → Type 0
HasOrder order w = w.front.shape.order ≡ order

order_of : (a b : Shape) → a ≡ b → a.order ≡ b.order
order_of a b e = ap (λ (s : Shape). s.order) e

front_order : (order : ℕ) (w : World) (act : Option FrontAct) → HasOrder order w → HasOrder order (front_after w act)
front_order order w None is = is
front_order order w (Some a) is = order_of _ _ (step_shape w.front a.answer) ∙ is

back_order : (order : ℕ) (w : World) (act : Option BackAct) → HasOrder order w → HasOrder order (back_after w act)
back_order order w None is = is
back_order order w (Some a) is = is

job_order : (order : ℕ) (w : World) (number : ℕ) (act : Option BackAct) → HasOrder order w → HasOrder order (job_after w number act)
job_order order w number None is = is
job_order order w number (Some a) is = is

entered : (order : ℕ) (s : FrontState) (v : front.View) → IsWished order (FrontEnters s) → v.shape.order ≡ order → (let x : front.View = in_state s v in x.shape.order ≡ order)
entered order (state.Agreed agreed) v wished is = wished
entered order other v wished is = is

pub order_happens : (order : ℕ) (w : World) (h : Happening) → IsWished order h → HasOrder order w → HasOrder order (happens w h)
order_happens order w FrontMoves wished is = front_order order w (front_turn w) is
order_happens order w BackMoves wished is = back_order order w (back_turn w Took) is
order_happens order w (JobMoves number outcome) wished is = job_order order w number (job_turn w number outcome) is
order_happens order w (FrontEnters s) wished is = enters_cases (λ (v : front.View) shown. v.shape.order ≡ order) s w.front (λ may. entered order s w.front wished is) is
order_happens order w (Submits job) wished is = order_of _ _ (submit_shape w.front job) ∙ is
order_happens order w Suspends wished is = suspend_cases (λ v shown. HasOrder order v) w (λ may. order_of _ _ (front_kept w.front).shape ∙ is) is
order_happens order w h wished is = is

-- where mappings may be kept the fronts go alike
back_front : (w : World) (act : Option BackAct) → (let x : World = back_after_keeping w act in x.front) ≡ (let x : World = back_after w act in x.front)
back_front w None = refl
back_front w (Some a) = refl

job_front : (w : World) (number : ℕ) (act : Option BackAct) → (let x : World = job_after w number act in x.front) ≡ w.front
job_front w number None = refl
job_front w number (Some a) = refl

kept_job_front : (w : World) (number : ℕ) (act : Option BackAct) → (let x : World = job_after_keeping w number act in x.front) ≡ w.front
kept_job_front w number None = refl
kept_job_front w number (Some a) = refl

fronts_alike : (w : World) (h : Happening) → (let x : World = plainly_after w h in x.front) ≡ (let x : World = happens w h in x.front)
fronts_alike w BackMoves = back_front w (back_turn w Took)
fronts_alike w (JobMoves number outcome) = kept_job_front w number (job_turn_keeping w number outcome) ∙ sym (job_front w number (job_turn w number outcome))
fronts_alike w h = refl

pub order_keeping : (order : ℕ) (w : World) (h : KeepingHappening) → IsWishedKeeping order h → HasOrder order w → HasOrder order (happens_keeping w h)
order_keeping order w (Plainly h) wished is = ap (λ (f : front.View). f.shape.order) (fronts_alike w h) ∙ order_happens order w h wished is
order_keeping order w BackOffers wished is = either_world (HasOrder order) (is_led w.back.stage) (offered w) w (λ led. is) is
order_keeping order w (BackKeeps cap) wished is = either_world (HasOrder order) (reads_keeping w cap) (kept_so w cap) w (λ reads. is) is
