-- The front has begun to close exactly where a `closing` line says so, whatever happens.
use Rattle.std.proofs.Common.{◌≡◌, ℕ, Bool, true, false, ◌||◌, if◌then◌else◌, List, [], ◌∷◌, ◌++◌, refl, sym, ap, ◌∙◌}
use Rattle.std.specs.Prelude.{Option, Some, None}
use Rattle.std.specs.List.{AllByRecursion}
use Rattle.schedule_text.specs.declared.line.Line.{Line}
use Rattle.schedule_text.specs.declared.line.Line.TheVariants as lines
use Rattle.hypervisor.specs.Act.{FrontAct, BackAct}
use Rattle.blk_front.specs.declared.state.FrontState.{FrontState}
use Rattle.blk_front.specs.declared.state.FrontState.TheVariants as state
use Rattle.blk_front.specs.State.{in_state}
use Rattle.blk_front.specs.View as front
use Rattle.report_laws.proofs.Closing.{step_keeps, submit_keeps}
use Rattle.split_model.specs.World.{World, may_suspend, suspended}
use Rattle.split_model.specs.Happening as ring
use Rattle.split_model.specs.Happening.{Happening, FrontMoves, BackMoves, JobMoves, Negotiates, FrontEnters, BackAttaches, BackHalts, Submits, Suspends}
use Rattle.split_model.specs.Shown.{state_lines}
use Rattle.split_model.proofs.Outside.{leaves_ends}
use Rattle.split_model.proofs.Showing.{MayShow, lines_are}
use Rattle.split_model.proofs.States.{enters_cases}
use Rattle.split_model.proofs.Suspending.{front_kept}
use Rattle.vbd_laws.specs.StateLines.{StateSight, is_closing, after, from}

pub from-append : (k : StateSight) (a b : List Line) → from k (a ++ b) ≡ from (from k a) b
from-append k [] b = refl
from-append k (line ∷ a) b = from-append (after k line) a b

-- lines that aren't `closing`
plain_begun : (k : StateSight) (ls : List Line) → AllByRecursion (λ (line : Line). is_closing line ≡ false) ls → (from k ls).begun ≡ k.begun
plain_begun k [] plain = refl
plain_begun k (line ∷ ls) plain = plain_begun (after k line) ls plain.1 ∙ ap (λ (b : Bool). b || k.begun) plain.0

-- what happens to the ring's machine leaves whether its front closes, but for the state that is entered then
abbrev Leaves : World → Happening → Type 0
Leaves w x = (let v : World = ring.happens w x in v.front.closing) ≡ w.front.closing

front_leaves : (w : World) (act : Option FrontAct) → (let v : World = ring.front_after w act in v.front.closing) ≡ w.front.closing
front_leaves w None = refl
front_leaves w (Some a) = step_keeps w.front.stage w.front a.answer

back_leaves : (w : World) (act : Option BackAct) → (let v : World = ring.back_after w act in v.front.closing) ≡ w.front.closing
back_leaves w None = refl
back_leaves w (Some a) = refl

job_leaves : (w : World) (number : ℕ) (act : Option BackAct) → (let v : World = ring.job_after w number act in v.front.closing) ≡ w.front.closing
job_leaves w number None = refl
job_leaves w number (Some a) = refl

suspend_leaves : (w : World) → Leaves w Suspends
suspend_leaves w = elim (may_suspend w) as (λ may. (let v : World = (if may then suspended w else w) in v.front.closing) ≡ w.front.closing) [ true ↦ (front_kept w.front).closing | false ↦ refl ]

abbrev IsOther : Happening → Type 0
IsOther (FrontEnters s) = ⊥
IsOther x = Unit {0}

leaves : (w : World) (x : Happening) → IsOther x → Leaves w x
leaves w FrontMoves other = front_leaves w (ring.front_turn w)
leaves w BackMoves other = back_leaves w _
leaves w (JobMoves number outcome) other = job_leaves w number _
leaves w (FrontEnters s) other = absurd other
leaves w (BackAttaches shape grefs port) other = refl
leaves w (BackHalts why) other = refl
leaves w (Submits job) other = submit_keeps w.front job
leaves w Suspends other = suspend_leaves w
leaves w x other = ap (λ (v : front.View). v.closing) (leaves_ends w x tt).front

plain : (x : Happening) (line : Line) → IsOther x → MayShow x line → is_closing line ≡ false
plain (FrontEnters s) line other shows = absurd other
plain x lines.Closing other shows = absurd shows
plain x line other shows = refl

-- where the state is entered that line is shown
entered : (k : StateSight) (s : FrontState) (v : front.View) → k.begun ≡ v.closing → (from k (state_lines s)).begun ≡ (in_state s v).closing
entered k state.Closing v same = refl
entered k other v same = same

enters_begun : (k : StateSight) (s : FrontState) (w : World) → k.begun ≡ w.front.closing → (from k (ring.lines_at w (FrontEnters s))).begun ≡ (let v : World = ring.happens w (FrontEnters s) in v.front.closing)
enters_begun k s w same = enters_cases (λ (v : front.View) (shown : List Line). (from k shown).begun ≡ v.closing) s w.front (λ may. entered k s w.front same) same

one : (k : StateSight) (x : Happening) (w : World) → k.begun ≡ w.front.closing → (from k (ring.lines_at w x)).begun ≡ (let v : World = ring.happens w x in v.front.closing)
one k (FrontEnters s) w same = enters_begun k s w same
one k x w same = plain_begun k (ring.lines_at w x) (lines_are (λ (line : Line). is_closing line ≡ false) w x (λ line shows. plain x line tt shows)) ∙ (same ∙ sym (leaves w x tt))

pub begun : (xs : List Happening) (k : StateSight) (w : World) → k.begun ≡ w.front.closing → (from k (ring.lines_of xs w)).begun ≡ (let v : World = ring.after xs w in v.front.closing)
begun [] k w same = same
begun (x ∷ xs) k w same = ap (λ (f : StateSight). f.begun) (from-append k (ring.lines_at w x) (ring.lines_of xs (ring.happens w x))) ∙ begun xs (from k (ring.lines_at w x)) (ring.happens w x) (one k x w same)
