-- The front's ring never gets more pages than it wished.
use Rattle.std.proofs.Common.{◌≡◌, ℕ, ◌+◌, ◌≤◌, ◌&&◌, Bool, true, false, not, if◌then◌else◌, List, [], ◌∷◌, refl, ap, arith}
use Rattle.std.specs.Prelude.{Option, Some, None, Result, Err, nat_lt, nat_le, ◌==◌}
use Rattle.blk_base.specs.declared.config.Submission.{Submission}
use Rattle.ring_words.specs.Shape.{Shape, entries_of}
use Rattle.hypervisor.specs.Act.{FrontAct, BackAct}
use Rattle.blk_base.specs.declared.refusal.Refusal.{Refusal}
use Rattle.blk_base.specs.declared.refusal.Refusal.TheVariants as refusal
use Rattle.blk_front.specs.declared.request.Wish.{Wish}
use Rattle.blk_front.specs.Pool.{taking}
use Rattle.blk_front.specs.Request.{is_write, named_of, frames_for}
use Rattle.blk_front.specs.View.{View}
use Rattle.blk_front.specs.Submit.{is_ready, unfinished, wish_of, most_segments, frames_taken, submit_with, submit_one, submit_of}
use Rattle.split_model.specs.World.{World}
use Rattle.split_model.specs.Happening.{Happening, FrontMoves, BackMoves, JobMoves, FrontEnters, Submits, Suspends, happens, after, front_after, back_after, job_after, front_turn, back_turn, job_turn}
use Rattle.hypervisor.specs.Act.{Took}
use Rattle.split_model.proofs.States.{enters_cases}
use Rattle.split_model.proofs.Suspending.{suspend_cases, front_kept}
use Rattle.split_model.proofs.Shapes.{step_shape, entered_order}

either : (b : Bool) (x y : Result ℕ Refusal × View) (s : Shape) → x.1.shape ≡ s → y.1.shape ≡ s → (if b then x else y).1.shape ≡ s
either true x y s p q = p
either false x y s p q = q

with_frames : (v : View) (wish : Wish) (taken : Option (List ℕ × List Bool)) → (submit_with v wish taken).1.shape ≡ v.shape
with_frames v wish None = refl
with_frames v wish (Some taken) = refl

wish_shape : (v : View) (wish : Option Wish) → (submit_one v wish).1.shape ≡ v.shape
wish_shape v None = refl
wish_shape v (Some wish) =
    let frames = taking (frames_taken wish.count) v.pool [] in
    let unless_full = if nat_le (entries_of v.shape.order) (unfinished v) then (Err refusal.Full, v) else submit_with v wish frames in
    let unless_long = if nat_lt (most_segments v.offers wish.transfer) (frames_for wish.count) then (Err refusal.Long, v) else unless_full in
    either (is_write wish.transfer && v.offers.read_only) (Err refusal.ReadOnly, v) (if nat_lt v.offers.sectors (wish.sector + named_of wish.transfer wish.count) then (Err refusal.Range, v) else unless_long) v.shape refl
    (either (nat_lt v.offers.sectors (wish.sector + named_of wish.transfer wish.count)) (Err refusal.Range, v) unless_long v.shape refl
    (either (nat_lt (most_segments v.offers wish.transfer) (frames_for wish.count)) (Err refusal.Long, v) unless_full v.shape refl
    (either (nat_le (entries_of v.shape.order) (unfinished v)) (Err refusal.Full, v) (submit_with v wish frames) v.shape refl (with_frames v wish frames))))

-- a submission leaves the shape
pub submit_shape : (v : View) (job : Submission) → (submit_of v job).1.shape ≡ v.shape
submit_shape v job =
    let unless_unready = if not (is_ready v.stage) then (Err refusal.NotReady, v) else submit_one v (wish_of v.offers job) in
    either (v.last == 4294967295) (Err refusal.Spent, v) (if v.closing then (Err refusal.Closing, v) else unless_unready) v.shape refl
    (either v.closing (Err refusal.Closing, v) unless_unready v.shape refl
    (either (not (is_ready v.stage)) (Err refusal.NotReady, v) (submit_one v (wish_of v.offers job)) v.shape refl (wish_shape v (wish_of v.offers job))))

abbrev IsNarrower : World → World → Type 0
IsNarrower w v = v.front.shape.order ≤ w.front.shape.order

front_narrow : (w : World) (act : Option FrontAct) → IsNarrower w (front_after w act)
front_narrow w None = omega arith
front_narrow w (Some a) = let same = ap (λ (s : Shape). s.order) (step_shape w.front a.answer) in rw same (omega arith)

back_narrow : (w : World) (act : Option BackAct) → IsNarrower w (back_after w act)
back_narrow w None = omega arith
back_narrow w (Some a) = omega arith

job_narrow : (w : World) (number : ℕ) (act : Option BackAct) → IsNarrower w (job_after w number act)
job_narrow w number None = omega arith
job_narrow w number (Some a) = omega arith

pub happens_narrow : (w : World) (h : Happening) → (let v : World = happens w h in v.front.shape.order) ≤ w.front.shape.order
happens_narrow w FrontMoves = front_narrow w (front_turn w)
happens_narrow w BackMoves = back_narrow w (back_turn w Took)
happens_narrow w (JobMoves number outcome) = job_narrow w number (job_turn w number outcome)
happens_narrow w (FrontEnters state) = enters_cases (λ v shown. v.shape.order ≤ w.front.shape.order) state w.front (λ may. entered_order state w.front may) (omega arith)
happens_narrow w (Submits job) = let same = ap (λ (s : Shape). s.order) (submit_shape w.front job) in rw same (omega arith)
happens_narrow w Suspends = suspend_cases (λ v shown. IsNarrower w v) w (λ may. let same = ap (λ (s : Shape). s.order) (front_kept w.front).shape in rw same (omega arith)) (omega arith)
happens_narrow w h = omega arith

pub after_narrow : (hs : List Happening) (w : World) → (let v : World = after hs w in v.front.shape.order) ≤ w.front.shape.order
after_narrow [] w = omega arith
after_narrow (h ∷ hs) w = let one = happens_narrow w h in let rest = after_narrow hs (happens w h) in omega (arith, one, rest)
