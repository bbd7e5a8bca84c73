-- What a suspend leaves of the machine: of the front its frames and its disk, of the back its disk, and the numbers of mappings and of ports.
use Rattle.std.proofs.Common.{◌≡◌, ◌<◌, Bool, true, false, if◌then◌else◌, List, [], ◌∷◌, refl, arith}
use Rattle.std.specs.Prelude.{None}
use Rattle.std.specs.List.{AllByRecursion}
use Rattle.std.proofs.lemmas.Bool.Decides.{nat_tests}
use Rattle.schedule_text.specs.declared.line.Line.{Line}
use Rattle.schedule_text.specs.declared.line.Line.TheVariants.{Epoch}
use Rattle.hypervisor.specs.Suspend.{suspended as under_suspended}
use Rattle.blk_front.specs.State.{is_open}
use Rattle.blk_front.specs.Suspend.{resumed, suspended as front_suspended}
use Rattle.blk_front.specs.View as front
use Rattle.blk_base.specs.declared.halt.Halt.TheVariants as halt
use Rattle.blk_back.specs.Hands.{hands_of}
use Rattle.blk_back.specs.Step.{halts}
use Rattle.blk_back.specs.View as back
use Rattle.split_model.specs.World.{World, new_back, back_for, state_after, may_suspend, suspended}
use Rattle.split_model.specs.Happening.{Suspends, happens, lines_at}

-- either another port may be made, and the machine is suspended and shows it, or nothing happens
pub suspend_cases : (P : World → List Line → Type 0) (w : World) → (may_suspend w ≡ true → P (suspended w) (Epoch ∷ [])) → P w [] → P (happens w Suspends) (lines_at w Suspends)
suspend_cases P w suspends none = by_test (may_suspend w) refl
  where
    by_test : (b : Bool) → may_suspend w ≡ b → P (if b then suspended w else w) (if b then Epoch ∷ [] else [])
    by_test true may = suspends may
    by_test false may = none

pub ports_left_then : (w : World) → may_suspend w ≡ true → w.under.channels.made < 4294967294
ports_left_then w may = grind (arith, nat_tests)

-- its line is of this kind, where that one is
pub suspend_lines_are : (P : Line → Type 0) (w : World) → P Epoch → AllByRecursion P (lines_at w Suspends)
suspend_lines_are P w is = suspend_cases (λ v shown. AllByRecursion P shown) w (λ may. (is, tt)) tt

-- a front that is open begins anew, and another stays as it is
pub front_cases : (P : front.View → Type 0) (v : front.View) → (is_open v.stage ≡ true → P (resumed v)) → (is_open v.stage ≡ false → P v) → P (front_suspended v)
front_cases P v anew still = by_test (is_open v.stage) refl
  where
    by_test : (b : Bool) → is_open v.stage ≡ b → P (if b then resumed v else v)
    by_test true e = anew e
    by_test false e = still e

-- what a suspend leaves of the front
pub record IsKept (v x : front.View) : Type 0 where
  pub start : x.start ≡ v.start
  pub shape : x.shape ≡ v.shape
  pub closing : x.closing ≡ v.closing
  pub last : x.last ≡ v.last
  pub pool : x.pool ≡ v.pool
  pub told : x.told ≡ v.told

pub front_kept : (v : front.View) → IsKept v (front_suspended v)
front_kept v =
    front_cases (IsKept v) v
    (λ on. record { start = refl; shape = refl; closing = refl; last = refl; pool = refl; told = refl })
    (λ closed. record { start = refl; shape = refl; closing = refl; last = refl; pool = refl; told = refl })

-- the back that begins then, and the one whose front is gone
abbrev pub begun_back : World → back.View
begun_back w = let b : back.View = w.back in new_back w.front.start b.jobs.info

abbrev pub gone_back : World → back.View
gone_back w = halts (halt.Gone 6) (begun_back w)

-- the machine whose front was open, and the one whose front was not
abbrev pub begun_world : World → World
begun_world w = record { front = resumed w.front; back = begun_back w; under = under_suspended (state_after true) w.under }

abbrev pub gone_world : World → World
gone_world w = record { front = w.front; back = gone_back w; under = under_suspended (state_after false) w.under }

pub suspended_cases : (P : World → Type 0) (w : World) → (is_open w.front.stage ≡ true → P (begun_world w)) → (is_open w.front.stage ≡ false → P (gone_world w)) → P (suspended w)
suspended_cases P w begun gone = by_test (is_open w.front.stage) refl
  where
    by_test : (b : Bool) → is_open w.front.stage ≡ b → P (record { front = if b then resumed w.front else w.front; back = back_for b (begun_back w); under = under_suspended (state_after b) w.under })
    by_test true e = begun e
    by_test false e = gone e

-- what holds of both backs holds of the back after a suspend
pub back_cases : (P : back.View → Type 0) (w : World) → P (begun_back w) → P (gone_back w) → P (let v : World = suspended w in v.back)
back_cases P w begun gone = suspended_cases (λ (v : World). P v.back) w (λ on. begun) (λ closed. gone)

-- it holds no mapping, knows the disk, and has nothing to tell
pub suspended_hands : (w : World) → hands_of (let v : World = suspended w in v.back) ≡ []
suspended_hands w = back_cases (λ (b : back.View). hands_of b ≡ []) w refl refl

pub suspended_info : (w : World) → (let v : World = suspended w in v.back.jobs.info) ≡ w.back.jobs.info
suspended_info w = back_cases (λ (b : back.View). b.jobs.info ≡ w.back.jobs.info) w refl refl

pub suspended_told : (w : World) → (let v : World = suspended w in v.back.told) ≡ None
suspended_told w = back_cases (λ (b : back.View). b.told ≡ None) w refl refl

pub suspended_made : (w : World) → (let v : World = suspended w in v.under.channels.made) ≡ w.under.channels.made
suspended_made w = refl
