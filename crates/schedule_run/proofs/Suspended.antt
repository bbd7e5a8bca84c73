-- The runner's machine after a suspend, or where none came.
use Rattle.std.proofs.Common.{◌≡◌, ◌+◌, ◌≤◌, Bool, true, false, if◌then◌else◌, [], ◌∷◌, inl, inr, refl, sym, ap, ◌∙◌, subst}
use Rattle.std.specs.Prelude.{Result, Err, None}
use Rattle.blk_io.specs.Disk.{DiskSeen}
use Rattle.schedule_text.specs.declared.line.Line.TheVariants.{Epoch}
use Rattle.schedule_text.specs.declared.recorder.RecordStop.{RecordStop}
use Rattle.schedule_text.specs.declared.recorder.RecordStop.TheVariants.{OutOfMemory}
use Rattle.schedule_text.specs.Recorder.{RecorderSeen, Adds}
use Rattle.hypervisor.specs.Hypervisor.{Hypervisor}
use Rattle.hypervisor.specs.Suspend.{suspended as under_suspended}
use Rattle.blk_front.specs.State.{is_open}
use Rattle.blk_front.specs.Suspend as front_ring
use Rattle.xenbus_state.specs.FrontView as bus
use Rattle.split_model.specs.World.{may_suspend, state_after}
use Rattle.split_model.specs.Happening as ring
use Rattle.vbd_front.specs.View as front_view
use Rattle.vbd_front.specs.Step as front_step
use Rattle.vbd_back.specs.View as back_view
use Rattle.vbd_model.specs.World.{World}
use Rattle.vbd_model.specs.Fit.{IsFit}
use Rattle.vbd_model.specs.Happening.{Suspends, Looks, happens}
use Rattle.vbd_model.specs.Kind.{IsSuspend, IsSuspendSoFar}
use Rattle.vbd_model.specs.Leads.{moment, Goes}
use Rattle.vbd_model.specs.Mappings.{mappings_of}
use Rattle.vbd_model.proofs.Mappings.{ring_left}
use Rattle.vbd_model.proofs.Keeping.{sectors_kept}
use Rattle.vbd_model.proofs.Running.{goes_lacking}
use Rattle.vbd_laws.proofs.Fit.{fit_happens}
use Rattle.schedule_run.specs.Inside.{world_of, HasHeard}
use Rattle.schedule_run.proofs.Moving.{goes_here}

-- what the runner makes of both ends and of what lies under them is what a suspend makes of the machine
pub suspended_is : (v : front_view.View) (b : back_view.View) (u : Hypervisor) (f : front_view.View) (n : back_view.View) (x : Hypervisor) (going : Bool)
    → going ≡ is_open v.ring.stage → may_suspend (let w : World = world_of v b u in w.rings) ≡ true
    → f ≡ front_step.suspended v → n ≡ back_view.renewed v.ring.start going b → x ≡ under_suspended (state_after going) u
    → world_of f n x ≡ happens (world_of v b u) Suspends
suspended_is v b u f n x going e may fs ns xs = rw (fs, ns, xs) (by_going going e)
  where
    by_going : (g : Bool) → g ≡ is_open v.ring.stage → world_of (front_step.suspended v) (back_view.renewed v.ring.start g b) (under_suspended (state_after g) u) ≡ happens (world_of v b u) Suspends
    by_going true e = rw (may, sym e) refl
    by_going false e = rw (may, sym e) refl

-- what is left to tell stays
pub still_heard : (v f : front_view.View) → f ≡ front_step.suspended v → HasHeard v → HasHeard f
still_heard v f e heard = ap (λ (x : front_view.View). x.news) e ∙ by_open (is_open v.ring.stage)
  where
    by_open : (b : Bool) → (let x : front_view.View = (if b then record { ring = front_ring.suspended v.ring; bus = bus.suspended v.bus; news = v.news } else v) in x.news) ≡ None
    by_open true = heard
    by_open false = heard

pub suspended_fit : (w v : World) → v ≡ happens w Suspends → IsFit w → IsFit v
suspended_fit w v same fit = subst IsFit (sym same) (fit_happens w Suspends fit)

pub suspended_goes : (w v : World) (c : DiskSeen) (r s : RecorderSeen) (result : Result (Unit {0}) RecordStop) → may_suspend w.rings ≡ true → v ≡ happens w Suspends → Adds (Epoch ∷ []) result r s
    → Goes (IsSuspend w) (IsSuspendSoFar w) 0 result (moment w c r) (moment v c s)
suspended_goes w v c r s result may same told =
    goes_here (IsSuspend w) (IsSuspendSoFar w) 0 Suspends w v c c r s result (refl, may) (inl (refl, may)) same
    (subst (λ (x : World). mappings_of x ≤ mappings_of w + 0) (sym same) (ring_left w.rings ring.Suspends))
    (ap (λ (x : World). x.rings.back.jobs.info.sectors) same ∙ sectors_kept w Suspends)
    (c, refl, refl)
    (rw may told)

-- nothing happened, for want of memory or of a port number
pub suspend_lacks : (w v : World) (c : DiskSeen) (r : RecorderSeen) → v ≡ w → Goes (IsSuspend w) (IsSuspendSoFar w) 0 (Err OutOfMemory) (moment w c r) (moment v c r)
suspend_lacks w v c r same = rw same (by_may (may_suspend w.rings) refl)
  where
    by_may : (b : Bool) → may_suspend w.rings ≡ b → Goes (IsSuspend w) (IsSuspendSoFar w) 0 (Err OutOfMemory) (moment w c r) (moment w c r)
    by_may true may = goes_lacking (IsSuspend w) (IsSuspendSoFar w) 0 Suspends (moment w c r) (moment w c r) (inl (refl, may)) tt refl refl refl
    by_may false none = goes_lacking (IsSuspend w) (IsSuspendSoFar w) 0 (Looks false) (moment w c r) (moment w c r) (inr (refl, none)) none refl refl refl
