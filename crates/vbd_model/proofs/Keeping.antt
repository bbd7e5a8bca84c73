-- What stays, whatever happens: what is attached, and the sectors that the back has.
use Rattle.std.proofs.Common.{◌≡◌, ℕ, List, [], ◌∷◌, Option, Some, None, refl, ◌∙◌, ap}
use Rattle.blk_io.specs.Disk.{DiskSeen}
use Rattle.hypervisor.specs.Act.{FrontAct, BackAct, Took}
use Rattle.segment_list.specs.declared.verdict.DiskInfo.{DiskInfo}
use Rattle.blk_back.proofs.Hands.{step_info, job_step_info}
use Rattle.split_model.specs.World as rings
use Rattle.split_model.specs.Happening as ring
use Rattle.split_model.proofs.Attaching.{attach_cases}
use Rattle.split_model.proofs.Running.{runs_attachment as ring_runs_attachment}
use Rattle.split_model.proofs.States.{halts_cases}
use Rattle.split_model.proofs.Suspending.{suspend_cases, suspended_info}
use Rattle.vbd_model.specs.World.{World}
use Rattle.vbd_model.specs.Happening.{Happening, does, happens, after, DiskGoes}

-- what is attached stays, whatever happens
pub disk_attachment : (w : World) (h : Happening) (a b : DiskSeen) → DiskGoes w h a b → b.attachment ≡ a.attachment
disk_attachment w h a b p = ring_runs_attachment (does w h) w.rings a b p

abbrev info_of : rings.World → DiskInfo
info_of w = w.back.jobs.info

front_info_at : (w : rings.World) (act : Option FrontAct) → info_of (ring.front_after w act) ≡ info_of w
front_info_at w None = refl
front_info_at w (Some a) = refl

back_info_at : (w : rings.World) (act : Option BackAct) → info_of (ring.back_after w act) ≡ info_of w
back_info_at w None = refl
back_info_at w (Some a) = step_info w.back a.answer

job_info_at : (w : rings.World) (number : ℕ) (act : Option BackAct) → info_of (ring.job_after w number act) ≡ info_of w
job_info_at w number None = refl
job_info_at w number (Some a) = job_step_info w.back number a.answer

-- what happens to the ring's machine leaves the disk as the back has it
ring_info_kept : (w : rings.World) (h : ring.Happening) → info_of (ring.happens w h) ≡ info_of w
ring_info_kept w ring.FrontMoves = front_info_at w (ring.front_turn w)
ring_info_kept w ring.BackMoves = back_info_at w (ring.back_turn w Took)
ring_info_kept w (ring.JobMoves number outcome) = job_info_at w number (ring.job_turn w number outcome)
ring_info_kept w (ring.BackAttaches shape grefs port) = attach_cases (λ b shown. b.jobs.info ≡ info_of w) w shape grefs port (λ may layout says. refl) refl
ring_info_kept w (ring.BackHalts why) = halts_cases (λ b. b.jobs.info ≡ info_of w) why w.back (λ here. refl) (λ here. refl) refl
ring_info_kept w ring.Suspends = suspend_cases (λ v shown. info_of v ≡ info_of w) w (λ may. suspended_info w) refl
ring_info_kept w h = refl

ring_info_after : (hs : List ring.Happening) (w : rings.World) → info_of (ring.after hs w) ≡ info_of w
ring_info_after [] w = refl
ring_info_after (h ∷ hs) w = ring_info_after hs (ring.happens w h) ∙ ring_info_kept w h

-- the back's disk has as many sectors, whatever happens
pub sectors_kept : (w : World) (h : Happening) → (let v : World = happens w h in v.rings.back.jobs.info.sectors) ≡ w.rings.back.jobs.info.sectors
sectors_kept w h = ap (λ (i : DiskInfo). i.sectors) (ring_info_after (does w h) w.rings)

pub sectors_after : (hs : List Happening) (w : World) → (let v : World = after hs w in v.rings.back.jobs.info.sectors) ≡ w.rings.back.jobs.info.sectors
sectors_after [] w = refl
sectors_after (h ∷ hs) w = sectors_after hs (happens w h) ∙ sectors_kept w h
