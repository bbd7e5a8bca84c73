-- A move of each job, by number.
use Rattle.std.proofs.Common.{◌≡◌, ℕ, ◌≤◌, Some, None, Ok, Err, refl, sym, ap, ◌∙◌, arith}
use Rattle.blk_io.specs.Disk.{sectors_of}
use Rattle.schedule_text.specs.declared.recorder.RecordStop.{RecordStop}
use Rattle.blk_back.specs.Step.{next_job_of}
use Rattle.vbd_model.specs.World.{World}
use Rattle.vbd_model.specs.Kind.{AreEachJobs, AreAllJobs, HasEachJobs, IsJobMove}
use Rattle.vbd_model.specs.Leads.{Moment, Leads, Goes, IsReadyFor}
use Rattle.vbd_model.specs.Mappings.{mappings_of}
use Rattle.vbd_model.proofs.Running.{leads_nowhere, leads_on, leads_into, stops_on}
use Rattle.vbd_model.proofs.Joining.{each_more}

-- a move of each job up to the last one led here, and came to no mapping more
pub record HasMovedJobs (last : ℕ) (a b : Moment) : Type 0 where
  pub leads : Leads (AreEachJobs 0 last a.world) a b
  pub made : mappings_of b.world ≤ mappings_of a.world
  pub sectors : b.world.rings.back.jobs.info.sectors ≡ a.world.rings.back.jobs.info.sectors
  pub attachment : b.disk.attachment ≡ a.disk.attachment

pub jobs_none : (a : Moment) → HasMovedJobs 0 a a
jobs_none a = record { leads = leads_nowhere (AreEachJobs 0 0 a.world) a refl; made = omega arith; sectors = refl; attachment = refl }

-- the next job may move
pub jobs_ready : (last : ℕ) (a b : Moment) → IsReadyFor 1 a.world a.disk → HasMovedJobs last a b → IsReadyFor 1 b.world b.disk
jobs_ready last a b ready h =
    let made = h.made in
    let room = ready.left in
    record { attached = ap sectors_of h.attachment ∙ (ready.attached ∙ ap Some (sym h.sectors)); left = omega arith }

-- and moved
pub jobs_on : (last next : ℕ) (a b c : Moment) → next_job_of b.world.rings.back last ≡ Some next → HasMovedJobs last a b → Goes (IsJobMove next) (IsJobMove next) 0 (Ok tt) b c → HasMovedJobs next a c
jobs_on last next a b c is h g =
    let made = h.made in
    let then = g.keeps.made in
    record {
      leads = leads_on (AreEachJobs 0 last a.world) (IsJobMove next) (AreEachJobs 0 next a.world) a b c (λ xs ys p here q. each_more last next a.world b.world xs ys is p here q) h.leads g.ends;
      made = omega arith;
      sectors = g.keeps.sectors ∙ h.sectors;
      attachment = g.keeps.attachment ∙ h.attachment;
    }

-- or the recorder stopped it
pub jobs_stop : (last next : ℕ) (stop : RecordStop) (a b c : Moment) → next_job_of b.world.rings.back last ≡ Some next → HasMovedJobs last a b → Goes (IsJobMove next) (IsJobMove next) 0 (Err stop) b c → Goes (AreAllJobs a.world) (HasEachJobs a.world) 0 (Err stop) a c
jobs_stop last next stop a b c is h g =
    let made = h.made in
    let then = g.keeps.made in
    record {
      ends = stops_on (AreEachJobs 0 last a.world) (IsJobMove next) (HasEachJobs a.world) stop a b c (λ xs ys p here q. (next, each_more last next a.world b.world xs ys is p here q)) h.leads g.ends;
      keeps = record { made = omega arith; sectors = g.keeps.sectors ∙ h.sectors; attachment = g.keeps.attachment ∙ h.attachment };
    }

-- none is left
pub jobs_done : (last : ℕ) (a b : Moment) → next_job_of b.world.rings.back last ≡ None → HasMovedJobs last a b → Goes (AreAllJobs a.world) (HasEachJobs a.world) 0 (Ok tt) a b
jobs_done last a b none h =
    let made = h.made in
    record {
      ends = leads_into (AreEachJobs 0 last a.world) (AreAllJobs a.world) a b (λ xs k here. record { to = last; each = k; last = ap (λ (w : World). next_job_of w.rings.back last) (sym here) ∙ none }) h.leads;
      keeps = record { made = omega arith; sectors = h.sectors; attachment = h.attachment };
    }
