-- What a look at both ends says: whether the front is in the middle of a sector's words or of an entry's, a job of a sector's, or the back of an entry's, or waits. Each marks the frame whose words it moves.
use Rattle.std.specs.Prelude.{◌≡◌, ℕ, ◌+◌, ◌<◌, ◌≤◌, true, false, List, length, Option, Some, None, IfSome}
use Rattle.std.specs.List.{AllByRecursion}
use Rattle.blk_base.specs.declared.parts.End.TheVariants as end
use Rattle.hypervisor.specs.Hypervisor.{Hypervisor}
use Rattle.hypervisor.specs.Act.{has_to_take}
use Rattle.blk_back.specs.View as back_ring
use Rattle.blk_back.specs.Part.{job_part}
use Rattle.vbd_front.specs.View.{View, IsUnkept}
use Rattle.vbd_front.specs.Ask.{is_waiting}
use Rattle.vbd_back.specs.View.{View as Backend}
use Rattle.vbd_back.specs.Part.{entry_part}
use Rattle.round_laws.specs.Movers.{FrontWords, front_words, frame_under, BackGoesOn, CallsSay}
use Rattle.round_laws.specs.Calls.{AllComeAndGoOn}
use Rattle.schedule_run.specs.Marks.{is_marked}

-- the front has more than n words left in its sector or its entry, has those that it is to write, and keeps no grants; or it waits with nothing to take
abbrev pub FrontStays : ℕ → View → Hypervisor → Option FrontWords → Type 0
FrontStays n f h (Some p) = (n < p.count) × (p.word + p.count ≤ 1024) × IfSome p.values (λ values. p.count ≤ length values) × IsUnkept f.ring
FrontStays n f h None = (is_waiting f ≡ true) × (has_to_take h end.Front ≡ false)

pub record FrontSays (n : ℕ) (f : View) (h : Hypervisor) (marks : List ℕ) : Type 0 where
  pub stays : FrontStays n f h (front_words f)
  pub marked : IfSome (front_words f) (λ p. is_marked marks p.frame ≡ true)

-- so it is of the back and its ring's frame, which wasn't marked before; what was marked is
pub record BackSays (n : ℕ) (h : Hypervisor) (b : Backend) (before after : List ℕ) : Type 0 where
  pub runs : b.ring.halted ≡ None
  pub goes : BackGoesOn n b h (entry_part b)
  pub fresh : IfSome (entry_part b) (λ p. is_marked before (frame_under h p) ≡ false)
  pub marked : IfSome (entry_part b) (λ p. is_marked after (frame_under h p) ≡ true)
  pub kept : (frame : ℕ) → is_marked after frame ≡ false → is_marked before frame ≡ false

-- so it is of a job, whose frame wasn't marked before and is now; what was marked is
pub record JobSays (n : ℕ) (h : Hypervisor) (v : back_ring.View) (number : ℕ) (before after : List ℕ) : Type 0 where
  pub says : CallsSay n v number (job_part v number)
  pub fresh : IfSome (job_part v number) (λ p. is_marked before (frame_under h p) ≡ false)
  pub marked : IfSome (job_part v number) (λ p. is_marked after (frame_under h p) ≡ true)
  pub kept : (frame : ℕ) → is_marked after frame ≡ false → is_marked before frame ≡ false

-- the jobs of these numbers move words of no frame that is marked
abbrev pub NoneMarked : List ℕ → Hypervisor → back_ring.View → List ℕ → Type 0
NoneMarked marks h v numbers = AllByRecursion (λ k. IfSome (job_part v k) (λ p. is_marked marks (frame_under h p) ≡ false)) numbers

-- so it is of all jobs
pub record JobsSay (n : ℕ) (h : Hypervisor) (v : back_ring.View) (marks : List ℕ) : Type 0 where
  pub numbers : List ℕ
  pub come : AllComeAndGoOn n h v numbers
  pub unmarked : NoneMarked marks h v numbers
