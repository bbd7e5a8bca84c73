-- What the calls of both ends say where rounds move nothing but words, and when all those words may be moved at once.
use Rattle.std.specs.Prelude.{◌≡◌, ◌≢◌, ℕ, List, [], ◌∷◌, length, None, IfSome}
use Rattle.std.specs.List.{AllByRecursion}
use Rattle.hypervisor.specs.Hypervisor.{Hypervisor}
use Rattle.back_jobs.specs.Work.{Work}
use Rattle.blk_back.specs.View.{View}
use Rattle.blk_back.specs.Part.{job_part}
use Rattle.vbd_back.specs.Part.{entry_part}
use Rattle.vbd_model.specs.World.{World, frontend_of, backend_of}
use Rattle.round_laws.specs.Movers.{front_words, part_of, frame_under, FrontGoesOn, BackGoesOn, JobGoesOn, AreApart, AreAbove, AreVisited, CallsSay}
use Rattle.round_laws.specs.AtOnce.{AreOfWords}

-- none of the jobs of these numbers moves words of this frame
abbrev pub NoneMoves : Hypervisor → View → (frame : ℕ) → List ℕ → Type 0
NoneMoves h v frame numbers = AllByRecursion (λ k. IfSome (job_part v k) (λ p. frame_under h p ≢ frame)) numbers

-- no two of them move words of one frame
abbrev pub MoveApart : Hypervisor → View → List ℕ → Type 0
MoveApart h v [] = Unit {0}
MoveApart h v (k ∷ numbers) = IfSome (job_part v k) (λ p. NoneMoves h v (frame_under h p) numbers) × MoveApart h v numbers

-- all jobs come, one after another by number, each goes on so long in its sector or waits, and they move words of different frames
pub record AllComeAndGoOn (n : ℕ) (h : Hypervisor) (v : View) (numbers : List ℕ) : Type 0 where
  pub visited : AreVisited v 0 numbers
  pub all : length numbers ≡ length v.jobs.works
  pub says : AllByRecursion (λ k. CallsSay n v k (job_part v k)) numbers
  pub apart : MoveApart h v numbers

-- both ends and each job go on so long or wait
pub record CallsSayWords (n : ℕ) (w : World) : Type 0 where
  pub unhalted : w.rings.back.halted ≡ None
  pub back : BackGoesOn n (backend_of w) w.rings.under (entry_part (backend_of w))
  pub front : FrontGoesOn n w (front_words (frontend_of w))
  pub numbers : List ℕ
  pub jobs : AllComeAndGoOn n w.rings.under w.rings.back numbers
  pub front_apart : IfSome (front_words (frontend_of w)) (λ p. NoneMoves w.rings.under w.rings.back p.frame numbers)
  pub back_apart : IfSome (entry_part (backend_of w)) (λ p. NoneMoves w.rings.under w.rings.back (frame_under w.rings.under p) numbers)
  pub ends_apart : IfSome (entry_part (backend_of w)) (λ p. IfSome (front_words (frontend_of w)) (λ q. q.frame ≢ frame_under w.rings.under p))

-- each of these jobs asks for the words of the sector that it is in
abbrev pub AskForTheirs : View → List Work → Type 0
AskForTheirs v works = AllByRecursion (λ (t : Work). job_part v t.number ≡ part_of t) works

-- the jobs may move so many words at once
pub record JobsMayMove (n : ℕ) (h : Hypervisor) (v : View) : Type 0 where
  pub unhalted : v.halted ≡ None
  pub told : v.told ≡ None
  pub ordered : AreAbove 0 v.jobs.works
  pub jobs : AllByRecursion (λ (t : Work). JobGoesOn n v t (part_of t)) v.jobs.works
  pub parts : AskForTheirs v v.jobs.works
  pub apart : AreApart h v.jobs.works

-- so many rounds may be moved at once
pub record MayMoveAtOnce (n : ℕ) (w : World) : Type 0 where
  pub words : AreOfWords n w
  pub parts : AskForTheirs w.rings.back w.rings.back.jobs.works
