-- The segments that a job holds, and the vectors that the jobs of INDIRECT requests copy them into.
use Rattle.std.specs.Prelude.{◌≡◌, ℕ, ◌+◌, ◌≤◌, Bool, List, nat_lt, ◌==◌, if◌then◌else◌}
use Rattle.std.specs.List.{count_by}
use Rattle.blk_layout.specs.declared.segment.Segment.{Segment}
use Rattle.back_jobs.specs.declared.stage.JobStage.{JobStage}
use Rattle.back_jobs.specs.declared.stage.JobStage.TheVariants as stage
use Rattle.back_jobs.specs.Work.{Work}

-- segments, and whether they lie in a vector of their own
pub record Listed : Type 0 where
  pub items : List Segment
  pub is_long : Bool

-- a job whose segments are copied from indirect pages
abbrev pub is_paged : Work → Bool
is_paged t = nat_lt 0 t.named

-- a vector for each job there is room for, if requests may be indirect
abbrev pub vecs_for : (indirect jobs : ℕ) → ℕ
vecs_for indirect jobs = if indirect == 0 then 0 else jobs

-- each vector is spare, or a job has it
pub record AreShared (spare capacity jobs indirect : ℕ) (works : List Work) : Type 0 where
  pub has_space : vecs_for indirect jobs ≤ capacity
  pub shared : spare + count_by is_paged works ≡ vecs_for indirect jobs

-- an indirect page is unmapped now
abbrev pub IsUnmapPage : JobStage → Type 0
IsUnmapPage (stage.UnmapPage m) = Unit {0}
IsUnmapPage s = ⊥
