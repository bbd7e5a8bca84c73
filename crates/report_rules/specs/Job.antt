-- What a report tells of a job of the back: the request that was fetched for it, with what held at the end of the fetch, and its moves of the disk.
use Rattle.std.specs.Prelude.{ℕ, ◌-◌, Bool, false, ◌==◌, if◌then◌else◌, List, count_by, slice_get, Option, Some, None}
use Rattle.blk_base.specs.declared.moves.BackMover.{BackMover}
use Rattle.blk_base.specs.declared.moves.BackMover.TheVariants as back
use Rattle.blk_base.specs.declared.moves.Mover.{Mover}
use Rattle.blk_base.specs.declared.moves.Mover.TheVariants as mover
use Rattle.blk_base.specs.declared.moves.Move.TheVariants as moves
use Rattle.blk_layout.specs.declared.request.RawRequest.{RawRequest}
use Rattle.blk_layout.specs.declared.request.RawRequest.TheVariants.{Direct, Discard, Indirect}
use Rattle.schedule_text.specs.declared.line.Line.{Line}
use Rattle.schedule_text.specs.declared.line.Line.TheVariants as lines
use Rattle.report_rules.specs.declared.job.Fetched.{Fetched}
use Rattle.report_rules.specs.Standing.{this_epoch}
use Rattle.report_rules.specs.Stretch.{fetching_of}

-- the k-th of them, from 1
abbrev pub job_in : List Fetched → ℕ → Option Fetched
job_in jobs k = if k == 0 then None else slice_get jobs (k - 1)

-- what was fetched for job k in this epoch, if it was: the k-th entry that the back read whole, with what held at the end of its fetch
abbrev pub fetched_of : List Line → ℕ → Option Fetched
fetched_of before k = job_in (fetching_of before).jobs k

-- the job that makes a move of the back, and of any mover
abbrev pub back_mover_job : BackMover → Option ℕ
back_mover_job back.Back = None
back_mover_job (back.Job k) = Some k

abbrev pub mover_job : Mover → Option ℕ
mover_job (mover.Job k) = Some k
mover_job who = None

-- the id of a request
abbrev pub id_of : RawRequest → ℕ
id_of (Direct op count device id sector segments) = id
id_of (Discard flag device id sector count) = id
id_of (Indirect inner count device id sector pages) = id

-- the disk move of a job
abbrev pub disk_mover : Line → Option ℕ
disk_mover (lines.Move (moves.DiskRead k sector)) = Some k
disk_mover (lines.Move (moves.DiskWrite k sector)) = Some k
disk_mover (lines.Move (moves.DiskFlush k)) = Some k
disk_mover (lines.Move (moves.DiskTrim k sector count)) = Some k
disk_mover line = None

abbrev pub is_job : ℕ → Option ℕ → Bool
is_job k None = false
is_job k (Some other) = other == k

-- how often a job moved the disk in this epoch
abbrev pub disk_moves_of : List Line → ℕ → ℕ
disk_moves_of before k = count_by (λ (line : Line). is_job k (disk_mover line)) (this_epoch before)
