-- What the calls of the disk make of its sectors, and what they give.
use Rattle.std.specs.Prelude.{◌≡◌, ℕ, ◌+◌, List, [], ◌∷◌, length, slice_get, slice_set, Option, Some, None, if◌then◌else◌}
use Rattle.blk_base.specs.declared.config.Submission.{Submission}
use Rattle.blk_io.specs.Disk.{zeroed, SameBut}
use Rattle.plain_disk.specs.Request.{is_write, is_discard, sector_of, count_of, filling}
use Rattle.pipeline_laws.specs.Move.{Move, Fills, Reads, Trims, Fails}
use Rattle.pipeline_laws.specs.Pipeline.{Step, Moves}

-- the sectors that a failure may leave with anything: the one in hand of a write or barrier, the range of a discard
abbrev pub lost_sector : Submission → ℕ → ℕ
lost_sector submission index = if is_write submission then sector_of submission + index else sector_of submission

abbrev pub lost_count : Submission → ℕ
lost_count submission = if is_write submission then 1 else (if is_discard submission then count_of submission else 0)

-- what a move makes of the sectors
abbrev pub DiskDoes : Submission → Move → (before after : List (List ℕ)) → Type 0
DiskDoes submission (Fills index) before after = after ≡ slice_set before (sector_of submission + index) (filling submission index)
DiskDoes submission (Reads index words) before after = (slice_get before (sector_of submission + index) ≡ Some words) × (after ≡ before)
DiskDoes submission Trims before after = after ≡ zeroed before (sector_of submission) (count_of submission)
DiskDoes submission (Fails index) before after = SameBut (lost_sector submission index) (lost_count submission) (Some before) (Some after)
DiskDoes submission move before after = after ≡ before

abbrev pub DiskGoes : Step → (before after : List (List ℕ)) → Type 0
DiskGoes (Moves k x move) before after = DiskDoes x.submission move before after
DiskGoes s before after = after ≡ before

-- what all these steps make of them
abbrev pub DiskRuns : List Step → (before after : List (List ℕ)) → Type 0
DiskRuns [] before after = after ≡ before
DiskRuns (s ∷ steps) before after = (between : List (List ℕ)) × DiskGoes s before between × DiskRuns steps between after

-- this content is what the disk tells, where it tells
abbrev pub AgreesWith : Option (List (List ℕ)) → List (List ℕ) → Type 0
AgreesWith None content = Unit {0}
AgreesWith (Some told) content = content ≡ told

-- the disk's calls are consistent with some content; it is what the disk tells before them and after them, where it tells
pub record AreConsistent (sectors : ℕ) (steps : List Step) (before now : Option (List (List ℕ))) : Type 0 where
  pub content : List (List ℕ)
  pub sized : length content ≡ sectors
  pub begins : AgreesWith before content
  pub later : List (List ℕ)
  pub runs : DiskRuns steps content later
  pub ends : AgreesWith now later
