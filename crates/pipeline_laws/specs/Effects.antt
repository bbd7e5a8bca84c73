-- What the lines of a report say that a disk's sectors became: the calls of the disk, as its effects and faults show them.
use Rattle.std.specs.Prelude.{◌≡◌, ℕ, ◌+◌, ◌-◌, List, [], ◌∷◌, ◌++◌, length, slice_get, slice_set, Option, Some, None}
use Rattle.blk_base.specs.declared.config.Submission.{Submission}
use Rattle.blk_io.specs.Disk.{zeroed, SameBut}
use Rattle.schedule_text.specs.declared.line.Line.{Line}
use Rattle.schedule_text.specs.declared.line.Line.TheVariants as lines
use Rattle.plain_disk.specs.Request.{sector_of, count_of, filling}
use Rattle.pipeline_laws.specs.Disk.{lost_sector, lost_count}

-- the line of a call that a submission made of a sector or of sectors; the requests submitted so far are these, number 1 first
abbrev pub LineDoes : List Submission → Line → (before after : List (List ℕ)) → Type 0
LineDoes submissions (lines.Effect id index) before after = (submission : Submission) × (slice_get submissions (id - 1) ≡ Some submission) × (after ≡ slice_set before (sector_of submission + index) (filling submission index))
LineDoes submissions (lines.EffectRead id index words) before after = (submission : Submission) × (slice_get submissions (id - 1) ≡ Some submission) × (slice_get before (sector_of submission + index) ≡ Some words) × (after ≡ before)
LineDoes submissions (lines.Trimmed id) before after = (submission : Submission) × (slice_get submissions (id - 1) ≡ Some submission) × (after ≡ zeroed before (sector_of submission) (count_of submission))
LineDoes submissions (lines.Fault id index) before after = (submission : Submission) × (slice_get submissions (id - 1) ≡ Some submission) × SameBut (lost_sector submission index) (lost_count submission) (Some before) (Some after)
LineDoes submissions line before after = after ≡ before

-- a request more was submitted
abbrev pub jobs_after : List Submission → Line → List Submission
jobs_after submissions (lines.Submit id submission) = submissions ++ submission ∷ []
jobs_after submissions line = submissions

-- line by line
abbrev pub LinesDo : List Submission → List Line → (before after : List (List ℕ)) → Type 0
LinesDo submissions [] before after = after ≡ before
LinesDo submissions (line ∷ ls) before after = (between : List (List ℕ)) × LineDoes submissions line before between × LinesDo (jobs_after submissions line) ls between after

-- what a report shows of a disk are the calls of a disk of so many sectors, whose reads give what its sectors hold
pub record AreOfADisk (sectors : ℕ) (report : List Line) : Type 0 where
  pub content : List (List ℕ)
  pub sized : length content ≡ sectors
  pub later : List (List ℕ)
  pub effects : LinesDo [] report content later

-- the disk exposes what it holds, or what the report shows of it are the calls of a disk
abbrev pub IsOfADisk : ℕ → Option (List (List ℕ)) → List Line → Type 0
IsOfADisk sectors (Some content) report = Unit {0}
IsOfADisk sectors None report = AreOfADisk sectors report
