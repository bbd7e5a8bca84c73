-- The faults that a report tells are those of its disk, one for one (own): each `fault` line stands for a call of the disk that failed, and each such call has its line.
use Rattle.std.specs.Prelude.{◌≡◌, ℕ, ◌+◌, ◌-◌, ◌^◌, ◌≤◌, ◌⊎◌, List, length, filter}
use Rattle.schedule_text.specs.declared.line.Line.{Line}
use Rattle.report_rules.specs.Steps.{is_fault}

-- how many faults these lines tell
abbrev pub faults_in : List Line → ℕ
faults_in report = length (filter is_fault report)

-- so many calls failed: each raised the count of faults, up to the greatest number of 64 bits; where none failed it is as before
pub record IsRaised (failed before after : ℕ) : Type 0 where
  pub none : failed ≡ 0 → after ≡ before
  pub each : (before + failed ≤ after) ⊎ (2 ^ 64 - 1 ≤ after)
