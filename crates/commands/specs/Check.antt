-- What the command `check` leaves and says: what a check of the report finds (`trace_check`).
use Rattle.std.specs.Prelude.{◌≡◌, ℕ, ◌⊎◌, Result, Ok, Err}
use Rattle.blk_io.specs.Outside.{SourceSeen, SinkSeen, TakesBytes}
use Rattle.checked_rules.specs.declared.rule.Rule.{Rule}
use Rattle.trace_check.specs.declared.finding.Finding.{Finding}
use Rattle.trace_check.specs.declared.finding.Finding.TheVariants as finding
use Rattle.trace_check.specs.declared.finding.CheckStop.{CheckStop}
use Rattle.trace_check.specs.declared.finding.CheckStop.TheVariants as check
use Rattle.trace_check.specs.Found.{Finds}
use Rattle.trace_check.specs.Text.{finding_line}
use Rattle.commands.specs.declared.status.Stop.{Stop}
use Rattle.commands.specs.declared.status.Stop.TheVariants.{Broken, BadLine, Source, Sink, OutOfMemory, TooLong}
use Rattle.commands.specs.Scene.{Scene, bytes_limit}
use Rattle.commands.specs.Bench.{FailsToSay}

-- the line of a finding was written, and the output handed on what it kept back
pub record IsChecked (finding : Finding) (a b : SourceSeen) (before after : SinkSeen) : Type 0 where
  pub found : Finds bytes_limit (Ok finding) a b
  pub between : SinkSeen
  pub written : TakesBytes (finding_line finding) before between
  pub handed_on : after ≡ record between { kept_back = 0 }

-- a line of the report breaks a rule
pub record IsFoundBroken (a b : SourceSeen) (before after : SinkSeen) : Type 0 where
  pub line : ℕ
  pub rule : Rule
  pub checked : IsChecked (finding.Broken line rule) a b before after

-- something was found, and the output failed at its line, or to hand on what it kept back
pub record IsUnsaid (a b : SourceSeen) (before after : SinkSeen) : Type 0 where
  pub finding : Finding
  pub found : Finds bytes_limit (Ok finding) a b
  pub failed : FailsToSay (finding_line finding) before after

-- nothing was found, and nothing asked of the output
pub record IsUnfound (why : CheckStop) (a b : SourceSeen) (before after : SinkSeen) : Type 0 where
  pub found : Finds bytes_limit (Err why) a b
  pub untouched : after ≡ before

abbrev pub CheckEnds : Result (Unit {0}) Stop → (a b : SourceSeen) → (before after : SinkSeen) → Type 0
CheckEnds (Ok done) a b before after = IsChecked finding.Legal a b before after
CheckEnds (Err Broken) a b before after = IsFoundBroken a b before after
CheckEnds (Err (BadLine number)) a b before after = IsUnfound (check.BadLine number) a b before after
CheckEnds (Err Source) a b before after = IsUnfound check.Source a b before after
CheckEnds (Err Sink) a b before after = IsUnsaid a b before after
CheckEnds (Err OutOfMemory) a b before after = IsUnfound check.OutOfMemory a b before after
CheckEnds (Err TooLong) a b before after = IsUnfound check.TooLong a b before after
CheckEnds (Err stop) a b before after = ⊥

-- why the program stops where the check did
abbrev pub check_stop : CheckStop → Stop
check_stop (check.BadLine number) = BadLine number
check_stop check.Source = Source
check_stop check.TooLong = TooLong
check_stop check.OutOfMemory = OutOfMemory

-- at each status of a check: legal (0), a line that breaks a rule (1), a line of no report (3), the input failed (4), the output failed (5), no memory, maybe for the words (6), an input too long (8), and no other; the image is as before
pub record CheckAt (status : ℕ) (old new : Scene) : Type 0 where
  pub legal : status ≡ 0 → IsChecked finding.Legal old.source new.source old.output new.output
  pub broken : status ≡ 1 → IsFoundBroken old.source new.source old.output new.output
  pub bad_line : status ≡ 3 → (number : ℕ) × IsUnfound (check.BadLine number) old.source new.source old.output new.output
  pub input : status ≡ 4 → IsUnfound check.Source old.source new.source old.output new.output
  pub output : status ≡ 5 → IsUnsaid old.source new.source old.output new.output
  pub memory : status ≡ 6 → new.output ≡ old.output
  pub too_long : status ≡ 8 → IsUnfound check.TooLong old.source new.source old.output new.output
  pub only : (status ≡ 0) ⊎ (status ≡ 1) ⊎ (status ≡ 3) ⊎ (status ≡ 4) ⊎ (status ≡ 5) ⊎ (status ≡ 6) ⊎ (status ≡ 8)
  pub disk : new.disk ≡ old.disk
