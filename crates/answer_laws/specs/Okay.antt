-- A request is answered `ok` unless the disk failed at it in this epoch (BLKIF_RSP_OKAY, BLKIF_RSP_ERROR of `io/blkif.h`), and never `unsupported`.
use Rattle.std.specs.Prelude.{◌≡◌, ℕ, Bool, false, List, if◌then◌else◌, ◌==◌}
use Rattle.std.specs.List.{list_any}
use Rattle.blk_base.specs.declared.operation.Status.{Status}
use Rattle.blk_base.specs.declared.operation.Status.TheVariants.{Okay, Error}
use Rattle.schedule_text.specs.declared.line.Line.{Line}
use Rattle.schedule_text.specs.declared.line.Line.TheVariants as lines
use Rattle.report_rules.specs.Standing.{this_epoch}
use Rattle.report_rules.specs.Obeys.{Obeys}

-- a line says that the disk failed at this request
abbrev pub is_fault_of : ℕ → Line → Bool
is_fault_of id (lines.Fault number index) = number == id
is_fault_of id line = false

-- the disk failed at this request in this epoch
abbrev pub has_failed : List Line → ℕ → Bool
has_failed before id = list_any (is_fault_of id) (this_epoch before)

-- how a request ends at which the disk failed, and how one ends at which it didn't
abbrev pub status_of : Bool → Status
status_of failed = if failed then Error else Okay

-- the back's reply, and the front's answer, say whether the disk failed
abbrev pub IsByFaults : List Line → Line → Type 0
IsByFaults before (lines.Reply id status) = status ≡ status_of (has_failed before id)
IsByFaults before (lines.Answer id status) = status ≡ status_of (has_failed before id)
IsByFaults before line = Unit {0}

abbrev pub AreAnsweredByFaults : List Line → Type 0
AreAnsweredByFaults report = Obeys IsByFaults report
