-- A report says `quiet` only of a front whose negotiation came to something: it was connected in this epoch, or is closed or broken (`io/xenbus.h`).
use Rattle.std.specs.Prelude.{◌≡◌, ◌⊎◌, Bool, true, false, List}
use Rattle.std.specs.List.{list_any}
use Rattle.schedule_text.specs.declared.line.Line.{Line}
use Rattle.schedule_text.specs.declared.line.Line.TheVariants as lines
use Rattle.report_rules.specs.Obeys.{Obeys}
use Rattle.report_rules.specs.Standing.{this_epoch}

abbrev pub says_ready : Line → Bool
says_ready lines.Ready = true
says_ready line = false

-- the front is closed or broken, and stays so over every suspend
abbrev pub says_over : Line → Bool
says_over lines.Closed = true
says_over (lines.Broken word) = true
says_over line = false

-- before a `quiet` line stands a `ready` line of this epoch, or a `closed` or a `broken` line: a front may be closed before it was ready
abbrev pub IsReadyAt : List Line → Line → Type 0
IsReadyAt before lines.Quiet = (list_any says_ready (this_epoch before) ≡ true) ⊎ (list_any says_over before ≡ true)
IsReadyAt before line = Unit {0}

abbrev pub IsReadyFirst : List Line → Type 0
IsReadyFirst report = Obeys IsReadyAt report
