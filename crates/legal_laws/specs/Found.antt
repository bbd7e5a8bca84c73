-- What a check finds in the text of a legal report.
use Rattle.std.specs.Prelude.{◌≡◌, ℕ, ◌≤◌, List, length, All, Some, Result, Ok, Err}
use Rattle.blk_io.specs.Outside.{SourceSeen, Rose}
use Rattle.schedule_text.specs.declared.line.Line.{Line}
use Rattle.schedule_text.specs.Range.{IsInRange}
use Rattle.schedule_text.specs.Recorder.{report_text}
use Rattle.trace_check.specs.declared.finding.Finding.{Finding}
use Rattle.trace_check.specs.declared.finding.Finding.TheVariants.{Legal}
use Rattle.trace_check.specs.declared.finding.CheckStop.{CheckStop}
use Rattle.trace_check.specs.declared.finding.CheckStop.TheVariants.{BadLine, Source, TooLong, OutOfMemory}
use Rattle.report_rules.specs.Obeys.{Obeys}
use Rattle.checked_rules.specs.Rules.{KeepsAll}
use Rattle.trace_check.specs.Found.{EndsWell, Finds}

-- a check finds it legal, unless it stops before its end: where the source failed, where it has as many bytes as may be taken, or for want of memory
abbrev pub FindsLegal : ℕ → List ℕ → Result Finding CheckStop → SourceSeen → SourceSeen → Type 0
FindsLegal limit bytes (Ok finding) s t = finding ≡ Legal
FindsLegal limit bytes (Err (BadLine number)) s t = ⊥
FindsLegal limit bytes (Err Source) s t = Rose s.faults t.faults
FindsLegal limit bytes (Err TooLong) s t = limit ≤ length bytes
FindsLegal limit bytes (Err OutOfMemory) s t = Unit {0}

abbrev pub LegalIsFoundLegal : Type 0
LegalIsFoundLegal = (limit : ℕ) (report : List Line) (found : Result Finding CheckStop) (s t : SourceSeen)
    → Obeys KeepsAll report → EndsWell report → All IsInRange report → s.left ≡ Some (report_text report) → Finds limit found s t
    → FindsLegal limit (report_text report) found s t
