-- What a check of a report finds, by the bytes of its source: the lines that keep all rules, up to the end or to the first one that breaks one, and the first rule that this one breaks.
use Rattle.std.specs.Prelude.{◌≡◌, ℕ, ◌+◌, ◌<◌, ◌≤◌, ◌⊎◌, Bool, if◌then◌else◌, List, [], ◌∷◌, ◌++◌, length, Result, Ok, Err}
use Rattle.schedule_text.specs.declared.line.Line.{Line}
use Rattle.schedule_text.specs.declared.line.Line.TheVariants as line
use Rattle.blk_io.specs.Outside.{SourceSeen, Rose}
use Rattle.report_rules.specs.Obeys.{Obeys}
use Rattle.report_lines.specs.Text.{BeginsWith, IsReportText, HasNoLineFeed}
use Rattle.report_lines.specs.Giving.{Tells, IsNoLine}
use Rattle.report_lines.specs.declared.reader.ReadStop.{ReadStop}
use Rattle.report_lines.specs.declared.reader.ReadStop.TheVariants as read
use Rattle.checked_rules.specs.declared.rule.Rule.{Rule}
use Rattle.checked_rules.specs.declared.rule.Rule.TheVariants as rule
use Rattle.trace_check.specs.declared.finding.Finding.{Finding}
use Rattle.trace_check.specs.declared.finding.Finding.TheVariants.{Legal, Broken}
use Rattle.trace_check.specs.declared.finding.CheckStop.{CheckStop}
use Rattle.trace_check.specs.declared.finding.CheckStop.TheVariants.{BadLine, Source, TooLong, OutOfMemory}
use Rattle.checked_rules.specs.Rules.{KeepsAll, Breaks, all_rules}

-- the last line is `end`
abbrev pub EndsWell : List Line → Type 0
EndsWell report = (before : List Line) × (report ≡ before ++ line.End ∷ [])

-- the line of this number is the first that breaks a rule, and this is the first rule that it breaks; up to its end there are no more bytes than may be taken
pub record IsBrokenAt (limit number : ℕ) (broken : Rule) (bytes : List ℕ) : Type 0 where
  pub before : List Line
  pub line : Line
  pub rest : List ℕ
  pub read : BeginsWith (before ++ line ∷ []) bytes rest
  pub kept : Obeys KeepsAll before
  pub counted : number ≡ length before + 1
  pub rule : Breaks all_rules before line broken
  pub within : length bytes ≤ limit + length rest

-- the bytes are the text of lines that keep all rules, and so many would be with one more
pub record IsKeptText (number : ℕ) (report : List Line) (bytes : List ℕ) : Type 0 where
  pub read : IsReportText report bytes
  pub kept : Obeys KeepsAll report
  pub counted : number ≡ length report + 1

-- a report ends without `end`: the line after its last breaks the order
pub record LacksEnd (number : ℕ) (broken : Rule) (bytes : List ℕ) : Type 0 where
  pub report : List Line
  pub text : IsKeptText number report bytes
  pub unended : EndsWell report → ⊥
  pub rule : broken ≡ rule.Order

-- a report is legal: each of its lines keeps all rules, and the last is `end`
pub record IsLegal (bytes : List ℕ) : Type 0 where
  pub report : List Line
  pub read : IsReportText report bytes
  pub kept : Obeys KeepsAll report
  pub ended : EndsWell report

-- a finding; the end of the source was seen only where it has fewer bytes than may be taken
abbrev pub IsFound : ℕ → Finding → List ℕ → Type 0
IsFound limit Legal bytes = IsLegal bytes × (length bytes < limit)
IsFound limit (Broken number broken) bytes = IsBrokenAt limit number broken bytes ⊎ (LacksEnd number broken bytes × (length bytes < limit))

-- the line of this number is none of a report, and those before it keep all rules; before it there are no more bytes than may be taken
pub record IsBadAt (limit number : ℕ) (bytes : List ℕ) : Type 0 where
  pub before : List Line
  pub rest : List ℕ
  pub read : BeginsWith before bytes rest
  pub kept : Obeys KeepsAll before
  pub counted : number ≡ length before + 1
  pub bad : IsNoLine rest
  pub within : length bytes ≤ limit + length rest

-- as many bytes were taken as may be: lines that keep all rules, and a part of one more, without its line feed
pub record IsLong (limit : ℕ) (bytes : List ℕ) : Type 0 where
  pub before : List Line
  pub part : List ℕ
  pub rest : List ℕ
  pub read : BeginsWith before bytes (part ++ rest)
  pub kept : Obeys KeepsAll before
  pub unbroken : HasNoLineFeed part
  pub taken : length bytes ≡ limit + length rest

-- why a check stops where no line could be read
abbrev pub stop_at : ℕ → ReadStop → CheckStop
stop_at number read.BadLine = BadLine number
stop_at number read.Source = Source
stop_at number read.TooLong = TooLong
stop_at number read.OutOfMemory = OutOfMemory

-- what it finds at the source's end, where `end` came or not
abbrev pub finding_at : ℕ → Bool → Finding
finding_at number ended = if ended then Legal else Broken number rule.Order

-- what a check gives, where the source exposes its bytes
abbrev pub Finds : ℕ → Result Finding CheckStop → SourceSeen → SourceSeen → Type 0
Finds limit (Ok finding) s t = Tells (IsFound limit finding) s.left × (t.faults ≡ s.faults)
Finds limit (Err (BadLine number)) s t = Tells (IsBadAt limit number) s.left × (t.faults ≡ s.faults)
Finds limit (Err Source) s t = Rose s.faults t.faults
Finds limit (Err TooLong) s t = Tells (IsLong limit) s.left × (t.faults ≡ s.faults)
Finds limit (Err OutOfMemory) s t = t.faults ≡ s.faults
