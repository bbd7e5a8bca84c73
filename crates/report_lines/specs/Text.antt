-- The text of a report: one line after another, each with its line feed. A line has at most 1152 bytes.
use Rattle.std.specs.Prelude.{◌≡◌, ◌≢◌, ℕ, ◌<◌, ◌⊎◌, not, ◌==◌, List, [], ◌∷◌, ◌++◌, length, take_while, All}
use Rattle.schedule_text.specs.declared.line.Line.{Line}
use Rattle.schedule_text.specs.Range.{IsTextOf}

-- bytes begin with the text of these lines, and these are left after them
abbrev pub BeginsWith : List Line → List ℕ → List ℕ → Type 0
BeginsWith [] bytes rest = bytes ≡ rest
BeginsWith (line ∷ lines) bytes rest =
    (text more : List ℕ) × (bytes ≡ text ++ (10 ∷ more)) × IsTextOf line text × BeginsWith lines more rest

-- bytes are the text of these lines
abbrev pub IsReportText : List Line → List ℕ → Type 0
IsReportText lines bytes = BeginsWith lines bytes []

-- no line feed is among these bytes
abbrev pub HasNoLineFeed : List ℕ → Type 0
HasNoLineFeed bytes = All (λ (b : ℕ). b ≢ 10) bytes

-- the bytes up to the first line feed, or all of them
abbrev pub first_line : List ℕ → List ℕ
first_line bytes = take_while (λ (b : ℕ). not (b == 10)) bytes

-- no line of a report comes next: the bytes up to the line feed are the text of none, or more than a line has, or there is no line feed
abbrev pub HasBadText : List ℕ → Type 0
HasBadText bytes = ((line : Line) → IsTextOf line (first_line bytes) → ⊥) ⊎ (1152 < length (first_line bytes)) ⊎ HasNoLineFeed bytes
