-- A reader of lines, which has some bytes ahead and may take so many more of its source.
use Rattle.std.specs.Prelude.{◌≡◌, ◌≢◌, ℕ, ◌+◌, ◌<◌, ◌≤◌, ◌⊎◌, Bool, true, false, List, [], ◌∷◌, ◌++◌, length, Option, Some, None, Result, Ok, Err}
use Rattle.blk_io.specs.Outside.{SourceSeen, Rose}
use Rattle.report_lines.specs.Text.{HasNoLineFeed}
use Rattle.report_lines.specs.declared.reader.ReadStop.{ReadStop}
use Rattle.report_lines.specs.declared.reader.ReadStop.TheVariants.{BadLine, Source, TooLong, OutOfMemory}

pub record Ahead : Type 0 where
  pub bytes : List ℕ
  pub room : ℕ

-- these bytes were taken of a source that exposes what it has left, or any were
abbrev pub IsTaken : List ℕ → Option (List ℕ) → Option (List ℕ) → Type 0
IsTaken got None after = after ≡ None
IsTaken got (Some bytes) after = (rest : List ℕ) × (bytes ≡ got ++ rest) × (after ≡ Some rest)

-- some bytes went from the source to those ahead
pub record Fills (a b : Ahead) (s t : SourceSeen) : Type 0 where
  pub got : List ℕ
  pub ahead : b.bytes ≡ a.bytes ++ got
  pub taken : IsTaken got s.left t.left
  pub room : b.room + length got ≡ a.room
  pub faults : t.faults ≡ s.faults

-- the source has nothing left, where it exposes that
abbrev pub IsAtEnd : Option (List ℕ) → Type 0
IsAtEnd None = Unit {0}
IsAtEnd (Some bytes) = bytes ≡ []

-- so many bytes are ahead before the first line feed
pub record IsLineAhead (n : ℕ) (bytes : List ℕ) : Type 0 where
  pub line : List ℕ
  pub rest : List ℕ
  pub all : bytes ≡ line ++ (10 ∷ rest)
  pub unbroken : HasNoLineFeed line
  pub long : length line ≡ n

-- more of the source was taken, or it has come to its end
abbrev pub TakesMore : Result Bool ReadStop → Ahead → Ahead → SourceSeen → SourceSeen → Type 0
TakesMore (Ok true) a b s t = Fills a b s t × (b.room < a.room)
TakesMore (Ok false) a b s t = Fills a b s t × (b ≡ a) × IsAtEnd t.left
TakesMore (Err Source) a b s t = Rose s.faults t.faults
TakesMore (Err OutOfMemory) a b s t = t.faults ≡ s.faults
TakesMore (Err stop) a b s t = ⊥

-- the bytes ahead are no line: they show more than a line has, or the source ended amid one
pub record IsBadAhead (b : Ahead) (t : SourceSeen) : Type 0 where
  pub unbroken : HasNoLineFeed b.bytes
  pub some : b.bytes ≢ []
  pub why : (1152 < length b.bytes) ⊎ IsAtEnd t.left

-- no more may be taken, and the bytes ahead show no line feed
pub record IsFull (b : Ahead) : Type 0 where
  pub room : b.room ≡ 0
  pub unbroken : HasNoLineFeed b.bytes
  pub fits : length b.bytes ≤ 1152

-- a line is ahead, the source has come to its end with none begun, or there is a reason why neither is so
abbrev pub FillsLine : Result (Option ℕ) ReadStop → Ahead → Ahead → SourceSeen → SourceSeen → Type 0
FillsLine (Ok (Some n)) a b s t = Fills a b s t × IsLineAhead n b.bytes
FillsLine (Ok None) a b s t = Fills a b s t × (b.bytes ≡ []) × IsAtEnd t.left × (0 < b.room)
FillsLine (Err BadLine) a b s t = Fills a b s t × IsBadAhead b t
FillsLine (Err TooLong) a b s t = Fills a b s t × IsFull b
FillsLine (Err Source) a b s t = Rose s.faults t.faults
FillsLine (Err OutOfMemory) a b s t = t.faults ≡ s.faults
