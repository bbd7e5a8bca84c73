-- The next line of a report, by all bytes that are still to be read: those that were taken of the source, and those that it has left.
use Rattle.std.specs.Prelude.{◌≡◌, ◌≢◌, ℕ, ◌+◌, ◌<◌, Bool, true, false, List, [], ◌∷◌, ◌++◌, length, Option, Some, None, Result, Ok, Err}
use Rattle.schedule_text.specs.declared.line.Line.{Line}
use Rattle.schedule_text.specs.Range.{IsTextOf}
use Rattle.blk_io.specs.Outside.{SourceSeen, Rose}
use Rattle.report_lines.specs.Text.{HasBadText}
use Rattle.report_lines.specs.Filling.{Ahead, IsFull, Fills}
use Rattle.report_lines.specs.declared.reader.ReadStop.{ReadStop}
use Rattle.report_lines.specs.declared.reader.ReadStop.TheVariants.{BadLine, Source, TooLong, OutOfMemory}

-- all bytes that are still to be read, where the source exposes those that it has left
abbrev pub unread : List ℕ → Option (List ℕ) → Option (List ℕ)
unread ahead None = None
unread ahead (Some left) = Some (ahead ++ left)

-- a line was read: its text and a line feed were the first of them
abbrev pub IsNext : Line → Option (List ℕ) → Option (List ℕ) → Type 0
IsNext line None after = after ≡ None
IsNext line (Some bytes) after =
    (text more : List ℕ) × (bytes ≡ text ++ (10 ∷ more)) × IsTextOf line text × (after ≡ Some more)

-- what is so of the bytes, where the source exposes them
abbrev pub Tells : (List ℕ → Type 0) → Option (List ℕ) → Type 0
Tells claim None = Unit {0}
Tells claim (Some bytes) = claim bytes

-- bytes are left that begin with no line of a report
abbrev pub IsNoLine : List ℕ → Type 0
IsNoLine bytes = (bytes ≢ []) × HasBadText bytes

-- what may still be taken falls by each byte that was taken, where the source exposes what it has left
abbrev pub IsRoomSpent : ℕ → ℕ → Option (List ℕ) → Option (List ℕ) → Type 0
IsRoomSpent room less (Some left) (Some rest) = length left + less ≡ room + length rest
IsRoomSpent room less (Some left) None = ⊥
IsRoomSpent room less None after = Unit {0}

-- a line was read: what is ahead and what may still be taken are fewer together
pub record Spends (a b : Ahead) (s t : SourceSeen) : Type 0 where
  pub fewer : b.room + length b.bytes < a.room + length a.bytes
  pub room : IsRoomSpent a.room b.room s.left t.left

-- what was put in place of a line, where one was read
abbrev pub given : Result Bool ReadStop → Line → Result (Option Line) ReadStop
given (Ok true) line = Ok (Some line)
given (Ok false) line = Ok None
given (Err stop) line = Err stop

-- the next line, the end, or why there is none
abbrev pub GivesLine : Result (Option Line) ReadStop → Ahead → Ahead → SourceSeen → SourceSeen → Type 0
GivesLine (Ok (Some line)) a b s t = IsNext line (unread a.bytes s.left) (unread b.bytes t.left) × (t.faults ≡ s.faults) × Spends a b s t
GivesLine (Ok None) a b s t = Tells (λ bytes. bytes ≡ []) (unread a.bytes s.left) × (t.faults ≡ s.faults) × (a.bytes ≡ []) × (0 < a.room)
GivesLine (Err BadLine) a b s t = Tells IsNoLine (unread a.bytes s.left) × (t.faults ≡ s.faults)
GivesLine (Err TooLong) a b s t = Fills a b s t × IsFull b
GivesLine (Err Source) a b s t = Rose s.faults t.faults
GivesLine (Err OutOfMemory) a b s t = t.faults ≡ s.faults
