-- Where what the words ask for can be done.
use Rattle.std.specs.Prelude.{◌≡◌, ℕ, ◌<◌, ◌⊎◌, List, Option, Some, None, length}
use Rattle.blk_io.specs.Outside.{Rose}
use Rattle.ring_inspect.specs.Stop.{bytes_of}
use Rattle.schedule_text.specs.declared.event.Event.{Event}
use Rattle.schedule_run.specs.Reading.{IsWholeSchedule}
use Rattle.schedule_text.specs.declared.line.Line.{Line}
use Rattle.report_lines.specs.Text.{IsReportText}
use Rattle.commands.specs.Words.{Wish, a_run, a_ring, a_check, a_bench}
use Rattle.commands.specs.Scene.{Scene, bytes_limit}
use Rattle.commands.specs.Ending.{FailsToAttach}

-- the bytes are the text of a report, fewer than may be taken
pub record IsWholeReport (bytes : List ℕ) : Type 0 where
  pub report : List Line
  pub read : IsReportText report bytes
  pub below : length bytes < bytes_limit

-- the input, which exposes its bytes: fewer than 4294967296, whose lines all are silent or ask for events that are carried out; or just as many as the ring has; or the text of a report; a bench reads none
abbrev pub IsInputOf : Wish → Option (List ℕ) → Type 0
IsInputOf (a_bench seed count) left = Unit {0}
IsInputOf wish None = ⊥
IsInputOf (a_run image options) (Some bytes) = (events : List Event) × IsWholeSchedule bytes_limit bytes events
IsInputOf (a_ring abi order) (Some bytes) = length bytes ≡ bytes_of order
IsInputOf a_check (Some bytes) = IsWholeReport bytes

-- the image was attached, no count of faults rose at the input or the output, and the input is one of that wish
pub record MayBeDone (wish : Wish) (old new : Scene) : Type 0 where
  pub attached : FailsToAttach old new → ⊥
  pub read : Rose old.source.faults new.source.faults → ⊥
  pub written : Rose old.output.faults new.output.faults → ⊥
  pub input : IsInputOf wish old.source.left

-- it was done, or there was no memory; a check is also done where a line breaks a rule
abbrev pub IsDoneAt : Wish → ℕ → Type 0
IsDoneAt a_check status = (status ≡ 0) ⊎ (status ≡ 1) ⊎ (status ≡ 6)
IsDoneAt wish status = (status ≡ 0) ⊎ (status ≡ 6)
