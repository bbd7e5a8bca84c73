-- Where the lines of the front's state stand (`io/xenbus.h`, enum xenbus_state): `ready` after the front said Connected (4), `closed` after it said Closed (6), `closing` after it read that the back closes, is closed or is gone, or where it was asked to close. Which line is due after a move the lines before say; and neither `ready` nor `closed` stands anywhere else.
use Rattle.std.specs.Prelude.{◌≡◌, ◌≤◌, ◌⊎◌, ℕ, Bool, true, false, not, ◌&&◌, ◌||◌, ◌==◌, List, [], ◌∷◌, codes, if◌then◌else◌, Option, Some, None}
use Rattle.std.specs.List.{list_any}
use Rattle.std.specs.Str.{bytes_eq}
use Rattle.blk_base.specs.Options.{Options}
use Rattle.blk_base.specs.declared.parts.End.TheVariants as end
use Rattle.blk_base.specs.declared.moves.Move.{Move}
use Rattle.blk_base.specs.declared.moves.Mover.TheVariants as mover
use Rattle.blk_base.specs.declared.moves.Move.TheVariants as moves
use Rattle.schedule_text.specs.declared.line.Detail.{Detail}
use Rattle.schedule_text.specs.declared.line.Detail.TheVariants.{Moves}
use Rattle.schedule_text.specs.declared.line.Line.{Line}
use Rattle.schedule_text.specs.declared.line.Line.TheVariants as lines
use Rattle.schedule_text.specs.Recorder.{kept_of}
use Rattle.report_rules.specs.Obeys.{Obeys}
use Rattle.blk_front.specs.State.{is_open}
use Rattle.negotiation_laws.specs.Negotiation.{front_state, back_state}
use Rattle.vbd_model.specs.World.{World, start_of}
use Rattle.vbd_model.specs.Happening.{Happening, FrontMoves, Closes, lines_at, lines_of, after as after_all}
use Rattle.vbd_model.specs.Report.{report_of, ended_report_of}
use Rattle.vbd_laws.specs.Halts.{state_said}

-- Which line of the front's state is due after a move: none, `ready`, `closed`, or `closing`; or `closing`, unless requests are unfinished, which is a `broken` line, of which another rule speaks.
pub data StateDue : Type 0 where
  NoState : StateDue
  ReadyDue : StateDue
  ClosedDue : StateDue
  ClosingDue : StateDue
  LeavingDue : StateDue

-- the front writes its state
abbrev pub set_due : (path text : List ℕ) → StateDue
set_due path text =
    if bytes_eq path front_state then (if bytes_eq text (codes "4") then ReadyDue else (if bytes_eq text (codes "6") then ClosedDue else NoState))
    else NoState

-- It reads the back's: that closes (XenbusStateClosing is 5), is closed (XenbusStateClosed, 6) or has no state (XenbusStateUnknown, 0). A front that began to close, in any epoch, begins no more.
abbrev pub state_due : (begun : Bool) → Option ℕ → StateDue
state_due begun None = NoState
state_due true (Some s) = NoState
state_due false (Some s) = if s == 5 then ClosingDue else (if (s == 6) || (s == 0) then LeavingDue else NoState)

abbrev pub read_due : (begun : Bool) (path : List ℕ) (text : Option (List ℕ)) → StateDue
read_due begun path text = if bytes_eq path back_state then state_due begun (state_said text) else NoState

abbrev pub move_due : (begun : Bool) → Move → StateDue
move_due begun (moves.SetKey mover.Front path text) = set_due path text
move_due begun (moves.GetKey mover.Front path text) = read_due begun path text
move_due begun move = NoState

abbrev pub due_after : (begun : Bool) → Line → StateDue
due_after begun (lines.Move move) = move_due begun move
due_after begun line = NoState

abbrev pub is_closing : Line → Bool
is_closing lines.Closing = true
is_closing line = false

-- the front is closed or broken, and so it stays
abbrev pub is_over : Line → Bool
is_over lines.Closed = true
is_over (lines.Broken word) = true
is_over line = false

-- what the lines so far say of the front: that it began to close; that it is closed or broken; and which line is due
pub record StateSight : Type 0 where
  pub begun : Bool
  pub over : Bool
  pub due : StateDue

abbrev pub new_front : StateSight
new_front = record { begun = false; over = false; due = NoState }

abbrev pub after : StateSight → Line → StateSight
after k line = record { begun = is_closing line || k.begun; over = is_over line || k.over; due = due_after k.begun line }

abbrev pub from : StateSight → List Line → StateSight
from k [] = k
from k (line ∷ ls) = from (after k line) ls

abbrev pub said_by : List Line → StateSight
said_by before = from new_front before

-- `ready` and `closed`, and a word that breaks the front
abbrev pub is_entry : Line → Bool
is_entry lines.Ready = true
is_entry lines.Closed = true
is_entry line = false

abbrev pub is_broken_line : Line → Bool
is_broken_line (lines.Broken word) = true
is_broken_line line = false

abbrev pub Stands : StateDue → Line → Type 0
Stands NoState line = is_entry line ≡ false
Stands ReadyDue line = line ≡ lines.Ready
Stands ClosedDue line = line ≡ lines.Closed
Stands ClosingDue line = line ≡ lines.Closing
Stands LeavingDue line = (line ≡ lines.Closing) ⊎ (is_broken_line line ≡ true)

abbrev pub is_closed : Line → Bool
is_closed lines.Closed = true
is_closed line = false

-- the line that is due stands there; the front begins to close once, and is closed only after that; and one that is closed or broken enters no state more
pub record StandsHere (k : StateSight) (line : Line) : Type 0 where
  pub due : Stands k.due line
  pub once : is_closing line ≡ true → k.begun ≡ false
  pub later : is_closed line ≡ true → k.begun ≡ true
  pub last : is_entry line || is_closing line ≡ true → k.over ≡ false

abbrev pub IsStateLineAt : List Line → Line → Type 0
IsStateLineAt before line = StandsHere (said_by before) line

abbrev pub StandAsSaid : List Line → Type 0
StandAsSaid report = Obeys IsStateLineAt report

-- so of the report with moves of each history, whatever happens, of a machine whose indirect requests have at most 960 segments; and of each with its last line
abbrev pub EachReportsStates : Type 0
EachReportsStates =
    (config : Options) (detail : Detail) (history : List Happening) → config.indirect ≤ 960 → detail ≡ Moves
    → StandAsSaid (kept_of detail (report_of config detail history))

abbrev pub EachEndedsStates : Type 0
EachEndedsStates =
    (config : Options) (detail : Detail) (history : List Happening) → config.indirect ≤ 960 → detail ≡ Moves
    → StandAsSaid (kept_of detail (ended_report_of config detail history))

-- it begins to close with such a read
abbrev pub BeginsToClose : StateDue → Type 0
BeginsToClose ClosingDue = Unit {0}
BeginsToClose LeavingDue = Unit {0}
BeginsToClose due = ⊥

-- What shows that the front begins to close: in its move, after such a read; where it is asked to close, and hasn't begun to, and is neither closed nor broken; and nothing else that happens.
abbrev pub ClosingComes : (begun : Bool) → World → Happening → List Line → Type 0
ClosingComes begun w FrontMoves ls = (move : Move) (more : List Line) → ls ≡ lines.Move move ∷ more → list_any is_closing more ≡ true → BeginsToClose (move_due begun move)
ClosingComes begun w (Closes end.Front) ls = ls ≡ (if not begun && is_open w.rings.front.stage then lines.Closing ∷ [] else [])
ClosingComes begun w h ls = list_any is_closing ls ≡ false

abbrev pub EachClosingComes : Type 0
EachClosingComes =
    (config : Options) (history : List Happening) (h : Happening) → config.indirect ≤ 960
    → let w : World = after_all history (start_of config) in
    let k : StateSight = said_by (lines_of history (start_of config)) in ClosingComes k.begun w h (lines_at w h)
