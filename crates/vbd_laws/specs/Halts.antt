-- The back halts exactly by its causes (`io/xenbus.h`, `io/blkif.h`, `grant_table.h`, `event_channel.h`): the lines before a line say which halt is due there, that halt stands there, and no halt stands anywhere else.
-- An overrun has a rule of its own, which says both (`report_rules: IsOverrunAt`).
use Rattle.std.specs.Prelude.{◌≡◌, ◌≤◌, ℕ, zero, suc, Bool, true, false, not, ◌&&◌, ◌||◌, ◌==◌, List, [], ◌∷◌, codes, if◌then◌else◌, Option, Some, None, is_none, unwrap_or}
use Rattle.std.specs.List.{AllByRecursion}
use Rattle.std.specs.Option.{option_map}
use Rattle.std.specs.Str.{bytes_eq}
use Rattle.blk_base.specs.Options.{Options}
use Rattle.blk_base.specs.declared.parts.End.TheVariants as end
use Rattle.blk_base.specs.declared.moves.Mover.TheVariants as mover
use Rattle.blk_base.specs.declared.moves.BackMover.TheVariants as back
use Rattle.blk_base.specs.declared.moves.Move.TheVariants as moves
use Rattle.schedule_text.specs.declared.line.Detail.{Detail}
use Rattle.schedule_text.specs.declared.line.Detail.TheVariants.{Moves}
use Rattle.blk_base.specs.declared.halt.Halt.{Halt}
use Rattle.blk_base.specs.declared.halt.Halt.TheVariants as halts
use Rattle.schedule_text.specs.declared.line.Line.{Line}
use Rattle.schedule_text.specs.declared.line.Line.TheVariants as lines
use Rattle.schedule_text.specs.Recorder.{kept_of}
use Rattle.report_rules.specs.Obeys.{Obeys}
use Rattle.report_rules.specs.Overrun.{is_service}
use Rattle.xenbus_state.specs.declared.keys.FrontKey.{FrontKey}
use Rattle.xenbus_state.specs.declared.keys.FrontKey.TheVariants as key
use Rattle.xenbus_state.specs.States.{state_number, state_read}
use Rattle.xenbus_state.specs.Numbers.{number_of}
use Rattle.xenbus_state.specs.Keys.{front_name}
use Rattle.xenbus_state.specs.Reading.{count_read}
use Rattle.xenbus_state.specs.BackReading.{order_of, layout_read}
use Rattle.negotiation_laws.specs.Negotiation.{front_state, back_state, front_path}
use Rattle.split_model.specs.World.{may_suspend}
use Rattle.vbd_model.specs.World.{World, start_of}
use Rattle.vbd_model.specs.Happening.{Happening, Closes, Suspends, happens, lines_at, after as after_all}
use Rattle.vbd_model.specs.Report.{report_of, ended_report_of}

-- the key at a path: `ring-refN` for each page N of a ring of so many, and each key of the front
unfoldable pub page_at : (pages : ℕ) → (path : List ℕ) → Option FrontKey
page_at zero path = None
page_at (suc page) path = if bytes_eq path (front_path (key.RingRefOf page)) then Some (key.RingRefOf page) else page_at page path

-- a ring has at most 16 pages
unfoldable pub key_at : (path : List ℕ) → Option FrontKey
key_at path =
    if bytes_eq path (front_path key.RingPageOrder) then Some key.RingPageOrder
    else (if bytes_eq path (front_path key.RingRef) then Some key.RingRef
    else (if bytes_eq path (front_path key.EventChannel) then Some key.EventChannel
    else (if bytes_eq path (front_path key.Protocol) then Some key.Protocol
    else (if bytes_eq path (front_path key.FeaturePersistent) then Some key.FeaturePersistent
    else page_at 16 path))))

-- the state that a key says (enum xenbus_state), where its text says one; an absent key says 0
abbrev pub state_said : Option (List ℕ) → Option ℕ
state_said text = option_map state_number (state_read text)

-- the front closes (XenbusStateClosing is 5), is closed (XenbusStateClosed, 6), or has no state (XenbusStateUnknown, 0)
abbrev pub is_gone : ℕ → Bool
is_gone s = (s == 5) || (s == 6) || (s == 0)

-- a state of the front that may not come: InitWait (2), Reconfiguring (7) and Reconfigured (8); and Initialising (1), once the back is connected
abbrev pub is_out_of_order : (connected : Bool) → ℕ → Bool
is_out_of_order connected s = (s == 2) || (s == 7) || (s == 8) || (connected && (s == 1))

-- the halt for a state that the back reads of the front; that of a front that is gone has another word where the back was asked to close, which no line says
abbrev pub state_halt : (connected : Bool) → Option ℕ → Option Halt
state_halt connected None = Some (halts.BadKey (codes "state"))
state_halt connected (Some s) = if is_gone s then Some (halts.Gone s) else (if is_out_of_order connected s then Some (halts.BadOrder s) else None)

-- the order of the ring that a text of `ring-page-order` says: 0 where there is no such key, and none where it is malformed
abbrev pub order_said : Option (List ℕ) → Option ℕ
order_said None = Some 0
order_said (Some text) = order_of (number_of text)

-- a number that may not be missing
abbrev pub number_said : Option (List ℕ) → Option ℕ
number_said None = None
number_said (Some text) = number_of text

-- The text of a key of the front is malformed, or missing where it may not be, in a ring of this order: with order 0 the only page may be under `ring-ref`.
abbrev pub is_bad_text : (order : ℕ) → FrontKey → Option (List ℕ) → Bool
is_bad_text order key.RingPageOrder text = is_none (order_said text)
is_bad_text order (key.RingRefOf page) None = not (order == 0)
is_bad_text order (key.RingRefOf page) (Some text) = is_none (number_of text)
is_bad_text order key.RingRef text = is_none (number_said text)
is_bad_text order key.EventChannel text = is_none (number_said text)
is_bad_text order key.Protocol text = is_none (layout_read text)
is_bad_text order key.FeaturePersistent text = is_none (count_read text)

-- and so the halt for it
abbrev pub key_halt : (order : ℕ) → Option FrontKey → Option (List ℕ) → Option Halt
key_halt order None text = None
key_halt order (Some k) text = if is_bad_text order k text then Some (halts.BadKey (front_name k)) else None

-- What the lines so far say of the back in this epoch: it set its key to Connected (4), also where it says since that it closes (5); the order of the ring that it read last, and 0 before it did; it has halted; its front is closed or broken; and the halt that the last line asks for.
pub record BackSight : Type 0 where
  pub connected : Bool
  pub order : ℕ
  pub halted : Bool
  pub over : Bool
  pub due : Option Halt

abbrev pub new_back : BackSight
new_back = record { connected = false; order = 0; halted = false; over = false; due = None }

abbrev pub read_halt : BackSight → (path : List ℕ) (text : Option (List ℕ)) → Option Halt
read_halt k path text = if bytes_eq path front_state then state_halt k.connected (state_said text) else key_halt k.order (key_at path) text

-- The halt that a line asks for, by what the lines before it say: the back reads a key of the front, its page of the ring can't be mapped, with that status, or the port can't be bound.
abbrev pub due_after : BackSight → Line → Option Halt
due_after k (lines.Move (moves.GetKey mover.Back path text)) = read_halt k path text
due_after k (lines.Move (moves.MapRefused back.Back gref mode status)) = Some (halts.MapRefused gref status)
due_after k (lines.Move (moves.BindRefused port)) = Some (halts.BadPort port)
due_after k line = None

-- what they say with one line more; where the front was closed or broken before an epoch its back has halted from the beginning
abbrev pub with_read : BackSight → (path : List ℕ) (text : Option (List ℕ)) → BackSight
with_read k path text = if bytes_eq path (front_path key.RingPageOrder) then record k { order = unwrap_or (order_said text) k.order } else k

abbrev pub with_set : BackSight → (path text : List ℕ) → BackSight
with_set k path text = if bytes_eq path back_state && bytes_eq text (codes "4") then record k { connected = true } else k

abbrev pub told : BackSight → Line → BackSight
told k (lines.Move (moves.GetKey mover.Back path text)) = with_read k path text
told k (lines.Move (moves.SetKey mover.Back path text)) = with_set k path text
told k (lines.Halt halt) = record k { halted = true }
told k lines.Closed = record k { over = true }
told k (lines.Broken word) = record k { over = true }
told k lines.Epoch = record new_back { halted = k.over; over = k.over }
told k line = k

abbrev pub after : BackSight → Line → BackSight
after k line = record (told k line) { due = due_after k line }

abbrev pub from : BackSight → List Line → BackSight
from k [] = k
from k (line ∷ ls) = from (after k line) ls

abbrev pub said_by : List Line → BackSight
said_by before = from new_back before

-- the halt that a line is, but for an overrun; with one word for a front that is gone
abbrev pub halt_shown : Line → Option Halt
halt_shown (lines.Halt (halts.Overrun produced replied)) = None
halt_shown (lines.Halt (halts.Unplugged s)) = Some (halts.Gone s)
halt_shown (lines.Halt halt) = Some halt
halt_shown line = None

-- a back that has halted reads no key of the front, binds no port and serves nothing; nor does a job of it
abbrev pub is_work : Line → Bool
is_work (lines.Move (moves.GetKey mover.Back path text)) = true
is_work (lines.Move (moves.Bind port)) = true
is_work (lines.Move (moves.BindRefused port)) = true
is_work line = is_service line

pub record HaltsHere (k : BackSight) (line : Line) : Type 0 where
  pub halts : halt_shown line ≡ k.due
  pub rests : k.halted ≡ true → is_work line ≡ false

abbrev pub IsHaltAt : List Line → Line → Type 0
IsHaltAt before line = HaltsHere (said_by before) line

abbrev pub HaltsByCauses : List Line → Type 0
HaltsByCauses report = Obeys IsHaltAt report

-- the word of a halt for a front that is gone, by whether the back was asked to close in this epoch
abbrev pub IsWorded : (asked : Bool) → Line → Type 0
IsWorded asked (lines.Halt (halts.Gone s)) = asked ≡ false
IsWorded asked (lines.Halt (halts.Unplugged s)) = asked ≡ true
IsWorded asked line = Unit {0}

-- so of the report with moves of each history, whatever happens, of a machine whose indirect requests have at most 960 segments; and of each with its last line
abbrev pub EachReportHalts : Type 0
EachReportHalts =
    (config : Options) (detail : Detail) (history : List Happening) → config.indirect ≤ 960 → detail ≡ Moves
    → HaltsByCauses (kept_of detail (report_of config detail history))

abbrev pub EachEndedHalts : Type 0
EachEndedHalts =
    (config : Options) (detail : Detail) (history : List Happening) → config.indirect ≤ 960 → detail ≡ Moves
    → HaltsByCauses (kept_of detail (ended_report_of config detail history))

-- the back was asked to close in this epoch: since the domain was suspended last
abbrev pub asked_after : Bool → World → Happening → Bool
asked_after asked w (Closes end.Back) = true
asked_after asked w Suspends = if may_suspend w.rings then false else asked
asked_after asked w h = asked

abbrev pub asked_by : Bool → List Happening → World → Bool
asked_by asked [] w = asked
asked_by asked (h ∷ hs) w = asked_by (asked_after asked w h) hs (happens w h)

-- so each halt for a front that is gone has the word that goes with that
abbrev pub EachHaltIsWorded : Type 0
EachHaltIsWorded =
    (config : Options) (history : List Happening) (h : Happening) → config.indirect ≤ 960
    → AllByRecursion (λ (line : Line). IsWorded (asked_by false history (start_of config)) line) (lines_at (after_all history (start_of config)) h)
