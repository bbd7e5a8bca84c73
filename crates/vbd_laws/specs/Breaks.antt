-- When the front is broken, as a report shows it (`io/ring.h`, `io/blkif.h`, `io/xenbus.h`, `grant_table.h`): by which of its moves, and with which word.
-- A function of the lines says what is due after each move, and one equation says both directions: `broken` stands exactly where it is due.
use Rattle.std.specs.Prelude.{◌≡◌, ℕ, ◌+◌, ◌*◌, ◌/◌, ◌%◌, ◌^◌, Bool, true, false, ◌&&◌, ◌||◌, not, ◌==◌, nat_lt, List, [], ◌∷◌, ◌++◌, length, map, filter, fold, find, slice_index, Option, Some, None, is_some, is_none, if◌then◌else◌}
use Rattle.std.specs.List.{list_any, range_with_len}
use Rattle.std.specs.Str.{bytes_eq}
use Rattle.blk_base.specs.Options.{Options}
use Rattle.blk_base.specs.Distance.{distance_of}
use Rattle.blk_base.specs.declared.parts.End.TheVariants as end
use Rattle.blk_base.specs.declared.operation.Abi.TheVariants.{X64}
use Rattle.blk_base.specs.declared.moves.Mover.TheVariants as mover
use Rattle.blk_base.specs.declared.moves.Move.{Move}
use Rattle.blk_base.specs.declared.moves.Move.TheVariants as moves
use Rattle.ring_words.specs.Shape.{Shape, ring_word_of}
use Rattle.ring_words.specs.Ring.{next_of}
use Rattle.blk_layout.specs.Places.{places_of}
use Rattle.blk_layout.specs.Response.{status_of}
use Rattle.grant_table.specs.Entry.{is_reading, is_writing}
use Rattle.schedule_text.specs.declared.line.Detail.{Detail}
use Rattle.schedule_text.specs.declared.line.Detail.TheVariants.{Moves}
use Rattle.schedule_text.specs.declared.line.Line.{Line}
use Rattle.schedule_text.specs.declared.line.Line.TheVariants as lines
use Rattle.schedule_text.specs.Range.{AreOptions}
use Rattle.schedule_text.specs.Recorder.{kept_of}
use Rattle.report_rules.specs.Obeys.{Obeys}
use Rattle.xenbus_state.specs.declared.keys.BackKey.{BackKey}
use Rattle.xenbus_state.specs.declared.keys.BackKey.TheVariants as key
use Rattle.xenbus_state.specs.Reading.{count_read, fact_read}
use Rattle.xenbus_state.specs.Keys.{back_name, path_under}
use Rattle.negotiation_laws.specs.Negotiation.{back_state}
use Rattle.vbd_model.specs.Happening.{Happening}
use Rattle.vbd_model.specs.Report.{report_of, ended_report_of}
use Rattle.vbd_laws.specs.Halts.{state_said}

-- What the lines so far tell of the front.
-- The first index of its ring, and the ring's shape: the layout and the order of the options, which the front agrees with its back.
-- Of this epoch: its producer, word 0 of the ring as it wrote it last; its consumer, one further with each answer;
-- the word that it wrote last at each place; the words of the response at its consumer that it has read, in order;
-- and the ids that it issued and that have no answer.
-- Of all epochs: the ids of the submissions that have no answer, and whether it is closed or broken.
-- And the word by which the last line has it broken, if it does.
pub record FrontSight : Type 0 where
  pub start : ℕ
  pub shape : Shape
  pub prod : ℕ
  pub cons : ℕ
  pub written : (frame word : ℕ) → ℕ
  pub response : List ℕ
  pub issued : List ℕ
  pub owed : List ℕ
  pub over : Bool
  pub due : Option ℕ

abbrev pub nothing_told : FrontSight
nothing_told = record {
  start = 0;
  shape = record { abi = X64; order = 0 };
  prod = 0;
  cons = 0;
  written = λ frame word. 0;
  response = [];
  issued = [];
  owed = [];
  over = false;
  due = None;
}

-- word i of the entry of index k lies here, in a ring of this shape, whose first frame is 2
abbrev pub frame_of_entry : Shape → (k i : ℕ) → ℕ
frame_of_entry shape k i = 2 + ring_word_of shape k i / 1024

abbrev pub word_of_entry : Shape → (k i : ℕ) → ℕ
word_of_entry shape k i = ring_word_of shape k i % 1024

abbrev pub is_entry_word : Shape → (k i frame word : ℕ) → Bool
is_entry_word shape k i frame word = (frame == frame_of_entry shape k i) && (word == word_of_entry shape k i)

-- a number of 64 bits, as two words hold it
abbrev pub wide : (low high : ℕ) → ℕ
wide low high = low + high * 2 ^ 32

-- word i of the entry of index k, and its id, as the front wrote them last (struct blkif_request)
abbrev pub written_at : FrontSight → (k i : ℕ) → ℕ
written_at s k i = s.written (frame_of_entry s.shape k i) (word_of_entry s.shape k i)

abbrev pub id_at : FrontSight → (k i : ℕ) → ℕ
id_at s k i = wide (written_at s k i) (written_at s k (i + 1))

abbrev pub id_written : FrontSight → ℕ → ℕ
id_written s k = id_at s k (places_of s.shape.abi).id

-- a producer issues the entries from the one before it on
abbrev pub ids_pushed : FrontSight → (produced : ℕ) → List ℕ
ids_pushed s produced = map (λ (n : ℕ). id_written s (s.prod + n)) (range_with_len 0 (distance_of s.prod produced))

abbrev pub without : ℕ → List ℕ → List ℕ
without id ids = filter (λ (other : ℕ). not (other == id)) ids

abbrev pub is_among : ℕ → List ℕ → Bool
is_among id ids = list_any (λ (other : ℕ). other == id) ids

-- The third word of a response was read, after these.
-- Where the id is that of no request that was issued and has no answer, its low word breaks the front.
-- Else the third word does, where its status is none (BLKIF_RSP_*).
abbrev pub due_of_response : (issued response : List ℕ) (last : ℕ) → Option ℕ
due_of_response issued response last =
    if is_among (wide (slice_index response 0) (slice_index response 1)) issued
    then (if is_none (status_of (last / 2 ^ 16)) then Some last else None)
    else Some (slice_index response 0)

-- The front read a word of memory.
-- In frames 0 and 1 the first word of a grant's entry: the frame is mapped still (GTF_reading, GTF_writing).
-- Word 2 of the ring, the responses' producer: it is further ahead of the front's consumer than the front's own producer is.
-- The third word of the response at its consumer.
abbrev pub due_of_word : FrontSight → (frame word value : ℕ) → Option ℕ
due_of_word s frame word value =
    if nat_lt frame 2 then (if (word % 2 == 0) && (is_reading value || is_writing value) then Some value else None)
    else (if (frame == 2) && (word == 2) then (if nat_lt (distance_of s.cons s.prod) (distance_of s.cons value) then Some value else None)
    else (if is_entry_word s.shape s.cons 2 frame word then due_of_response s.issued s.response value else None))

-- The front read the back's state: a text that says none breaks it by 9.
-- Where the back is closed (6), or there is none (0), while an answer is owed, that state does.
abbrev pub due_of_state : (owes : Bool) (said : Option ℕ) → Option ℕ
due_of_state owes None = Some 9
due_of_state owes (Some n) = if owes && ((n == 6) || (n == 0)) then Some n else None

-- another key of the back that is malformed, or missing where it may not be, breaks it by 9
abbrev pub number_in_key : BackKey → Option (List ℕ) → Option ℕ
number_in_key key.Sectors text = fact_read key.Sectors text
number_in_key key.SectorSize text = fact_read key.SectorSize text
number_in_key key.Info text = fact_read key.Info text
number_in_key k text = count_read text

abbrev pub due_of_key : Option BackKey → Option (List ℕ) → Option ℕ
due_of_key None text = None
due_of_key (Some k) text = if is_some (number_in_key k text) then None else Some 9

abbrev pub back_keys : List BackKey
back_keys =
    key.FeatureBarrier ∷ key.FeatureFlushCache ∷ key.FeatureDiscard ∷ key.FeaturePersistent ∷ key.FeatureMaxIndirectSegments ∷ key.MaxRingPageOrder
    ∷ key.Sectors ∷ key.SectorSize ∷ key.Info ∷ []

abbrev pub back_key_of : List ℕ → Option BackKey
back_key_of path = find (λ (k : BackKey). bytes_eq path (path_under end.Back (back_name k))) back_keys

abbrev pub due_of_text : FrontSight → (path : List ℕ) → Option (List ℕ) → Option ℕ
due_of_text s path text =
    if bytes_eq path back_state then due_of_state (not (length s.owed == 0)) (state_said text)
    else due_of_key (back_key_of path) text

-- The word by which the front is broken after its move. No move does that but these reads,
-- and the exchange of a grant's entry, where that shows another word than it had read.
abbrev pub due_after : FrontSight → Move → Option ℕ
due_after s (moves.FrontRead frame word value) = due_of_word s frame word value
due_after s (moves.FrontCas frame word old new seen) = if seen == old then None else Some seen
due_after s (moves.GetKey mover.Front path text) = due_of_text s path text
due_after s move = None

-- what the lines tell after a move
abbrev pub with_word : FrontSight → (frame word value : ℕ) → FrontSight
with_word s frame word value = record s { written = λ (f w : ℕ). if (f == frame) && (w == word) then value else s.written f w }

abbrev pub with_producer : FrontSight → ℕ → FrontSight
with_producer s produced = record s { prod = produced; issued = s.issued ++ ids_pushed s produced }

abbrev pub read_on : FrontSight → (frame word value : ℕ) → FrontSight
read_on s frame word value = record s {
  response = if is_entry_word s.shape s.cons (length s.response) frame word then s.response ++ value ∷ [] else s.response;
}

abbrev pub after_move : FrontSight → Move → FrontSight
after_move s (moves.FrontWrite frame word value) = if (frame == 2) && (word == 0) then with_producer s value else with_word s frame word value
after_move s (moves.FrontRead frame word value) = read_on s frame word value
after_move s move = s

-- after a line
abbrev pub after_line : FrontSight → Line → FrontSight
after_line s (lines.Begin options detail) = record s {
  start = options.start;
  shape = record { abi = options.abi; order = options.order };
  prod = options.start;
  cons = options.start;
}
after_line s (lines.Move move) = record (after_move s move) { due = due_after s move }
after_line s (lines.Submit id job) = record s { owed = s.owed ++ id ∷ []; due = None }
after_line s (lines.Answer id status) = record s {
  cons = next_of s.cons;
  response = [];
  issued = without id s.issued;
  owed = without id s.owed;
  due = None;
}
after_line s lines.Epoch = record s {
  prod = s.start;
  cons = s.start;
  written = λ frame word. 0;
  response = [];
  issued = [];
  due = None;
}
after_line s lines.Closed = record s { over = true; due = None }
after_line s (lines.Broken word) = record s { over = true; due = None }
after_line s line = record s { due = None }

abbrev pub told_by : List Line → FrontSight
told_by before = fold after_line nothing_told before

-- what a line says of a break
abbrev pub broken_by : Line → Option ℕ
broken_by (lines.Broken word) = Some word
broken_by line = None

-- `broken` stands exactly where it is due after the last line, with the word that is due
abbrev pub IsBreakAt : List Line → Line → Type 0
IsBreakAt before line = broken_by line ≡ (told_by before).due

abbrev pub AreBreaksDue : List Line → Type 0
AreBreaksDue report = Obeys IsBreakAt report

-- so of the report with moves of each history, whatever happens, of a machine with options of the grammar; and of each with its last line
abbrev pub EachReportBreaksWhereDue : Type 0
EachReportBreaksWhereDue =
    (config : Options) (detail : Detail) (history : List Happening) → AreOptions config → detail ≡ Moves
    → AreBreaksDue (kept_of detail (report_of config detail history))

abbrev pub EachEndedBreaksWhereDue : Type 0
EachEndedBreaksWhereDue =
    (config : Options) (detail : Detail) (history : List Happening) → AreOptions config → detail ≡ Moves
    → AreBreaksDue (kept_of detail (ended_report_of config detail history))

-- what is of the front: each of its moves but that it takes an event or a watch, what it tells, and a submission that it accepts
abbrev pub is_of_front : Line → Bool
is_of_front (lines.Move (moves.FrontRead frame word value)) = true
is_of_front (lines.Move (moves.FrontWrite frame word value)) = true
is_of_front (lines.Move (moves.FrontCas frame word old new seen)) = true
is_of_front (lines.Move (moves.FrontPort port)) = true
is_of_front (lines.Move (moves.Fence mover.Front)) = true
is_of_front (lines.Move (moves.Send mover.Front)) = true
is_of_front (lines.Move (moves.ClosePort mover.Front)) = true
is_of_front (lines.Move (moves.GetKey mover.Front path text)) = true
is_of_front (lines.Move (moves.SetKey mover.Front path text)) = true
is_of_front (lines.Move (moves.Watch mover.Front path)) = true
is_of_front lines.Ready = true
is_of_front lines.Closing = true
is_of_front lines.Closed = true
is_of_front (lines.Broken word) = true
is_of_front (lines.Submit id job) = true
is_of_front (lines.Answer id status) = true
is_of_front (lines.Data id index words) = true
is_of_front line = false

-- a front that is closed or broken does nothing more, in any epoch
abbrev pub IsOverAt : List Line → Line → Type 0
IsOverAt before line = (told_by before).over ≡ true → is_of_front line ≡ false

abbrev pub IsOverOnce : List Line → Type 0
IsOverOnce report = Obeys IsOverAt report

-- so of the report with moves of each history, whatever happens, and of each with its last line
abbrev pub EachReportIsOverOnce : Type 0
EachReportIsOverOnce =
    (config : Options) (detail : Detail) (history : List Happening) → AreOptions config → detail ≡ Moves
    → IsOverOnce (kept_of detail (report_of config detail history))

abbrev pub EachEndedIsOverOnce : Type 0
EachEndedIsOverOnce =
    (config : Options) (detail : Detail) (history : List Happening) → AreOptions config → detail ≡ Moves
    → IsOverOnce (kept_of detail (ended_report_of config detail history))
