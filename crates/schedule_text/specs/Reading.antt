-- What the words of a line say, if they are those of a line. Any words are read as some line: whether
-- they are that line's is seen by writing it again.
use Rattle.std.specs.Prelude.{ℕ, ◌%◌, ◌^◌, List, [], ◌∷◌, ◌==◌, min, max, codes, drop, length, Option, Some, None, if◌then◌else◌}
use Rattle.std.specs.Str.{bytes_eq}
use Rattle.line_text.specs.Words.{first_of, later}
use Rattle.line_text.specs.Numbers.{number_of, hex_of, signed_of}
use Rattle.line_text.specs.Sector.{sector_of}
use Rattle.line_text.specs.Texts.{text_in}
use Rattle.blk_base.specs.declared.operation.Abi.TheVariants.{X64, X32}
use Rattle.blk_base.specs.declared.operation.Status.{Status}
use Rattle.blk_base.specs.declared.operation.Status.TheVariants.{Okay, Error, Unsupported}
use Rattle.blk_base.specs.declared.parts.Mode.{Mode}
use Rattle.blk_base.specs.declared.parts.Mode.TheVariants.{ReadOnly, ReadWrite}
use Rattle.blk_base.specs.declared.config.Submission.{Submission}
use Rattle.blk_base.specs.declared.config.Submission.TheVariants as submissions
use Rattle.blk_base.specs.declared.moves.BackMover.{BackMover}
use Rattle.blk_base.specs.declared.moves.BackMover.TheVariants as back_mover
use Rattle.blk_base.specs.declared.moves.Mover.{Mover}
use Rattle.blk_base.specs.declared.moves.Mover.TheVariants as mover
use Rattle.blk_base.specs.declared.moves.Move.{Move}
use Rattle.blk_base.specs.declared.moves.Move.TheVariants as moves
use Rattle.blk_base.specs.Options.{Options}
use Rattle.schedule_text.specs.declared.line.Detail.{Detail}
use Rattle.schedule_text.specs.declared.line.Detail.TheVariants.{Lines, Moves}
use Rattle.blk_base.specs.declared.refusal.Refusal.{Refusal}
use Rattle.blk_base.specs.declared.refusal.Refusal.TheVariants as refusal
use Rattle.blk_base.specs.declared.halt.Halt.{Halt}
use Rattle.blk_base.specs.declared.halt.Halt.TheVariants as halts
use Rattle.schedule_text.specs.declared.line.Line.{Line}
use Rattle.schedule_text.specs.declared.line.Line.TheVariants as lines

-- the words in turn
abbrev pub word0 : List (List ℕ) → List ℕ
word0 ws = first_of ws

abbrev pub word1 : List (List ℕ) → List ℕ
word1 ws = first_of (later ws)

abbrev pub word2 : List (List ℕ) → List ℕ
word2 ws = first_of (later (later ws))

abbrev pub word3 : List (List ℕ) → List ℕ
word3 ws = first_of (later (later (later ws)))

abbrev pub word4 : List (List ℕ) → List ℕ
word4 ws = first_of (later (later (later (later ws))))

abbrev pub word5 : List (List ℕ) → List ℕ
word5 ws = first_of (later (later (later (later (later ws)))))

abbrev pub word6 : List (List ℕ) → List ℕ
word6 ws = first_of (later (later (later (later (later (later ws))))))

abbrev pub word7 : List (List ℕ) → List ℕ
word7 ws = first_of (later (later (later (later (later (later (later ws)))))))

-- a number of 32 bits
abbrev pub small_of : List ℕ → ℕ
small_of word = number_of word % 2 ^ 32

abbrev pub status_at : List ℕ → Status
status_at word =
    if bytes_eq word (codes "ok") then Okay else
    if bytes_eq word (codes "error") then Error else Unsupported

abbrev pub detail_at : List ℕ → Detail
detail_at word = if bytes_eq word (codes "lines") then Lines else Moves

abbrev pub refusal_at : List ℕ → Refusal
refusal_at word =
    if bytes_eq word (codes "spent") then refusal.Spent else
    if bytes_eq word (codes "notready") then refusal.NotReady else
    if bytes_eq word (codes "closing") then refusal.Closing else
    if bytes_eq word (codes "unsupported") then refusal.Unsupported else
    if bytes_eq word (codes "readonly") then refusal.ReadOnly else
    if bytes_eq word (codes "range") then refusal.Range else
    if bytes_eq word (codes "long") then refusal.Long else
    if bytes_eq word (codes "full") then refusal.Full else refusal.Buffers

-- the number of sectors, which isn't 0
abbrev pub count_of : List ℕ → ℕ
count_of word = max (small_of word) 1

abbrev pub job_at : List (List ℕ) → Submission
job_at ws =
    if bytes_eq (word0 ws) (codes "flush") then submissions.Flush else
    if bytes_eq (word0 ws) (codes "read") then submissions.Read (number_of (word1 ws)) (count_of (word2 ws)) else
    if bytes_eq (word0 ws) (codes "write") then submissions.Write (number_of (word1 ws)) (count_of (word2 ws)) (hex_of (word3 ws)) else
    if bytes_eq (word0 ws) (codes "barrier") then submissions.Barrier (number_of (word1 ws)) (count_of (word2 ws)) (hex_of (word3 ws)) else
    submissions.Discard (number_of (word1 ws)) (count_of (word2 ws))

abbrev pub halt_at : List (List ℕ) → Halt
halt_at ws =
    if bytes_eq (word0 ws) (codes "overrun") then halts.Overrun (small_of (word1 ws)) (small_of (word2 ws)) else
    if bytes_eq (word0 ws) (codes "gone") then halts.Gone (small_of (word1 ws)) else
    if bytes_eq (word0 ws) (codes "unplugged") then halts.Unplugged (small_of (word1 ws)) else
    if bytes_eq (word0 ws) (codes "badkey") then halts.BadKey (text_in 32 (word1 ws)) else
    if bytes_eq (word0 ws) (codes "badorder") then halts.BadOrder (small_of (word1 ws)) else
    if bytes_eq (word0 ws) (codes "badport") then halts.BadPort (small_of (word1 ws)) else
    halts.MapRefused (small_of (word1 ws)) (signed_of (word2 ws))

-- the options, each in its range
abbrev pub options_at : List (List ℕ) → Options
options_at ws = record {
  abi = if bytes_eq (word0 ws) (codes "64") then X64 else X32;
  order = min (small_of (word1 ws)) 4;
  persistent = min (small_of (word2 ws)) 1000;
  indirect = min (small_of (word3 ws)) 960;
  start = small_of (word4 ws);
  read_only = bytes_eq (word5 ws) (codes "ro");
  sectors = number_of (word6 ws);
}

-- who moves, and the words after that
abbrev pub mover_at : List (List ℕ) → Mover
mover_at ws =
    if bytes_eq (word0 ws) (codes "front") then mover.Front else
    if bytes_eq (word0 ws) (codes "back") then mover.Back else mover.Job (number_of (word1 ws))

abbrev pub after_mover : List (List ℕ) → List (List ℕ)
after_mover ws =
    if bytes_eq (word0 ws) (codes "front") then later ws else
    if bytes_eq (word0 ws) (codes "back") then later ws else later (later ws)

-- the text after an equals sign, where there is one
abbrev pub found_at : List ℕ → Option (List ℕ)
found_at [] = None
found_at (b ∷ bs) = Some (text_in 64 bs)

-- what either end does
abbrev pub act_at : Mover → List ℕ → List (List ℕ) → Move
act_at who name ws =
    if bytes_eq name (codes "fence") then moves.Fence who else
    if bytes_eq name (codes "send") then moves.Send who else
    if bytes_eq name (codes "closeport") then moves.ClosePort who else
    if bytes_eq name (codes "event") then moves.Event who else
    if bytes_eq name (codes "watch") then moves.Watch who (text_in 80 (word0 ws)) else
    if bytes_eq name (codes "watched") then moves.Watched who (text_in 80 (word0 ws)) else
    if bytes_eq name (codes "getkey") then moves.GetKey who (text_in 80 (word0 ws)) (found_at (word1 ws)) else
    moves.SetKey who (text_in 80 (word0 ws)) (text_in 64 (drop 1 (word1 ws)))

-- what the front does
abbrev pub front_at : List (List ℕ) → Move
front_at ws =
    if bytes_eq (word0 ws) (codes "read") then moves.FrontRead (small_of (word1 ws)) (small_of (word2 ws)) (hex_of (word3 ws)) else
    if bytes_eq (word0 ws) (codes "write") then moves.FrontWrite (small_of (word1 ws)) (small_of (word2 ws)) (hex_of (word3 ws)) else
    if bytes_eq (word0 ws) (codes "cas") then moves.FrontCas (small_of (word1 ws)) (small_of (word2 ws)) (hex_of (word3 ws)) (hex_of (word4 ws)) (hex_of (word5 ws)) else
    if bytes_eq (word0 ws) (codes "port") then moves.FrontPort (small_of (word1 ws)) else
    act_at mover.Front (word0 ws) (later ws)

abbrev pub mode_at : List ℕ → Mode
mode_at word = if bytes_eq word (codes "w") then ReadWrite else ReadOnly

-- what a map gave
abbrev pub map_at : BackMover → List (List ℕ) → Move
map_at who ws =
    if bytes_eq (word2 ws) (codes "ok")
    then moves.Map who (small_of (word0 ws)) (mode_at (word1 ws)) (number_of (word3 ws)) (small_of (word4 ws))
    else moves.MapRefused who (small_of (word0 ws)) (mode_at (word1 ws)) (signed_of (word3 ws))

-- what the back and its jobs both do
abbrev pub back_at : BackMover → Mover → List ℕ → List (List ℕ) → Move
back_at who as_mover name ws =
    if bytes_eq name (codes "read") then moves.Read who (number_of (word0 ws)) (small_of (word1 ws)) (small_of (word2 ws)) (hex_of (word3 ws)) else
    if bytes_eq name (codes "write") then moves.Write who (number_of (word0 ws)) (small_of (word1 ws)) (small_of (word2 ws)) (hex_of (word3 ws)) else
    if bytes_eq name (codes "map") then map_at who ws else
    if bytes_eq name (codes "unmap") then moves.Unmap who (number_of (word0 ws)) else
    act_at as_mover name ws

-- what the back does
abbrev pub own_at : List (List ℕ) → Move
own_at ws =
    if bytes_eq (word0 ws) (codes "bind")
    then (if bytes_eq (word2 ws) (codes "ok") then moves.Bind (small_of (word1 ws)) else moves.BindRefused (small_of (word1 ws)))
    else back_at back_mover.Back mover.Back (word0 ws) (later ws)

-- what a job does
abbrev pub job_move_at : ℕ → List (List ℕ) → Move
job_move_at k ws =
    if bytes_eq (word0 ws) (codes "dread") then moves.DiskRead k (number_of (word1 ws)) else
    if bytes_eq (word0 ws) (codes "dwrite") then moves.DiskWrite k (number_of (word1 ws)) else
    if bytes_eq (word0 ws) (codes "flush") then moves.DiskFlush k else
    if bytes_eq (word0 ws) (codes "trim") then moves.DiskTrim k (number_of (word1 ws)) (number_of (word2 ws)) else
    back_at (back_mover.Job k) (mover.Job k) (word0 ws) (later ws)

abbrev pub move_by : Mover → List (List ℕ) → Move
move_by mover.Front ws = front_at ws
move_by mover.Back ws = own_at ws
move_by (mover.Job k) ws = job_move_at k ws

abbrev pub move_at : List (List ℕ) → Move
move_at ws = move_by (mover_at ws) (after_mover ws)

-- lines with numbers in them
abbrev pub other_at : List ℕ → List (List ℕ) → Line
other_at name ws =
    if bytes_eq name (codes "begin") then lines.Begin (options_at ws) (detail_at (word7 ws)) else
    if bytes_eq name (codes "broken") then lines.Broken (hex_of (word0 ws)) else
    if bytes_eq name (codes "refuse") then lines.Refuse (refusal_at (word0 ws)) else
    if bytes_eq name (codes "halt") then lines.Halt (halt_at ws) else
    if bytes_eq name (codes "poke") then lines.Poke (small_of (word0 ws)) (small_of (word1 ws)) (small_of (word2 ws)) else
    if bytes_eq name (codes "key") then lines.Key (text_in 32 (word0 ws)) (text_in 64 (word1 ws)) else
    lines.Word (small_of (word0 ws)) (small_of (word1 ws)) (hex_of (word2 ws))

-- an effect, with what was read where that is told
abbrev pub effect_at : List (List ℕ) → Line
effect_at ws =
    if length (word2 ws) == 0 then lines.Effect (number_of (word0 ws)) (small_of (word1 ws))
    else lines.EffectRead (number_of (word0 ws)) (small_of (word1 ws)) (sector_of (word2 ws) (later (later (later ws))))

-- a sector that a request read
abbrev pub data_at : List (List ℕ) → Line
data_at ws = lines.Data (number_of (word0 ws)) (small_of (word1 ws)) (sector_of (word2 ws) (later (later (later ws))))

-- lines of a request
abbrev pub request_at : List ℕ → List (List ℕ) → Line
request_at name ws =
    if bytes_eq name (codes "submit") then lines.Submit (number_of (word0 ws)) (job_at (later ws)) else
    if bytes_eq name (codes "effect") then effect_at ws else
    if bytes_eq name (codes "flushed") then lines.Flushed (number_of (word0 ws)) else
    if bytes_eq name (codes "trimmed") then lines.Trimmed (number_of (word0 ws)) else
    if bytes_eq name (codes "fault") then lines.Fault (number_of (word0 ws)) (small_of (word1 ws)) else
    if bytes_eq name (codes "reply") then lines.Reply (number_of (word0 ws)) (status_at (word1 ws)) else
    if bytes_eq name (codes "answer") then lines.Answer (number_of (word0 ws)) (status_at (word1 ws)) else
    if bytes_eq name (codes "data") then data_at ws else
    other_at name ws

-- lines of one word
abbrev pub word_line_at : List ℕ → List (List ℕ) → Line
word_line_at name ws =
    if bytes_eq name (codes "ready") then lines.Ready else
    if bytes_eq name (codes "closing") then lines.Closing else
    if bytes_eq name (codes "closed") then lines.Closed else
    if bytes_eq name (codes "epoch") then lines.Epoch else
    if bytes_eq name (codes "quiet") then lines.Quiet else
    if bytes_eq name (codes "busy") then lines.Busy else
    if bytes_eq name (codes "unsettled") then lines.Unsettled else
    if bytes_eq name (codes "end") then lines.End else
    request_at name ws

unfoldable pub line_at : List (List ℕ) → Line
line_at ws =
    if bytes_eq (word0 ws) (codes "m") then lines.Move (move_at (later ws)) else word_line_at (word0 ws) (later ws)
