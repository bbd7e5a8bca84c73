-- The one spelling of each line of a report: its words, with single spaces between them. Numbers are
-- decimal without leading zeros, words of memory are 8 lower-case hexadecimal digits.
use Rattle.std.specs.Prelude.{ℕ, List, [], ◌∷◌, ◌++◌, codes, decimal, Some, None, Bool, true, false}
use Rattle.std.specs.Fmt.{signed_decimal}
use Rattle.line_text.specs.Words.{joined}
use Rattle.line_text.specs.Numbers.{hex8}
use Rattle.line_text.specs.Sector.{sector_words}
use Rattle.blk_base.specs.declared.operation.Abi.{Abi}
use Rattle.blk_base.specs.declared.operation.Abi.TheVariants.{X64, X32}
use Rattle.blk_base.specs.declared.operation.Status.{Status}
use Rattle.blk_base.specs.declared.operation.Status.TheVariants.{Okay, Error, Unsupported}
use Rattle.blk_base.specs.declared.parts.Mode.{Mode}
use Rattle.blk_base.specs.declared.parts.Mode.TheVariants.{ReadOnly, ReadWrite}
use Rattle.blk_base.specs.declared.config.Submission.{Submission}
use Rattle.blk_base.specs.declared.config.Submission.TheVariants as submissions
use Rattle.blk_base.specs.declared.moves.BackMover.{BackMover}
use Rattle.blk_base.specs.declared.moves.BackMover.TheVariants as back_mover
use Rattle.blk_base.specs.declared.moves.Mover.{Mover}
use Rattle.blk_base.specs.declared.moves.Mover.TheVariants as mover
use Rattle.blk_base.specs.declared.moves.Move.{Move}
use Rattle.blk_base.specs.declared.moves.Move.TheVariants as moves
use Rattle.schedule_text.specs.declared.line.Detail.{Detail}
use Rattle.schedule_text.specs.declared.line.Detail.TheVariants.{Lines, Moves}
use Rattle.blk_base.specs.declared.refusal.Refusal.{Refusal}
use Rattle.blk_base.specs.declared.refusal.Refusal.TheVariants as refusal
use Rattle.blk_base.specs.declared.halt.Halt.{Halt}
use Rattle.blk_base.specs.declared.halt.Halt.TheVariants as halts
use Rattle.schedule_text.specs.declared.line.Line.{Line}
use Rattle.schedule_text.specs.declared.line.Line.TheVariants as lines

-- the layout
abbrev pub abi_word : Abi → List ℕ
abi_word X64 = codes "64"
abi_word X32 = codes "32"

-- whether the disk is read-only
abbrev pub access_word : Bool → List ℕ
access_word true = codes "ro"
access_word false = codes "rw"

abbrev pub detail_word : Detail → List ℕ
detail_word Lines = codes "lines"
detail_word Moves = codes "moves"

abbrev pub status_word : Status → List ℕ
status_word Okay = codes "ok"
status_word Error = codes "error"
status_word Unsupported = codes "unsupported"

abbrev pub refusal_word : Refusal → List ℕ
refusal_word refusal.Spent = codes "spent"
refusal_word refusal.NotReady = codes "notready"
refusal_word refusal.Closing = codes "closing"
refusal_word refusal.Unsupported = codes "unsupported"
refusal_word refusal.ReadOnly = codes "readonly"
refusal_word refusal.Range = codes "range"
refusal_word refusal.Long = codes "long"
refusal_word refusal.Full = codes "full"
refusal_word refusal.Buffers = codes "buffers"

-- what a request asks for: the first sector, the count, and the word that the first sector is filled with
abbrev pub submission_words : Submission → List (List ℕ)
submission_words (submissions.Read sector count) = codes "read" ∷ decimal sector ∷ decimal count ∷ []
submission_words (submissions.Write sector count tag) = codes "write" ∷ decimal sector ∷ decimal count ∷ hex8 tag ∷ []
submission_words (submissions.Barrier sector count tag) = codes "barrier" ∷ decimal sector ∷ decimal count ∷ hex8 tag ∷ []
submission_words submissions.Flush = codes "flush" ∷ []
submission_words (submissions.Discard sector count) = codes "discard" ∷ decimal sector ∷ decimal count ∷ []

abbrev pub halt_words : Halt → List (List ℕ)
halt_words (halts.Overrun produced replied) = codes "overrun" ∷ decimal produced ∷ decimal replied ∷ []
halt_words (halts.Gone state) = codes "gone" ∷ decimal state ∷ []
halt_words (halts.Unplugged state) = codes "unplugged" ∷ decimal state ∷ []
halt_words (halts.BadKey name) = codes "badkey" ∷ name ∷ []
halt_words (halts.BadOrder state) = codes "badorder" ∷ decimal state ∷ []
halt_words (halts.BadPort port) = codes "badport" ∷ decimal port ∷ []
halt_words (halts.MapRefused gref status) = codes "refused" ∷ decimal gref ∷ signed_decimal status ∷ []

-- who moves: the front, the back, or a job of the back by its number
abbrev pub mover_words : Mover → List (List ℕ)
mover_words mover.Front = codes "front" ∷ []
mover_words mover.Back = codes "back" ∷ []
mover_words (mover.Job k) = codes "job" ∷ decimal k ∷ []

abbrev pub back_words : BackMover → List (List ℕ)
back_words back_mover.Back = codes "back" ∷ []
back_words (back_mover.Job k) = codes "job" ∷ decimal k ∷ []

abbrev pub mode_word : Mode → List ℕ
mode_word ReadOnly = codes "r"
mode_word ReadWrite = codes "w"

abbrev pub move_words : Move → List (List ℕ)
move_words (moves.FrontRead frame word value) = codes "front" ∷ codes "read" ∷ decimal frame ∷ decimal word ∷ hex8 value ∷ []
move_words (moves.FrontWrite frame word value) = codes "front" ∷ codes "write" ∷ decimal frame ∷ decimal word ∷ hex8 value ∷ []
move_words (moves.FrontCas frame word old new seen) = codes "front" ∷ codes "cas" ∷ decimal frame ∷ decimal word ∷ hex8 old ∷ hex8 new ∷ hex8 seen ∷ []
move_words (moves.FrontPort port) = codes "front" ∷ codes "port" ∷ decimal port ∷ []
move_words (moves.Read who mapping frame word value) = back_words who ++ codes "read" ∷ decimal mapping ∷ decimal frame ∷ decimal word ∷ hex8 value ∷ []
move_words (moves.Write who mapping frame word value) = back_words who ++ codes "write" ∷ decimal mapping ∷ decimal frame ∷ decimal word ∷ hex8 value ∷ []
move_words (moves.Map who gref mode mapping frame) = back_words who ++ codes "map" ∷ decimal gref ∷ mode_word mode ∷ codes "ok" ∷ decimal mapping ∷ decimal frame ∷ []
move_words (moves.MapRefused who gref mode status) = back_words who ++ codes "map" ∷ decimal gref ∷ mode_word mode ∷ codes "refused" ∷ signed_decimal status ∷ []
move_words (moves.Unmap who mapping) = back_words who ++ codes "unmap" ∷ decimal mapping ∷ []
move_words (moves.Bind port) = codes "back" ∷ codes "bind" ∷ decimal port ∷ codes "ok" ∷ []
move_words (moves.BindRefused port) = codes "back" ∷ codes "bind" ∷ decimal port ∷ codes "refused" ∷ []
move_words (moves.DiskRead k sector) = codes "job" ∷ decimal k ∷ codes "dread" ∷ decimal sector ∷ []
move_words (moves.DiskWrite k sector) = codes "job" ∷ decimal k ∷ codes "dwrite" ∷ decimal sector ∷ []
move_words (moves.DiskFlush k) = codes "job" ∷ decimal k ∷ codes "flush" ∷ []
move_words (moves.DiskTrim k sector count) = codes "job" ∷ decimal k ∷ codes "trim" ∷ decimal sector ∷ decimal count ∷ []
move_words (moves.Fence who) = mover_words who ++ codes "fence" ∷ []
move_words (moves.Send who) = mover_words who ++ codes "send" ∷ []
move_words (moves.ClosePort who) = mover_words who ++ codes "closeport" ∷ []
move_words (moves.Event who) = mover_words who ++ codes "event" ∷ []
move_words (moves.Watch who path) = mover_words who ++ codes "watch" ∷ path ∷ []
move_words (moves.Watched who path) = mover_words who ++ codes "watched" ∷ path ∷ []
move_words (moves.GetKey who path None) = mover_words who ++ codes "getkey" ∷ path ∷ []
move_words (moves.GetKey who path (Some text)) = mover_words who ++ codes "getkey" ∷ path ∷ (61 ∷ text) ∷ []
move_words (moves.SetKey who path text) = mover_words who ++ codes "setkey" ∷ path ∷ (61 ∷ text) ∷ []

-- the words of a line
abbrev pub words_of : Line → List (List ℕ)
words_of (lines.Begin config detail) = codes "begin" ∷ abi_word config.abi ∷ decimal config.order ∷ decimal config.persistent ∷ decimal config.indirect ∷ decimal config.start ∷ access_word config.read_only ∷ decimal config.sectors ∷ detail_word detail ∷ []
words_of lines.Ready = codes "ready" ∷ []
words_of lines.Closing = codes "closing" ∷ []
words_of lines.Closed = codes "closed" ∷ []
words_of (lines.Broken word) = codes "broken" ∷ hex8 word ∷ []
words_of (lines.Submit id submission) = codes "submit" ∷ decimal id ∷ submission_words submission
words_of (lines.Refuse refusal) = codes "refuse" ∷ refusal_word refusal ∷ []
words_of (lines.Effect id index) = codes "effect" ∷ decimal id ∷ decimal index ∷ []
words_of (lines.EffectRead id index words) = codes "effect" ∷ decimal id ∷ decimal index ∷ sector_words words
words_of (lines.Flushed id) = codes "flushed" ∷ decimal id ∷ []
words_of (lines.Trimmed id) = codes "trimmed" ∷ decimal id ∷ []
words_of (lines.Fault id index) = codes "fault" ∷ decimal id ∷ decimal index ∷ []
words_of (lines.Reply id status) = codes "reply" ∷ decimal id ∷ status_word status ∷ []
words_of (lines.Answer id status) = codes "answer" ∷ decimal id ∷ status_word status ∷ []
words_of (lines.Data id index words) = codes "data" ∷ decimal id ∷ decimal index ∷ sector_words words
words_of lines.Epoch = codes "epoch" ∷ []
words_of (lines.Halt halt) = codes "halt" ∷ halt_words halt
words_of (lines.Poke frame word value) = codes "poke" ∷ decimal frame ∷ decimal word ∷ decimal value ∷ []
words_of (lines.Key name text) = codes "key" ∷ name ∷ text ∷ []
words_of lines.Quiet = codes "quiet" ∷ []
words_of lines.Busy = codes "busy" ∷ []
words_of lines.Unsettled = codes "unsettled" ∷ []
words_of (lines.Word frame word value) = codes "word" ∷ decimal frame ∷ decimal word ∷ hex8 value ∷ []
words_of lines.End = codes "end" ∷ []
words_of (lines.Move move) = codes "m" ∷ move_words move

-- the text of a line
abbrev pub text_of : Line → List ℕ
text_of line = joined (words_of line)
