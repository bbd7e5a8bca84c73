-- Each answer is the response that was read (`io/blkif.h`, struct blkif_response; `io/ring.h`, RING_GET_RESPONSE).
-- Its id and its status are those of the three words of the response at the front's consumer, which it read in their order, and then no other word of an entry.
use Rattle.std.specs.Prelude.{◌≡◌, ℕ, ◌+◌, ◌-◌, ◌*◌, ◌/◌, ◌^◌, Bool, false, ◌&&◌, nat_lt, List, [], ◌∷◌, length, Some}
use Rattle.blk_base.specs.Options.{Options}
use Rattle.blk_base.specs.declared.operation.Status.{Status}
use Rattle.blk_base.specs.declared.moves.Move.TheVariants as moves
use Rattle.ring_words.specs.Shape.{Shape}
use Rattle.blk_layout.specs.Response.{status_of}
use Rattle.schedule_text.specs.declared.line.Detail.{Detail}
use Rattle.schedule_text.specs.declared.line.Detail.TheVariants.{Moves}
use Rattle.schedule_text.specs.declared.line.Line.{Line}
use Rattle.schedule_text.specs.declared.line.Line.TheVariants as lines
use Rattle.schedule_text.specs.Range.{AreOptions}
use Rattle.schedule_text.specs.Recorder.{kept_of}
use Rattle.report_rules.specs.Obeys.{Obeys}
use Rattle.vbd_model.specs.Happening.{Happening}
use Rattle.vbd_model.specs.Report.{report_of, ended_report_of}
use Rattle.vbd_laws.specs.Breaks.{FrontSight, wide, told_by}

-- these three words, and no others, are a response of this id and this status
pub record IsRead (response : List ℕ) (id : ℕ) (status : Status) : Type 0 where
  pub low : ℕ
  pub high : ℕ
  pub last : ℕ
  pub words : response ≡ low ∷ high ∷ last ∷ []
  pub id_is : id ≡ wide low high
  pub status_is : status_of (last / 2 ^ 16) ≡ Some status

-- a word of an entry: those of the ring's frames, of which the first is 2, after the 16 words that both ends share
abbrev pub is_of_entries : Shape → (frame word : ℕ) → Bool
is_of_entries shape frame word = nat_lt 1 frame && nat_lt frame (2 + 2 ^ shape.order) && nat_lt 15 (1024 * (frame - 2) + word)

-- an answer is the response that was read; and once its three words were read no word of an entry is, before the answer
abbrev pub IsReadAfter : FrontSight → Line → Type 0
IsReadAfter s (lines.Answer id status) = IsRead s.response id status
IsReadAfter s (lines.Move (moves.FrontRead frame word value)) = length s.response ≡ 3 → is_of_entries s.shape frame word ≡ false
IsReadAfter s line = Unit {0}

abbrev pub IsReadAt : List Line → Line → Type 0
IsReadAt before line = IsReadAfter (told_by before) line

abbrev pub AreRead : List Line → Type 0
AreRead report = Obeys IsReadAt report

-- so of the report with moves of each history, whatever happens, of a machine with options of the grammar; and of each with its last line
abbrev pub EachReportAnswersWhatIsRead : Type 0
EachReportAnswersWhatIsRead =
    (config : Options) (detail : Detail) (history : List Happening) → AreOptions config → detail ≡ Moves
    → AreRead (kept_of detail (report_of config detail history))

abbrev pub EachEndedAnswersWhatIsRead : Type 0
EachEndedAnswersWhatIsRead =
    (config : Options) (detail : Detail) (history : List Happening) → AreOptions config → detail ≡ Moves
    → AreRead (kept_of detail (ended_report_of config detail history))
