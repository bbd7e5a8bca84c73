-- What a line's numbers and texts may be.
use Rattle.std.specs.Prelude.{◌≡◌, ℕ, ◌<◌, ◌≤◌, ◌^◌, Bool, true, ◌&&◌, nat_lt, List, FitsSigned, Some, None}
use Rattle.std.specs.Int.{w32}
use Rattle.line_text.specs.Sector.{IsSector}
use Rattle.line_text.specs.Texts.{is_key_name, is_key_text, is_key_path}
use Rattle.blk_base.specs.declared.config.Submission.{Submission}
use Rattle.blk_base.specs.declared.config.Submission.TheVariants as submissions
use Rattle.blk_base.specs.declared.moves.BackMover.{BackMover}
use Rattle.blk_base.specs.declared.moves.BackMover.TheVariants as back_mover
use Rattle.blk_base.specs.declared.moves.Mover.{Mover}
use Rattle.blk_base.specs.declared.moves.Mover.TheVariants as mover
use Rattle.blk_base.specs.declared.moves.Move.{Move}
use Rattle.blk_base.specs.declared.moves.Move.TheVariants as moves
use Rattle.blk_base.specs.Options.{Options}
use Rattle.blk_base.specs.declared.halt.Halt.{Halt}
use Rattle.blk_base.specs.declared.halt.Halt.TheVariants as halts
use Rattle.schedule_text.specs.declared.line.Line.{Line}
use Rattle.schedule_text.specs.declared.line.Line.TheVariants as lines
use Rattle.schedule_text.specs.Line.{text_of}

abbrev pub IsWord : ℕ → Type 0
IsWord n = n < 2 ^ 32

abbrev pub IsLong : ℕ → Type 0
IsLong n = n < 2 ^ 64

abbrev pub IsCount : ℕ → Type 0
IsCount n = (0 < n) × IsWord n

abbrev pub SubmissionHasWidths : Submission → Type 0
SubmissionHasWidths (submissions.Read sector count) = IsLong sector × IsCount count
SubmissionHasWidths (submissions.Write sector count tag) = IsLong sector × IsCount count × IsWord tag
SubmissionHasWidths (submissions.Barrier sector count tag) = IsLong sector × IsCount count × IsWord tag
SubmissionHasWidths submissions.Flush = Unit {0}
SubmissionHasWidths (submissions.Discard sector count) = IsLong sector × IsCount count

abbrev pub HaltHasWidths : Halt → Type 0
HaltHasWidths (halts.Overrun produced replied) = IsWord produced × IsWord replied
HaltHasWidths (halts.Gone state) = IsWord state
HaltHasWidths (halts.Unplugged state) = IsWord state
HaltHasWidths (halts.BadKey name) = Unit {0}
HaltHasWidths (halts.BadOrder state) = IsWord state
HaltHasWidths (halts.BadPort port) = IsWord port
HaltHasWidths (halts.MapRefused gref status) = IsWord gref × FitsSigned w32 status

abbrev pub MoverHasWidths : Mover → Type 0
MoverHasWidths mover.Front = Unit {0}
MoverHasWidths mover.Back = Unit {0}
MoverHasWidths (mover.Job k) = IsLong k

abbrev pub BackHasWidths : BackMover → Type 0
BackHasWidths back_mover.Back = Unit {0}
BackHasWidths (back_mover.Job k) = IsLong k

abbrev pub MoveHasWidths : Move → Type 0
MoveHasWidths (moves.FrontRead frame word value) = IsWord frame × IsWord word × IsWord value
MoveHasWidths (moves.FrontWrite frame word value) = IsWord frame × IsWord word × IsWord value
MoveHasWidths (moves.FrontCas frame word old new seen) = IsWord frame × IsWord word × IsWord old × IsWord new × IsWord seen
MoveHasWidths (moves.FrontPort port) = IsWord port
MoveHasWidths (moves.Read who mapping frame word value) = BackHasWidths who × IsLong mapping × IsWord frame × IsWord word × IsWord value
MoveHasWidths (moves.Write who mapping frame word value) = BackHasWidths who × IsLong mapping × IsWord frame × IsWord word × IsWord value
MoveHasWidths (moves.Map who gref mode mapping frame) = BackHasWidths who × IsWord gref × IsLong mapping × IsWord frame
MoveHasWidths (moves.MapRefused who gref mode status) = BackHasWidths who × IsWord gref × FitsSigned w32 status
MoveHasWidths (moves.Unmap who mapping) = BackHasWidths who × IsLong mapping
MoveHasWidths (moves.Bind port) = IsWord port
MoveHasWidths (moves.BindRefused port) = IsWord port
MoveHasWidths (moves.DiskRead k sector) = IsLong k × IsLong sector
MoveHasWidths (moves.DiskWrite k sector) = IsLong k × IsLong sector
MoveHasWidths (moves.DiskFlush k) = IsLong k
MoveHasWidths (moves.DiskTrim k sector count) = IsLong k × IsLong sector × IsLong count
MoveHasWidths (moves.Fence who) = MoverHasWidths who
MoveHasWidths (moves.Send who) = MoverHasWidths who
MoveHasWidths (moves.ClosePort who) = MoverHasWidths who
MoveHasWidths (moves.Event who) = MoverHasWidths who
MoveHasWidths (moves.Watch who path) = MoverHasWidths who
MoveHasWidths (moves.Watched who path) = MoverHasWidths who
MoveHasWidths (moves.GetKey who path found) = MoverHasWidths who
MoveHasWidths (moves.SetKey who path text) = MoverHasWidths who

-- the options, as every `Config` has them
abbrev pub AreOptions : Options → Type 0
AreOptions config = (config.order ≤ 4) × (config.persistent ≤ 1000) × (config.indirect ≤ 960) × IsWord config.start × IsLong config.sectors

-- each number has as many bits as its type: every value of the type `Line` is so
abbrev pub HasWidths : Line → Type 0
HasWidths (lines.Begin config detail) = AreOptions config
HasWidths lines.Ready = Unit {0}
HasWidths lines.Closing = Unit {0}
HasWidths lines.Closed = Unit {0}
HasWidths (lines.Broken word) = IsWord word
HasWidths (lines.Submit id submission) = IsLong id × SubmissionHasWidths submission
HasWidths (lines.Refuse refusal) = Unit {0}
HasWidths (lines.Effect id index) = IsLong id × IsWord index
HasWidths (lines.EffectRead id index words) = IsLong id × IsWord index × IsSector words
HasWidths (lines.Flushed id) = IsLong id
HasWidths (lines.Trimmed id) = IsLong id
HasWidths (lines.Fault id index) = IsLong id × IsWord index
HasWidths (lines.Reply id status) = IsLong id
HasWidths (lines.Answer id status) = IsLong id
HasWidths (lines.Data id index words) = IsLong id × IsWord index × IsSector words
HasWidths lines.Epoch = Unit {0}
HasWidths (lines.Halt halt) = HaltHasWidths halt
HasWidths (lines.Poke frame word value) = IsWord frame × IsWord word × IsWord value
HasWidths (lines.Key name text) = Unit {0}
HasWidths lines.Quiet = Unit {0}
HasWidths lines.Busy = Unit {0}
HasWidths lines.Unsettled = Unit {0}
HasWidths (lines.Word frame word value) = IsWord frame × IsWord word × IsWord value
HasWidths lines.End = Unit {0}
HasWidths (lines.Move move) = MoveHasWidths move

-- jobs count from 1
abbrev pub is_mover_allowed : Mover → Bool
is_mover_allowed mover.Front = true
is_mover_allowed mover.Back = true
is_mover_allowed (mover.Job k) = nat_lt 0 k

abbrev pub is_back_allowed : BackMover → Bool
is_back_allowed back_mover.Back = true
is_back_allowed (back_mover.Job k) = nat_lt 0 k

-- what the grammar asks of a move besides
abbrev pub is_move_allowed : Move → Bool
is_move_allowed (moves.FrontRead frame word value) = true
is_move_allowed (moves.FrontWrite frame word value) = true
is_move_allowed (moves.FrontCas frame word old new seen) = true
is_move_allowed (moves.FrontPort port) = true
is_move_allowed (moves.Read who mapping frame word value) = is_back_allowed who
is_move_allowed (moves.Write who mapping frame word value) = is_back_allowed who
is_move_allowed (moves.Map who gref mode mapping frame) = is_back_allowed who
is_move_allowed (moves.MapRefused who gref mode status) = is_back_allowed who
is_move_allowed (moves.Unmap who mapping) = is_back_allowed who
is_move_allowed (moves.Bind port) = true
is_move_allowed (moves.BindRefused port) = true
is_move_allowed (moves.DiskRead k sector) = nat_lt 0 k
is_move_allowed (moves.DiskWrite k sector) = nat_lt 0 k
is_move_allowed (moves.DiskFlush k) = nat_lt 0 k
is_move_allowed (moves.DiskTrim k sector count) = nat_lt 0 k
is_move_allowed (moves.Fence who) = is_mover_allowed who
is_move_allowed (moves.Send who) = is_mover_allowed who
is_move_allowed (moves.ClosePort who) = is_mover_allowed who
is_move_allowed (moves.Event who) = is_mover_allowed who
is_move_allowed (moves.Watch who path) = is_mover_allowed who && is_key_path path
is_move_allowed (moves.Watched who path) = is_mover_allowed who && is_key_path path
is_move_allowed (moves.GetKey who path None) = is_mover_allowed who && is_key_path path
is_move_allowed (moves.GetKey who path (Some text)) = is_mover_allowed who && is_key_path path && is_key_text text
is_move_allowed (moves.SetKey who path text) = is_mover_allowed who && is_key_path path && is_key_text text

-- the name of a key that halts the back
abbrev pub is_halt_allowed : Halt → Bool
is_halt_allowed (halts.Overrun produced replied) = true
is_halt_allowed (halts.Gone state) = true
is_halt_allowed (halts.Unplugged state) = true
is_halt_allowed (halts.BadKey name) = is_key_name name
is_halt_allowed (halts.BadOrder state) = true
is_halt_allowed (halts.BadPort port) = true
is_halt_allowed (halts.MapRefused gref status) = true

-- what the grammar asks besides
abbrev pub is_allowed : Line → Bool
is_allowed (lines.Begin config detail) = true
is_allowed lines.Ready = true
is_allowed lines.Closing = true
is_allowed lines.Closed = true
is_allowed (lines.Broken word) = true
is_allowed (lines.Submit id submission) = true
is_allowed (lines.Refuse refusal) = true
is_allowed (lines.Effect id index) = true
is_allowed (lines.EffectRead id index words) = true
is_allowed (lines.Flushed id) = true
is_allowed (lines.Trimmed id) = true
is_allowed (lines.Fault id index) = true
is_allowed (lines.Reply id status) = true
is_allowed (lines.Answer id status) = true
is_allowed (lines.Data id index words) = true
is_allowed lines.Epoch = true
is_allowed (lines.Halt halt) = is_halt_allowed halt
is_allowed (lines.Poke frame word value) = nat_lt frame 1024 && nat_lt word 1024
is_allowed (lines.Key name text) = is_key_name name && is_key_text text
is_allowed lines.Quiet = true
is_allowed lines.Busy = true
is_allowed lines.Unsettled = true
is_allowed (lines.Word frame word value) = true
is_allowed lines.End = true
is_allowed (lines.Move move) = is_move_allowed move

-- a line of the grammar
pub record IsInRange (line : Line) : Type 0 where
  pub widths : HasWidths line
  pub allowed : is_allowed line ≡ true

-- the bytes are the text of this line of the grammar
pub record IsTextOf (line : Line) (bytes : List ℕ) : Type 0 where
  pub in_range : IsInRange line
  pub text : text_of line ≡ bytes
