-- Whether a line may come next, by what is kept of the ring and of the back's jobs (`io/blkif.h`, `io/ring.h`).
use Rattle.std.specs.Prelude.{ℕ, ◌+◌, ◌%◌, Bool, true, false, not, ◌&&◌, ◌==◌, List, slice_index, Option, Some, None, is_none, is_some, Result, Ok}
use Rattle.std.specs.Map.{values_of}
use Rattle.blk_base.specs.declared.operation.Status.{Status}
use Rattle.blk_base.specs.declared.operation.Status.TheVariants as status
use Rattle.blk_base.specs.declared.moves.BackMover.TheVariants as back
use Rattle.blk_base.specs.declared.moves.Move.{Move}
use Rattle.blk_base.specs.declared.moves.Move.TheVariants as moves
use Rattle.blk_layout.specs.declared.response.Response.{Response}
use Rattle.blk_layout.specs.Response.{response_of}
use Rattle.schedule_text.specs.declared.line.Line.{Line}
use Rattle.schedule_text.specs.declared.line.Line.TheVariants as lines
use Rattle.report_rules.specs.declared.effect.DiskCall.{DiskCall}
use Rattle.report_rules.specs.declared.effect.DiskCall.TheVariants as calls
use Rattle.report_rules.specs.declared.effect.DiskMove.{DiskMove}
use Rattle.report_rules.specs.declared.effect.Outcome.{Outcome}
use Rattle.report_rules.specs.Effect.{outcome_of}
use Rattle.report_rules.specs.Job.{id_of}
use Rattle.report_rules.specs.Step.{stepper}
use Rattle.report_rules.specs.Reply.{is_reply}
use Rattle.ring_check.specs.State.{RingState, shape_seen, replied_seen, word_seen}
use Rattle.job_check.specs.Kept.{Kept}
use Rattle.job_check.specs.Open.{Open, may_step}
use Rattle.job_check.specs.Replies.{may_write}
use Rattle.job_check.specs.State.{JobState, job_at, value_seen, job_answered}

abbrev pub may_step_of : Option Open → Kept → Move → Bool
may_step_of None kept move = false
may_step_of (Some o) kept move = may_step o kept move

abbrev pub allows_step_of : JobState → Option ℕ → Move → Bool
allows_step_of s None move = true
allows_step_of s (Some k) move = may_step_of (job_at s.jobs k) s.kept move

-- each move of a job but an unmap is the next step of its work
abbrev pub allows_step : JobState → Line → Bool
allows_step s (lines.Move move) = allows_step_of s (stepper (lines.Move move)) move
allows_step s line = true

abbrev pub is_call : DiskCall → DiskCall → Bool
is_call calls.Read calls.Read = true
is_call calls.Write calls.Write = true
is_call calls.Flush calls.Flush = true
is_call calls.Trim calls.Trim = true
is_call a b = false

-- an outcome is that of the call that was made, where it was done: the rule's equation as a Bool
abbrev pub is_done_by : Option DiskCall → DiskCall → Bool
is_done_by None call = true
is_done_by (Some done) call = is_call done call

abbrev pub is_outcome_for : Option Open → DiskMove → Outcome → Bool
is_outcome_for None moved o = false
is_outcome_for (Some job) moved o = is_done_by o.call moved.call && (id_of job.request == o.id) && (o.index + 1 == job.moved)

abbrev pub is_outcome : JobState → Option DiskMove → Option Outcome → Bool
is_outcome s None None = true
is_outcome s (Some moved) (Some o) = is_outcome_for (job_at s.jobs moved.job) moved o
is_outcome s moved o = false

-- each move of the disk is followed by its outcome, and no other line is one
abbrev pub allows_effect : JobState → Line → Bool
allows_effect s line = is_outcome s s.moved (outcome_of line)

abbrev pub gives : Option (List ℕ) → ℕ → ℕ → Bool
gives None word value = false
gives (Some words) word value = value == slice_index words (word % 128)

abbrev pub gave_word : Option Open → ℕ → ℕ → Bool
gave_word None word value = false
gave_word (Some job) word value = gives job.sector word value

-- a word that a job writes is the one that the disk gave
abbrev pub allows_data : JobState → Line → Bool
allows_data s (lines.Move (moves.Write (back.Job k) number frame word value)) = gave_word (job_at s.jobs k) word value
allows_data s line = true

-- the word of the ring that the back writes in a line
abbrev pub word_written_seen : RingState → Line → Option ℕ
word_written_seen ring (lines.Move (moves.Write back.Back number frame word value)) = word_seen ring number word
word_written_seen ring line = None

abbrev pub allows_value : RingState → JobState → Line → Option ℕ → Bool
allows_value ring s line None = true
allows_value ring s line (Some value) = may_write s.replies (values_of s.jobs) (replied_seen ring) (word_written_seen ring line) value (shape_seen ring)

abbrev pub is_same_status : Status → Status → Bool
is_same_status status.Okay status.Okay = true
is_same_status status.Error status.Error = true
is_same_status status.Unsupported status.Unsupported = true
is_same_status a b = false

-- a line tells of a response: the rule's equation of lines (`line_of`) as a Bool
abbrev pub tells_of : Result Response ℕ → Line → Bool
tells_of (Ok r) (lines.Reply id status) = (r.id == id) && is_same_status r.status status
tells_of r line = false

-- a reply that was pushed is told at once, and no other is
abbrev pub is_told : JobState → Line → Option (List ℕ) → Bool
is_told s line None = not (is_reply line)
is_told s line (Some row) = tells_of (response_of row) line && is_some (job_answered s)

-- the back writes only the next word of a reply, and tells each that it pushed
abbrev pub allows_reply : RingState → JobState → Line → Bool
allows_reply ring s line = allows_value ring s line (value_seen ring line) && is_told s line s.replies.pushed

-- all of these rules allow the line
abbrev pub allows : RingState → JobState → Line → Bool
allows ring s line = allows_step s line && allows_effect s line && allows_data s line && allows_reply ring s line

-- nothing is due after the line before
abbrev pub owes_none : JobState → Bool
owes_none s = is_none s.moved && is_none s.replies.pushed
