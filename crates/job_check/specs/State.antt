-- What a reader keeps of the back's jobs, line by line (`io/blkif.h`, `io/ring.h`): the disk and what was published of grants, the entry that is being read, the jobs that had no reply, what they mapped, and the reply under way. What is kept of the ring (`ring_check`) is that of the same lines.
use Rattle.std.specs.Prelude.{ℕ, ◌+◌, if◌then◌else◌, List, [], ◌∷◌, ◌++◌, Option, Some, None, is_some}
use Rattle.std.specs.Map.{lookup, remove_entry, set_value, values_of}
use Rattle.std.specs.BTreeMap.{is_at, insert_entry}
use Rattle.std.specs.Ordering.{nat_cmp}
use Rattle.blk_base.specs.declared.moves.BackMover.TheVariants as back
use Rattle.blk_base.specs.declared.moves.Move.{Move}
use Rattle.blk_base.specs.declared.moves.Move.TheVariants as moves
use Rattle.blk_base.specs.declared.parts.Mode.{Mode}
use Rattle.blk_layout.specs.declared.request.RawRequest.{RawRequest}
use Rattle.grant_table.specs.Entry.{is_for_writing}
use Rattle.schedule_text.specs.declared.line.Line.{Line}
use Rattle.schedule_text.specs.declared.line.Line.TheVariants as lines
use Rattle.report_rules.specs.declared.job.Fetched.{Fetched}
use Rattle.report_rules.specs.declared.effect.DiskMove.{DiskMove}
use Rattle.report_rules.specs.Standing.{is_epoch}
use Rattle.report_rules.specs.Step.{stepper}
use Rattle.report_rules.specs.Stretch.{entry_of}
use Rattle.report_rules.specs.Effect.{disk_move_of}
use Rattle.report_rules.specs.Reply.{is_event}
use Rattle.ring_check.specs.State.{RingState, word_seen, entry_word_seen}
use Rattle.job_check.specs.declared.kept.Made.{Made}
use Rattle.job_check.specs.Kept.{Kept, after_map, after_unmap}
use Rattle.job_check.specs.Open.{Open, opened, with_end, after_word, walked_by, moved_by, failed_by, with_sector}
use Rattle.job_check.specs.Published.{Published, nothing_published, published_after, is_persistent}
use Rattle.job_check.specs.Replies.{Replies, no_replies, after_value, after_other, answered_by}

-- the jobs by their numbers; how many were fetched in this epoch; the words so far of the entry that is being read; and the move of the disk that the last line is
pub record JobState : Type 0 where
  pub published : Published
  pub kept : Kept
  pub jobs : List (ℕ × Open)
  pub fetched : ℕ
  pub entry : List ℕ
  pub replies : Replies
  pub moved : Option DiskMove

-- an epoch in which nothing was seen
abbrev pub begun_with : Published → JobState
begun_with p = record { published = p; kept = []; jobs = []; fetched = 0; entry = []; replies = no_replies; moved = None }

abbrev pub no_lines : JobState
no_lines = begun_with nothing_published

abbrev pub job_at : List (ℕ × Open) → ℕ → Option Open
job_at jobs k = lookup (is_at (nat_cmp k)) jobs

-- a job was changed
abbrev pub with_job : List (ℕ × Open) → ℕ → Open → List (ℕ × Open)
with_job jobs k o = set_value (is_at (nat_cmp k)) jobs o

abbrev pub changed : (Open → Open) → List (ℕ × Open) → ℕ → Option Open → List (ℕ × Open)
changed change jobs k None = jobs
changed change jobs k (Some o) = with_job jobs k (change o)

-- one job is changed, if it is open
abbrev pub job_changed : JobState → ℕ → (Open → Open) → JobState
job_changed s k change = record s { jobs = changed change s.jobs k (job_at s.jobs k) }

-- what was fetched, with the disk, and with what is published of grants now
abbrev pub fetched_with : JobState → RawRequest → Fetched
fetched_with s request = record { request = request; disk = s.published.info; persistent = is_persistent s.published }

-- the entry whose words were read is whole: its job is opened
abbrev pub fetched_by : JobState → List ℕ → Option RawRequest → JobState
fetched_by s entry None = record s { entry = entry }
fetched_by s entry (Some request) = record s {
  jobs = insert_entry nat_cmp s.jobs (s.fetched + 1) (opened s.replies.rows (s.fetched + 1) (fetched_with s request));
  fetched = s.fetched + 1;
  entry = [];
}

-- a word of an entry was read
abbrev pub after_entry_word : RingState → JobState → ℕ → JobState
after_entry_word ring s value = fetched_by s (s.entry ++ value ∷ []) (entry_of ring.abi (s.entry ++ value ∷ []))

-- a job made a move
abbrev pub after_step : JobState → Option ℕ → Move → JobState
after_step s None move = s
after_step s (Some k) move = job_changed s k (moved_by s.replies.rows move)

abbrev pub made_of : ℕ → ℕ → Mode → Made
made_of job gref mode = record { job = job; gref = gref; writes = is_for_writing mode }

-- what jobs map and what is unmapped
abbrev pub kept_after : Kept → Move → Kept
kept_after kept (moves.Map (back.Job k) gref mode number frame) = after_map kept number (made_of k gref mode)
kept_after kept (moves.Unmap who number) = after_unmap kept number
kept_after kept move = kept

-- the word that the back writes into the ring in a line, but to req_event
abbrev pub value_seen : RingState → Line → Option ℕ
value_seen ring (lines.Move (moves.Write back.Back number frame word value)) = if is_event (word_seen ring number word) then None else Some value
value_seen ring line = None

-- the word of an entry that a line shows
abbrev pub entry_value_seen : RingState → Line → Option ℕ
entry_value_seen ring (lines.Move (moves.Read back.Back number frame word value)) = if is_some (entry_word_seen ring (lines.Move (moves.Read back.Back number frame word value))) then Some value else None
entry_value_seen ring line = None

abbrev pub with_kept : JobState → Move → JobState
with_kept s move = record s { kept = kept_after s.kept move }

-- a job read a word
abbrev pub after_word_read : JobState → ℕ → Move → (value : ℕ) → JobState
after_word_read s k move value = job_changed s k (λ o. with_end s.replies.rows (after_word (walked_by o move) value))

-- nothing more is due after the line before
abbrev pub passed : JobState → JobState
passed s = record s { replies = after_other s.replies; moved = None }

-- after a move that is none of the back's on its ring
abbrev pub after_other_move : JobState → Move → JobState
after_other_move s move = after_step (with_kept (record s { replies = after_other s.replies }) move) (stepper (lines.Move move)) move

abbrev pub after_read : RingState → JobState → Move → Option ℕ → JobState
after_read ring s move None = after_other_move s move
after_read ring s move (Some value) = after_entry_word ring (record s { replies = after_other s.replies }) value

abbrev pub after_move : RingState → JobState → Move → Option ℕ → JobState
after_move ring s move None = after_read ring s move (entry_value_seen ring (lines.Move move))
after_move ring s move (Some value) = record s { replies = after_value s.replies value }

-- the job whose move of the disk the last line is
abbrev pub job_moved : Option DiskMove → Option ℕ
job_moved None = None
job_moved (Some moved) = Some moved.job

-- the job whose row the last line pushed
abbrev pub job_answered : JobState → Option ℕ
job_answered s = answered_by s.kept (is_persistent s.published) s.replies.rows (values_of s.jobs) s.replies.pushed

-- a job had its reply
abbrev pub without_job : JobState → Option ℕ → JobState
without_job s None = s
without_job s (Some k) = record s { jobs = remove_entry (is_at (nat_cmp k)) s.jobs }

abbrev pub for_job : JobState → Option ℕ → (Open → Open) → JobState
for_job s None change = s
for_job s (Some k) change = job_changed s k change

-- after a line of an epoch, but for what was published and the move of the disk that it is
abbrev pub after_line : RingState → JobState → Line → JobState
after_line ring s (lines.Move move) = after_move ring s move (value_seen ring (lines.Move move))
after_line ring s (lines.EffectRead id index words) = for_job (record s { replies = after_other s.replies }) (job_moved s.moved) (λ (o : Open). with_sector o words)
after_line ring s (lines.Fault id index) = for_job (record s { replies = after_other s.replies }) (job_moved s.moved) (failed_by s.replies.rows)
after_line ring s (lines.Reply id status) = without_job (record s { replies = after_other s.replies }) (job_answered s)
after_line ring s line = record s { replies = after_other s.replies }

-- one line further, where this is kept of the ring before the line: an epoch begins all anew but the options
abbrev pub seen : RingState → JobState → Line → JobState
seen ring s line =
    if is_epoch line then begun_with (published_after s.published line)
    else record (after_line ring s line) { published = published_after s.published line; moved = disk_move_of line }
