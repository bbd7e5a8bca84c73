-- What the lines of a report tell of requests (`io/blkif.h`), kept as a state that takes one step a line: only what is open is kept.
use Rattle.std.specs.Prelude.{ℕ, ◌+◌, ◌-◌, min, Bool, true, false, ◌||◌, List, [], fold, Option, Some, None, if◌then◌else◌}
use Rattle.std.specs.Map.{lookup, set_value, remove_entry}
use Rattle.std.specs.BTreeMap.{is_at, insert_entry}
use Rattle.std.specs.Ordering.{nat_cmp}
use Rattle.blk_base.specs.declared.config.Submission.{Submission}
use Rattle.blk_base.specs.declared.operation.Status.{Status}
use Rattle.schedule_text.specs.declared.line.Line.{Line}
use Rattle.schedule_text.specs.declared.line.Line.TheVariants as lines
use Rattle.plain_disk.specs.declared.request.RequestStage.{RequestStage}
use Rattle.plain_disk.specs.declared.request.RequestStage.TheVariants as stages
use Rattle.plain_disk.specs.declared.sight.Sight.{Sight}
use Rattle.plain_disk.specs.Request.{is_write, is_barrier, is_discard, is_finished, sector_of, count_of, filling}
use Rattle.plain_disk.specs.Step.{told_stage, next_stage}
use Rattle.plain_disk.specs.Refusal as refusals
use Rattle.plain_disk.specs.Refusal.{nothing_seen, frames_of}
use Rattle.request_check.specs.Rules.{is_closed_line}
use Rattle.request_check.specs.Entries.{with_entry, with_old_entry}
use Rattle.request_check.specs.declared.words.Discarded.{Discarded}
use Rattle.request_check.specs.Words.{Known, nothing_known, with_single, with_range}
use Rattle.request_check.specs.Progress.{Progress, changed, with_done, with_fault, with_reply}

-- a request that isn't finished: its number, what it asks for, how far it is told, and the words that its sectors showed
pub record Open : Type 0 where
  pub number : ℕ
  pub submission : Submission
  pub stage : RequestStage
  pub noted : List (ℕ × List ℕ)

-- what was seen of the front, whether it was closed, the last number, the frames that unfinished requests hold, how many of them are barriers, these requests, what was done of them in this epoch, and what sectors hold
pub record State : Type 0 where
  pub sight : Sight
  pub closed : Bool
  pub submitted : ℕ
  pub frames : ℕ
  pub barriers : ℕ
  pub requests : List (ℕ × Open)
  pub progress : List (ℕ × Progress)
  pub sectors : Known

abbrev pub start : State
start = record { sight = nothing_seen; closed = false; submitted = 0; frames = 0; barriers = 0; requests = []; progress = []; sectors = nothing_known }

abbrev pub open_of : List (ℕ × Open) → ℕ → Option Open
open_of requests id = lookup (is_at (nat_cmp id)) requests

abbrev pub opened : ℕ → Submission → Open
opened id submission = record { number = id; submission = submission; stage = stages.Open; noted = [] }

-- a count that stays where it is past 64 bits
abbrev pub capped : ℕ → ℕ
capped n = min n 18446744073709551615

-- how many barriers a submission is
abbrev pub barriers_of : Submission → ℕ
barriers_of submission = if is_barrier submission then 1 else 0

abbrev pub submitted_to : State → ℕ → Submission → State
submitted_to s id submission = record s {
  submitted = id;
  frames = capped (s.frames + frames_of submission);
  barriers = capped (s.barriers + barriers_of submission);
  requests = insert_entry nat_cmp s.requests id (opened id submission);
}

abbrev pub with_progress : State → (Progress → Progress) → ℕ → State
with_progress s change id = record s { progress = changed change s.progress id }

abbrev pub with_open : State → ℕ → Open → State
with_open s id o = record s { requests = set_value (is_at (nat_cmp id)) s.requests o }

-- a sector was filled
abbrev pub filled : State → ℕ → ℕ → Option Open → State
filled s id index None = s
filled s id index (Some o) = record (with_progress s (with_done index) id) { sectors = with_single s.sectors (sector_of o.submission + index) (Some (filling o.submission index)) }

abbrev pub with_note : Open → ℕ → List ℕ → Open
with_note o index words = record o { noted = with_entry o.noted index words }

-- a sector of it is noted as it was before
abbrev pub with_old_note : Open → ℕ → Option (List ℕ) → Open
with_old_note o index old = record o { noted = with_old_entry o.noted index old }

-- a sector showed these words
abbrev pub shown : State → ℕ → ℕ → List ℕ → Option Open → State
shown s id index words None = s
shown s id index words (Some o) = record (with_open (with_progress s (with_done index) id) id (with_note o index words)) { sectors = with_single s.sectors (sector_of o.submission + index) (Some words) }

abbrev pub flushed : State → ℕ → Option Open → State
flushed s id None = s
flushed s id (Some o) = with_progress s (with_done 0) id

-- the sectors of a discard, of which the disk failed or not
abbrev pub discarded : Submission → Bool → Discarded
discarded submission failed = record { sector = sector_of submission; count = count_of submission; failed = failed }

abbrev pub trimmed : State → ℕ → Option Open → State
trimmed s id None = s
trimmed s id (Some o) = record (with_progress s (with_done 0) id) { sectors = with_range s.sectors (discarded o.submission false) }

-- what a fault leaves unknown: the sector in hand of a write or barrier, the range of a discard
abbrev pub lost : Known → Submission → ℕ → Known
lost known submission index =
    if is_write submission then with_single known (sector_of submission + index) None
    else (if is_discard submission then with_range known (discarded submission true)
    else known)

abbrev pub failed : State → ℕ → ℕ → Option Open → State
failed s id index None = s
failed s id index (Some o) = record (with_progress s with_fault id) { sectors = lost s.sectors o.submission index }

abbrev pub replied : State → ℕ → Status → Option Open → State
replied s id status None = s
replied s id status (Some o) = with_progress s (with_reply status) id

-- nothing is kept of a request that is finished
abbrev pub without : State → ℕ → Submission → State
without s id submission = record s {
  frames = s.frames - frames_of submission;
  barriers = s.barriers - barriers_of submission;
  requests = remove_entry (is_at (nat_cmp id)) s.requests;
  progress = remove_entry (is_at (nat_cmp id)) s.progress;
}

-- a request was told further
abbrev pub told_to : State → ℕ → Open → RequestStage → State
told_to s id o stage = if is_finished stage then without s id o.submission else with_open s id (record o { stage = stage })

abbrev pub told_by : State → ℕ → RequestStage → Option Open → State
told_by s id stage None = s
told_by s id stage (Some o) = told_to s id o stage

abbrev pub answered : State → ℕ → Status → Option Open → State
answered s id status None = s
answered s id status (Some o) = told_to s id o (told_stage o.submission status)

abbrev pub told : State → ℕ → ℕ → Option Open → State
told s id index None = s
told s id index (Some o) = told_to s id o (next_stage o.submission index)

-- the state one line further on, but for what the line shows of the front
abbrev pub stepped : State → Line → State
stepped s (lines.Submit id submission) = submitted_to s id submission
stepped s (lines.Effect id index) = filled s id index (open_of s.requests id)
stepped s (lines.EffectRead id index words) = shown s id index words (open_of s.requests id)
stepped s (lines.Flushed id) = flushed s id (open_of s.requests id)
stepped s (lines.Trimmed id) = trimmed s id (open_of s.requests id)
stepped s (lines.Fault id index) = failed s id index (open_of s.requests id)
stepped s (lines.Reply id status) = replied s id status (open_of s.requests id)
stepped s (lines.Answer id status) = answered s id status (open_of s.requests id)
stepped s (lines.Data id index words) = told s id index (open_of s.requests id)
stepped s lines.Epoch = record s { progress = [] }
stepped s line = s

-- what a line shows of the front
abbrev pub shown_by : State → Line → State
shown_by s line = record s { sight = refusals.seen s.sight line; closed = s.closed || is_closed_line line }

-- the state one line further on
abbrev pub seen : State → Line → State
seen s line = shown_by (stepped s line) line

-- the state after these lines
abbrev pub state_after : List Line → State
state_after before = fold seen start before
