-- What the state says of the next line: whether it keeps each of the rules on requests (`io/blkif.h`, `io/xenbus.h`).
use Rattle.std.specs.Prelude.{ℕ, ◌+◌, ◌*◌, ◌^◌, max, min, Bool, true, false, not, ◌&&◌, ◌||◌, ◌==◌, nat_le, nat_lt, is_none, is_some, List, length, Option, Some, None, option_map, if◌then◌else◌}
use Rattle.std.specs.List.{list_all}
use Rattle.std.specs.Map.{values_of}
use Rattle.blk_base.specs.Options.{Options}
use Rattle.blk_base.specs.declared.config.Submission.{Submission}
use Rattle.blk_base.specs.declared.config.Submission.TheVariants as submissions
use Rattle.blk_base.specs.declared.operation.Status.{Status}
use Rattle.blk_base.specs.declared.operation.Status.TheVariants as status
use Rattle.blk_base.specs.declared.refusal.Refusal.{Refusal}
use Rattle.blk_base.specs.declared.refusal.Refusal.TheVariants as refusal
use Rattle.schedule_text.specs.declared.line.Line.{Line}
use Rattle.schedule_text.specs.declared.line.Line.TheVariants as lines
use Rattle.plain_disk.specs.Request.{is_read, is_write, is_barrier, is_flush, is_discard, is_ordered, is_open, places_of, sector_of}
use Rattle.plain_disk.specs.Sector.{only, may_hold}
use Rattle.plain_disk.specs.Step.{is_status, is_next, are_noted}
use Rattle.plain_disk.specs.Refusal.{is_unsupported, is_refused_write, is_past_end, is_long, frames_of}
use Rattle.request_check.specs.Rules.{is_any, is_gone}
use Rattle.request_check.specs.Entries.{entry_at}
use Rattle.request_check.specs.Words.{words_in}
use Rattle.request_check.specs.Progress.{Progress, progress_of, is_place_done}
use Rattle.request_check.specs.State.{Open, State, open_of}

-- no request is unfinished
abbrev pub is_idle : State → Bool
is_idle s = length s.requests == 0

abbrev pub allows_state : State → Line → Bool
allows_state s lines.Ready = not s.closed && not s.sight.broken && not s.sight.connected
allows_state s lines.Closing = not s.sight.closing
allows_state s lines.Closed = s.sight.closing && is_idle s
allows_state s (lines.Broken word) = false
allows_state s lines.Unsettled = false
allows_state s (lines.Halt halt) = is_gone halt
allows_state s line = true

-- the front takes submissions: it is connected, and neither closing nor broken, and a number is left
abbrev pub is_at_work : State → Bool
is_at_work s = not (s.submitted == 4294967295) && not s.sight.closing && s.sight.connected && not s.sight.broken

-- the ring has as many unfinished requests as entries
abbrev pub is_ring_full : State → Options → Bool
is_ring_full s o = nat_le (32 * 2 ^ o.order) (length s.requests)

-- a request that takes so many frames takes more than are free
abbrev pub are_too_many : State → ℕ → Bool
are_too_many s frames = nat_lt 1000 (s.frames + frames)

-- the limits let a submission pass
abbrev pub is_within_limits : State → Submission → Option Options → Bool
is_within_limits s submission None = false
is_within_limits s submission (Some o) =
    is_at_work s && not (is_unsupported o submission) && not (is_refused_write o submission) && not (is_past_end o submission) && not (is_long o submission)
    && not (is_ring_full s o) && not (are_too_many s (frames_of submission))

abbrev pub allows_submit : State → Line → Bool
allows_submit s (lines.Submit id submission) = (id == s.submitted + 1) && is_within_limits s submission s.sight.config
allows_submit s line = true

-- the fewest sectors that are more than one request may have: a barrier's, or a read's where there are no barriers
abbrev pub least_long : Options → ℕ
least_long o = if o.read_only then 8 * max 11 o.indirect + 1 else 89

-- the most sectors that a read within the disk may have
abbrev pub most_read : Options → ℕ
most_read o = min (min o.sectors 4294967295) (8 * max 11 o.indirect)

-- no submission needs more frames than the longest read; where the disk has no sectors there are flushes alone
abbrev pub may_lack_frames : State → Options → Bool
may_lack_frames s o =
    if most_read o == 0
    then not o.read_only && are_too_many s 0
    else are_too_many s (frames_of (submissions.Read 0 (most_read o)))

-- a submission can be refused so, where a number is left, by the options of the run
abbrev pub may_refuse : State → Options → Refusal → Bool
may_refuse s o refusal.Spent = s.submitted == 4294967295
may_refuse s o refusal.NotReady = not (s.submitted == 4294967295) && not s.sight.closing && (not s.sight.connected || s.sight.broken)
may_refuse s o refusal.Closing = not (s.submitted == 4294967295) && s.sight.closing
may_refuse s o refusal.Unsupported = is_at_work s && o.read_only
may_refuse s o refusal.ReadOnly = is_at_work s && o.read_only
may_refuse s o refusal.Range = is_at_work s && nat_lt o.sectors 18446744078004518910
may_refuse s o refusal.Long = is_at_work s && nat_le (least_long o) (min o.sectors 4294967295)
may_refuse s o refusal.Full = is_at_work s && is_ring_full s o && (not o.read_only || not (o.sectors == 0))
may_refuse s o refusal.Buffers = is_at_work s && not (is_ring_full s o) && may_lack_frames s o

abbrev pub is_not_ready : Refusal → Bool
is_not_ready refusal.NotReady = true
is_not_ready other = false

abbrev pub may_refuse_by : State → Refusal → Option Options → Bool
may_refuse_by s word None = is_not_ready word
may_refuse_by s word (Some o) = may_refuse s o word

abbrev pub allows_refuse : State → Line → Bool
allows_refuse s (lines.Refuse word) = may_refuse_by s word s.sight.config
allows_refuse s line = true

-- a place of an open request may be served now
abbrev pub may_serve_now : Open → Progress → ℕ → Bool
may_serve_now o p index = is_open o.stage && is_none p.reply && not p.faulted && nat_lt index (places_of o.submission) && not (is_place_done p index)

abbrev pub may_end_now : (Submission → Bool) → State → ℕ → ℕ → Option Open → Bool
may_end_now is_kind s id index None = false
may_end_now is_kind s id index (Some o) = is_kind o.submission && may_serve_now o (progress_of s.progress id) index

abbrev pub may_show_now : State → ℕ → ℕ → List ℕ → Option Open → Bool
may_show_now s id index words None = false
may_show_now s id index words (Some o) = is_read o.submission && may_serve_now o (progress_of s.progress id) index && may_hold (option_map only (words_in s.sectors (sector_of o.submission + index))) words

abbrev pub allows_effect : State → Line → Bool
allows_effect s (lines.Effect id index) = may_end_now is_write s id index (open_of s.requests id)
allows_effect s (lines.EffectRead id index words) = may_show_now s id index words (open_of s.requests id)
allows_effect s line = true

-- what waits for an open request may go on
abbrev pub is_settled_now : Open → Progress → Bool
is_settled_now o p = not (is_open o.stage) || is_some p.reply || p.faulted || length p.done == places_of o.submission

-- an open request isn't waited for by request `id`, which is a barrier or not
abbrev pub lets_pass : List (ℕ × Progress) → ℕ → Bool → Open → Bool
lets_pass kept id barrier o = nat_le id o.number || not (is_ordered o.submission) || not (barrier || is_barrier o.submission) || is_settled_now o (progress_of kept o.number)

-- no unfinished request is waited for by request `id`; where no barrier is among them, and it is none, nothing is
abbrev pub all_pass : State → ℕ → Bool → Bool
all_pass s id barrier = (not barrier && s.barriers == 0) || list_all (lets_pass s.progress id barrier) (values_of s.requests)

abbrev pub is_in_turn : (Submission → Bool) → State → ℕ → Option Open → Bool
is_in_turn is_kind s id None = true
is_in_turn is_kind s id (Some r) = not (is_kind r.submission && is_open r.stage) || all_pass s id (is_barrier r.submission)

abbrev pub allows_barrier : State → Line → Bool
allows_barrier s (lines.Effect id index) = is_in_turn is_write s id (open_of s.requests id)
allows_barrier s (lines.Trimmed id) = is_in_turn is_discard s id (open_of s.requests id)
allows_barrier s (lines.Fault id index) = is_in_turn is_ordered s id (open_of s.requests id)
allows_barrier s line = true

abbrev pub allows_service : State → Line → Bool
allows_service s (lines.Flushed id) = may_end_now is_flush s id 0 (open_of s.requests id)
allows_service s (lines.Trimmed id) = may_end_now is_discard s id 0 (open_of s.requests id)
allows_service s (lines.Fault id index) = may_end_now is_any s id index (open_of s.requests id)
allows_service s line = true

-- a reply may say this now
abbrev pub may_say : Open → Progress → Status → Bool
may_say o p status.Okay = length p.done == places_of o.submission
may_say o p status.Error = p.faulted
may_say o p status.Unsupported = false

abbrev pub may_reply_now : State → ℕ → Status → Option Open → Bool
may_reply_now s id status None = false
may_reply_now s id status (Some o) = is_open o.stage && is_none (progress_of s.progress id).reply && may_say o (progress_of s.progress id) status

abbrev pub allows_reply : State → Line → Bool
allows_reply s (lines.Reply id status) = may_reply_now s id status (open_of s.requests id)
allows_reply s line = true

abbrev pub may_answer_now : State → ℕ → Status → Option Open → Bool
may_answer_now s id status None = false
may_answer_now s id status (Some o) = is_open o.stage && is_status (progress_of s.progress id).reply status

abbrev pub allows_answer : State → Line → Bool
allows_answer s (lines.Answer id status) = may_answer_now s id status (open_of s.requests id)
allows_answer s line = true

abbrev pub may_tell_now : ℕ → List ℕ → Option Open → Bool
may_tell_now index words None = false
may_tell_now index words (Some o) = is_next o.stage index && are_noted (entry_at o.noted index) words

abbrev pub allows_data : State → Line → Bool
allows_data s (lines.Data id index words) = may_tell_now index words (open_of s.requests id)
allows_data s line = true

abbrev pub allows_quiet : State → Line → Bool
allows_quiet s lines.Quiet = is_idle s
allows_quiet s line = true
