-- Ten rules on the lines of requests (`io/blkif.h`, `io/xenbus.h`), each over the lines before the line, in the words of the plain disk: whether the front may tell its state, whether a submission and a refusal are by the limits, and whether the plain disk takes the line's step. The disk of a rule is the one after the lines before, of whose sectors nothing is known at first; of lines that are no run of it the rules of its steps say nothing.
use Rattle.std.specs.Prelude.{◌≡◌, ℕ, ◌+◌, ◌^◌, ◌<◌, Bool, true, false, not, ◌&&◌, ◌||◌, is_none, List, [], fold, length, Option, Some, None, IfSome}
use Rattle.std.specs.List.{list_all, list_any}
use Rattle.blk_base.specs.declared.config.Submission.{Submission}
use Rattle.blk_base.specs.declared.config.Submission.TheVariants as submissions
use Rattle.blk_base.specs.declared.operation.Status.{Status}
use Rattle.blk_base.specs.declared.halt.Halt.{Halt}
use Rattle.blk_base.specs.declared.halt.Halt.TheVariants as halts
use Rattle.schedule_text.specs.declared.line.Line.{Line}
use Rattle.schedule_text.specs.declared.line.Line.TheVariants as lines
use Rattle.plain_disk.specs.declared.request.DiskRequest.{DiskRequest}
use Rattle.plain_disk.specs.declared.sight.Sight.{Sight}
use Rattle.plain_disk.specs.Request.{is_read, is_write, is_flush, is_discard, is_ordered, is_open, is_finished, may_serve}
use Rattle.plain_disk.specs.Disk.{Disk, disk_of, request_of, noted_at}
use Rattle.plain_disk.specs.Sector.{may_hold}
use Rattle.plain_disk.specs.Step.{after, is_in_order, place_sector, may_reply, is_status, is_next, are_noted}
use Rattle.plain_disk.specs.Refusal.{nothing_seen, seen, refusal_of, requests_in}

-- the disk after these lines, where they are a run
abbrev pub disk_after : List Line → Option Disk
disk_after before = after before (disk_of [])

-- a rule of the steps of the disk
abbrev pub OnDisk : (Disk → Line → Bool) → List Line → Line → Type 0
OnDisk keeps before line = IfSome (disk_after before) (λ (d : Disk). keeps d line ≡ true)

abbrev pub is_closed_line : Line → Bool
is_closed_line lines.Closed = true
is_closed_line line = false

-- the back halts only where the front is gone
abbrev pub is_gone : Halt → Bool
is_gone (halts.Gone state) = true
is_gone (halts.Unplugged state) = true
is_gone halt = false

abbrev pub are_finished : List DiskRequest → Bool
are_finished requests = list_all (λ (r : DiskRequest). is_finished r.stage) requests

-- whether the front, of which this was seen, and that was closed before or not, may tell its state so: it is ready once in an epoch, unless it is closed or broken; it begins to close once; it is closed only after that, and with no request unfinished; no word breaks it, and the rounds suffice
abbrev pub keeps_state : Sight → Bool → List DiskRequest → Line → Bool
keeps_state s closed requests lines.Ready = not closed && not s.broken && not s.connected
keeps_state s closed requests lines.Closing = not s.closing
keeps_state s closed requests lines.Closed = s.closing && are_finished requests
keeps_state s closed requests (lines.Broken word) = false
keeps_state s closed requests lines.Unsettled = false
keeps_state s closed requests (lines.Halt halt) = is_gone halt
keeps_state s closed requests line = true

abbrev pub IsStateAt : List Line → Line → Type 0
IsStateAt before line = keeps_state (fold seen nothing_seen before) (list_any is_closed_line before) (requests_in (disk_after before)) line ≡ true

-- a submission has the next number, and nothing refuses it
abbrev pub IsSubmitAt : List Line → Line → Type 0
IsSubmitAt before (lines.Submit id submission) = (id ≡ length (requests_in (disk_after before)) + 1) × (refusal_of before submission ≡ None)
IsSubmitAt before line = Unit {0}

-- a submission that a schedule can ask for: its sector has 64 bits, its count is 1 to 4294967295, its tag has 32 bits
abbrev pub CanBeAsked : Submission → Type 0
CanBeAsked (submissions.Read sector count) = (sector < 2 ^ 64) × (0 < count) × (count < 2 ^ 32)
CanBeAsked (submissions.Write sector count tag) = (sector < 2 ^ 64) × (0 < count) × (count < 2 ^ 32) × (tag < 2 ^ 32)
CanBeAsked (submissions.Barrier sector count tag) = (sector < 2 ^ 64) × (0 < count) × (count < 2 ^ 32) × (tag < 2 ^ 32)
CanBeAsked submissions.Flush = Unit {0}
CanBeAsked (submissions.Discard sector count) = (sector < 2 ^ 64) × (0 < count) × (count < 2 ^ 32)

-- a refusal says why, and not of what: there is a submission that is refused so
abbrev pub IsRefuseAt : List Line → Line → Type 0
IsRefuseAt before (lines.Refuse refusal) = (submission : Submission) × CanBeAsked submission × (refusal_of before submission ≡ Some refusal)
IsRefuseAt before line = Unit {0}

-- a sector of a write or barrier may be filled now
abbrev pub may_fill : Disk → ℕ → ℕ → Option DiskRequest → Bool
may_fill d id index None = false
may_fill d id index (Some r) = is_write r.submission && may_serve d.done id r index

-- a sector of a read may show these words now
abbrev pub may_show : Disk → ℕ → ℕ → List ℕ → Option DiskRequest → Bool
may_show d id index words None = false
may_show d id index words (Some r) = is_read r.submission && may_serve d.done id r index && may_hold (place_sector d.first d.changes r.submission index).own words

abbrev pub keeps_effect : Disk → Line → Bool
keeps_effect d (lines.Effect id index) = may_fill d id index (request_of d.requests id)
keeps_effect d (lines.EffectRead id index words) = may_show d id index words (request_of d.requests id)
keeps_effect d line = true

-- an effect is of a request that waits for it, of its kind, once in an epoch, and a read shows what is there
abbrev pub IsEffectRuleAt : List Line → Line → Type 0
IsEffectRuleAt = OnDisk keeps_effect

-- an operation of this kind that waits for its answer is in the order that the barriers want
abbrev pub is_ordered_so : (Submission → Bool) → Disk → ℕ → Option DiskRequest → Bool
is_ordered_so is_kind d id None = true
is_ordered_so is_kind d id (Some r) = not (is_kind r.submission && is_open r.stage) || is_in_order d id r

abbrev pub keeps_barrier : Disk → Line → Bool
keeps_barrier d (lines.Effect id index) = is_ordered_so is_write d id (request_of d.requests id)
keeps_barrier d (lines.Trimmed id) = is_ordered_so is_discard d id (request_of d.requests id)
keeps_barrier d (lines.Fault id index) = is_ordered_so is_ordered d id (request_of d.requests id)
keeps_barrier d line = true

-- no write, barrier or discard goes past a barrier, and no barrier past one of them
abbrev pub IsBarrierAt : List Line → Line → Type 0
IsBarrierAt = OnDisk keeps_barrier

-- a place of a request of this kind may be served now
abbrev pub may_end : (Submission → Bool) → Disk → ℕ → ℕ → Option DiskRequest → Bool
may_end is_kind d id index None = false
may_end is_kind d id index (Some r) = is_kind r.submission && may_serve d.done id r index

abbrev pub is_any : Submission → Bool
is_any submission = true

abbrev pub keeps_service : Disk → Line → Bool
keeps_service d (lines.Flushed id) = may_end is_flush d id 0 (request_of d.requests id)
keeps_service d (lines.Trimmed id) = may_end is_discard d id 0 (request_of d.requests id)
keeps_service d (lines.Fault id index) = may_end is_any d id index (request_of d.requests id)
keeps_service d line = true

-- a flush, a discard and a fault is of a request that waits for it, of its kind, at a place that was not done
abbrev pub IsServiceAt : List Line → Line → Type 0
IsServiceAt = OnDisk keeps_service

abbrev pub may_be_replied : Disk → ℕ → Status → Option DiskRequest → Bool
may_be_replied d id status None = false
may_be_replied d id status (Some r) = is_open r.stage && is_none r.reply && may_reply d id r status

abbrev pub keeps_reply : Disk → Line → Bool
keeps_reply d (lines.Reply id status) = may_be_replied d id status (request_of d.requests id)
keeps_reply d line = true

-- a request is replied to once in an epoch: `ok` where all of it was done, `error` where the disk failed
abbrev pub IsReplyRuleAt : List Line → Line → Type 0
IsReplyRuleAt = OnDisk keeps_reply

abbrev pub may_be_answered : Status → Option DiskRequest → Bool
may_be_answered status None = false
may_be_answered status (Some r) = is_open r.stage && is_status r.reply status

abbrev pub keeps_answer : Disk → Line → Bool
keeps_answer d (lines.Answer id status) = may_be_answered status (request_of d.requests id)
keeps_answer d line = true

-- the front takes a reply of this epoch, once
abbrev pub IsAnswerAt : List Line → Line → Type 0
IsAnswerAt = OnDisk keeps_answer

abbrev pub may_be_told : Disk → ℕ → ℕ → List ℕ → Option DiskRequest → Bool
may_be_told d id index words None = false
may_be_told d id index words (Some r) = is_next r.stage index && are_noted (noted_at d.noted id index) words

abbrev pub keeps_data : Disk → Line → Bool
keeps_data d (lines.Data id index words) = may_be_told d id index words (request_of d.requests id)
keeps_data d line = true

-- the sectors of a read are told in order, with the words that were read
abbrev pub IsDataRuleAt : List Line → Line → Type 0
IsDataRuleAt = OnDisk keeps_data

abbrev pub keeps_quiet : Disk → Line → Bool
keeps_quiet d lines.Quiet = are_finished d.requests
keeps_quiet d line = true

-- nothing is left to do only where no request is unfinished
abbrev pub IsQuietAt : List Line → Line → Type 0
IsQuietAt = OnDisk keeps_quiet

-- all ten
pub record KeepsRequests (before : List Line) (line : Line) : Type 0 where
  pub state : IsStateAt before line
  pub submit : IsSubmitAt before line
  pub refuse : IsRefuseAt before line
  pub effect : IsEffectRuleAt before line
  pub barrier : IsBarrierAt before line
  pub service : IsServiceAt before line
  pub reply : IsReplyRuleAt before line
  pub answer : IsAnswerAt before line
  pub told : IsDataRuleAt before line
  pub quiet : IsQuietAt before line
