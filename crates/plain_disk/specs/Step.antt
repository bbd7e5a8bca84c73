-- What a line of a report is for the plain disk (the operations of `io/blkif.h`): the disk after it, or none where the line can't stand there.
-- A line that isn't named here leaves the disk as it is. "In this epoch" is since the last `epoch` line.
use Rattle.std.specs.Prelude.{ℕ, ◌+◌, ◌-◌, Bool, true, false, not, ◌&&◌, ◌||◌, List, [], ◌∷◌, ◌++◌, map, take, length, slice_set, Option, Some, None, option_and_then, if◌then◌else◌, ◌==◌, nat_eq, nat_lt, is_none}
use Rattle.std.specs.List.{list_all}
use Rattle.std.specs.Cmp.Lexicographic.{pointwise}
use Rattle.blk_base.specs.declared.config.Submission.{Submission}
use Rattle.blk_base.specs.declared.operation.Status.{Status}
use Rattle.blk_base.specs.declared.operation.Status.TheVariants as status
use Rattle.schedule_text.specs.declared.line.Line.{Line}
use Rattle.schedule_text.specs.declared.line.Line.TheVariants as lines
use Rattle.plain_disk.specs.declared.request.RequestStage.{RequestStage}
use Rattle.plain_disk.specs.declared.request.RequestStage.TheVariants.{Telling, Finished}
use Rattle.plain_disk.specs.declared.request.DiskRequest.{DiskRequest}
use Rattle.plain_disk.specs.declared.request.Place.{Place}
use Rattle.plain_disk.specs.declared.request.Extent.{Extent}
use Rattle.plain_disk.specs.declared.request.Change.{Change}
use Rattle.plain_disk.specs.declared.request.Change.TheVariants as change
use Rattle.plain_disk.specs.Request.{opened, places_of, is_read, is_write, is_flush, is_discard, is_barrier, is_ordered, sector_of, count_of, filling, is_open, is_finished, may_serve, done_count, are_settled}
use Rattle.plain_disk.specs.Sector.{Sector, sector_at, may_hold}
use Rattle.plain_disk.specs.Disk.{Disk, request_of, noted_at}

-- the requests with one of them changed
abbrev pub with_request : List DiskRequest → ℕ → DiskRequest → List DiskRequest
with_request requests id r = slice_set requests (id - 1) r

-- a request was submitted, under the next number
abbrev pub submitted_of : Disk → ℕ → Submission → Option Disk
submitted_of d id submission = if id == length d.requests + 1 then Some (record d { requests = d.requests ++ opened submission ∷ [] }) else None

-- the order condition of request `id`: each earlier write, barrier and discard is settled, where that one or this one is a barrier
abbrev pub is_in_order : Disk → ℕ → DiskRequest → Bool
is_in_order d id r = are_settled d.done 1 (take (id - 1) d.requests) (is_barrier r.submission)

-- a place was done
abbrev pub place : ℕ → ℕ → Place
place id index = record { id = id; index = index }

-- the sector of a request's place
abbrev pub one_sector : Submission → ℕ → Extent
one_sector submission index = record { sector = sector_of submission; from = index; count = 1 }

-- all sectors of a request
abbrev pub all_sectors : Submission → Extent
all_sectors submission = record { sector = sector_of submission; from = 0; count = count_of submission }

-- a place was done, and something happened to sectors
abbrev pub served : Disk → Place → Change → Disk
served d p c = record d { done = d.done ++ p ∷ []; changes = d.changes ++ c ∷ [] }

-- a sector of a write or barrier was filled
abbrev pub effect_of : Disk → ℕ → ℕ → Option DiskRequest → Option Disk
effect_of d id index None = None
effect_of d id index (Some r) =
    if is_write r.submission && may_serve d.done id r index && is_in_order d id r
    then Some (served d (place id index) (change.Filled (one_sector r.submission index) (filling r.submission index)))
    else None

-- the sector of a request's place, after these changes
abbrev pub place_sector : List (List ℕ) → List Change → Submission → ℕ → Sector
place_sector first changes submission index = sector_at first changes (sector_of submission + index)

-- a sector of a read showed these words
abbrev pub read_of : Disk → ℕ → ℕ → List ℕ → Option DiskRequest → Option Disk
read_of d id index words None = None
read_of d id index words (Some r) =
    if is_read r.submission && may_serve d.done id r index && may_hold (place_sector d.first d.changes r.submission index).own words
    then Some (record (served d (place id index) (change.Showed (one_sector r.submission index) words)) { noted = d.noted ++ record { id = id; index = index; words = words } ∷ [] })
    else None

-- a flush was done: what was written is on stable storage
abbrev pub flushed_of : Disk → ℕ → Option DiskRequest → Option Disk
flushed_of d id None = None
flushed_of d id (Some r) =
    if is_flush r.submission && may_serve d.done id r 0
    then Some (served d (place id 0) change.Flushed)
    else None

-- a discard was done: its sectors are zeros
abbrev pub trimmed_of : Disk → ℕ → Option DiskRequest → Option Disk
trimmed_of d id None = None
trimmed_of d id (Some r) =
    if is_discard r.submission && may_serve d.done id r 0 && is_in_order d id r
    then Some (served d (place id 0) (change.Filled (all_sectors r.submission) (filling r.submission 0)))
    else None

-- what a fault leaves unknown: the sector in hand of a write or barrier, the range of a discard
abbrev pub lost_of : List Change → Submission → ℕ → List Change
lost_of changes submission index =
    if is_write submission then changes ++ change.Spoiled (one_sector submission index) ∷ []
    else (if is_discard submission then changes ++ change.Spoiled (all_sectors submission) ∷ []
    else changes)

-- the disk failed at a place
abbrev pub fault_of : Disk → ℕ → ℕ → Option DiskRequest → Option Disk
fault_of d id index None = None
fault_of d id index (Some r) =
    if may_serve d.done id r index && (not (is_ordered r.submission) || is_in_order d id r)
    then Some (record d { requests = with_request d.requests id (record r { faulted = true }); changes = lost_of d.changes r.submission index })
    else None

-- a reply may say this: `ok` where all is done in this epoch, `error` where the disk failed in it, never `unsupported`
abbrev pub may_reply : Disk → ℕ → DiskRequest → Status → Bool
may_reply d id r status.Okay = done_count d.done id == places_of r.submission
may_reply d id r status.Error = r.faulted
may_reply d id r status.Unsupported = false

-- the back replied
abbrev pub replied_of : Disk → ℕ → Status → Option DiskRequest → Option Disk
replied_of d id status None = None
replied_of d id status (Some r) =
    if is_open r.stage && is_none r.reply && may_reply d id r status
    then Some (record d { requests = with_request d.requests id (record r { reply = Some status }) })
    else None

abbrev pub is_okay : Status → Bool
is_okay status.Okay = true
is_okay s = false

abbrev pub is_status : Option Status → Status → Bool
is_status None s = false
is_status (Some status.Okay) status.Okay = true
is_status (Some status.Error) status.Error = true
is_status (Some status.Unsupported) status.Unsupported = true
is_status (Some a) b = false

-- the stage of a request whose answer was told: a read that went well has its sectors told next
abbrev pub told_stage : Submission → Status → RequestStage
told_stage submission status = if is_read submission && is_okay status then Telling 0 else Finished

-- the front took the reply
abbrev pub answered_of : Disk → ℕ → Status → Option DiskRequest → Option Disk
answered_of d id status None = None
answered_of d id status (Some r) =
    if is_open r.stage && is_status r.reply status
    then Some (record d { requests = with_request d.requests id (record r { stage = told_stage r.submission status }) })
    else None

-- the stage after one sector more was told: after the last one nothing is left
abbrev pub next_stage : Submission → ℕ → RequestStage
next_stage submission index = if nat_lt (index + 1) (places_of submission) then Telling (index + 1) else Finished

-- these words were noted
abbrev pub are_noted : Option (List ℕ) → List ℕ → Bool
are_noted None words = false
are_noted (Some noted) words = pointwise nat_eq noted words

-- this sector is told next
abbrev pub is_next : RequestStage → ℕ → Bool
is_next (Telling next) index = index == next
is_next stage index = false

-- the front told a sector of a read
abbrev pub data_of : Disk → ℕ → ℕ → List ℕ → Option DiskRequest → Option Disk
data_of d id index words None = None
data_of d id index words (Some r) =
    if is_next r.stage index && are_noted (noted_at d.noted id index) words
    then Some (record d { requests = with_request d.requests id (record r { stage = next_stage r.submission index }) })
    else None

-- a new epoch: an open request has nothing done, no fault and no reply
abbrev pub reopened : DiskRequest → DiskRequest
reopened r = if is_open r.stage then record r { faulted = false; reply = None } else r

-- what was noted stays: the last note of a sector counts, and an answer `ok` needs all sectors read anew
abbrev pub epoch_of : Disk → Disk
epoch_of d = record d { requests = map reopened d.requests; done = [] }

-- nothing is left to do: all requests are finished
abbrev pub quiet_of : Disk → Option Disk
quiet_of d = if list_all (λ (r : DiskRequest). is_finished r.stage) d.requests then Some d else None

-- the step of a line
abbrev pub step : Disk → Line → Option Disk
step d (lines.Submit id submission) = submitted_of d id submission
step d (lines.Effect id index) = effect_of d id index (request_of d.requests id)
step d (lines.EffectRead id index words) = read_of d id index words (request_of d.requests id)
step d (lines.Flushed id) = flushed_of d id (request_of d.requests id)
step d (lines.Trimmed id) = trimmed_of d id (request_of d.requests id)
step d (lines.Fault id index) = fault_of d id index (request_of d.requests id)
step d (lines.Reply id status) = replied_of d id status (request_of d.requests id)
step d (lines.Answer id status) = answered_of d id status (request_of d.requests id)
step d (lines.Data id index words) = data_of d id index words (request_of d.requests id)
step d lines.Epoch = Some (epoch_of d)
step d lines.Quiet = quiet_of d
step d line = Some d

-- the disk after these lines, none where one of them can't stand there: a report is a run from a disk exactly where there is one
abbrev pub after : List Line → Disk → Option Disk
after [] d = Some d
after (line ∷ report) d = option_and_then (after report) (step d line)
