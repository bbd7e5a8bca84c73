-- When a submission is refused, and how (the limits of `io/blkif.h`, the states of `io/xenbus.h`): what the report's earlier lines say decides.
use Rattle.std.specs.Prelude.{ℕ, ◌+◌, ◌*◌, ◌/◌, ◌^◌, max, Bool, true, false, not, ◌&&◌, ◌||◌, List, [], fold, sum_by, count_by, length, Option, Some, None, if◌then◌else◌, ◌==◌, nat_lt, nat_le}
use Rattle.blk_base.specs.Options.{Options}
use Rattle.blk_base.specs.declared.config.Submission.{Submission}
use Rattle.blk_base.specs.declared.config.Submission.TheVariants.{Read, Write, Barrier, Flush, Discard}
use Rattle.blk_base.specs.declared.refusal.Refusal.{Refusal}
use Rattle.blk_base.specs.declared.refusal.Refusal.TheVariants as refusal
use Rattle.schedule_text.specs.declared.line.Line.{Line}
use Rattle.schedule_text.specs.declared.line.Line.TheVariants as lines
use Rattle.plain_disk.specs.declared.request.DiskRequest.{DiskRequest}
use Rattle.plain_disk.specs.declared.sight.Sight.{Sight}
use Rattle.plain_disk.specs.Request.{sector_of, count_of, is_finished}
use Rattle.plain_disk.specs.Disk.{Disk, disk_of}
use Rattle.plain_disk.specs.Step.{after}

-- nothing was seen yet
abbrev pub nothing_seen : Sight
nothing_seen = record { config = None; connected = false; closing = false; broken = false }

-- what a line shows of the front: connected is `ready` without a later `epoch`; closing and broken last
abbrev pub seen : Sight → Line → Sight
seen s (lines.Begin config detail) = record s { config = Some config }
seen s lines.Ready = record s { connected = true }
seen s lines.Epoch = record s { connected = false }
seen s lines.Closing = record s { closing = true }
seen s (lines.Broken word) = record s { broken = true }
seen s line = s

-- 8 sectors go into a frame, which is one segment
abbrev pub segments_of : Submission → ℕ
segments_of submission = (count_of submission + 7) / 8

-- a request carries 11 segments itself (BLKIF_MAX_SEGMENTS_PER_REQUEST); more lie in frames of their own, 512 in each
abbrev pub frames_of : Submission → ℕ
frames_of (Read sector count) = if nat_lt 11 ((count + 7) / 8) then (count + 7) / 8 + ((count + 7) / 8 + 511) / 512 else (count + 7) / 8
frames_of (Write sector count tag) = if nat_lt 11 ((count + 7) / 8) then (count + 7) / 8 + ((count + 7) / 8 + 511) / 512 else (count + 7) / 8
frames_of (Barrier sector count tag) = (count + 7) / 8
frames_of Flush = 0
frames_of (Discard sector count) = 0

-- a barrier, flush or discard, of which the back publishes none where the disk is read-only
abbrev pub is_unsupported : Options → Submission → Bool
is_unsupported o (Read sector count) = false
is_unsupported o (Write sector count tag) = false
is_unsupported o submission = o.read_only

abbrev pub is_refused_write : Options → Submission → Bool
is_refused_write o (Write sector count tag) = o.read_only
is_refused_write o submission = false

-- sectors past the disk's end
abbrev pub is_past_end : Options → Submission → Bool
is_past_end o submission = nat_lt o.sectors (sector_of submission + count_of submission)

-- more segments than one request may have
abbrev pub is_long : Options → Submission → Bool
is_long o (Read sector count) = nat_lt (max 11 o.indirect) ((count + 7) / 8)
is_long o (Write sector count tag) = nat_lt (max 11 o.indirect) ((count + 7) / 8)
is_long o (Barrier sector count tag) = nat_lt 11 ((count + 7) / 8)
is_long o submission = false

-- as many unfinished requests as the ring has entries, 32 for each of its pages
abbrev pub is_full : Options → List DiskRequest → Bool
is_full o requests = nat_le (32 * 2 ^ o.order) (count_by (λ (r : DiskRequest). not (is_finished r.stage)) requests)

-- the frames that an unfinished request holds
abbrev pub frames_held : DiskRequest → ℕ
frames_held r = if is_finished r.stage then 0 else frames_of r.submission

-- too few of the 1000 frames of the pool are free
abbrev pub lacks_frames : List DiskRequest → Submission → Bool
lacks_frames requests submission = nat_lt 1000 (sum_by frames_held requests + frames_of submission)

-- the first of these that applies, or none
abbrev pub refusal_by : Sight → Options → List DiskRequest → Submission → Option Refusal
refusal_by s o requests submission =
    if length requests == 4294967295 then Some refusal.Spent
    else (if not s.closing && (not s.connected || s.broken) then Some refusal.NotReady
    else (if s.closing then Some refusal.Closing
    else (if is_unsupported o submission then Some refusal.Unsupported
    else (if is_refused_write o submission then Some refusal.ReadOnly
    else (if is_past_end o submission then Some refusal.Range
    else (if is_long o submission then Some refusal.Long
    else (if is_full o requests then Some refusal.Full
    else (if lacks_frames requests submission then Some refusal.Buffers
    else None))))))))

abbrev pub refusal_at : Sight → Option Options → List DiskRequest → Submission → Option Refusal
refusal_at s None requests submission = Some refusal.NotReady
refusal_at s (Some o) requests submission = refusal_by s o requests submission

abbrev pub requests_in : Option Disk → List DiskRequest
requests_in None = []
requests_in (Some d) = d.requests

-- the refusal of a submission after these lines, none where it is accepted
abbrev pub refusal_of : List Line → Submission → Option Refusal
refusal_of before submission =
    let s = fold seen nothing_seen before in
    refusal_at s s.config (requests_in (after before (disk_of []))) submission
