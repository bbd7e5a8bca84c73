-- Where a request is, on its way from the front over the ring to the back, through its submission, and back (the two rings of `io/ring.h`, the requests of `io/blkif.h`). It is at exactly one station.
use Rattle.std.specs.Prelude.{ℕ, Bool, true, false, not, List, [], Option, Some, None}
use Rattle.blk_base.specs.declared.config.Submission.{Submission}
use Rattle.blk_base.specs.declared.operation.Status.{Status}
use Rattle.blk_base.specs.declared.operation.Status.TheVariants.{Okay}
use Rattle.plain_disk.specs.declared.request.RequestStage.{RequestStage}
use Rattle.plain_disk.specs.declared.request.RequestStage.TheVariants as stage
use Rattle.plain_disk.specs.declared.request.DiskRequest.{DiskRequest}
use Rattle.plain_disk.specs.Step.{is_okay}

pub data Station : Type 0 where
  -- not issued in this epoch
  Waiting : Station
  -- the front writes its entry
  Issuing : Station
  -- the entry was pushed, and waits to be fetched
  Pushed : Station
  -- the back copies the entry
  Fetching : Station
  -- a submission: so many of its places were moved, the first ones
  Working : (moved : ℕ) → Station
  -- a submission of which the disk failed
  Failed : Station
  -- a submission at its end, with the status that its response will have
  Ended : (status : Status) → Station
  -- the back writes the response
  Replying : (status : Status) → Station
  -- the response was pushed, and waits to be taken
  Replied : (status : Status) → Station
  -- the front took the response
  Taking : (status : Status) → Station
  -- a read that was answered `ok`: the sector that is told next
  Telling : (next : ℕ) → Station
  -- all of it was told
  Finished : (status : Status) → Station

-- a request: what it asks, where it is, and what it read since it was fetched last, a list of words a sector
pub record PipelineRequest : Type 0 where
  pub submission : Submission
  pub station : Station
  pub words : List (List ℕ)

-- a request that was just submitted
abbrev pub submitted : Submission → PipelineRequest
submitted submission = record { submission = submission; station = Waiting; words = [] }

-- all of a request was told
abbrev pub is_finished : Station → Bool
is_finished (Finished status) = true
is_finished station = false

-- a response that isn't `ok` tells of a failure
abbrev pub is_faulted : Station → Bool
is_faulted Failed = true
is_faulted (Ended status) = not (is_okay status)
is_faulted (Replying status) = not (is_okay status)
is_faulted (Replied status) = not (is_okay status)
is_faulted (Taking status) = not (is_okay status)
is_faulted (Finished status) = not (is_okay status)
is_faulted station = false

abbrev pub reply_at : Station → Option Status
reply_at (Replied status) = Some status
reply_at (Taking status) = Some status
reply_at (Telling next) = Some Okay
reply_at (Finished status) = Some status
reply_at station = None

abbrev pub stage_at : Station → RequestStage
stage_at (Telling next) = stage.Telling next
stage_at (Finished status) = stage.Finished
stage_at station = stage.Open

-- what the plain disk keeps of a request: its station says all of it
abbrev pub asked_at : Submission → Station → DiskRequest
asked_at submission station = record { submission = submission; faulted = is_faulted station; reply = reply_at station; stage = stage_at station }

abbrev pub asked : PipelineRequest → DiskRequest
asked x = asked_at x.submission x.station
