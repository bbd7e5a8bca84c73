-- What the plain disk keeps of the requests, against the `fault` lines of this epoch.
use Rattle.std.proofs.Common.{◌≡◌, ℕ, ◌+◌, ◌<◌, Bool, true, false, List, length}
use Rattle.std.specs.Prelude.{Option, Some, None}
use Rattle.blk_base.specs.declared.operation.Status.{Status}
use Rattle.plain_disk.specs.declared.request.DiskRequest.{DiskRequest}
use Rattle.plain_disk.specs.declared.request.Place.{Place}
use Rattle.plain_disk.specs.Request.{is_open, places_of, done_count}
use Rattle.pipeline_laws.proofs.Lists.{Each}
use Rattle.answer_laws.specs.Okay.{status_of}
use Rattle.answer_laws.proofs.Places.{AreBelow}

-- a reply, where there was one, says whether the disk failed
abbrev pub IsReplied : Bool → Option Status → Type 0
IsReplied failed None = Unit {0}
IsReplied failed (Some status) = status ≡ status_of failed

-- an open request: it is marked where the disk failed at it, and has a place left then
pub record IsOpenKept (failed : Bool) (done : List Place) (id : ℕ) (r : DiskRequest) : Type 0 where
  pub faulted : r.faulted ≡ failed
  pub counted : AreBelow done id (places_of r.submission)
  pub short : failed ≡ true → done_count done id < places_of r.submission
  pub replied : IsReplied failed r.reply

abbrev pub IsKept : Bool → List Place → ℕ → DiskRequest → Type 0
IsKept failed done id r = is_open r.stage ≡ true → IsOpenKept failed done id r

-- a number that no request has yet
pub record IsFree (failed : Bool) (done : List Place) (id : ℕ) : Type 0 where
  pub unfailed : failed ≡ false
  pub counted : (bound : ℕ) → AreBelow done id bound

-- all requests, and the numbers after them
pub record AreKept (failed : ℕ → Bool) (requests : List DiskRequest) (done : List Place) : Type 0 where
  pub each : Each (λ k (r : DiskRequest). IsKept (failed (k + 1)) done (k + 1) r) requests
  pub free : (id : ℕ) → length requests < id → IsFree (failed id) done id
