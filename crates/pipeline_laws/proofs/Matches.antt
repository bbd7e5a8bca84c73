-- The requests of the pipeline and what the plain disk keeps of them.
use Rattle.std.proofs.Common.{◌≡◌, ◌≢◌, ℕ, ◌+◌, ◌-◌, ◌<◌, ◌==◌, true, false, if◌then◌else◌, List, [], ◌∷◌, ◌++◌, length, map, ap, ◌∙◌, arith}
use Rattle.std.specs.Prelude.{Bool, Option, Some, None, slice_get, slice_set}
use Rattle.std.proofs.lemmas.Bool.Decides.{nat_tests}
use Rattle.blk_base.specs.declared.config.Submission.{Submission}
use Rattle.blk_base.specs.declared.operation.Status.{Status}
use Rattle.blk_base.specs.declared.operation.Status.TheVariants.{Unsupported}
use Rattle.plain_disk.specs.declared.request.DiskRequest.{DiskRequest}
use Rattle.plain_disk.specs.declared.request.Place.{Place}
use Rattle.plain_disk.specs.declared.request.Noted.{Noted}
use Rattle.plain_disk.specs.Request.{is_read, places_of}
use Rattle.plain_disk.specs.Disk.{Disk, request_of}
use Rattle.plain_disk.specs.Step.{place, with_request, is_okay}
use Rattle.pipeline_laws.specs.Station.{Station, Working, Failed, Ended, Replying, Replied, Taking, Telling, Finished, PipelineRequest, asked, asked_at}
use Rattle.pipeline_laws.specs.Pipeline.{Pipeline}
use Rattle.pipeline_laws.specs.Allowed.{IsAt}
use Rattle.pipeline_laws.proofs.Lists.{Each, get_map, set_map}
use Rattle.pipeline_laws.proofs.Done.{IsDoneTo, done_other, AreNoted, noted_other}
use Rattle.pipeline_laws.proofs.Content.{IsKnown}

-- how many places of a request were done in this epoch, where its station says so
abbrev pub done_at : Submission → Station → Option ℕ
done_at submission (Working moved) = Some moved
done_at submission Failed = None
done_at submission (Ended status) = if is_okay status then Some (places_of submission) else None
done_at submission (Replying status) = if is_okay status then Some (places_of submission) else None
done_at submission (Replied status) = None
done_at submission (Taking status) = None
done_at submission (Telling next) = None
done_at submission (Finished status) = None
done_at submission station = Some 0

abbrev pub IsDone : List Place → ℕ → Option ℕ → Type 0
IsDone done id None = Unit {0}
IsDone done id (Some n) = IsDoneTo done id n

-- a submission that reads has noted as many sectors as it moved
abbrev pub IsLong : Station → Bool → List (List ℕ) → Type 0
IsLong (Working moved) true words = length words ≡ moved
IsLong station reads words = Unit {0}

-- a response that the plain disk can't take
abbrev pub is_refusal : Status → Bool
is_refusal Unsupported = true
is_refusal status = false

abbrev pub is_unserved : Station → Bool
is_unserved (Ended status) = is_refusal status
is_unserved (Replying status) = is_refusal status
is_unserved station = false

-- what the plain disk has noted of the request at this place
pub record IsTold (places : List Place) (notes : List Noted) (k : ℕ) (x : PipelineRequest) : Type 0 where
  pub done : IsDone places (k + 1) (done_at x.submission x.station)
  pub noted : AreNoted notes (k + 1) x.words
  pub long : IsLong x.station (is_read x.submission) x.words
  pub served : is_unserved x.station ≡ false

pub record Matches (p : Pipeline) (d : Disk) (content : List (List ℕ)) : Type 0 where
  pub requests : d.requests ≡ map asked p.requests
  pub each : Each (IsTold d.done d.noted) p.requests
  pub later : (id : ℕ) → length p.requests < id → IsDoneTo d.done id 0
  pub known : IsKnown d.first d.changes content

-- what another request did
done_elsewhere : (done : List Place) (id other i : ℕ) (n : Option ℕ) → id ≢ other → IsDone done id n → IsDone (done ++ place other i ∷ []) id n
done_elsewhere done id other i None apart h = tt
done_elsewhere done id other i (Some n) apart h = done_other done id other n i apart h

apart_of : (j k : ℕ) → j ≢ k → j + 1 ≢ k + 1
apart_of j k other e = other (omega arith)

pub told_elsewhere : (done : List Place) (noted : List Noted) (j k i : ℕ) (y : PipelineRequest) → j ≢ k → IsTold done noted j y → IsTold (done ++ place (k + 1) i ∷ []) noted j y
told_elsewhere done noted j k i y other h = record {
  done = done_elsewhere done (j + 1) (k + 1) i (done_at y.submission y.station) (apart_of j k other) h.done;
  noted = h.noted;
  long = h.long;
  served = h.served;
}

abbrev pub note : ℕ → ℕ → List ℕ → Noted
note id index words = record { id = id; index = index; words = words }

pub read_elsewhere : (done : List Place) (noted : List Noted) (j k i : ℕ) (words : List ℕ) (y : PipelineRequest) → j ≢ k → IsTold done noted j y → IsTold (done ++ place (k + 1) i ∷ []) (noted ++ note (k + 1) i words ∷ []) j y
read_elsewhere done noted j k i words y other h = record {
  done = done_elsewhere done (j + 1) (k + 1) i (done_at y.submission y.station) (apart_of j k other) h.done;
  noted = noted_other noted (j + 1) (k + 1) i words y.words (apart_of j k other) h.noted;
  long = h.long;
  served = h.served;
}

-- finding a request, and setting it anew
request_found : (rs : List DiskRequest) (k : ℕ) (r : DiskRequest) → slice_get rs k ≡ Some r → request_of rs (k + 1) ≡ Some r
request_found rs k r e =
    let test : (k + 1 == 0) ≡ false = grind (arith, nat_tests) in
    let back : k + 1 - 1 ≡ k = omega arith in
    rw (test, back) e

pub asked_here : (p : Pipeline) (d : Disk) (content : List (List ℕ)) (k : ℕ) (x : PipelineRequest) (station : Station) → Matches p d content → IsAt p k x station → request_of d.requests (k + 1) ≡ Some (asked_at x.submission station)
asked_here p d content k x station m at =
    request_found d.requests k (asked_at x.submission station) (rw m.requests (get_map asked p.requests k x at.here ∙ ap (λ s. Some (asked_at x.submission s)) at.there))

pub set_asked : (rs : List DiskRequest) (requests : List PipelineRequest) (k : ℕ) (y : PipelineRequest) → rs ≡ map asked requests → with_request rs (k + 1) (asked y) ≡ map asked (slice_set requests k y)
set_asked rs requests k y same =
    let back : k + 1 - 1 ≡ k = omega arith in
    rw (same, back) (set_map asked requests k y)
