-- The order condition of the plain disk, from where the submissions of lower numbers are.
use Rattle.std.proofs.Common.{◌≡◌, ℕ, zero, suc, ◌+◌, ◌-◌, ◌<◌, ◌==◌, Bool, true, false, not, ◌&&◌, ◌||◌, List, [], ◌∷◌, map, take, refl, arith}
use Rattle.std.specs.Prelude.{Some, slice_get}
use Rattle.blk_base.specs.declared.config.Submission.{Submission}
use Rattle.blk_base.specs.declared.operation.Status.TheVariants as status
use Rattle.plain_disk.specs.declared.request.DiskRequest.{DiskRequest}
use Rattle.plain_disk.specs.declared.request.Place.{Place}
use Rattle.plain_disk.specs.Request.{is_barrier, is_ordered, is_settled, are_settled, places_of}
use Rattle.plain_disk.specs.Disk.{Disk}
use Rattle.plain_disk.specs.Step.{is_in_order}
use Rattle.pipeline_laws.specs.Station.{Station, Waiting, Issuing, Pushed, Fetching, Working, Failed, Ended, Replying, Replied, Taking, Telling, Finished, PipelineRequest, asked, asked_at}
use Rattle.pipeline_laws.specs.Pipeline.{Pipeline}
use Rattle.pipeline_laws.specs.Allowed.{IsClear, has_places}
use Rattle.pipeline_laws.proofs.Lists.{Each, each_front}
use Rattle.pipeline_laws.proofs.Matches.{Matches, IsDone, done_at}

-- what the plain disk asks of an earlier request
abbrev is_out_of_way : Bool → List Place → ℕ → DiskRequest → Bool
is_out_of_way barrier done id r = not (is_ordered r.submission) || not (barrier || is_barrier r.submission) || is_settled done id r

all_settled : (barrier : Bool) (done : List Place) (from : ℕ) (rs : List DiskRequest) → Each (λ k (r : DiskRequest). is_out_of_way barrier done (from + k) r ≡ true) rs → are_settled done from rs barrier ≡ true
all_settled barrier done from [] each = refl
all_settled barrier done from (r ∷ rs) each =
    let start : from + 0 ≡ from = omega arith in
    let first : is_out_of_way barrier done from r ≡ true = rw start at (each zero r refl) in
    rw (
      first,
      all_settled barrier done (from + 1) rs (λ k y e.
          let on : from + suc k ≡ from + 1 + k = omega arith in
          rw on at (each (suc k) y e)),
    ) refl

-- a submission with no places left is settled
settled_at : (done : List Place) (id : ℕ) (submission : Submission) (station : Station) → IsDone done id (done_at submission station) → has_places submission station ≡ false → is_settled done id (asked_at submission station) ≡ true
settled_at done id submission Waiting h idle = absurd (cc)
settled_at done id submission Issuing h idle = absurd (cc)
settled_at done id submission Pushed h idle = absurd (cc)
settled_at done id submission Fetching h idle = absurd (cc)
settled_at done id submission (Working n) h idle =
    let same : (n == places_of submission) ≡ true = grind (arith, idle) in
    rw (h.count, same) refl
settled_at done id submission Failed h idle = refl
settled_at done id submission (Ended status.Okay) h idle = (let same : (places_of submission == places_of submission) ≡ true = grind arith in rw (h.count, same) refl)
settled_at done id submission (Ended status.Error) h idle = refl
settled_at done id submission (Ended status.Unsupported) h idle = refl
settled_at done id submission (Replying status.Okay) h idle = (let same : (places_of submission == places_of submission) ≡ true = grind arith in rw (h.count, same) refl)
settled_at done id submission (Replying status.Error) h idle = refl
settled_at done id submission (Replying status.Unsupported) h idle = refl
settled_at done id submission (Replied s) h idle = refl
settled_at done id submission (Taking s) h idle = refl
settled_at done id submission (Telling n) h idle = refl
settled_at done id submission (Finished s) h idle = refl

by_places : (ordered conflict places settled : Bool) → (ordered && conflict && places) ≡ false → (places ≡ false → settled ≡ true) → (not ordered || not conflict || settled) ≡ true
by_places ordered conflict places settled e h = grind (arith, h)

-- so a submission that is clear is in order for the plain disk
pub in_order : (p : Pipeline) (d : Disk) (content : List (List ℕ)) (k : ℕ) (x : PipelineRequest) (r : DiskRequest) → Matches p d content → r.submission ≡ x.submission → IsClear p k x → is_in_order d (k + 1) r ≡ true
in_order p d content k x r m same clear =
    let back : k + 1 - 1 ≡ k = omega arith in
    rw (back, same, m.requests) (all_settled (is_barrier x.submission) d.done 1 (take k (map asked p.requests)) (each_front asked (λ j (q : DiskRequest). is_out_of_way (is_barrier x.submission) d.done (1 + j) q ≡ true) k p.requests (λ j y lt e.
    let on : j + 1 ≡ 1 + j = omega arith in
    rw on at (by_places (is_ordered y.submission) (is_barrier x.submission || is_barrier y.submission) (has_places y.submission y.station) (is_settled d.done (j + 1) (asked y))
    (clear.clear j y lt e) (settled_at d.done (j + 1) y.submission y.station (m.each j y e).done)))))
