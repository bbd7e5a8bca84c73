-- What is left to the front's end of the ring is within what its unfinished requests tell.
use Rattle.std.proofs.Common.{◌≡◌, ℕ, ◌+◌, ◌-◌, ◌*◌, ◌/◌, ◌≤◌, ◌==◌, Bool, true, false, List, length, refl, arith}
use Rattle.std.specs.Prelude.{Option, Some, None, slice_get, sum_by, if◌then◌else◌}
use Rattle.std.proofs.lemmas.List.Sums.{sum_by-take-drop}
use Rattle.blk_base.specs.declared.operation.Abi.{Abi}
use Rattle.blk_base.specs.declared.operation.Abi.TheVariants.{X64, X32}
use Rattle.ring_words.specs.Shape.{entry_words_of}
use Rattle.blk_front.specs.declared.request.Request.{Request}
use Rattle.blk_front.specs.declared.stage.Ending.{Ending}
use Rattle.blk_front.specs.declared.stage.FrontStage.{FrontStage}
use Rattle.blk_front.specs.declared.stage.FrontStage.TheVariants as stage
use Rattle.blk_front.specs.Request.{frames_for, is_indirect, words_in, naming_words, IsShaped}
use Rattle.blk_front.specs.Submit.{ending_of}
use Rattle.blk_front.specs.View.{View, next_request}
use Rattle.front_laws.specs.Left.{left_at, awake_left, end_left, issue_left, grants_left, waiting_after, owed, rest_after, of_next, of_ending}
use Rattle.machine_pipeline.proofs.Lists.{sum_one}
use Rattle.machine_pipeline.proofs.Slots.{few_pages}
use Rattle.ring_settle_laws.specs.Left.{front_sends}
use Rattle.front_laws.proofs.Issued.{few_words}

-- a request has no more frames than twice its sectors
frames_few : (r : Request) → IsShaped r → length r.frames.items ≤ 2 * r.count
frames_few r shaped = omega (arith, shaped.frames, (elim (is_indirect r.count) as (λ b. (if b then (frames_for r.count + 511) / 512 else 0) ≤ frames_for r.count) [ true ↦ omega arith | false ↦ omega arith ]))

pub end_few : (r : Request) → IsShaped r → end_left r ≤ 132 * r.count
end_few r shaped = omega (arith, frames_few r shaped)

pub issue_few : (r : Request) → IsShaped r → issue_left r ≤ 32 + 136 * r.count
issue_few r shaped = omega (arith, frames_few r shaped)

awake_few : (asleep : Bool) → awake_left asleep ≤ 4
awake_few true = omega arith
awake_few false = omega arith

pub sends_few : (s : FrontStage) → front_sends s ≤ 5
sends_few (stage.ProducerFence old) = omega arith
sends_few s = omega arith

-- of the requests only those that wait count
rest_few : (begun : ℕ) (v : View) (n : ℕ) → 4 + owed v + sum_by issue_left v.requests ≤ n → (rest_after begun v ≤ n) × (4 + owed v + sum_by issue_left (waiting_after begun v) ≤ n)
rest_few begun v n fits =
    let waiting : sum_by issue_left (waiting_after begun v) ≤ sum_by issue_left v.requests = omega (arith, sum_by-take-drop issue_left v.requests (length v.requests - v.waiting + begun)) in
    let awake = awake_few v.ring.asleep in
    (omega (arith, awake, waiting, fits), omega (arith, waiting, fits))

-- the request that is issued is one of the front's
next_in : (b : Bool) (found : Option Request) (requests : List Request) (i : ℕ) (left : Request → ℕ) → slice_get requests i ≡ found → ((r : Request) → left r ≤ issue_left r) → of_next (if b then None else found) left ≤ sum_by issue_left requests
next_in true found requests i left e less = omega arith
next_in false None requests i left e less = omega arith
next_in false (Some r) requests i left e less = omega (arith, less r, sum_one issue_left requests i r e)

next_few : (v : View) (left : Request → ℕ) → ((r : Request) → left r ≤ issue_left r) → of_next (next_request v) left ≤ sum_by issue_left v.requests
next_few v left less = next_in (v.waiting == 0) (slice_get v.requests (length v.requests - v.waiting)) v.requests (length v.requests - v.waiting) left refl less

ending_less : (ending : Option Ending) (left : Request → ℕ) → ((r : Request) → left r ≤ end_left r) → of_ending ending left ≤ of_ending ending end_left
ending_less None left less = omega arith
ending_less (Some e) left less = less e.request

-- the stage adds no more than a ring of 16 pages takes, a request that is issued, and one that ends
pub left_few : (s : FrontStage) (v : View) (rest last : ℕ) → 4 + owed v + sum_by issue_left v.requests ≤ rest → (ending_of s ≡ 1 → of_ending v.ending end_left ≤ last) → v.shape.order ≤ 4 → left_at s v ≤ 65 + rest + sum_by issue_left v.requests + last
left_few stage.Loop v rest last fits ends narrow = omega (arith, (rest_few 0 v rest fits).0)
left_few (stage.Data n) v rest last fits ends narrow = omega (arith, next_few v (λ r. (words_in r - n) + naming_words r + grants_left r) (λ r. omega arith), (rest_few 1 v rest fits).0)
left_few (stage.Pages n) v rest last fits ends narrow = omega (arith, next_few v (λ r. (naming_words r - n) + grants_left r) (λ r. omega arith), (rest_few 1 v rest fits).0)
left_few (stage.GrantFrame place) v rest last fits ends narrow = omega (arith, next_few v (λ r. 3 * (length r.frames.items - place) + 32) (λ r. omega arith), (rest_few 1 v rest fits).0)
left_few (stage.GrantFence place) v rest last fits ends narrow = omega (arith, next_few v (λ r. 3 * (length r.frames.items - place) + 31) (λ r. omega arith), (rest_few 1 v rest fits).0)
left_few (stage.GrantFlags place) v rest last fits ends narrow = omega (arith, next_few v (λ r. 3 * (length r.frames.items - place) + 30) (λ r. omega arith), (rest_few 1 v rest fits).0)
left_few (stage.Slot k) v rest last fits ends narrow = omega (arith, few_words v.shape.abi, (rest_few 1 v rest fits).0)
left_few stage.Producer v rest last fits ends narrow = omega (arith, (rest_few 1 v rest fits).0)
left_few (stage.ProducerFence old) v rest last fits ends narrow = omega (arith, (rest_few 0 v rest fits).0)
left_few (stage.RequestEvent old) v rest last fits ends narrow = omega (arith, (rest_few 0 v rest fits).0)
left_few stage.Send v rest last fits ends narrow = omega (arith, (rest_few 0 v rest fits).0)
left_few (stage.ResponseHigh low) v rest last fits ends narrow = omega (arith, (rest_few 0 v rest fits).1)
left_few (stage.ResponseLast low high) v rest last fits ends narrow = omega (arith, (rest_few 0 v rest fits).1)
left_few (stage.GrantRead place) v rest last fits ends narrow = omega (arith, ending_less v.ending (λ r. 2 * (length r.frames.items - place) + words_in r) (λ r. omega arith), ends refl, (rest_few 0 v rest fits).0)
left_few (stage.GrantEnd place before) v rest last fits ends narrow = omega (arith, ending_less v.ending (λ r. 2 * (length r.frames.items - place) + words_in r - 1) (λ r. omega arith), ends refl, (rest_few 0 v rest fits).0)
left_few (stage.ReadData n) v rest last fits ends narrow = omega (arith, ending_less v.ending (λ r. words_in r - n) (λ r. omega arith), ends refl, (rest_few 0 v rest fits).0)
left_few stage.StoreEvent v rest last fits ends narrow = omega (arith, (rest_few 0 v rest fits).1)
left_few stage.EventFence v rest last fits ends narrow = omega (arith, (rest_few 0 v rest fits).1)
left_few stage.LookAgain v rest last fits ends narrow = omega (arith, (rest_few 0 v rest fits).1)
left_few (stage.RingRead page) v rest last fits ends narrow = omega (arith, few_pages v.shape.order narrow)
left_few (stage.RingEnd page seen) v rest last fits ends narrow = omega (arith, few_pages v.shape.order narrow)
left_few stage.ClosePort v rest last fits ends narrow = omega arith
left_few (stage.LeftData n) v rest last fits ends narrow = omega (arith, few_pages v.shape.order narrow, ending_less v.ending (λ r. words_in r - n) (λ r. omega arith), ends refl, (rest_few 0 v rest fits).0)
left_few (stage.RingWord k) v rest last fits ends narrow = omega (arith, few_pages v.shape.order narrow, (rest_few 0 v rest fits).0)
left_few (stage.RingFrame page) v rest last fits ends narrow = omega (arith, few_pages v.shape.order narrow, (rest_few 0 v rest fits).0)
left_few (stage.RingFence page) v rest last fits ends narrow = omega (arith, few_pages v.shape.order narrow, (rest_few 0 v rest fits).0)
left_few (stage.RingFlags page) v rest last fits ends narrow = omega (arith, few_pages v.shape.order narrow, (rest_few 0 v rest fits).0)
left_few stage.NewPort v rest last fits ends narrow = omega (arith, (rest_few 0 v rest fits).0)
left_few stage.Initialised v rest last fits ends narrow = omega (arith, (rest_few 0 v rest fits).0)
left_few s v rest last fits ends narrow = omega arith
