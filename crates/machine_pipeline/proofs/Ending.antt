-- The pool once all grants of a request are ended, and its data told: its frames are free.
use Rattle.std.proofs.lemmas.Grind.{get_or-set_at}
use Rattle.std.proofs.Common.{◌≡◌, ℕ, zero, suc, ◌+◌, ◌-◌, ◌<◌, ◌≤◌, ◌==◌, Bool, true, false, cond, List, [], ◌∷◌, length, ap, ◌∙◌, arith, length-set, get_or-set_other}
use Rattle.std.specs.Prelude.{All, Some, None, slice_index_or, count_by, sum_by}
use Rattle.std.proofs.lemmas.Option.{slice_get-get_or}
use Rattle.std.proofs.lemmas.List.Sums.{sum_by-cons}
use Rattle.std.proofs.lemmas.Bool.Decides.{nat_tests}
use Rattle.blk_front.specs.declared.request.Request.{Request}
use Rattle.blk_front.specs.declared.stage.Ending.{Ending}
use Rattle.blk_front.specs.Pool.{with_free, with_all_free}
use Rattle.machine_pipeline.proofs.Flow.{frames_of, uses}
use Rattle.machine_pipeline.proofs.Holds.{IsPooled, ArePooled}
use Rattle.machine_pipeline.proofs.Lists.{count_set}

-- the frames in use are those of the front's requests, and these that are freed still
record AreUsed (pool : List Bool) (requests : List Request) (frames : List ℕ) : Type 0 where
  pub size : length pool ≡ 1000
  pub each : (f : ℕ) → f < 1000 → sum_by (uses (18 + f)) requests + count_by (λ (x : ℕ). x == 18 + f) frames ≡ cond (slice_index_or pool f false) 1 0
  pub used : count_by (λ (b : Bool). b) pool ≡ sum_by frames_of requests + length frames

-- the first of them is freed
first_freed : (pool : List Bool) (requests : List Request) (frame : ℕ) (frames : List ℕ)
    → 18 ≤ frame → frame < 1018
    → AreUsed pool requests (frame ∷ frames)
    → AreUsed (with_free pool frame) requests frames
first_freed pool requests frame frames low high h = record {
  size = length-set pool (frame - 18) false ∙ h.size;
  each = λ f lt. grind (arith, nat_tests, get_or-set_at, get_or-set_other, h.each f lt, counted (18 + f), h.size);
  used =
      (let taken : slice_index_or pool (frame - 18) false ≡ true = grind (arith, nat_tests, h.each (frame - 18), counted (18 + (frame - 18))) in
      let here = slice_get-get_or pool (frame - 18) false (omega (arith, h.size)) ∙ ap Some taken in
      omega (arith, count_set (λ (b : Bool). b) pool (frame - 18) true false here, h.used));
}
  where
    counted : (n : ℕ) → count_by (λ (x : ℕ). x == n) (frame ∷ frames) ≡ cond (frame == n) 1 0 + count_by (λ (x : ℕ). x == n) frames
    counted n = sum_by-cons (λ (x : ℕ). cond (x == n) 1 0) frame frames

-- and so all of them
all_freed : (pool : List Bool) (requests : List Request) (frames : List ℕ) → All IsPooled frames → AreUsed pool requests frames
    → AreUsed (with_all_free pool frames) requests []
all_freed pool requests [] all h = h
all_freed pool requests (frame ∷ frames) all h =
    let here : IsPooled frame = all zero 18 (omega arith) in
    all_freed (with_free pool frame) requests frames (λ i d lt. all (suc i) d (omega arith)) (first_freed pool requests frame frames here.0 here.1 h)

pub pooled_free : (pool : List Bool) (requests : List Request) (e : Ending)
    → All IsPooled e.request.frames.items
    → ArePooled pool requests (Some e)
    → ArePooled (with_all_free pool e.request.frames.items) requests None
pooled_free pool requests e all h =
    let now = all_freed pool requests e.request.frames.items all (record { size = h.size; each = h.each; used = h.used }) in
    record { size = now.size; each = now.each; used = now.used }
