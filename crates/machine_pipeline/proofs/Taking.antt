-- The front takes a response: its request is unfinished still, and its grant is ended next.
use Rattle.std.proofs.lemmas.Bool.{cases_eq}
use Rattle.std.proofs.Common.{◌≡◌, ◌≢◌, ℕ, suc, ◌+◌, ◌-◌, ◌<◌, ◌≤◌, ◌==◌, ◌⊎◌, inl, inr, Bool, List, [], ◌∷◌, length, take, drop, refl, ap, sym, ◌∙◌, arith}
use Rattle.std.specs.Prelude.{All, Some, None, slice_get, slice_index_or, sum_by, remove}
use Rattle.std.proofs.lemmas.Option.{none-some, same_Some, slice_get_within, get_or_from_slice_get}
use Rattle.std.proofs.lemmas.List.Edits.{length-remove}
use Rattle.std.proofs.lemmas.List.Quantifiers.{all_pairs_remove}
use Rattle.std.proofs.lemmas.List.Sums.{sum_by-remove}
use Rattle.std.proofs.lemmas.Bool.Decides.{nat_tests}
use Rattle.pipeline_laws.specs.Station.{PipelineRequest}
use Rattle.blk_front.specs.declared.request.Request.{Request}
use Rattle.blk_front.specs.declared.stage.Ending.{Ending}
use Rattle.blk_front.specs.Step.{taken}
use Rattle.blk_back.specs.declared.stage.Reply.{Reply}
use Rattle.machine_pipeline.proofs.Flow.{uses, frames_of}
use Rattle.machine_pipeline.proofs.Series.{IsAmong}
use Rattle.machine_pipeline.proofs.Holds.{AreQueued, ArePooled, AreReplies, IsReply}
use Rattle.machine_pipeline.proofs.Stations.{AreOpen}
use Rattle.machine_pipeline.proofs.Lists.{any_at, all_at, all_from, pair_at, pairs_from, place_of_any}
use Rattle.machine_pipeline.proofs.Removals.{removed_was, removed_has, removed_after, taken_was, taken_has}

-- the responses after the oldest
pub dropped : {X : Type 0} (xs : List X) (k : ℕ) → slice_get (drop 1 xs) k ≡ slice_get xs (suc k)
dropped [] k = refl
dropped (x ∷ xs) k = refl

dropped_long : {X : Type 0} (xs : List X) (x : X) → slice_get xs 0 ≡ Some x → length (drop 1 xs) + 1 ≡ length xs
dropped_long [] x e = absurd (none-some x e)
dropped_long (y ∷ xs) x e = omega arith

pub all_without : {X : Type 0} (P : X → Type 0) (xs : List X) (place : ℕ) → All P xs → All P (remove xs place)
all_without P xs place h = all_from P (remove xs place) (λ i x e. let was = removed_was xs place i x e in all_at P xs was.0 x h was.2)

-- the front's requests without the one that was answered
pub queued_without : {series : List Request} (submitted requests : List Request) (pushed waiting place : ℕ) (r : Request)
    → slice_get requests place ≡ Some r
    → place < length requests - waiting
    → AreQueued submitted series pushed requests waiting
    → AreQueued submitted series pushed (remove requests place) waiting
queued_without {series} submitted requests pushed waiting place r here early h = record {
  ordered = h.ordered;
  known = all_without (λ (x : Request). slice_get submitted (x.number - 1) ≡ Some x) requests place h.known;
  ascending = all_pairs_remove (λ (x y : Request). x.number < y.number) requests place (slice_get_within requests place r here) h.ascending;
  issued = all_from (IsAmong series pushed) (take (length (remove requests place) - waiting) (remove requests place)) (λ i x e.
      let first = taken_was (length (remove requests place) - waiting) (remove requests place) i x e in
      let was = removed_was requests place i x first.1 in
      let less = length-remove requests place (slice_get_within requests place r here) in
      let at = taken_has (length requests - waiting) requests was.0 x was.2 (before i was.0 was.3 (omega (arith, first.0))) in
      all_at (IsAmong series pushed) (take (length requests - waiting) requests) was.0 x h.issued at);
  next = λ j x lt e.
      let within = slice_get_within requests place r here in
      let past = removed_after requests place (length (remove requests place) - waiting + j) (omega (arith, length-remove requests place within)) in
      h.next j x lt (ap (slice_get requests) (omega (arith, length-remove requests place within)) ∙ (sym past ∙ e));
}
  where
    before : (i j : ℕ) → ((i < place) × (j ≡ i)) ⊎ ((place ≤ i) × (j ≡ i + 1)) → i + 1 < length requests - waiting → j < length requests - waiting
    before i j (inl at) lt = omega (arith, at.1)
    before i j (inr at) lt = omega (arith, at.1)

-- a sum over the elements without one of them
pub sum_removed : {X : Type 0} (f : X → ℕ) (xs : List X) (place : ℕ) (x : X) → slice_get xs place ≡ Some x → sum_by f (remove xs place) + f x ≡ sum_by f xs
sum_removed f xs place x here =
    let it : ◌≡◌ {A = ℕ} (f (slice_index_or xs place x)) (f x) = ap f (get_or_from_slice_get xs place x x here) in
    omega (arith, (sum_by-remove f xs place x (slice_get_within xs place x here)), it)

pub pooled_without : (pool : List Bool) (requests : List Request) (place : ℕ) (r : Request) (e : Ending)
    → slice_get requests place ≡ Some r
    → e.request ≡ r
    → ArePooled pool requests None
    → ArePooled pool (remove requests place) (Some e)
pooled_without pool requests place r e here same h = record {
  size = h.size;
  each = λ f lt. omega (arith, h.each f lt, sum_removed (uses (18 + f)) requests place r here, ap (uses (18 + f)) same);
  used = omega (arith, h.used, sum_removed frames_of requests place r here, ap frames_of same);
}

pub opened_without : (asked : List PipelineRequest) (requests : List Request) (place : ℕ) (r : Request) (e : Ending)
    → slice_get requests place ≡ Some r
    → e.request.number ≡ r.number
    → AreOpen asked requests None
    → AreOpen asked (remove requests place) (Some e)
opened_without asked requests place r e here number h = record {
  unfinished = (let less = length-remove requests place (slice_get_within requests place r here) in let all = h.unfinished in omega arith);
  held = λ k q at unfinished. elim (h.held k q at unfinished) [
    | inr other ↦ absurd (none-some other.0 other.1)
    | inl any ↦
        let found = place_of_any (λ (x : Request). x.number == k + 1) requests any in
        let numbered : (let x : Request = found.1 in x.number) ≡ k + 1 = grind (arith, nat_tests, found.3) in
        elim (cases_eq found.0 place) [
          | inl same ↦ inr (e, refl, number ∙ (sym (ap (λ (y : Request). y.number) (same_Some found.1 r (sym found.2 ∙ (ap (slice_get requests) same ∙ here)))) ∙ numbered))
          | inr apart ↦ (let left = removed_has requests place found.0 found.1 found.2 apart in inl (any_at (λ (y : Request). y.number == k + 1) (remove requests place) left.0 found.1 left.1 found.3))
        ]
  ];
}

pub replies_without : {series : List Request} (fetched taken replied : ℕ) (replies : List Reply) (rep : Reply) → slice_get replies 0 ≡ Some rep → AreReplies series fetched taken replied replies → AreReplies series fetched (taken + 1) replied (drop 1 replies)
replies_without {series} fetched taken replied replies rep oldest h = record {
  counted = (let counted = h.counted in let less = dropped_long replies rep oldest in omega arith);
  each = all_from (IsReply series fetched) (drop 1 replies) (λ i x e. all_at (IsReply series fetched) replies (suc i) x h.each (sym (dropped replies i) ∙ e));
  distinct = pairs_from (λ (a b : Reply). a.id ≢ b.id) (drop 1 replies) (λ i j x y lt e f. pair_at (λ (a b : Reply). a.id ≢ b.id) replies (suc i) (suc j) x y h.distinct (omega arith) (sym (dropped replies i) ∙ e) (sym (dropped replies j) ∙ f));
}
