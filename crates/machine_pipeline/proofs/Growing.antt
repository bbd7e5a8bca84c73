-- What one request more makes of the front's queue and pool, and of what the pipeline knows.
use Rattle.std.proofs.lemmas.Bool.{cases_lt}
use Rattle.std.proofs.lemmas.List.Sums.{passes_at_first}
use Rattle.std.proofs.Common.{◌≡◌, ℕ, zero, suc, ◌+◌, ◌-◌, ◌<◌, ◌≤◌, ◌==◌, ◌⊎◌, ◌&&◌, Bool, true, false, not, cond, List, [], ◌∷◌, ◌++◌, length, get_or, take, refl, ap, sym, ◌∙◌, subst, inl, inr, arith, length-append, length-set, get_or-set_other}
use Rattle.std.specs.Prelude.{nat_lt, All, Option, Some, None, slice_get, slice_index_or, count_by, sum_by}
use Rattle.std.specs.List.{position_or_len}
use Rattle.std.proofs.lemmas.Bool.Decides.{nat_tests}
use Rattle.std.proofs.lemmas.Option.{none-some, same_Some, slice_get_within, get_or_from_slice_get, slice_get-get_or}
use Rattle.std.proofs.lemmas.Grind.{get_or-set_at}
use Rattle.std.proofs.lemmas.List.{take-append-le}
use Rattle.std.proofs.lemmas.List.Elements.{All-push}
use Rattle.std.proofs.lemmas.List.Sums.{sum_by_push}
use Rattle.std.proofs.lemmas.List.Quantifiers.{all_pairs_push}
use Rattle.std.proofs.lemmas.List.Folds.{list_any-append}
use Rattle.blk_base.specs.Options.{Options}
use Rattle.pipeline_laws.specs.Station.{PipelineRequest, is_finished}
use Rattle.blk_front.specs.declared.request.Request.{Request}
use Rattle.blk_front.specs.Request.{is_write, is_moving, is_indirect, frames_for, named_of, IsShaped}
use Rattle.blk_front.specs.declared.stage.Ending.{Ending}
use Rattle.blk_front.specs.Pool.{with_taken, taking}
use Rattle.machine_pipeline.proofs.Flow.{frames_of, uses, ending_frames, ending_uses, submitted_job}
use Rattle.machine_pipeline.proofs.Series.{IsSeries, among_grown}
use Rattle.machine_pipeline.proofs.Holds.{IsPooled, AreNumbers, AreQueued, IsSubmitted, AreSubmitted, ArePooled, IsOfTheDisk}
use Rattle.machine_pipeline.proofs.Stations.{AreKnown, AreOpen}
use Rattle.machine_pipeline.proofs.Lists.{any_at, get_append, get_last, count_set, same_number}

pub longer : {X : Type 0} (xs : List X) (y : X) → length (xs ++ y ∷ []) ≡ length xs + 1
longer xs y = length-append xs (y ∷ [])

-- what stands at a place once one more was added: what stood there, or that one
pub push_was : {X : Type 0} (xs : List X) (y : X) (k : ℕ) (x : X) → slice_get (xs ++ y ∷ []) k ≡ Some x → (slice_get xs k ≡ Some x) ⊎ ((k ≡ length xs) × (x ≡ y))
push_was [] y zero x e = inr (refl, sym (same_Some y x e))
push_was [] y (suc k) x e = absurd (none-some x e)
push_was (z ∷ xs) y zero x e = inl e
push_was (z ∷ xs) y (suc k) x e = elim (push_was xs y k x e) [ inl was ↦ inl was | inr last ↦ inr (ap suc last.0, last.1) ]

-- what holds of each element, and of one more, holds of each then
pub more_all : {X : Type 0} (P : ℕ → X → Type 0) (xs : List X) (y : X) → ((k : ℕ) (x : X) → slice_get xs k ≡ Some x → P k x) → P (length xs) y
    → (k : ℕ) (x : X) → slice_get (xs ++ y ∷ []) k ≡ Some x → P k x
more_all P xs y all new k x e = elim (push_was xs y k x e) [ inl was ↦ all k x was | inr last ↦ subst (λ (n : ℕ). P n x) (sym last.0) (subst (P (length xs)) (sym last.1) new) ]

pub submitted_more : (submitted : List Request) (sectors last : ℕ) (x : Request) → x.number ≡ last + 1 → x.sector + named_of x.transfer x.count ≤ sectors
    → AreNumbers x.transfer x.sector → IsShaped x → All IsPooled x.frames.items
    → AreSubmitted submitted sectors last → AreSubmitted (submitted ++ x ∷ []) sectors (last + 1)
submitted_more submitted sectors last x number on_disk numbers shaped pooled h = record {
  counted = longer submitted x ∙ ap (λ (n : ℕ). n + 1) h.counted;
  each = more_all (IsSubmitted sectors) submitted x h.each (record { number = omega (arith, number, h.counted); sector = on_disk; numbers = numbers; shaped = shaped; frames = pooled });
  sized = h.sized;
}

-- only a read is submitted to a disk that is read-only
pub disk_more : (config : Options) (submitted : List Request) (x : Request) → (is_write x.transfer && config.read_only) ≡ false → (is_moving x.transfer ≡ false → config.read_only ≡ false) → (is_indirect x.count ≡ true → frames_for x.count ≤ config.indirect)
    → IsOfTheDisk config submitted → IsOfTheDisk config (submitted ++ x ∷ [])
disk_more config submitted x may serves short h = record {
  writable = more_all (λ (k : ℕ) (r : Request). is_write r.transfer ≡ true → config.read_only ≡ false) submitted x h.writable
      (λ is. grind (arith, nat_tests));
  served = more_all (λ (k : ℕ) (r : Request). is_moving r.transfer ≡ false → config.read_only ≡ false) submitted x h.served serves;
  short = more_all (λ (k : ℕ) (r : Request). is_indirect r.count ≡ true → frames_for r.count ≤ config.indirect) submitted x h.short short;
}

-- so are the requests of the epoch
series_more : (submitted series : List Request) (sectors last : ℕ) (x : Request) → x.number ≡ last + 1 → AreSubmitted submitted sectors last → IsSeries submitted series → IsSeries (submitted ++ x ∷ []) (series ++ x ∷ [])
series_more submitted series sectors last x number are h = record {
  known = more_all (λ (i : ℕ) (r : Request). slice_get (submitted ++ x ∷ []) (r.number - 1) ≡ Some r) series x (λ i r e. get_append submitted (x ∷ []) (r.number - 1) r (h.known i r e))
      (ap (slice_get (submitted ++ x ∷ [])) (omega (arith, number, are.counted)) ∙ get_last submitted x);
  positive = more_all (λ (i : ℕ) (r : Request). 1 ≤ r.number) series x h.positive (omega (arith, number));
  ascending = all_pairs_push (λ (r s : Request). r.number < s.number) series x h.ascending (λ k d lt.
      let q : Request = get_or series k d in
      omega (arith, are.counted, slice_get_within submitted (q.number - 1) q (h.known k q (slice_get-get_or series k d lt))));
}

pub queue_more : (submitted series : List Request) (pushed sectors last : ℕ) (requests : List Request) (waiting : ℕ) (x : Request)
    → x.number ≡ last + 1 → length series ≡ pushed + waiting → waiting ≤ length requests
    → AreSubmitted submitted sectors last
    → AreQueued submitted series pushed requests waiting
    → AreQueued (submitted ++ x ∷ []) (series ++ x ∷ []) pushed (requests ++ x ∷ []) (waiting + 1)
queue_more submitted series pushed sectors last requests waiting x number all few are h =
    let long = longer requests x in
    let counted = are.counted in
    let fewer : length (requests ++ x ∷ []) - (waiting + 1) ≡ length requests - waiting = omega arith in
    let here : x.number - 1 ≡ length submitted = omega arith in
    record {
      ordered = series_more submitted series sectors last x number are h.ordered;
      known = All-push (λ (r : Request). slice_get (submitted ++ x ∷ []) (r.number - 1) ≡ Some r) requests x
          (λ k d lt. get_append submitted (x ∷ []) _ (get_or requests k d) (h.known k d lt))
          (ap (slice_get (submitted ++ x ∷ [])) here ∙ get_last submitted x);
      ascending = all_pairs_push (λ (r s : Request). r.number < s.number) requests x h.ascending
          (λ k d lt. let within = slice_get_within submitted _ (get_or requests k d) (h.known k d lt) in omega arith);
      issued = rw (fewer, take-append-le (length requests - waiting) requests (x ∷ []) (omega arith)) (λ k d lt. among_grown pushed (get_or (take (length requests - waiting) requests) k d) x (h.issued k d lt));
      next = λ j r lt e. elim (push_was requests x (length requests - waiting + j) r (ap (λ (n : ℕ). slice_get (requests ++ x ∷ []) (n + j)) (sym fewer) ∙ e)) [
        | inl was ↦ (let within = slice_get_within requests (length requests - waiting + j) r was in get_append series (x ∷ []) (pushed + j) r (h.next j r (omega arith) was))
        | inr new ↦
            ap (slice_get (series ++ x ∷ [])) (let last = new.0 in omega arith) ∙ (get_last series x ∙ ap Some (sym new.1))
      ];
    }

-- while the frames of a request are taken: each frame of the pool that is in use is that of one unfinished request, or was taken
pub record AreHeld (requests : List Request) (ending : Option Ending) (frames : List ℕ) (pool : List Bool) : Type 0 where
  pub size : length pool ≡ 1000
  pub each : (f : ℕ) → f < 1000
      → sum_by (uses (18 + f)) requests + ending_uses (18 + f) ending + count_by (λ (x : ℕ). x == 18 + f) frames ≡ cond (slice_index_or pool f false) 1 0
  pub used : count_by (λ (b : Bool). b) pool ≡ sum_by frames_of requests + ending_frames ending + length frames
  pub pooled : All IsPooled frames

-- a free frame is taken
held_more : (requests : List Request) (ending : Option Ending) (frames : List ℕ) (pool : List Bool) (frame : ℕ) → 18 ≤ frame → frame < 1018
    → slice_get pool (frame - 18) ≡ Some false
    → AreHeld requests ending frames pool → AreHeld requests ending (frames ++ frame ∷ []) (with_taken pool frame)
held_more requests ending frames pool frame low high free h = record {
  size = length-set pool (frame - 18) true ∙ h.size;
  each = λ f lt. grind (arith, nat_tests, get_or-set_at, get_or-set_other, h.each f lt, more (18 + f), get_or_from_slice_get pool (frame - 18) false false free, h.size);
  used = (omega (arith, h.used, count_set (λ (b : Bool). b) pool (frame - 18) false true free, longer frames frame));
  pooled = All-push IsPooled frames frame h.pooled (low, high);
}
  where
    more : (n : ℕ) → count_by (λ (x : ℕ). x == n) (frames ++ frame ∷ []) ≡ count_by (λ (x : ℕ). x == n) frames + cond (frame == n) 1 0
    more n = sum_by_push (λ (x : ℕ). cond (x == n) 1 0) frames frame

-- the lowest free frame is taken next, and none where all are in use
pub free_at : (pool : List Bool) → position_or_len not pool < length pool → slice_get pool (position_or_len not pool) ≡ Some false
free_at pool lt = slice_get-get_or pool (position_or_len not pool) false lt ∙ ap Some (grind (arith, nat_tests, passes_at_first not pool false lt))

pub taken_next : (n : ℕ) (pool : List Bool) (frames : List ℕ) → position_or_len not pool < length pool
    → taking (suc n) pool frames ≡ taking n (with_taken pool (18 + position_or_len not pool)) (frames ++ (18 + position_or_len not pool) ∷ [])
taken_next n pool frames lt = let yes : nat_lt (position_or_len not pool) (length pool) ≡ true = grind (arith, nat_tests) in rw yes refl

pub taken_none : (n : ℕ) (pool : List Bool) (frames : List ℕ) → length pool ≤ position_or_len not pool → taking (suc n) pool frames ≡ None
taken_none n pool frames le = let no : nat_lt (position_or_len not pool) (length pool) ≡ false = grind (arith, nat_tests) in rw no refl

pub same_place : (n : ℕ) → 18 + n - 18 ≡ n
same_place n = omega arith

-- so many are taken, one by one
taking_held : (requests : List Request) (ending : Option Ending) (n : ℕ) (pool : List Bool) (frames : List ℕ) (taken : List ℕ × List Bool)
    → taking n pool frames ≡ Some taken → AreHeld requests ending frames pool
    → AreHeld requests ending taken.0 taken.1 × (length taken.0 ≡ length frames + n)
taking_held requests ending zero pool frames taken e h =
    subst (λ (x : List ℕ × List Bool). AreHeld requests ending x.0 x.1 × (length x.0 ≡ length frames + 0)) (same_Some (frames, pool) taken e) (h, omega arith)
taking_held requests ending (suc n) pool frames taken e h =
    let place : ℕ = position_or_len not pool in
    elim (cases_lt place (length pool)) [
      | inl lt ↦
          let more = held_more requests ending frames pool (18 + place) (omega arith) (omega (arith, h.size)) (rw (same_place place) (free_at pool lt)) h in
          let rest = taking_held requests ending n (with_taken pool (18 + place)) (frames ++ (18 + place) ∷ []) taken (sym (taken_next n pool frames lt) ∙ e) more in
          (rest.0, omega (arith, rest.1, longer frames (18 + place)))
      | inr none ↦ absurd (none-some taken (sym (taken_none n pool frames none) ∙ e))
    ]

-- a request more has the frames that were taken: as many as were asked for, all of the pool
pub pooled_more : (pool taken : List Bool) (requests : List Request) (ending : Option Ending) (n : ℕ) (x : Request)
    → taking n pool [] ≡ Some (x.frames.items, taken) → ArePooled pool requests ending
    → ArePooled taken (requests ++ x ∷ []) ending × All IsPooled x.frames.items × (length x.frames.items ≡ n)
pooled_more pool taken requests ending n x e h =
    let used = h.used in
    let held = taking_held requests ending n pool [] (x.frames.items, taken) e
    (record { size = h.size; each = λ f lt. let was = h.each f lt in omega arith; used = omega arith; pooled = λ k d lt. absurd (omega arith) }) in
    let its : AreHeld requests ending x.frames.items taken = held.0 in
    let counted = held.1 in
    let more = sum_by_push frames_of requests x in
    let used_now = its.used in (
      record {
        size = its.size;
        each = λ f lt. let was = its.each f lt in let one = sum_by_push (uses (18 + f)) requests x in omega arith;
        used = omega arith;
      },
      its.pooled,
      omega arith,
    )

pub known_more : (submitted : List Request) (asked : List PipelineRequest) (x : Request) (q : PipelineRequest) → q.submission ≡ submitted_job x.transfer x.sector x.count → AreKnown submitted asked → AreKnown (submitted ++ x ∷ []) (asked ++ q ∷ [])
known_more submitted asked x q job h = record {
  as_many = longer asked q ∙ (ap (λ (n : ℕ). n + 1) h.as_many ∙ sym (longer submitted x));
  each = λ k r p e f. elim (push_was submitted x k r e) [
    | inl was ↦ (elim (push_was asked q k p f) [ inl stood ↦ h.each k r p was stood | inr new ↦ absurd (omega (arith, slice_get_within submitted k r was, new.0, h.as_many)) ])
    | inr last ↦ (elim (push_was asked q k p f) [ inl stood ↦ absurd (omega (arith, slice_get_within asked k p stood, last.0, h.as_many)) | inr new ↦ rw (last.1, new.1) job ])
  ];
}

pub opened_more : (asked : List PipelineRequest) (requests : List Request) (ending : Option Ending) (x : Request) (q : PipelineRequest) → is_finished q.station ≡ false → x.number ≡ length asked + 1 → AreOpen asked requests ending → AreOpen (asked ++ q ∷ []) (requests ++ x ∷ []) ending
opened_more asked requests ending x q unfinished_yet number h =
    let long = longer requests x in
    let unfinished = h.unfinished in
    record {
      unfinished = sum_by_push (λ (p : PipelineRequest). cond (not (is_finished p.station)) 1 0) asked q ∙ rw unfinished_yet (omega arith);
      held = λ k p e fin. elim (push_was asked q k p e) [
        | inl was ↦ (elim (h.held k p was fin) [
          | inl some ↦ inl (list_any-append (λ (r : Request). r.number == k + 1) requests (x ∷ []) ∙ rw some refl)
          | inr ended ↦ inr ended
        ])
        | inr new ↦ inl (any_at (λ (r : Request). r.number == k + 1) (requests ++ x ∷ []) (length requests) x (get_last requests x) (same_number x.number (k + 1) (omega (arith, number, new.0))))
      ];
    }
