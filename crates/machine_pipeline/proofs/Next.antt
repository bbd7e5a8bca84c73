-- The request that is issued next: the first of those that wait, in frames that no other one has.
use Rattle.std.proofs.Common.{◌≡◌, ◌≢◌, ℕ, ◌+◌, ◌-◌, ◌<◌, ◌≤◌, ◌==◌, inl, inr, List, length, get_or, refl, ap, sym, ◌∙◌, subst, arith}
use Rattle.std.specs.Prelude.{All, Option, Some, None, slice_get}
use Rattle.std.proofs.lemmas.Bool.Decides.{nat_tests}
use Rattle.std.proofs.lemmas.Option.{none-some, same_Some, slice_get-get_or}
use Rattle.pipeline_laws.specs.Station.{Issuing, PipelineRequest}
use Rattle.blk_front.specs.declared.request.Request.{Request}
use Rattle.blk_front.specs.declared.stage.Ending.{Ending}
use Rattle.blk_front.specs.Request.{frame_at, IsShaped}
use Rattle.blk_front.specs.View.{View, next_request}
use Rattle.ring_words.specs.Ring.{Ring}
use Rattle.machine_pipeline.proofs.Flow.{Flow, frames_of}
use Rattle.machine_pipeline.proofs.Series.{IsAmong, among_apart, numbered}
use Rattle.machine_pipeline.proofs.Holds.{IsPooled, AreIndices, AreQueued, IsSubmitted, AreSubmitted, ArePooled}
use Rattle.machine_pipeline.proofs.Hands.{frames_apart, own_apart}
use Rattle.machine_pipeline.proofs.Data.{pooled_at}
use Rattle.machine_pipeline.proofs.Lists.{all_at}
use Rattle.machine_pipeline.proofs.Stations.{StandsAt, AreOpen, kind_of, early_open, apart}
use Rattle.std.proofs.lemmas.Bool.{cases_Bool}

-- no more wait than are unfinished
pub waiting_few : {g : Flow} {front_ring back_ring : Ring} {front_seen back_seen number last waiting unfinished ending : ℕ} → AreIndices g front_ring back_ring front_seen back_seen number last waiting unfinished ending → waiting ≤ unfinished
waiting_few h = omega (arith, h.fetched_pushed, h.replied_fetched, h.taken_replied, h.held, h.all)

-- no frame of one request is one of the other
abbrev pub FramesApart : Request → Request → Type 0
FramesApart q r = (a b : ℕ) → a < frames_of q → b < frames_of r → frame_at q a ≢ frame_at r b

-- nor is one of a request's frames two of them
abbrev pub FramesDiffer : Request → Type 0
FramesDiffer r = (a b : ℕ) → a ≢ b → a < frames_of r → b < frames_of r → frame_at r a ≢ frame_at r b

pub record IsNext (submitted series requests : List Request) (pushed waiting : ℕ) (r : Request) : Type 0 where
  pub waits : 1 ≤ waiting
  pub place : slice_get requests (length requests - waiting) ≡ Some r
  pub at : slice_get series pushed ≡ Some r
  pub known : slice_get submitted (r.number - 1) ≡ Some r
  pub shaped : All IsShaped requests
  pub pooled : All (λ (q : Request). All IsPooled q.frames.items) requests
  pub shape : IsShaped r
  pub frames : All IsPooled r.frames.items
  pub apart : All (λ (q : Request). q.number ≢ r.number → FramesApart q r) requests
  pub own : FramesDiffer r
  pub late : (q : Request) → IsAmong series pushed q → q.number ≢ r.number
  pub only : (q : Request) → slice_get series pushed ≡ Some q → q ≡ r

pub next_is : {series : List Request} (v : View) (submitted : List Request) (sectors last pushed : ℕ) (ending : Option Ending) (r : Request)
    → AreQueued submitted series pushed v.requests v.waiting → AreSubmitted submitted sectors last → ArePooled v.pool v.requests ending → next_request v ≡ Some r
    → IsNext submitted series v.requests pushed v.waiting r
next_is {series} v submitted sectors last pushed ending r queue all pooled e = elim (cases_Bool (v.waiting == 0)) [
  | inl t ↦ absurd (none-some r (rw t at e))
  | inr t ↦ found (grind (arith, nat_tests)) (rw t at e)
]
  where
    found : 1 ≤ v.waiting → slice_get v.requests (length v.requests - v.waiting) ≡ Some r → IsNext submitted series v.requests pushed v.waiting r
    found waits place =
        let at : slice_get series pushed ≡ Some r = ap (slice_get series) (sym (zeroth pushed)) ∙ queue.next 0 r (omega arith) (ap (λ (i : ℕ). slice_get v.requests i) (zeroth (length v.requests - v.waiting)) ∙ place) in
        let known : slice_get submitted (r.number - 1) ≡ Some r = queue.ordered.known pushed r at in
        let is : IsSubmitted sectors (r.number - 1) r = all.each (r.number - 1) r known in
        record {
          waits = waits;
          place = place;
          at = at;
          known = known;
          shaped = λ k d within. let its = submitted_at k d within in its.shaped;
          pooled = λ k d within. let its = submitted_at k d within in its.frames;
          shape = is.shaped;
          frames = is.frames;
          own = λ a b other first second. own_apart v.pool v.requests ending (length v.requests - v.waiting) r pooled place a b other first second
              (pooled_at r is.frames a);
          apart = λ k d within other a b first second same.
              let q : Request = get_or v.requests k d in
              let stands : slice_get v.requests k ≡ Some q = slice_get-get_or v.requests k d within in
              let places : length v.requests - v.waiting ≢ k = λ here. other (ap (λ (x : Request). x.number) (same_Some q r (sym stands ∙ (ap (slice_get v.requests) (sym here) ∙ place)))) in
              frames_apart v.pool v.requests ending (length v.requests - v.waiting) k r q pooled places place stands b a second first (pooled_at r is.frames b)
              (sym same);
          late = λ q before. among_apart submitted series pushed pushed q r queue.ordered before at (omega arith);
          only = λ q here. same_Some q r (sym here ∙ at);
        }
      where
        submitted_at : (k : ℕ) (d : Request) → k < length v.requests
            → IsSubmitted sectors (let q : Request = get_or v.requests k d in q.number - 1) (get_or v.requests k d)
        submitted_at k d within = let q : Request = get_or v.requests k d in all.each (q.number - 1) q (queue.known k d within)

        zeroth : (n : ℕ) → n + 0 ≡ n
        zeroth n = omega arith

-- a request that was fetched and isn't finished has other frames than the one that is being issued
pub fetched_apart : {series : List Request} (submitted requests : List Request) (pushed waiting : ℕ) (asked : List PipelineRequest) (r : Request)
    → IsNext submitted series requests pushed waiting r
    → AreQueued submitted series pushed requests waiting
    → AreOpen asked requests None
    → StandsAt asked (r.number - 1) Issuing
    → (k : ℕ) (x : Request) (q : PipelineRequest) → slice_get submitted k ≡ Some x → slice_get asked k ≡ Some q → 4 ≤ kind_of q.station → kind_of q.station ≤ 7
    → FramesApart x r
fetched_apart submitted requests pushed waiting asked r next queue opened issuing k x q known at low high = elim (opened.held k q at (early_open q.station (omega arith))) [
  | inl any ↦
      let found = numbered requests (k + 1) any in
      let its = all_at (λ (y : Request). slice_get submitted (y.number - 1) ≡ Some y) requests found.0 found.1 queue.known found.2 in
      let far = all_at (λ (y : Request). y.number ≢ r.number → FramesApart y r) requests found.0 found.1 next.apart found.2 in
      let same : found.1 ≡ x = same_Some found.1 x (sym its ∙ (ap (slice_get submitted) (omega (arith, found.3)) ∙ known)) in
      subst (λ (y : Request). FramesApart y r) same (far (λ e. other (omega (arith, found.3, e))))
  | inr ending ↦ absurd (none-some ending.0 ending.1)
]
  where
    other : k ≢ r.number - 1
    other = apart asked k (r.number - 1) q.station Issuing (record { q = q; at = at; there = refl }) issuing (λ same. omega arith)
