-- The mappings in the hands of the back and its jobs, and those of one request's frame among them.
use Rattle.std.proofs.Common.{◌≡◌, ◌≢◌, ℕ, zero, suc, ◌+◌, ◌-◌, ◌^◌, ◌<◌, ◌≤◌, ◌==◌, inl, inr, Bool, true, false, cond, List, [], ◌∷◌, length, refl, ap, sym, ◌∙◌, subst, arith}
use Rattle.std.specs.Prelude.{Option, Some, slice_get, slice_index_or, count_by, sum_by}
use Rattle.std.specs.List.{list_any}
use Rattle.std.proofs.lemmas.Option.{none-some, same_Some, slice_get-get_or, slice_get_within, get_or_from_slice_get}
use Rattle.std.proofs.lemmas.List.Sums.{sum_by-cons}
use Rattle.blk_base.specs.declared.parts.Mapping.{Mapping}
use Rattle.pipeline_laws.specs.Station.{Station, PipelineRequest, is_finished}
use Rattle.blk_front.specs.declared.request.Request.{Request}
use Rattle.blk_front.specs.declared.stage.Ending.{Ending}
use Rattle.back_jobs.specs.declared.stage.JobStage.{JobStage}
use Rattle.back_jobs.specs.declared.stage.JobStage.TheVariants as job
use Rattle.back_jobs.specs.Work.{Work}
use Rattle.back_jobs.specs.Jobs.{mapping_at}
use Rattle.back_jobs.specs.Hands.{hands_in}
use Rattle.blk_back.specs.declared.stage.BackStage.{BackStage}
use Rattle.blk_back.specs.declared.stage.BackStage.TheVariants as back
use Rattle.ring_words.specs.Shape.{Shape}
use Rattle.blk_back.specs.View.{no_page}
use Rattle.blk_back.specs.Hands.{aborted}
use Rattle.blk_front.specs.Request.{frames_for, frame_at, IsShaped}
use Rattle.machine_pipeline.proofs.Flow.{frames_of, uses, ending_uses}
use Rattle.machine_pipeline.proofs.Holds.{AreQueued, IsPooled, ArePooled, BackAt, PagesAt}
use Rattle.machine_pipeline.proofs.HoldsWorks.{IsHand, IsCopying, AtWork, IsWork}
use Rattle.machine_pipeline.proofs.Stations.{StandsAt, AreOpen, IsTaking, finishing, finishing_kind, kind_of, early_open, apart}
use Rattle.machine_pipeline.proofs.Lists.{all_at, count_two, count_one, count_none, sum_one, sum_two, same_number, none_or_some}
use Rattle.machine_pipeline.proofs.Series.{numbered}
use Rattle.std.proofs.lemmas.Bool.Decides.{nat_tests}

-- a submitted request stands at a place of the front's
pub record IsQueued (requests : List Request) (r : Request) : Type 0 where
  pub place : ℕ
  pub at : slice_get requests place ≡ Some r

same_request : {series : List Request} (submitted requests : List Request) (pushed waiting k : ℕ) (r : Request) → AreQueued submitted series pushed requests waiting → slice_get submitted k ≡ Some r → list_any (λ (x : Request). x.number == k + 1) requests ≡ true → IsQueued requests r
same_request submitted requests pushed waiting k r queue known any =
    let found = numbered requests (k + 1) any in
    let place = all_at (λ (x : Request). slice_get submitted (x.number - 1) ≡ Some x) requests found.0 found.1 queue.known found.2 in
    record { place = found.0; at = found.2 ∙ ap Some (same_Some found.1 r (sym place ∙ (ap (slice_get submitted) (omega (arith, found.3)) ∙ known))) }

-- a request on its way, whose grant isn't being ended, is one of the front's
pub queued : {series : List Request} (submitted requests : List Request) (pushed waiting k : ℕ) (r : Request) (asked : List PipelineRequest) (ending : Option Ending) (telling : Option ℕ) (station : Station)
    → AreQueued submitted series pushed requests waiting
    → AreOpen asked requests ending
    → IsTaking ending telling asked
    → kind_of station < 7
    → slice_get submitted k ≡ Some r
    → StandsAt asked k station
    → IsQueued requests r
queued submitted requests pushed waiting k r asked ending telling station queue opened taking early known here =
    elim (opened.held k here.q here.at (ap is_finished here.there ∙ early_open station (omega arith))) [
      | inl any ↦ same_request submitted requests pushed waiting k r queue known any
      | inr other ↦
          let e : Ending = other.0 in
          let number : e.request.number - 1 ≡ k = omega (arith, other.2) in
          absurd (apart asked (e.request.number - 1) k (finishing telling e.status) station (taking e other.1) here (omega (arith, finishing_kind telling e.status)) number)
    ]

-- all uses of a frame of the pool are one at most
once : (pool : List Bool) (requests : List Request) (ending : Option Ending) (frame : ℕ) → ArePooled pool requests ending → IsPooled frame → sum_by (uses frame) requests + ending_uses frame ending ≤ 1
once pool requests ending frame pooled in_pool =
    let f : 18 + (frame - 18) ≡ frame = omega (arith, in_pool.0) in
    subst (λ (n : ℕ). sum_by (uses n) requests + ending_uses n ending ≤ 1) f (grind (arith, nat_tests, pooled.each (frame - 18) (omega (arith, in_pool.0, in_pool.1))))

-- a request uses its frames
place_of : (r : Request) (place : ℕ) → place < frames_of r → slice_get r.frames.items place ≡ Some (frame_at r place)
place_of r place within = slice_get-get_or r.frames.items place 18 within

uses_one : (r : Request) (place frame : ℕ) → place < frames_of r → frame_at r place ≡ frame → 1 ≤ uses frame r
uses_one r place frame within same = count_one (λ (f : ℕ). f == frame) r.frames.items place (frame_at r place) (place_of r place within) (same_number (frame_at r place) frame same)

uses_two : (r : Request) (a b frame : ℕ) → a ≢ b → a < frames_of r → b < frames_of r → frame_at r a ≡ frame → frame_at r b ≡ frame → 2 ≤ uses frame r
uses_two r a b frame other first second same too =
    count_two (λ (f : ℕ). f == frame) r.frames.items a b (frame_at r a) (frame_at r b) other (place_of r a first) (place_of r b second) (same_number _ _ same) (same_number _ _ too)

-- two of the front's requests have different frames
pub frames_apart : (pool : List Bool) (requests : List Request) (ending : Option Ending) (i j : ℕ) (r s : Request) → ArePooled pool requests ending → i ≢ j → slice_get requests i ≡ Some r → slice_get requests j ≡ Some s
    → (a b : ℕ) → a < frames_of r → b < frames_of s → IsPooled (frame_at r a) → frame_at r a ≢ frame_at s b
frames_apart pool requests ending i j r s pooled other first second a b in_r in_s in_pool = λ same.
    let two = sum_two (uses (frame_at r a)) requests i j r s other first second in
    omega (arith, once pool requests ending (frame_at r a) pooled in_pool, two, uses_one r a (frame_at r a) in_r refl, uses_one s b (frame_at r a) in_s (sym same))

-- and each of them has each of its frames once
pub own_apart : (pool : List Bool) (requests : List Request) (ending : Option Ending) (i : ℕ) (r : Request) → ArePooled pool requests ending → slice_get requests i ≡ Some r
    → (a b : ℕ) → a ≢ b → a < frames_of r → b < frames_of r → IsPooled (frame_at r a) → frame_at r a ≢ frame_at r b
own_apart pool requests ending i r pooled first a b other in_a in_b in_pool = λ same.
    omega (arith, once pool requests ending (frame_at r a) pooled in_pool, sum_one (uses (frame_at r a)) requests i r first, uses_two r a b (frame_at r a) other in_a in_b refl (sym same))

-- so it is with the ending one
pub ending_apart : (pool : List Bool) (requests : List Request) (e : Ending) (i : ℕ) (r : Request) → ArePooled pool requests (Some e) → slice_get requests i ≡ Some r
    → (a b : ℕ) → a < frames_of r → b < frames_of e.request → IsPooled (frame_at r a) → frame_at r a ≢ frame_at e.request b
ending_apart pool requests e i r pooled first a b in_r in_e in_pool = λ same.
    omega (
      arith,
      once pool requests (Some e) (frame_at r a) pooled in_pool,
      sum_one (uses (frame_at r a)) requests i r first,
      uses_one e.request b (frame_at r a) in_e (sym same),
      uses_one r a (frame_at r a) in_r refl,
    )

pub ending_own_apart : (pool : List Bool) (requests : List Request) (e : Ending) → ArePooled pool requests (Some e)
    → (a b : ℕ) → a ≢ b → a < frames_of e.request → b < frames_of e.request → IsPooled (frame_at e.request a) → frame_at e.request a ≢ frame_at e.request b
ending_own_apart pool requests e pooled a b other in_a in_b in_pool = λ same.
    omega (arith, once pool requests (Some e) (frame_at e.request a) pooled in_pool, uses_two e.request a b (frame_at e.request a) other in_a in_b refl (sym same))

-- a request whose number no job with a mapping has is not mapped, nor is its frame one of the ring's
-- the mapping in a job's hand is that of one of its request's frames
pub record IsHandOf (m : Mapping) (r : Request) : Type 0 where
  pub place : ℕ
  pub here : place < frames_of r
  pub hand : IsHand m r place

hand_of : (n m : Mapping) (r : Request) (place : ℕ) → n ≡ m → place < frames_of r → IsHand n r place → IsHandOf m r
hand_of n m r place same here hand = record { place = place; here = here; hand = subst (λ (x : Mapping). IsHand x r place) same hand }

page_of : (n m : Mapping) (r : Request) (t : Work) (page : ℕ) → n ≡ m → IsCopying t r page → IsHand n r (frames_for r.count + page) → IsShaped r → IsHandOf m r
page_of n m r t page same copies hand shaped = hand_of n m r (frames_for r.count + page) same (let frames = shaped.frames in let here = copies.here in omega arith) hand

-- of its data or of its indirect pages
data_of : (n m : Mapping) (r : Request) (place : ℕ) → n ≡ m → place < frames_for r.count → IsHand n r place → IsShaped r → IsHandOf m r
data_of n m r place same here hand shaped = hand_of n m r place same (let frames = shaped.frames in omega arith) hand

hand_at : (r : Request) (t : Work) (s : JobStage) (m : Mapping) → IsShaped r → AtWork r t s → mapping_at s ≡ Some m → IsHandOf m r
hand_at r t (job.PageReference n) m shaped h e = page_of n m r t h.page (same_Some n m e) h.copies h.hand shaped
hand_at r t (job.PageSectors n gref) m shaped h e = page_of n m r t h.0.page (same_Some n m e) h.0.copies h.0.hand shaped
hand_at r t (job.UnmapPage n) m shaped h e = page_of n m r t h.page (same_Some n m e) h.copies h.hand shaped
hand_at r t (job.ReadWord n j) m shaped h e = data_of n m r h.0.place (same_Some n m e) h.0.here h.1 shaped
hand_at r t (job.DiskWrite n) m shaped h e = data_of n m r h.0.place (same_Some n m e) h.0.here h.1 shaped
hand_at r t (job.DiskRead n) m shaped h e = data_of n m r h.0.place (same_Some n m e) h.0.here h.1 shaped
hand_at r t (job.WriteWord n j) m shaped h e = data_of n m r h.0.place (same_Some n m e) h.0.here h.1 shaped
hand_at r t (job.Unmap n) m shaped h e = data_of n m r h.0.place (same_Some n m e) h.0.here h.1 shaped
hand_at r t (job.Abort n) m shaped h e = data_of n m r h.0 (same_Some n m e) h.1 h.2 shaped
hand_at r t s m shaped h e = absurd (none-some m e)

pub work_hand : {series : List Request} (submitted : List Request) (fetched : ℕ) (t : Work) (m : Mapping) → (h : IsWork submitted series fetched t) → IsShaped h.r → mapping_at t.stage ≡ Some m → IsHandOf m h.r
work_hand submitted fetched t m h shaped e = hand_at h.r t t.stage m shaped h.at e

pub hands_none : (test : Mapping → Bool) (works : List Work) → ((i : ℕ) (t : Work) (m : Mapping) → slice_get works i ≡ Some t → mapping_at t.stage ≡ Some m → test m ≡ false) → count_by test (hands_in works) ≡ 0
hands_none test [] none = refl
hands_none test (t ∷ works) none =
    let rest = hands_none test works (λ i u m e f. none (suc i) u m e f) in
    elim (none_or_some (mapping_at t.stage)) [
      | inl e ↦ rw e rest
      | inr some ↦
          let here : ◌≡◌ {A = ℕ} (cond (test some.0) 1 0) 0 = rw (none zero t some.0 refl some.1) refl in
          rw some.1 (omega (arith, sum_by-cons (λ (x : Mapping). cond (test x) 1 0) some.0 (hands_in works), here, rest))
    ]

pub nothing_aborted : (shape : Shape) (b : BackStage) (start fetched back_seen replied : ℕ) (series : List Request) (works : List Work) (entry : List ℕ) → BackAt shape start fetched back_seen replied series works entry b → aborted b ≡ []
nothing_aborted shape (back.Abort m) start fetched back_seen replied series works entry h = absurd h
nothing_aborted shape b start fetched back_seen replied series works entry h = refl

-- no more pages are mapped than the ring has
pub mapped_few : (b : BackStage) (order count : ℕ) → PagesAt b order count → count ≤ 2 ^ order
mapped_few back.InitWait order count h = omega (arith, h)
mapped_few back.MapRing order count h = omega (arith, h)
mapped_few b order count h = omega (arith, h)

-- so each is of one of the ring's frames
pub pages_none : (test : Mapping → Bool) (pages : List Mapping) → ((page : ℕ) → page < length pages → test (slice_index_or pages page no_page) ≡ false) → count_by test pages ≡ 0
pages_none test pages none = count_none test pages (λ i m e. subst (λ (x : Mapping). test x ≡ false) (get_or_from_slice_get pages i m no_page e) (none i (slice_get_within pages i m e)))
