-- As many frames of the front's pool are in use as the pipeline's unfinished requests hold.
use Rattle.std.proofs.Common.{◌≡◌, ◌≢◌, ℕ, zero, suc, ◌+◌, ◌-◌, ◌/◌, ◌≤◌, ◌==◌, ◌⊎◌, inl, inr, ◌||◌, Bool, true, false, true≢false, not, cond, List, [], ◌∷◌, length, get_or, refl, ap, sym, ◌∙◌, arith}
use Rattle.std.specs.Prelude.{All, Option, Some, None, slice_get, slice_set, count_by, sum_by, nat_lt, if◌then◌else◌, map}
use Rattle.std.specs.List.{list_any}
use Rattle.std.proofs.lemmas.Bool.Decides.{nat_tests}
use Rattle.std.proofs.lemmas.Option.{none-some, same_Some}
use Rattle.std.proofs.lemmas.List.Sums.{sum_by-cons}
use Rattle.std.proofs.lemmas.List.Elements.{All-head, All-tail, All-cons}
use Rattle.blk_base.specs.Options.{Options}
use Rattle.blk_base.specs.declared.operation.Status.TheVariants.{Okay}
use Rattle.plain_disk.specs.Request.{is_finished}
use Rattle.plain_disk.specs.Refusal.{frames_of as job_frames, frames_held}
use Rattle.pipeline_laws.specs.Station.{Station, Telling, Finished, PipelineRequest, asked, stage_at, is_finished as is_ended}
use Rattle.pipeline_laws.specs.Pipeline.{Pipeline}
use Rattle.blk_front.specs.declared.request.Request.{Request}
use Rattle.blk_front.specs.declared.request.Transfer.{Transfer}
use Rattle.blk_front.specs.declared.request.Transfer.TheVariants as transfer
use Rattle.blk_front.specs.Request.{frames_for, pages_for, IsCounted}
use Rattle.blk_front.specs.declared.stage.Ending.{Ending}
use Rattle.blk_front.specs.View.{next_request}
use Rattle.split_model.specs.World.{World}
use Rattle.machine_pipeline.proofs.Flow.{Flow, frames_of, ending_at, ending_frames, count_of, submitted_job}
use Rattle.machine_pipeline.proofs.Holds.{AreSubmitted, IsSubmitted, Holds}
use Rattle.machine_pipeline.proofs.Frames.{ending_is}
use Rattle.machine_pipeline.proofs.Lists.{count_none, count_set, sum_set, set_was, same_number, none_or_some, sum_none}
use Rattle.machine_pipeline.proofs.Stations.{AreKnown, AreOpen}
use Rattle.std.proofs.lemmas.Bool.{cases_Bool, cond_both, or_left, or_right, true_from_ne_false}

-- of the plain disk a request is finished where it is of the pipeline
pub same_stage : (s : Station) → is_finished (stage_at s) ≡ is_ended s
same_stage (Telling next) = refl
same_stage (Finished status) = refl
same_stage s = refl

abbrev pub is_open : PipelineRequest → Bool
is_open x = not (is_ended x.station)

abbrev pub held : PipelineRequest → ℕ
held x = frames_held (asked x)

pub held_asked : (carried : List PipelineRequest) → sum_by frames_held (map asked carried) ≡ sum_by held carried
held_asked [] = refl
held_asked (x ∷ carried) =
    omega (arith, held_asked carried, sum_by-cons held x carried, sum_by-cons frames_held (asked x) (map asked carried))

-- the same request once it is finished
abbrev ended : PipelineRequest → PipelineRequest
ended x = record x { station = Finished Okay }

-- each request that isn't finished is one of these
abbrev AreAmong : List Request → List PipelineRequest → Type 0
AreAmong requests carried = (k : ℕ) (x : PipelineRequest) → slice_get carried k ≡ Some x → is_ended x.station ≡ false → list_any (λ (r : Request). r.number == k + 1) requests ≡ true

-- and these have the frames that its job needs
abbrev IsFitting : List PipelineRequest → Request → Type 0
IsFitting carried r = (k : ℕ) (x : PipelineRequest) → r.number ≡ k + 1 → slice_get carried k ≡ Some x → job_frames x.submission ≡ frames_of r

later : (a b : Bool) → a ≡ false → (a || b) ≡ true → b ≡ true
later a b none t = rw none at t

-- one of which no unfinished request is
skips : (r : Request) (requests : List Request) (carried : List PipelineRequest) → ((k : ℕ) (x : PipelineRequest) → slice_get carried k ≡ Some x → is_ended x.station ≡ false → r.number ≢ k + 1) → AreAmong (r ∷ requests) carried → AreAmong requests carried
skips r requests carried none among k x here unended =
    later (r.number == k + 1) (list_any (λ (q : Request). q.number == k + 1) requests) (grind (arith, nat_tests, none k x here unended)) (among k x here unended)

-- one that is finished
ends : (r : Request) (requests : List Request) (carried : List PipelineRequest) (p : ℕ) (x : PipelineRequest) → r.number ≡ p + 1 → slice_get carried p ≡ Some x → AreAmong (r ∷ requests) carried → AreAmong requests (slice_set carried p (ended x))
ends r requests carried p x number here among k y at unended = elim (set_was carried p k x (ended x) y here at) [
  | inl is ↦ absurd (true≢false (sym (ap (λ (z : PipelineRequest). is_ended z.station) is.1) ∙ unended))
  | inr was ↦ (
      let other : r.number ≢ k + 1 = λ same. was.0 (omega arith) in
      later (r.number == k + 1) (list_any (λ (q : Request). q.number == k + 1) requests) (grind (arith, nat_tests)) (among k y was.1 unended))
]

fits_on : (carried : List PipelineRequest) (p : ℕ) (x : PipelineRequest) → slice_get carried p ≡ Some x → (r : Request) → IsFitting carried r → IsFitting (slice_set carried p (ended x)) r
fits_on carried p x here r fits k y number at = elim (set_was carried p k x (ended x) y here at) [
  | inl is ↦ ap (λ (z : PipelineRequest). job_frames z.submission) is.1 ∙ fits p x (number ∙ ap (λ (n : ℕ). n + 1) is.0) here
  | inr was ↦ fits k y number was.1
]

-- the unfinished request of a number
record IsOpenAt (carried : List PipelineRequest) (n : ℕ) : Type 0 where
  pub place : ℕ
  pub x : PipelineRequest
  pub number : n ≡ place + 1
  pub here : slice_get carried place ≡ Some x
  pub unended : is_ended x.station ≡ false

looked_up : (carried : List PipelineRequest) (n : ℕ) → IsOpenAt carried n ⊎ ((k : ℕ) (x : PipelineRequest) → slice_get carried k ≡ Some x → is_ended x.station ≡ false → n ≢ k + 1)
looked_up carried zero = inr (λ k x here unended. omega arith)
looked_up carried (suc p) = elim (none_or_some (slice_get carried p)) [
  | inl none ↦ inr (λ k y at unended same.
      let place : p ≡ k = omega arith in
      none-some y (sym none ∙ (ap (slice_get carried) place ∙ at)))
  | inr some ↦ elim (cases_Bool (is_ended (let x : PipelineRequest = some.0 in x.station))) [
    | inl e ↦ inr (λ k y at unended same.
        let place : p ≡ k = omega arith in
        true≢false (sym e ∙ (ap (λ (z : PipelineRequest). is_ended z.station) (same_Some some.0 y (sym some.1 ∙ (ap (slice_get carried) place ∙ at))) ∙ unended)))
    | inr e ↦ inl (record { place = p; x = some.0; number = omega arith; here = some.1; unended = e })
  ]
]

-- where none is among these each is finished
all_ended : (carried : List PipelineRequest) → AreAmong [] carried → (k : ℕ) (x : PipelineRequest) → slice_get carried k ≡ Some x → is_ended x.station ≡ true
all_ended carried among k x e = true_from_ne_false (is_ended x.station) (λ unended. true≢false (sym (among k x e unended)))

-- no more are unfinished than these, and where as many are, they hold these frames
held_alike : (requests : List Request) (carried : List PipelineRequest) → AreAmong requests carried → All (IsFitting carried) requests
    → (count_by is_open carried ≤ length requests) × (count_by is_open carried ≡ length requests → sum_by held carried ≡ sum_by frames_of requests)
held_alike [] carried among fits =
    let none = count_none is_open carried (λ i x e. ap not (all_ended carried among i x e)) in
    (omega arith, λ counted. sum_none held carried (λ i x e. ap (λ (b : Bool). if b then 0 else job_frames x.submission) (same_stage x.station ∙ all_ended carried among i x e)))
held_alike (r ∷ requests) carried among fits = elim (looked_up carried r.number) [
  | inl it ↦
      let now = count_set is_open carried it.place it.x (ended it.x) it.here in
      let one : ◌≡◌ {A = ℕ} (cond (is_open it.x) 1 0) 1 = ap (λ (b : Bool). cond (not b) 1 0) it.unended in
      let rest = held_alike requests (slice_set carried it.place (ended it.x)) (ends r requests carried it.place it.x it.number it.here among)
      (λ k d lt. fits_on carried it.place it.x it.here (get_or requests k d) ((All-tail (IsFitting carried) r requests fits) k d lt)) in
      let summed = sum_set held carried it.place it.x (ended it.x) it.here in
      let own = ap (λ (b : Bool). if b then 0 else job_frames it.x.submission) (same_stage it.x.station ∙ it.unended) in
      (omega (arith, rest.0), λ counted. omega (arith, rest.1 (omega arith), sum_by-cons frames_of r requests, All-head (IsFitting carried) r requests fits it.place it.x it.number it.here))
  | inr none ↦
      let fewer = held_alike requests carried (skips r requests carried none among) (All-tail (IsFitting carried) r requests fits) in
      (omega (arith, fewer.0), λ counted. absurd (omega (arith, fewer.0)))
]

-- the front's requests, and the one that ends
abbrev ones : List Request → Option Ending → List Request
ones requests None = requests
ones requests (Some e) = e.request ∷ requests

among_ones : (carried : List PipelineRequest) (requests : List Request) (ending : Option Ending) → AreOpen carried requests ending → AreAmong (ones requests ending) carried
among_ones carried requests None opened k x here unended = elim (opened.held k x here unended) [
  | inl any ↦ any
  | inr other ↦ absurd (none-some other.0 other.1)
]
among_ones carried requests (Some e) opened k x here unended = elim (opened.held k x here unended) [
  | inl any ↦ or_right (e.request.number == k + 1) (list_any (λ (r : Request). r.number == k + 1) requests) any
  | inr other ↦ (
      let number : e.request.number ≡ k + 1 = ap (λ (z : Ending). z.request.number) (same_Some e other.0 other.1) ∙ other.2 in
      or_left (e.request.number == k + 1) (list_any (λ (r : Request). r.number == k + 1) requests) (same_number e.request.number (k + 1) number))
]

ones_are : (requests : List Request) (ending : Option Ending)
    → (length (ones requests ending) ≡ length requests + count_of ending) × (sum_by frames_of (ones requests ending) ≡ sum_by frames_of requests + ending_frames ending)
ones_are requests None = (omega arith, omega arith)
ones_are requests (Some e) = (omega arith, omega (arith, sum_by-cons frames_of e.request requests))

-- the frames that so many sectors take, by the rule
pub ruled_frames : (count : ℕ) → (if nat_lt 11 ((count + 7) / 8) then (count + 7) / 8 + ((count + 7) / 8 + 511) / 512 else (count + 7) / 8) ≡ frames_for count + pages_for count
ruled_frames count = cond_both (nat_lt 11 ((count + 7) / 8)) _ _ (λ (n : ℕ). n ≡ (count + 7) / 8 + pages_for count) (λ t. rw t refl) (λ t. rw t (omega arith))

-- a request needs a frame for each eight of the sectors that it moves, and its indirect pages
pub all_frames : (way : Transfer) (sector count : ℕ) → IsCounted way count → job_frames (submitted_job way sector count) ≡ frames_for count + pages_for count
all_frames transfer.Flush sector count counted = let none = counted.none refl in rw none refl
all_frames (transfer.Discard sectors) sector count counted = let none = counted.none refl in rw none refl
all_frames transfer.Read sector count counted = ruled_frames count
all_frames (transfer.Write tag) sector count counted = ruled_frames count
all_frames (transfer.Barrier tag) sector count counted =
    let few = counted.direct refl in
    let short : nat_lt 11 ((count + 7) / 8) ≡ false = grind (arith, nat_tests) in
    rw short (omega arith)

fitting : (submitted : List Request) (sectors last : ℕ) (carried : List PipelineRequest) (r : Request) → AreSubmitted submitted sectors last → AreKnown submitted carried → slice_get submitted (r.number - 1) ≡ Some r → IsFitting carried r
fitting submitted sectors last carried r all known stands k x number here =
    let place : r.number - 1 ≡ k = omega arith in
    let at : slice_get submitted k ≡ Some r = ap (slice_get submitted) (sym place) ∙ stands in
    let is : IsSubmitted sectors k r = all.each k r at in
    ap job_frames (known.each k r x at here) ∙ (all_frames r.transfer r.sector r.count is.shaped.counted ∙ sym is.shaped.frames)

pub frames_alike : (config : Options) (w : World) (g : Flow) (d : Pipeline) → Holds config w g d w.front.stage w.back.stage → sum_by frames_held (map asked d.requests) ≡ count_by (λ (b : Bool). b) w.front.pool
frames_alike config w g d h =
    let are = ones_are w.front.requests ending in
    let alike = held_alike (ones w.front.requests ending) d.requests (among_ones d.requests w.front.requests ending h.stations.opened) (all_fit ending refl) in
    omega (arith, held_asked d.requests, alike.1 (h.stations.opened.unfinished ∙ sym are.0), are.1, h.pool.used)
  where
    ending : Option Ending
    ending = ending_at w.front.stage w.front.ending

    fit : (r : Request) → slice_get g.submitted (r.number - 1) ≡ Some r → IsFitting d.requests r
    fit r stands = fitting g.submitted config.sectors w.front.last d.requests r h.submitted h.stations.known stands

    each : All (IsFitting d.requests) w.front.requests
    each k x lt = fit (get_or w.front.requests k x) (let queue = h.queue in queue.known k x lt)

    all_fit : (o : Option Ending) → ending ≡ o → All (IsFitting d.requests) (ones w.front.requests o)
    all_fit None same = each
    all_fit (Some e) same =
        let its = ending_is g.shape g.start g.pushed g.taken g.front_seen g.submitted g.replies (next_request w.front) w.front.ring.entry w.front.ending w.front.stage e h.front_at same in
        All-cons (IsFitting d.requests) e.request w.front.requests (fit e.request its.known) each
