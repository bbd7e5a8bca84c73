-- The requests of both ends and their frames, as they stand in the whole machine.
use Rattle.std.proofs.Common.{◌≡◌, ◌≢◌, ℕ, ◌+◌, ◌-◌, ◌^◌, ◌<◌, ◌≤◌, Bool, false, cond, List, [], length, ap, sym, ◌∙◌, subst, arith}
use Rattle.std.specs.Prelude.{Option, Some, None, slice_get, slice_index_or, count_by}
use Rattle.std.proofs.lemmas.Option.{none-some, same_Some}
use Rattle.std.proofs.lemmas.List.Sums.{sum_by-append}
use Rattle.blk_base.specs.Options.{Options}
use Rattle.ring_words.specs.Shape.{Shape}
use Rattle.blk_base.specs.declared.parts.Mapping.{Mapping}
use Rattle.grant_table.specs.declared.held.Held.{Held}
use Rattle.pipeline_laws.specs.Pipeline.{Pipeline}
use Rattle.blk_front.specs.declared.request.Request.{Request}
use Rattle.blk_front.specs.Request.{frame_at, words_in}
use Rattle.blk_front.specs.declared.stage.Ending.{Ending}
use Rattle.blk_front.specs.declared.stage.FrontStage.{FrontStage}
use Rattle.blk_front.specs.declared.stage.FrontStage.TheVariants as front
use Rattle.back_jobs.specs.Work.{Work}
use Rattle.back_jobs.specs.Jobs.{mapping_at}
use Rattle.back_jobs.specs.Hands.{hands_in}
use Rattle.blk_back.specs.declared.stage.Reply.{Reply}
use Rattle.blk_back.specs.declared.stage.BackStage.{BackStage}
use Rattle.blk_back.specs.View.{no_page}
use Rattle.blk_back.specs.Hands.{aborted, hands_at}
use Rattle.split_model.specs.World.{World}
use Rattle.machine_pipeline.proofs.Flow.{Flow, ending_at, word_at, telling_at, named_pages, worked, frames_of}
use Rattle.machine_pipeline.proofs.Stations.{worked_kind}
use Rattle.machine_pipeline.proofs.Holds.{Holds, FrontAt, IsToldAt, IsEnding, IsSubmitted}
use Rattle.machine_pipeline.proofs.HoldsWorks.{IsWork}
use Rattle.machine_pipeline.proofs.Data.{pooled_at}
use Rattle.machine_pipeline.proofs.Lists.{all_at}
use Rattle.machine_pipeline.proofs.Hands.{IsQueued, queued, frames_apart, work_hand, hands_none, pages_none, mapped_few, nothing_aborted}
use Rattle.machine_pipeline.proofs.Slots.{few_pages}

-- the request whose grant is being ended
pub ending_is : (shape : Shape) (start pushed taken front_seen : ℕ) (submitted : List Request) (replies : List Reply) (next : Option Request) (entry : List ℕ) (ending : Option Ending) (s : FrontStage) (e : Ending) → FrontAt shape start pushed taken front_seen submitted replies next entry ending s → ending_at s ending ≡ Some e → IsEnding submitted replies e
ending_is shape start pushed taken front_seen submitted replies next entry ending (front.GrantRead place) e h same = subst (IsEnding submitted replies) (same_Some h.0 e (sym h.1 ∙ same)) h.2
ending_is shape start pushed taken front_seen submitted replies next entry ending (front.GrantEnd place before) e h same = subst (IsEnding submitted replies) (same_Some h.0 e (sym h.1 ∙ same)) h.2
ending_is shape start pushed taken front_seen submitted replies next entry ending (front.ReadData n) e h same = subst (IsEnding submitted replies) (same_Some h.0 e (sym h.1 ∙ same)) h.2
ending_is shape start pushed taken front_seen submitted replies next entry ending (front.LeftData n) e h same = subst (IsEnding submitted replies) (same_Some h.0 e (sym h.1 ∙ same)) h.2
ending_is shape start pushed taken front_seen submitted replies next entry ending s e h same = absurd (none-some e same)

-- how far the words of the ring, of data and of an entry that are being written go
pub few_words : (shape : Shape) (start pushed taken front_seen : ℕ) (submitted : List Request) (replies : List Reply) (next : Option Request) (entry : List ℕ) (ending : Option Ending) (s : FrontStage) → FrontAt shape start pushed taken front_seen submitted replies next entry ending s → (k : ℕ) → s ≡ front.RingWord k → k ≤ 16
few_words shape start pushed taken front_seen submitted replies next entry ending s h k e =
    let within : k < 16 = subst (λ (x : FrontStage). FrontAt shape start pushed taken front_seen submitted replies next entry ending x) e h in
    omega arith

-- frames of the ring that are named are its own
pub named_at : (shape : Shape) (start pushed taken front_seen : ℕ) (submitted : List Request) (replies : List Reply) (next : Option Request) (entry : List ℕ) (ending : Option Ending) (s : FrontStage) → shape.order ≤ 4 → FrontAt shape start pushed taken front_seen submitted replies next entry ending s → named_pages s (2 ^ shape.order) ≤ 16
named_at shape start pushed taken front_seen submitted replies next entry ending front.Loop narrow h = few_pages shape.order narrow
named_at shape start pushed taken front_seen submitted replies next entry ending s narrow h = let few = few_pages shape.order narrow in omega arith

-- the data of the ending request that are told have so many words
told_fewer : (submitted : List Request) (replies : List Reply) (ending : Option Ending) (m n : ℕ) (e : Ending) → IsToldAt submitted replies ending m → Some m ≡ Some n → ending ≡ Some e → n < words_in e.request
told_fewer submitted replies ending m n e at is here =
    subst (λ (k : ℕ). k < words_in e.request) (same_Some m n is) (subst (λ (x : Ending). m < words_in x.request) (same_Some at.0 e (sym at.1 ∙ here)) at.3.0)

pub told_few : (shape : Shape) (start pushed taken front_seen : ℕ) (submitted : List Request) (replies : List Reply) (next : Option Request) (entry : List ℕ) (ending : Option Ending) (s : FrontStage) → FrontAt shape start pushed taken front_seen submitted replies next entry ending s → (n : ℕ) → word_at s ≡ Some n → (e : Ending) → ending ≡ Some e → n < words_in e.request
told_few shape start pushed taken front_seen submitted replies next entry ending (front.ReadData m) at n is e here = told_fewer submitted replies ending m n e at is here
told_few shape start pushed taken front_seen submitted replies next entry ending (front.LeftData m) at n is e here = told_fewer submitted replies ending m n e at is here
told_few shape start pushed taken front_seen submitted replies next entry ending s at n is e here = absurd (none-some n is)

-- one of the front's requests is a submitted one
pub is_submitted : (config : Options) (w : World) (g : Flow) (d : Pipeline) (s : FrontStage) (b : BackStage) → Holds config w g d s b → (i : ℕ) (r : Request) → slice_get w.front.requests i ≡ Some r → IsSubmitted config.sectors (r.number - 1) r
is_submitted config w g d s b h i r e = h.submitted.each (r.number - 1) r (all_at (λ (x : Request). slice_get g.submitted (x.number - 1) ≡ Some x) w.front.requests i r h.queue.known e)

-- the request of a job is one of the front's
pub work_queued : (config : Options) (w : World) (g : Flow) (d : Pipeline) (s : FrontStage) (b : BackStage) → Holds config w g d s b → (i : ℕ) (t : Work) → slice_get w.back.jobs.works i ≡ Some t → (is : IsWork g.submitted g.series g.fetched t) → IsQueued w.front.requests is.r
work_queued config w g d s b h i t here is =
    queued g.submitted w.front.requests g.pushed w.front.waiting (t.id - 1) is.r d.requests (ending_at s w.front.ending) (telling_at s) (worked t.stage t.moved) h.queue h.stations.opened h.stations.taking
    (omega (arith, worked_kind t.stage t.moved)) is.known (h.stations.works i t here)

-- no hand has a mapping of a request's frame where none of the jobs that have one has its number
pub none_in_hands : (config : Options) (w : World) (g : Flow) (d : Pipeline) (s : FrontStage) (b : BackStage) → Holds config w g d s b
    → (j : ℕ) (r : Request) → slice_get w.front.requests j ≡ Some r
    → (a : ℕ) → a < frames_of r
    → (works : List Work)
    → ((i : ℕ) (t : Work) (m : Mapping) → slice_get works i ≡ Some t → mapping_at t.stage ≡ Some m → (k : ℕ) × (slice_get w.back.jobs.works k ≡ Some t) × (t.id ≢ r.number))
    → (test : Mapping → Bool) → ((m : Mapping) → m.gref ≢ frame_at r a + 6 → test m ≡ false)
    → count_by test (hands_at b (record w.back { jobs = record w.back.jobs { works = works } })) ≡ 0
none_in_hands config w g d s b h j r here a in_r works others test apart =
    let given : aborted b ≡ [] = nothing_aborted g.shape b g.start g.fetched g.back_seen g.replied g.series w.back.jobs.works w.back.ring.entry h.back_at in
    let jobs : count_by test (hands_in works) ≡ 0 = hands_none test works one in
    let pages : count_by test w.back.pages ≡ 0 = pages_none test w.back.pages (λ page lt. apart (slice_index_or w.back.pages page no_page) (
    let gref = h.paged.gref page lt in
    let all = mapped_few b g.shape.order (length w.back.pages) h.paged.mapped in
    omega (arith, (pooled_at r (is_submitted config w g d s b h j r here).frames a).0, few_pages g.shape.order h.shaped.narrow))) in
    rw given (omega (arith, sum_by-append (λ (x : Mapping). cond (test x) 1 0) (hands_in works) w.back.pages, few_pages g.shape.order h.shaped.narrow))
  where
    one : (i : ℕ) (t : Work) (m : Mapping) → slice_get works i ≡ Some t → mapping_at t.stage ≡ Some m → test m ≡ false
    one i t m e f =
        let other = others i t m e f in
        let work = all_at (IsWork g.submitted g.series g.fetched) w.back.jobs.works other.0 t h.works.each other.1 in
        let its = work_queued config w g d s b h other.0 t other.1 work in
        let number = h.submitted.each (t.id - 1) work.r work.known in
        let hand = work_hand g.submitted g.fetched t m work number.shaped f in
        let differs = other.2 in
        let places : its.place ≢ j = λ same. differs (omega (arith, number.number, work.positive, ap (λ (x : Request). x.number) (same_Some work.r r (sym its.at ∙ (ap (slice_get w.front.requests) same ∙ here))))) in
        let frames = frames_apart w.front.pool w.front.requests (ending_at s w.front.ending) its.place j work.r r h.pool places its.at here hand.place a hand.here in_r (pooled_at work.r number.frames hand.place) in
        apart m (λ same. frames (let gref = hand.hand.gref in omega arith))

-- so such a request isn't mapped, whichever of its mappings are counted
pub unmapped : (config : Options) (w : World) (g : Flow) (d : Pipeline) (s : FrontStage) (b : BackStage) → Holds config w g d s b
    → (j : ℕ) (r : Request) → slice_get w.front.requests j ≡ Some r
    → (a : ℕ) → a < frames_of r
    → ((i : ℕ) (t : Work) → slice_get w.back.jobs.works i ≡ Some t → t.id ≡ r.number → mapping_at t.stage ≡ None)
    → (test : Mapping → Bool) → ((m : Mapping) → m.gref ≢ frame_at r a + 6 → test m ≡ false)
    → count_by (λ (x : Held). test x.mapping) w.under.grants.live ≡ 0
unmapped config w g d s b h j r here a in_r none test apart =
    h.mapped.counted test ∙ none_in_hands config w g d s b h j r here a in_r w.back.jobs.works (λ i t m e f. (i, e, λ same. none-some m (sym (none i t e same) ∙ f))) test apart
