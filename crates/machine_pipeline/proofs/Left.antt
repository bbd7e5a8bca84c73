-- The data of a read that were in hand as the guest was suspended are told before anything else; then the ring is made.
use Rattle.std.proofs.Common.{◌≡◌, ℕ, ◌+◌, ◌%◌, ◌^◌, ◌<◌, ◌≤◌, ◌==◌, Bool, false, List, length, refl, ap, sym, ◌∙◌, subst, arith, true≢false}
use Rattle.std.specs.Prelude.{Option, None, nat_lt}
use Rattle.std.proofs.lemmas.Option.{none-some}
use Rattle.blk_base.specs.Options.{Options}
use Rattle.pipeline_laws.specs.Pipeline.{Pipeline}
use Rattle.blk_front.specs.declared.stage.Ending.{Ending}
use Rattle.blk_front.specs.declared.stage.FrontStage.{FrontStage}
use Rattle.blk_front.specs.declared.stage.FrontStage.TheVariants as front
use Rattle.blk_front.specs.Ask.{read_ask}
use Rattle.blk_front.specs.Request.{words_in}
use Rattle.blk_front.specs.Step.{left_step}
use Rattle.blk_front.specs.Submit.{is_ready, is_connected, ending_of}
use Rattle.blk_front.specs.View.{next_request}
use Rattle.split_model.specs.World.{World}
use Rattle.machine_pipeline.proofs.Flow.{Flow, has_ring, is_issuing, filled, named_frames, granted_frames, named_pages, granted_pages, entered, ending_at, revoking_at, telling_at, is_front_arming, may_front_sleep, is_fetching, reply_at}
use Rattle.machine_pipeline.proofs.Holds.{FrontAt, FrontSends, RingBegun, ArePooled, AreDataWords, Holds, AreRingWords}
use Rattle.machine_pipeline.proofs.Stations.{AreStations}
use Rattle.machine_pipeline.proofs.Issuing.{idle_turned, back_sleep_turned}
use Rattle.machine_pipeline.proofs.Turns.{FrontGoes}
use Rattle.machine_pipeline.proofs.Indices.{indices_room}
use Rattle.machine_pipeline.proofs.Ended.{ActGoes, finishing_at}
use Rattle.machine_pipeline.proofs.Telling.{IsTelling, HoldsMore, HoldsAll, Becomes, word, next_at, told_by}
use Rattle.machine_pipeline.proofs.Kept.{awake_front}

-- a stage at which an epoch begins: nothing of the ring is made
pub record IsUnbegun (s : FrontStage) : Type 0 where
  pub unready : is_ready s ≡ false
  pub unconnected : is_connected s ≡ false
  pub restless : may_front_sleep s ≡ false
  pub unarmed : is_front_arming s ≡ false
  pub unissued : is_issuing s ≡ false
  pub ringless : has_ring s ≡ false
  pub named : (pages : ℕ) → named_pages s pages ≡ 0
  pub granted : (pages : ℕ) → granted_pages s pages ≡ 0
  pub begun : (start : ℕ) (pages : List ℕ) → RingBegun start pages s
  pub unfilled : (frames n : ℕ) → n < filled s frames → ⊥
  pub entered_none : entered s ≡ 0
  pub unnamed : named_frames s ≡ 0
  pub ungranted : granted_frames s ≡ 0
  pub unrevoked : (ending : Option Ending) → revoking_at s ending ≡ None
  pub quiet : (pushed fetched : ℕ) → FrontSends s pushed fetched → ⊥

pub left_data : (n : ℕ) → IsUnbegun (front.LeftData n)
left_data n = let none : (frames n : ℕ) → n < 0 → ⊥ = λ frames n lt. omega arith in assumption none

pub first_word : IsUnbegun (front.RingWord 0)
first_word =
    let none : (frames n : ℕ) → n < 0 → ⊥ = λ frames n lt. omega arith in
    let begun : (start : ℕ) (pages : List ℕ) → RingBegun start pages (front.RingWord 0) = λ start pages j lt. absurd (omega arith) in
    assumption (none, begun)

-- nothing is said of the ring's words
pub ring_unbegun : (order start pushed replied : ℕ) (pages : List ℕ) (s : FrontStage) (mapped : ℕ) → IsUnbegun s → AreRingWords order start pushed replied pages s mapped
ring_unbegun order start pushed replied pages s mapped i = record {
  begun = i.begun start pages;
  requests = λ t. absurd (true≢false (sym t ∙ i.ringless));
  responses = λ t. absurd (true≢false (sym t ∙ i.ringless));
  named = λ page lt unmapped. absurd (let none = i.named (2 ^ order) in omega arith);
  granted = λ page lt unmapped. absurd (let none = i.granted (2 ^ order) in omega arith);
}

-- the data and the frames in hand alone change
pub left_on : (config : Options) (w : World) (g : Flow) (d d' : Pipeline) (s s' : FrontStage) (ending : Option Ending) (pool : List Bool) (words : List ℕ)
    → IsUnbegun s → IsUnbegun s' → ending_of s' ≤ ending_of s
    → Holds config w g d s w.back.stage
    → AreStations config g d' (is_ready s') (is_issuing s') (is_fetching w.back.stage) (ending_at s' ending) (telling_at s') (reply_at w.back.stage) w.front.requests w.back.jobs.works w.under.pages
    → ArePooled pool w.front.requests (ending_at s' ending)
    → FrontAt g.shape g.start g.pushed g.taken g.front_seen g.submitted g.replies (next_request w.front) w.front.ring.entry ending s'
    → AreDataWords w.under.pages words ending s'
    → Holds config (finishing_at w s' ending pool words w.under.pages) g d' s' w.back.stage
left_on config w g d d' s s' ending pool words i i' fewer h stations pooled at told = assumption (
  indices_room g w.front.ring.indices w.back.ring.indices w.front.ring.seen w.back.ring.seen w.back.fetched w.front.last w.front.waiting (length w.front.requests)
      (ending_of s) (ending_of s') (omega (arith, h.indices.room)) h.indices,
  rw (i.unready ∙ sym i'.unready) at h.offered,
  ring_unbegun g.shape.order g.start g.pushed g.replied w.under.pages s' (length w.back.pages) i',
  idle_turned h w.under.pages s' ending i'.unissued (λ f x from to in_it after. refl) (λ n x lt k l. refl) (λ n x lt a in_it. record { flags = refl; frame = refl })
      (λ e same. absurd (none-some e (sym (i'.unrevoked ending) ∙ same))),
  awake_front g.start g.taken g.replied w.under.pages w.front.ring.asleep w.under.channels.front_pending s' w.back.stage (h.front_sleep.may i.restless) i'.unarmed,
  back_sleep_turned h w.under.pages s' w.under.channels.back_pending refl refl (λ t sends. absurd (i.quiet g.pushed g.fetched sends)),
  rw (i.unconnected ∙ sym i'.unconnected) at h.ports,
)

-- a word of them is read
pub left_goes : (config : Options) (w : World) (g : Flow) (d : Pipeline) (n : ℕ)
    → w.front.told ≡ None
    → Holds config w g d (front.LeftData n) w.back.stage
    → FrontGoes config w d (front.LeftData n)
left_goes config w g d n untold h =
    subst (λ (x : Option Ending). ActGoes config w d (front.LeftData n) (read_ask x n)) (sym h.front_at.1)
    (subst (Becomes config w g d n (front.LeftData (n + 1)) (front.RingWord 0) false t) (sym stepped) (told_by config w g d n (front.LeftData (n + 1)) (front.RingWord 0) false t more all))
  where
    t : IsTelling config w g d false n
    t = record { untold = untold; at = h.front_at; submitted = h.submitted; size = h.telling.size; so_far = h.telling.so_far; pool = h.pool; stations = h.stations }

    stepped : left_step w.front.ending n (word config w g d n (front.LeftData (n + 1)) (front.RingWord 0) false t) w.front ≡ next_at config w g d n (front.LeftData (n + 1)) (front.RingWord 0) false t (nat_lt (n + 1) (words_in h.front_at.0.request)) (n % 128 == 127)
    stepped = ap (λ (x : Option Ending). left_step x n (word config w g d n (front.LeftData (n + 1)) (front.RingWord 0) false t) w.front) h.front_at.1

    more : HoldsMore config w g false n (front.LeftData (n + 1))
    more p words at sized so_far now = left_on config w g d p (front.LeftData n) (front.LeftData (n + 1)) w.front.ending w.front.pool words (left_data n) (left_data (n + 1)) (omega arith) h now h.pool at (record { size = sized; so_far = so_far })

    all : HoldsAll config w g false (front.RingWord 0)
    all p pool words pooled sized now = left_on config w g d p (front.LeftData n) (front.RingWord 0) None pool words (left_data n) first_word (omega arith) h now pooled (omega arith) (record { size = sized; so_far = tt })
