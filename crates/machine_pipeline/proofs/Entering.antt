-- The front writes the entry of the request that it issues.
use Rattle.machine_pipeline.proofs.Next.{IsNext}
use Rattle.std.proofs.Common.{◌≡◌, ℕ, ◌+◌, ◌<◌, ◌≤◌, ◌==◌, Bool, true, false, List, length, refl, ap, sym, ◌∙◌, arith, length-set, ◌⊎◌, inl, inr}
use Rattle.std.specs.Prelude.{All, Some, slice_index, if◌then◌else◌}
use Rattle.std.proofs.lemmas.Option.{none-some, same_Some, slice_get_within}
use Rattle.blk_base.specs.Options.{Options}
use Rattle.pipeline_laws.specs.Pipeline.{Pipeline}
use Rattle.blk_front.specs.declared.request.Request.{Request}
use Rattle.blk_front.specs.declared.stage.FrontStage.{FrontStage}
use Rattle.blk_front.specs.declared.stage.FrontStage.TheVariants as front
use Rattle.blk_front.specs.View.{next_request}
use Rattle.blk_front.specs.Entry.{entry_of}
use Rattle.blk_front.specs.Submit.{ending_of, is_ready}
use Rattle.blk_back.specs.declared.stage.BackStage.{BackStage}
use Rattle.split_model.specs.World.{World}
use Rattle.split_model.specs.Safe.{IsSafe}
use Rattle.machine_pipeline.proofs.Flow.{Flow, wrapped, entered, ending_at, telling_at, reply_at, reply_count, may_front_sleep, is_issuing, is_fetching}
use Rattle.machine_pipeline.proofs.Holds.{AreIndices, FrontAt, FrontSends, AreSlots, IsFilled, AreEntries, Holds, slot_of}
use Rattle.ring_words.specs.Shape.{Shape, entry_words_of}
use Rattle.machine_pipeline.proofs.Kept.{SameFrame, same_entry, responded_few, SameEntry, SameGrants}
use Rattle.std.proofs.lemmas.Bool.{eqb-true, eqb-false, cases_eq}
use Rattle.machine_pipeline.proofs.Turns.{FrontGoes, said_nothing, goes_by}
use Rattle.machine_pipeline.proofs.Issuing.{issuing, frames_elsewhere, entries_elsewhere, frames_turned, entries_turned, with_front, issue_moved, next_here}
use Rattle.machine_pipeline.proofs.Data.{SameData}
use Rattle.machine_pipeline.proofs.Stations.{AreStations}
use Rattle.machine_pipeline.proofs.ReadsKept.{stations_elsewhere}
use Rattle.machine_pipeline.proofs.Slots.{with_slot, response_fits, slots_apart, other_slot, slot_written, same_slot, frames_beside, indices_beside}

-- one word more of the entry that is being written, less than a ring after the first response that wasn't taken
slots_entered : {config : Options} {w : World} {g : Flow} {d : Pipeline} {s : FrontStage} {b : BackStage} {r : Request} (h : Holds config w g d s b) (k : ℕ) (s' : FrontStage)
    → IsNext g.submitted g.series w.front.requests g.pushed w.front.waiting r → entered s ≡ k → ending_of s ≡ 0 → k < entry_words_of g.shape.abi
    → ((i : ℕ) → i < entry_words_of g.shape.abi → i < entered s' → i ≤ k)
    → AreSlots g.shape g.start g.fetched g.pushed g.taken g.replied g.series g.replies (with_slot w.under.pages g.shape (wrapped g.start g.pushed) k (slice_index (entry_of g.shape.abi r) k)) s' b
slots_entered {w = w} {g = g} {s = s} {b = b} {r = r} h k s' next so_far ended within more = record {
  entries = λ m q from to e i lt. earlier m i to (omega (arith, x.taken_replied, x.replied_fetched)) lt ∙ h.slots.entries m q from to e i lt;
  entry = λ q e i lt in_it. by_place i lt (more i lt in_it) (same_Some r q (sym next.at ∙ e)) (λ less. h.slots.entry q e i lt (omega (arith, so_far, less)));
  responses = λ m rep e i lt. earlier (g.taken + m) i (omega (arith, slice_get_within g.replies m rep e, h.replies.counted, x.replied_fetched, x.fetched_pushed))
      (omega arith) (response_fits g.shape.abi i lt) ∙ h.slots.responses m rep e i lt;
  response = λ rep e i lt. earlier g.replied i (omega (arith, ap reply_count e, h.counted, x.fetched_pushed)) (omega (arith, x.taken_replied))
      (response_fits g.shape.abi i (omega (arith, responded_few b))) ∙ h.slots.response rep e i lt;
}
  where
    x : AreIndices g w.front.ring.indices w.back.ring.indices w.front.ring.seen w.back.ring.seen w.back.fetched w.front.last w.front.waiting (length w.front.requests) (ending_of s)
    x = h.indices

    old : List ℕ
    old = w.under.pages

    value : ℕ
    value = slice_index (entry_of g.shape.abi r) k

    at : ℕ
    at = wrapped g.start g.pushed

    earlier : (m i : ℕ) → m < g.pushed → g.taken ≤ m → i < entry_words_of g.shape.abi
        → slot_of (with_slot old g.shape at k value) g.shape (wrapped g.start m) i ≡ slot_of old g.shape (wrapped g.start m) i
    earlier m i before from lt =
        let apart = slots_apart g.shape g.start m g.pushed i k h.shaped.narrow before (omega (arith, x.all, x.held, x.room, ended, next.waits)) lt within in
        other_slot old g.shape at k value (wrapped g.start m) i (λ same. apart (sym same))

    by_place : {q : Request} (i : ℕ) → i < entry_words_of g.shape.abi → i ≤ k → r ≡ q → (i < k → slot_of old g.shape at i ≡ slice_index (entry_of g.shape.abi q) i)
        → slot_of (with_slot old g.shape at k value) g.shape at i ≡ slice_index (entry_of g.shape.abi q) i
    by_place {q} i lt le same begun = elim (cases_eq i k) [
      | inl here ↦ rw (here, ← same) (slot_written old g.shape at k value h.memory h.shaped.narrow within)
      | inr other ↦ other_slot old g.shape at k value at i (same_slot g.shape at k i (λ same. other (sym same))) ∙ begun (omega arith)
    ]

-- what holds goes on holding as a word of the next request's entry is written
pub word_entered : (config : Options) (w : World) (g : Flow) (d d' : Pipeline) (k : ℕ) (s s' : FrontStage) (r : Request) (entry : List ℕ)
    → may_front_sleep s ≡ true → may_front_sleep s' ≡ true → entered s ≡ k
    → Holds config w g d s w.back.stage
    → AreStations config g d' (is_ready s') (is_issuing s') (is_fetching w.back.stage) (ending_at s' w.front.ending) (telling_at s') (reply_at w.back.stage) w.front.requests w.back.jobs.works w.under.pages
    → next_request w.front ≡ Some r → k < entry_words_of g.shape.abi → ((i : ℕ) → i < entry_words_of g.shape.abi → i < entered s' → i ≤ k)
    → ((new : List ℕ) → All (SameData w.under.pages new) w.front.requests → All (IsFilled g.series g.pushed new s') w.front.requests)
    → ((new : List ℕ) → All (SameGrants w.under.pages new) w.front.requests → AreEntries g.series g.pushed new w.under.grants.live s' w.front.ending w.front.requests)
    → FrontAt g.shape g.start g.pushed g.taken g.front_seen g.submitted g.replies (next_request w.front) entry w.front.ending s'
    → (FrontSends s g.pushed g.fetched → ⊥)
    → Holds config (with_front w s' entry (with_slot w.under.pages g.shape (wrapped g.start g.pushed) k (slice_index (entry_of g.shape.abi r) k))) g d' s' w.back.stage
word_entered config w g d d' k s s' r entry i i' so_far h stations e within more filled_so granted_so at unsent =
    let next = next_here h e in
    let value : ℕ = slice_index (entry_of g.shape.abi r) k in
    let new : List ℕ = with_slot w.under.pages g.shape (wrapped g.start g.pushed) k value in
    let elsewhere : (f : ℕ) → (f < 2) ⊎ (18 ≤ f) → SameFrame w.under.pages new f = λ f other. frames_beside w.under.pages g.shape (wrapped g.start g.pushed) k value f h.shaped.narrow within other in
    let entries : (gref : ℕ) → gref < 1024 → SameEntry w.under.pages new gref = λ gref lt. same_entry w.under.pages new gref lt (elsewhere 0 (inl (omega arith))) (elsewhere 1 (inl (omega arith))) in
    issue_moved config w g d d' s s' entry new i i' h
    (stations_elsewhere config g d' (is_ready s') (is_issuing s') (is_fetching w.back.stage) (ending_at s' w.front.ending) (telling_at s') (reply_at w.back.stage) w.front.requests w.back.jobs.works w.under.pages new config.sectors w.front.last h.submitted (λ f low high. elsewhere f (inr low)) stations)
    at
    (length-set w.under.pages _ value ∙ h.memory)
    (λ z lt. indices_beside w.under.pages g.shape (wrapped g.start g.pushed) k value z lt)
    (λ page lt. entries (8 + page) (omega arith))
    (slots_entered h k s' next so_far (issuing s i).ended within more)
    (filled_so new (frames_elsewhere h new s' (λ f from. elsewhere f (inr from))))
    (granted_so new (entries_elsewhere h new s' entries))
    (λ t sends. absurd (unsent sends))

pub slot_same : (pages entry entry' : List ℕ) (shape shape' : Shape) (prod prod' k : ℕ) → shape ≡ shape' → prod ≡ prod' → entry ≡ entry' → with_slot pages shape prod k (slice_index entry k) ≡ with_slot pages shape' prod' k (slice_index entry' k)
slot_same pages entry entry' shape shape' prod prod' k known e f = rw (known, e, f) refl

pub slot_goes : (config : Options) (w : World) (g : Flow) (d : Pipeline) (k : ℕ) → IsSafe w → Holds config w g d (front.Slot k) w.back.stage → FrontGoes config w d (front.Slot k)
slot_goes config w g d k safe h = goes_by (said_nothing d _ w.front.told safe.front_told)
    (by_test (k + 1 == entry_words_of w.front.shape.abi) refl)
  where
    r : Request
    r = h.front_at.1.0

    e : next_request w.front ≡ Some r
    e = h.front_at.1.1

    known : entry_words_of w.front.shape.abi ≡ entry_words_of g.shape.abi
    known = ap (λ (x : Shape). entry_words_of x.abi) h.shaped.known

    same : with_slot w.under.pages w.front.shape w.front.ring.indices.prod k (slice_index w.front.ring.entry k) ≡ with_slot w.under.pages g.shape (wrapped g.start g.pushed) k (slice_index (entry_of g.shape.abi r) k)
    same = let x = h.indices in slot_same w.under.pages w.front.ring.entry (entry_of g.shape.abi r) w.front.shape g.shape w.front.ring.indices.prod (wrapped g.start g.pushed) k h.shaped.known x.pushed h.front_at.1.2

    by_test : (b : Bool) → (k + 1 == entry_words_of w.front.shape.abi) ≡ b → Holds config (with_front w (if b then front.Producer else front.Slot (k + 1)) w.front.ring.entry (with_slot w.under.pages w.front.shape w.front.ring.indices.prod k (slice_index w.front.ring.entry k))) g d (if b then front.Producer else front.Slot (k + 1)) w.back.stage
    by_test true t = rw same (word_entered config w g d d k (front.Slot k) front.Producer r w.front.ring.entry refl refl refl h h.stations e h.front_at.0
        (λ i lt in_it. let all = eqb-true (k + 1) (entry_words_of w.front.shape.abi) t in omega (arith, known, h.front_at.0)) (λ new. frames_turned h new front.Producer (λ n. omega arith))
        (λ new kept. entries_turned h new front.Producer w.front.ending (omega arith) (omega arith) kept (λ x none. absurd (none-some x none))) (r, e, tt) (λ sends. sends))
    by_test false t = rw same (word_entered config w g d d k (front.Slot k) (front.Slot (k + 1)) r w.front.ring.entry refl refl refl h h.stations e h.front_at.0
        (λ i lt in_it. omega arith) (λ new. frames_turned h new (front.Slot (k + 1)) (λ n. omega arith))
        (λ new kept. entries_turned h new (front.Slot (k + 1)) w.front.ending (omega arith) (omega arith) kept (λ x none. absurd (none-some x none)))
        ((let more = eqb-false (k + 1) (entry_words_of w.front.shape.abi) t in omega (arith, known, h.front_at.0)), h.front_at.1) (λ sends. sends))
