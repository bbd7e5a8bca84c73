-- The front pushes the request that it issued: its whole producer grows by one.
use Rattle.blk_base.specs.Options.{Options}
use Rattle.pipeline_laws.specs.Pipeline.{Pipeline}
use Rattle.split_model.specs.World.{World}
use Rattle.std.proofs.lemmas.Bool.Decides.{nat_tests}
use Rattle.std.proofs.Common.{◌≡◌, ℕ, ◌+◌, ◌-◌, ◌*◌, ◌<◌, ◌≤◌, List, length, take, get_or, refl, ap, sym, ◌∙◌, subst, inl, inr, true, arith}
use Rattle.std.specs.Prelude.{All, slice_get}
use Rattle.std.proofs.lemmas.Bool.{cases_eq}
use Rattle.std.proofs.lemmas.Option.{none-some, get_or_from_slice_get}
use Rattle.std.proofs.lemmas.List.Elements.{All-weaker, All-more}
use Rattle.ring_words.specs.Ring.{Ring, next_of}
use Rattle.grant_table.specs.Table.{mappings_of}
use Rattle.blk_front.specs.declared.request.Request.{Request}
use Rattle.blk_front.specs.Request.{frame_at, flags_at, frames_for, IsShaped}
use Rattle.blk_front.specs.declared.stage.FrontStage.TheVariants as front
use Rattle.blk_back.specs.declared.stage.BackStage.{BackStage}
use Rattle.machine_pipeline.proofs.Flow.{Flow, frames_of, is_own}
use Rattle.machine_pipeline.proofs.Series.{IsAmong, among_more, among_last}
use Rattle.machine_pipeline.proofs.Wrapped.{next_wrapped}
use Rattle.machine_pipeline.proofs.Holds.{Holds, AreIndices, AreQueued, AreSlots, IsFilled, AreEntries, flags_with}
use Rattle.machine_pipeline.proofs.Kept.{slots_kept, SameGrants}
use Rattle.machine_pipeline.proofs.Data.{SameData}
use Rattle.machine_pipeline.proofs.Segments.{few_frames}
use Rattle.machine_pipeline.proofs.Next.{IsNext}
use Rattle.machine_pipeline.proofs.Slots.{SameSlots, entry_few}

-- one more was pushed
abbrev pub pushed_flow : Flow → Flow
pushed_flow g = record g { pushed = g.pushed + 1 }

pub indices_pushed : (g : Flow) (ring back_ring : Ring) (front_seen back_seen number last waiting unfinished : ℕ) → 1 ≤ waiting
    → AreIndices g ring back_ring front_seen back_seen number last waiting unfinished 0
    → AreIndices (pushed_flow g) (record ring { prod = next_of ring.prod }) back_ring front_seen back_seen number last (waiting - 1) unfinished 0
indices_pushed g ring back_ring front_seen back_seen number last waiting unfinished waits h =
    let prod = next_wrapped g.start g.pushed ring.prod h.pushed in omega (arith, h)

pub queue_pushed : {series : List Request} (submitted requests : List Request) (pushed waiting : ℕ) (r : Request) → IsNext submitted series requests pushed waiting r → waiting ≤ length requests → AreQueued submitted series pushed requests waiting → AreQueued submitted series (pushed + 1) requests (waiting - 1)
queue_pushed {series} submitted requests pushed waiting r next few h =
    let waits = next.waits in
    let here : get_or requests (length requests - waiting) r ≡ r = get_or_from_slice_get requests (length requests - waiting) r r next.place in
    let first : IsAmong series (pushed + 1) (get_or requests (length requests - waiting) r) = subst (IsAmong series (pushed + 1)) (sym here) (record { index = pushed; early = omega arith; at = next.at }) in
    let before : All (IsAmong series (pushed + 1)) (take (length requests - waiting) requests) = All-weaker (IsAmong series pushed) (IsAmong series (pushed + 1)) (λ q one. among_more pushed (pushed + 1) q (omega arith) one) (take (length requests - waiting) requests) h.issued in
    let more : length requests - waiting + 1 ≡ length requests - (waiting - 1) = omega arith in
    record {
      ordered = h.ordered;
      known = h.known;
      ascending = h.ascending;
      issued = subst (λ (n : ℕ). All (IsAmong series (pushed + 1)) (take n requests)) more (All-more (IsAmong series (pushed + 1)) requests (length requests - waiting) r (omega arith) before first);
      next = λ j q lt e.
          let same : length requests - waiting + (j + 1) ≡ length requests - (waiting - 1) + j = omega arith in
          let after : pushed + (j + 1) ≡ pushed + 1 + j = omega arith in
          ap (slice_get series) (sym after) ∙ h.next (j + 1) q (omega arith) (ap (λ (n : ℕ). slice_get requests n) same ∙ e);
    }

-- all words of a request's frames that the front writes were written then
own_reached : (q : Request) (n : ℕ) → IsShaped q → is_own q n ≡ true → n < 1024 * frames_for q.count + 1920
own_reached q n shaped own = grind (arith, nat_tests, shaped.counted.few)

-- what memory holds once the producer is written
module _ {config : Options} {w : World} {g : Flow} {d : Pipeline} {b : BackStage} {r : Request} (h : Holds config w g d front.Producer b)
    (next : IsNext g.submitted g.series w.front.requests g.pushed w.front.waiting r) (new : List ℕ) (old : ℕ) where
  pub slots_pushed : SameSlots w.under.pages new → AreSlots g.shape g.start g.fetched (g.pushed + 1) g.taken g.replied g.series g.replies new (front.ProducerFence old) b
  slots_pushed same =
      let kept = slots_kept g.shape g.start g.fetched g.pushed g.taken g.replied g.series g.replies w.under.pages new front.Producer b h.shaped.narrow same h.slots in
      record {
        entries = λ k q from to e i lt. elim (cases_eq k g.pushed) [
          | inl last ↦ rw last (kept.entry q (ap (slice_get g.series) (sym last) ∙ e) i lt (omega (arith, entry_few g.shape.abi)))
          | inr other ↦ kept.entries k q from (omega arith) e i lt
        ];
        entry = λ q e i lt few. absurd (omega arith);
        responses = kept.responses;
        response = kept.response;
      }

  pub frames_pushed : All (SameData w.under.pages new) w.front.requests → All (IsFilled g.series (g.pushed + 1) new (front.ProducerFence old)) w.front.requests
  frames_pushed same k q lt =
      let was = h.frames k q lt in
      record {
        whole = λ one n l own. (same k q lt) n l ∙ (elim (among_last g.pushed (get_or w.front.requests k q) one) [
          | inl before ↦ was.whole before n l own
          | inr last ↦ was.begun last n (own_reached (get_or w.front.requests k q) n (next.shaped k q lt) own) l own
        ]);
        begun = λ e n l. absurd (omega arith);
      }

  pub entries_pushed : ((place : ℕ) → place < frames_of r → mappings_of (frame_at r place + 6) w.under.grants.live ≡ 0) → All (SameGrants w.under.pages new) w.front.requests
      → AreEntries g.series (g.pushed + 1) new w.under.grants.live (front.ProducerFence old) w.front.ending w.front.requests
  entries_pushed none same = record {
    each = λ k q lt.
        let here = same k q lt in
        let was = h.entries.each k q lt in
        let few = few_frames (get_or w.front.requests k q) (next.shaped k q lt) in
        record {
          named = λ one place in_it. (here place in_it).frame ∙ (elim (among_last g.pushed (get_or w.front.requests k q) one) [
            | inl before ↦ was.named before place in_it
            | inr last ↦ was.named_next last place (omega arith) in_it
          ]);
          named_next = λ e place t. absurd (omega arith);
          flags = λ one place in_it. (here place in_it).flags ∙ (elim (among_last g.pushed (get_or w.front.requests k q) one) [
            | inl before ↦ was.flags before place in_it
            | inr last ↦ was.flags_next last place (omega arith) in_it ∙ unmapped (get_or w.front.requests k q) (next.only (get_or w.front.requests k q) last) place in_it
          ]);
          flags_next = λ e place t. absurd (omega arith);
        };
    ending = λ e t. absurd (none-some e t);
  }
    where
      Unmapped : Request → Type 0
      Unmapped q = (place : ℕ) → place < frames_of q → flags_at q place ≡ flags_with q place (mappings_of (frame_at q place + 6) w.under.grants.live)

      unmapped : (q : Request) → q ≡ r → Unmapped q
      unmapped q is = subst Unmapped (sym is) (λ place in_it. rw (none place in_it) refl)
