-- A job maps a frame of its request, and unmaps it.
use Rattle.std.proofs.Common.{◌≡◌, ◌≢◌, ℕ, ◌+◌, ◌*◌, ◌/◌, ◌%◌, ◌<◌, ◌≤◌, Bool, true, false, List, length, if◌then◌else◌, refl, ap, sym, ◌∙◌, arith, inl, inr}
use Rattle.std.specs.Prelude.{Option, Some, slice_get, nat_lt, Ok}
use Rattle.std.proofs.lemmas.Option.{same_Some}
use Rattle.std.proofs.lemmas.Bool.Decides.{nat_tests}
use Rattle.grant_table.specs.declared.held.Held.{Held}
use Rattle.grant_table.specs.Entry.{verdict_of, mapped_entry, unmapped_entry}
use Rattle.grant_table.specs.Table.{entry_word0, entry_word1, with_entry_word0, mappings_of}
use Rattle.blk_front.specs.declared.request.Request.{Request}
use Rattle.blk_front.specs.declared.request.Transfer.{Transfer}
use Rattle.blk_front.specs.declared.request.Transfer.TheVariants as transfer
use Rattle.blk_front.specs.Request.{is_write, grant_flags, flags_at, frames_for, frame_at}
use Rattle.back_jobs.specs.Work.{mode_of}
use Rattle.blk_front.specs.declared.stage.Ending.{Ending}
use Rattle.blk_front.specs.declared.stage.FrontStage.{FrontStage}
use Rattle.machine_pipeline.proofs.Flow.{frames_of, revoking_at}
use Rattle.machine_pipeline.proofs.Series.{IsAmong}
use Rattle.machine_pipeline.proofs.Holds.{IsGranted, AreEntries, mapped_at, flags_with}
use Rattle.machine_pipeline.proofs.HoldsWorks.{is_only_read}
use Rattle.machine_pipeline.proofs.Lists.{all_at, all_from}
use Rattle.machine_pipeline.proofs.Kept.{SameEntry, written, other_word, other_entry}
use Rattle.std.proofs.lemmas.Bool.{cases_eq}

-- the flags of a granted frame, by whether it is only read
abbrev granting : Bool → ℕ
granting true = 5
granting false = 1

granted_way : (way : Transfer) → grant_flags way ≡ granting (is_write way)
granted_way (transfer.Write tag) = refl
granted_way (transfer.Barrier tag) = refl
granted_way way = refl

pub granting_at : (r : Request) (place : ℕ) → flags_at r place ≡ granting (is_only_read r place)
granting_at r place =
    elim (nat_lt place (frames_for r.count)) as (λ b. (if b then grant_flags r.transfer else 5) ≡ granting (if b then is_write r.transfer else true)) [ true ↦ granted_way r.transfer | false ↦ refl ]

-- the entry of a granted frame lets it be mapped; the flags once it is mapped, and once no mapping is left
pub may_map : (r : Request) (place frame : ℕ) → 2 ≤ frame → frame < 1018 → verdict_of (frame + 6) (flags_at r place) frame (mode_of (is_only_read r place)) ≡ Ok frame
may_map r place frame low high =
    let known : nat_lt 1023 (frame + 6) ≡ false = grind (arith, nat_tests) in
    let from : nat_lt frame 2 ≡ false = grind (arith, nat_tests) in
    let to : nat_lt 1023 frame ≡ false = grind (arith, nat_tests) in
    rw (granting_at r place) (elim (is_only_read r place) as (λ b. verdict_of (frame + 6) (granting b) frame (mode_of b) ≡ Ok frame)
    [ true ↦ rw (known, from, to) refl | false ↦ rw (known, from, to) refl ])

pub set_flags : (r : Request) (place : ℕ) → mapped_entry (flags_at r place) (mode_of (is_only_read r place)) ≡ mapped_at r place
set_flags r place = rw (granting_at r place) (elim (is_only_read r place) as (λ b. mapped_entry (granting b) (mode_of b) ≡ (if b then 13 else 25)) [ true ↦ refl | false ↦ refl ])

pub cleared_flags : (r : Request) (place : ℕ) → unmapped_entry (mapped_at r place) 0 0 ≡ flags_at r place
cleared_flags r place = rw (granting_at r place) (elim (is_only_read r place) as (λ b. unmapped_entry (if b then 13 else 25) 0 0 ≡ granting b) [ true ↦ refl | false ↦ refl ])

-- the grant entries once the flags of one frame of a request were made those of its mappings
pub entries_marked : {series : List Request} (pushed : ℕ) (pages : List ℕ) (live live' : List Held) (s : FrontStage) (ending : Option Ending) (requests : List Request) (i : ℕ)
    (r : Request) (place flags : ℕ)
    → length pages ≡ 1114112
    → slice_get requests i ≡ Some r
    → IsAmong series pushed r
    → (slice_get series pushed ≡ Some r → ⊥)
    → frame_at r place < 1018
    → flags ≡ flags_with r place (mappings_of (frame_at r place + 6) live')
    → ((f : ℕ) → f ≢ frame_at r place → mappings_of (f + 6) live' ≡ mappings_of (f + 6) live)
    → ((j : ℕ) (x : Request) → slice_get requests j ≡ Some x → (a : ℕ) → frame_at x a < 1018)
    → ((a : ℕ) → a ≢ place → a < frames_of r → frame_at r a ≢ frame_at r place)
    → ((j : ℕ) (x : Request) → j ≢ i → slice_get requests j ≡ Some x → (a : ℕ) → a < frames_of x → frame_at x a ≢ frame_at r place)
    → ((e : Ending) → revoking_at s ending ≡ Some e → (a : ℕ) → a < frames_of e.request
    → (frame_at e.request a < 1018) × (frame_at e.request a ≢ frame_at r place))
    → AreEntries series pushed pages live s ending requests
    → AreEntries series pushed (with_entry_word0 pages (frame_at r place + 6) flags) live' s ending requests
entries_marked {series} pushed pages live live' s ending requests i r place flags sized here reached fresh high marked others bound own apart last h = record {
  each = all_from (IsGranted series pushed new live' s) requests (λ j x e. elim (cases_eq j i) [
    | inl at ↦ rw (same_Some x r (sym e ∙ (ap (slice_get requests) at ∙ here))) (record {
      named = λ le a lt. named a lt ∙ it.named le a lt;
      named_next = λ n a t lt. named a lt ∙ it.named_next n a t lt;
      flags = now;
      flags_next = λ n a t lt. absurd (fresh n);
    })
    | inr off ↦
        let was = all_at (IsGranted series pushed pages live s) requests j x h.each e in
        record {
          named = λ le a lt. (other j x off e a lt).frame ∙ was.named le a lt;
          named_next = λ n a t lt. (other j x off e a lt).frame ∙ was.named_next n a t lt;
          flags = λ le a lt. (other j x off e a lt).flags ∙ (was.flags le a lt ∙ ap (λ (n : ℕ). flags_with x a n) (sym (others (frame_at x a) (apart j x off e a lt))));
          flags_next = λ n a t lt. (other j x off e a lt).flags ∙ was.flags_next n a t lt;
        }
  ]);
  ending = λ e same a from lt.
      let its = last e same a lt in
      (beside (frame_at e.request a) its.0 its.1).flags ∙ h.ending e same a from lt;
}
  where
    new : List ℕ
    new = with_entry_word0 pages (frame_at r place + 6) flags

    beside : (f : ℕ) → f < 1018 → f ≢ frame_at r place → SameEntry pages new (f + 6)
    beside f few other = other_entry pages (frame_at r place + 6) (f + 6) flags (omega arith) (omega arith) (λ t. other (omega arith))

    other : (j : ℕ) (x : Request) → j ≢ i → slice_get requests j ≡ Some x → (a : ℕ) → a < frames_of x → SameEntry pages new (frame_at x a + 6)
    other j x off e a lt = beside (frame_at x a) (bound j x e a) (apart j x off e a lt)

    it : IsGranted series pushed pages live s r
    it = all_at (IsGranted series pushed pages live s) requests i r h.each here

    named : (a : ℕ) → a < frames_of r → entry_word1 new (frame_at r a + 6) ≡ entry_word1 pages (frame_at r a + 6)
    named a lt = elim (cases_eq a place) [
      | inl at ↦ rw at (other_word pages ((frame_at r place + 6) / 512) (2 * ((frame_at r place + 6) % 512)) flags (2 * ((frame_at r place + 6) % 512) + 1) (omega arith))
      | inr off ↦ (beside (frame_at r a) (bound i r here a) (own a off lt)).frame
    ]

    now : IsAmong series pushed r → (a : ℕ) → a < frames_of r → entry_word0 new (frame_at r a + 6) ≡ flags_with r a (mappings_of (frame_at r a + 6) live')
    now le a lt = elim (cases_eq a place) [
      | inl at ↦ rw at (written pages ((frame_at r place + 6) / 512) (2 * ((frame_at r place + 6) % 512)) flags sized (omega arith) (omega arith) ∙ marked)
      | inr off ↦
          let frames = own a off lt in
          (beside (frame_at r a) (bound i r here a) frames).flags ∙ (it.flags le a lt ∙ ap (λ (n : ℕ). flags_with r a n) (sym (others (frame_at r a) frames)))
    ]
