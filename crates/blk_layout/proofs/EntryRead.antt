-- An entry as the reader takes it apart.
use Rattle.std.proofs.Common.{◌≡◌, ◌≢◌, ℕ, ◌/◌, ◌%◌, ◌^◌, ◌<◌, List, slice_index, bit_and, nat_eq, false, refl, sym, ◌∙◌, arith}
use Rattle.std.proofs.lemmas.Nat.{and_mask}
use Rattle.std.proofs.lemmas.Bool.{ne_eqb}
use Rattle.blk_layout.specs.declared.places.Places.{Places}
use Rattle.blk_layout.specs.declared.segment.Segment.{Segment}
use Rattle.blk_layout.specs.declared.request.RawRequest.TheVariants.{Direct, Discard, Indirect}
use Rattle.blk_layout.specs.Entry.{double_at, segments_at, pages_at, read_at}

upper_half : (w : ℕ) → w < 2 ^ 32 → w / 2 ^ 16 % 2 ^ 16 ≡ w / 2 ^ 16
upper_half w fits = omega arith

pub as_discard : (at : Places) (words : List ℕ) (id sector count : ℕ) → slice_index words 0 < 2 ^ 32 → bit_and (slice_index words 0) 255 ≡ 5 → id ≡ double_at words at.id → sector ≡ double_at words at.sector → count ≡ double_at words at.discard_count → Discard (bit_and (slice_index words 0 / 256) 255) (slice_index words 0 / 65536) id sector count ≡ read_at at words
as_discard at words id sector count fits is i s n =
    let w = slice_index words 0 in
    let op : w % 2 ^ 8 ≡ 5 = sym (and_mask w 8) ∙ is in
    rw (and_mask (w / 2 ^ 8) 8, op, upper_half w fits, i, s, n) refl

pub as_indirect : (at : Places) (words : List ℕ) (id sector : ℕ) (pages : List ℕ) → slice_index words 0 < 2 ^ 32 → bit_and (slice_index words 0) 255 ≡ 6 → id ≡ double_at words at.id → sector ≡ double_at words at.sector → pages ≡ pages_at words at.pages 8 → Indirect (bit_and (slice_index words 0 / 256) 255) (slice_index words 0 / 65536) (bit_and (slice_index words at.indirect_device) 65535) id sector pages ≡ read_at at words
as_indirect at words id sector pages fits is i s p =
    let w = slice_index words 0 in
    let op : w % 2 ^ 8 ≡ 6 = sym (and_mask w 8) ∙ is in
    rw (and_mask (w / 2 ^ 8) 8, and_mask (slice_index words at.indirect_device) 16, op, upper_half w fits, i, s, p) refl

pub as_direct : (at : Places) (words : List ℕ) (id sector : ℕ) (segments : List Segment) → slice_index words 0 < 2 ^ 32 → bit_and (slice_index words 0) 255 ≢ 5 → bit_and (slice_index words 0) 255 ≢ 6 → id ≡ double_at words at.id → sector ≡ double_at words at.sector → segments ≡ segments_at words at.segments 11 → Direct (bit_and (slice_index words 0) 255) (bit_and (slice_index words 0 / 256) 255) (slice_index words 0 / 65536) id sector segments ≡ read_at at words
as_direct at words id sector segments fits five six i s p =
    let w = slice_index words 0 in
    let not_five : nat_eq (w % 2 ^ 8) 5 ≡ false = ne_eqb _ _ (λ e. five (and_mask w 8 ∙ e)) in
    let not_six : nat_eq (w % 2 ^ 8) 6 ≡ false = ne_eqb _ _ (λ e. six (and_mask w 8 ∙ e)) in
    rw (and_mask w 8, and_mask (w / 2 ^ 8) 8, not_five, not_six, upper_half w fits, i, s, p) refl
