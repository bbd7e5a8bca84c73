-- A frame that is marked is, and each other is as it was.
use Rattle.std.proofs.Common.{◌≡◌, ◌≢◌, ℕ, ◌*◌, ◌^◌, ◌<◌, ◌||◌, ◌==◌, ◌/◌, ◌%◌, Bool, true, false, length, List, refl, sym, ap, ◌∙◌, arith}
use Rattle.std.specs.Prelude.{slice_index, slice_set}
use Rattle.std.specs.Int.{bit_at}
use Rattle.std.specs.Int.RustNames.{bit_or}
use Rattle.std.proofs.Common.{w64}
use Rattle.std.proofs.lemmas.Bool.{eq-eqb, ne_eqb}
use Rattle.std.proofs.lemmas.Bool.Decides.{nat_tests}
use Rattle.std.proofs.lemmas.Grind.{get_or-set_at}
use Rattle.std.proofs.lemmas.List.{get_or-set_other}
use Rattle.std.proofs.lemmas.Nat.Bits.{bit_at_set_same, bit_at_set_other}
use Rattle.schedule_run.specs.Marks.{is_marked}

module _ (marks : List ℕ) (frame other : ℕ) (all : length marks ≡ 17) (few : frame < 1088) where
  abbrev word : ℕ
  word = slice_index marks (frame / 64)

  abbrev with_bit : ℕ
  with_bit = bit_or word (1 * 2 ^ (frame % 64) % 18446744073709551616)

  abbrev after : List ℕ
  after = slice_set marks (frame / 64) with_bit

  within : frame / 64 < length marks
  within = omega arith

  short : frame % 64 < 64
  short = omega arith

  same_word : other / 64 ≡ frame / 64 → slice_index after (other / 64) ≡ with_bit
  same_word same = get_or-set_at marks (frame / 64) (other / 64) with_bit 0 same within

  by_bit : (b : Bool) → (other % 64 == frame % 64) ≡ b → other / 64 ≡ frame / 64 → is_marked after other ≡ (other == frame || is_marked marks other)
  by_bit true test same =
      let bit : other % 64 ≡ frame % 64 = grind (arith, nat_tests) in
      let whole : other ≡ frame = omega (arith, bit, same) in
      ap (λ x. bit_at x (other % 64) == 1) (same_word same)
      ∙ (ap (λ k. bit_at with_bit k == 1) bit
      ∙ (ap (λ x. x == 1) (bit_at_set_same w64 word (frame % 64) short)
      ∙ sym (ap (λ (b : Bool). b || is_marked marks other) (eq-eqb other frame whole))))
  by_bit false test same =
      let bit : other % 64 ≢ frame % 64 = λ e. absurd (grind (arith, nat_tests)) in
      let apart : other ≢ frame = λ e. bit (ap (λ x. x % 64) e) in
      ap (λ x. bit_at x (other % 64) == 1) (same_word same)
      ∙ (ap (λ x. x == 1) (bit_at_set_other w64 word (frame % 64) short (other % 64) bit)
      ∙ (ap (λ i. bit_at (slice_index marks i) (other % 64) == 1) (sym same)
      ∙ sym (ap (λ (b : Bool). b || is_marked marks other) (ne_eqb other frame apart))))

  by_word : (b : Bool) → (other / 64 == frame / 64) ≡ b → is_marked after other ≡ (other == frame || is_marked marks other)
  by_word true test = by_bit (other % 64 == frame % 64) refl (grind (arith, nat_tests))
  by_word false test =
      let place : other / 64 ≢ frame / 64 = λ e. absurd (grind (arith, nat_tests)) in
      let apart : other ≢ frame = λ e. place (ap (λ x. x / 64) e) in
      ap (λ x. bit_at x (other % 64) == 1) (get_or-set_other marks (frame / 64) (other / 64) with_bit 0 place)
      ∙ sym (ap (λ (b : Bool). b || is_marked marks other) (ne_eqb other frame apart))

  pub marked_so : is_marked after other ≡ (other == frame || is_marked marks other)
  marked_so = by_word (other / 64 == frame / 64) refl
