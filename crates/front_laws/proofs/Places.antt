-- Which frames hold grants, data, the indices of the ring and its entries.
use Rattle.std.proofs.Common.{◌≡◌, ℕ, ◌+◌, ◌*◌, ◌/◌, ◌%◌, ◌<◌, ◌≤◌, inl, inr, true, false, length, arith}
use Rattle.std.specs.Prelude.{All}
use Rattle.std.proofs.lemmas.Bool.{cases_lt}
use Rattle.std.proofs.lemmas.Bool.Decides.{nat_tests}
use Rattle.std.proofs.lemmas.List.{get_or_past}
use Rattle.std.proofs.lemmas.Nat.{mod_below, pow_pos}
use Rattle.blk_base.specs.declared.operation.Abi.{Abi}
use Rattle.blk_base.specs.declared.operation.Abi.TheVariants.{X64, X32}
use Rattle.ring_words.specs.Shape.{Shape, entries_of, entry_words_of, ring_word_of}
use Rattle.blk_front.specs.declared.request.Request.{Request}
use Rattle.blk_front.specs.Request.{frame_at}
use Rattle.blk_front.specs.View.{slot_frame, slot_word, entry_frame}
use Rattle.blk_front.proofs.Shapes.{few_pages}
use Rattle.front_laws.specs.Sight.{is_of_grants, is_of_data, is_of_indices}

-- a frame of the pool
abbrev pub IsPooled : ℕ → Type 0
IsPooled f = (18 ≤ f) × (f < 1018)

pub pooled_at : (r : Request) → All IsPooled r.frames.items → (place : ℕ) → IsPooled (frame_at r place)
pooled_at r all place = elim (cases_lt place (length r.frames.items)) [
  | inl within ↦ all place 18 within
  | inr past ↦ rw (get_or_past r.frames.items place 18 past) (omega arith, omega arith)
]

pub grants_at : (f : ℕ) → f < 1018 → is_of_grants (entry_frame f) ≡ true
grants_at f few = let near : (f + 6) / 512 < 2 = omega arith in grind (arith, nat_tests)

pub data_near : (f : ℕ) → 18 ≤ f → is_of_grants f ≡ false
data_near f far = grind (arith, nat_tests)

pub data_far : (f : ℕ) → 18 ≤ f → is_of_data f ≡ true
data_far f far = grind (arith, nat_tests)

below : (abi : Abi) (entry i : ℕ) → entry < 512 → i < entry_words_of abi → 16 + entry * entry_words_of abi + i < 16384
below X64 entry i few within = omega arith
below X32 entry i few within = omega arith

pub ring_word_to : (s : Shape) (k i : ℕ) → s.order ≤ 4 → i < entry_words_of s.abi → ring_word_of s k i < 16384
ring_word_to s k i narrow within =
    let few = few_pages s.order narrow in
    let some = pow_pos s.order in
    let entry : k % entries_of s.order < entries_of s.order = mod_below k (entries_of s.order) (omega arith) in
    below s.abi (k % entries_of s.order) i (omega arith) within

frame_to : (r : ℕ) → r < 16384 → 2 + r / 1024 < 18
frame_to r few = omega arith

pub slot_to : (s : Shape) (k i : ℕ) → s.order ≤ 4 → i < entry_words_of s.abi → slot_frame s k i < 18
slot_to s k i narrow within = frame_to (ring_word_of s k i) (ring_word_to s k i narrow within)

pub slot_near : (s : Shape) (k i : ℕ) → is_of_grants (slot_frame s k i) ≡ false
slot_near s k i = grind (arith, nat_tests)

pub slot_far : (s : Shape) (k i : ℕ) → s.order ≤ 4 → i < entry_words_of s.abi → is_of_data (slot_frame s k i) ≡ false
slot_far s k i narrow within = let to = slot_to s k i narrow within in grind (arith, nat_tests)

past_indices : (r : ℕ) → 16 ≤ r → is_of_indices (2 + r / 1024) (r % 1024) ≡ false
past_indices r past = grind (arith, nat_tests)

pub slot_past : (s : Shape) (k i : ℕ) → is_of_indices (slot_frame s k i) (slot_word s k i) ≡ false
slot_past s k i = past_indices (ring_word_of s k i) (omega arith)
