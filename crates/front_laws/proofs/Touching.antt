-- Which words are right: of a grant's entry, of data, of the indices, of an entry and of a response.
use Rattle.std.proofs.Common.{◌≡◌, ◌≢◌, ℕ, ◌+◌, ◌/◌, ◌%◌, ◌<◌, ◌≤◌, true, false, length, refl, sym, ap, ◌∙◌, subst, arith}
use Rattle.std.specs.Prelude.{nat_lt}
use Rattle.std.proofs.lemmas.Bool.{false≢true}
use Rattle.std.proofs.lemmas.Bool.Decides.{nat_tests}
use Rattle.blk_base.specs.declared.ask.FrontAsk.{FrontAsk}
use Rattle.blk_base.specs.declared.ask.FrontAsk.TheVariants.{Read, Write, Cas}
use Rattle.ring_words.specs.Shape.{Shape, entry_words_of, ring_word_of}
use Rattle.blk_front.specs.Request.{frame_at}
use Rattle.blk_front.specs.View.{View, entry_frame, entry_word, slot_frame, slot_word}
use Rattle.blk_front.specs.Ask.{response_ask, StaysInMemory}
use Rattle.blk_front.proofs.Shapes.{wide_entries}
use Rattle.front_laws.specs.Sight.{Sight, is_of_data, is_of_indices}
use Rattle.front_laws.specs.Touches.{reference_at, IsSlot, IsPush, IsRight}
use Rattle.front_laws.proofs.Places.{IsPooled, pooled_at, grants_at, data_near, data_far, slot_to, slot_near, slot_far, slot_past}
use Rattle.front_laws.proofs.Known.{core_of, share_of, hand_of, Agree, IsTelling}

abbrev pub Touches : Sight → FrontAsk → Type 0
Touches s ask = StaysInMemory ask × IsRight s ask

-- the entry of a frame's grant
few_frame : (f : ℕ) → f < 1018 → (entry_frame f < 1018) × (entry_word f + 1 < 1024)
few_frame f few = (omega arith, omega arith)

reference_is : (f : ℕ) → reference_at (entry_frame f) (entry_word f) ≡ f + 6
reference_is f = omega arith

odd_reference : (f : ℕ) → reference_at (entry_frame f) (entry_word f + 1) ≡ f + 6
odd_reference f = omega arith

even_word : (f : ℕ) → entry_word f % 2 ≢ 1
even_word f = λ e. omega arith

few_entry : (f : ℕ) → f < 1018 → entry_frame f < 2
few_entry f few = omega arith

module _ (s : Sight) where
  pub grants_write : (f value : ℕ) → 2 ≤ f → f < 1018 → Touches s (Write (entry_frame f) (entry_word f) value)
  grants_write f value some few = (
    (let at = few_frame f few in (at.0, (let lt = at.1 in omega arith))),
    record {
      entry = λ e. absurd (false≢true (sym e ∙ grants_at f few));
      own = λ e. let is = reference_is f in omega arith;
      named = λ e odd. absurd (even_word f odd);
      pushes = λ e. absurd (let near : entry_frame f < 2 = few_entry f few in omega arith);
    },
  )

  pub grants_name : (f : ℕ) → 2 ≤ f → f < 1018 → Touches s (Write (entry_frame f) (entry_word f + 1) f)
  grants_name f some few = (
    few_frame f few,
    record {
      entry = λ e. absurd (false≢true (sym e ∙ grants_at f few));
      own = λ e. let is = odd_reference f in omega arith;
      named = λ e odd. sym (odd_reference f);
      pushes = λ e. absurd (let near : entry_frame f < 2 = few_entry f few in omega arith);
    },
  )

  pub grants_read : (f : ℕ) → f < 1018 → Touches s (Read (entry_frame f) (entry_word f))
  grants_read f few = (
    (let at = few_frame f few in (at.0, (let lt = at.1 in omega arith))),
    record {
      response = λ e. absurd (false≢true (sym e ∙ grants_at f few));
      told = λ e. absurd (false≢true (sym (not_data f few) ∙ e));
    },
  )
    where
      not_data : (f : ℕ) → f < 1018 → is_of_data (entry_frame f) ≡ false
      not_data f few = let near : (f + 6) / 512 < 2 = omega arith in grind (arith, nat_tests)

  pub grants_end : (f old : ℕ) → 2 ≤ f → f < 1018 → Touches s (Cas (entry_frame f) (entry_word f) old 0)
  grants_end f old some few = (
    (let at = few_frame f few in (at.0, (let lt = at.1 in omega arith))),
    record { grants = grants_at f few; own = (let is = reference_is f in omega arith); ends = refl },
  )

  pub data_write : (f w value : ℕ) → IsPooled f → w < 1024 → Touches s (Write f w value)
  data_write f w value its lt = (
    (its.1, lt),
    record {
      entry = λ e d. absurd (false≢true (sym d ∙ data_far f its.0));
      own = λ e. absurd (false≢true (sym (data_near f its.0) ∙ e));
      named = λ e. absurd (false≢true (sym (data_near f its.0) ∙ e));
      pushes = λ e. absurd (let far = its.0 in omega arith);
    },
  )

  pub index_write : (k value : ℕ) → k < 16 → (k ≡ 0 → value ≢ s.prod → IsPush s value) → Touches s (Write 2 k value)
  index_write k value few pushes = (
    (omega arith, omega arith),
    record {
      entry = λ e d i. absurd (let within : nat_lt k 16 ≡ true = grind (arith, nat_tests) in false≢true (sym i ∙ within));
      own = λ e. absurd (false≢true e);
      named = λ e. absurd (false≢true e);
      pushes = λ e. pushes;
    },
  )

  pub index_read : (k : ℕ) → k < 16 → Touches s (Read 2 k)
  index_read k few = (
    (omega arith, omega arith),
    record {
      response = λ e d i. absurd (let within : nat_lt k 16 ≡ true = grind (arith, nat_tests) in false≢true (sym i ∙ within));
      told = λ e. absurd (false≢true e);
    },
  )

pub slot_word_to : (r : ℕ) → r % 1024 < 1024
slot_word_to r = omega arith

module _ (s : Sight) (v : View) (agree : Agree (core_of s) (share_of v)) where
  in_slot : (k i : ℕ) → i < entry_words_of v.shape.abi → (slot_frame v.shape k i < 1018) × (slot_word v.shape k i < 1024)
  in_slot k i within = ((let to = slot_to v.shape k i agree.few within in omega arith), slot_word_to (ring_word_of v.shape k i))

  pub slot_write : (i value : ℕ) → i < entry_words_of v.shape.abi → length s.entry ≡ i → Touches s (Write (slot_frame v.shape v.ring.indices.prod i) (slot_word v.shape v.ring.indices.prod i) value)
  slot_write i value within long = (
    in_slot v.ring.indices.prod i within,
    record {
      entry = λ e d x. as_said;
      own = λ e. absurd (false≢true (sym (slot_near v.shape v.ring.indices.prod i) ∙ e));
      named = λ e. absurd (false≢true (sym (slot_near v.shape v.ring.indices.prod i) ∙ e));
      pushes = λ e w. absurd (false≢true (sym (slot_past v.shape v.ring.indices.prod i) ∙ (ap (λ (f : ℕ). is_of_indices f (slot_word v.shape v.ring.indices.prod i)) e ∙ ap (λ (j : ℕ). is_of_indices 2 j) w)));
    },
  )
    where
      as_said : IsSlot s s.prod (length s.entry) (slot_frame v.shape v.ring.indices.prod i) (slot_word v.shape v.ring.indices.prod i)
      as_said =
          subst (λ (shape : Shape). IsSlot s s.prod (length s.entry) (slot_frame shape v.ring.indices.prod i) (slot_word shape v.ring.indices.prod i)) agree.shape
          (subst (λ (k : ℕ). IsSlot s s.prod (length s.entry) (slot_frame s.shape k i) (slot_word s.shape k i)) agree.prod
          (subst (λ (j : ℕ). IsSlot s s.prod (length s.entry) (slot_frame s.shape s.prod j) (slot_word s.shape s.prod j)) long (record { frame_is = refl; word_is = refl })))

  pub slot_read : (i : ℕ) → i < 3 → length s.response ≡ i → Touches s (response_ask v i)
  slot_read i few long = (
    in_slot v.ring.indices.cons i within,
    record {
      response = λ e d x. as_said;
      told = λ e. absurd (false≢true (sym (slot_far v.shape v.ring.indices.cons i agree.few within) ∙ e));
    },
  )
    where
      within : i < entry_words_of v.shape.abi
      within = let wide = wide_entries v.shape.abi in omega arith

      as_said : IsSlot s s.cons (length s.response) (slot_frame v.shape v.ring.indices.cons i) (slot_word v.shape v.ring.indices.cons i)
      as_said =
          subst (λ (shape : Shape). IsSlot s s.cons (length s.response) (slot_frame shape v.ring.indices.cons i) (slot_word shape v.ring.indices.cons i)) agree.shape
          (subst (λ (k : ℕ). IsSlot s s.cons (length s.response) (slot_frame s.shape k i) (slot_word s.shape k i)) agree.cons
          (subst (λ (j : ℕ). IsSlot s s.cons (length s.response) (slot_frame s.shape s.cons j) (slot_word s.shape s.cons j)) long (record { frame_is = refl; word_is = refl })))

  -- a word of data is the next one
  pub data_read : (n : ℕ) (k : IsTelling (hand_of s) v.words v.ending n) → Touches s (Read (frame_at k.e.request (n / 1024)) (n % 1024))
  data_read n k =
      let its = pooled_at k.e.request k.pooled (n / 1024) in (
        (its.1, slot_word_to n),
        record {
          response = λ e d. absurd (false≢true (sym d ∙ data_far (frame_at k.e.request (n / 1024)) its.0));
          told = λ e. record { request = k.e.request; telling = k.telling; frame_is = ap (λ (m : ℕ). frame_at k.e.request (m / 1024)) k.at; word_is = ap (λ (m : ℕ). m % 1024) k.at };
        },
      )
