-- What a read or a write of the front tells: which of them are of an entry, of a producer, or of a grant.
use Rattle.std.proofs.Common.{◌≡◌, ◌≢◌, ℕ, ◌+◌, ◌-◌, ◌*◌, ◌/◌, ◌%◌, ◌^◌, ◌<◌, ◌≤◌, ◌==◌, ◌&&◌, ◌||◌, Bool, true, false, if◌then◌else◌, [], ◌∷◌, ◌++◌, length, refl, sym, ap, subst, arith}
use Rattle.std.specs.Prelude.{Some, None, nat_lt}
use Rattle.std.proofs.lemmas.Bool.Decides.{nat_tests}
use Rattle.blk_base.specs.Distance.{distance_of}
use Rattle.ring_words.specs.Shape.{Shape, entry_words_of}
use Rattle.ring_words.specs.Ring.{next_of}
use Rattle.grant_table.specs.Entry.{is_reading, is_writing}
use Rattle.blk_front.specs.View.{slot_frame, slot_word}
use Rattle.blk_front.specs.Step.{is_mapped}
use Rattle.vbd_laws.specs.Breaks.{FrontSight, is_entry_word, due_of_word, due_of_response, read_on}
use Rattle.vbd_laws.specs.AnswersRead.{is_of_entries}
use Rattle.vbd_laws.proofs.BreaksKept.{beside_entry, entry_beside, far_entry, own_entry, other_entry}

-- a word that isn't the producer
pub far_producer : (f w : ℕ) → 18 ≤ f → ((f == 2) && (w == 0)) ≡ false
far_producer f w far = let e : (f == 2) ≡ false = grind (arith, nat_tests) in ap (λ (b : Bool). b && (w == 0)) e

pub near_producer : (f w : ℕ) → f < 2 → ((f == 2) && (w == 0)) ≡ false
near_producer f w near = let e : (f == 2) ≡ false = grind (arith, nat_tests) in ap (λ (b : Bool). b && (w == 0)) e

pub odd_producer : (f w : ℕ) → ((f == 2) && (w + 1 == 0)) ≡ false
odd_producer f w = by_test (f == 2)
  where
    by_test : (b : Bool) → (b && (w + 1 == 0)) ≡ false
    by_test true = grind (arith, nat_tests)
    by_test false = refl

-- one step further, and none
pub one_further : (p : ℕ) → p < 2 ^ 32 → distance_of p (next_of p) ≡ 1
one_further p small = omega arith

pub none_further : (p : ℕ) → p < 2 ^ 32 → ◌≡◌ {A = ℕ} (distance_of p p) 0
none_further p small = omega arith

-- the first word of a grant's entry
mapped_same : (word : ℕ) → (is_reading word || is_writing word) ≡ is_mapped word
mapped_same word = by_test (is_mapped word) refl
  where
    by_test : (b : Bool) → is_mapped word ≡ b → (is_reading word || is_writing word) ≡ b
    by_test true is = grind (arith, nat_tests)
    by_test false is = grind (arith, nat_tests)

pub grant_due : (s : FrontSight) (gref value : ℕ) → gref < 1024 → due_of_word s (gref / 512) (2 * (gref % 512)) value ≡ (if is_mapped value then Some value else None)
grant_due s gref value few =
    let near : nat_lt (gref / 512) 2 ≡ true = grind (arith, nat_tests) in
    let even : (2 * (gref % 512) % 2 == 0) ≡ true = grind (arith, nat_tests) in
    rw (near, even, mapped_same value) refl

pub grant_beside : (shape : Shape) (k i gref : ℕ) → gref < 1024 → is_entry_word shape k i (gref / 512) (2 * (gref % 512)) ≡ false
grant_beside shape k i gref few = beside_entry shape k i (gref / 512) (2 * (gref % 512)) (omega arith)

pub grant_of_none : (shape : Shape) (gref : ℕ) → gref < 1024 → is_of_entries shape (gref / 512) (2 * (gref % 512)) ≡ false
grant_of_none shape gref few =
    let near : nat_lt 1 (gref / 512) ≡ false = grind (arith, nat_tests) in
    ap (λ (b : Bool). b && nat_lt (gref / 512) (2 + 2 ^ shape.order) && nat_lt 15 (1024 * (gref / 512 - 2) + 2 * (gref % 512))) near

-- a word of the pool's frames
pub pool_due : (s : FrontSight) (f w value : ℕ) → s.shape.order ≤ 4 → 2 < entry_words_of s.shape.abi → 18 ≤ f → due_of_word s f w value ≡ None
pool_due s f w value few within far =
    let past : nat_lt f 2 ≡ false = grind (arith, nat_tests) in
    let other : ((f == 2) && (w == 2)) ≡ false = (let e : (f == 2) ≡ false = grind (arith, nat_tests) in ap (λ (b : Bool). b && (w == 2)) e) in
    rw (past, other, far_entry s.shape s.cons 2 f w few within far) refl

-- a word of the response at the front's consumer
slot_past : (shape : Shape) (k i : ℕ) → nat_lt (slot_frame shape k i) 2 ≡ false
slot_past shape k i = grind (arith, nat_tests)

pub slot_due : (s : FrontSight) (j value : ℕ) → 2 ≢ j → due_of_word s (slot_frame s.shape s.cons j) (slot_word s.shape s.cons j) value ≡ None
slot_due s j value other =
    rw (slot_past s.shape s.cons j, entry_beside s.shape s.cons j 2 2 (omega arith), other_entry s.shape s.cons 2 j other) refl

pub last_due : (s : FrontSight) (value : ℕ) → due_of_word s (slot_frame s.shape s.cons 2) (slot_word s.shape s.cons 2) value ≡ due_of_response s.issued s.response value
last_due s value =
    rw (slot_past s.shape s.cons 2, entry_beside s.shape s.cons 2 2 2 (omega arith), own_entry s.shape s.cons 2) refl

-- the words of it that were read are one more
pub slot_read : (s : FrontSight) (j value : ℕ) → length s.response ≡ j → (let x : FrontSight = read_on s (slot_frame s.shape s.cons j) (slot_word s.shape s.cons j) value in x.response) ≡ s.response ++ value ∷ []
slot_read s j value long =
    let own : is_entry_word s.shape s.cons (length s.response) (slot_frame s.shape s.cons j) (slot_word s.shape s.cons j) ≡ true =
    subst (λ (i : ℕ). is_entry_word s.shape s.cons i (slot_frame s.shape s.cons j) (slot_word s.shape s.cons j) ≡ true) (sym long) (own_entry s.shape s.cons j) in
    ap (λ (b : Bool). if b then s.response ++ value ∷ [] else s.response) own
