-- Where the words of the ring's entries lie: in the frames of its pages, after the words that both ends share, each at a place of its own.
use Rattle.std.proofs.Common.{◌≡◌, ◌≢◌, ℕ, zero, suc, ◌+◌, ◌*◌, ◌/◌, ◌%◌, ◌^◌, ◌<◌, ◌≤◌, ◌⊎◌, inl, inr, List, length, refl, sym, subst, arith, get_or-set_other}
use Rattle.std.proofs.lemmas.Bool.{cases_eq}
use Rattle.std.proofs.lemmas.Grind.{get_or-set_at}
use Rattle.std.proofs.lemmas.Nat.{mod_below, pow_pos}
use Rattle.std.proofs.Math.Nat.{pow-le-pow_right}
use Rattle.blk_base.specs.declared.operation.Abi.{Abi}
use Rattle.blk_base.specs.declared.operation.Abi.TheVariants.{X64, X32}
use Rattle.ring_words.specs.Shape.{Shape, entries_of, entry_words_of, ring_word_of}
use Rattle.xen_pages.specs.Pages.{word_of, with_word}
use Rattle.blk_front.specs.View.{slot_frame, slot_word}
use Rattle.machine_pipeline.proofs.Flow.{wrapped}
use Rattle.machine_pipeline.proofs.Holds.{slot_of}

-- a ring has 1 to 16 pages, and 32 to 512 entries
pub few_pages : (order : ℕ) → order ≤ 4 → 2 ^ order ≤ 16
few_pages order narrow = let few : 2 ^ order ≤ 2 ^ 4 = pow-le-pow_right (omega arith) narrow in omega arith

pub some_pages : (order : ℕ) → 0 < 2 ^ order
some_pages order = pow_pos order

pub few_entries : (order : ℕ) → order ≤ 4 → entries_of order ≤ 512
few_entries order narrow = let few = few_pages order narrow in omega arith

pub some_entries : (order : ℕ) → 32 ≤ entries_of order
some_entries order = let some = some_pages order in omega arith

-- the longest entry is that of the x86_64 layout
pub entry_few : (abi : Abi) → entry_words_of abi ≤ entry_words_of X64
entry_few X64 = omega arith
entry_few X32 = omega arith

pub more_words : (abi : Abi) → 1 < entry_words_of abi
more_words X64 = omega arith
more_words X32 = omega arith

pub some_words : (abi : Abi) → 0 < entry_words_of abi
some_words abi = omega (arith, more_words abi)

pub response_fits : (abi : Abi) (i : ℕ) → i < 3 → i < entry_words_of abi
response_fits X64 i few = omega arith
response_fits X32 i few = omega arith

-- indices that are less than a ring apart have entries of their own
turns_apart : (order start m n : ℕ) → order ≤ 4 → m < n → n < m + entries_of order → wrapped start m % entries_of order ≢ wrapped start n % entries_of order
turns_apart zero start m n narrow up near = λ same. omega arith
turns_apart (suc zero) start m n narrow up near = λ same. omega arith
turns_apart (suc (suc zero)) start m n narrow up near = λ same. omega arith
turns_apart (suc (suc (suc zero))) start m n narrow up near = λ same. omega arith
turns_apart (suc (suc (suc (suc zero)))) start m n narrow up near = λ same. omega arith
turns_apart (suc (suc (suc (suc (suc order))))) start m n narrow up near = absurd (omega arith)

words_apart : (abi : Abi) (a b i j : ℕ) → a ≢ b → i < entry_words_of abi → j < entry_words_of abi → 16 + a * entry_words_of abi + i ≢ 16 + b * entry_words_of abi + j
words_apart X64 a b i j apart first second = λ same. apart (omega arith)
words_apart X32 a b i j apart first second = λ same. apart (omega arith)

pub slots_apart : (s : Shape) (start m n i j : ℕ) → s.order ≤ 4 → m < n → n < m + entries_of s.order → i < entry_words_of s.abi → j < entry_words_of s.abi
    → ring_word_of s (wrapped start m) i ≢ ring_word_of s (wrapped start n) j
slots_apart s start m n i j narrow up near first second =
    words_apart s.abi (wrapped start m % entries_of s.order) (wrapped start n % entries_of s.order) i j (turns_apart s.order start m n narrow up near) first second

-- so have the words of one entry
pub same_slot : (s : Shape) (k i j : ℕ) → i ≢ j → ring_word_of s k i ≢ ring_word_of s k j
same_slot s k i j apart = λ same. apart (omega arith)

-- the place of a word among all words
place_at : (r : ℕ) → (2 + r / 1024) * 1024 + r % 1024 ≡ 2048 + r
place_at r = omega arith

pub slot_at : (s : Shape) (k i : ℕ) → slot_frame s k i * 1024 + slot_word s k i ≡ 2048 + ring_word_of s k i
slot_at s k i = place_at (ring_word_of s k i)

below : (abi : Abi) (entry i : ℕ) → entry < 512 → i < entry_words_of abi → 16 + entry * entry_words_of abi + i < 16384
below X64 entry i few within = omega arith
below X32 entry i few within = omega arith

pub ring_word_to : (s : Shape) (k i : ℕ) → s.order ≤ 4 → i < entry_words_of s.abi → ring_word_of s k i < 16384
ring_word_to s k i narrow within =
    let few = few_entries s.order narrow in
    let entry : k % entries_of s.order < entries_of s.order = mod_below k (entries_of s.order) (omega (arith, some_entries s.order)) in
    below s.abi (k % entries_of s.order) i (omega (arith, some_entries s.order)) within

pub slot_frame_from : (s : Shape) (k i : ℕ) → 2 ≤ slot_frame s k i
slot_frame_from s k i = omega arith

frame_to : (r : ℕ) → r < 16384 → 2 + r / 1024 < 18
frame_to r few = omega arith

pub slot_frame_to : (s : Shape) (k i : ℕ) → s.order ≤ 4 → i < entry_words_of s.abi → slot_frame s k i < 18
slot_frame_to s k i narrow within = frame_to (ring_word_of s k i) (ring_word_to s k i narrow within)

word_to : (r : ℕ) → r % 1024 < 1024
word_to r = omega arith

pub slot_to : (s : Shape) (k i : ℕ) → slot_word s k i < 1024
slot_to s k i = word_to (ring_word_of s k i)

-- after the 16 words of the ring's first frame that come before the entries
pub slot_from : (s : Shape) (k i : ℕ) → 2064 ≤ slot_frame s k i * 1024 + slot_word s k i
slot_from s k i = let at = slot_at s k i in omega arith

-- each word of the ring's entries is as it was
abbrev pub SameSlots : (old new : List ℕ) → Type 0
SameSlots old new = (f w : ℕ) → 2 ≤ f → f < 18 → w < 1024 → 2064 ≤ f * 1024 + w → word_of new f w ≡ word_of old f w

-- where other frames are as they were, and the ring's first one after the words before its entries
pub slots_beside : (old new : List ℕ) → ((f : ℕ) → f ≢ 2 → (w : ℕ) → w < 1024 → word_of new f w ≡ word_of old f w) → ((w : ℕ) → 16 ≤ w → w < 1024 → word_of new 2 w ≡ word_of old 2 w) → SameSlots old new
slots_beside old new others first f w from to within past = elim (cases_eq f 2) [
  | inl is ↦ subst (λ (n : ℕ). word_of new n w ≡ word_of old n w) (sym is) (first w (omega arith) within)
  | inr apart ↦ others f apart w within
]

pub same_slots : (old new : List ℕ) → ((f w : ℕ) → 2 ≤ f → f < 18 → w < 1024 → word_of new f w ≡ word_of old f w) → SameSlots old new
same_slots old new same f w from to within past = same f w from to within

pub slot_kept : (s : Shape) (k i : ℕ) (old new : List ℕ) → s.order ≤ 4 → i < entry_words_of s.abi → SameSlots old new → slot_of new s k i ≡ slot_of old s k i
slot_kept s k i old new narrow within same = same (slot_frame s k i) (slot_word s k i) (slot_frame_from s k i) (slot_frame_to s k i narrow within) (slot_to s k i) (slot_from s k i)

-- a word of the ring's first frame before its entries is written
pub index_written : (pages : List ℕ) (word value : ℕ) → word < 16 → SameSlots pages (with_word pages 2 word value)
index_written pages word value few f w from to within past = get_or-set_other pages (2 * 1024 + word) (f * 1024 + w) value 0 (omega arith)

-- a word of another frame is
pub beside_written : (pages : List ℕ) (frame word value : ℕ) → word < 1024 → (frame < 2) ⊎ (18 ≤ frame) → SameSlots pages (with_word pages frame word value)
beside_written pages frame word value within (inl before) f w from to inside past = get_or-set_other pages (frame * 1024 + word) (f * 1024 + w) value 0 (omega arith)
beside_written pages frame word value within (inr past) f w from to inside here = get_or-set_other pages (frame * 1024 + word) (f * 1024 + w) value 0 (omega arith)

-- the memory once word i of the entry of index k is written
abbrev pub with_slot : List ℕ → Shape → (k i value : ℕ) → List ℕ
with_slot pages s k i value = with_word pages (slot_frame s k i) (slot_word s k i) value

pub slot_written : (pages : List ℕ) (s : Shape) (k i value : ℕ) → length pages ≡ 1114112 → s.order ≤ 4 → i < entry_words_of s.abi → slot_of (with_slot pages s k i value) s k i ≡ value
slot_written pages s k i value sized narrow within =
    let few = ring_word_to s k i narrow within in
    get_or-set_at pages (slot_frame s k i * 1024 + slot_word s k i) (slot_frame s k i * 1024 + slot_word s k i) value 0 refl (omega (arith, slot_at s k i))

pub other_slot : (pages : List ℕ) (s : Shape) (k i value n j : ℕ) → ring_word_of s k i ≢ ring_word_of s n j → slot_of (with_slot pages s k i value) s n j ≡ slot_of pages s n j
other_slot pages s k i value n j apart =
    let at = slot_at s k i in
    let there = slot_at s n j in
    get_or-set_other pages (slot_frame s k i * 1024 + slot_word s k i) (slot_frame s n j * 1024 + slot_word s n j) value 0 (λ same. apart (omega arith))

-- the 16 words before the entries, and the frames that aren't the ring's, are as they were
pub indices_beside : (pages : List ℕ) (s : Shape) (k i value w : ℕ) → w < 16 → word_of (with_slot pages s k i value) 2 w ≡ word_of pages 2 w
indices_beside pages s k i value w few =
    get_or-set_other pages (slot_frame s k i * 1024 + slot_word s k i) (2 * 1024 + w) value 0 (λ same. omega (arith, slot_from s k i))

pub frames_beside : (pages : List ℕ) (s : Shape) (k i value f : ℕ) → s.order ≤ 4 → i < entry_words_of s.abi → (f < 2) ⊎ (18 ≤ f) → (w : ℕ) → w < 1024 → word_of (with_slot pages s k i value) f w ≡ word_of pages f w
frames_beside pages s k i value f narrow within (inl before) w few =
    get_or-set_other pages (slot_frame s k i * 1024 + slot_word s k i) (f * 1024 + w) value 0 (λ same. omega (arith, slot_from s k i))
frames_beside pages s k i value f narrow within (inr past) w few =
    let to = ring_word_to s k i narrow within in
    get_or-set_other pages (slot_frame s k i * 1024 + slot_word s k i) (f * 1024 + w) value 0 (λ same. omega (arith, slot_at s k i))
