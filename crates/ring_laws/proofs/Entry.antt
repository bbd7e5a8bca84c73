-- A word of an entry that is fetched is the next one.
use Rattle.std.proofs.Common.{◌≡◌, ℕ, zero, suc, ◌+◌, ◌*◌, ◌/◌, ◌%◌, ◌^◌, ◌<◌, ◌≤◌, List, length, refl, ap, sym, ◌∙◌, subst, arith}
use Rattle.std.specs.Prelude.{Option, Some, None, IfSome, IsSomeAnd}
use Rattle.std.proofs.lemmas.Nat.{pow_pos}
use Rattle.std.proofs.lemmas.List.{length-map}
use Rattle.blk_base.specs.declared.operation.Abi.{Abi}
use Rattle.blk_base.specs.declared.parts.Mapping.{Mapping}
use Rattle.blk_base.specs.declared.moves.BackMover.TheVariants as back
use Rattle.blk_base.specs.declared.moves.Move.TheVariants as moves
use Rattle.ring_words.specs.Ring.{requests_of}
use Rattle.ring_words.specs.Shape.{Shape, entries_of, entry_words_of, ring_word_of, slot_word_of}
use Rattle.schedule_text.specs.declared.line.Line.{Line}
use Rattle.schedule_text.specs.declared.line.Line.TheVariants as lines
use Rattle.report_rules.specs.declared.standing.Standing.{Standing}
use Rattle.report_rules.specs.Ring.{order_of, shape_of, ring_shape, ring_order, replied_before, produced_before}
use Rattle.report_rules.specs.Stretch.{entry_word_read, entries_read, next_index, words_within, IsNextWord, IsStretchAt}
use Rattle.blk_back.proofs.Slots.{slot_within}
use Rattle.blk_back.specs.View.{View, page_of, slot_page, slot_word}
use Rattle.ring_laws.proofs.Pages.{number_told, number_of, page_found}
use Rattle.ring_laws.proofs.Shows.{Sight, Shows}
use Rattle.ring_laws.proofs.Touches.{IsPage, high_word}
use Rattle.ring_laws.proofs.ObeysRing.{word_inside}
use Rattle.ring_laws.proofs.Knows.{Serves}
use Rattle.ring_laws.proofs.EntryWords.{words_read, AreCounted, counts_are}

-- the pages that the back may touch
pub page_is : (k place : ℕ) (x : Sight) (v : View) → Serves k x v → place < 2 ^ v.shape.order → (let page : Mapping = page_of v place in IsPage page.number place x)
page_is k place x v s within = let all = s.all in record { found = page_found 0 place x.pages v.pages s.mapped.same s.mapped.apart (omega arith) ∙ ap (λ (n : ℕ). Some n) (plain place); touched = s.touched }
  where
    plain : (n : ℕ) → 0 + n ≡ n
    plain n = omega arith

pub first_is : (k : ℕ) (x : Sight) (v : View) → Serves k x v → (let page : Mapping = page_of v 0 in IsPage page.number 0 x)
first_is k x v s = page_is k 0 x v s (pow_pos v.shape.order)

pub slot_is : (k index i : ℕ) (x : Sight) (v : View) → Serves k x v → i < entry_words_of v.shape.abi → (let page : Mapping = slot_page v index i in IsPage page.number (slot_word_of v.shape index i).0 x)
slot_is k index i x v s within = page_is k (slot_word_of v.shape index i).0 x v s (slot_within v.shape index i within)

-- and their words
pub slot_at : (s : Shape) (index i : ℕ) → 1024 * (slot_word_of s index i).0 + slot_word s index i ≡ ring_word_of s index i
slot_at s index i = joined (ring_word_of s index i)
  where
    joined : (n : ℕ) → 1024 * (n / 1024) + n % 1024 ≡ n
    joined n = omega arith

pub high_slot : (s : Shape) (index i : ℕ) → 16 ≤ 1024 * (slot_word_of s index i).0 + slot_word s index i
high_slot s index i = let at = slot_at s index i in omega arith

pub low_slot : (s : Shape) (index i : ℕ) → slot_word s index i < 1024
low_slot s index i = below (ring_word_of s index i)
  where
    below : (n : ℕ) → n % 1024 < 1024
    below n = omega arith

-- the ring has the shape that the back knows
of_pages : (order : ℕ) → order ≤ 4 → order_of (2 ^ order) ≡ Some order
of_pages zero narrow = refl
of_pages (suc zero) narrow = refl
of_pages (suc (suc zero)) narrow = refl
of_pages (suc (suc (suc zero))) narrow = refl
of_pages (suc (suc (suc (suc zero)))) narrow = refl
of_pages (suc (suc (suc (suc (suc n))))) narrow = absurd (omega arith)

pub order_is : (before : List Line) (k : ℕ) (x : Sight) (v : View) → Shows before x → Serves k x v → ring_order before ≡ Some v.shape.order
order_is before k x v shows s =
    let many : length x.pages ≡ 2 ^ v.shape.order = sym (length-map x.pages number_told) ∙ (ap (λ (ns : List ℕ). length ns) s.mapped.same ∙ (length-map v.pages number_of ∙ s.all)) in
    ap (λ (pages : List Standing). order_of (length pages)) shows.pages ∙ (ap order_of many ∙ of_pages v.shape.order s.narrow)

pub shape_is : (before : List Line) (k : ℕ) (x : Sight) (v : View) → Shows before x → Serves k x v → ring_shape before ≡ Some v.shape
shape_is before k x v shows s =
    ap (λ (abi : Option Abi). shape_of abi (ring_order before)) (shows.abi ∙ s.layout) ∙ ap (λ (o : Option ℕ). shape_of (Some v.shape.abi) o) (order_is before k x v shows s)

-- so many entries were read, and so many words of the next one
counts_of : (before : List Line) (k : ℕ) (x : Sight) (v : View) (s : Serves k x v) → Shows before x → (entries_read before ≡ s.count) × (words_within before ≡ k)
counts_of before k x v s shows =
    counts_are v.shape.abi (words_read before) (entries_read before) (words_within before) s.count k
    (subst (λ (abi : Option Abi). AreCounted abi (words_read before) (entries_read before) (words_within before)) (shows.abi ∙ s.layout) shows.counted.counts) (shows.words ∙ s.words) s.within

-- the index of the entry is the back's consumer
next_is : (before : List Line) (k : ℕ) (x : Sight) (v : View) → Serves k x v → Shows before x → x.start < 2 ^ 32 → next_index before ≡ v.ring.indices.cons
next_is before k x v s shows small =
    ap (λ (n : ℕ). (n + entries_read before) % 2 ^ 32) shows.start ∙ (ap (λ (n : ℕ). (x.start + n) % 2 ^ 32) (counts_of before k x v s shows).0 ∙ sym (s.consumed small))

pub entry_stretch : (before : List Line) (frame k value : ℕ) (x : Sight) (v : View) → Serves k x v → Shows before x → (k ≡ 0 → 0 < requests_of v.ring.indices v.ring.seen) → x.start < 2 ^ 32
    → (let page : Mapping = slot_page v v.ring.indices.cons k in IsStretchAt before (lines.Move (moves.Read back.Back page.number frame (slot_word v.shape v.ring.indices.cons k) value)))
entry_stretch before frame k value x v s shows more small = record {
  next = subst (λ (w : Option ℕ). IfSome w (λ word. IsSomeAnd (ring_shape before) (IsNextWord before word))) (sym read)
      (subst (λ (o : Option Shape). IsSomeAnd o (IsNextWord before at)) (sym (shape_is before k x v shows s)) next_word);
  whole = λ own none. absurd (no_both none);
  inside = word_inside before page.number (slot_word v.shape v.ring.indices.cons k) (low_slot v.shape v.ring.indices.cons k);
}
  where
    page : Mapping
    page = slot_page v v.ring.indices.cons k

    at : ℕ
    at = 1024 * (slot_word_of v.shape v.ring.indices.cons k).0 + slot_word v.shape v.ring.indices.cons k

    read : entry_word_read before (lines.Move (moves.Read back.Back page.number frame (slot_word v.shape v.ring.indices.cons k) value)) ≡ Some at
    read = high_word before x page.number (slot_word_of v.shape v.ring.indices.cons k).0 frame (slot_word v.shape v.ring.indices.cons k) value (high_slot v.shape v.ring.indices.cons k) shows (slot_is k v.ring.indices.cons k x v s s.within)

    no_both : entry_word_read before (lines.Move (moves.Read back.Back page.number frame (slot_word v.shape v.ring.indices.cons k) value)) ≡ None → ⊥
    no_both none = let some = read in cc

    index : next_index before ≡ v.ring.indices.cons
    index = next_is before k x v s shows small

    rest : words_within before ≡ k
    rest = (counts_of before k x v s shows).1

    asked : requests_of (record { entries = entries_of v.shape.order; prod = replied_before before; cons = next_index before }) (produced_before before) ≡ requests_of v.ring.indices v.ring.seen
    asked =
        ap (λ (n : ℕ). requests_of (record { entries = entries_of v.shape.order; prod = n; cons = next_index before }) (produced_before before)) (shows.replied ∙ s.replied)
        ∙ (ap (λ (n : ℕ). requests_of (record { entries = entries_of v.shape.order; prod = v.ring.indices.prod; cons = n }) (produced_before before)) index
        ∙ (ap (λ (n : ℕ). requests_of (record { entries = entries_of v.shape.order; prod = v.ring.indices.prod; cons = v.ring.indices.cons }) n) (shows.produced ∙ s.produced)
        ∙ ap (λ (n : ℕ). requests_of (record { entries = n; prod = v.ring.indices.prod; cons = v.ring.indices.cons }) v.ring.seen) (sym s.entries)))

    next_word : IsNextWord before at v.shape
    next_word = record {
      place = slot_at v.shape v.ring.indices.cons k ∙ (ap (λ (n : ℕ). ring_word_of v.shape n k) (sym index) ∙ ap (λ (n : ℕ). ring_word_of v.shape (next_index before) n) (sym rest));
      unconsumed = λ none. subst (λ (n : ℕ). 0 < n) (sym asked) (more (sym rest ∙ none));
    }
