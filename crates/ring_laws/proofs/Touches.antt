-- What the back's reads and writes of the ring's pages show.
use Rattle.std.proofs.Common.{◌≡◌, ℕ, ◌+◌, ◌*◌, ◌<◌, ◌≤◌, ◌&&◌, ◌==◌, Bool, true, false, cond, if◌then◌else◌, List, [], ◌∷◌, ◌++◌, refl, ap, ◌∙◌, arith}
use Rattle.std.specs.Prelude.{slice_get, Option, Some, None, is_some, nat_lt, unwrap_or}
use Rattle.std.proofs.lemmas.Bool.Decides.{nat_tests}
use Rattle.blk_base.specs.declared.moves.BackMover.TheVariants as back
use Rattle.blk_base.specs.declared.moves.Move.TheVariants as moves
use Rattle.schedule_text.specs.declared.line.Line.{Line}
use Rattle.schedule_text.specs.declared.line.Line.TheVariants as lines
use Rattle.report_rules.specs.declared.standing.Standing.{Standing}
use Rattle.report_rules.specs.Ring.{is_first_page, replied_after, produced_shown, page_from, word_in, ring_word}
use Rattle.report_rules.specs.Standing.{has_number}
use Rattle.std.specs.Option.{option_to_list}
use Rattle.std.proofs.lemmas.List.{append-nil}
use Rattle.report_rules.specs.Stretch.{of_entries, entry_word_read, entry_value, when}
use Rattle.ring_laws.proofs.Shows.{Sight, Shows, IsOnPages, shows_more}

-- the mapping of this number is the page of the ring at this place, and the back may touch its words
pub record IsPage (number place : ℕ) (x : Sight) : Type 0 where
  pub found : page_from 0 number x.pages ≡ Some place
  pub touched : x.touched ≡ true

later_page : (k number : ℕ) (pages : List Standing) (place : ℕ) → page_from k number pages ≡ Some place → k ≤ place
later_page k number [] place e = absurd (cc)
later_page k number (page ∷ pages) place e = by_test (page.number == number) e (later_page (k + 1) number pages place)
  where
    by_test : (b : Bool) → (if b then Some k else page_from (k + 1) number pages) ≡ Some place → (page_from (k + 1) number pages ≡ Some place → k + 1 ≤ place) → k ≤ place
    by_test true found rest = let same : k ≡ place = cc in omega arith
    by_test false found rest = let below = rest found in omega arith

-- the first page is at place 0
first_found : (number : ℕ) (pages : List Standing) (place : ℕ) → page_from 0 number pages ≡ Some place → has_number number (slice_get pages 0) ≡ (place == 0)
first_found number [] place e = absurd (cc)
first_found number (page ∷ pages) place e = by_test (page.number == number) e
  where
    by_test : (b : Bool) → (if b then Some 0 else page_from 1 number pages) ≡ Some place → b ≡ (place == 0)
    by_test true found = let same : 0 ≡ place = cc in ap (λ (n : ℕ). n == 0) same
    by_test false found = let below = later_page 1 number pages place found in grind (arith, nat_tests)

first_page : (before : List Line) (x : Sight) (number place : ℕ) → Shows before x → IsPage number place x → is_first_page before number ≡ (place == 0)
first_page before x number place shows is =
    ap (λ (pages : List Standing). has_number number (slice_get pages 0)) shows.pages ∙ first_found number x.pages place is.found

pub page_word : (before : List Line) (x : Sight) (number place word : ℕ) → Shows before x → IsPage number place x → ring_word before number word ≡ Some (1024 * place + word)
page_word before x number place word shows is =
    ap (λ (pages : List Standing). word_in (page_from 0 number pages) word) shows.pages ∙ ap (λ (page : Option ℕ). word_in page word) is.found

-- a word of the first page is the ring's word of the same number, and no other page has a word below 1024
index_word : (before : List Line) (x : Sight) (number place word index : ℕ) → index < 1024 → Shows before x → IsPage number place x → (is_first_page before number && (word == index)) ≡ (1024 * place + word == index)
index_word before x number place word index low shows is = ap (λ (b : Bool). b && (word == index)) (first_page before x number place shows is) ∙ by_place place
  where
    by_place : (p : ℕ) → ((p == 0) && (word == index)) ≡ (1024 * p + word == index)
    by_place p = by_test (p == 0) refl
      where
        by_test : (b : Bool) → (p == 0) ≡ b → (b && (word == index)) ≡ (1024 * p + word == index)
        by_test true e = let none : p ≡ 0 = grind (arith, nat_tests) in let same : word ≡ 1024 * p + word = omega arith in ap (λ (n : ℕ). n == index) same
        by_test false e = grind (arith, nat_tests)

by_word : (word : ℕ) (b : Bool) → nat_lt word 16 ≡ b → of_entries (Some word) ≡ (if b then None else Some word)
by_word word b e = ap (λ (c : Bool). if c then None else Some word) e

-- the first 16 words belong to no entry, and the others do
pub low_word : (before : List Line) (x : Sight) (number place frame word value : ℕ) → 1024 * place + word < 16 → Shows before x → IsPage number place x → entry_word_read before (lines.Move (moves.Read back.Back number frame word value)) ≡ None
low_word before x number place frame word value low shows is =
    let test : nat_lt (1024 * place + word) 16 ≡ true = grind (arith, nat_tests) in
    ap (λ (w : Option ℕ). of_entries w) (page_word before x number place word shows is) ∙ by_word (1024 * place + word) true test

pub high_word : (before : List Line) (x : Sight) (number place frame word value : ℕ) → 16 ≤ 1024 * place + word → Shows before x → IsPage number place x
    → entry_word_read before (lines.Move (moves.Read back.Back number frame word value)) ≡ Some (1024 * place + word)
high_word before x number place frame word value high shows is =
    let test : nat_lt (1024 * place + word) 16 ≡ false = grind (arith, nat_tests) in
    ap (λ (w : Option ℕ). of_entries w) (page_word before x number place word shows is) ∙ by_word (1024 * place + word) false test

-- a read of the producer shows it; of no other word
pub produced_at : (before : List Line) (x : Sight) (number frame value : ℕ) → Shows before x → IsPage number 0 x → produced_shown before (lines.Move (moves.Read back.Back number frame 0 value)) ≡ Some value
produced_at before x number frame value shows is = ap (λ (b : Bool). if b && true then Some value else None) (first_page before x number 0 shows is)

pub produced_not : (before : List Line) (x : Sight) (number place frame word value : ℕ) → (1024 * place + word == 0) ≡ false → Shows before x → IsPage number place x → produced_shown before (lines.Move (moves.Read back.Back number frame word value)) ≡ None
produced_not before x number place frame word value other shows is = ap (λ (b : Bool). if b then Some value else None) (index_word before x number place word 0 (omega arith) shows is ∙ other)

-- the back may touch the words
may_touch : (x : Sight) (number place : ℕ) (b : Bool) → IsPage number place x → x.touched ≡ false → b ≡ false
may_touch x number place b is none = let some = is.touched in absurd (cc)

pub read_on : (number frame word value : ℕ) → IsOnPages (lines.Move (moves.Read back.Back number frame word value))
read_on number frame word value = record { same_epoch = refl; start = λ n. refl; page = refl }

pub write_on : (number frame word value : ℕ) → IsOnPages (lines.Move (moves.Write back.Back number frame word value))
write_on number frame word value = record { same_epoch = refl; start = λ n. refl; page = refl }

-- the word that is read is one of an entry or it isn't
value_at : (before : List Line) (number frame word value : ℕ) {b : Bool} → is_some (entry_word_read before (lines.Move (moves.Read back.Back number frame word value))) ≡ b → entry_value before (lines.Move (moves.Read back.Back number frame word value)) ≡ when b value
value_at before number frame word value e = ap (λ (b : Bool). when b value) e

some_word : (read : Option ℕ) (word : ℕ) → read ≡ Some word → is_some read ≡ true
some_word read word e = ap (λ (r : Option ℕ). is_some r) e

no_value : (before : List Line) (x : Sight) (number frame word value : ℕ) → entry_word_read before (lines.Move (moves.Read back.Back number frame word value)) ≡ None → x.values ++ option_to_list (entry_value before (lines.Move (moves.Read back.Back number frame word value))) ≡ x.values
no_value before x number frame word value none =
    ap (λ (v : Option ℕ). x.values ++ option_to_list v) (value_at before number frame word value (ap (λ (r : Option ℕ). is_some r) none)) ∙ append-nil x.values

pub shows_producer : (before : List Line) (x : Sight) (number frame value : ℕ) → IsPage number 0 x → Shows before x → Shows (before ++ lines.Move (moves.Read back.Back number frame 0 value) ∷ []) (record x { produced = value })
shows_producer before x number frame value is shows =
    shows_more before (lines.Move (moves.Read back.Back number frame 0 value)) x x.replied value x.words x.values x.abi (read_on number frame 0 value) (λ read. absurd (cc)) shows refl
    (ap (λ (shown : Option ℕ). unwrap_or shown x.produced) (produced_at before x number frame value shows is))
    (ap (λ (w : Option ℕ). x.words + cond (is_some w) 1 0) (low_word before x number 0 frame 0 value (omega arith) shows is) ∙ omega arith)
    (may_touch x number 0 true is)
    (no_value before x number frame 0 value (low_word before x number 0 frame 0 value (omega arith) shows is)) refl

-- another of the ring's own words
pub shows_index : (before : List Line) (x : Sight) (number frame word value : ℕ) → (1024 * 0 + word == 0) ≡ false → 1024 * 0 + word < 16 → IsPage number 0 x → Shows before x → Shows (before ++ lines.Move (moves.Read back.Back number frame word value) ∷ []) x
shows_index before x number frame word value other low is shows =
    shows_more before (lines.Move (moves.Read back.Back number frame word value)) x x.replied x.produced x.words x.values x.abi (read_on number frame word value) (λ read. absurd (cc)) shows refl
    (ap (λ (shown : Option ℕ). unwrap_or shown x.produced) (produced_not before x number 0 frame word value other shows is))
    (ap (λ (w : Option ℕ). x.words + cond (is_some w) 1 0) (low_word before x number 0 frame word value low shows is) ∙ omega arith)
    (may_touch x number 0 true is)
    (no_value before x number frame word value (low_word before x number 0 frame word value low shows is)) refl

-- a word of an entry
pub shows_entry : (before : List Line) (x : Sight) (number place frame word value : ℕ) → 16 ≤ 1024 * place + word → IsPage number place x → Shows before x
    → Shows (before ++ lines.Move (moves.Read back.Back number frame word value) ∷ []) (record x { words = x.words + 1; values = x.values ++ value ∷ [] })
shows_entry before x number place frame word value high is shows =
    let other : (1024 * place + word == 0) ≡ false = grind (arith, nat_tests) in
    let read = high_word before x number place frame word value high shows is in
    shows_more before (lines.Move (moves.Read back.Back number frame word value)) x x.replied x.produced (x.words + 1) (x.values ++ value ∷ []) x.abi (read_on number frame word value) (λ read. absurd (cc)) shows refl
    (ap (λ (shown : Option ℕ). unwrap_or shown x.produced) (produced_not before x number place frame word value other shows is))
    (ap (λ (w : Option ℕ). x.words + cond (is_some w) 1 0) read)
    (may_touch x number place true is)
    (ap (λ (v : Option ℕ). x.values ++ option_to_list v) (value_at before number frame word value (some_word (entry_word_read before (lines.Move (moves.Read back.Back number frame word value))) (1024 * place + word) read))) refl

-- a word is written: the producer of the responses, or another
shows_written : (before : List Line) (x : Sight) (number place frame word value replied : ℕ) → replied_after before x.replied (lines.Move (moves.Write back.Back number frame word value)) ≡ replied → IsPage number place x → Shows before x
    → Shows (before ++ lines.Move (moves.Write back.Back number frame word value) ∷ []) (record x { replied = replied })
shows_written before x number place frame word value replied e is shows =
    shows_more before (lines.Move (moves.Write back.Back number frame word value)) x replied x.produced x.words x.values x.abi (write_on number frame word value) (λ read. absurd (cc)) shows
    e refl (omega arith) (may_touch x number place true is) (append-nil x.values) refl

pub shows_replied : (before : List Line) (x : Sight) (number frame value : ℕ) → IsPage number 0 x → Shows before x → Shows (before ++ lines.Move (moves.Write back.Back number frame 2 value) ∷ []) (record x { replied = value })
shows_replied before x number frame value is shows = shows_written before x number 0 frame 2 value value (ap (λ (b : Bool). if b && true then value else x.replied) (first_page before x number 0 shows is)) is shows

pub shows_write : (before : List Line) (x : Sight) (number place frame word value : ℕ) → (1024 * place + word == 2) ≡ false → IsPage number place x → Shows before x → Shows (before ++ lines.Move (moves.Write back.Back number frame word value) ∷ []) x
shows_write before x number place frame word value other is shows =
    shows_written before x number place frame word value x.replied (ap (λ (b : Bool). if b then value else x.replied) (index_word before x number place word 2 (omega arith) shows is ∙ other)) is shows
