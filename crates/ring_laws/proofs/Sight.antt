-- What the rules on the ring make of the lines before a line, and how one line more changes it.
use Rattle.std.proofs.Common.{◌≡◌, ℕ, ◌&&◌, ◌==◌, Bool, true, false, if◌then◌else◌, List, refl, ap}
use Rattle.std.specs.Prelude.{slice_get, Option, Some, None}
use Rattle.blk_base.specs.declared.operation.Abi.{Abi}
use Rattle.blk_base.specs.declared.moves.BackMover.TheVariants as back
use Rattle.blk_base.specs.declared.moves.Mover.TheVariants as mover
use Rattle.blk_base.specs.declared.moves.Move.TheVariants as moves
use Rattle.schedule_text.specs.declared.line.Line.{Line}
use Rattle.schedule_text.specs.declared.line.Line.TheVariants as lines
use Rattle.report_rules.specs.declared.standing.Standing.{Standing}
use Rattle.report_rules.specs.Standing.{is_epoch, has_number}
use Rattle.report_rules.specs.Ring.{page_made, ring_pages, start_told, produced_shown, replied_after, page_from, word_in, abi_named, abi_after}
use Rattle.report_rules.specs.Stretch.{of_entries, entry_word_read, is_back_move}
use Rattle.ring_laws.specs.Layout.{reads_protocol}

-- the back reads or writes a word
abbrev pub is_touch : Line → Bool
is_touch (lines.Move (moves.Read back.Back number frame word value)) = true
is_touch (lines.Move (moves.Write back.Back number frame word value)) = true
is_touch line = false

pub untouched_produced : (before : List Line) (line : Line) → is_touch line ≡ false → produced_shown before line ≡ None
untouched_produced before (lines.Move (moves.Read back.Back number frame word value)) e = absurd (cc)
untouched_produced before line e = refl

pub untouched_replied : (before : List Line) (n : ℕ) (line : Line) → is_touch line ≡ false → replied_after before n line ≡ n
untouched_replied before n (lines.Move (moves.Write back.Back number frame word value)) e = absurd (cc)
untouched_replied before n line e = refl

pub untouched_word : (before : List Line) (line : Line) → is_touch line ≡ false → entry_word_read before line ≡ None
untouched_word before (lines.Move (moves.Read back.Back number frame word value)) e = absurd (cc)
untouched_word before line e = refl

-- lines of which none makes a page, a word's value or an epoch
abbrev pub is_other : Line → Bool
is_other (lines.Begin config detail) = false
is_other lines.Epoch = false
is_other (lines.Move (moves.Read back.Back number frame word value)) = false
is_other (lines.Move (moves.Write back.Back number frame word value)) = false
is_other (lines.Move (moves.Map back.Back gref mode number frame)) = false
is_other line = true

pub other_epoch : (line : Line) → is_other line ≡ true → is_epoch line ≡ false
other_epoch lines.Epoch e = absurd (cc)
other_epoch line e = refl

pub other_start : (n : ℕ) (line : Line) → is_other line ≡ true → start_told n line ≡ n
other_start n (lines.Begin config detail) e = absurd (cc)
other_start n line e = refl

pub other_page : (line : Line) → is_other line ≡ true → page_made line ≡ None
other_page (lines.Move (moves.Map back.Back gref mode number frame)) e = absurd (cc)
other_page line e = refl

-- where the back doesn't read of a layout, the last one stays
pub same_abi : (abi : Option Abi) (line : Line) → reads_protocol line ≡ false → abi_after abi line ≡ abi
same_abi abi (lines.Move (moves.GetKey mover.Back path text)) e = ap (λ (names : Bool). if names then abi_named text else abi) e
same_abi abi line e = refl

-- a line of the back's own: one of its moves, or its halt
abbrev pub is_of_back : Line → Bool
is_of_back (lines.Halt halt) = true
is_of_back line = is_back_move line

pub foreign_abi : (line : Line) → is_of_back line ≡ false → reads_protocol line ≡ false
foreign_abi (lines.Move (moves.GetKey mover.Back path text)) e = absurd (cc)
foreign_abi line e = refl

pub other_touch : (line : Line) → is_other line ≡ true → is_touch line ≡ false
other_touch (lines.Move (moves.Read back.Back number frame word value)) e = absurd (cc)
other_touch (lines.Move (moves.Write back.Back number frame word value)) e = absurd (cc)
other_touch line e = refl

-- what a line shows depends on the pages alone
pub produced_same : (a b : List Line) → ring_pages a ≡ ring_pages b → (line : Line) → produced_shown a line ≡ produced_shown b line
produced_same a b same (lines.Move (moves.Read back.Back number frame word value)) = ap (λ (pages : List Standing). if has_number number (slice_get pages 0) && (word == 0) then Some value else None) same
produced_same a b same line = refl

pub replied_same : (a b : List Line) → ring_pages a ≡ ring_pages b → (n : ℕ) (line : Line) → replied_after a n line ≡ replied_after b n line
replied_same a b same n (lines.Move (moves.Write back.Back number frame word value)) = ap (λ (pages : List Standing). if has_number number (slice_get pages 0) && (word == 2) then value else n) same
replied_same a b same n line = refl

pub word_same : (a b : List Line) → ring_pages a ≡ ring_pages b → (line : Line) → entry_word_read a line ≡ entry_word_read b line
word_same a b same (lines.Move (moves.Read back.Back number frame word value)) = ap (λ (pages : List Standing). of_entries (word_in (page_from 0 number pages) word)) same
word_same a b same line = refl
