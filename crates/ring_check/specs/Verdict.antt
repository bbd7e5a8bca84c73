-- Whether a line may come next, by what is kept of the ring (`io/ring.h`): RING_COPY_REQUEST in one stretch, RING_HAS_UNCONSUMED_REQUESTS, RING_REQUEST_PROD_OVERFLOW.
use Rattle.std.specs.Prelude.{ℕ, ◌&&◌, ◌||◌, ◌==◌, not, Bool, true, false, nat_lt, if◌then◌else◌, List, Option, Some, None, is_some}
use Rattle.blk_base.specs.declared.moves.BackMover.TheVariants as back
use Rattle.blk_base.specs.declared.moves.Move.TheVariants as moves
use Rattle.ring_words.specs.Shape.{Shape, entries_of, ring_word_of}
use Rattle.ring_words.specs.Ring.{requests_of}
use Rattle.blk_base.specs.declared.halt.Halt.TheVariants as halts
use Rattle.schedule_text.specs.declared.line.Line.{Line}
use Rattle.schedule_text.specs.declared.line.Line.TheVariants as lines
use Rattle.report_rules.specs.declared.standing.Standing.{Standing}
use Rattle.report_rules.specs.declared.overrun.Overrun.{Overrun}
use Rattle.report_rules.specs.Stretch.{is_back_move}
use Rattle.report_rules.specs.Overrun.{is_service}
use Rattle.ring_check.specs.State.{RingState, shape_seen, replied_seen, produced_seen, index_seen, is_page_on, entry_word_on}

-- how many requests are unconsumed
abbrev pub unconsumed_seen : RingState → Shape → ℕ
unconsumed_seen s shape = requests_of (record { entries = entries_of shape.order; prod = replied_seen s; cons = index_seen s }) (produced_seen s)

-- a word is the next one of the next entry
abbrev pub is_next : RingState → ℕ → Shape → Bool
is_next s word shape = (word == ring_word_of shape (index_seen s) s.within) && (not (s.within == 0) || nat_lt 0 (unconsumed_seen s shape))

-- a word of an entry, if it is one, is the next
abbrev pub is_next_read : RingState → Option ℕ → Option Shape → Bool
is_next_read s None shape = true
is_next_read s (Some word) None = false
is_next_read s (Some word) (Some shape) = is_next s word shape

-- no stretch is under way
abbrev pub is_between : RingState → Bool
is_between s = s.within == 0

-- the word of a page of the ring that the back reads or writes in a line
abbrev pub touched_on : List Standing → Line → Option ℕ
touched_on pages (lines.Move (moves.Read back.Back number frame word value)) = if is_page_on pages number then Some word else None
touched_on pages (lines.Move (moves.Write back.Back number frame word value)) = if is_page_on pages number then Some word else None
touched_on pages line = None

abbrev pub is_in_page : Option ℕ → Bool
is_in_page None = true
is_in_page (Some word) = nat_lt word 1024

-- the rule on stretches allows the line
abbrev pub allows_stretch : RingState → Line → Bool
allows_stretch s line =
    is_next_read s (entry_word_on s.pages line) (shape_seen s)
    && ((not (is_back_move line) || is_some (entry_word_on s.pages line) || is_between s) && is_in_page (touched_on s.pages line))

-- a line is the halt of the overrun that was shown, or no halt of an overrun where none was shown
abbrev pub is_halt_of : Option Overrun → Line → Bool
is_halt_of (Some o) (lines.Halt (halts.Overrun produced replied)) = (produced == o.produced) && (replied == o.replied)
is_halt_of None (lines.Halt (halts.Overrun produced replied)) = false
is_halt_of (Some o) line = false
is_halt_of None line = true

-- the rule on overruns allows the line
abbrev pub allows_overrun : RingState → Line → Bool
allows_overrun s line = is_halt_of s.overrun line && (not (is_service line) || not s.overran)
