-- What a reader keeps of the ring, line by line (`io/ring.h`): which memory it is, the layout of its entries, its producers, and how many entries the back read in this epoch.
use Rattle.std.specs.Prelude.{ℕ, ◌+◌, ◌%◌, ◌^◌, ◌&&◌, ◌||◌, ◌==◌, Bool, false, if◌then◌else◌, List, [], ◌++◌, length, fold, slice_get, Option, Some, None, is_some, unwrap_or}
use Rattle.std.specs.Option.{option_to_list}
use Rattle.blk_base.specs.declared.operation.Abi.{Abi}
use Rattle.blk_base.specs.declared.operation.Abi.TheVariants.{X64}
use Rattle.blk_base.specs.declared.moves.BackMover.TheVariants as back
use Rattle.blk_base.specs.declared.moves.Move.TheVariants as moves
use Rattle.ring_words.specs.Shape.{Shape, entry_words_of}
use Rattle.schedule_text.specs.declared.line.Line.{Line}
use Rattle.schedule_text.specs.declared.line.Line.TheVariants as lines
use Rattle.report_rules.specs.declared.standing.Standing.{Standing}
use Rattle.report_rules.specs.declared.overrun.Overrun.{Overrun}
use Rattle.report_rules.specs.Standing.{is_epoch, has_number}
use Rattle.report_rules.specs.Ring.{page_made, order_of, start_told, page_from, word_in, abi_after, shape_of}
use Rattle.report_rules.specs.Stretch.{of_entries}
use Rattle.report_rules.specs.Overrun.{overrun_of}

pub record RingState : Type 0 where
  -- the index at which rings start
  pub start : ℕ
  -- of this epoch: the layout of entries, and the pages of the ring, page 0 first
  pub abi : Option Abi
  pub pages : List Standing
  -- rsp_prod as the back wrote it last, and req_prod as it was shown it last
  pub written : Option ℕ
  pub shown : Option ℕ
  -- how many entries the back read whole, and how many words of the next one
  pub fetched : ℕ
  pub within : ℕ
  -- whether a producer overran
  pub overran : Bool
  -- the overrun that the last line shows
  pub overrun : Option Overrun

-- an epoch in which nothing was seen
abbrev pub begun : ℕ → RingState
begun start = record { start = start; abi = Some X64; pages = []; written = None; shown = None; fetched = 0; within = 0; overran = false; overrun = None }

abbrev pub no_lines : RingState
no_lines = begun 0

abbrev pub order_seen : RingState → Option ℕ
order_seen s = order_of (length s.pages)

abbrev pub shape_seen : RingState → Option Shape
shape_seen s = shape_of s.abi (order_seen s)

abbrev pub replied_seen : RingState → ℕ
replied_seen s = unwrap_or s.written s.start

abbrev pub produced_seen : RingState → ℕ
produced_seen s = unwrap_or s.shown s.start

-- the word of the ring that a word of a mapping is, where these are the ring's pages
abbrev pub word_on : List Standing → ℕ → ℕ → Option ℕ
word_on pages number word = word_in (page_from 0 number pages) word

abbrev pub is_page_on : List Standing → ℕ → Bool
is_page_on pages number = is_some (page_from 0 number pages)

abbrev pub is_first_on : List Standing → ℕ → Bool
is_first_on pages number = has_number number (slice_get pages 0)

-- the index whose entry is fetched next, or is being fetched
abbrev pub index_seen : RingState → ℕ
index_seen s = (s.start + s.fetched) % 2 ^ 32

-- the word of an entry that the back reads in a line
abbrev pub entry_word_on : List Standing → Line → Option ℕ
entry_word_on pages (lines.Move (moves.Read back.Back number frame word value)) = of_entries (word_on pages number word)
entry_word_on pages line = None

-- the req_prod that a line shows
abbrev pub producer_on : List Standing → Line → Option ℕ
producer_on pages (lines.Move (moves.Read back.Back number frame word value)) = if is_first_on pages number && (word == 0) then Some value else None
producer_on pages line = None

-- the rsp_prod that a line writes
abbrev pub response_on : List Standing → Line → Option ℕ
response_on pages (lines.Move (moves.Write back.Back number frame word value)) = if is_first_on pages number && (word == 2) then Some value else None
response_on pages line = None

-- the same of what is kept
abbrev pub word_seen : RingState → ℕ → ℕ → Option ℕ
word_seen s number word = word_on s.pages number word

abbrev pub entry_word_seen : RingState → Line → Option ℕ
entry_word_seen s line = entry_word_on s.pages line

-- the overrun that a line shows
abbrev pub overrun_seen : RingState → Line → Option Overrun
overrun_seen s line = overrun_of (order_seen s) (replied_seen s) (producer_on s.pages line)

-- the newer of two values, where there is one
abbrev pub newer : Option ℕ → Option ℕ → Option ℕ
newer None known = known
newer (Some told) known = Some told

-- the next word of an entry is its last, by this layout
abbrev pub is_last : Option Abi → ℕ → Bool
is_last None within = false
is_last (Some abi) within = within + 1 == entry_words_of abi

-- how many entries were read whole, and how many words of the next one, where a line may read one more
abbrev pub fetched_after : Option Abi → ℕ → ℕ → Option ℕ → ℕ
fetched_after abi fetched within None = fetched
fetched_after abi fetched within (Some word) = if is_last abi within then fetched + 1 else fetched

abbrev pub within_after : Option Abi → ℕ → Option ℕ → ℕ
within_after abi within None = within
within_after abi within (Some word) = if is_last abi within then 0 else within + 1

-- one line further in the epoch
abbrev pub further : RingState → Line → RingState
further s line = record {
  start = start_told s.start line;
  abi = abi_after s.abi line;
  pages = s.pages ++ option_to_list (page_made line);
  written = newer (response_on s.pages line) s.written;
  shown = newer (producer_on s.pages line) s.shown;
  fetched = fetched_after s.abi s.fetched s.within (entry_word_on s.pages line);
  within = within_after s.abi s.within (entry_word_on s.pages line);
  overran = s.overran || is_some (overrun_seen s line);
  overrun = overrun_seen s line;
}

-- one line further: an epoch begins all anew but the start
abbrev pub seen : RingState → Line → RingState
seen s line = if is_epoch line then begun s.start else further s line

-- what is kept of these lines
abbrev pub state_of : List Line → RingState
state_of before = fold seen no_lines before
