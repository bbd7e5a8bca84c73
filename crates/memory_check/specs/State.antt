-- What the lines of a report tell of memory and mappings, kept as a state that takes one step a line (`grant_table.h`): the value of each word, the mappings that stand, and the numbers that mappings ever had.
use Rattle.std.specs.Prelude.{ℕ, ◌*◌, ◌/◌, ◌%◌, ◌==◌, nat_lt, is_some, if◌then◌else◌, List, [], fold, Option, Some, None}
use Rattle.std.specs.Map.{lookup, remove_entry, values_of}
use Rattle.std.specs.BTreeMap.{is_at, insert_entry}
use Rattle.std.specs.Ordering.{nat_cmp}
use Rattle.blk_base.specs.declared.moves.Move.TheVariants as moves
use Rattle.grant_table.specs.Entry.{mapped_entry, unmapped_entry}
use Rattle.schedule_text.specs.declared.line.Line.{Line}
use Rattle.schedule_text.specs.declared.line.Line.TheVariants as lines
use Rattle.report_rules.specs.declared.standing.Standing.{Standing}
use Rattle.report_rules.specs.Standing.{others_of, other_writers_of}
use Rattle.memory_check.specs.Words.{WordValues, no_words, word_in, with_word_in}
use Rattle.memory_check.specs.Numbers.{NumberSet, no_numbers, with_number}

-- the words of frames 0 and 1, which an epoch clears, the words of the other frames, the mappings that stand by their numbers, and the numbers that were given
pub record State : Type 0 where
  pub table : WordValues
  pub pages : WordValues
  pub standing : List (ℕ × Standing)
  pub numbers : NumberSet

abbrev pub start : State
start = record { table = no_words; pages = no_words; standing = []; numbers = no_numbers }

-- the value of a word
abbrev pub word_at : State → ℕ → ℕ → ℕ
word_at state frame word = if nat_lt frame 2 then word_in state.table frame word else word_in state.pages frame word

abbrev pub with_word : State → ℕ → ℕ → ℕ → State
with_word state frame word value =
    if nat_lt frame 2
    then record state { table = with_word_in state.table frame word value }
    else record state { pages = with_word_in state.pages frame word value }

-- the mapping of a number that stands
abbrev pub standing_at : List (ℕ × Standing) → ℕ → Option Standing
standing_at standing number = lookup (is_at (nat_cmp number)) standing

-- with one mapping more, unless one of its number stands
abbrev pub with_standing : List (ℕ × Standing) → Standing → List (ℕ × Standing)
with_standing standing made = if is_some (standing_at standing made.number) then standing else insert_entry nat_cmp standing made.number made

abbrev pub without_standing : List (ℕ × Standing) → ℕ → List (ℕ × Standing)
without_standing standing number = remove_entry (is_at (nat_cmp number)) standing

-- the first word of the entry of a reference: entries have two words each, 512 of them lie in a frame from frame 0 on
abbrev pub flags_of : State → ℕ → ℕ
flags_of state gref = word_at state (gref / 512) (2 * (gref % 512))

abbrev pub with_flags : State → ℕ → ℕ → State
with_flags state gref flags = with_word state (gref / 512) (2 * (gref % 512)) flags

-- a map, but for its number: the mapping stands, and the flags of its entry tell of it
abbrev pub with_mapping : State → Standing → State
with_mapping state made = with_flags (record state { standing = with_standing state.standing made }) made.gref (mapped_entry (flags_of state made.gref) made.mode)

abbrev pub after_map : State → Standing → State
after_map state made = record (with_mapping state made) { numbers = with_number state.numbers made.number }

-- the flags of the entry of a mapping that ends
abbrev pub flags_left : State → Standing → ℕ
flags_left state ended = unmapped_entry (flags_of state ended.gref) (others_of ended.gref ended.number (values_of state.standing)) (other_writers_of ended.gref ended.number (values_of state.standing))

-- the unmap of a mapping; a number that doesn't stand changes nothing
abbrev pub after_unmap : State → Option Standing → State
after_unmap state None = state
after_unmap state (Some ended) = record (with_flags state ended.gref (flags_left state ended)) { standing = without_standing state.standing ended.number }

-- an epoch clears the grant table and ends all mappings
abbrev pub after_epoch : State → State
after_epoch state = record state { table = no_words; standing = [] }

-- the state one line further on
abbrev pub seen : State → Line → State
seen state (lines.Move (moves.FrontWrite frame word value)) = with_word state frame word value
seen state (lines.Move (moves.FrontCas frame word old new found)) = if found == old then with_word state frame word new else state
seen state (lines.Move (moves.Write who number frame word value)) = with_word state frame word value
seen state (lines.Move (moves.Map who gref mode number frame)) = after_map state (record { number = number; gref = gref; mode = mode; frame = frame })
seen state (lines.Move (moves.Unmap who number)) = after_unmap state (standing_at state.standing number)
seen state (lines.Poke frame word value) = with_word state frame word value
seen state lines.Epoch = after_epoch state
seen state line = state

-- the state after these lines
abbrev pub state_after : List Line → State
state_after before = fold seen start before
