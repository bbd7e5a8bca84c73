-- The value of a word of memory as the lines of a report tell it: what the last line that set it gave.
use Rattle.std.specs.Prelude.{ℕ, ◌*◌, ◌/◌, ◌%◌, Bool, ◌&&◌, ◌==◌, nat_lt, if◌then◌else◌, List, [], ◌∷◌, reverse, Option, Some, None}
use Rattle.blk_base.specs.declared.parts.Mode.{Mode}
use Rattle.blk_base.specs.declared.moves.Move.TheVariants as moves
use Rattle.grant_table.specs.Entry.{mapped_entry, unmapped_entry}
use Rattle.schedule_text.specs.declared.line.Line.{Line}
use Rattle.schedule_text.specs.declared.line.Line.TheVariants as lines
use Rattle.report_rules.specs.declared.value.Cell.{Cell}
use Rattle.report_rules.specs.declared.standing.Standing.{Standing}
use Rattle.report_rules.specs.Standing.{standing_after, numbered, others_of, other_writers_of}

abbrev pub is_cell : Cell → ℕ → ℕ → Bool
is_cell cell frame word = (frame == cell.frame) && (word == cell.word)

-- the flags of a reference's grant entry: entries have two words each, 512 of them lie in a frame from frame 0 on, and the flags are in the first word (`grant_table.h`, struct grant_entry_v1)
abbrev pub is_flags_of : Cell → ℕ → Bool
is_flags_of cell gref = is_cell cell (gref / 512) (2 * (gref % 512))

-- the word after a line that wrote this value into that word of that frame
abbrev pub after_write : Cell → ℕ → ℕ → ℕ → ℕ → ℕ
after_write cell value frame word written = if is_cell cell frame word then written else value

-- the word after a map: the entry's flags tell of it (GTF_reading, GTF_writing)
abbrev pub after_map : Cell → ℕ → ℕ → Mode → ℕ
after_map cell value gref mode = if is_flags_of cell gref then mapped_entry value mode else value

-- the word after an unmap, where these mappings stood: the entry's flags tell which mappings of the reference are left; a number that doesn't stand changes nothing
abbrev pub after_unmap : Cell → ℕ → List Standing → Option Standing → ℕ
after_unmap cell value standing None = value
after_unmap cell value standing (Some s) =
    if is_flags_of cell s.gref
    then unmapped_entry value (others_of s.gref s.number standing) (other_writers_of s.gref s.number standing)
    else value

-- the word after a line, where it had this value and these lines came before: a compare and exchange writes where it saw what it asked for, an epoch clears the grant table, which is frames 0 and 1
abbrev pub value_after : Cell → ℕ → List Line → Line → ℕ
value_after cell value before (lines.Move (moves.FrontWrite frame word written)) = after_write cell value frame word written
value_after cell value before (lines.Move (moves.FrontCas frame word old new seen)) = if seen == old then after_write cell value frame word new else value
value_after cell value before (lines.Move (moves.Write who number frame word written)) = after_write cell value frame word written
value_after cell value before (lines.Move (moves.Map who gref mode number frame)) = after_map cell value gref mode
value_after cell value before (lines.Move (moves.Unmap who number)) = after_unmap cell value (standing_after before) (numbered number (standing_after before))
value_after cell value before (lines.Poke frame word written) = after_write cell value frame word written
value_after cell value before lines.Epoch = if nat_lt cell.frame 2 then 0 else value
value_after cell value before line = value

-- the word after these lines, of which the last comes first
abbrev pub value_back : Cell → List Line → ℕ
value_back cell [] = 0
value_back cell (line ∷ earlier) = value_after cell (value_back cell earlier) (reverse earlier) line

-- the value of a word of a frame after these lines
abbrev pub value_before : List Line → ℕ → ℕ → ℕ
value_before before frame word = value_back (record { frame = frame; word = word }) (reverse before)
