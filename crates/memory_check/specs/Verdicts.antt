-- What the state says of the next line: whether it shows what is there, whether a map is answered as its entry stands, and whether a touch goes through a mapping that stands (`grant_table.h`).
use Rattle.std.specs.Prelude.{ℕ, ◌+◌, ◌*◌, ◌/◌, ◌%◌, ℤ, Bool, true, false, not, ◌&&◌, ◌==◌, Option, Some, None, Result, Ok, Err}
use Rattle.std.specs.Ordering.{int_eq}
use Rattle.blk_base.specs.declared.parts.Mode.{Mode}
use Rattle.blk_base.specs.declared.moves.Move.TheVariants as moves
use Rattle.grant_table.specs.declared.entry.MapRefusal.{MapRefusal}
use Rattle.grant_table.specs.Entry.{verdict_of, status_of, is_for_writing}
use Rattle.schedule_text.specs.declared.line.Line.{Line}
use Rattle.schedule_text.specs.declared.line.Line.TheVariants as lines
use Rattle.report_rules.specs.declared.standing.Standing.{Standing}
use Rattle.memory_check.specs.Numbers.{has}
use Rattle.memory_check.specs.State.{State, word_at, standing_at}

-- a read, the word that a compare and exchange saw, and a word of the dump show the value of their word
abbrev pub shows_what_is_there : State → Line → Bool
shows_what_is_there state (lines.Move (moves.FrontRead frame word value)) = value == word_at state frame word
shows_what_is_there state (lines.Move (moves.FrontCas frame word old new seen)) = seen == word_at state frame word
shows_what_is_there state (lines.Move (moves.Read who number frame word value)) = value == word_at state frame word
shows_what_is_there state (lines.Word frame word value) = value == word_at state frame word
shows_what_is_there state line = true

-- the verdict on a map: the entry of a reference is two words of frame `gref / 512`
abbrev pub map_verdict : State → ℕ → Mode → Result ℕ MapRefusal
map_verdict state gref mode = verdict_of gref (word_at state (gref / 512) (2 * (gref % 512))) (word_at state (gref / 512) (2 * (gref % 512) + 1)) mode

abbrev pub is_granted : ℕ → Result ℕ MapRefusal → Bool
is_granted frame (Ok granted) = granted == frame
is_granted frame (Err refusal) = false

abbrev pub is_refused : ℤ → Result ℕ MapRefusal → Bool
is_refused status (Ok granted) = false
is_refused status (Err refusal) = int_eq status (status_of refusal)

-- a map gives the frame that its entry grants, and a new number; a refused map has the status of its refusal
abbrev pub answers_map : State → Line → Bool
answers_map state (lines.Move (moves.Map who gref mode number frame)) = is_granted frame (map_verdict state gref mode) && not (has state.numbers number)
answers_map state (lines.Move (moves.MapRefused who gref mode status)) = is_refused status (map_verdict state gref mode)
answers_map state line = true

abbrev pub is_of_frame : ℕ → Option Standing → Bool
is_of_frame frame None = false
is_of_frame frame (Some s) = s.frame == frame

abbrev pub is_to_write : ℕ → Option Standing → Bool
is_to_write frame None = false
is_to_write frame (Some s) = (s.frame == frame) && is_for_writing s.mode

-- a read or write names a mapping that stands, and shows its frame; a write goes through a mapping for writing
abbrev pub touches_a_mapping : State → Line → Bool
touches_a_mapping state (lines.Move (moves.Read who number frame word value)) = is_of_frame frame (standing_at state.standing number)
touches_a_mapping state (lines.Move (moves.Write who number frame word value)) = is_to_write frame (standing_at state.standing number)
touches_a_mapping state line = true
