-- What a map is answered (`grant_table.h`, GNTTABOP_map_grant_ref): the two words of the reference's entry decide, as they are when the map is made.
use Rattle.std.specs.Prelude.{◌≡◌, ℕ, ◌+◌, ◌*◌, ◌/◌, ◌%◌, Bool, false, List, Result, Ok, Err}
use Rattle.std.specs.List.{list_any}
use Rattle.blk_base.specs.declared.parts.Mode.{Mode}
use Rattle.blk_base.specs.declared.moves.Move.TheVariants as moves
use Rattle.grant_table.specs.declared.entry.MapRefusal.{MapRefusal}
use Rattle.grant_table.specs.Entry.{verdict_of, status_of}
use Rattle.schedule_text.specs.declared.line.Line.{Line}
use Rattle.schedule_text.specs.declared.line.Line.TheVariants as lines
use Rattle.report_rules.specs.Obeys.{Obeys}
use Rattle.report_rules.specs.Standing.{mapping_made, has_number}
use Rattle.report_rules.specs.Value.{value_before}

-- the verdict on a map after these lines: the entry of a reference is two words of frame `gref / 512`
abbrev pub map_verdict : List Line → ℕ → Mode → Result ℕ MapRefusal
map_verdict before gref mode = verdict_of gref (value_before before (gref / 512) (2 * (gref % 512))) (value_before before (gref / 512) (2 * (gref % 512) + 1)) mode

-- a mapping of that number was made by then, in any epoch
abbrev pub was_made : List Line → ℕ → Bool
was_made before number = list_any (λ (line : Line). has_number number (mapping_made line)) before

-- a map gives the frame that its entry grants, and a number that no earlier mapping had; a refused map has the status of its refusal
abbrev pub IsMapAnswerAt : List Line → Line → Type 0
IsMapAnswerAt before (lines.Move (moves.Map who gref mode number frame)) =
    (map_verdict before gref mode ≡ Ok frame) × (was_made before number ≡ false)
IsMapAnswerAt before (lines.Move (moves.MapRefused who gref mode status)) =
    (refusal : MapRefusal) × (map_verdict before gref mode ≡ Err refusal) × (status ≡ status_of refusal)
IsMapAnswerAt before line = Unit {0}

abbrev pub AreMapAnswers : List Line → Type 0
AreMapAnswers report = Obeys IsMapAnswerAt report
