-- Which mappings stand (`grant_table.h`: from GNTTABOP_map_grant_ref to GNTTABOP_unmap_grant_ref): each from its `map .. ok` line to the `unmap` of its number, and none past an `epoch`.
use Rattle.std.specs.Prelude.{ℕ, Bool, true, false, not, ◌&&◌, ◌==◌, if◌then◌else◌, List, [], ◌∷◌, find, count_by, Option, Some, None}
use Rattle.std.specs.List.{list_any, after_last, cons_option}
use Rattle.grant_table.specs.Entry.{is_for_writing}
use Rattle.blk_base.specs.declared.moves.Move.TheVariants as moves
use Rattle.schedule_text.specs.declared.line.Line.{Line}
use Rattle.schedule_text.specs.declared.line.Line.TheVariants as lines
use Rattle.report_rules.specs.declared.standing.Standing.{Standing}

abbrev pub is_epoch : Line → Bool
is_epoch lines.Epoch = true
is_epoch line = false

-- the lines of the present epoch: those after the last `epoch`
abbrev pub this_epoch : List Line → List Line
this_epoch before = after_last is_epoch before

-- the mapping that a line made
abbrev pub mapping_made : Line → Option Standing
mapping_made (lines.Move (moves.Map who gref mode number frame)) = Some (record { number = number; gref = gref; mode = mode; frame = frame })
mapping_made line = None

-- a mapping, if it is one, has that number
abbrev pub has_number : ℕ → Option Standing → Bool
has_number number None = false
has_number number (Some s) = s.number == number

-- a line unmaps that number
abbrev pub is_unmap_of : ℕ → Line → Bool
is_unmap_of number (lines.Move (moves.Unmap who other)) = other == number
is_unmap_of number line = false

-- a mapping that was made, unless one of these later lines unmaps it
abbrev pub unless_unmapped : List Line → Option Standing → Option Standing
unless_unmapped later None = None
unless_unmapped later (Some made) = if list_any (is_unmap_of made.number) later then None else Some made

-- the mappings that these lines made and that no later one of them unmaps, in order
abbrev pub left_of : List Line → List Standing
left_of [] = []
left_of (line ∷ later) = cons_option (unless_unmapped later (mapping_made line)) (left_of later)

-- the mappings that stand after these lines, in the order in which they were made
abbrev pub standing_after : List Line → List Standing
standing_after before = left_of (this_epoch before)

-- the mapping of a number
abbrev pub numbered : ℕ → List Standing → Option Standing
numbered number standing = find (λ s. s.number == number) standing

-- how many of these mappings, but for one number, are of a reference, and how many of those may write
abbrev pub others_of : ℕ → ℕ → List Standing → ℕ
others_of gref number standing = count_by (λ s. (s.gref == gref) && not (s.number == number)) standing

abbrev pub other_writers_of : ℕ → ℕ → List Standing → ℕ
other_writers_of gref number standing = count_by (λ s. (s.gref == gref) && is_for_writing s.mode && not (s.number == number)) standing
