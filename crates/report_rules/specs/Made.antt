-- The mappings that jobs made and that stand (`grant_table.h`): what a job has to unmap before its reply, whoever unmaps it, and what may be kept under persistent grants (`io/blkif.h`, feature-persistent).
use Rattle.std.specs.Prelude.{ℕ, Bool, ◌&&◌, if◌then◌else◌, List, [], ◌∷◌, Option, Some, None}
use Rattle.std.specs.List.{list_all, cons_option}
use Rattle.blk_base.specs.declared.moves.BackMover.TheVariants as back
use Rattle.blk_base.specs.declared.moves.Move.TheVariants as moves
use Rattle.grant_table.specs.Entry.{is_for_writing}
use Rattle.schedule_text.specs.declared.line.Line.{Line}
use Rattle.schedule_text.specs.declared.line.Line.TheVariants as lines
use Rattle.report_rules.specs.declared.standing.Standing.{Standing}
use Rattle.report_rules.specs.Standing.{this_epoch, unless_unmapped}
use Rattle.report_rules.specs.Published.{is_persistent}
use Rattle.report_rules.specs.Job.{is_job, back_mover_job}

-- the mapping that job k made in a line
abbrev pub made_by : ℕ → Line → Option Standing
made_by k (lines.Move (moves.Map who gref mode number frame)) = if is_job k (back_mover_job who) then Some (record { number = number; gref = gref; mode = mode; frame = frame }) else None
made_by k line = None

-- the mappings that job k made in these lines and that no later one of them unmaps
abbrev pub left_to : ℕ → List Line → List Standing
left_to k [] = []
left_to k (line ∷ later) = cons_option (unless_unmapped later (made_by k line)) (left_to k later)

-- the mappings that job k made in this epoch and that stand
abbrev pub held_by : ℕ → List Line → List Standing
held_by k before = left_to k (this_epoch before)

-- under persistent grants a mapping for writing may stand longer than its job
abbrev pub may_stand : Bool → Standing → Bool
may_stand persistent s = persistent && is_for_writing s.mode

-- no mapping that job k made stands, but those that may
abbrev pub has_unmapped : List Line → ℕ → Bool
has_unmapped before k = list_all (may_stand (is_persistent before)) (held_by k before)

-- a mapping for writing that a job made in a line, whichever job
abbrev pub made_for_writing : Line → Option Standing
made_for_writing (lines.Move (moves.Map (back.Job k) gref mode number frame)) = if is_for_writing mode then Some (record { number = number; gref = gref; mode = mode; frame = frame }) else None
made_for_writing line = None

abbrev pub left_for_writing : List Line → List Standing
left_for_writing [] = []
left_for_writing (line ∷ later) = cons_option (unless_unmapped later (made_for_writing line)) (left_for_writing later)

-- the mappings for writing that jobs made in this epoch and that stand: those that a later job may take
abbrev pub kept_before : List Line → List Standing
kept_before before = left_for_writing (this_epoch before)
