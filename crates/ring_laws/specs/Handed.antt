-- A fact about the machine whose back may keep mappings, and no rule of reports: a job touches and unmaps only mappings that stand, and that it made itself in this epoch, or, once both ends said that they keep grants, that some job made for writing.
use Rattle.std.specs.Prelude.{◌≡◌, ℕ, Bool, true, false, ◌&&◌, ◌||◌, List, [], ◌∷◌, is_some}
use Rattle.blk_base.specs.declared.moves.BackMover.{BackMover}
use Rattle.blk_base.specs.declared.moves.BackMover.TheVariants as back
use Rattle.blk_base.specs.declared.moves.Move.TheVariants as moves
use Rattle.schedule_text.specs.declared.line.Line.{Line}
use Rattle.schedule_text.specs.declared.line.Line.TheVariants as lines
use Rattle.report_rules.specs.Obeys.{Obeys}
use Rattle.report_rules.specs.declared.published.Keeping.{Keeping}
use Rattle.report_rules.specs.Published.{kept_by, keeping_after, is_kept}
use Rattle.report_rules.specs.Standing.{this_epoch, numbered}
use Rattle.report_rules.specs.Made.{held_by, kept_before}

-- both ends said by some of these lines that they keep grants, where this was said before them
abbrev pub have_kept : Keeping → List Line → Bool
have_kept s [] = is_kept s
have_kept s (line ∷ later) = is_kept s || have_kept (keeping_after s line) later

-- so it was in this epoch
abbrev pub were_persistent : List Line → Bool
were_persistent before = have_kept (kept_by false false) (this_epoch before)

-- the mapping of a number stands, and job k made it or it may be kept
abbrev pub is_handed : ℕ → List Line → ℕ → Bool
is_handed k before number = is_some (numbered number (held_by k before)) || (were_persistent before && is_some (numbered number (kept_before before)))

-- of the back's own moves nothing is said
abbrev pub IsHandedBy : BackMover → List Line → ℕ → Type 0
IsHandedBy back.Back before number = Unit {0}
IsHandedBy (back.Job k) before number = is_handed k before number ≡ true

-- so is each mapping that a job reads or writes through, or unmaps
abbrev pub IsHandedAt : List Line → Line → Type 0
IsHandedAt before (lines.Move (moves.Read who number frame word value)) = IsHandedBy who before number
IsHandedAt before (lines.Move (moves.Write who number frame word value)) = IsHandedBy who before number
IsHandedAt before (lines.Move (moves.Unmap who number)) = IsHandedBy who before number
IsHandedAt before line = Unit {0}

abbrev pub AreHanded : List Line → Type 0
AreHanded report = Obeys IsHandedAt report
