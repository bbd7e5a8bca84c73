-- Effects: each move of the disk is followed by the one line that tells its outcome, and those lines stand nowhere else.
use Rattle.std.specs.Prelude.{◌≡◌, ◌≢◌, ℕ, ◌+◌, List, [], ◌∷◌, reverse, Option, Some, None, IfSome, IsSomeAnd}
use Rattle.blk_base.specs.declared.moves.Move.TheVariants as moves
use Rattle.schedule_text.specs.declared.line.Line.{Line}
use Rattle.schedule_text.specs.declared.line.Line.TheVariants as lines
use Rattle.report_rules.specs.declared.effect.DiskCall.{DiskCall}
use Rattle.report_rules.specs.declared.effect.DiskCall.TheVariants.{Read, Write, Flush, Trim}
use Rattle.report_rules.specs.declared.effect.DiskMove.{DiskMove}
use Rattle.report_rules.specs.declared.effect.Outcome.{Outcome}
use Rattle.report_rules.specs.Obeys.{Obeys}
use Rattle.report_rules.specs.Job.{fetched_of, id_of, disk_moves_of}

abbrev pub disk_move : ℕ → DiskCall → DiskMove
disk_move job call = record { job = job; call = call }

-- the move of the disk that a line is
abbrev pub disk_move_of : Line → Option DiskMove
disk_move_of (lines.Move (moves.DiskRead k sector)) = Some (disk_move k Read)
disk_move_of (lines.Move (moves.DiskWrite k sector)) = Some (disk_move k Write)
disk_move_of (lines.Move (moves.DiskFlush k)) = Some (disk_move k Flush)
disk_move_of (lines.Move (moves.DiskTrim k sector count)) = Some (disk_move k Trim)
disk_move_of line = None

abbrev pub last_disk_move : List Line → Option DiskMove
last_disk_move [] = None
last_disk_move (line ∷ earlier) = disk_move_of line

-- the move of the disk that the last line is
abbrev pub disk_move_shown : List Line → Option DiskMove
disk_move_shown before = last_disk_move (reverse before)

abbrev pub outcome : Option DiskCall → ℕ → ℕ → Outcome
outcome call id index = record { call = call; id = id; index = index }

-- what a line says of a move of the disk: what was done, or that it failed, by the number of its request and the place in it, 0 for a flush and a discard
abbrev pub outcome_of : Line → Option Outcome
outcome_of (lines.EffectRead id index words) = Some (outcome (Some Read) id index)
outcome_of (lines.Effect id index) = Some (outcome (Some Write) id index)
outcome_of (lines.Flushed id) = Some (outcome (Some Flush) id 0)
outcome_of (lines.Trimmed id) = Some (outcome (Some Trim) id 0)
outcome_of (lines.Fault id index) = Some (outcome None id index)
outcome_of line = None

-- the outcome of a move of the disk: it was done or it failed; the number is that of the job's request, and the place is how often the job moved the disk before
pub record IsOutcomeOf (before : List Line) (moved : DiskMove) (o : Outcome) : Type 0 where
  pub done : IfSome o.call (λ call. call ≡ moved.call)
  pub request : IsSomeAnd (fetched_of before moved.job) (λ f. id_of f.request ≡ o.id)
  pub place : o.index + 1 ≡ disk_moves_of before moved.job

-- after a move of the disk stands its outcome, and nowhere else does such a line stand
pub record IsEffectAt (before : List Line) (line : Line) : Type 0 where
  pub told : IfSome (disk_move_shown before) (λ moved. IsSomeAnd (outcome_of line) (IsOutcomeOf before moved))
  pub only : outcome_of line ≢ None → disk_move_shown before ≢ None

abbrev pub AreEffects : List Line → Type 0
AreEffects report = Obeys IsEffectAt report
