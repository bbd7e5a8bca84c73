-- What a read moves: the words that a job writes to the guest are those that the disk gave.
use Rattle.std.specs.Prelude.{◌≡◌, ℕ, ◌%◌, if◌then◌else◌, List, [], ◌∷◌, slice_index, Option, Some, None, IsSomeAnd}
use Rattle.blk_base.specs.declared.moves.BackMover.TheVariants as back
use Rattle.blk_base.specs.declared.moves.Move.TheVariants as moves
use Rattle.schedule_text.specs.declared.line.Line.{Line}
use Rattle.schedule_text.specs.declared.line.Line.TheVariants as lines
use Rattle.report_rules.specs.Obeys.{Obeys}
use Rattle.report_rules.specs.Standing.{this_epoch}
use Rattle.report_rules.specs.Job.{disk_mover, is_job}

abbrev pub words_in : Line → Option (List ℕ)
words_in (lines.EffectRead id index words) = Some words
words_in line = None

-- the words that the first of these lines shows, if it is the effect of a read
abbrev pub words_after : List Line → Option (List ℕ)
words_after [] = None
words_after (line ∷ later) = words_in line

-- the words that the disk gave at the last move of job k, where these were known before
abbrev pub words_from : Option (List ℕ) → ℕ → List Line → Option (List ℕ)
words_from known k [] = known
words_from known k (line ∷ later) = words_from (if is_job k (disk_mover line) then words_after later else known) k later

-- a word that a job writes is the word at that place of the sector that it read last
abbrev pub IsDataAt : List Line → Line → Type 0
IsDataAt before (lines.Move (moves.Write (back.Job k) number frame word value)) = IsSomeAnd (words_from None k (this_epoch before)) (λ words. value ≡ slice_index words (word % 128))
IsDataAt before line = Unit {0}

abbrev pub AreData : List Line → Type 0
AreData report = Obeys IsDataAt report
