-- The text of an access through a mapping, by the pieces that it is read in.
use Rattle.std.proofs.Common.{rules, ◌≡◌, ℕ, List, [], ◌∷◌, ◌++◌, refl, codes, decimal, append_assoc}
use Rattle.line_text.specs.Numbers.{hex8}
use Rattle.line_text.specs.Words.{spaced}
use Rattle.blk_base.specs.declared.moves.BackMover.{BackMover}
use Rattle.blk_base.specs.declared.moves.BackMover.TheVariants as back_mover
use Rattle.blk_base.specs.declared.moves.Move.TheVariants as moves
use Rattle.schedule_text.specs.declared.line.Line.TheVariants as lines
use Rattle.schedule_text.specs.Line.{text_of}
use Rattle.schedule_text.specs.Access.{access_head}

pub back_read_text : (who : BackMover) (m f w v : ℕ) (text rest : List ℕ) → text ≡ decimal m ++ 32 ∷ rest → rest ≡ decimal f ++ spaced (decimal w ∷ hex8 v ∷ [])
    → text_of (lines.Move (moves.Read who m f w v)) ≡ access_head who ++ 32 ∷ (codes "read " ++ text)
back_read_text back_mover.Back m f w v text rest is after = rw (is, after) refl
back_read_text (back_mover.Job k) m f w v text rest is after = rw (is, after) (search rules)

-- the same text, by the pieces that it is written in
pub read_pieces : (who : BackMover) (m f w v : ℕ) → (access_head who ++ 32 ∷ codes "read") ++ spaced (decimal m ∷ decimal f ∷ decimal w ∷ hex8 v ∷ []) ≡ text_of (lines.Move (moves.Read who m f w v))
read_pieces back_mover.Back m f w v = refl
read_pieces (back_mover.Job k) m f w v = simp append_assoc

pub write_pieces : (who : BackMover) (m f w v : ℕ) → (access_head who ++ 32 ∷ codes "write") ++ spaced (decimal m ∷ decimal f ∷ decimal w ∷ hex8 v ∷ []) ≡ text_of (lines.Move (moves.Write who m f w v))
write_pieces back_mover.Back m f w v = refl
write_pieces (back_mover.Job k) m f w v = simp append_assoc
