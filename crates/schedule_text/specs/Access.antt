-- The line of an access: how one by the back's side begins, and what its pieces make of the room that it is made in.
use Rattle.std.specs.Prelude.{◌≡◌, ℕ, ◌+◌, ◌≤◌, List, ◌++◌, codes, decimal, drop}
use Rattle.blk_base.specs.declared.moves.BackMover.{BackMover}
use Rattle.blk_base.specs.declared.moves.BackMover.TheVariants as back_mover

-- the line's first words, which say who moves
abbrev pub access_head : BackMover → List ℕ
access_head back_mover.Back = codes "m back"
access_head (back_mover.Job k) = codes "m job " ++ decimal k

-- these bytes were put before those from `end` on; they begin at `start`, and are that many at most
pub record Prepends (bytes : List ℕ) (most : ℕ) (before : List ℕ) (end : ℕ) (after : List ℕ) (start : ℕ) : Type 0 where
  pub written : drop start after ≡ bytes ++ drop end before
  pub fits : (start ≤ end) × (end ≤ start + most)
