-- Reads and writes of one word among the moves that a report shows.
use Rattle.std.specs.Prelude.{Bool, true, false}
use Rattle.blk_base.specs.declared.moves.Access.{Access}
use Rattle.blk_base.specs.declared.moves.Access.TheVariants as access
use Rattle.blk_base.specs.declared.moves.Move.{Move}
use Rattle.blk_base.specs.declared.moves.Move.TheVariants as moves

-- the move that an access is
abbrev pub move_of : Access → Move
move_of (access.FrontRead frame word value) = moves.FrontRead frame word value
move_of (access.FrontWrite frame word value) = moves.FrontWrite frame word value
move_of (access.Read who mapping frame word value) = moves.Read who mapping frame word value
move_of (access.Write who mapping frame word value) = moves.Write who mapping frame word value

-- whether a move reads or writes a word
abbrev pub is_access : Move → Bool
is_access (moves.FrontRead frame word value) = true
is_access (moves.FrontWrite frame word value) = true
is_access (moves.Read who mapping frame word value) = true
is_access (moves.Write who mapping frame word value) = true
is_access move = false
