-- The kinds of moves that say the most besides reads and writes of a word: the front's others on its memory
-- and its port, and the hypercalls of the back and its jobs on grants and ports.
use Rattle.blk_base.specs.declared.moves.Move.{Move}
use Rattle.blk_base.specs.declared.moves.Move.TheVariants as moves

-- the front compared and exchanged a word of its memory, or made its port
abbrev pub IsFrontMove : Move → Type 0
IsFrontMove (moves.FrontCas frame word old new seen) = Unit {0}
IsFrontMove (moves.FrontPort port) = Unit {0}
IsFrontMove move = ⊥

-- a grant mapped or unmapped, or the front's port bound, or refused so
abbrev pub IsBackCall : Move → Type 0
IsBackCall (moves.Map who gref mode mapping frame) = Unit {0}
IsBackCall (moves.MapRefused who gref mode status) = Unit {0}
IsBackCall (moves.Unmap who mapping) = Unit {0}
IsBackCall (moves.Bind port) = Unit {0}
IsBackCall (moves.BindRefused port) = Unit {0}
IsBackCall move = ⊥
