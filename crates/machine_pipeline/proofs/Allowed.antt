-- Of what is served and what is possible: the first part of a history.
use Rattle.std.proofs.Common.{List, [], ◌∷◌, ◌++◌}
use Rattle.split_model.specs.World.{World}
use Rattle.split_model.specs.Happening.{Happening, happens}
use Rattle.machine_pipeline.specs.Allowed.{AreServed, ArePossible}

-- the first part of what is served
pub served_first : (first rest : List Happening) (w : World) → AreServed (first ++ rest) w → AreServed first w
served_first [] rest w p = tt
served_first (h ∷ first) rest w p = (p.0, served_first first rest (happens w h) p.1)

-- the first part of what is possible
pub possible_first : (first rest : List Happening) (w : World) → ArePossible (first ++ rest) w → ArePossible first w
possible_first [] rest w p = tt
possible_first (h ∷ first) rest w p = (p.0, possible_first first rest (happens w h) p.1)
