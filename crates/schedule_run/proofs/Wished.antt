-- In a possible history the order that is agreed is the one that the front wished.
use Rattle.std.proofs.Common.{ℕ, List, [], ◌∷◌, ◌∙◌, refl}
use Rattle.blk_base.specs.Options.{Options}
use Rattle.blk_front.specs.declared.state.FrontState.TheVariants.{Agreed}
use Rattle.split_model.specs.World.{World, start_of}
use Rattle.split_model.specs.Happening.{Happening, FrontEnters, happens}
use Rattle.move_laws.specs.Dumped.{IsWished, AreWished}
use Rattle.move_laws.proofs.Wished.{HasOrder, order_happens}
use Rattle.machine_pipeline.specs.Allowed.{IsPossible, ArePossible}

wished_here : (order : ℕ) (w : World) (h : Happening) → HasOrder order w → IsPossible w h → IsWished order h
wished_here order w (FrontEnters (Agreed agreed)) is may = may ∙ is
wished_here order w h is may = tt

wished_all : (order : ℕ) (history : List Happening) (w : World) → HasOrder order w → ArePossible history w → AreWished order history
wished_all order [] w is may = tt
wished_all order (h ∷ history) w is may =
    let here = wished_here order w h is may.0 in
    (here, wished_all order history (happens w h) (order_happens order w h here is) may.1)

pub possible_wished : (config : Options) (history : List Happening) → ArePossible history (start_of config) → AreWished config.order history
possible_wished config history may = wished_all config.order history (start_of config) refl may
