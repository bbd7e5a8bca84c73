-- Worked reports that no machine gives: each has a line of the front's state that isn't due, or lacks one that is.
use Rattle.std.specs.Prelude.{List, [], ◌∷◌, codes, Some}
use Rattle.blk_base.specs.Options.{Options}
use Rattle.blk_base.specs.declared.moves.Mover.TheVariants.{Front}
use Rattle.blk_base.specs.declared.moves.Move.TheVariants.{GetKey, SetKey}
use Rattle.schedule_text.specs.declared.line.Detail.TheVariants.{Moves}
use Rattle.schedule_text.specs.declared.line.Line.{Line}
use Rattle.schedule_text.specs.declared.line.Line.TheVariants as lines
use Rattle.negotiation_laws.specs.Negotiation.{front_state, back_state}

-- the front is said to be ready, or closed, and has not said so itself
abbrev pub ready_unsaid : Options → List Line
ready_unsaid config = lines.Begin config Moves ∷ lines.Ready ∷ []

abbrev pub closed_unsaid : Options → List Line
closed_unsaid config = lines.Begin config Moves ∷ lines.Move (SetKey Front front_state (codes "5")) ∷ lines.Closed ∷ []

-- it says that it is connected (4), or closed (6), and no line does
abbrev pub connected_in_silence : Options → List Line
connected_in_silence config = lines.Begin config Moves ∷ lines.Move (SetKey Front front_state (codes "4")) ∷ lines.End ∷ []

abbrev pub closed_in_silence : Options → List Line
closed_in_silence config = lines.Begin config Moves ∷ lines.Move (SetKey Front front_state (codes "6")) ∷ lines.End ∷ []

-- it reads that the back closes (5), or is closed (6), and goes on
abbrev pub on_at_closing : Options → List Line
on_at_closing config = lines.Begin config Moves ∷ lines.Move (GetKey Front back_state (Some (codes "5"))) ∷ lines.End ∷ []

abbrev pub on_at_closed : Options → List Line
on_at_closed config = lines.Begin config Moves ∷ lines.Move (GetKey Front back_state (Some (codes "6"))) ∷ lines.End ∷ []

-- it begins to close a second time, in the next epoch
abbrev pub closing_again : Options → List Line
closing_again config = lines.Begin config Moves ∷ lines.Closing ∷ lines.Epoch ∷ lines.Closing ∷ []

-- it is broken, and then begins to close
abbrev pub closing_though_broken : Options → List Line
closing_though_broken config = lines.Begin config Moves ∷ lines.Broken 9 ∷ lines.Closing ∷ []

-- it is closed, and hasn't begun to close
abbrev pub closed_at_once : Options → List Line
closed_at_once config = lines.Begin config Moves ∷ lines.Move (SetKey Front front_state (codes "6")) ∷ lines.Closed ∷ []
