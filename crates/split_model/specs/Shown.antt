-- The lines that follow a move's own, for what it made happen at its end.
use Rattle.std.specs.Prelude.{ℕ, List, [], ◌∷◌, Option, Some, None}
use Rattle.blk_base.specs.declared.ask.BackAnswer.{BackAnswer}
use Rattle.blk_base.specs.declared.ask.BackAnswer.TheVariants.{Sector}
use Rattle.schedule_text.specs.declared.line.Line.{Line}
use Rattle.schedule_text.specs.declared.line.Line.TheVariants as lines
use Rattle.blk_front.specs.declared.told.Told.{Told}
use Rattle.blk_front.specs.declared.told.Told.TheVariants as front_told
use Rattle.blk_front.specs.declared.state.FrontState.{FrontState}
use Rattle.blk_front.specs.declared.state.FrontState.TheVariants as state
use Rattle.blk_back.specs.declared.told.BackTold.{BackTold}
use Rattle.blk_back.specs.declared.told.BackTold.TheVariants as back_told
use Rattle.blk_base.specs.declared.halt.Halt.{Halt}

abbrev pub front_lines : Option Told → List Line
front_lines None = []
front_lines (Some (front_told.Answer id status)) = lines.Answer id status ∷ []
front_lines (Some (front_told.Sector id index words)) = lines.Data id index words ∷ []
front_lines (Some (front_told.Broken word)) = lines.Broken word ∷ []

-- the line of a state that the front enters; an order that is agreed and leaving show none
abbrev pub state_lines : FrontState → List Line
state_lines (state.Connected offers) = lines.Ready ∷ []
state_lines state.Closing = lines.Closing ∷ []
state_lines (state.Agreed order) = []
state_lines state.Leaving = []
state_lines state.Closed = lines.Closed ∷ []
state_lines (state.Broken word) = lines.Broken word ∷ []

-- an effect shows the words of a sector that was read
abbrev pub effect_line : ℕ → ℕ → BackAnswer → Line
effect_line id index (Sector words) = lines.EffectRead id index words
effect_line id index answer = lines.Effect id index

abbrev pub back_lines : Option BackTold → BackAnswer → List Line
back_lines None answer = []
back_lines (Some (back_told.Effect id index)) answer = effect_line id index answer ∷ []
back_lines (Some (back_told.Flushed id)) answer = lines.Flushed id ∷ []
back_lines (Some (back_told.Trimmed id)) answer = lines.Trimmed id ∷ []
back_lines (Some (back_told.Fault id index)) answer = lines.Fault id index ∷ []
back_lines (Some (back_told.Reply id status)) answer = lines.Reply id status ∷ []

-- the line of a halt, where the back halts
abbrev pub halt_lines : Option Halt → Option Halt → List Line
halt_lines None (Some h) = lines.Halt h ∷ []
halt_lines before after = []
