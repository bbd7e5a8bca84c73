use Rattle.std.proofs.Common.{subst}
use Rattle.std.specs.Prelude.{IfSome}
use Rattle.blk_front.specs.Part.{AsksEntry}
use Rattle.vbd_front.specs.View.{View}
use Rattle.vbd_front.specs.Ask.{ask_of}
use Rattle.vbd_front.specs.Step.{step_of}
use Rattle.vbd_front.specs.Part.{entry_words}
use Rattle.vbd_front.proofs.Unkept.{entries_plainly}
use Rattle.vbd_front.proofs.frontend.Frontend.entry_part.Goals as goal

pub returns-clause-asked : goal.returns-clause-asked
returns-clause-asked c =
    subst (λ (v : View). IfSome c.entry_part.result (AsksEntry ask_of step_of v (entry_words v))) c.self.view_is
    (entries_plainly c.self.inside.front (entry_words c.self.inside.front.ends) c.entry_part.result c.self.invariant c.entry_part.ensures.asked)
