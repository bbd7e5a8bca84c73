use Rattle.std.proofs.Common.{subst}
use Rattle.std.specs.Prelude.{IfSome}
use Rattle.blk_front.specs.Part.{AsksEach}
use Rattle.vbd_front.specs.View.{View}
use Rattle.vbd_front.specs.Ask.{ask_of}
use Rattle.vbd_front.specs.Step.{step_of}
use Rattle.vbd_front.proofs.Unkept.{parts_plainly}
use Rattle.vbd_front.proofs.frontend.Frontend.sector_part.Goals as goal

pub returns-clause-asked : goal.returns-clause-asked
returns-clause-asked c =
    subst (λ (v : View). IfSome c.sector_part.result (AsksEach ask_of step_of v)) c.self.view_is (parts_plainly c.self.inside.front c.sector_part.result c.self.invariant c.sector_part.ensures.asked)
