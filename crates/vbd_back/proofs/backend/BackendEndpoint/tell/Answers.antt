use Rattle.std.proofs.Common.{◌∙◌, ap}
use Rattle.vbd_back.specs.View.{View}
use Rattle.vbd_back.specs.Step.{step_of}
use Rattle.vbd_back.proofs.Plain.{stepped}
use Rattle.vbd_back.proofs.Turns.{hands_done}
use Rattle.vbd_back.proofs.backend.BackendEndpoint.tell.Goals as goal

pub invariant_of-self : goal.invariant_of-self
invariant_of-self c = (stepped c.self.inside.back c.tell.new.self c.args.answer.now c.self.invariant c.tell.ensures.completed).plain

pub returns-clause-completed : goal.returns-clause-completed
returns-clause-completed c =
    (stepped c.self.inside.back c.tell.new.self c.args.answer.now c.self.invariant c.tell.ensures.completed).is ∙ ap (λ (v : View). step_of v c.args.answer.now) c.self.view_is

pub returns-clause-hands : goal.returns-clause-hands
returns-clause-hands c = hands_done c.args.self.now c.tell.new.self.ends c.args.answer.now (returns-clause-completed c) c.requires.0
