use Rattle.std.proofs.Common.{◌∙◌, ap}
use Rattle.vbd_front.specs.View.{View}
use Rattle.vbd_front.specs.Step.{step_of}
use Rattle.vbd_front.proofs.Unkept.{answers_as_plain, stepped}
use Rattle.vbd_front.proofs.frontend.FrontendEndpoint.tell.Goals as goal

pub tell-requires : goal.tell-requires
tell-requires c = let may = rw (← c.self.view_is) at c.requires in (answers_as_plain c.self.inside.front c.args.answer.now c.self.invariant may.0, may.1)

pub invariant_of-self : goal.invariant_of-self
invariant_of-self c = (stepped c.self.inside.front c.tell.new.self c.args.answer.now c.self.invariant c.tell.ensures.completed).plain

pub returns-clause-completed : goal.returns-clause-completed
returns-clause-completed c =
    (stepped c.self.inside.front c.tell.new.self c.args.answer.now c.self.invariant c.tell.ensures.completed).is ∙ ap (λ (v : View). step_of v c.args.answer.now) c.self.view_is
