use Rattle.std.proofs.Common.{◌∙◌, ap, subst}
use Rattle.blk_front.specs.Part.{all_written}
use Rattle.vbd_front.specs.View.{View}
use Rattle.vbd_front.specs.Part.{steps_of, AreTellable}
use Rattle.vbd_front.proofs.Unkept.{many_stepped, many_told}
use Rattle.vbd_front.proofs.frontend.Frontend.tell_entered.Goals as goal

pub invariant_of-self : goal.invariant_of-self
invariant_of-self c = (many_stepped (all_written c.args.count) c.self.inside.front c.tell_entered.new.self c.self.invariant c.tell_entered.ensures.front).plain

pub returns-clause-front : goal.returns-clause-front
returns-clause-front c =
    (many_stepped (all_written c.args.count) c.self.inside.front c.tell_entered.new.self c.self.invariant c.tell_entered.ensures.front).is ∙ ap (λ (v : View). steps_of v (all_written c.args.count)) c.self.view_is

pub returns-clause-each : goal.returns-clause-each
returns-clause-each c = subst (λ (v : View). AreTellable v (all_written c.args.count)) c.self.view_is (many_told (all_written c.args.count) c.self.inside.front c.self.invariant c.tell_entered.ensures.each)
