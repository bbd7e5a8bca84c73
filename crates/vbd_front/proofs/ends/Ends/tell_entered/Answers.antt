use Rattle.vbd_front.specs.Inside.{view_of}
use Rattle.vbd_front.proofs.PartTurns.{told_entered, entered_each}
use Rattle.vbd_front.proofs.ends.Ends.tell_entered.Goals as goal

pub returns-clause-ends : goal.returns-clause-ends
returns-clause-ends c = told_entered c.args.self.now (view_of c.self.inside) c.tell_entered.new.self c.args.count c.self.view_is c.requires.part c.tell_entered.ensures.front

pub returns-clause-each : goal.returns-clause-each
returns-clause-each c = entered_each c.args.self.now (view_of c.self.inside) c.args.count c.self.view_is c.requires.part c.tell_entered.ensures.each
