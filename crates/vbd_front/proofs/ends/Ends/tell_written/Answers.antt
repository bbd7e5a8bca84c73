use Rattle.vbd_front.specs.Inside.{view_of}
use Rattle.vbd_front.proofs.PartTurns.{told_written, written_each}
use Rattle.vbd_front.proofs.ends.Ends.tell_written.Goals as goal

pub returns-clause-ends : goal.returns-clause-ends
returns-clause-ends c = told_written c.args.self.now (view_of c.self.inside) c.tell_written.new.self c.args.count c.self.view_is c.requires.part c.tell_written.ensures.front

pub returns-clause-each : goal.returns-clause-each
returns-clause-each c = written_each c.args.self.now (view_of c.self.inside) c.args.count c.self.view_is c.requires.part c.tell_written.ensures.each
