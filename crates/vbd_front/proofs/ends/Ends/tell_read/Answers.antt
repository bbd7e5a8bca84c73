use Rattle.vbd_front.specs.Inside.{view_of}
use Rattle.vbd_front.proofs.PartTurns.{told_read, read_each}
use Rattle.vbd_front.proofs.ends.Ends.tell_read.Goals as goal

pub returns-clause-ends : goal.returns-clause-ends
returns-clause-ends c = told_read c.args.self.now (view_of c.self.inside) c.tell_read.new.self c.args.words.now c.self.view_is c.requires.part c.tell_read.ensures.front

pub returns-clause-each : goal.returns-clause-each
returns-clause-each c = read_each c.args.self.now (view_of c.self.inside) c.args.words.now c.self.view_is c.requires.part c.tell_read.ensures.each
