use Rattle.blk_front.specs.Inside.{view_of}
use Rattle.blk_front.proofs.PartSteps.{told_written, written_each}
use Rattle.blk_front.proofs.front.Front.tell_written.Goals as goal

pub returns-clause-front : goal.returns-clause-front
returns-clause-front c =
    told_written c.args.self.now (view_of c.self.inside) c.wrote_data.new.self c.args.count c.written_word.result c.self.view_is c.requires.part c.if-count-eq0.false c.written_word.ensures c.wrote_data.ensures

pub returns-clause-each : goal.returns-clause-each
returns-clause-each c = written_each c.args.self.now c.args.count c.requires.part c.requires.told
