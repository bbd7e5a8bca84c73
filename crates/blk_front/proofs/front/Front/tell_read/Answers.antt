use Rattle.blk_front.specs.Inside.{view_of}
use Rattle.blk_front.proofs.PartSteps.{told_data, told_left, read_each}
use Rattle.blk_front.proofs.front.Front.tell_read.Goals as goal

pub returns-in-ReadData-clause-front : goal.returns-in-ReadData-clause-front
returns-in-ReadData-clause-front c =
    told_data c.args.self.now (view_of c.self.inside) c.read_data.new.self c.in-ReadData.n c.args.words.now c.in-Some.rest.now c.put_words.new.sector c.in-Some.last.now c.self.view_is c.in-ReadData.is c.requires.part c.in-Some.ensures.cases c.put_words.ensures c.read_data.ensures

pub returns-in-ReadData-clause-each : goal.returns-in-ReadData-clause-each
returns-in-ReadData-clause-each c = read_each _ _ c.requires.part c.requires.told

pub returns-in-LeftData-clause-front : goal.returns-in-LeftData-clause-front
returns-in-LeftData-clause-front c =
    told_left c.args.self.now (view_of c.self.inside) c.read_left.new.self c.in-LeftData.n c.args.words.now c.in-Some.rest.now c.put_words-in-LeftData.new.sector c.in-Some.last.now c.self.view_is c.in-LeftData.is c.requires.part c.in-Some.ensures.cases c.put_words-in-LeftData.ensures c.read_left.ensures

pub returns-in-LeftData-clause-each : goal.returns-in-LeftData-clause-each
returns-in-LeftData-clause-each c = read_each _ _ c.requires.part c.requires.told
