use Rattle.blk_front.specs.Inside.{view_of}
use Rattle.blk_front.proofs.EntrySteps.{told_entered, entered_each}
use Rattle.blk_front.proofs.front.Front.tell_entered.Goals as goal

pub returns-then-count-ne0-clause-front : goal.returns-then-count-ne0-clause-front
returns-then-count-ne0-clause-front c =
    told_entered c.args.self.now (view_of c.self.inside) c.wrote_slot.new.self c.in-Slot.k c.args.count c.self.view_is c.in-Slot.is c.requires.part c.if-count-ne0.true c.wrote_slot.ensures

pub returns-then-count-ne0-clause-each : goal.returns-then-count-ne0-clause-each
returns-then-count-ne0-clause-each c = entered_each c.args.self.now c.args.count c.requires.part c.requires.told
