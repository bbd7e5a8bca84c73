use Rattle.blk_back.specs.Inside.{view_of}
use Rattle.blk_back.proofs.Keeping.{halted_entire}
use Rattle.blk_back.proofs.back.Back.halt.Goals as goal

pub returns-in-Loop-clause-hands : goal.returns-in-Loop-clause-hands
returns-in-Loop-clause-hands c = rw (← c.self.view_is) (halted_entire c.args.why (view_of c.self.inside) c.abort.new.self c.in-Loop.is c.abort.ensures)
