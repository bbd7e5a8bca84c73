use Rattle.blk_back.proofs.Keeping.{hands_keep}
use Rattle.blk_back.proofs.back.BackEndpoint.tell.Goals as goal

pub returns-clause-hands : goal.returns-clause-hands
returns-clause-hands c = rw c.step.ensures (hands_keep c.args.self.now c.args.answer.now c.requires.0)
