-- what is refused changes nothing: the front's clauses say what it is then
use Rattle.vbd_c.proofs.FrontMoves.{refused_keeps}
use Rattle.vbd_c.proofs.front_held.HeldFront.submit.Goals as goal

pub returns-clause-refused : goal.returns-clause-refused
returns-clause-refused c = rw c.submit.ensures.answer (rw c.submit.ensures.front (rw c.self.view_is (refused_keeps c.args.self.now c.args.submission)))
