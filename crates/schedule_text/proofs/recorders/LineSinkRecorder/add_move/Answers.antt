use Rattle.std.proofs.Common.{refl}
use Rattle.schedule_text.proofs.Adding.{sent, sent_access}
use Rattle.schedule_text.proofs.recorders.LineSinkRecorder.add_move.Goals as goal

pub returns-in-Some : goal.returns-in-Some
returns-in-Some g c = rw c.in-Moves.is (sent_access _ _ _ _ _ _ _ c.access.ensures.same c.in-Some.is c.write_accessed.ensures)

pub returns-in-None : goal.returns-in-None
returns-in-None g c = rw c.in-Moves.is (sent _ _ _ _ _ _ _ refl c.write_move.ensures)
