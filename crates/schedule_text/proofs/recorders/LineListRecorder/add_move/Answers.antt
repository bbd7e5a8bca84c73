use Rattle.std.proofs.Common.{refl}
use Rattle.schedule_text.proofs.Adding.{listed}
use Rattle.schedule_text.proofs.recorders.LineListRecorder.add_move.Goals as goal

pub returns-in-Moves : goal.returns-in-Moves
returns-in-Moves g c = rw c.in-Moves.is (listed _ _ _ _ _ _ refl c.push_move.ensures)
