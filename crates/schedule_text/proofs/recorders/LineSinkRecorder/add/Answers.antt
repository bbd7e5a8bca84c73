use Rattle.std.proofs.Common.{refl, arith}
use Rattle.schedule_text.proofs.Adding.{sent}
use Rattle.schedule_text.proofs.recorders.LineSinkRecorder.add.Goals as goal

pub returns-in-Begin-clause-added : goal.returns-in-Begin-clause-added
returns-in-Begin-clause-added g c = rw c.in-Begin.is (sent _ _ _ _ _ _ _ refl c.write_begin.ensures)

pub returns-in-Moves-clause-added : goal.returns-in-Moves-clause-added
returns-in-Moves-clause-added g c = sent _ c.args.line.now _ _ _ _ _ (rw (c.in-Move.is, c.in-Moves.is) refl) c.write.ensures

pub returns-in-Effect-clause-added : goal.returns-in-Effect-clause-added
returns-in-Effect-clause-added g c = sent _ c.args.line.now _ _ _ _ _ (grind arith) c.write_at_once.ensures.written

pub returns-in_default-clause-added : goal.returns-in_default-clause-added
returns-in_default-clause-added g c = sent _ c.args.line.now _ _ _ _ _ (grind arith) c.write-in_default.ensures
