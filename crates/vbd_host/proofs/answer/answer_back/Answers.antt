use Rattle.vbd_host.proofs.Steps.{did_other}
use Rattle.vbd_host.proofs.answer.answer_back.Goals as goal

pub returns-in_default-clause-done : goal.returns-in_default-clause-done
returns-in_default-clause-done g c = did_other g.H.BackHost.does _ _ _ _ c.in_default.not-Wait c.answer_memory.ensures.done
