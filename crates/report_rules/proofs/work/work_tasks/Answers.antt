use Rattle.std.proofs.Common.{sym, ◌∙◌}
use Rattle.report_rules.proofs.work.work_tasks.Goals as goal

pub add_direct-requires-clause-served : goal.add_direct-requires-clause-served
add_direct-requires-clause-served c = (c.in-Direct.op, c.in-Direct.device, c.in-Direct.id, c.in-Direct.sector, rw c.in-Direct.is at (sym c.check.ensures ∙ c.in-Serve.is))
