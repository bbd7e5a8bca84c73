use Rattle.std.proofs.Common.{sym, ◌∙◌}
use Rattle.schedule_run.proofs.Moving.{asked_now}
use Rattle.schedule_run.proofs.split.Split.front_goes.Goals as goal

pub front_writes-requires-clause-asked : goal.front_writes-requires-clause-asked
front_writes-requires-clause-asked g c = rw (← c.self.view_is) (sym c.in-Write.is ∙ asked_now c.self.inside.front c.ask.result c.self.invariant.0 c.ask.ensures.value)

pub front_reads-requires-clause-asked : goal.front_reads-requires-clause-asked
front_reads-requires-clause-asked g c = rw (← c.self.view_is) (sym c.in-Read.is ∙ asked_now c.self.inside.front c.ask.result c.self.invariant.0 c.ask.ensures.value)
