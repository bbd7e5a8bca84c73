use Rattle.std.proofs.Common.{sym, ◌∙◌}
use Rattle.schedule_run.proofs.Moving.{asked_now}
use Rattle.schedule_run.proofs.split.Split.front_move.Goals as goal

pub front_writes-requires-clause-asked : goal.front_writes-requires-clause-asked
front_writes-requires-clause-asked g c = rw (← c.self.view_is) (sym c.in-Some-Write.field-0-is ∙ asked_now c.self.inside.front _ c.self.invariant.0 c.in-Some-Write.ensures.asked)

pub front_reads-requires-clause-asked : goal.front_reads-requires-clause-asked
front_reads-requires-clause-asked g c = rw (← c.self.view_is) (sym c.in-Some-Read.field-0-is ∙ asked_now c.self.inside.front _ c.self.invariant.0 c.in-Some-Read.ensures.asked)
