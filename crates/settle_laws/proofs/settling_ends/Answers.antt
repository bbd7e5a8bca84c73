use Rattle.settle_laws.proofs.Settling.{each_settling_ends, each_schedule_settles, each_beginning_settles}
use Rattle.settle_laws.proofs.settling_ends.Goals as goal

pub returns-clause-each : goal.returns-clause-each
returns-clause-each c = each_settling_ends

pub returns-clause-schedules : goal.returns-clause-schedules
returns-clause-schedules c = each_schedule_settles

pub returns-clause-beginnings : goal.returns-clause-beginnings
returns-clause-beginnings c = each_beginning_settles
