use Rattle.std.proofs.Common.{rules}
use Rattle.commands.proofs.Reporting.{has_run, run_stops, stop_reports, done_reports}
use Rattle.commands.proofs.top.run_schedule.Goals as goal

pub returns-in-Err-clause-ends : goal.returns-in-Err-clause-ends
returns-in-Err-clause-ends g c =
    run_stops _ _ c.in-Err.stop _ c.in-Ok.sectors _ _ _ c.run_stop.ensures
    (has_run _ _ _ _ _ _ _ _ _ _ _ _ _ _ _ c.in-Ok.ensures (search rules) c.in-Err.ensures.runs c.in-Err.ensures.lawful)

pub returns-in-Err-clause-reported : goal.returns-in-Err-clause-reported
returns-in-Err-clause-reported g c =
    stop_reports _ _ c.in-Err.stop _ c.in-Ok.sectors _ _ _ c.run_stop.ensures
    (has_run _ _ _ _ _ _ _ _ _ _ _ _ _ _ _ c.in-Ok.ensures (search rules) c.in-Err.ensures.runs c.in-Err.ensures.lawful)

pub returns-in-Ok-run-clause-reported : goal.returns-in-Ok-run-clause-reported
returns-in-Ok-run-clause-reported g c =
    done_reports _ _ c.in-Ok.sectors _ _ _
    (has_run _ _ _ _ _ _ _ _ _ _ _ _ _ _ _ c.in-Ok.ensures (search rules) c.in-Ok-run.ensures.runs c.in-Ok-run.ensures.lawful)
