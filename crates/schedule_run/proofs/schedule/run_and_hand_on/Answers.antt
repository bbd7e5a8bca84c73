use Rattle.std.proofs.Common.{subst}
use Rattle.schedule_run.specs.Outcome.{outside, RunsTo}
use Rattle.schedule_run.proofs.Ending.{done_unsent, handed_done}
use Rattle.schedule_run.proofs.schedule.run_and_hand_on.Goals as goal

pub returns-in-Err-Ok : goal.returns-in-Err-Ok
returns-in-Err-Ok g c =
    let old = outside (g.D.SectorDisk.seen c.args.disk.now) (g.R.Recorder.seen c.args.recorder.now) in
    let told = outside (g.D.SectorDisk.seen c.report-ended.new.disk) (g.R.Recorder.seen c.report-ended.new.recorder) in
    done_unsent _ _ _ _ old _ (g.R.Recorder.seen c.report-ended.new.recorder) _
    (subst (λ r. RunsTo c.args.config c.args.bytes_limit r (g.S.Source.seen c.args.source.now) (g.S.Source.seen c.report-ended.new.source) old told) c.in-Err-Ok.is-1 c.report-ended.ensures) c.in-Err-Ok.ensures

pub returns-in_default-2 : goal.returns-in_default-2
returns-in_default-2 g c = handed_done _ _ _ _ _ _ _ _ _ c.report-ended.ensures c.in_default.ensures
