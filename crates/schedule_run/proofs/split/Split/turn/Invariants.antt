use Rattle.vbd_model.specs.Kind.{never}
use Rattle.vbd_model.specs.Leads.{moment}
use Rattle.schedule_run.proofs.Rounding.{AreLeft}
use Rattle.schedule_run.proofs.split.Split.turn.Given as goal

-- so many rounds are left
abbrev pub invariant-loop-left : goal.invariant-loop-left
invariant-loop-left g l = AreLeft never l.left l.count (moment l.fn.self (g.D.SectorDisk.seen l.fn.disk) (g.R.Recorder.seen l.fn.recorder)) (moment l.self (g.D.SectorDisk.seen l.disk) (g.R.Recorder.seen l.recorder))

abbrev pub decreases-loop-left : goal.decreases-loop-left
decreases-loop-left g l = l.left
