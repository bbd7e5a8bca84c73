use Rattle.vbd_model.specs.Kind.{AreSomeJobMoves}
use Rattle.vbd_model.specs.Leads.{moment}
use Rattle.vbd_model.proofs.Running.{HasGone}
use Rattle.schedule_run.proofs.split.Split.job_moves.Given as goal

-- so many moves of the job led here
abbrev pub invariant-loop : goal.invariant-loop
invariant-loop g l = HasGone (AreSomeJobMoves l.number l.counter) 0 l.counter l.count (moment l.fn.self (g.D.SectorDisk.seen l.fn.disk) (g.R.Recorder.seen l.fn.recorder)) (moment l.self (g.D.SectorDisk.seen l.disk) (g.R.Recorder.seen l.recorder))
