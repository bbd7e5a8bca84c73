use Rattle.vbd_model.specs.Leads.{moment}
use Rattle.split_model.specs.Safe.{above}
use Rattle.schedule_run.proofs.Jobs.{HasMovedJobs}
use Rattle.schedule_run.proofs.split.Split.each_job.Given as goal

-- a move of each job up to the last one led here
abbrev pub invariant-loop-number : goal.invariant-loop-number
invariant-loop-number g l =
    HasMovedJobs l.last (moment l.fn.self (g.D.SectorDisk.seen l.fn.disk) (g.R.Recorder.seen l.fn.recorder)) (moment l.self (g.D.SectorDisk.seen l.disk) (g.R.Recorder.seen l.recorder))

-- the jobs above it
abbrev pub decreases-loop-number : goal.decreases-loop-number
decreases-loop-number g l = above l.last l.self.rings.back
