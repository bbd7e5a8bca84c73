use Rattle.std.proofs.Common.{◌≡◌, length}
use Rattle.schedule_run.specs.Carrying.{read_so_far}
use Rattle.schedule_run.proofs.Taking.{HasTaken}
use Rattle.schedule_run.proofs.schedule.reading.Reader.read_all.Given as goal

-- the bytes so far are the source's first ones, and they were taken
abbrev pub invariant-loop-room : goal.invariant-loop-room
invariant-loop-room g l = record {
  taken : HasTaken (g.S.Source.seen l.fn.source).left (g.S.Source.seen l.source).left l.bytes_limit l.room
      (read_so_far l.fn.self.machine l.fn.self.part.items l.fn.self.lines (g.D.SectorDisk.seen l.fn.disk) (g.R.Recorder.seen l.fn.recorder))
      (read_so_far l.self.machine l.self.part.items l.self.lines (g.D.SectorDisk.seen l.disk) (g.R.Recorder.seen l.recorder));
  size : length l.piece ≡ 4096;
  unfailed : (g.S.Source.seen l.source).faults ≡ (g.S.Source.seen l.fn.source).faults;
}

abbrev pub decreases-loop-room : goal.decreases-loop-room
decreases-loop-room g l = l.room
