use Rattle.std.proofs.Common.{take}
use Rattle.schedule_run.specs.Carrying.{read_so_far, Carries}
use Rattle.schedule_run.proofs.schedule.reading.Reader.take.Given as goal

-- the bytes so far were taken
abbrev pub invariant-loop-byte : goal.invariant-loop-byte
invariant-loop-byte g l =
    Carries (take l.byte-index l.piece)
    (read_so_far l.fn.self.machine l.fn.self.part.items l.fn.self.lines (g.D.SectorDisk.seen l.fn.disk) (g.R.Recorder.seen l.fn.recorder))
    (read_so_far l.self.machine l.self.part.items l.self.lines (g.D.SectorDisk.seen l.disk) (g.R.Recorder.seen l.recorder))
