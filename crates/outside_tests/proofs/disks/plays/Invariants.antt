use Rattle.std.proofs.Common.{◌≡◌, Some}
use Rattle.blk_io.specs.Disk.{attached_of}
use Rattle.outside_tests.proofs.disks.plays.Given as goal

-- the disk stays attached
abbrev pub invariant-loop-call : goal.invariant-loop-call
invariant-loop-call g l = attached_of (g.D.SectorDisk.seen l.disk) ≡ Some l.count
