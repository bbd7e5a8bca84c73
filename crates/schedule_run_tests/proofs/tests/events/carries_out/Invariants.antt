use Rattle.std.proofs.Common.{◌≡◌, Some}
use Rattle.blk_io.specs.Disk.{attached_of}
use Rattle.schedule_run_tests.proofs.tests.events.carries_out.Given as goal

-- the disk stays attached, with the sectors of the machine's options
abbrev pub invariant-loop-step : goal.invariant-loop-step
invariant-loop-step g l = attached_of (g.D.SectorDisk.seen l.disk) ≡ Some l.machine.world.rings.back.jobs.info.sectors
