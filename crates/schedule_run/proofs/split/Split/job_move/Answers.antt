use Rattle.std.proofs.Common.{arith}
use Rattle.vbd_model.proofs.Running.{goes_as}
use Rattle.schedule_run.proofs.split.Split.job_move.Goals as goal

pub returns-in-Read : goal.returns-in-Read
returns-in-Read g c = goes_as _ _ _ _ 0 0 _ _ _ (omega arith) (λ xs k. k) (λ xs k. k) (c.job_reads.ensures (g.D.SectorDisk.seen c.args.disk.now))

pub returns-in-Write : goal.returns-in-Write
returns-in-Write g c = goes_as _ _ _ _ 0 0 _ _ _ (omega arith) (λ xs k. k) (λ xs k. k) (c.job_writes.ensures (g.D.SectorDisk.seen c.args.disk.now))
