use Rattle.back_jobs.proofs.Order.{next_is_above}
use Rattle.blk_back.proofs.back.Back.next_job.Goals as goal

pub returns-in-None-clause-above : goal.returns-in-None-clause-above
returns-in-None-clause-above c = next_is_above c.self.inside.jobs c.args.after c.next_after.result c.next_after.ensures
