use Rattle.back_jobs.proofs.Served.{transfer_movable}
use Rattle.back_jobs.proofs.held_job.begun.transfer.Goals as goal

pub moving-requires-clause-movable : goal.moving-requires-clause-movable
moving-requires-clause-movable c = (transfer_movable c.requires.served.0 c.args.count c.args.sector c.args.segments.now c.args.info.now c.requires.served.1 c.requires.long c.requires.served.2).movable

pub moving-requires-clause-few : goal.moving-requires-clause-few
moving-requires-clause-few c = (transfer_movable c.requires.served.0 c.args.count c.args.sector c.args.segments.now c.args.info.now c.requires.served.1 c.requires.long c.requires.served.2).short

pub slice_bounds-moving-end : goal.slice_bounds-moving-end
slice_bounds-moving-end c = (transfer_movable c.requires.served.0 c.args.count c.args.sector c.args.segments.now c.args.info.now c.requires.served.1 c.requires.long c.requires.served.2).bound
