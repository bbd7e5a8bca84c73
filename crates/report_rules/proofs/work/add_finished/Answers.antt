use Rattle.report_rules.proofs.Fits.{finished_fits}
use Rattle.report_rules.proofs.work.add_finished.Goals as goal

pub add_planned-requires : goal.add_planned-requires
add_planned-requires c = finished_fits c.args.plan.now c.in-Serve.served c.args.segments.now c.args.info.now (cc)
