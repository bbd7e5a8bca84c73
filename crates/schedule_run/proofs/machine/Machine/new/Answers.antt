use Rattle.std.proofs.Common.{rules, sym, subst}
use Rattle.vbd_model.specs.World.{World}
use Rattle.schedule_run.specs.Machine.{IsRunning}
use Rattle.schedule_run.specs.Outcome.{IsServed}
use Rattle.schedule_run.proofs.Begins.{running_start}
use Rattle.schedule_run.proofs.machine.Machine.new.Goals as goal

pub invariant_of-result : goal.invariant_of-result
invariant_of-result c =
    let served : IsServed c.args.config.now = search rules in
    subst (λ (w : World). IsRunning w 0) (sym c.in_ok-new.ensures) (running_start c.args.config.now served)
