use Rattle.std.proofs.Common.{◌^◌, arith}
use Rattle.vbd_model.proofs.Running.{goes_as}
use Rattle.schedule_run.proofs.Told.{event_lawful}
use Rattle.schedule_run.proofs.Waiting.{waits_after}
use Rattle.schedule_run.proofs.machine.Machine.event.Goals as goal

pub returns-clause-goes : goal.returns-clause-goes
returns-clause-goes g c = goes_as _ _ _ _ (10 ^ 10) (10 ^ 10) _ _ _ (omega arith) (λ hs k. (c.requires.allowed, k)) (λ hs k. (c.requires.allowed, k)) c.do_event.ensures.goes

pub returns-clause-lawful : goal.returns-clause-lawful
returns-clause-lawful g c config events begin few long carried =
    let goes = goes_as _ _ _ _ (10 ^ 10) (10 ^ 10) _ _ _ (omega arith) (λ hs k. (c.requires.allowed, k)) (λ hs k. (c.requires.allowed, k)) c.do_event.ensures.goes in
    event_lawful config events c.args.event begin (10 ^ 10) _ _ _ few long carried goes

pub returns-clause-waits : goal.returns-clause-waits
returns-clause-waits g c config history few here = waits_after config history few
