use Rattle.std.proofs.Common.{refl, arith}
use Rattle.std.proofs.lemmas.Result.{err_from_is_err_and}
use Rattle.vbd_model.specs.Kind.{never}
use Rattle.schedule_run.proofs.Rounding.{left_first, left_on, left_ready, left_stopped, left_none}
use Rattle.schedule_run.proofs.split.Split.turn.Goals as goal

pub loop-left-init : goal.loop-left-init
loop-left-init g c = left_first never c.from-left.result c.args.count _ c.from-left.ensures

pub some_rounds-requires-clause-ready : goal.some_rounds-requires-clause-ready
some_rounds-requires-clause-ready g c = left_ready never _ _ _ _ c.loop-left-test.true c.requires c.loop-left.invariant

pub overflow_sub-left : goal.overflow_sub-left
overflow_sub-left g c = c.in_ok-gone.ensures.few

pub loop-left-smaller : goal.loop-left-smaller
loop-left-smaller g c =
    let some = c.in_ok-gone.ensures.some in
    let few = c.in_ok-gone.ensures.few in
    omega arith

pub loop-left-preserved : goal.loop-left-preserved
loop-left-preserved g c = left_on never _ _ _ _ _ _ c.in_ok-gone.ensures.few c.loop-left.invariant c.in_ok-gone.ensures.rounds

pub returns-in_err-gone : goal.returns-in_err-gone
returns-in_err-gone g c =
    let stopped = err_from_is_err_and c.from_residual.result c.from_residual.ensures.1 in
    rw (stopped.1, stopped.2) (left_stopped never _ _ _ _ _ _ _ c.loop-left-test.true refl c.loop-left.invariant c.in_err-gone.ensures)

pub returns : goal.returns
returns g c = left_none never _ _ _ _ (omega arith) c.loop-left.invariant
