use Rattle.std.proofs.Common.{◌≡◌, false, refl, sym, ◌∙◌, arith}
use Rattle.std.proofs.lemmas.Result.{err_from_is_err_and}
use Rattle.vbd_model.specs.World.{is_quiet}
use Rattle.schedule_run.proofs.Rounding.{left_first, left_on, left_ready, left_stopped, left_spent, left_quiet}
use Rattle.schedule_run.proofs.split.Split.rounds_until_quiet.Goals as goal

pub loop-left-init : goal.loop-left-init
loop-left-init g c = left_first is_quiet _ _ _ refl

pub some_rounds-requires-clause-ready : goal.some_rounds-requires-clause-ready
some_rounds-requires-clause-ready g c = left_ready is_quiet _ _ _ _ c.loop-left-test.true c.requires c.loop-left.invariant

pub overflow_sub-left : goal.overflow_sub-left
overflow_sub-left g c = c.in_ok-gone.ensures.few

pub loop-left-smaller : goal.loop-left-smaller
loop-left-smaller g c =
    let some = c.in_ok-gone.ensures.some in
    let few = c.in_ok-gone.ensures.few in
    omega arith

pub loop-left-preserved : goal.loop-left-preserved
loop-left-preserved g c =
    let busy : is_quiet c.loop-left.self ≡ false = sym c.is_quiet.ensures ∙ c.if-is_quiet.false in
    left_on is_quiet _ _ _ _ _ _ c.in_ok-gone.ensures.few c.loop-left.invariant (c.in_ok-gone.ensures.unquiet busy)

pub returns-in_err-gone : goal.returns-in_err-gone
returns-in_err-gone g c =
    let busy : is_quiet c.loop-left.self ≡ false = sym c.is_quiet.ensures ∙ c.if-is_quiet.false in
    let stopped = err_from_is_err_and c.from_residual.result c.from_residual.ensures.1 in
    rw (stopped.1, stopped.2) (left_stopped is_quiet _ _ _ _ _ _ _ c.loop-left-test.true busy c.loop-left.invariant c.in_err-gone.ensures)

pub returns : goal.returns
returns g c = left_spent _ _ _ _ (omega arith) c.loop-left.invariant

pub returns-then-is_quiet : goal.returns-then-is_quiet
returns-then-is_quiet g c = left_quiet _ _ _ _ (sym c.is_quiet.ensures ∙ c.if-is_quiet.true) c.loop-left.invariant
