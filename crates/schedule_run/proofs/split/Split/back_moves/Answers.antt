use Rattle.std.proofs.Common.{◌≡◌, ◌<◌, ◌*◌, replicate, ap, ◌∙◌, arith}
use Rattle.std.proofs.lemmas.Result.{err_from_is_err_and}
use Rattle.vbd_model.specs.Happening.{BackMoves}
use Rattle.vbd_model.proofs.Running.{ready_again, gone_on, gone_to_stop, gone}
use Rattle.vbd_model.proofs.Joining.{once_more, once_more_begins}
use Rattle.schedule_run.proofs.split.Split.back_moves.Goals as goal

pub back_move-requires : goal.back_move-requires
back_move-requires g c = ready_again _ 41 _ _ _ _ c.loop-test.true c.requires c.loop.invariant

pub returns-in_err-back_move : goal.returns-in_err-back_move
returns-in_err-back_move g c =
    let less : c.loop.counter < c.args.count = c.loop-test.true in
    let stopped = err_from_is_err_and c.from_residual.result c.from_residual.ensures.1 in
    rw (stopped.1, stopped.2) (gone_to_stop _ _ _ _ _ 41 _ _ (41 * c.args.count) _ _ _ _ less (omega arith) (λ xs ys p here q. once_more_begins c.loop.counter c.args.count BackMoves xs ys less p q) c.loop.invariant c.in_err-back_move.ensures)

pub loop-preserved : goal.loop-preserved
loop-preserved g c =
    gone_on _ _ _ _ 41 _ _ _ _ _ c.loop-test.true (λ xs ys p here q. once_more c.loop.counter BackMoves xs ys p q) c.loop.invariant c.in_ok-back_move.ensures

pub returns : goal.returns
returns g c =
    let all : c.loop.counter ≡ c.args.count = omega arith in
    gone _ _ _ 41 _ _ (41 * c.args.count) _ _ (omega arith) (λ xs p here. p ∙ ap (λ n. replicate n BackMoves) all) c.loop.invariant
