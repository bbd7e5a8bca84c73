use Rattle.std.proofs.Common.{◌≡◌, ◌<◌, replicate, ap, ◌∙◌, arith}
use Rattle.std.proofs.lemmas.Result.{err_from_is_err_and}
use Rattle.vbd_model.specs.Happening.{FrontMoves}
use Rattle.vbd_model.proofs.Running.{gone_on, gone_to_stop, gone}
use Rattle.vbd_model.proofs.Joining.{once_more, once_more_begins}
use Rattle.schedule_run.proofs.split.Split.front_moves.Goals as goal

pub returns-in_err-front_move : goal.returns-in_err-front_move
returns-in_err-front_move g c = λ disk.
    let less : c.loop.counter < c.args.count = c.loop-test.true in
    let stopped = err_from_is_err_and c.from_residual.result c.from_residual.ensures.1 in
    rw (stopped.1, stopped.2) (gone_to_stop _ _ _ _ _ 0 _ _ 0 _ _ _ _ less (omega arith) (λ xs ys p here q. once_more_begins c.loop.counter c.args.count FrontMoves xs ys less p q) (c.loop.invariant disk) (c.in_err-front_move.ensures disk))

pub loop-preserved : goal.loop-preserved
loop-preserved g c = λ disk.
    gone_on _ _ _ _ 0 _ _ _ _ _ c.loop-test.true (λ xs ys p here q. once_more c.loop.counter FrontMoves xs ys p q) (c.loop.invariant disk) (c.in_ok-front_move.ensures disk)

pub returns : goal.returns
returns g c = λ disk.
    let all : c.loop.counter ≡ c.args.count = omega arith in
    gone _ _ _ 0 _ _ 0 _ _ (omega arith) (λ xs p here. p ∙ ap (λ n. replicate n FrontMoves) all) (c.loop.invariant disk)
