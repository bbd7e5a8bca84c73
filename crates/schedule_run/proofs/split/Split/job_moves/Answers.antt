use Rattle.std.proofs.Common.{◌≡◌, ◌<◌, ◌≤◌, ◌+◌, ◌*◌, ◌++◌, subst, arith}
use Rattle.std.proofs.lemmas.Result.{err_from_is_err_and}
use Rattle.vbd_model.specs.Kind.{AreSomeJobMoves}
use Rattle.vbd_model.proofs.Running.{ready_on, gone_on, gone_to_stop, gone}
use Rattle.vbd_model.proofs.Joining.{job_moves_more, few_job_moves}
use Rattle.schedule_run.proofs.split.Split.job_moves.Goals as goal

pub job_move-requires : goal.job_move-requires
job_move-requires g c =
    let gone = c.loop.invariant in
    ready_on (0 * c.loop.counter) 1 1 _ _ (omega arith) c.requires gone.went.keeps

pub returns-in_err-job_move : goal.returns-in_err-job_move
returns-in_err-job_move g c =
    let less : c.loop.counter < c.args.count = c.loop-test.true in
    let le : c.loop.counter + 1 ≤ c.args.count = omega arith in
    let stopped = err_from_is_err_and c.from_residual.result c.from_residual.ensures.1 in
    rw (stopped.1, stopped.2) (gone_to_stop _ _ _ _ _ 0 _ _ 0 _ _ _ _ less (omega arith) (λ xs ys p here q. few_job_moves c.args.number (c.loop.counter + 1) c.args.count (xs ++ ys) le (job_moves_more c.args.number c.from.result c.loop.counter xs ys c.from.ensures p q)) c.loop.invariant c.in_err-job_move.ensures)

pub loop-preserved : goal.loop-preserved
loop-preserved g c =
    gone_on _ _ _ _ 0 _ _ _ _ _ c.loop-test.true (λ xs ys p here q. job_moves_more c.args.number c.from.result c.loop.counter xs ys c.from.ensures p q) c.loop.invariant c.in_ok-job_move.ensures

pub returns : goal.returns
returns g c =
    let all : c.loop.counter ≡ c.args.count = omega arith in
    gone _ _ _ 0 _ _ 0 _ _ (omega arith) (λ xs p here. subst (λ n. AreSomeJobMoves c.args.number n xs) all p) c.loop.invariant
