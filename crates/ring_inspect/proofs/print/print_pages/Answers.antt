use Rattle.std.proofs.Common.{subst}
use Rattle.std.proofs.lemmas.Result.{err_from_is_err_and}
use Rattle.blk_io.specs.Outside.{FailsWriting}
use Rattle.ring_inspect.specs.Text.{page_text}
use Rattle.ring_inspect.proofs.Pieces.{fails_among}
use Rattle.ring_inspect.proofs.print.print_pages.Goals as goal

pub returns-in_err-print : goal.returns-in_err-print
returns-in_err-print g c =
    let stopped = err_from_is_err_and c.from_residual.result c.from_residual.ensures.1 in
    let part = subst (λ t. FailsWriting t (g.O.Sink.seen c.loop-page.sink) (g.O.Sink.seen c.print.new.sink)) c.page.ensures c.in_err-print.ensures in
    rw stopped.1 (fails_among page_text c.args.pages.now c.loop-page.page-index 0 _ _ _ c.loop-page-test.true c.loop-page.invariant part)
