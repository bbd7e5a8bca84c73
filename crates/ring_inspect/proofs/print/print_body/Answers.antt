use Rattle.std.proofs.Common.{◌≤◌, subst, arith}
use Rattle.std.proofs.lemmas.Result.{err_from_is_err_and}
use Rattle.blk_io.specs.Outside.{TakesBytes, FailsWriting}
use Rattle.ring_words.specs.Shape.{entries_of}
use Rattle.ring_inspect.proofs.Pieces.{fails_first, writes_then, body_shown}
use Rattle.ring_inspect.proofs.print.print_body.Goals as goal

pub returns-in_err-print : goal.returns-in_err-print
returns-in_err-print g c =
    let few : c.args.count ≤ entries_of c.args.shape.now.order = omega (arith, c.entries.ensures.value) in
    let stopped = err_from_is_err_and c.from_residual.result c.from_residual.ensures.1 in
    let part = subst (λ t. FailsWriting t (g.O.Sink.seen c.args.sink.now) (g.O.Sink.seen c.print-2.new.sink)) c.requests.ensures c.in_err-print.ensures in
    rw (stopped.1, body_shown c.args.shape.now c.args.bytes.now c.args.rsp_prod c.args.count few) (fails_first _ _ _ _ part)

pub returns : goal.returns
returns g c =
    let few : c.args.count ≤ entries_of c.args.shape.now.order = omega (arith, c.entries.ensures.value) in
    let line = subst (λ t. TakesBytes t (g.O.Sink.seen c.args.sink.now) (g.O.Sink.seen c.print-2.new.sink)) c.requests.ensures c.in_ok-print.ensures in
    rw (body_shown c.args.shape.now c.args.bytes.now c.args.rsp_prod c.args.count few) (writes_then _ _ c.print_requests.result _ _ _ line c.print_requests.ensures)
