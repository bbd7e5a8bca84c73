use Rattle.std.proofs.Common.{◌+◌, ◌%◌, ◌^◌, subst}
use Rattle.std.proofs.lemmas.Result.{err_from_is_err_and}
use Rattle.blk_io.specs.Outside.{TakesBytes, FailsWriting}
use Rattle.ring_inspect.specs.Text.{request_text}
use Rattle.ring_inspect.proofs.Pieces.{takes_none, listed-zero, takes_listed, fails_listed}
use Rattle.ring_inspect.proofs.print.print_requests.Goals as goal

pub loop-i-init : goal.loop-i-init
loop-i-init g c = rw (listed-zero c.args.shape.now c.args.bytes.now c.args.from) (takes_none _)

pub returns-in_err-print_request : goal.returns-in_err-print_request
returns-in_err-print_request g c =
    let stopped = err_from_is_err_and c.from_residual.result c.from_residual.ensures.1 in
    let part = subst (λ r. FailsWriting (request_text ((c.args.from + c.loop-i.i) % 2 ^ 32) r) (g.O.Sink.seen c.loop-i.sink) (g.O.Sink.seen c.print_request.new.sink)) c.request-request.ensures c.in_err-print_request.ensures in
    rw stopped.1 (fails_listed c.args.shape.now c.args.bytes.now c.args.from c.args.count c.loop-i.i _ _ _ c.loop-i-test.true c.loop-i.invariant part)

pub loop-i-preserved : goal.loop-i-preserved
loop-i-preserved g c =
    let piece = subst (λ r. TakesBytes (request_text ((c.args.from + c.loop-i.i) % 2 ^ 32) r) (g.O.Sink.seen c.loop-i.sink) (g.O.Sink.seen c.print_request.new.sink)) c.request-request.ensures c.in_ok-print_request.ensures in
    takes_listed c.args.shape.now c.args.bytes.now c.args.from c.loop-i.i _ _ _ c.loop-i.invariant piece
