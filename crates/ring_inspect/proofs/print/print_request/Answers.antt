use Rattle.std.proofs.Common.{subst}
use Rattle.blk_io.specs.Outside.{TakesBytes}
use Rattle.ring_inspect.proofs.Pieces.{writes_then}
use Rattle.ring_inspect.proofs.print.print_request.Goals as goal

pub returns : goal.returns
returns g c =
    let line = subst (λ t. TakesBytes t (g.O.Sink.seen c.args.sink.now) (g.O.Sink.seen c.print.new.sink)) c.request.ensures c.in_ok-print.ensures in
    writes_then _ _ c.print_named.result _ _ _ line c.print_named.ensures
