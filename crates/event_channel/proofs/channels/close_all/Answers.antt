use Rattle.std.proofs.Common.{◌<◌, length, get_or, sym, arith}
use Rattle.std.proofs.lemmas.List.{get_or_default}
use Rattle.std.proofs.lemmas.List.Edits.{map_over_more}
use Rattle.event_channel.specs.declared.channels.PortState.TheVariants.{Closed}
use Rattle.event_channel.specs.Channels.{closed_port}
use Rattle.event_channel.proofs.channels.close_all.Goals as goal

pub loop-port-preserved : goal.loop-port-preserved
loop-port-preserved c =
    let ports = c.loop-port.ports in
    let i = c.loop-port.port-index in
    let port = get_or ports i Closed in
    let within : i < length ports = omega arith in
    (map_over_more closed_port c.args.ports.now ports i port (omega arith) c.loop-port.invariant (sym (get_or_default ports i port Closed within)))
