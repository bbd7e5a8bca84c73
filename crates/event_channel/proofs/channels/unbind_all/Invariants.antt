use Rattle.std.proofs.Common.{◌≡◌, ◌++◌, map, take, drop}
use Rattle.event_channel.specs.Channels.{unbound_port}
use Rattle.event_channel.proofs.channels.unbind_all.Given as goal

abbrev pub invariant-loop-port : goal.invariant-loop-port
invariant-loop-port l = l.ports ≡ map unbound_port (take l.port-index l.initial.ports) ++ drop l.port-index l.initial.ports
