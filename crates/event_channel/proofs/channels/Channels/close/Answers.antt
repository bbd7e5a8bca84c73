use Rattle.event_channel.specs.Channels.{closed_port, unbound_port}
use Rattle.event_channel.proofs.Bound.{all_changed, closed_bound, unbound_bound}
use Rattle.event_channel.proofs.channels.Channels.close.Goals as goal

pub invariant_of-self : goal.invariant_of-self
invariant_of-self c =
    let ports = c.self.inside.ports.items in
    all_changed closed_port ports c.as_mut_slice.result.now c.close_all.new.ports c.self.inside.made c.self.invariant.0 c.as_mut_slice.ensures.value c.close_all.ensures (closed_bound ports)

pub invariant_of-self-in-Back : goal.invariant_of-self-in-Back
invariant_of-self-in-Back c =
    let ports = c.self.inside.ports.items in
    all_changed unbound_port ports c.as_mut_slice-in-Back.result.now c.unbind_all.new.ports c.self.inside.made c.self.invariant.0 c.as_mut_slice-in-Back.ensures.value c.unbind_all.ensures (unbound_bound ports)
