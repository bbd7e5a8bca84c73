use Rattle.std.proofs.Common.{◌<◌, length, arith, rules}
use Rattle.resume_shadow.proofs.Order.{remove_ascending}
use Rattle.resume_shadow.proofs.shadow.Shadow.finish.Goals as goal

pub invariant_of-self : goal.invariant_of-self
invariant_of-self g c =
    let within : c.args.place < length c.self.inside.held.items = search rules in
    record {
      reserved = omega (arith, c.remove.ensures.capacity, c.self.invariant.reserved);
      within = omega (arith, c.remove.ensures.len, c.self.invariant.within);
      ascending = rw c.remove.ensures.items (remove_ascending g.T.Numbered.number_of _ c.args.place within c.self.invariant.ascending);
    }

pub returns-clause-ascending : goal.returns-clause-ascending
returns-clause-ascending g c =
    let within : c.args.place < length c.self.inside.held.items = search rules in
    rw c.remove.ensures.items (remove_ascending g.T.Numbered.number_of _ c.args.place within c.self.invariant.ascending)
