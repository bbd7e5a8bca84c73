use Rattle.std.proofs.Common.{◌≡◌, ◌≢◌, ◌<◌, length, sym, subst, arith, rules}
use Rattle.std.specs.Prelude.{All}
use Rattle.resume_shadow.specs.Unfinished.{Unfinished, by_number}
use Rattle.resume_shadow.proofs.Order.{ascending_by_number, one_more}
use Rattle.resume_shadow.proofs.shadow.Shadow.put_back.Goals as goal

pub invariant_of-self : goal.invariant_of-self
invariant_of-self g c =
    let number = g.T.Numbered.number_of in
    let items : c.insert.new.self.items ≡ by_number number c.args.request c.self.inside.held.items = search rules in
    let room : length c.self.inside.held.items < c.self.inside.room = search rules in
    let apart : All (λ r. number r ≢ number c.args.request) c.self.inside.held.items = subst (λ (u : Unfinished _). All (λ r. number r ≢ number c.args.request) u.held) (sym c.self.view_is) c.requires.apart in
    let count = one_more number c.args.request c.self.inside.held.items in
    record {
      reserved = omega (arith, c.insert.ensures.capacity, c.self.invariant.reserved);
      within = rw items (omega (arith, count, room));
      ascending = rw items (ascending_by_number number c.args.request _ c.self.invariant.ascending apart);
    }

pub returns-clause-ascending : goal.returns-clause-ascending
returns-clause-ascending g c =
    let number = g.T.Numbered.number_of in
    let items : c.insert.new.self.items ≡ by_number number c.args.request c.self.inside.held.items = search rules in
    let apart : All (λ r. number r ≢ number c.args.request) c.self.inside.held.items = subst (λ (u : Unfinished _). All (λ r. number r ≢ number c.args.request) u.held) (sym c.self.view_is) c.requires.apart in
    rw items (ascending_by_number number c.args.request _ c.self.invariant.ascending apart)
