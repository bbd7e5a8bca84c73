use Rattle.std.proofs.Common.{◌≡◌, ◌-◌, length, sym, ◌∙◌, refl, ap, arith, length-take}
use Rattle.persist_grants.proofs.Entries.{distinct-take}
use Rattle.persist_grants.proofs.Pairs.{keys-zip, values-zip, length-zip, take-zip, second-get}
use Rattle.persist_grants.proofs.kept.Kept.drain.Goals as goal

pub invariant_of-self : goal.invariant_of-self
invariant_of-self c =
    let keys = ap length c.pop.ensures.rest ∙ length-take (length c.self.inside.references.items - 1) c.self.inside.references.items in
    let values = ap length c.pop-2.ensures.rest ∙ length-take (length c.self.inside.mappings.items - 1) c.self.inside.mappings.items in
    record {
      paired = omega arith;
      within = omega arith;
      room = c.self.invariant.room;
      distinct = rw c.pop.ensures.rest (distinct-take _ _ c.self.invariant.distinct);
    }

pub returns-clause-mapping : goal.returns-clause-mapping
returns-clause-mapping c =
    rw (← c.self.view_is, length-zip c.self.inside.references.items c.self.inside.mappings.items c.self.invariant.paired)
    (c.pop-2.ensures.value ∙ (rw (← c.self.invariant.paired) (sym (second-get (length c.self.inside.references.items - 1) c.self.inside.references.items c.self.inside.mappings.items c.self.invariant.paired))))

pub returns-clause-rest : goal.returns-clause-rest
returns-clause-rest c =
    rw (← c.self.view_is, length-zip c.self.inside.references.items c.self.inside.mappings.items c.self.invariant.paired, take-zip, c.pop.ensures.rest, c.pop-2.ensures.rest, ← c.self.invariant.paired) refl

pub returns-clause-nothing_lost : goal.returns-clause-nothing_lost
returns-clause-nothing_lost c =
    let keys = ap length c.pop.ensures.rest ∙ length-take (length c.self.inside.references.items - 1) c.self.inside.references.items in
    let values = ap length c.pop-2.ensures.rest ∙ length-take (length c.self.inside.mappings.items - 1) c.self.inside.mappings.items in
    let same : length c.pop.new.self.items ≡ length c.pop-2.new.self.items = omega arith in
    rw (← c.self.view_is, values-zip c.self.inside.references.items c.self.inside.mappings.items c.self.invariant.paired, values-zip _ _ same) c.pop-2.ensures.items

pub returns-clause-bounded : goal.returns-clause-bounded
returns-clause-bounded c =
    let keys = ap length c.pop.ensures.rest ∙ length-take (length c.self.inside.references.items - 1) c.self.inside.references.items in
    let values = ap length c.pop-2.ensures.rest ∙ length-take (length c.self.inside.mappings.items - 1) c.self.inside.mappings.items in
    let same : length c.pop.new.self.items ≡ length c.pop-2.new.self.items = omega arith in
    record {
      within = rw (length-zip _ _ same) (omega arith);
      distinct = rw (keys-zip _ _ same, c.pop.ensures.rest) (distinct-take _ _ c.self.invariant.distinct);
    }
