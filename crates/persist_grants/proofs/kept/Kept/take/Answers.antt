use Rattle.std.proofs.Common.{◌≡◌, ◌<◌, length, nat_eq, sym, refl, arith}
use Rattle.std.proofs.lemmas.List.Sorted.{IsPermutation-remove}
use Rattle.persist_grants.proofs.Entries.{distinct-remove, lookup-removed}
use Rattle.persist_grants.proofs.Pairs.{found_first, missed, keys-zip, values-zip, length-zip}
use Rattle.persist_grants.proofs.kept.Kept.take.Goals as goal

pub returns-in_default-clause-mapping : goal.returns-in_default-clause-mapping
returns-in_default-clause-mapping c =
    let m = missed (nat_eq c.args.gref) c.self.inside.references.items c.self.inside.mappings.items 0 (cc) in
    rw (← c.self.view_is) (sym m.value)

pub returns-in_default-clause-rest : goal.returns-in_default-clause-rest
returns-in_default-clause-rest c =
    let m = missed (nat_eq c.args.gref) c.self.inside.references.items c.self.inside.mappings.items 0 (cc) in
    rw (← c.self.view_is) (rw m.rest refl)

pub returns-in_default-clause-bounded : goal.returns-in_default-clause-bounded
returns-in_default-clause-bounded c = rw (← c.self.view_is) (record {
  within = rw (length-zip c.self.inside.references.items c.self.inside.mappings.items c.self.invariant.paired) c.self.invariant.within;
  distinct = rw (keys-zip c.self.inside.references.items c.self.inside.mappings.items c.self.invariant.paired) c.self.invariant.distinct;
})

pub remove-requires : goal.remove-requires
remove-requires c =
    let f = found_first (nat_eq c.args.gref) c.self.inside.references.items c.self.inside.mappings.items c.in-Some.place c.self.invariant.paired (cc) in
    (omega arith, f.within)

pub invariant_of-self : goal.invariant_of-self
invariant_of-self c =
    let f = found_first (nat_eq c.args.gref) c.self.inside.references.items c.self.inside.mappings.items c.in-Some.place c.self.invariant.paired (cc) in
    record {
      paired = omega arith;
      within = omega arith;
      room = c.self.invariant.room;
      distinct = rw c.remove.ensures.items (distinct-remove _ _ f.within c.self.invariant.distinct);
    }

pub returns-clause-mapping : goal.returns-clause-mapping
returns-clause-mapping c =
    let f = found_first (nat_eq c.args.gref) c.self.inside.references.items c.self.inside.mappings.items c.in-Some.place c.self.invariant.paired (cc) in
    let value = f.value c.remove-2.result in
    rw (← c.self.view_is) (cc)

pub returns-clause-rest : goal.returns-clause-rest
returns-clause-rest c =
    let f = found_first (nat_eq c.args.gref) c.self.inside.references.items c.self.inside.mappings.items c.in-Some.place c.self.invariant.paired (cc) in
    rw (← c.self.view_is, c.remove.ensures.items, c.remove-2.ensures.items, f.rest) refl

pub returns-clause-nothing_lost : goal.returns-clause-nothing_lost
returns-clause-nothing_lost c =
    let f = found_first (nat_eq c.args.gref) c.self.inside.references.items c.self.inside.mappings.items c.in-Some.place c.self.invariant.paired (cc) in
    let same : length c.remove.new.self.items ≡ length c.remove-2.new.self.items = omega arith in
    let within : c.in-Some.place < length c.self.inside.mappings.items = (let w = f.within in omega arith) in
    rw (← c.self.view_is, values-zip c.self.inside.references.items c.self.inside.mappings.items c.self.invariant.paired, values-zip _ _ same, c.remove-2.ensures.items)
    (IsPermutation-remove c.self.inside.mappings.items c.in-Some.place c.remove-2.result within c.remove-2.ensures.value)

pub returns-clause-bounded : goal.returns-clause-bounded
returns-clause-bounded c =
    let f = found_first (nat_eq c.args.gref) c.self.inside.references.items c.self.inside.mappings.items c.in-Some.place c.self.invariant.paired (cc) in
    let same : length c.remove.new.self.items ≡ length c.remove-2.new.self.items = omega arith in
    record {
      within = rw (length-zip _ _ same) (omega arith);
      distinct = rw (keys-zip _ _ same, c.remove.ensures.items) (distinct-remove _ _ f.within c.self.invariant.distinct);
    }

pub returns-clause-absent : goal.returns-clause-absent
returns-clause-absent c =
    let f = found_first (nat_eq c.args.gref) c.self.inside.references.items c.self.inside.mappings.items c.in-Some.place c.self.invariant.paired (cc) in
    let distinct = rw (← keys-zip c.self.inside.references.items c.self.inside.mappings.items c.self.invariant.paired) at c.self.invariant.distinct in
    rw (c.remove.ensures.items, c.remove-2.ensures.items, ← f.rest) (lookup-removed c.args.gref _ distinct)

pub returns-in_default-clause-absent : goal.returns-in_default-clause-absent
returns-in_default-clause-absent c =
    let m = missed (nat_eq c.args.gref) c.self.inside.references.items c.self.inside.mappings.items 0 (cc) in
    rw (← c.self.view_is) m.value

pub returns-clause-room : goal.returns-clause-room
returns-clause-room c =
    let same : length c.remove.new.self.items ≡ length c.remove-2.new.self.items = omega arith in
    rw (length-zip _ _ same) (omega arith)
