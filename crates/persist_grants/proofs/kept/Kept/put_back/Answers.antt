use Rattle.std.proofs.Common.{◌≡◌, ◌<◌, length, nat_eq, None, sym, subst, arith}
use Rattle.std.specs.Option.{option_to_list}
use Rattle.std.proofs.lemmas.Map.Keys.{IsDistinct-cons}
use Rattle.persist_grants.specs.KeptMappings.{KeptMappings, mapping_for, mappings_of}
use Rattle.persist_grants.proofs.Entries.{absent_keys, out_of-answer_of, IsPermutation-first}
use Rattle.persist_grants.proofs.Pairs.{keys-zip, length-zip}
use Rattle.persist_grants.proofs.kept.Kept.put_back.Goals as goal

pub insert-requires : goal.insert-requires
insert-requires c =
    let room = subst (λ (k : KeptMappings). length k.entries < k.cap) (sym c.self-2.view_is) c.make_room-out.ensures.room in
    let within = rw (length-zip c.self-2.inside.references.items c.self-2.inside.mappings.items c.self-2.invariant.paired) at room in
    (omega arith, (omega arith, omega arith))

pub insert-requires-2 : goal.insert-requires-2
insert-requires-2 c =
    let room = subst (λ (k : KeptMappings). length k.entries < k.cap) (sym c.self-2.view_is) c.make_room-out.ensures.room in
    let within = rw (length-zip c.self-2.inside.references.items c.self-2.inside.mappings.items c.self-2.invariant.paired) at room in
    (omega arith, (omega arith, omega arith))

pub invariant_of-self : goal.invariant_of-self
invariant_of-self c =
    let room = subst (λ (k : KeptMappings). length k.entries < k.cap) (sym c.self-2.view_is) c.make_room-out.ensures.room in
    let within = rw (length-zip c.self-2.inside.references.items c.self-2.inside.mappings.items c.self-2.invariant.paired) at room in
    let absent = subst (λ (k : KeptMappings). mapping_for k c.args.gref ≡ None) (sym c.self-2.view_is) c.make_room-out.ensures.absent in
    let others = rw (keys-zip c.self-2.inside.references.items c.self-2.inside.mappings.items c.self-2.invariant.paired) at (absent_keys (nat_eq c.args.gref) _ absent) in
    record {
      paired = omega arith;
      within = omega arith;
      room = c.self-2.invariant.room;
      distinct = rw c.insert.ensures.items (IsDistinct-cons nat_eq c.args.gref c.self-2.inside.references.items others c.self-2.invariant.distinct);
    }

pub returns-clause-nothing_lost : goal.returns-clause-nothing_lost
returns-clause-nothing_lost c =
    let rest = rw (← c.self-2.view_is) at c.make_room-out.ensures.nothing_lost in
    rw (c.insert.ensures.items, c.insert-2.ensures.items, c.answer.ensures, out_of-answer_of)
    (IsPermutation-first c.args.mapping (mappings_of c.args.self.now) (option_to_list c.make_room-out.result) _ rest)

pub returns-clause-bounded : goal.returns-clause-bounded
returns-clause-bounded c =
    let room = subst (λ (k : KeptMappings). length k.entries < k.cap) (sym c.self-2.view_is) c.make_room-out.ensures.room in
    let within = rw (length-zip c.self-2.inside.references.items c.self-2.inside.mappings.items c.self-2.invariant.paired) at room in
    let absent = subst (λ (k : KeptMappings). mapping_for k c.args.gref ≡ None) (sym c.self-2.view_is) c.make_room-out.ensures.absent in
    let others = rw (keys-zip c.self-2.inside.references.items c.self-2.inside.mappings.items c.self-2.invariant.paired) at (absent_keys (nat_eq c.args.gref) _ absent) in
    let same : length c.insert.new.self.items ≡ length c.insert-2.new.self.items = omega arith in
    record {
      within = rw (length-zip _ _ same) (omega arith);
      distinct = rw (keys-zip _ _ same, c.insert.ensures.items) (IsDistinct-cons nat_eq c.args.gref c.self-2.inside.references.items others c.self-2.invariant.distinct);
    }
