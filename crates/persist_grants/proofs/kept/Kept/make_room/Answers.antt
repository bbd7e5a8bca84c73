use Rattle.std.proofs.Common.{◌≡◌, ◌-◌, true, false, length, nat_eq, None, sym, subst}
use Rattle.std.specs.Prelude.{◌==◌}
use Rattle.persist_grants.specs.KeptMappings.{KeptMappings, mapping_for, least_recent, mappings_of}
use Rattle.persist_grants.proofs.Entries.{unchanged, makes_room-full, makes_room-roomy, lookup-take_absent, IsPermutation-last}
use Rattle.persist_grants.proofs.kept.Kept.make_room.Goals as goal

pub returns-then-is_full-clause-out : goal.returns-then-is_full-clause-out
returns-then-is_full-clause-out c =
    let absent : mapping_for c.args.self.now c.args.gref ≡ None = sym c.in_default.ensures.mapping in
    let same = unchanged c.args.self.now c.take.new.self c.args.gref absent c.in_default.ensures.rest in
    let full : (length c.take.new.self.entries == c.take.new.self.cap) ≡ true = cc in
    let full_before : (length c.args.self.now.entries == c.args.self.now.cap) ≡ true = subst (λ (k : KeptMappings). (length k.entries == k.cap) ≡ true) same full in
    rw (makes_room-full c.args.self.now c.args.gref absent full_before) (subst (λ (k : KeptMappings). c.drain.result ≡ least_recent k) same c.drain.ensures.mapping)

pub returns-then-is_full-clause-absent : goal.returns-then-is_full-clause-absent
returns-then-is_full-clause-absent c =
    rw c.drain.ensures.rest (lookup-take_absent (nat_eq c.args.gref) (length c.take.new.self.entries - 1) c.take.new.self.entries c.in_default.ensures.absent)

pub returns-then-is_full-clause-nothing_lost : goal.returns-then-is_full-clause-nothing_lost
returns-then-is_full-clause-nothing_lost c =
    IsPermutation-last (mappings_of c.args.self.now) (mappings_of c.take.new.self) (mappings_of c.drain.new.self) _ c.in_default.ensures.nothing_lost c.drain.ensures.nothing_lost

pub returns-clause-out : goal.returns-clause-out
returns-clause-out c =
    let absent : mapping_for c.args.self.now c.args.gref ≡ None = sym c.in_default.ensures.mapping in
    let same = unchanged c.args.self.now c.take.new.self c.args.gref absent c.in_default.ensures.rest in
    let roomy : (length c.take.new.self.entries == c.take.new.self.cap) ≡ false = cc in
    let roomy_before : (length c.args.self.now.entries == c.args.self.now.cap) ≡ false = subst (λ (k : KeptMappings). (length k.entries == k.cap) ≡ false) same roomy in
    sym (makes_room-roomy c.args.self.now c.args.gref absent roomy_before)
