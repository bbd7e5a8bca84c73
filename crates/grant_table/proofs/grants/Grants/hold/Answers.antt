use Rattle.std.proofs.Common.{◌+◌, length, refl, ap, ◌∙◌, arith}
use Rattle.std.proofs.lemmas.List.{get_or_default}
use Rattle.grant_table.specs.declared.held.Held.{Held}
use Rattle.grant_table.specs.Table.{GrantTable}
use Rattle.grant_table.specs.Sound.{nothing_held}
use Rattle.grant_table.proofs.Live.{held_of_absent}
use Rattle.grant_table.proofs.Lookups.{held_of-append_new}
use Rattle.grant_table.proofs.Keeps.{mappings-le, writers-le, IsSound-hold}
use Rattle.grant_table.proofs.grants.Grants.hold.Goals as goal

pub overflow_add-index_mut : goal.overflow_add-index_mut
overflow_add-index_mut c =
    let fields = c.self.inside in
    let sound = c.self.invariant in
    let few = ap (λ (table : GrantTable). length table.live) c.self.view_is in
    let count = c.index_mut.ensures.value ∙ get_or_default fields.mappings.items c.args.gref c.index_mut.result.now 0 (omega (arith, sound.mappings_len)) in
    omega (arith, mappings-le fields.made _ fields.held.items fields.mappings.items fields.writers.items sound c.args.gref _ c.requires.reference count)

pub overflow_add-index_mut-2 : goal.overflow_add-index_mut-2
overflow_add-index_mut-2 c =
    let fields = c.self.inside in
    let sound = c.self.invariant in
    let few = ap (λ (table : GrantTable). length table.live) c.self.view_is in
    let count = c.index_mut-2.ensures.value ∙ get_or_default fields.writers.items c.args.gref c.index_mut-2.result.now 0 (omega (arith, sound.writers_len)) in
    omega (arith, writers-le fields.made _ fields.held.items fields.mappings.items fields.writers.items sound c.args.gref _ c.requires.reference count)

-- the next mapping is added, and counted for its reference
pub invariant_of-self : goal.invariant_of-self
invariant_of-self c =
    let fields = c.self.inside in
    let sound = c.self.invariant in
    let mapping_count = c.index_mut.ensures.value ∙ get_or_default fields.mappings.items c.args.gref c.index_mut.result.now 0 (omega (arith, sound.mappings_len)) in
    let writer_count = c.index_mut-2.ensures.value ∙ get_or_default fields.writers.items c.args.gref c.index_mut-2.result.now 0 (omega (arith, sound.writers_len)) in
    let held : Held = record { mapping = record { number = fields.made + 1; gref = c.args.gref; mode = c.args.mode }; frame = c.args.frame } in
    let pushed = rw c.unwrap.ensures at c.push.ensures.items in
    rw pushed (IsSound-hold fields.made _ fields.held.items fields.mappings.items fields.writers.items sound held _ _ _ _ refl
    (record { reference = c.requires.reference; low = c.requires.grantable.0; high = c.requires.grantable.1 })
    c.push.ensures.capacity mapping_count writer_count c.writer_count.ensures.value)

-- no mapping before has its number
pub returns-clause-live : goal.returns-clause-live
returns-clause-live c =
    let fields = c.self.inside in
    let sound = c.self.invariant in
    let held : Held = record { mapping = record { number = fields.made + 1; gref = c.args.gref; mode = c.args.mode }; frame = c.args.frame } in
    let pushed = rw c.unwrap.ensures at c.push.ensures.items in
    rw (pushed, held_of-append_new fields.held.items held (held_of_absent held.mapping.number fields.held.items (λ i lt same. omega (arith, sound.made_before i nothing_held lt)))) refl

-- it has the frame that it was given
pub returns-clause-frame : goal.returns-clause-frame
returns-clause-frame c =
    let fields = c.self.inside in
    let sound = c.self.invariant in
    let held : Held = record { mapping = record { number = fields.made + 1; gref = c.args.gref; mode = c.args.mode }; frame = c.args.frame } in
    let pushed = rw c.unwrap.ensures at c.push.ensures.items in
    rw (pushed, held_of-append_new fields.held.items held (held_of_absent held.mapping.number fields.held.items (λ i lt same. omega (arith, sound.made_before i nothing_held lt)))) refl
