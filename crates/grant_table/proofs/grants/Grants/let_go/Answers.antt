use Rattle.std.proofs.Common.{◌∙◌, arith}
use Rattle.std.proofs.lemmas.List.{get_or_default}
use Rattle.grant_table.proofs.Keeps.{mappings_cover, writers_cover, IsSound-let_go, IsGrantable-live}
use Rattle.grant_table.proofs.grants.Grants.let_go.Goals as goal

pub overflow_sub-index_mut : goal.overflow_sub-index_mut
overflow_sub-index_mut c =
    let fields = c.self.inside in
    let sound = c.self.invariant in
    let place = rw c.deref.ensures.value at c.place_of-place.ensures in
    let reference = IsGrantable-live fields.made _ fields.held.items fields.mappings.items fields.writers.items sound _ _ place in
    let count = c.index_mut.ensures.value ∙ get_or_default fields.mappings.items c.args.mapping.gref c.index_mut.result.now 0 (omega (arith, sound.mappings_len, reference)) in
    mappings_cover fields.made _ fields.held.items fields.mappings.items fields.writers.items sound _ _ place _ count

pub index_mut-requires-2 : goal.index_mut-requires-2
index_mut-requires-2 c =
    let fields = c.self.inside in
    let sound = c.self.invariant in
    let place = rw c.deref.ensures.value at c.place_of-place.ensures in
    let reference = IsGrantable-live fields.made _ fields.held.items fields.mappings.items fields.writers.items sound _ _ place in
    omega (arith, sound.writers_len, fields.writers.ok, reference)

pub overflow_sub-index_mut-2 : goal.overflow_sub-index_mut-2
overflow_sub-index_mut-2 c =
    let fields = c.self.inside in
    let sound = c.self.invariant in
    let place = rw c.deref.ensures.value at c.place_of-place.ensures in
    let reference = IsGrantable-live fields.made _ fields.held.items fields.mappings.items fields.writers.items sound _ _ place in
    let count = c.index_mut-2.ensures.value ∙ get_or_default fields.writers.items c.args.mapping.gref c.index_mut-2.result.now 0 (omega (arith, sound.writers_len, reference)) in
    writers_cover fields.made _ fields.held.items fields.mappings.items fields.writers.items sound _ _ place _ _ count c.writer_count.ensures.value

-- the mapping is taken out, and is no longer counted for its reference
pub invariant_of-self : goal.invariant_of-self
invariant_of-self c =
    let fields = c.self.inside in
    let sound = c.self.invariant in
    let place = rw c.deref.ensures.value at c.place_of-place.ensures in
    let reference = IsGrantable-live fields.made _ fields.held.items fields.mappings.items fields.writers.items sound _ _ place in
    let mapping_count = c.index_mut.ensures.value ∙ get_or_default fields.mappings.items c.args.mapping.gref c.index_mut.result.now 0 (omega (arith, sound.mappings_len, reference)) in
    let writer_count = c.index_mut-2.ensures.value ∙ get_or_default fields.writers.items c.args.mapping.gref c.index_mut-2.result.now 0 (omega (arith, sound.writers_len, reference)) in
    rw c.remove.ensures.items (IsSound-let_go fields.made _ fields.held.items fields.mappings.items fields.writers.items sound _ _ place _ _ _ _
    (omega (arith, c.remove.ensures.capacity)) mapping_count writer_count c.writer_count.ensures.value)

pub returns-clause-reference : goal.returns-clause-reference
returns-clause-reference c =
    let fields = c.self.inside in
    let place = rw c.deref.ensures.value at c.place_of-place.ensures in
    IsGrantable-live fields.made _ fields.held.items fields.mappings.items fields.writers.items c.self.invariant _ _ place
