use Rattle.std.proofs.Common.{◌≡◌, ◌≤◌, true, [], ◌++◌, length, ap, sym, subst, ◌∙◌, rules, arith, vec_capacity}
use Rattle.std.specs.Prelude.{None, option_to_list}
use Rattle.persist_grants.specs.KeptMappings.{KeptMappings, may_keep, mappings_of}
use Rattle.back_jobs.specs.Jobs.{first_mapping}
use Rattle.back_jobs.specs.Keeping.{IsKeeping}
use Rattle.back_jobs.specs.Segments.{AreShared}
use Rattle.back_jobs.specs.Sound.{IsKept, AreFirst, AreAscending, done_place, done_numbers, ordered_place, barrier_place}
use Rattle.back_jobs.proofs.Hands.{few_after}
use Rattle.back_jobs.proofs.Listed.{none_left}
use Rattle.back_jobs.proofs.Settling.{given_hand, given_kept, given_keeping, drained_keeping}
use Rattle.back_jobs.proofs.Sizes.{after_sized}
use Rattle.back_jobs.proofs.jobs.Jobs.give_up.Goals.{After-clear}
use Rattle.back_jobs.proofs.jobs.Jobs.give_up.Goals as goal

-- what is known of the jobs that are left
left_kept : (c : After-clear) → IsKept c.is_empty-self-inside.result c.clear.new.self.items c.first_done-self-inside.result c.self.inside.room (vec_capacity c.abort_first-mapping.new.held) (vec_capacity c.clear.new.self) c.self.inside.info.sectors c.abort_first-mapping.new.held.items
    × AreFirst c.first_holding-self-inside.result c.first_holding-self-inside-2.result c.abort_first-mapping.new.held.items
    × AreShared (length c.abort_first-mapping.new.spare.items) (vec_capacity c.abort_first-mapping.new.spare) c.self.inside.room c.self.inside.info.max_indirect c.abort_first-mapping.new.held.items
left_kept c =
    let h = c.abort_first-mapping.ensures in
    let works = c.self.inside.held.items in
    let left = c.abort_first-mapping.new.held.items in
    let seen : c.as_slice-held.result.now ≡ left = c.as_slice-held.ensures.value in
    let none : c.is_empty-self-inside.result ≡ true → left ≡ [] = λ test. none_left left c.is_empty-self-inside.result (rw seen at c.is_empty-self-inside.ensures) test in (
      record {
        has_room = rw h.capacity c.self.invariant.0.has_room;
        sized = rw h.rest (after_sized c.self.inside.info.sectors works c.self.invariant.0.sized);
        has_list_room = rw c.clear.ensures.capacity c.self.invariant.0.has_list_room;
        held = rw h.rest (omega (arith, few_after works));
        in_order = λ test. subst (λ w. AreAscending w) (sym (none test)) tt;
        is_listed = λ test. c.clear.ensures.items ∙ sym (ap done_numbers (none test));
        is_done = c.first_done-self-inside.ensures ∙ ap done_place seen;
      },
      record {
        ordered_is = c.first_holding-self-inside.ensures ∙ ap ordered_place seen;
        barrier_is = c.first_holding-self-inside-2.ensures ∙ ap barrier_place seen;
      },
      record {
        has_space = rw h.kept c.self.invariant.2.has_space;
        shared = h.spare ∙ c.self.invariant.2.shared;
      },
    )

left_keeping : (c : After-clear) → IsKeeping c.self.inside.kept.value c.abort_first-mapping.new.held.items
left_keeping c = rw c.abort_first-mapping.ensures.rest (given_keeping c.self.inside.kept.value c.self.inside.held.items c.self.invariant.3)

pub invariant_of-self : goal.invariant_of-self
invariant_of-self c =
    let w = (goal.at.invariant_of-self c).After-clear in
    let jobs = left_kept w in
    let kept : c.deref_mut.result.now ≡ c.self.inside.kept.value = c.deref_mut.ensures.value in (
      jobs.0,
      jobs.1,
      jobs.2,
      rw (c.drain.ensures.rest, kept) (drained_keeping c.self.inside.kept.value c.abort_first-mapping.new.held.items (left_keeping w)),
      c.self.invariant.4 ∙ ap (λ (k : KeptMappings). may_keep k) (sym kept) ∙ ap (λ (k : KeptMappings). may_keep k) (sym c.drain.ensures.rest),
    )

pub invariant_of-self-else-is_none : goal.invariant_of-self-else-is_none
invariant_of-self-else-is_none c =
    let w = (goal.at.invariant_of-self-else-is_none c).After-clear in
    let jobs = left_kept w in
    (jobs.0, jobs.1, jobs.2, left_keeping w, c.self.invariant.4)

fewer : (c : After-clear) → length c.abort_first-mapping.new.held.items ≤ length c.args.self.now.works
fewer c = rw (c.abort_first-mapping.ensures.rest, ← c.self.view_is) (few_after c.self.inside.held.items)

pub returns-then-is_none-clause-no_more : goal.returns-then-is_none-clause-no_more
returns-then-is_none-clause-no_more c = fewer (goal.at.returns-then-is_none-clause-no_more c).After-clear

pub returns-clause-no_more : goal.returns-clause-no_more
returns-clause-no_more c = fewer (goal.at.returns-clause-no_more c).After-clear

pub returns-then-is_none-clause-hands : goal.returns-then-is_none-clause-hands
returns-then-is_none-clause-hands c =
    let none : c.abort_first-mapping.result ≡ None = search rules in
    let first : first_mapping c.self.inside.held.items ≡ None = sym c.abort_first-mapping.ensures.mapping ∙ none in
    let lost : mappings_of c.self.inside.kept.value ≡ mappings_of c.drain.new.self ++ option_to_list c.drain.result =
    ap (λ (k : KeptMappings). mappings_of k) (sym c.deref_mut.ensures.value) ∙ c.drain.ensures.nothing_lost in
    rw (← c.self.view_is, c.abort_first-mapping.ensures.rest)
    (given_kept (record { works = c.self.inside.held.items; room = c.self.inside.room; info = c.self.inside.info; kept = c.self.inside.kept.value }) (option_to_list c.drain.result) (mappings_of c.drain.new.self) first lost)

pub returns-clause-hands : goal.returns-clause-hands
returns-clause-hands c =
    rw (← c.self.view_is, c.abort_first-mapping.ensures.rest)
    (given_hand (record { works = c.self.inside.held.items; room = c.self.inside.room; info = c.self.inside.info; kept = c.self.inside.kept.value }) c.abort_first-mapping.result (sym c.abort_first-mapping.ensures.mapping) (search rules))

pub abort_first-mapping-requires : goal.abort_first-mapping-requires
abort_first-mapping-requires c = omega (arith, c.self.invariant.2.has_space, c.self.invariant.2.shared)
