use Rattle.std.proofs.Common.{◌≡◌, ◌<◌, true, length, vec_capacity, sym, ap, ◌∙◌, rules, arith}
use Rattle.std.specs.Prelude.{option_and_then, slice_index_or}
use Rattle.std.proofs.lemmas.List.Edits.{length-remove}
use Rattle.back_jobs.specs.Jobs.{response_of, is_done}
use Rattle.back_jobs.specs.Sound.{done_place}
use Rattle.back_jobs.proofs.Done.{taken_done, taken_over}
use Rattle.back_jobs.proofs.First.{removed_first}
use Rattle.back_jobs.proofs.Listed.{taken_listed}
use Rattle.back_jobs.proofs.Numbers.{removed_ascending}
use Rattle.back_jobs.proofs.Spare.{removed_shared, removed_space}
use Rattle.back_jobs.proofs.Settling.{removed_keeping}
use Rattle.back_jobs.proofs.Sizes.{removed_sized}
use Rattle.back_jobs.proofs.jobs.Jobs.take_done.Goals as goal

pub invariant_of-self : goal.invariant_of-self
invariant_of-self c =
    let h = c.remove-job.ensures in
    let works = c.self.inside.held.items in
    let within : c.self.inside.done_place < length works = search rules in
    let here : c.remove-job.result ≡ slice_index_or works c.self.inside.done_place c.remove-job.result = search rules in
    let over : is_done (slice_index_or works c.self.inside.done_place c.remove-job.result) ≡ true = taken_over works c.self.inside.done_place c.remove-job.result c.self.invariant.0.is_done within in (
      record {
        has_room = rw h.capacity c.self.invariant.0.has_room;
        sized = rw h.items (removed_sized c.self.inside.info.sectors works c.self.inside.done_place c.self.invariant.0.sized);
        in_order = λ test. rw h.items (removed_ascending works c.self.inside.done_place (c.self.invariant.0.in_order test));
        has_list_room = rw c.drop_first.ensures.capacity c.self.invariant.0.has_list_room;
        held = rw h.items (omega (arith, length-remove works c.self.inside.done_place (search rules)));
        is_listed = λ test. rw h.items (taken_listed works c.self.inside.done_place c.self.inside.finished.items c.drop_first.new.numbers.items c.self.invariant.0.is_done (c.self.invariant.0.is_listed test) c.drop_first.ensures.items);
        is_done = c.lowest_done-self-inside.ensures ∙ ap done_place c.as_slice.ensures.value;
      },
      rw h.items (removed_first works c.self.inside.done_place c.remove-job.result c.self.inside.ordered c.self.inside.barrier c.without-self-inside.result c.without-self-inside-2.result within over c.self.invariant.1 c.without-self-inside.ensures c.without-self-inside-2.ensures),
      rw h.items (removed_shared (length c.self.inside.spare.items) (length c.give_back.new.spare.items) (vec_capacity c.self.inside.spare) (vec_capacity c.give_back.new.spare) c.self.inside.room c.self.inside.info.max_indirect works c.self.inside.done_place c.remove-job.result within here c.give_back.ensures.spare c.give_back.ensures.capacity c.self.invariant.2),
      rw h.items (removed_keeping c.self.inside.kept.value works c.self.inside.done_place c.self.invariant.3),
      c.self.invariant.4,
    )

pub returns-clause-taken : goal.returns-clause-taken
returns-clause-taken c =
    let works = c.self.inside.held.items in
    let within : c.self.inside.done_place < length works = search rules in
    let here : c.remove-job.result ≡ slice_index_or works c.self.inside.done_place c.remove-job.result = search rules in
    let found = taken_done works c.self.inside.done_place c.remove-job.result c.self.invariant.0.is_done within here in
    rw (← c.self.view_is) (c.response-response.ensures ∙ sym (ap (option_and_then response_of) found))

pub lowest_done-self-inside-requires-clause-in_order : goal.lowest_done-self-inside-requires-clause-in_order
lowest_done-self-inside-requires-clause-in_order c =
    let works = c.self.inside.held.items in
    λ test. rw (c.as_slice.ensures.value, c.remove-job.ensures.items) (removed_ascending works c.self.inside.done_place (c.self.invariant.0.in_order test))

pub lowest_done-self-inside-requires-clause-listed : goal.lowest_done-self-inside-requires-clause-listed
lowest_done-self-inside-requires-clause-listed c =
    let works = c.self.inside.held.items in
    λ test. rw (c.as_slice-2.ensures.value, c.as_slice.ensures.value, c.remove-job.ensures.items) (taken_listed works c.self.inside.done_place c.self.inside.finished.items c.drop_first.new.numbers.items c.self.invariant.0.is_done (c.self.invariant.0.is_listed test) c.drop_first.ensures.items)

pub give_back-requires : goal.give_back-requires
give_back-requires c =
    let works = c.self.inside.held.items in
    let within : c.self.inside.done_place < length works = search rules in
    let here : c.remove-job.result ≡ slice_index_or works c.self.inside.done_place c.remove-job.result = search rules in
    removed_space (length c.self.inside.spare.items) (vec_capacity c.self.inside.spare) c.self.inside.room c.self.inside.info.max_indirect works c.self.inside.done_place c.remove-job.result within here c.self.invariant.2
