use Rattle.std.proofs.Common.{◌≡◌, ◌+◌, length, vec_len, vec_capacity}
use Rattle.std.specs.List.{count_by}
use Rattle.back_jobs.specs.Jobs.{first_mapping, after_mapping}
use Rattle.back_jobs.specs.Segments.{is_paged}
use Rattle.back_jobs.proofs.jobs.abort_first.Given as goal

-- none of the jobs so far had a mapping in its hand, and their vectors are spare
abbrev pub invariant-loop-held : goal.invariant-loop-held
invariant-loop-held l = record {
  mapping : first_mapping l.held.items ≡ first_mapping l.fn.held.items;
  rest : after_mapping l.held.items ≡ after_mapping l.fn.held.items;
  capacity : vec_capacity l.held ≡ vec_capacity l.fn.held;
  spare : length l.spare.items + count_by is_paged l.held.items ≡ length l.fn.spare.items + count_by is_paged l.fn.held.items;
  kept : vec_capacity l.spare ≡ vec_capacity l.fn.spare;
}

abbrev pub decreases-loop-held : goal.decreases-loop-held
decreases-loop-held l = vec_len l.held
