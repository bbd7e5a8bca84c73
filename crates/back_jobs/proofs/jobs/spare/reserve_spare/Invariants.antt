use Rattle.std.proofs.Common.{◌≡◌, ◌≤◌, length, vec_capacity}
use Rattle.back_jobs.proofs.jobs.spare.reserve_spare.Given as goal

-- a vector was made in each turn so far
abbrev pub invariant-loop : goal.invariant-loop
invariant-loop l = record {
  spare : length l.spare.items ≡ l.counter;
  capacity : l.fn.count ≤ vec_capacity l.spare;
}
