use Rattle.std.proofs.Common.{◌≡◌, ◌≤◌, length}
use Rattle.std.specs.Prelude.{vec_capacity}
use Rattle.blk_front.proofs.frames.SpareLists.new.Given as goal

-- the lists so far
abbrev pub invariant-loop : goal.invariant-loop
invariant-loop l = record {
  made : length l.lists.items ≡ l.counter;
  room : 513 ≤ vec_capacity l.lists;
}
