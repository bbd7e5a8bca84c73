use Rattle.std.proofs.Common.{◌≡◌, drop, ◌+◌}
use Rattle.plain_disk.specs.Request.{are_settled}
use Rattle.plain_disk.proofs.looking.are_settled.Given as goal

-- the requests so far are settled
abbrev pub invariant-loop-i : goal.invariant-loop-i
invariant-loop-i l = are_settled l.done 1 l.earlier l.barrier ≡ are_settled l.done (l.i + 1) (drop l.i l.earlier) l.barrier
