use Rattle.std.proofs.Common.{◌≡◌, map, take, drop, ◌++◌}
use Rattle.plain_disk.specs.Step.{reopened}
use Rattle.plain_disk.proofs.disk.steps.reopen.Given as goal

-- the requests so far are as in a new epoch
abbrev pub invariant-loop-i : goal.invariant-loop-i
invariant-loop-i l = l.requests ≡ map reopened (take l.i l.fn.requests) ++ drop l.i l.fn.requests
