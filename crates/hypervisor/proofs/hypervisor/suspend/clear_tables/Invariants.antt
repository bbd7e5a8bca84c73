use Rattle.std.proofs.Common.{◌≡◌}
use Rattle.hypervisor.specs.Suspend.{cleared_to}
use Rattle.hypervisor.proofs.hypervisor.suspend.clear_tables.Given as goal

-- the words before this place are cleared, and no other
abbrev pub invariant-loop-place : goal.invariant-loop-place
invariant-loop-place l = l.pages ≡ cleared_to l.place l.initial.pages
