use Rattle.hypervisor.specs.May.{HasMappingLeft}
use Rattle.machine_tests.proofs.under.world.written.Given as goal

-- nothing is mapped so far
abbrev pub invariant-loop-place : goal.invariant-loop-place
invariant-loop-place g l = HasMappingLeft l.world.under.grants
