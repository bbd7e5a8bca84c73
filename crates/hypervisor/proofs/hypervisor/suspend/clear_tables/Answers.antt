use Rattle.std.proofs.Common.{◌≡◌, ℕ, arith, ap, ◌∙◌}
use Rattle.hypervisor.specs.Suspend.{cleared_to}
use Rattle.hypervisor.proofs.hypervisor.suspend.clear_tables.Goals as goal

pub returns : goal.returns
returns c =
    let all : c.loop-place.place ≡ 2048 = omega arith in
    c.loop-place.invariant ∙ ap (λ (count : ℕ). cleared_to count c.args.pages.now) all
