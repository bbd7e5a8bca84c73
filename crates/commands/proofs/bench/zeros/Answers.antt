use Rattle.std.proofs.Common.{◌≡◌, ℕ, ap, ◌∙◌, arith, replicate}
use Rattle.blk_io.specs.Disk.{zero_sector}
use Rattle.commands.proofs.bench.zeros.Goals as goal

pub returns : goal.returns
returns c =
    let all : c.loop-sector._sector ≡ 4096 = omega (arith, c.loop-sector-test.false, c.loop-sector.auto._sector-end) in
    c.loop-sector.invariant ∙ ap (λ (n : ℕ). replicate n zero_sector) all
