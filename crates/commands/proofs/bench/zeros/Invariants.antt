-- So many sectors of zeros were made.
use Rattle.std.proofs.Common.{◌≡◌, replicate}
use Rattle.blk_io.specs.Disk.{zero_sector}
use Rattle.commands.proofs.bench.zeros.Given as goal

abbrev pub invariant-loop-sector : goal.invariant-loop-sector
invariant-loop-sector l = l.sectors.items ≡ replicate l._sector zero_sector
