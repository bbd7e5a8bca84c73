-- The options of a ring.
use Rattle.std.specs.Prelude.{◌^◌, ◌<◌, ◌≤◌}
use Rattle.blk_base.specs.Options.{Options}

-- a ring of 1 to 16 pages, at most 960 segments in the indirect pages of a request, a disk whose sectors have numbers of 64 bits, indices of 32 bits
pub record IsPlain (config : Options) : Type 0 where
  pub order : config.order ≤ 4
  pub indirect : config.indirect ≤ 960
  pub start : config.start < 2 ^ 32
  pub sectors : config.sectors ≤ 2 ^ 64
