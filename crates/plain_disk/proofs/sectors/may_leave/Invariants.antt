use Rattle.std.proofs.Common.{◌≡◌, fold, take, slice_get}
use Rattle.std.specs.Prelude.{option_map}
use Rattle.plain_disk.specs.Sector.{changed, sector_first, only, may_hold}
use Rattle.plain_disk.proofs.sectors.may_leave.Given as goal

-- what the sector holds after the changes so far, and whether a loss may leave these words in it
abbrev pub invariant-loop-change : goal.invariant-loop-change
invariant-loop-change l = record {
  own : (fold (changed l.sector) (sector_first (slice_get l.first l.sector)) (take l.change-index l.changes)).own ≡ option_map only l.own;
  left : may_hold (fold (changed l.sector) (sector_first (slice_get l.first l.sector)) (take l.change-index l.changes)).loss l.words ≡ l.left;
}
