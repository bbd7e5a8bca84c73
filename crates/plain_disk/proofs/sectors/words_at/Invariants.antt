use Rattle.std.proofs.Common.{◌≡◌, fold, take, slice_get}
use Rattle.std.specs.Prelude.{option_map}
use Rattle.plain_disk.specs.Sector.{changed, sector_first, only}
use Rattle.plain_disk.proofs.sectors.words_at.Given as goal

-- what the sector holds after the changes so far
abbrev pub invariant-loop-change : goal.invariant-loop-change
invariant-loop-change l = (fold (changed l.sector) (sector_first (slice_get l.first l.sector)) (take l.change-index l.changes)).own ≡ option_map only l.words
