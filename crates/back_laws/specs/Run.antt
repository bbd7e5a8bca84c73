-- A run of a back alone: what it begins with, and what happened to it.
use Rattle.std.specs.Prelude.{ℕ, ◌^◌, ◌<◌, List}
use Rattle.segment_list.specs.declared.verdict.DiskInfo.{DiskInfo}
use Rattle.blk_back.specs.View.{View, new_of}
use Rattle.back_laws.specs.Happening.{Happening, after, AllMayHappen}

-- a new back, of a ring of any first index and of any disk, and any happenings
pub record BackRun : Type 0 where
  pub start : ℕ
  pub info : DiskInfo
  pub happenings : List Happening
  pub narrow : start < 2 ^ 32
  pub may : AllMayHappen happenings (new_of start info)

abbrev pub begins : BackRun → View
begins r = new_of r.start r.info

-- where it stands
abbrev pub now : BackRun → View
now r = after r.happenings (begins r)
