-- The disk of the options, and what both ends published of persistent grants in this epoch (`io/blkif.h`), as a state that takes one step a line.
use Rattle.std.specs.Prelude.{Bool, false, if◌then◌else◌}
use Rattle.segment_list.specs.declared.verdict.DiskInfo.{DiskInfo}
use Rattle.schedule_text.specs.declared.line.Line.{Line}
use Rattle.report_rules.specs.declared.published.Keeping.{Keeping}
use Rattle.report_rules.specs.Standing.{is_epoch}
use Rattle.report_rules.specs.Published.{no_disk, info_told, kept_by, keeping_after, is_kept}

-- the disk of the options, and what both ends said of persistent grants
pub record Published : Type 0 where
  pub info : DiskInfo
  pub keeping : Keeping

abbrev pub nothing_published : Published
nothing_published = record { info = no_disk; keeping = kept_by false false }

-- after a line more: an epoch leaves the options alone
abbrev pub published_after : Published → Line → Published
published_after p line =
    if is_epoch line then record nothing_published { info = p.info }
    else record { info = info_told p.info line; keeping = keeping_after p.keeping line }

abbrev pub is_persistent : Published → Bool
is_persistent p = is_kept p.keeping
