-- The disk, as the options of a run give it, and what both ends published of persistent grants in this epoch (`io/blkif.h`), as the lines tell it.
use Rattle.std.specs.Prelude.{ℕ, ◌-◌, Bool, false, not, ◌&&◌, ◌==◌, nat_lt, nat_le, if◌then◌else◌, List, fold, codes, take, length, slice_index, Option, Some, None}
use Rattle.std.specs.List.{list_all}
use Rattle.std.specs.Str.{bytes_eq}
use Rattle.blk_base.specs.Options.{Options}
use Rattle.blk_base.specs.declared.moves.Mover.TheVariants as mover
use Rattle.blk_base.specs.declared.moves.Move.TheVariants as moves
use Rattle.segment_list.specs.declared.verdict.DiskInfo.{DiskInfo}
use Rattle.schedule_text.specs.declared.line.Line.{Line}
use Rattle.schedule_text.specs.declared.line.Line.TheVariants as lines
use Rattle.report_rules.specs.declared.published.Keeping.{Keeping}
use Rattle.report_rules.specs.Standing.{this_epoch}

-- the disk of the options of a run: barriers, flushes and discards are served where it may be written
abbrev pub info_of : Options → DiskInfo
info_of o = record { sectors = o.sectors; read_only = o.read_only; barrier = not o.read_only; flush = not o.read_only; discard = not o.read_only; max_indirect = o.indirect }

abbrev pub no_disk : DiskInfo
no_disk = record { sectors = 0; read_only = false; barrier = false; flush = false; discard = false; max_indirect = 0 }

abbrev pub info_told : DiskInfo → Line → DiskInfo
info_told info (lines.Begin options detail) = info_of options
info_told info line = info

-- the disk by which entries are judged: the one of the run's options alone, whatever keys are shown
abbrev pub disk_of : List Line → DiskInfo
disk_of before = fold info_told no_disk before

-- what both ends said of persistent grants in this epoch
abbrev pub kept_by : Bool → Bool → Keeping
kept_by offered asked = record { offered = offered; asked = asked }

-- the number 1, in 1 to 10 digits
abbrev pub is_one : List ℕ → Bool
is_one digits = nat_lt 0 (length digits) && nat_le (length digits) 10 && list_all (λ (d : ℕ). d == 48) (take (length digits - 1) digits) && (slice_index digits (length digits - 1) == 49)

abbrev pub says_one : Option (List ℕ) → Bool
says_one None = false
says_one (Some text) = is_one text

-- the back set its key `feature-persistent`, and read the front's (`io/blkif.h`)
abbrev pub keeping_after : Keeping → Line → Keeping
keeping_after s (lines.Move (moves.SetKey mover.Back path text)) = if bytes_eq path (codes "/local/domain/0/backend/vbd/1/51712/feature-persistent") then kept_by (is_one text) s.asked else s
keeping_after s (lines.Move (moves.GetKey mover.Back path text)) = if bytes_eq path (codes "/local/domain/1/device/vbd/51712/feature-persistent") then kept_by s.offered (says_one text) else s
keeping_after s line = s

abbrev pub is_kept : Keeping → Bool
is_kept s = s.offered && s.asked

-- grants are persistent in this epoch: both ends published 1
abbrev pub is_persistent : List Line → Bool
is_persistent before = is_kept (fold keeping_after (kept_by false false) (this_epoch before))
