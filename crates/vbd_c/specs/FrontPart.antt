-- Words of a sector that the front moves many at once, and what a call that answers for them makes of it.
use Rattle.std.specs.Prelude.{◌≡◌, ℕ, Bool, false, ◌&&◌, List, length, Option, Some, None, is_some, is_none, unwrap_or, if◌then◌else◌, ◌==◌, nat_le}
use Rattle.std.specs.List.{fold}
use Rattle.blk_base.specs.declared.ask.FrontAnswer.{FrontAnswer}
use Rattle.blk_front.specs.declared.sector_part.SectorPart.{SectorPart}
use Rattle.blk_front.specs.Part.{HasWritten, HasRead, all_written, all_read}
use Rattle.vbd_front.specs.Part.{sector_part}
use Rattle.vbd_front.specs.Keep.{KeepingView, steps_as, AreTellableAs}
use Rattle.vbd_c.specs.declared.front_part.SectorPartNumbers.{SectorPartNumbers}
use Rattle.vbd_c.specs.declared.status.Status.{Status}
use Rattle.vbd_c.specs.declared.status.Status.TheVariants as status
use Rattle.vbd_c.specs.FrontMove.{has_told, told_status, answered}

-- a part as the numbers that C reads
abbrev pub writes_of : Option ℕ → ℕ
writes_of None = 0
writes_of (Some value) = 1

abbrev pub numbers_of : SectorPart → SectorPartNumbers
numbers_of p = record { id = p.id; index = p.index; frame = p.frame; word = p.word; count = p.count; value = unwrap_or p.value 0; writes = writes_of p.value }

-- the part again
abbrev pub part_of : SectorPartNumbers → SectorPart
part_of n = record { id = n.id; index = n.index; frame = n.frame; word = n.word; count = n.count; value = if n.writes == 1 then Some n.value else None }

-- so many words or more are written next, or read
abbrev pub has_written : Option SectorPart → ℕ → Bool
has_written None count = false
has_written (Some p) count = is_some p.value && nat_le count p.count

abbrev pub has_read : Option SectorPart → ℕ → Bool
has_read None count = false
has_read (Some p) count = is_none p.value && nat_le count p.count

-- then they are as many single answers, one after another, where nothing is left to tell; else nothing changes
abbrev pub moved : Bool → KeepingView → List FrontAnswer → KeepingView
moved has v answers = if has_told v then v else (if has then fold answered v answers else v)

abbrev pub moved_status : Bool → KeepingView → List FrontAnswer → Status
moved_status has v answers = if has_told v then status.Untold else (if has then told_status (fold answered v answers) else status.NotAllowed)

-- so many words were written, and these were read
abbrev pub part_written : KeepingView → ℕ → KeepingView
part_written v count = moved (has_written (sector_part v.ends) count) v (all_written count)

abbrev pub written_status : KeepingView → ℕ → Status
written_status v count = moved_status (has_written (sector_part v.ends) count) v (all_written count)

abbrev pub part_read : KeepingView → List ℕ → KeepingView
part_read v words = moved (has_read (sector_part v.ends) (length words)) v (all_read words)

abbrev pub read_status : KeepingView → List ℕ → Status
read_status v words = moved_status (has_read (sector_part v.ends) (length words)) v (all_read words)

-- in the words of the front: what isn't asked for changes nothing, and what is, where nothing is left to tell, is one move with each answer in turn
pub record IsMoved (asked : Type 0) (v : KeepingView) (answers : List FrontAnswer) (after : KeepingView) : Type 0 where
  pub refused : ¬ asked → after ≡ v
  pub each : has_told v ≡ false → asked → AreTellableAs v answers
  pub taken : has_told v ≡ false → asked → after ≡ steps_as v answers

-- the words of a front that may not be there; its numbers are written where there are any
abbrev pub part_in : Option KeepingView → Option SectorPart
part_in None = None
part_in (Some v) = sector_part v.ends

abbrev pub part_numbers : Option SectorPart → SectorPartNumbers → SectorPartNumbers
part_numbers None before = before
part_numbers (Some p) before = numbers_of p

-- what the calls make of it, and say
abbrev pub written_in : Option KeepingView → ℕ → Option KeepingView
written_in None count = None
written_in (Some v) count = Some (part_written v count)

abbrev pub written_status_in : Option KeepingView → ℕ → Status
written_status_in None count = status.Empty
written_status_in (Some v) count = written_status v count

abbrev pub read_in : Option KeepingView → List ℕ → Option KeepingView
read_in None words = None
read_in (Some v) words = Some (part_read v words)

abbrev pub read_status_in : Option KeepingView → List ℕ → Status
read_status_in None words = status.Empty
read_status_in (Some v) words = read_status v words

-- the same in the words of the front
abbrev pub WrittenAs : Option KeepingView → ℕ → Option KeepingView → Type 0
WrittenAs None count after = after ≡ None
WrittenAs (Some v) count None = ⊥
WrittenAs (Some v) count (Some after) = IsMoved (HasWritten (sector_part v.ends) count) v (all_written count) after

abbrev pub ReadAs : Option KeepingView → List ℕ → Option KeepingView → Type 0
ReadAs None words after = after ≡ None
ReadAs (Some v) words None = ⊥
ReadAs (Some v) words (Some after) = IsMoved (HasRead (sector_part v.ends) (length words)) v (all_read words) after
