-- What a disk exposes, and what its calls make of that.
use Rattle.std.specs.Prelude.{◌≡◌, ℕ, zero, suc, ◌+◌, ◌<◌, ◌≤◌, ◌⊎◌, Bool, List, Option, Some, None, Result, Ok, Err, length, replicate, slice_get, slice_set}
use Rattle.blk_io.specs.Outside.{Rose}
use Rattle.blk_io.specs.declared.disk.AttachStop.{AttachStop}
use Rattle.blk_io.specs.declared.disk.AttachStop.TheVariants as attach_stop

-- which image is attached, whether it may be written, and its whole number of sectors
pub record Attachment : Type 0 where
  pub name : List ℕ
  pub writable : Bool
  pub sectors : ℕ

-- what a disk exposes: what is attached to it; the words of each sector, and of each sector in stable storage, where it exposes them; how often it failed
pub record DiskSeen : Type 0 where
  pub attachment : Option Attachment
  pub content : Option (List (List ℕ))
  pub stable : Option (List (List ℕ))
  pub faults : ℕ

-- the number of sectors attached
abbrev pub sectors_of : Option Attachment → Option ℕ
sectors_of None = None
sectors_of (Some a) = Some a.sectors

abbrev pub attached_of : DiskSeen → Option ℕ
attached_of a = sectors_of a.attachment

-- a sector of the attached disk
abbrev pub IsIn : Option ℕ → ℕ → Type 0
IsIn None sector = ⊥
IsIn (Some sectors) sector = sector < sectors

-- sectors of the attached disk
abbrev pub AreIn : Option ℕ → ℕ → ℕ → Type 0
AreIn None sector count = ⊥
AreIn (Some sectors) sector count = sector + count ≤ sectors

-- a disk that exposes its sectors holds this many
abbrev pub HasLength : Option (List (List ℕ)) → ℕ → Type 0
HasLength None sectors = Unit {0}
HasLength (Some content) sectors = length content ≡ sectors

-- where the disk exposes it, the sector has these words
abbrev pub IsSectorOf : Option (List (List ℕ)) → ℕ → List ℕ → Type 0
IsSectorOf None sector words = Unit {0}
IsSectorOf (Some content) sector words = slice_get content sector ≡ Some words

-- the sectors with one of them set
abbrev pub with_sector : Option (List (List ℕ)) → ℕ → List ℕ → Option (List (List ℕ))
with_sector None sector words = None
with_sector (Some content) sector words = Some (slice_set content sector words)

-- a sector of zeros
abbrev pub zero_sector : List ℕ
zero_sector = replicate 128 0

-- the sectors with `count` of them set to zeros, one after another
abbrev pub zeroed : List (List ℕ) → ℕ → ℕ → List (List ℕ)
zeroed content sector zero = content
zeroed content sector (suc count) = slice_set (zeroed content sector count) (sector + count) zero_sector

-- the sectors with `count` of them zeros
abbrev pub with_zeros : Option (List (List ℕ)) → ℕ → ℕ → Option (List (List ℕ))
with_zeros None sector count = None
with_zeros (Some content) sector count = Some (zeroed content sector count)

-- as many sectors as before, all but `count` of them the same
abbrev pub SameBut : ℕ → ℕ → Option (List (List ℕ)) → Option (List (List ℕ)) → Type 0
SameBut sector count None after = after ≡ None
SameBut sector count (Some before) None = ⊥
SameBut sector count (Some before) (Some after) =
    (length after ≡ length before) × ((i : ℕ) → ((i < sector) ⊎ (sector + count ≤ i)) → slice_get after i ≡ slice_get before i)

-- a call failed at these sectors: they may hold anything, and all others are as before
pub record FailsAt (sector count : ℕ) (a b : DiskSeen) : Type 0 where
  pub attachment : b.attachment ≡ a.attachment
  pub content : SameBut sector count a.content b.content
  pub stable : SameBut sector count a.stable b.stable
  pub rose : Rose a.faults b.faults

-- a call failed, and changed nothing else
pub record Fails (a b : DiskSeen) : Type 0 where
  pub attachment : b.attachment ≡ a.attachment
  pub content : b.content ≡ a.content
  pub stable : b.stable ≡ a.stable
  pub rose : Rose a.faults b.faults

-- the image of that name is attached, and what the disk holds stays
pub record IsAttached (name : List ℕ) (writable : Bool) (sectors : ℕ) (a b : DiskSeen) : Type 0 where
  pub attached : b ≡ record a { attachment = Some (record { name = name; writable = writable; sectors = sectors }) }
  pub sized : HasLength a.content sectors

-- an image is attached; where there is no memory, nothing is done
abbrev pub Attaches : List ℕ → Bool → Result ℕ AttachStop → DiskSeen → DiskSeen → Type 0
Attaches name writable (Ok sectors) a b = IsAttached name writable sectors a b
Attaches name writable (Err attach_stop.Failed) a b = Fails a b
Attaches name writable (Err attach_stop.OutOfMemory) a b = b ≡ a

-- a sector is read: these words
abbrev pub ReadsSector : {E : Type 0} → ℕ → List ℕ → Result (Unit {0}) E → DiskSeen → DiskSeen → Type 0
ReadsSector sector words (Ok done) a b = IsSectorOf a.content sector words × (b ≡ a)
ReadsSector sector words (Err failed) a b = Fails a b

-- a sector is written; what is stable stays as it was
abbrev pub WritesSector : {E : Type 0} → ℕ → List ℕ → Result (Unit {0}) E → DiskSeen → DiskSeen → Type 0
WritesSector sector words (Ok done) a b = b ≡ record a { content = with_sector a.content sector words }
WritesSector sector words (Err failed) a b = FailsAt sector 1 a b

-- all that was written and trimmed so far becomes stable
abbrev pub Flushes : {E : Type 0} → Result (Unit {0}) E → DiskSeen → DiskSeen → Type 0
Flushes (Ok done) a b = b ≡ record a { stable = a.content }
Flushes (Err failed) a b = Fails a b

-- sectors are discarded, and then read as zeros
abbrev pub Trims : {E : Type 0} → ℕ → ℕ → Result (Unit {0}) E → DiskSeen → DiskSeen → Type 0
Trims sector count (Ok done) a b = b ≡ record a { content = with_zeros a.content sector count }
Trims sector count (Err failed) a b = FailsAt sector count a b
