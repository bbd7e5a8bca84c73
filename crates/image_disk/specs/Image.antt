-- A disk in memory, as contracts see it.
use Rattle.std.specs.Prelude.{◌≡◌, ℕ, List, Option, Some, None}
use Rattle.blk_io.specs.Disk.{Attachment, DiskSeen}

-- which image is attached, the words of each sector, and those in stable storage
pub record Image : Type 0 where
  pub attachment : Option Attachment
  pub content : List (List ℕ)
  pub stable : List (List ℕ)

-- where an image is attached, it has so many sectors
abbrev pub AreAttached : Option Attachment → ℕ → Type 0
AreAttached None sectors = Unit {0}
AreAttached (Some a) sectors = a.sectors ≡ sectors

-- what it exposes: all of it, and it never fails
abbrev pub image_seen : Image → DiskSeen
image_seen d = record { attachment = d.attachment; content = Some d.content; stable = Some d.stable; faults = 0 }
