-- A disk that fails at listed calls, and at no other unless the disk inside fails.
use Rattle.std.specs.Prelude.{◌≡◌, ℕ, ◌+◌, ◌%◌, ◌^◌, List, Contains}
use Rattle.blk_io.specs.Disk.{DiskSeen}
use Rattle.image_disk.specs.declared.failing.ListedCalls.{ListedCalls}
use Rattle.image_disk.specs.declared.failing.CallCounts.{CallCounts}
use Rattle.image_disk.specs.declared.failing.FailsAtCalls.{FailsAtCalls}

-- no call was made yet
abbrev pub no_calls : CallCounts
no_calls = record { attaches = 0; reads = 0; writes = 0; flushes = 0; trims = 0 }

-- the calls of a disk
pub data CallKind : Type 0 where
  Attach : CallKind
  Read : CallKind
  Write : CallKind
  Flush : CallKind
  Trim : CallKind

-- what it exposes: the disk inside, with its own count of faults
abbrev pub disk_around : {D : Type 0} → (D → DiskSeen) → FailsAtCalls D → DiskSeen
disk_around seen f = record (seen f.inside) { faults = f.faults }

-- how many calls of a kind were made
abbrev pub made_of : CallKind → CallCounts → ℕ
made_of Attach made = made.attaches
made_of Read made = made.reads
made_of Write made = made.writes
made_of Flush made = made.flushes
made_of Trim made = made.trims

-- which calls of a kind are listed
abbrev pub listed_of : CallKind → ListedCalls → List ℕ
listed_of Attach listed = listed.attaches.items
listed_of Read listed = listed.reads.items
listed_of Write listed = listed.writes.items
listed_of Flush listed = listed.flushes.items
listed_of Trim listed = listed.trims.items

-- the counts after one call more of a kind
abbrev pub counted : CallKind → CallCounts → CallCounts
counted Attach made = record made { attaches = (made.attaches + 1) % 2 ^ 64 }
counted Read made = record made { reads = (made.reads + 1) % 2 ^ 64 }
counted Write made = record made { writes = (made.writes + 1) % 2 ^ 64 }
counted Flush made = record made { flushes = (made.flushes + 1) % 2 ^ 64 }
counted Trim made = record made { trims = (made.trims + 1) % 2 ^ 64 }

-- the number of the next call of a kind is listed
abbrev pub IsNextListed : {D : Type 0} → CallKind → FailsAtCalls D → Type 0
IsNextListed kind f = Contains (listed_of kind f.listed) ((made_of kind f.made + 1) % 2 ^ 64)

-- a call was counted: a listed one failed and didn't reach the disk inside, and any other was a call of the disk inside
pub record CallsThrough {D : Type 0} (seen : D → DiskSeen) (kind : CallKind) (failed : Type 0) (inside : DiskSeen → DiskSeen → Type 0) (a b : FailsAtCalls D) : Type 0 where
  pub counted : b.made ≡ counted kind a.made
  pub listed : b.listed ≡ a.listed
  pub stopped : IsNextListed kind a → failed × (b.inside ≡ a.inside)
  pub through : (IsNextListed kind a → ⊥) → inside (seen a.inside) (seen b.inside)
