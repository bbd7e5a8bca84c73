-- What a call of the disk makes of its sectors, where the disk exposes them.
use Rattle.std.specs.Prelude.{◌≡◌, ℕ, List, Option}
use Rattle.blk_base.specs.declared.ask.BackAsk.{BackAsk}
use Rattle.blk_base.specs.declared.ask.BackAsk.TheVariants as back_ask
use Rattle.blk_io.specs.Disk.{IsSectorOf, with_sector, with_zeros, SameBut}
use Rattle.hypervisor.specs.Act.{Outcome, Gave, Took, Failed}

-- a sector was read: its words were given; or the call failed
abbrev pub SectorRead : ℕ → Outcome → Option (List (List ℕ)) → Type 0
SectorRead sector (Gave words) before = IsSectorOf before sector words
SectorRead sector Took before = ⊥
SectorRead sector Failed before = Unit {0}

-- a sector was written, or the call failed and the sector may hold anything; all others are as before
abbrev pub SectorWritten : ℕ → List ℕ → Outcome → (before after : Option (List (List ℕ))) → Type 0
SectorWritten sector words (Gave other) before after = ⊥
SectorWritten sector words Took before after = after ≡ with_sector before sector words
SectorWritten sector words Failed before after = SameBut sector 1 before after

-- sectors were discarded, or the call failed and they may hold anything
abbrev pub SectorsTrimmed : ℕ → ℕ → Outcome → (before after : Option (List (List ℕ))) → Type 0
SectorsTrimmed sector count (Gave other) before after = ⊥
SectorsTrimmed sector count Took before after = after ≡ with_zeros before sector count
SectorsTrimmed sector count Failed before after = SameBut sector count before after

-- what an ask with that outcome makes of the sectors
abbrev pub SectorsDo : BackAsk → Outcome → (before after : Option (List (List ℕ))) → Type 0
SectorsDo (back_ask.DiskRead sector) outcome before after = SectorRead sector outcome before × (after ≡ before)
SectorsDo (back_ask.DiskWrite sector words) outcome before after = SectorWritten sector words outcome before after
SectorsDo (back_ask.Trim sector count) outcome before after = SectorsTrimmed sector count outcome before after
SectorsDo ask outcome before after = Unit {0} × (after ≡ before)
