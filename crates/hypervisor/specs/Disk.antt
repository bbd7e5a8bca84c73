-- What an ask with an outcome makes of the disk: exactly the call that it asks for, with the outcome that the call answered, or no call.
use Rattle.std.specs.Prelude.{◌≡◌, ℕ, List, [], Ok, Err}
use Rattle.blk_base.specs.declared.ask.BackAsk.{BackAsk}
use Rattle.blk_base.specs.declared.ask.BackAsk.TheVariants as back_ask
use Rattle.blk_io.specs.Disk.{DiskSeen, ReadsSector, WritesSector, Flushes, Trims}
use Rattle.hypervisor.specs.Act.{Outcome, Gave, Took, Failed}

-- a sector was read, and its words were given
abbrev pub DiskReads : ℕ → Outcome → DiskSeen → DiskSeen → Type 0
DiskReads sector (Gave words) a b = ReadsSector {E = Unit {0}} sector words (Ok tt) a b
DiskReads sector Took a b = ⊥
DiskReads sector Failed a b = ReadsSector {E = Unit {0}} sector [] (Err tt) a b

-- a sector was written
abbrev pub DiskWrites : ℕ → List ℕ → Outcome → DiskSeen → DiskSeen → Type 0
DiskWrites sector words (Gave other) a b = ⊥
DiskWrites sector words Took a b = WritesSector {E = Unit {0}} sector words (Ok tt) a b
DiskWrites sector words Failed a b = WritesSector {E = Unit {0}} sector words (Err tt) a b

-- what was written and trimmed so far was made stable
abbrev pub DiskFlushes : Outcome → DiskSeen → DiskSeen → Type 0
DiskFlushes (Gave words) a b = ⊥
DiskFlushes Took a b = Flushes {E = Unit {0}} (Ok tt) a b
DiskFlushes Failed a b = Flushes {E = Unit {0}} (Err tt) a b

-- sectors were discarded
abbrev pub DiskTrims : ℕ → ℕ → Outcome → DiskSeen → DiskSeen → Type 0
DiskTrims sector count (Gave other) a b = ⊥
DiskTrims sector count Took a b = Trims {E = Unit {0}} sector count (Ok tt) a b
DiskTrims sector count Failed a b = Trims {E = Unit {0}} sector count (Err tt) a b

-- no call of the disk, which is as it was
abbrev pub NoCall : Outcome → DiskSeen → DiskSeen → Type 0
NoCall Took a b = b ≡ a
NoCall outcome a b = ⊥

abbrev pub DiskDoes : BackAsk → Outcome → DiskSeen → DiskSeen → Type 0
DiskDoes (back_ask.DiskRead sector) outcome a b = DiskReads sector outcome a b
DiskDoes (back_ask.DiskWrite sector words) outcome a b = DiskWrites sector words outcome a b
DiskDoes back_ask.Flush outcome a b = DiskFlushes outcome a b
DiskDoes (back_ask.Trim sector count) outcome a b = DiskTrims sector count outcome a b
DiskDoes ask outcome a b = NoCall outcome a b
