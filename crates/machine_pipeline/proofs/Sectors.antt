-- What happens to the sectors of a disk, where it exposes them, by what happens to the disk.
use Rattle.std.proofs.Common.{◌≡◌, ℕ, List, [], ◌∷◌, ap}
use Rattle.std.specs.Prelude.{Option}
use Rattle.blk_base.specs.declared.ask.BackAsk.{BackAsk}
use Rattle.blk_base.specs.declared.ask.BackAsk.TheVariants as back_ask
use Rattle.blk_io.specs.Disk.{DiskSeen}
use Rattle.blk_back.specs.Step.{job_ask_of}
use Rattle.hypervisor.specs.Act.{Outcome, Gave, Took, Failed}
use Rattle.hypervisor.specs.Disk.{DiskDoes, DiskReads, DiskWrites, DiskFlushes, DiskTrims}
use Rattle.split_model.specs.World.{World}
use Rattle.split_model.specs.Happening.{Happening, JobMoves, happens, DiskGoes, DiskRuns}
use Rattle.split_model.proofs.Keeping.{no_call}
use Rattle.machine_pipeline.specs.Sectors.{SectorRead, SectorWritten, SectorsTrimmed, SectorsDo}

abbrev pub SectorsGo : World → Happening → (before after : Option (List (List ℕ))) → Type 0
SectorsGo w (JobMoves number outcome) before after = SectorsDo (job_ask_of w.back number) outcome before after
SectorsGo w h before after = after ≡ before

abbrev pub SectorsRun : List Happening → World → (before after : Option (List (List ℕ))) → Type 0
SectorsRun [] w before after = after ≡ before
SectorsRun (h ∷ hs) w before after =
    (between : Option (List (List ℕ))) × SectorsGo w h before between × SectorsRun hs (happens w h) between after

same_content : (a b : DiskSeen) → b ≡ a → b.content ≡ a.content
same_content a b e = ap (λ (d : DiskSeen). d.content) e

reads : (sector : ℕ) (o : Outcome) (a b : DiskSeen) → DiskReads sector o a b → SectorRead sector o a.content × (b.content ≡ a.content)
reads sector (Gave words) a b p = (p.0, same_content a b p.1)
reads sector Took a b p = absurd p
reads sector Failed a b p = (tt, p.content)

writes : (sector : ℕ) (words : List ℕ) (o : Outcome) (a b : DiskSeen) → DiskWrites sector words o a b → SectorWritten sector words o a.content b.content
writes sector words (Gave other) a b p = absurd p
writes sector words Took a b p = ap (λ (d : DiskSeen). d.content) p
writes sector words Failed a b p = p.content

flushes : (o : Outcome) (a b : DiskSeen) → DiskFlushes o a b → Unit {0} × (b.content ≡ a.content)
flushes (Gave words) a b p = absurd p
flushes Took a b p = (tt, ap (λ (d : DiskSeen). d.content) p)
flushes Failed a b p = (tt, p.content)

trims : (sector count : ℕ) (o : Outcome) (a b : DiskSeen) → DiskTrims sector count o a b → SectorsTrimmed sector count o a.content b.content
trims sector count (Gave other) a b p = absurd p
trims sector count Took a b p = ap (λ (d : DiskSeen). d.content) p
trims sector count Failed a b p = p.content

sectors_do : (ask : BackAsk) (o : Outcome) (a b : DiskSeen) → DiskDoes ask o a b → SectorsDo ask o a.content b.content
sectors_do (back_ask.DiskRead sector) o a b p = reads sector o a b p
sectors_do (back_ask.DiskWrite sector words) o a b p = writes sector words o a b p
sectors_do back_ask.Flush o a b p = flushes o a b p
sectors_do (back_ask.Trim sector count) o a b p = trims sector count o a b p
sectors_do ask o a b p = (tt, same_content a b (no_call o a b p).1)

sectors_go : (w : World) (h : Happening) (a b : DiskSeen) → DiskGoes w h a b → SectorsGo w h a.content b.content
sectors_go w (JobMoves number outcome) a b p = sectors_do (job_ask_of w.back number) outcome a b p
sectors_go w h a b p = same_content a b p

-- whatever the disk does, its sectors go along
pub sectors_run : (hs : List Happening) (w : World) (a b : DiskSeen) → DiskRuns hs w a b → SectorsRun hs w a.content b.content
sectors_run [] w a b p = same_content a b p
sectors_run (h ∷ hs) w a b p = (p.0.content, sectors_go w h a p.0 p.1, sectors_run hs (happens w h) p.0 b p.2)
