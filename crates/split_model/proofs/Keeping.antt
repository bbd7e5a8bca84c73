-- What stays, whatever happens: what is attached; and how many mappings one happening makes.
use Rattle.std.proofs.Common.{◌≡◌, ℕ, List, refl, ap}
use Rattle.blk_base.specs.declared.ask.BackAsk.{BackAsk}
use Rattle.blk_base.specs.declared.ask.BackAsk.TheVariants as back_ask
use Rattle.blk_io.specs.Disk.{DiskSeen}
use Rattle.blk_back.specs.Step as back_step
use Rattle.hypervisor.specs.Act.{Outcome, Gave, Took, Failed}
use Rattle.hypervisor.specs.Disk.{DiskDoes, DiskReads, DiskWrites, DiskFlushes, DiskTrims, NoCall}
use Rattle.split_model.specs.World.{World}
use Rattle.split_model.specs.Happening.{Happening, JobMoves, DiskGoes}

attachment_of : (a b : DiskSeen) → b ≡ a → b.attachment ≡ a.attachment
attachment_of a b e = ap (λ (d : DiskSeen). d.attachment) e

read_keeps : (sector : ℕ) (o : Outcome) (a b : DiskSeen) → DiskReads sector o a b → b.attachment ≡ a.attachment
read_keeps sector (Gave words) a b p = attachment_of a b p.1
read_keeps sector Took a b p = absurd p
read_keeps sector Failed a b p = p.attachment

write_keeps : (sector : ℕ) (words : List ℕ) (o : Outcome) (a b : DiskSeen) → DiskWrites sector words o a b → b.attachment ≡ a.attachment
write_keeps sector words (Gave other) a b p = absurd p
write_keeps sector words Took a b p = ap (λ (d : DiskSeen). d.attachment) p
write_keeps sector words Failed a b p = p.attachment

flush_keeps : (o : Outcome) (a b : DiskSeen) → DiskFlushes o a b → b.attachment ≡ a.attachment
flush_keeps (Gave words) a b p = absurd p
flush_keeps Took a b p = ap (λ (d : DiskSeen). d.attachment) p
flush_keeps Failed a b p = p.attachment

trim_keeps : (sector count : ℕ) (o : Outcome) (a b : DiskSeen) → DiskTrims sector count o a b → b.attachment ≡ a.attachment
trim_keeps sector count (Gave other) a b p = absurd p
trim_keeps sector count Took a b p = ap (λ (d : DiskSeen). d.attachment) p
trim_keeps sector count Failed a b p = p.attachment

-- no call of the disk: it took what wasn't asked, and is as it was
pub no_call : (o : Outcome) (a b : DiskSeen) → NoCall o a b → (o ≡ Took) × (b ≡ a)
no_call Took a b p = (refl, p)
no_call (Gave words) a b p = absurd p
no_call Failed a b p = absurd p

call_keeps : (ask : BackAsk) (o : Outcome) (a b : DiskSeen) → DiskDoes ask o a b → b.attachment ≡ a.attachment
call_keeps (back_ask.DiskRead sector) o a b p = read_keeps sector o a b p
call_keeps (back_ask.DiskWrite sector words) o a b p = write_keeps sector words o a b p
call_keeps back_ask.Flush o a b p = flush_keeps o a b p
call_keeps (back_ask.Trim sector count) o a b p = trim_keeps sector count o a b p
call_keeps ask o a b p = attachment_of a b (no_call o a b p).1

-- what is attached stays, whatever happens
pub disk_attachment : (w : World) (h : Happening) (a b : DiskSeen) → DiskGoes w h a b → b.attachment ≡ a.attachment
disk_attachment w (JobMoves number outcome) a b p = call_keeps (back_step.job_ask_of w.back number) outcome a b p
disk_attachment w h a b p = attachment_of a b p
