-- What a host gives, as the answer to an ask.
use Rattle.std.specs.Prelude.{◌≡◌, ℕ, ◌<◌, ℤ, List, Option, Some, None, Result, Ok, Err}
use Rattle.blk_base.specs.declared.parts.Mode.{Mode}
use Rattle.blk_base.specs.declared.parts.Mode.TheVariants.{ReadWrite}
use Rattle.blk_base.specs.declared.ask.BackAsk.{BackAsk}
use Rattle.blk_base.specs.declared.ask.BackAsk.TheVariants as ask
use Rattle.blk_base.specs.declared.ask.BackAnswer.{BackAnswer}
use Rattle.blk_base.specs.declared.ask.BackAnswer.TheVariants.{Event, Watched, Done, Mapped, MapRefused, BindRefused, Sector, DiskFailed}
use Rattle.vbd_host.specs.declared.woken.Woken.{Woken}
use Rattle.vbd_host.specs.declared.woken.Woken.TheVariants as woken

-- a word that is to be read or written is one of a page, and is written through a mapping for writing
abbrev pub IsWithin : BackAsk → Type 0
IsWithin (ask.Read m word) = word < 1024
IsWithin (ask.Write m word value) = (m.mode ≡ ReadWrite) × (word < 1024)
IsWithin a = Unit {0}

-- what wakes a back, if anything came
abbrev pub woken_answer : Option Woken → Option BackAnswer
woken_answer None = None
woken_answer (Some woken.Event) = Some Event
woken_answer (Some (woken.Watched path)) = Some (Watched path)

-- the mapping of that number, of the reference and the mode that were asked for; or the status of the refusal
abbrev pub map_answer : (gref : ℕ) → Mode → Result ℕ ℤ → BackAnswer
map_answer gref mode (Ok number) = Mapped (record { number = number; gref = gref; mode = mode })
map_answer gref mode (Err status) = MapRefused status

abbrev pub bind_answer : {E : Type 0} → Result (Unit {0}) E → BackAnswer
bind_answer (Ok done) = Done
bind_answer (Err refused) = BindRefused

abbrev pub disk_answer : {E : Type 0} → Result (Unit {0}) E → BackAnswer
disk_answer (Ok done) = Done
disk_answer (Err failed) = DiskFailed

-- these words, where they were read
abbrev pub sector_answer : {E : Type 0} → List ℕ → Result (Unit {0}) E → BackAnswer
sector_answer words (Ok done) = Sector words
sector_answer words (Err failed) = DiskFailed

-- neither a word nor a frame to be mapped or unmapped is asked for
abbrev pub IsNoMemory : BackAsk → Type 0
IsNoMemory (ask.Read m word) = ⊥
IsNoMemory (ask.Write m word value) = ⊥
IsNoMemory (ask.Map gref mode) = ⊥
IsNoMemory (ask.Unmap m) = ⊥
IsNoMemory a = Unit {0}

-- nothing of xenstore is asked for
abbrev pub IsNoKey : BackAsk → Type 0
IsNoKey (ask.GetKey path) = ⊥
IsNoKey (ask.SetKey path text) = ⊥
IsNoKey (ask.Watch path) = ⊥
IsNoKey a = Unit {0}

-- what isn't done for the back: it waits, or that is for a job to ask
abbrev pub IsLeft : BackAsk → Type 0
IsLeft ask.Wait = Unit {0}
IsLeft (ask.DiskRead sector) = Unit {0}
IsLeft (ask.DiskWrite sector words) = Unit {0}
IsLeft ask.Flush = Unit {0}
IsLeft (ask.Trim sector count) = Unit {0}
IsLeft a = ⊥

-- what isn't done for a job: it waits, or that is for the back to ask
abbrev pub IsLeftToJob : BackAsk → Type 0
IsLeftToJob (ask.DiskRead sector) = ⊥
IsLeftToJob (ask.DiskWrite sector words) = ⊥
IsLeftToJob ask.Flush = ⊥
IsLeftToJob (ask.Trim sector count) = ⊥
IsLeftToJob a = IsNoMemory a
