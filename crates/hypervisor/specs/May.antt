-- What may be asked: words of memory that are there, mappings that live, sectors of the disk.
use Rattle.std.specs.Prelude.{◌≡◌, ◌≢◌, ℕ, ◌+◌, ◌^◌, ◌<◌, length, Option, Some, None, IfSome}
use Rattle.blk_base.specs.declared.parts.Mapping.{Mapping}
use Rattle.blk_base.specs.declared.parts.Mode.TheVariants.{ReadWrite}
use Rattle.blk_base.specs.declared.ask.FrontAsk.{FrontAsk}
use Rattle.blk_base.specs.declared.ask.FrontAsk.TheVariants as front_ask
use Rattle.blk_base.specs.declared.ask.BackAsk.{BackAsk}
use Rattle.blk_base.specs.declared.ask.BackAsk.TheVariants as back_ask
use Rattle.blk_base.specs.declared.ask.BackAnswer.{BackAnswer}
use Rattle.blk_base.specs.declared.ask.BackAnswer.TheVariants as back_answer
use Rattle.blk_io.specs.Disk.{IsIn, AreIn}
use Rattle.grant_table.specs.Table.{GrantTable, IsLive}
use Rattle.event_channel.specs.Channels.{ChannelState}
use Rattle.hypervisor.specs.Hypervisor.{Hypervisor}

-- a word of the guest's memory
abbrev pub IsPlace : ℕ → ℕ → Type 0
IsPlace frame word = (frame < 1018) × (word < 1024)

-- another port may be made
abbrev pub HasPortLeft : ChannelState → Type 0
HasPortLeft c = (c.made < 4294967295) × (length c.ports < 4)

-- another mapping may be made
abbrev pub HasMappingLeft : GrantTable → Type 0
HasMappingLeft table = (table.made + 1 < 2 ^ 64) × (length table.live < 8192)

-- what the front may ask
abbrev pub FrontMay : Hypervisor → FrontAsk → Type 0
FrontMay h (front_ask.Read frame word) = IsPlace frame word
FrontMay h (front_ask.Write frame word value) = IsPlace frame word
FrontMay h (front_ask.Cas frame word old new) = IsPlace frame word
FrontMay h front_ask.NewPort = HasPortLeft h.channels
FrontMay h ask = Unit {0}

-- what the back and its jobs may ask, with a disk of so many sectors
abbrev pub BackMay : Hypervisor → Option ℕ → BackAsk → Type 0
BackMay h attached (back_ask.Read m word) = IsLive h.grants m × (word < 1024)
BackMay h attached (back_ask.Write m word value) = IsLive h.grants m × (m.mode ≡ ReadWrite) × (word < 1024)
BackMay h attached (back_ask.Map gref mode) = HasMappingLeft h.grants
BackMay h attached (back_ask.Unmap m) = IsLive h.grants m
BackMay h attached (back_ask.DiskRead sector) = IsIn attached sector
BackMay h attached (back_ask.DiskWrite sector words) = IsIn attached sector
BackMay h attached back_ask.Flush = attached ≢ None
BackMay h attached (back_ask.Trim sector count) = AreIn attached sector count
BackMay h attached ask = Unit {0}

-- an ask that may lack memory: a key's text is kept, and a watch is
abbrev pub FrontTakesMemory : FrontAsk → Type 0
FrontTakesMemory (front_ask.SetKey path text) = Unit {0}
FrontTakesMemory (front_ask.Watch path) = Unit {0}
FrontTakesMemory ask = ⊥

abbrev pub BackTakesMemory : BackAsk → Type 0
BackTakesMemory (back_ask.SetKey path text) = Unit {0}
BackTakesMemory (back_ask.Watch path) = Unit {0}
BackTakesMemory ask = ⊥

-- an ask that is neither a word, a fence nor a wait
abbrev pub IsCall : BackAsk → Type 0
IsCall back_ask.Wait = ⊥
IsCall back_ask.Fence = ⊥
IsCall (back_ask.Read m word) = ⊥
IsCall (back_ask.Write m word value) = ⊥
IsCall ask = Unit {0}

-- the mapping whose frame is in a move as a report shows it
abbrev pub mapping_shown : BackAsk → BackAnswer → Option Mapping
mapping_shown (back_ask.Read m word) (back_answer.Word value) = Some m
mapping_shown (back_ask.Write m word value) answer = Some m
mapping_shown (back_ask.Map gref mode) (back_answer.Mapped m) = Some m
mapping_shown ask answer = None

-- that mapping lives, where there is one
abbrev pub MayShow : Hypervisor → BackAsk → BackAnswer → Type 0
MayShow h ask answer = IfSome (mapping_shown ask answer) (λ (m : Mapping). IsLive h.grants m)
