-- Which answers an ask allows, as a test.
use Rattle.std.specs.Prelude.{ℕ, Bool, true, false, ◌&&◌, ◌==◌}
use Rattle.blk_base.specs.declared.parts.Mapping.{Mapping}
use Rattle.blk_base.specs.declared.parts.Mode.{Mode}
use Rattle.blk_base.specs.declared.parts.Mode.TheVariants.{ReadOnly, ReadWrite}
use Rattle.blk_base.specs.declared.ask.BackAsk.{BackAsk}
use Rattle.blk_base.specs.declared.ask.BackAsk.TheVariants as ask
use Rattle.blk_base.specs.declared.ask.BackAnswer.{BackAnswer}
use Rattle.blk_base.specs.declared.ask.BackAnswer.TheVariants.{Event, Watched, Done, Word, Mapped, MapRefused, BindRefused, Key, Sector, DiskFailed}
use Rattle.blk_base.specs.declared.ask.FrontAsk.{FrontAsk}
use Rattle.blk_base.specs.declared.ask.FrontAsk.TheVariants as front_ask
use Rattle.blk_base.specs.declared.ask.FrontAnswer.{FrontAnswer}
use Rattle.blk_base.specs.declared.ask.FrontAnswer.TheVariants as given

abbrev pub is_same_mode : Mode → Mode → Bool
is_same_mode ReadOnly ReadOnly = true
is_same_mode ReadWrite ReadWrite = true
is_same_mode a b = false

-- a mapping is one of this reference, made in this mode
abbrev pub is_of : Mapping → ℕ → Mode → Bool
is_of m gref mode = (m.gref == gref) && is_same_mode m.mode mode

-- what the back and its jobs both ask: words, and frames to be mapped and unmapped
abbrev pub memory_allows : BackAsk → BackAnswer → Bool
memory_allows (ask.Read m word) (Word value) = true
memory_allows (ask.Write m word value) Done = true
memory_allows (ask.Map gref mode) (Mapped m) = is_of m gref mode
memory_allows (ask.Map gref mode) (MapRefused status) = true
memory_allows (ask.Unmap m) Done = true
memory_allows a answer = false

abbrev pub back_allows : BackAsk → BackAnswer → Bool
back_allows ask.Wait Event = true
back_allows ask.Wait (Watched path) = true
back_allows ask.Fence Done = true
back_allows (ask.Bind port) Done = true
back_allows (ask.Bind port) BindRefused = true
back_allows ask.Send Done = true
back_allows ask.ClosePort Done = true
back_allows (ask.GetKey path) (Key text) = true
back_allows (ask.SetKey path text) Done = true
back_allows (ask.Watch path) Done = true
back_allows a answer = memory_allows a answer

abbrev pub job_allows : BackAsk → BackAnswer → Bool
job_allows (ask.DiskRead sector) (Sector words) = true
job_allows (ask.DiskRead sector) DiskFailed = true
job_allows (ask.DiskWrite sector words) Done = true
job_allows (ask.DiskWrite sector words) DiskFailed = true
job_allows ask.Flush Done = true
job_allows ask.Flush DiskFailed = true
job_allows (ask.Trim sector count) Done = true
job_allows (ask.Trim sector count) DiskFailed = true
job_allows a answer = memory_allows a answer

abbrev pub front_allows : FrontAsk → FrontAnswer → Bool
front_allows front_ask.Wait given.Event = true
front_allows front_ask.Wait (given.Watched path) = true
front_allows front_ask.Fence given.Done = true
front_allows (front_ask.Read frame word) (given.Word value) = true
front_allows (front_ask.Write frame word value) given.Done = true
front_allows (front_ask.Cas frame word old new) (given.Word seen) = true
front_allows front_ask.NewPort (given.Port port) = true
front_allows front_ask.Send given.Done = true
front_allows front_ask.ClosePort given.Done = true
front_allows (front_ask.GetKey path) (given.Key text) = true
front_allows (front_ask.SetKey path text) given.Done = true
front_allows (front_ask.Watch path) given.Done = true
front_allows a answer = false
