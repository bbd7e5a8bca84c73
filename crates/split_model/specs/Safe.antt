-- What is true of the machine at every moment, so that each ask of an end may be carried out.
use Rattle.std.specs.Prelude.{◌≡◌, ℕ, ◌<◌, ◌≤◌, ◌==◌, nat_lt, List, [], length, count_by, None, All}
use Rattle.blk_base.specs.declared.parts.Mapping.{Mapping}
use Rattle.grant_table.specs.declared.held.Held.{Held}
use Rattle.grant_table.specs.Table.{GrantTable, IsLive}
use Rattle.grant_table.specs.Sound.{IsAscending}
use Rattle.event_channel.specs.Channels.{ChannelState}
use Rattle.blk_front.specs.declared.stage.FrontStage.{FrontStage}
use Rattle.blk_front.specs.declared.stage.FrontStage.TheVariants as stage
use Rattle.back_jobs.specs.Work.{Work}
use Rattle.blk_back.specs.View.{View}
use Rattle.blk_back.specs.Hands.{hands_of}
use Rattle.split_model.specs.World.{World}

-- the mappings that live are those that the back and its jobs hold, each held once
pub record AreHeld (table : GrantTable) (hands : List Mapping) : Type 0 where
  pub live : All (IsLive table) hands
  pub counted : (number : ℕ) → count_by (λ (m : Mapping). m.number == number) hands ≡ count_by (λ (h : Held). h.mapping.number == number) table.live
  pub as_many : length table.live ≡ length hands
  pub ascending : IsAscending 0 table.live
  pub made_before : All (λ (h : Held). h.mapping.number ≤ table.made) table.live

-- none of this epoch is made, and one may be
abbrev pub HasNoPort : ChannelState → Type 0
HasNoPort c = (c.made < 4294967295) × (c.ports ≡ [])

-- before the front made its port in this epoch there is none
abbrev pub IsPorted : FrontStage → ChannelState → Type 0
IsPorted (stage.LeftData n) c = HasNoPort c
IsPorted (stage.RingWord k) c = HasNoPort c
IsPorted (stage.RingFrame page) c = HasNoPort c
IsPorted (stage.RingFence page) c = HasNoPort c
IsPorted (stage.RingFlags page) c = HasNoPort c
IsPorted stage.NewPort c = HasNoPort c
IsPorted s c = Unit {0}

-- how many ports the front is still to make in this epoch
abbrev pub due_at : FrontStage → ℕ
due_at (stage.LeftData n) = 1
due_at (stage.RingWord k) = 1
due_at (stage.RingFrame page) = 1
due_at (stage.RingFence page) = 1
due_at (stage.RingFlags page) = 1
due_at stage.NewPort = 1
due_at s = 0

abbrev pub ports_due : World → ℕ
ports_due w = due_at w.front.stage

pub record IsSafe (w : World) : Type 0 where
  pub ported : IsPorted w.front.stage w.under.channels
  pub held : AreHeld w.under.grants (hands_of w.back)
  pub front_told : w.front.told ≡ None
  pub back_told : w.back.told ≡ None

-- how many of the back's jobs have a number above this one
abbrev pub above : ℕ → View → ℕ
above number v = count_by (λ (t : Work). nat_lt number t.number) v.jobs.works
