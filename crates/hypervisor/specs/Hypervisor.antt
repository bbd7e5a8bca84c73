-- What lies under both ends of the ring.
use Rattle.std.specs.Prelude.{ℕ, List, codes}
use Rattle.xen_pages.specs.Pages.{zero_words}
use Rattle.grant_table.specs.Table.{GrantTable, fresh_table}
use Rattle.event_channel.specs.Channels.{ChannelState, fresh_channels}
use Rattle.key_directory.specs.Directory.{Directory, fresh_directory}

-- the words of memory; the back's mappings; the ports and the ends' pending events; the keys and both ends' watches
pub record Hypervisor : Type 0 where
  pub pages : List ℕ
  pub grants : GrantTable
  pub channels : ChannelState
  pub keys : Directory

-- at the start: 1088 frames of words of 0, nothing is mapped, made or pending, and both ends' states are 1
abbrev pub fresh : Hypervisor
fresh = record { pages = zero_words 1114112; grants = fresh_table; channels = fresh_channels; keys = fresh_directory (codes "1") }
