-- What a suspend leaves under both ends.
use Rattle.std.specs.Prelude.{ℕ, List, ◌++◌, map, take, drop}
use Rattle.grant_table.specs.Table.{revoked_table}
use Rattle.event_channel.specs.Channels.{reset}
use Rattle.key_directory.specs.Directory.{fresh_directory}
use Rattle.hypervisor.specs.Hypervisor.{Hypervisor}

abbrev pub cleared : ℕ → ℕ
cleared word = 0

-- the memory with so many words at its beginning cleared
abbrev pub cleared_to : ℕ → List ℕ → List ℕ
cleared_to count pages = map cleared (take count pages) ++ drop count pages

-- the memory with every word of frames 0 and 1 cleared: the guest's grant table
abbrev pub tables_cleared : List ℕ → List ℕ
tables_cleared pages = cleared_to 2048 pages

-- Everything between the domains vanished: the guest's grants and the back's mappings, ports, events and watches, and every key but both ends' states.
abbrev pub suspended : List ℕ → Hypervisor → Hypervisor
suspended state h = record { pages = tables_cleared h.pages; grants = revoked_table h.grants; channels = reset h.channels; keys = fresh_directory state }
