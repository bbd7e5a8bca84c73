-- What is true of every grant table: numbers ascend, frames are grantable, and the counts are those of the live mappings.
use Rattle.std.specs.Prelude.{◌≡◌, ℕ, ◌<◌, ◌≤◌, List, [], ◌∷◌, length, slice_index, slice_index_or, Some, All}
use Rattle.std.specs.List.{remove}
use Rattle.blk_base.specs.declared.parts.Mapping.{Mapping}
use Rattle.blk_base.specs.declared.parts.Mode.TheVariants.{ReadOnly}
use Rattle.grant_table.specs.declared.held.Held.{Held}
use Rattle.grant_table.specs.Table.{held_of, without, mappings_of, writers_of}

-- the numbers ascend, from above low on
abbrev pub IsAscending : ℕ → List Held → Type 0
IsAscending low [] = Unit {0}
IsAscending low (held ∷ others) = (low < held.mapping.number) × IsAscending held.mapping.number others

-- the mapping is of a reference of the table, and its frame is one that may be granted
pub record IsGrantable (held : Held) : Type 0 where
  pub reference : held.mapping.gref < 1024
  pub low : 2 ≤ held.frame
  pub high : held.frame ≤ 1023

abbrev pub nothing_held : Held
nothing_held = record { mapping = record { number = 0; gref = 0; mode = ReadOnly }; frame = 0 }

-- the live mapping of that number stands at that place, and at no other
pub record IsPlace (live : List Held) (number place : ℕ) : Type 0 where
  pub within : place < length live
  pub found : held_of number live ≡ Some (slice_index_or live place nothing_held)
  pub others : without number live ≡ remove live place

-- it is that mapping
pub record IsPlaceOf (live : List Held) (mapping : Mapping) (place : ℕ) : Type 0 where
  pub is_place : IsPlace live mapping.number place
  pub here : (let held = slice_index_or live place nothing_held in held.mapping ≡ mapping)

pub record IsSound (made : ℕ) (live : List Held) (room : ℕ) (mappings writers : List ℕ) : Type 0 where
  pub ascending : IsAscending 0 live
  pub made_before : All (λ held. held.mapping.number ≤ made) live
  pub grantable : All IsGrantable live
  pub has_room : 8192 ≤ room
  pub mappings_len : length mappings ≡ 1024
  pub writers_len : length writers ≡ 1024
  pub mappings_counted : (gref : ℕ) → gref < 1024 → slice_index mappings gref ≡ mappings_of gref live
  pub writers_counted : (gref : ℕ) → gref < 1024 → slice_index writers gref ≡ writers_of gref live
